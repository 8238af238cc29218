-- The search, line by line, makes the runs from the openings on.
-- Assumes nothing.
use Rattle.std.specs.Prelude.{Err, Ok, Result}
use mathlib.Core.Path.{◌≡◌, refl, sym, ◌∙◌, ap}
use mathlib.Core.Bool.{Bool, true, false, cond, ◌&&◌, not}
use mathlib.Core.List.{List, [], ◌∷◌, ◌++◌, append-nil, append_assoc}
use Prim.Native.Nat.{ℕ, suc, ◌+◌}
use native.Mathlib.Omega.{arith}
use lib.Dec.{eqb}
use lib.ListN.{length, take}
use Rattle.block_payloads.specs.Payloads.{opens}
use Rattle.base_lists.specs.Lists.{all, over}
use Rattle.base_lists.proofs.More.{contra}
use Rattle.text_lines.specs.Trim.{is_blank_line}
use Rattle.run_refused.specs.Refused.{RunTold, refused_of}
use Rattle.run_refused.specs.declared.RunReply.{RunReply}
use Rattle.run_refused.specs.declared.RunReply.TheVariants.{No, Lines, NoEnd}
use Rattle.run_endings.specs.declared.Verdict.TheVariants as verdict
use Rattle.run_endings.specs.Endings.{Ended, settled, unbroken, openings, told_by, ahead, tried_in}
use Rattle.run_endings.specs.Inner.{Back, next_or, verdict_of, tried_by, back_over, back_from, ended_by}
use Rattle.base_refusals.specs.declared.Refusal.{Refusal}

abbrev Runs : Type 0
Runs = List (List (List ℕ))

abbrev End : Result Bool Refusal → ℕ → List ℕ → Ended
End a look x = record { answer = a; lookahead = look; join = x }

-- ---- an answer tells, or leaves it to the next run

data Speaks (a : Result RunReply Refusal) (count : ℕ) : Type 0 where
  tells : (e : Result Bool Refusal) → ((again tried : Bool) → verdict_of a count again tried ≡ verdict.Told e) → ((y : List ℕ) (next : Ended) → told_by a count y next ≡ settled e y) → Speaks a count
  goes : ((again tried : Bool) → verdict_of a count again tried ≡ next_or again tried) → ((y : List ℕ) (next : Ended) → told_by a count y next ≡ next) → Speaks a count

speaks : (a : Result RunReply Refusal) (count : ℕ) → Speaks a count
speaks (Err r) count = Speaks.tells (Err r) (λ again tried. refl) (λ y next. refl)
speaks (Ok (No n)) count = Speaks.goes (λ again tried. refl) (λ y next. refl)
speaks (Ok NoEnd) count = Speaks.goes (λ again tried. refl) (λ y next. refl)
speaks (Ok (Lines n)) count = go (eqb n count) refl
  where
    go : (b : Bool) → eqb n count ≡ b → Speaks (Ok (Lines n)) count
    go true q = Speaks.tells (Ok true) (λ again tried. rw q) (λ y next. rw q)
    go false q = Speaks.goes (λ again tried. rw q) (λ y next. rw q)

-- ---- what is known behind the lines ls

-- one run was made, and a second may be
record Once (again : Bool) (buf : List ℕ) (ls : List (List ℕ)) (look : ℕ) (x : List ℕ) : Type 0 where
  m : List (List ℕ)
  twice : again ≡ true
  whole : unbroken ls ≡ true
  one : openings ls ≡ m ∷ []
  so : (more : Runs) → tried_in buf (m ∷ more) ≡ ahead look (tried_in x more)

record None (buf : List ℕ) (ls : List (List ℕ)) (look : ℕ) (x : List ℕ) : Type 0 where
  whole : unbroken ls ≡ true
  none : openings ls ≡ []
  unseen : look ≡ 0
  left : x ≡ buf

abbrev Says : Bool → List ℕ → List (List ℕ) → Back → Type 0
Says again buf ls (Back.looking false look x) = None buf ls look x
Says again buf ls (Back.looking true look x) = Once again buf ls look x
Says again buf ls (Back.told a look x) = (more : Runs) → (unbroken ls ≡ false → more ≡ []) → tried_in buf (take (cond again 2 1) (openings ls ++ more)) ≡ End a look x

and_false : (a : Bool) → (a && false) ≡ false
and_false true = refl
and_false false = refl

none_made : (again : Bool) (buf : List ℕ) → tried_in buf (take (cond again 2 1) []) ≡ settled (Ok false) buf
unfolding tried_in
none_made true buf = refl
none_made false buf = refl

none_left : (look : ℕ) (x : List ℕ) → ahead look (tried_in x []) ≡ End (Ok false) look x
unfolding tried_in
none_left look x = ap (λ n. End (Ok false) n x) (omega arith)

sum_first : (e : Result Bool Refusal) (n : ℕ) (x : List ℕ) → End e n x ≡ End e (0 + n) x
sum_first e n x = ap (λ k. End e k x) (omega arith)

module _ (buf : List ℕ) (l : List ℕ) (ls : List (List ℕ)) where
  abbrev new : Bool
  new = opens l && (not (is_blank_line l) && unbroken ls)

  abbrev added : Runs
  added = cond new ((l ∷ ls) ∷ []) []

  openings_cons : openings (l ∷ ls) ≡ openings ls ++ added
  unfolding openings all
  openings_cons = refl

  unbroken_cons : unbroken (l ∷ ls) ≡ (not (is_blank_line l) && unbroken ls)
  unfolding all
  unbroken_cons = refl

  openings-same : new ≡ false → openings (l ∷ ls) ≡ openings ls
  openings-same q = openings_cons ∙ rw q (append-nil (openings ls))

  told_on : (again : Bool) (a : Result Bool Refusal) (look : ℕ) (x : List ℕ) → Says again buf ls (Back.told a look x) → Says again buf (l ∷ ls) (Back.told a look x)
  told_on again a look x h more k =
      ap (λ z. tried_in buf (take (cond again 2 1) z)) (ap (λ z. z ++ more) openings_cons ∙ append_assoc (openings ls) added more) ∙ h (added ++ more) broken
    where
      broken : unbroken ls ≡ false → (added ++ more) ≡ []
      broken q =
          let b : (not (is_blank_line l) && unbroken ls) ≡ false = rw q (and_false (not (is_blank_line l))) in
          let n : new ≡ false = rw b (and_false (opens l)) in
          rw (n, k (unbroken_cons ∙ b))

  module _ (b : is_blank_line l ≡ true) where
    at_blank : (again tried : Bool) (look : ℕ) (x : List ℕ) → Says again buf ls (Back.looking tried look x) → Says again buf (l ∷ ls) (Back.told (Ok false) look x)
    at_blank again false look x h more k =
        let n : new ≡ false = rw b (and_false (opens l)) in
        rw (k (unbroken_cons ∙ rw b), openings-same n, h.none, h.unseen, h.left) (none_made again buf)
    at_blank again true look x h more k =
        let n : new ≡ false = rw b (and_false (opens l)) in
        rw (k (unbroken_cons ∙ rw b), openings-same n, h.one, h.twice) (h.so [] ∙ none_left look x)

  module _ (b : is_blank_line l ≡ false) where
    whole_on : unbroken ls ≡ true → unbroken (l ∷ ls) ≡ true
    whole_on w = unbroken_cons ∙ rw (b, w)

    at_other : opens l ≡ false → (again tried : Bool) (look : ℕ) (x : List ℕ) → Says again buf ls (Back.looking tried look x) → Says again buf (l ∷ ls) (Back.looking tried look x)
    at_other o again false look x h = record { whole = whole_on h.whole; none = openings-same (rw o) ∙ h.none; unseen = h.unseen; left = h.left }
    at_other o again true look x h = record { m = h.m; twice = h.twice; whole = whole_on h.whole; one = openings-same (rw o) ∙ h.one; so = h.so }

    module _ (o : opens l ≡ true) where
      openings_more : unbroken ls ≡ true → openings (l ∷ ls) ≡ openings ls ++ ((l ∷ ls) ∷ [])
      openings_more w = openings_cons ∙ rw (o, b, w)

      module _ (x : List ℕ) where
        abbrev R : RunTold
        R = refused_of (length x) (l ∷ ls)

        abbrev y : List ℕ
        y = over R.text x

        abbrev Tries : Bool → Bool → ℕ → Type 0
        Tries again tried look = Says again buf (l ∷ ls) (tried_by (verdict_of R.answer (suc (length ls)) again tried) (look + R.lookahead) y)

        made : (more : Runs) → tried_in x ((l ∷ ls) ∷ more) ≡ ahead R.lookahead (told_by R.answer (suc (length ls)) y (tried_in y more))
        unfolding tried_in
        made more = refl

        -- the run tells, whatever comes behind it
        made_tells : {e : Result Bool Refusal} → ((next : Ended) → told_by R.answer (suc (length ls)) y next ≡ settled e y) → (more : Runs) → tried_in x ((l ∷ ls) ∷ more) ≡ End e R.lookahead y
        made_tells {e} t more = made more ∙ rw (t (tried_in y more)) (ap (λ n. End e n y) (omega arith))

        made_goes : ((next : Ended) → told_by R.answer (suc (length ls)) y next ≡ next) → (more : Runs) → tried_in x ((l ∷ ls) ∷ more) ≡ ahead R.lookahead (tried_in y more)
        made_goes t more = made more ∙ rw (t (tried_in y more))

        -- the second run is the last
        second : (look : ℕ) → Once true buf ls look x → Speaks R.answer (suc (length ls)) → Tries true true look
        second look h (Speaks.tells e v t) = rw (v true true) (λ more k. rw (openings_more h.whole, h.one) (h.so ((l ∷ ls) ∷ []) ∙ ap (ahead look) (made_tells (t y) [])))
        second look h (Speaks.goes v t) = rw (v true true) (λ more k. rw (openings_more h.whole, h.one) (h.so ((l ∷ ls) ∷ []) ∙ ap (ahead look) (made_goes (t y) [] ∙ none_left R.lookahead y)))

      first : (again : Bool) → unbroken ls ≡ true → openings ls ≡ [] → Speaks (R buf).answer (suc (length ls)) → Tries buf again false 0
      first true w n (Speaks.tells e v t) = rw (v true false) (λ more k. rw (openings_more w, n) (made_tells buf (t (y buf)) (take 1 more) ∙ sum_first e (R buf).lookahead (y buf)))
      first false w n (Speaks.tells e v t) = rw (v false false) (λ more k. rw (openings_more w, n) (made_tells buf (t (y buf)) [] ∙ sum_first e (R buf).lookahead (y buf)))
      first true w n (Speaks.goes v t) = rw (v true false) (record { m = l ∷ ls; twice = refl; whole = whole_on w; one = openings_more w ∙ rw n; so = λ more. made_goes buf (t (y buf)) more ∙ ap (λ n. ahead n (tried_in (y buf) more)) (omega arith) })
      first false w n (Speaks.goes v t) = rw (v false false) (λ more k. rw (openings_more w, n) (made_goes buf (t (y buf)) [] ∙ none_left (R buf).lookahead (y buf) ∙ sum_first (Ok false) (R buf).lookahead (y buf)))

      at_opening : (again tried : Bool) (look : ℕ) (x : List ℕ) → Says again buf ls (Back.looking tried look x) → Tries x again tried look
      at_opening again false look x h = rw (h.unseen, h.left) (first again h.whole h.none (speaks (R buf).answer (suc (length ls))))
      at_opening true true look x h = second x look h (speaks (R x).answer (suc (length ls)))
      at_opening false true look x h = contra false h.twice refl

  over_line : (again : Bool) (k : Back) → Says again buf ls k → Says again buf (l ∷ ls) (back_over again l ls k)
  over_line again (Back.told a look x) h = told_on again a look x h
  over_line again (Back.looking tried look x) h = go (is_blank_line l) refl (opens l) refl
    where
      go : (z : Bool) → is_blank_line l ≡ z → (w : Bool) → opens l ≡ w → Says again buf (l ∷ ls) (cond z (Back.told (Ok false) look x) (cond w (tried_by (verdict_of (refused_of (length x) (l ∷ ls)).answer (suc (length ls)) again tried) (look + (refused_of (length x) (l ∷ ls)).lookahead) (over (refused_of (length x) (l ∷ ls)).text x)) (Back.looking tried look x)))
      go true b w o = at_blank b again tried look x h
      go false b true o = at_opening b o again tried look x h
      go false b false o = at_other b o again tried look x h

says : (again : Bool) (buf : List ℕ) (ls : List (List ℕ)) → Says again buf ls (back_from again buf ls)
unfolding back_from openings all
says again buf [] = record { whole = refl; none = refl; unseen = refl; left = refl }
says again buf (l ∷ ls) = over_line buf l ls again (back_from again buf ls) (says again buf ls)

pub ended_same : (again : Bool) (buf : List ℕ) (ls : List (List ℕ)) → ended_by (back_from again buf ls) ≡ tried_in buf (take (cond again 2 1) (openings ls))
ended_same again buf ls = go (back_from again buf ls) (says again buf ls)
  where
    go : (k : Back) → Says again buf ls k → ended_by k ≡ tried_in buf (take (cond again 2 1) (openings ls))
    go (Back.told a look x) h = sym (ap (λ z. tried_in buf (take (cond again 2 1) z)) (sym (append-nil (openings ls))) ∙ h [] (λ q. refl))
    go (Back.looking false look x) h = sym (rw (h.none, h.unseen, h.left) (none_made again buf))
    go (Back.looking true look x) h = sym (rw (h.one, h.twice) (h.so [] ∙ none_left look x))
