-- One sheet more: its numbers are those of the list of it alone, and what is answered has the number of its order.
-- Assumes nothing.
use Rattle.std.specs.Prelude.{Err, Ok, Result}
use mathlib.Core.Path.{◌≡◌, refl, sym, ◌∙◌, ap}
use mathlib.Core.Bool.{Bool, true, false, cond, ◌&&◌}
use mathlib.Core.List.{List, [], ◌∷◌}
use Prim.Native.Nat.{ℕ, ◌<◌, ◌≤◌}
use native.Mathlib.Nat.{add-zero}
use borrow.Author.Tests.{lt-ltb, le-ltb}
use lib.Dec.{eqb, ltb}
use lib.ListN.{length, drop}
use Rattle.base_refusals.specs.Numbers.{max_text, number_of, outcome_no}
use Rattle.base_refusals.specs.Orders.{Ground, in_order, on_paper}
use Rattle.base_refusals.specs.declared.Refusal.{Refusal}
use Rattle.base_refusals.specs.declared.Refusal.TheVariants.{JoinFull}
use Rattle.text_checks.specs.Check.{check_of, is_text}
use Rattle.text_checks.proofs.Texts.{passed, refused}
use Rattle.text_lines.specs.Lines.{ranges}
use Rattle.read_blocks.specs.Blocks.{lines_of, lookahead_of}
use Rattle.sheet_blocks.specs.Sheets.{Try, tries_at, only_blocks, join_behind}
use Rattle.sheet_totals.specs.Totals.{numbers_added, add_totals, add_order, added_paper}
use Rattle.sheet_totals.specs.declared.Totals.{Totals}
use Rattle.sheet_totals.specs.declared.Added.{Added}
use Rattle.sheet_totals.proofs.Adding.{added_paper_lem}
use Rattle.sheet_tally.specs.Lists.{total, greatest_of, keep}
use Rattle.sheet_tally.specs.Counts.{tries_in, blocks_by, printed, is_wrapped, classes_at, keys_at, joined_at, numbers_of, totals_of}
use Rattle.sheet_tally.specs.Feeds.{lacks_join, feed_of, feed_order, feed_tries}
use Rattle.sheet_tally.specs.Inner.{sheet_numbers, refused_numbers}
use Rattle.sheet_tally.proofs.Lists.{greatest_one}

-- ---- a list of one sheet

total-one : {A : Type 0} (f : A → ℕ) (x : A) → total f (x ∷ []) ≡ f x
unfolding total
total-one f x = add-zero (f x)

kept_one : {A : Type 0} (p : A → Bool) (x : A) → length (keep p (x ∷ [])) ≡ cond (p x) 1 0
unfolding keep
kept_one p x = go (p x)
  where
    go : (b : Bool) → length (cond b (x ∷ []) []) ≡ cond b 1 0
    go true = refl
    go false = refl

-- the numbers of a sheet of the number n, 0 where it is none, whose tries are these
abbrev numbers_by : List ℕ → ℕ → List Try → List ℕ
numbers_by t n xs =
    1
    ∷ length (blocks_by 0 t xs)
    ∷ length (keep is_wrapped (printed t xs))
    ∷ cond (eqb n 1) 1 0
    ∷ cond (eqb n 2) 1 0
    ∷ length (blocks_by 6 t xs)
    ∷ length (blocks_by 7 t xs)
    ∷ length (blocks_by 10 t xs)
    ∷ total (classes_at t) (printed t xs)
    ∷ total (keys_at t) (printed t xs)
    ∷ total (joined_at t) xs
    ∷ total (λ x. lookahead_of x.found) xs
    ∷ greatest_of (λ x. lines_of x.found) (printed t xs)
    ∷ []

numbers_one : (t : List ℕ) → numbers_of (t ∷ []) ≡ numbers_by t (outcome_no (check_of t)) (tries_in t)
unfolding numbers_of
numbers_one t = simp (total-one, kept_one, greatest_one)

tries_are : (t : List ℕ) → check_of t ≡ Ok tt → tries_in t ≡ tries_at t max_text 1 0
unfolding tries_in tries_at ranges
tries_are t e = rw e

tries_none : (t : List ℕ) {r : Refusal} → check_of t ≡ Err r → tries_in t ≡ []
unfolding tries_in
tries_none t e = rw e

passed_numbers : (t : List ℕ) → check_of t ≡ Ok tt → sheet_numbers t (tries_at t max_text 1 0) ≡ numbers_of (t ∷ [])
unfolding sheet_numbers
passed_numbers t e = sym (numbers_one t ∙ (rw (e, tries_are t e)))

none_numbers : (t : List ℕ) (n : ℕ) → numbers_by t n [] ≡ refused_numbers n
unfolding refused_numbers blocks_by only_blocks keep total greatest_of
none_numbers t n = refl

refused_numbers_lem : (t : List ℕ) {r : Refusal} → check_of t ≡ Err r → refused_numbers (number_of r) ≡ numbers_of (t ∷ [])
refused_numbers_lem t {r} e = sym (numbers_one t ∙ (rw (e, tries_none t e) (none_numbers t (number_of r))))

-- ---- what is promised

module _ (a : Totals) (t : List ℕ) (cap : ℕ) where
  feed_paper : added_paper (feed_of a t cap) ≡ on_paper (feed_order a t cap) (numbers_added a.numbers (numbers_of (t ∷ [])))
  unfolding feed_of feed_order on_paper in_order
  feed_paper = go (lacks_join t cap)
    where
      go : (b : Bool) → added_paper (cond b (record { outcome = Err JoinFull; totals = a }) (add_totals a (totals_of (t ∷ []))))
          ≡ on_paper (Ground.given JoinFull b ∷ add_order a (totals_of (t ∷ []))) (numbers_added a.numbers (numbers_of (t ∷ [])))
      go true = refl
      go false = added_paper_lem a (totals_of (t ∷ []))

  lacks_not : is_text t ≡ false → lacks_join t cap ≡ false
  lacks_not e = rw e

  lacks_wide : max_text ≤ cap → lacks_join t cap ≡ false
  lacks_wide h = rw (le-ltb cap max_text h) (go (is_text t))
    where
      go : (b : Bool) → (b && false) ≡ false
      go true = refl
      go false = refl

  lacks_short : is_text t ≡ true → cap < max_text → lacks_join t cap ≡ true
  lacks_short e h = rw (e, lt-ltb cap max_text h)

  module _ (l : lacks_join t cap ≡ false) where
    feed_on : {s : Totals} → s ≡ totals_of (t ∷ []) → add_totals a s ≡ feed_of a t cap
    unfolding feed_of
    feed_on p = rw (l, p)

    tries_on : feed_tries t cap ≡ tries_in t
    unfolding feed_tries
    tries_on = rw l

  module _ (l : lacks_join t cap ≡ true) where
    feed_off : record { outcome = Err JoinFull; totals = a } ≡ feed_of a t cap
    unfolding feed_of
    feed_off = rw l

    tries_off : feed_tries t cap ≡ []
    unfolding feed_tries
    tries_off = rw l

  none_behind : (join : List ℕ) → join ≡ join_behind join []
  unfolding join_behind
  none_behind join = refl

  module _ (join : List ℕ) where
    abbrev pub Fed : Added → List ℕ → Type 0
    Fed r join' = (r ≡ feed_of a t cap) × ((join' ≡ join_behind join (feed_tries t cap)) × (added_paper r ≡ on_paper (feed_order a t cap) (numbers_added a.numbers (numbers_of (t ∷ [])))))

    fed : {r : Added} {join' : List ℕ} → r ≡ feed_of a t cap → join' ≡ join_behind join (feed_tries t cap) → Fed r join'
    fed e f = (e, (f, ap added_paper e ∙ feed_paper))

    module _ {o : Result (Unit {0}) Refusal} (e : o ≡ check_of t) where
      -- 1 or 2
      pub fed_refused : {why : Refusal} {s : Totals} {r : Added} → o ≡ Err why → s ≡ record { numbers = refused_numbers (number_of why) } → r ≡ add_totals a s → Fed r join
      fed_refused q p k =
          let l = lacks_not (sym (refused t e q)) in
          fed (k ∙ feed_on l (p ∙ ap (λ ns. record { numbers = ns }) (refused_numbers_lem t (sym e ∙ q)))) (none_behind join ∙ ap (join_behind join) (sym (tries_on l ∙ tries_none t (sym e ∙ q))))

      -- a sheet that is a text
      module _ (q : o ≡ Ok tt) where
        -- 9
        pub fed_short : cap < max_text → Fed (record { outcome = Err JoinFull; totals = a }) join
        fed_short h = let l = lacks_short (sym (passed t e q)) h in fed (feed_off l) (none_behind join ∙ ap (join_behind join) (sym (tries_off l)))

        pub fed_passed : {s : Totals} {r : Added} {join' : List ℕ} → max_text ≤ cap → s ≡ record { numbers = sheet_numbers t (tries_at t max_text 1 0) }
            → join' ≡ join_behind join (tries_at t max_text 1 0) → r ≡ add_totals a s → Fed r join'
        fed_passed h p j k =
            let l = lacks_wide h in
            fed (k ∙ feed_on l (p ∙ ap (λ ns. record { numbers = ns }) (passed_numbers t (sym e ∙ q)))) (j ∙ ap (join_behind join) (sym (tries_on l ∙ tries_are t (sym e ∙ q))))
