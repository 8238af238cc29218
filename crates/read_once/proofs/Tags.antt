-- A tag, a byte at a time: where it stops, and that it is one if it may end there.
-- Assumes nothing.
use mathlib.Core.Path.{◌≡◌, refl, sym, ◌∙◌, ap}
use mathlib.Core.Bool.{Bool, true, false, cond, ◌&&◌}
use mathlib.Core.List.{List, [], ◌∷◌}
use Prim.Native.Nat.{ℕ, zero, suc, ◌+◌, ◌-◌, ◌<◌, ◌≤◌}
use native.Mathlib.Nat.{add-zero, add-suc, suc-add}
use native.Mathlib.Numerals.{add-one}
use native.Mathlib.Omega.{arith}
use lib.Dec.{eqb, leb, ltb}
use lib.ListN.{length, get_or, take, drop, drop_of_length-le, length-take, length-drop}
use lib.Seq.{drop-cons, get_or-drop, get_or-take}
use borrow.Author.Tests.{eq-eqb, ne_eqb, lt-ltb, le-leb, lt-leb, ltb-true, ltb-false}
use Rattle.base_lists.specs.Lists.{all, run}
use Rattle.base_lists.proofs.Each.{all_at}
use Rattle.base_lists.proofs.More.{contra}
use Rattle.base_lists.proofs.Scan.{run_le, run-all}
use Rattle.base_lists.proofs.Parts.{drop-take}
use Rattle.base_bytes.specs.declared.Mode.{Mode}
use Rattle.base_bytes.specs.Bytes.{is_blank, within, is_letter, is_digit, is_alnum, is_name_part}
use Rattle.base_letters.specs.Classes.{is_of, TellsBytes}
use Rattle.text_names.specs.Computed.{is_size, tag_from, language_by, is_language, tag_passes}
use Rattle.text_names.proofs.Tag.{pass_le}
use Rattle.text_names.proofs.Told.{whole_language}
use Rattle.block_grammar.specs.Computed.{ends}
use Rattle.block_grammar.proofs.Bytes.{blank_not}
use Rattle.block_places.specs.Computed.{Spot}
use Rattle.block_places.proofs.Ways as ways
use Rattle.block_tokens.specs.declared.Token.{Token}
use Rattle.block_tokens.specs.declared.Token.TheVariants.{Bad, Tag}
use Rattle.block_tokens.specs.Shown.{shown}
use Rattle.block_tokens.specs.Inner.{tag_token, part, spot_place}
use Rattle.block_tokens.proofs.Words as words
use Rattle.read_once.specs.declared.TagStop.{TagStop}
use Rattle.read_once.specs.Inner.{tag_size, tag_stop, tag_ends}
use Rattle.read_once.proofs.Cuts.{Cut}

-- ---- the loop stands before byte i, with k bytes of the present subtag read
pub record TagRuns (f : ℕ → Bool) (s : List ℕ) (r : TagStop) (i k : ℕ) : Type 0 where
  pub rest : record { end = i + tag_passes f (drop i s) k; size = tag_size f (drop i s) k } ≡ r
  pub few : k ≤ 8

pub start : (f : ℕ → Bool) (s : List ℕ) (i : ℕ) → TagRuns f s (tag_stop f s i) i 0
start f s i = record { rest = refl; few = omega arith }

module _ {f : ℕ → Bool} {s : List ℕ} {r : TagStop} {i k : ℕ} (inv : TagRuns f s r i k) where
  abbrev here : TagStop
  here = record { end = i; size = k }

  pub end : length s ≤ i → here ≡ r
  unfolding tag_passes tag_size
  end h = rw (drop_of_length-le s {i = i} h, add-zero) at inv.rest

  module _ (h : i < length s) where
    ahead : record { end = i + tag_passes f (get_or s i 0 ∷ drop (suc i) s) k; size = tag_size f (get_or s i 0 ∷ drop (suc i) s) k } ≡ r
    ahead = rw (drop-cons s i 0 h) at inv.rest

    pub more : f (get_or s i 0) ≡ true → (k ≡ 8 → ⊥) → TagRuns f s r (i + 1) (k + 1)
    unfolding tag_passes tag_size
    more e n =
        let p = rw (e, lt-ltb k 8 (omega (arith, inv.few, n)), add-suc) at ahead in
        record { rest = rw (add-one i, add-one k, suc-add) p; few = omega (arith, inv.few, n) }

    pub nine : f (get_or s i 0) ≡ true → k ≡ 8 → here ≡ r
    unfolding tag_passes tag_size
    nine e n = rw n (rw (e, n, add-zero) at ahead)

    module _ (q : f (get_or s i 0) ≡ false) where
      pub other : (get_or s i 0 ≡ 45 → ⊥) → here ≡ r
      unfolding tag_passes tag_size
      other n = rw (q, ne_eqb (get_or s i 0) 45 n, neither (leb 1 k), add-zero) at ahead
        where
          neither : (x : Bool) → (x && false) ≡ false
          neither true = refl
          neither false = refl

      pub empty : k ≡ 0 → here ≡ r
      unfolding tag_passes tag_size
      empty z = rw z (rw (q, z, add-zero) at ahead)

      pub hyphen : get_or s i 0 ≡ 45 → (k ≡ 0 → ⊥) → TagRuns f s r (i + 1) 0
      unfolding tag_passes tag_size
      hyphen e n =
          let p = rw (q, eq-eqb (get_or s i 0) 45 e, le-leb 1 k (omega (arith, n)), add-suc) at ahead in
          record { rest = rw (add-one i, suc-add) p; few = omega arith }

-- it stops in the list, and as the table tells the letters and digits
module _ {table : List ℕ} (tells : TellsBytes table) (s : List ℕ) (a : ℕ) {r : TagStop} (e : r ≡ tag_stop (is_of table 3) s a) where
  pub stop_end : r.end ≡ a + tag_passes is_alnum (drop a s) 0
  stop_end = ap (λ x. x.end) e ∙ ap (λ f. a + tag_passes f (drop a s) 0) tells.alnum

  pub stop_size : r.size ≡ tag_size is_alnum (drop a s) 0
  stop_size = ap (λ x. x.size) e ∙ ap (λ f. tag_size f (drop a s) 0) tells.alnum

  pub stop_inside : a ≤ length s → (a ≤ r.end) × (r.end ≤ length s)
  stop_inside h = omega (arith, stop_end, pass_le is_alnum (drop a s) 0, length-drop a s)

-- ---- in a text that is cut behind it
front_tag : (f : ℕ → Bool) (n : ℕ) (l : List ℕ) (k : ℕ) → tag_passes f l k ≤ n → (tag_passes f (take n l) k ≡ tag_passes f l k) × (tag_size f (take n l) k ≡ tag_size f l k)
unfolding tag_passes tag_size
front_tag f zero [] k h = (refl, refl)
front_tag f (suc n) [] k h = (refl, refl)
front_tag f zero (a ∷ l) k h = go (f a) (ltb k 8) (leb 1 k && eqb a 45) h
  where
    go : (x y z : Bool) → cond x (cond y (suc (tag_passes f l (suc k))) 0) (cond z (suc (tag_passes f l 0)) 0) ≤ 0 → (0 ≡ cond x (cond y (suc (tag_passes f l (suc k))) 0) (cond z (suc (tag_passes f l 0)) 0)) × (k ≡ cond x (cond y (tag_size f l (suc k)) k) (cond z (tag_size f l 0) k))
    go true true z h = absurd (omega arith)
    go true false z h = (refl, refl)
    go false y true h = absurd (omega arith)
    go false y false h = (refl, refl)
front_tag f (suc n) (a ∷ l) k h = go (f a) (ltb k 8) (leb 1 k && eqb a 45) h (front_tag f n l)
  where
    go : (x y z : Bool) → cond x (cond y (suc (tag_passes f l (suc k))) 0) (cond z (suc (tag_passes f l 0)) 0) ≤ suc n
        → ((j : ℕ) → tag_passes f l j ≤ n → (tag_passes f (take n l) j ≡ tag_passes f l j) × (tag_size f (take n l) j ≡ tag_size f l j))
        → (cond x (cond y (suc (tag_passes f (take n l) (suc k))) 0) (cond z (suc (tag_passes f (take n l) 0)) 0) ≡ cond x (cond y (suc (tag_passes f l (suc k))) 0) (cond z (suc (tag_passes f l 0)) 0))
        × (cond x (cond y (tag_size f (take n l) (suc k)) k) (cond z (tag_size f (take n l) 0) k) ≡ cond x (cond y (tag_size f l (suc k)) k) (cond z (tag_size f l 0) k))
    go true true z h ih = let y = ih (suc k) (omega arith) in (ap (λ j. suc j) y.0, y.1)
    go true false z h ih = (refl, refl)
    go false y true h ih = let w = ih 0 (omega arith) in (ap (λ j. suc j) w.0, w.1)
    go false y false h ih = (refl, refl)

pub cut_tag : {t : List ℕ} {e c : ℕ} → Cut t e c → (f : ℕ → Bool) (a : ℕ) → e ≡ a + tag_passes f (drop a t) 0 → (e ≡ a + tag_passes f (drop a (take c t)) 0) × (tag_size f (drop a (take c t)) 0 ≡ tag_size f (drop a t) 0)
cut_tag {t} {e} {c} u f a is =
    let z = front_tag f (c - a) (drop a t) 0 (omega (arith, is, u.low)) in
    rw (drop-take a c t) (is ∙ ap (λ k. a + k) (sym z.0), z.1)

-- ---- the bytes of a tag are bytes of names
pub in_run : (l : List ℕ) → tag_passes is_alnum l 0 ≤ run is_name_part l
in_run l = omega (arith, ways.tag_front l 0, pass_le is_alnum (take (run is_name_part l) l) 0, length-take (run is_name_part l) l)

-- ---- what was passed whole is a tag if its last subtag has a byte
whole_tag : (f : ℕ → Bool) (l : List ℕ) (k : ℕ) → k ≤ 8 → tag_passes f l k ≡ length l → tag_from f l k ≡ ltb 0 (tag_size f l k)
unfolding tag_passes tag_size tag_from is_size within
whole_tag f [] k h e = go (ltb 0 k) refl
  where
    go : (x : Bool) → ltb 0 k ≡ x → (leb 1 k && leb k 8) ≡ x
    go true p = rw (le-leb 1 k (ltb-true 0 k p), le-leb k 8 h)
    go false p = rw (lt-leb 1 k (omega (arith, ltb-false 0 k p)))
whole_tag f (a ∷ l) k h e = go (f a) (ltb k 8) refl (leb 1 k) refl (eqb a 45) e (whole_tag f l)
  where
    go : (w x : Bool) → ltb k 8 ≡ x → (y : Bool) → leb 1 k ≡ y → (z : Bool) → cond w (cond x (suc (tag_passes f l (suc k))) 0) (cond (y && z) (suc (tag_passes f l 0)) 0) ≡ suc (length l)
        → ((j : ℕ) → j ≤ 8 → tag_passes f l j ≡ length l → tag_from f l j ≡ ltb 0 (tag_size f l j))
        → cond w (tag_from f l (suc k)) ((y && leb k 8) && (z && tag_from f l 0)) ≡ ltb 0 (cond w (cond x (tag_size f l (suc k)) k) (cond (y && z) (tag_size f l 0) k))
    go true true p y q z e ih = ih (suc k) (ltb-true k 8 p) (omega (arith, e))
    go true false p y q z e ih = absurd (omega (arith, e))
    go false x p true q true e ih = rw (le-leb k 8 h) (ih 0 (omega arith) (omega (arith, e)))
    go false x p true q false e ih = absurd (omega (arith, e))
    go false x p false q z e ih = absurd (omega (arith, e))

whole_language_is : (l : List ℕ) (a e : ℕ) → e ≡ a + length l → tag_passes is_alnum l 0 ≡ length l → is_language l ≡ tag_ends a e (tag_size is_alnum l 0)
unfolding is_language language_by
whole_language_is [] a e is h = rw (eq-eqb a e (omega (arith, is)))
whole_language_is (b ∷ l) a e is h = rw (ne_eqb a e (λ q. omega (arith, is, q))) (whole_tag is_alnum (b ∷ l) 0 (omega arith) h)

-- ---- the size is found in the run of name bytes, as the place is
size_run : (n : ℕ) (l : List ℕ) → tag_passes is_alnum l 0 ≤ n → tag_size is_alnum (take n l) 0 ≡ tag_size is_alnum l 0
size_run n l h = (front_tag is_alnum n l 0 h).1

part_no_blank : (m : Mode) (b : ℕ) → is_name_part b ≡ true → is_blank m b ≡ false
unfolding all is_name_part is_alnum is_letter is_digit within
part_no_blank m b h = go (is_blank m b) refl
  where
    go : (x : Bool) → is_blank m b ≡ x → x ≡ false
    go true e = contra (is_name_part b) h (blank_not is_name_part m b refl e)
    go false e = refl

-- ---- the token
module _ (m : Mode) (i : ℕ) (s : List ℕ) {e size : ℕ} (is : e ≡ i + 1 + tag_passes is_alnum (drop (i + 1) s) 0) (z : size ≡ tag_size is_alnum (drop (i + 1) s) 0) (l : i + 1 ≤ length s) {good : Bool} (g : good ≡ tag_ends (i + 1) e size) where
  abbrev n : ℕ
  n = run is_name_part (drop (i + 1) s)

  abbrev name : List ℕ
  name = part (i + 1) (i + 1 + run is_name_part (drop (i + 1) s)) s

  name_is : name ≡ take (run is_name_part (drop (i + 1) s)) (drop (i + 1) s)
  name_is = let w : i + 1 + run is_name_part (drop (i + 1) s) - (i + 1) ≡ run is_name_part (drop (i + 1) s) = omega arith in rw w

  name_long : length name ≡ run is_name_part (drop (i + 1) s)
  name_long = rw (name_is, length-take (run is_name_part (drop (i + 1) s)) (drop (i + 1) s)) (omega (arith, run_le is_name_part (drop (i + 1) s)))

  passes : tag_passes is_alnum (drop (i + 1) s) 0 ≡ tag_passes is_alnum name 0
  passes = rw name_is (sym (ways.tag_front (drop (i + 1) s) 0))

  stops_here : {r : Token} → is_language name ≡ false → (good && ends m (drop e s)) ≡ false → r ≡ cond (good && ends m (drop e s)) (Tag (i + 1) e) (Bad e) → r ≡ shown i (spot_place (Spot.tag 0 true) (i + 1) s) (tag_token m (drop (i + 1) s))
  stops_here b f q = q ∙ (rw (f, is) (words.tag_stops m i s refl l b passes))

  -- the tag fills the run of name bytes
  fills : {r : Token} → tag_passes is_alnum (drop (i + 1) s) 0 ≡ run is_name_part (drop (i + 1) s) → r ≡ cond (good && ends m (drop e s)) (Tag (i + 1) e) (Bad e) → r ≡ shown i (spot_place (Spot.tag 0 true) (i + 1) s) (tag_token m (drop (i + 1) s))
  fills {r} k q = go (is_language name) refl
    where
      at : e ≡ i + 1 + run is_name_part (drop (i + 1) s)
      at = omega (arith, is, k)

      same : is_language name ≡ good
      same =
          let w : size ≡ tag_size is_alnum name 0 = z ∙ (rw name_is (sym (size_run (run is_name_part (drop (i + 1) s)) (drop (i + 1) s) (omega (arith, k))))) in
          whole_language_is name (i + 1) e (omega (arith, at, name_long)) (sym passes ∙ k ∙ sym name_long) ∙ (rw (← w) (sym g))

      go : (x : Bool) → is_language name ≡ x → r ≡ shown i (spot_place (Spot.tag 0 true) (i + 1) s) (tag_token m (drop (i + 1) s))
      go true b = words.tag_whole m i s refl l b (rw (← at) (rw (sym same ∙ b) at q))
      go false b = stops_here b (rw (sym same ∙ b)) q

  -- it stops before a name byte
  stops : {r : Token} → tag_passes is_alnum (drop (i + 1) s) 0 < run is_name_part (drop (i + 1) s) → r ≡ cond (good && ends m (drop e s)) (Tag (i + 1) e) (Bad e) → r ≡ shown i (spot_place (Spot.tag 0 true) (i + 1) s) (tag_token m (drop (i + 1) s))
  unfolding is_language ends
  stops {r} k q = stops_here (no (is_language name) refl) (rw (drop-cons s e 0 there, part_no_blank m (get_or s e 0) byte) (neither good)) q
    where
      there : e < length s
      there = omega (arith, is, k, run_le is_name_part (drop (i + 1) s), length-drop (i + 1) s)

      byte : is_name_part (get_or s e 0) ≡ true
      byte =
          let p = tag_passes is_alnum (drop (i + 1) s) 0 in
          let w = all_at is_name_part 0 (take (run is_name_part (drop (i + 1) s)) (drop (i + 1) s)) (run-all is_name_part (drop (i + 1) s)) p (rw (length-take (run is_name_part (drop (i + 1) s)) (drop (i + 1) s)) (omega (arith, k, run_le is_name_part (drop (i + 1) s)))) in
          rw (is, ← get_or-drop (i + 1) s p 0, ← get_or-take (run is_name_part (drop (i + 1) s)) (drop (i + 1) s) p 0 k) w

      neither : (x : Bool) → (x && false) ≡ false
      neither true = refl
      neither false = refl

      no : (x : Bool) → is_language name ≡ x → x ≡ false
      no true b = absurd (omega (arith, k, passes, whole_language is_alnum name b, name_long))
      no false b = refl

  pub tag_is : {r : Token} → r ≡ cond (good && ends m (drop e s)) (Tag (i + 1) e) (Bad e) → r ≡ shown i (spot_place (Spot.tag 0 true) (i + 1) s) (tag_token m (drop (i + 1) s))
  tag_is {r} q = go (ltb (tag_passes is_alnum (drop (i + 1) s) 0) (run is_name_part (drop (i + 1) s))) refl
    where
      go : (x : Bool) → ltb (tag_passes is_alnum (drop (i + 1) s) 0) (run is_name_part (drop (i + 1) s)) ≡ x → r ≡ shown i (spot_place (Spot.tag 0 true) (i + 1) s) (tag_token m (drop (i + 1) s))
      go true p = stops (ltb-true (tag_passes is_alnum (drop (i + 1) s) 0) (run is_name_part (drop (i + 1) s)) p) q
      go false p = fills (omega (arith, ltb-false (tag_passes is_alnum (drop (i + 1) s) 0) (run is_name_part (drop (i + 1) s)) p, in_run (drop (i + 1) s))) q
