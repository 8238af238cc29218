-- The loops over a text's bytes and lines, and the tests of a replaced part.
-- Assumes nothing.
use Rattle.std.specs.Prelude.{Some, None}
use mathlib.Core.Path.{◌≡◌, refl, sym, ◌∙◌, ap}
use mathlib.Core.Bool.{Bool, true, false, cond, not}
use mathlib.Core.List.{List, [], ◌∷◌, ◌++◌}
use Prim.Native.Nat.{ℕ, suc, ◌+◌, ◌-◌, ◌<◌, ◌≤◌}
use native.Mathlib.Nat.{add-zero}
use native.Mathlib.Numerals.{add-one}
use native.Mathlib.Omega.{arith}
use borrow.Author.Tests.{le-leb, lt-leb, leb-true, not-true, not-false}
use Rattle.base_lists.proofs.Scan.{both}
use Rattle.base_bytes.specs.Bytes.{is_indent}
use lib.Dec.{eqb}
use lib.ListN.{length, get_or, take, drop, drop_of_length-le, length-drop, length-take}
use lib.Seq.{slice, drop-cons, take_all, take-suc, take-length, length-take-le, get_or-take}
use Rattle.base_lists.specs.Lists.{same}
use Rattle.text_lines.specs.Lines.{lines, line_from, line_of}
use Rattle.text_lines.specs.declared.Range.{Range}
use Rattle.text_lines.specs.declared.LineEnd.{LineEnd}
use Rattle.text_lines.proofs.Lines.{lines_end, line_at_lem, next_beyond, next_le}
use Rattle.sheet_splits.specs.Parting.{is_whole}
use Rattle.sheet_edits.specs.Edits.{span_to, is_flat, flat_from, last_flat, till_flat, keeps, again_in}

-- ---- whether a text is empty or ends in an LF

pub whole_last : (t : List ℕ) → 0 < length t → eqb (get_or t (length t - 1) 0) 10 ≡ is_whole t
unfolding is_whole
whole_last [] h = absurd (omega arith)
whole_last (b ∷ []) h = refl
whole_last (b ∷ c ∷ s) h = let z : suc (suc (length s)) - 1 ≡ suc (suc (length s) - 1) = omega arith in rw z (whole_last (c ∷ s) (omega arith))

pub whole_empty : (t : List ℕ) → length t ≡ 0 → true ≡ is_whole t
unfolding is_whole
whole_empty [] h = refl
whole_empty (b ∷ s) h = absurd (omega arith)

-- ---- the last line that begins with neither space nor tab, sought from the end

-- whether the byte behind x begins a line
unfoldable fresh_behind : Bool → List ℕ → Bool
fresh_behind fresh [] = fresh
fresh_behind fresh (b ∷ x) = fresh_behind (eqb b 10) x

fresh_whole : (b : ℕ) (x : List ℕ) → fresh_behind (eqb b 10) x ≡ is_whole (b ∷ x)
unfolding is_whole fresh_behind
fresh_whole b [] = refl
fresh_whole b (c ∷ x) = fresh_whole c x

fresh_is : (x : List ℕ) → fresh_behind true x ≡ is_whole x
unfolding is_whole fresh_behind
fresh_is [] = refl
fresh_is (b ∷ x) = fresh_whole b x

flat_snoc : (fresh : Bool) (at last : ℕ) (x : List ℕ) (b : ℕ) → flat_from fresh at last (x ++ (b ∷ [])) ≡ cond (is_flat (fresh_behind fresh x) b) (at + length x) (flat_from fresh at last x)
unfolding flat_from fresh_behind
flat_snoc fresh at last [] b = rw (add-zero at)
flat_snoc fresh at last (c ∷ x) b = let z : at + suc (length x) ≡ suc at + length x = omega arith in rw z (flat_snoc (eqb c 10) (suc at) (cond (is_flat fresh c) at last) x b)

flat_cut : (t : List ℕ) (i : ℕ) → i < length t → last_flat (take (suc i) t) ≡ cond (is_flat (is_whole (take i t)) (get_or t i 0)) i (last_flat (take i t))
flat_cut t i h =
    let l : 0 + length (take i t) ≡ i = omega (arith, length-take-le i t (omega arith)) in
    rw (take-suc t i 0 h) (flat_snoc true 0 0 (take i t) (get_or t i 0) ∙ rw (fresh_is (take i t), l))

-- the byte before a place behind the front tells whether a line begins there
whole_before : (t : List ℕ) (i : ℕ) → 0 < i → i < length t → is_whole (take i t) ≡ eqb (get_or t (i - 1) 0) 10
whole_before t i h k =
    let l : length (take i t) ≡ i = length-take-le i t (omega arith) in
    let z : i - 1 < i = omega arith in
    sym (whole_last (take i t) (omega (arith, l))) ∙ rw (l, get_or-take)

-- at the front or none
short_last : (s : List ℕ) → length s ≤ 1 → 0 ≡ last_flat s
unfolding flat_from
short_last [] k = refl
short_last (b ∷ []) k = go (is_flat true b)
  where
    go : (p : Bool) → ◌≡◌ {A = ℕ} 0 (cond p 0 0)
    go true = refl
    go false = refl
short_last (b ∷ c ∷ s) k = absurd (omega arith)

-- no such line begins from place i on
pub record Lasts (t : List ℕ) (i : ℕ) : Type 0 where
  pub within : i ≤ length t
  pub rest : last_flat (take i t) ≡ last_flat t

pub lasts_start : (t : List ℕ) → Lasts t (length t)
lasts_start t = record { within = omega arith; rest = rw (take-length t) }

module _ {t : List ℕ} {i : ℕ} (inv : Lasts t i) where
  module _ (h : 1 < i) {x : Bool} (e : x ≡ is_flat (eqb (get_or t (i - 1 - 1) 0) 10) (get_or t (i - 1) 0)) where
    here : cond x (i - 1) (last_flat (take (i - 1) t)) ≡ last_flat t
    here =
        let k : suc (i - 1) ≡ i = omega arith in
        rw (e, ← whole_before t (i - 1) (omega arith) (omega (arith, inv.within))) (sym (flat_cut t (i - 1) (omega (arith, inv.within))) ∙ rw k inv.rest)

    pub lasts_stop : x ≡ true → i - 1 ≡ last_flat t
    lasts_stop y = rw y at here

    pub lasts_on : x ≡ false → Lasts t (i - 1)
    lasts_on y = record { within = omega (arith, inv.within); rest = rw y at here }

  pub lasts_end : i ≤ 1 → 0 ≡ last_flat t
  lasts_end h = short_last (take i t) (omega (arith, length-take-le i t inv.within)) ∙ inv.rest

-- ---- the first

pub till_le : (fresh : Bool) (s : List ℕ) → till_flat fresh s ≤ length s
unfolding till_flat
till_le fresh [] = omega arith
till_le fresh (b ∷ s) = go (is_flat fresh b) (till_le (eqb b 10) s)
  where
    go : (p : Bool) → till_flat (eqb b 10) s ≤ length s → cond p 0 (suc (till_flat (eqb b 10) s)) ≤ suc (length s)
    go true h = omega arith
    go false h = omega arith

pub record Tills (t : List ℕ) (front fresh : Bool) (i : ℕ) : Type 0 where
  pub rest : i + till_flat fresh (drop i t) ≡ till_flat front t

pub tills_start : (t : List ℕ) (front : Bool) → Tills t front front 0
tills_start t front = record { rest = omega arith }

module _ {t : List ℕ} {front fresh : Bool} {i : ℕ} (inv : Tills t front fresh i) where
  module _ (h : i < length t) {x : Bool} (e : x ≡ is_flat fresh (get_or t i 0)) where
    at : i + cond x 0 (suc (till_flat (eqb (get_or t i 0) 10) (drop (suc i) t))) ≡ till_flat front t
    unfolding till_flat
    at = rw e (rw (drop-cons t i 0 h) at inv.rest)

    pub tills_stop : x ≡ true → (i ≡ till_flat front t) × (i ≤ length t)
    tills_stop y = let z = rw y at at in (omega (arith, z), omega arith)

    pub tills_on : x ≡ false → Tills t front (eqb (get_or t i 0) 10) (i + 1)
    tills_on y = let z = rw y at at in record { rest = rw (add-one i) (omega (arith, z)) }

  pub tills_end : length t ≤ i → (i ≡ till_flat front t) × (i ≤ length t)
  unfolding till_flat
  tills_end h = let z = rw (drop_of_length-le t {i = i} h) at inv.rest in (omega (arith, z), omega (arith, z, till_le front t))

-- ---- how many lines

pub record Counts (t : List ℕ) (n at : ℕ) : Type 0 where
  pub few : n ≤ at
  pub rest : n + length (lines (drop at t)) ≡ length (lines t)

pub counts_start : (t : List ℕ) → Counts t 0 0
counts_start t = record { few = omega arith; rest = omega arith }

module _ {t : List ℕ} {n at : ℕ} (inv : Counts t n at) where
  pub counts_on : {l : LineEnd} → at < length t → l ≡ line_from t at → Counts t (n + 1) l.next
  counts_on h e = rw e (record { few = omega (arith, inv.few, next_beyond t at h); rest = omega (arith, inv.rest, ap length (line_at_lem t at h)) })

  pub counts_less : {l : LineEnd} → at < length t → l ≡ line_from t at → length t - l.next < length t - at
  counts_less h e = rw e (omega (arith, next_beyond t at h, next_le t at h))

  pub counts_end : length t ≤ at → n ≡ length (lines t)
  counts_end h = omega (arith, inv.rest, ap length (lines_end t at h))

-- ---- the bytes that stay

module _ (old new : List ℕ) (from to : ℕ) where
  pub no_room : length new < length old - to → false ≡ keeps old new from to
  unfolding keeps
  no_room h = rw (lt-leb (from + (length old - to)) (length new) (omega arith))

  module _ (l : length old - to ≤ length new) where
    pub overlaps : length new - (length old - to) < from → false ≡ keeps old new from to
    unfolding keeps
    overlaps h = rw (lt-leb (from + (length old - to)) (length new) (omega arith))

    module _ (h : from ≤ length new - (length old - to)) {xs ys : List ℕ} {x : Bool} (p : xs ≡ slice 0 from new) (q : ys ≡ slice 0 from old) (e : x ≡ same xs ys) where
      is : x ≡ same (take from new) (take from old)
      is = rw (p, q) at e

      pub front_differs : not x ≡ true → false ≡ keeps old new from to
      unfolding keeps
      front_differs y = rw (le-leb (from + (length old - to)) (length new) (omega arith), ← is, not-true x y)

      pub end_tells : not x ≡ false → {us vs : List ℕ} {y : Bool} → us ≡ slice (length new - (length old - to)) (length new) new → vs ≡ slice to (length old) old → y ≡ same us vs → y ≡ keeps old new from to
      unfolding keeps
      end_tells y i j w = rw (le-leb (from + (length old - to)) (length new) (omega arith), ← is, not-false x y) (rw (i, j, take_all (length new) new (omega arith), take_all (length old) old (omega arith)) at w)

-- ---- whether a byte begins a line that isn't indented

pub flat_stale : (fresh : Bool) (b : ℕ) → not fresh ≡ true → false ≡ is_flat fresh b
flat_stale fresh b e = rw (not-true fresh e)

pub flat_fresh : (fresh : Bool) (b : ℕ) {x : Bool} → not fresh ≡ false → x ≡ is_indent b → not x ≡ is_flat fresh b
flat_fresh fresh b e i = rw (not-false fresh e, i)

-- ---- the lines to read again

pub more_le : (old : List ℕ) (to : ℕ) {ys : List ℕ} {m : ℕ} → ys ≡ slice to (length old) old → m ≤ length ys → m ≤ length old - to
more_le old to j g = omega (arith, g, ap length j, length-drop to (take (length old) old), length-take (length old) old)

module _ (old new : List ℕ) (from to : ℕ) {k : Bool} (e : k ≡ keeps old new from to) where
  pub not_again : not k ≡ true → None ≡ again_in old new from to
  unfolding again_in
  not_again y = rw (← e, not-true k y)

  module _ (y : not k ≡ false) where
    pub again_room : from + (length old - to) ≤ length new
    unfolding keeps
    again_room = leb-true (from + (length old - to)) (length new) (both _ _ (sym e ∙ not-false k y)).0

    pub again_lines : {xs ys zs : List ℕ} {w : Bool} {m p : ℕ} → xs ≡ slice 0 (length new - (length old - to)) new → w ≡ is_whole xs → ys ≡ slice to (length old) old → m ≡ till_flat w ys
        → zs ≡ slice 0 from old → p ≡ last_flat zs → Some (p, to + m, length new - (length old - to) + m) ≡ again_in old new from to
    unfolding again_in
    again_lines i f j g l h =
        let z = rw (j, take_all (length old) old (omega arith), f, i) at g in
        rw (← e, not-false k y, z, h, l)

-- ---- the lines of an edit

pub one_line : (t : List ℕ) (a b : ℕ) {r : Range} {l : LineEnd} → line_of a t ≡ Some r → a ≡ b → l ≡ line_from t r.from → Some (r.from, l.next) ≡ span_to t r.from b
unfolding span_to
one_line t a b e f g = rw (← f, e, g)
