-- The first line of an index, and what is refused for it.
-- Assumes nothing.
use Rattle.std.proofs.lemmas.Option.{some_pair_parts}
use Rattle.std.specs.Prelude.{None, Option, Some}
use mathlib.Core.Path.{◌≡◌, refl, sym, ◌∙◌, ap}
use mathlib.Core.Bool.{Bool, true, false, cond, not, ◌&&◌}
use mathlib.Core.List.{List, ◌∷◌, ◌++◌, flat_map, append_assoc}
use Prim.Native.Nat.{ℕ, suc, ◌+◌, ◌≤◌}
use native.Mathlib.Omega.{arith}
use borrow.Author.Tests.{not-true}
use lib.ListN.{length, take, drop, take-append-drop}
use lib.Seq.{take-append_seam, drop-append_seam}
use Rattle.base_lists.specs.Lists.{same, begins}
use Rattle.base_lists.proofs.Same.{same_refl, same_true}
use Rattle.base_lists.proofs.Scan.{both}
use Rattle.base_bytes.specs.Bytes.{is_digit, within}
use Rattle.base_refusals.specs.Orders.{in_order}
use Rattle.base_refusals.specs.declared.Refusal.{Refusal}
use Rattle.base_refusals.specs.declared.Refusal.TheVariants.{NotAnIndex, AnotherVersion}
use Rattle.text_digits.specs.Decimal.{decimal}
use Rattle.sheet_records.specs.Records.{record_line, most_number, index_version, header_of}
use Rattle.sheet_records.specs.Computed.{Index, not_index, rows, field_at, is_headed_by, head_front, ends_line, is_numbered, is_other, other_told, head_in, read_index_of, read_index}
use Rattle.sheet_records.specs.declared.IndexRow.{IndexRow}
use Rattle.sheet_index.specs.Finding.{records_by}
use Rattle.sheet_index.proofs.Rows.{Whys, whys}
use Rattle.proved_index.specs.Versions.{OtherHeader, OtherByRule, SixteenExactly, NoForm, FourteenExactly, LastSeasonReads, LastSeason, OnlyFourteen, VersionOne}
use Rattle.sheet_records.proofs.Written.{field_reads, field_past}
use Rattle.proved_index.proofs.Back.{field_back, byte_is}
use Rattle.proved_index.proofs.Form.{version_read, index_is_read, read_is_index}

-- ---- a first line as it is read

-- the header, bracketed as it is read
head_parts : (n : ℕ) (s : List ℕ) → header_of n ++ s ≡ head_front ++ (decimal n ++ (10 ∷ s))
unfolding header_of
head_parts n s = simp append_assoc

module _ (n : ℕ) (s : List ℕ) (k : n ≤ most_number) where
  front_is : drop (length head_front) (header_of n ++ s) ≡ decimal n ++ (10 ∷ s)
  front_is = rw (head_parts n s) (drop-append_seam head_front (decimal n ++ (10 ∷ s)))

  number_read : field_at (header_of n ++ s) (length head_front) 0 ≡ Some (n, length head_front + length (decimal n))
  unfolding is_digit within
  number_read = field_reads (header_of n ++ s) (length head_front) n (10 ∷ s) front_is 0 refl (omega arith) k

  -- the first line of a version is one of some version
  numbered : is_numbered (header_of n ++ s) ≡ true
  unfolding is_numbered
  numbered = rw (number_read, front_taken, same_refl head_front, field_past (header_of n ++ s) (length head_front) n (10 ∷ s) front_is)
    where
      front_taken : take (length head_front) (header_of n ++ s) ≡ head_front
      front_taken = rw (head_parts n s) (take-append_seam head_front (decimal n ++ (10 ∷ s)))

-- what begins with the first line of the version v
headed-text : (v : ℕ) (t : List ℕ) → is_headed_by v t ≡ true → t ≡ header_of v ++ drop (length (header_of v)) t
headed-text v t e = sym (take-append-drop (length (header_of v)) t) ∙ ap (λ (l : List ℕ). l ++ drop (length (header_of v)) t) (same_true (take (length (header_of v)) t) (header_of v) e)

-- no text begins with those of two versions
one_version : (v n : ℕ) (t s : List ℕ) → v ≤ most_number → n ≤ most_number → is_headed_by v t ≡ true → t ≡ header_of n ++ s → n ≡ v
one_version v n t s k l e f =
    let a : field_at t (length head_front) 0 ≡ Some (v, length head_front + length (decimal v)) = ap (λ (x : List ℕ). field_at x (length head_front) 0) (headed-text v t e) ∙ number_read v (drop (length (header_of v)) t) k in
    let b : field_at t (length head_front) 0 ≡ Some (n, length head_front + length (decimal n)) = ap (λ (x : List ℕ). field_at x (length head_front) 0) f ∙ number_read n s l in
    let c : Some (n, length head_front + length (decimal n)) ≡ Some (v, length head_front + length (decimal v)) = sym b ∙ a in
    (some_pair_parts n v _ _ c).0

-- ---- the rule and the computing

module _ (v : ℕ) (t : List ℕ) (k : v ≤ most_number) where
  rule_other : OtherHeader v t → is_other v t ≡ true
  unfolding is_other
  rule_other w = go (is_headed_by v t) refl
    where
      is_numbered_lem : is_numbered t ≡ true
      is_numbered_lem = rw w.text (numbered w.number w.behind w.within)

      go : (x : Bool) → is_headed_by v t ≡ x → (is_numbered t && not x) ≡ true
      go true e = absurd (w.other (one_version v w.number t w.behind k w.within e w.text))
      go false e = rw is_numbered_lem

  other_rule : is_other v t ≡ true → OtherHeader v t
  unfolding is_other is_numbered
  other_rule e =
      let a = both (is_numbered t) (not (is_headed_by v t)) e in
      let b = both (same (take (length head_front) t) head_front) (ends_line t (field_at t (length head_front) 0)) a.0 in
      go (field_at t (length head_front) 0) refl b.1 (same_true (take (length head_front) t) head_front b.0) (not-true (is_headed_by v t) a.1)
    where
      go : (f : Option (ℕ × ℕ)) → field_at t (length head_front) 0 ≡ f → ends_line t f ≡ true → take (length head_front) t ≡ head_front → is_headed_by v t ≡ false → OtherHeader v t
      go None q b h n = let z : ◌≡◌ {A = ℕ} 0 1 = cc in absurd (omega arith)
      go (Some (m, p)) q b h n =
          let w = field_back t (length head_front) 0 m p q in
          let x : t ≡ header_of m ++ drop (suc p) t = sym (take-append-drop (length head_front) t) ∙ (ap (λ (l : List ℕ). l ++ drop (length head_front) t) h ∙ (ap (λ (l : List ℕ). head_front ++ l) (w.text ∙ ap (λ (l : List ℕ). decimal m ++ l) (byte_is t p 10 b)) ∙ sym (head_parts m (drop (suc p) t)))) in
          record { number = m; within = w.below; other = λ (y : m ≡ v). apart (ap (λ (i : ℕ). header_of i ++ drop (suc p) t) y) x n; behind = drop (suc p) t; text = x }
        where
          apart : {i : List ℕ} → i ≡ header_of v ++ drop (suc p) t → t ≡ i → is_headed_by v t ≡ false → ⊥
          apart f x n =
              let y : is_headed_by v t ≡ true = rw (x ∙ f) (ap (λ (l : List ℕ). same l (header_of v)) (take-append_seam (header_of v) (drop (suc p) t)) ∙ same_refl (header_of v)) in
              let z : ◌≡◌ {A = ℕ} 0 1 = cc in absurd (omega arith)

-- ---- what is refused

-- a text whose first line is another version's
other_read : (v : ℕ) (t : List ℕ) → is_other v t ≡ true → read_index_of v t ≡ not_index (other_told v)
unfolding read_index_of head_in in_order
other_read v t e = rw e

version_fits : index_version ≤ most_number
unfolding index_version
version_fits = omega arith

this_told : other_told index_version ≡ AnotherVersion
unfolding index_version
this_told = refl

no_rows : {r : Refusal} {es : List IndexRow} → not_index r ≡ rows es → ⊥
no_rows e = let z : ◌≡◌ {A = ℕ} 0 1 = cc in absurd (omega arith)

two_refusals : NotAnIndex ≡ AnotherVersion → ⊥
two_refusals e = let z : ◌≡◌ {A = ℕ} 0 1 = cc in absurd (omega arith)

-- why a text is read as no index, by this version
module _ (t : List ℕ) where
  this_why : {r : Refusal} → read_index t ≡ not_index r → r ≡ cond (is_other index_version t) AnotherVersion NotAnIndex
  unfolding Whys
  this_why e = rw (e, this_told) at (whys index_version t)

  sixteen_rule : read_index t ≡ not_index AnotherVersion → OtherHeader index_version t
  sixteen_rule e = go (is_other index_version t) refl (this_why e)
    where
      go : (x : Bool) → is_other index_version t ≡ x → AnotherVersion ≡ cond x AnotherVersion NotAnIndex → OtherHeader index_version t
      go true q h = other_rule index_version t version_fits q
      go false q h = absurd (two_refusals (sym h))

  rule_sixteen : OtherHeader index_version t → read_index t ≡ not_index AnotherVersion
  rule_sixteen w = other_read index_version t (rule_other index_version t version_fits w) ∙ ap not_index this_told

  fourteen_rule : read_index t ≡ not_index NotAnIndex → NoForm t
  fourteen_rule e = record { head = λ w. two_refusals (this_why e ∙ rw (rule_other index_version t version_fits w)); form = λ rs w. no_rows (sym e ∙ (index_is_read t rs w).0) }

  rule_fourteen : NoForm t → read_index t ≡ not_index NotAnIndex
  rule_fourteen w = go (is_other index_version t) refl (read_index t) refl
    where
      go : (x : Bool) → is_other index_version t ≡ x → (y : Index) → read_index t ≡ y → read_index t ≡ not_index NotAnIndex
      go true q y e = absurd (w.head (other_rule index_version t version_fits q))
      go false q (not_index r) e = e ∙ ap not_index (this_why e ∙ rw q)
      go false q (rows es) e = absurd (w.form (records_by t es) (read_is_index t es e))

pub other_by_rule : OtherByRule
other_by_rule t = (other_rule index_version t version_fits, rule_other index_version t version_fits)

pub sixteen_exactly : SixteenExactly
sixteen_exactly t = (sixteen_rule t, rule_sixteen t)

pub fourteen_exactly : FourteenExactly
fourteen_exactly t = (fourteen_rule t, rule_fourteen t)

-- ---- last season's reading, and last season's index

other_version : (v n : ℕ) (s : List ℕ) → v ≤ most_number → n ≤ most_number → (n ≡ v → ⊥) → read_index_of v (header_of n ++ s) ≡ not_index (other_told v)
other_version v n s k l d = other_read v (header_of n ++ s) (rule_other v (header_of n ++ s) k (record { number = n; within = l; other = d; behind = s; text = refl }))

pub last_season_reads : LastSeasonReads
last_season_reads rs w = (version_read 1 rs w).0

pub last_season : LastSeason
last_season s = other_version 1 2 s (omega arith) (omega arith) (λ e. absurd (omega arith))

pub only_fourteen : OnlyFourteen
unfolding Whys
only_fourteen t r e = go (is_other 1 t) (rw e at (whys 1 t))
  where
    go : (x : Bool) → r ≡ cond x NotAnIndex NotAnIndex → r ≡ NotAnIndex
    go true h = h
    go false h = h

pub version_one : VersionOne
version_one rs = other_version 2 1 (flat_map record_line rs) (omega arith) (omega arith) (λ e. absurd (omega arith))
