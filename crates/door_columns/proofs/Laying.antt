-- Five numbers told for each column, one column after the other.
-- Assumes nothing.
use mathlib.Core.Path.{◌≡◌, refl, sym, ◌∙◌, ap}
use mathlib.Core.Bool.{Bool, true, false}
use mathlib.Core.List.{List, [], ◌∷◌, ◌++◌, flat_map, append_assoc, append-nil}
use Prim.Native.Nat.{ℕ, suc, ◌+◌, ◌*◌, ◌<◌, ◌≤◌, min}
use native.Mathlib.Numerals.{add-one}
use native.Mathlib.Omega.{arith}
use borrow.Author.Tests.{ltb-true, ltb-false}
use lib.Dec.{ltb}
use lib.ListN.{length, get_or, set, take, length-append, length-take}
use lib.Seq.{take-suc, take_all, length-take-le}
use Rattle.base_lists.proofs.Flat.{flat_append}
use Rattle.set_columns.specs.Columns.{max_columns, zero_column}
use Rattle.set_columns.specs.declared.Column.{Column}
use Rattle.door_shared.specs.Tells.{told_in}
use Rattle.door_shared.proofs.Laws.{told_more, told_none}
use Rattle.door_columns.specs.Said.{align_no, valign_no, width_no, width_from, width_to, column_nos}
use Rattle.door_columns.specs.Inner.{column_told}

-- the memory keeps its length
told_long : (buf xs : List ℕ) → length (told_in buf xs) ≡ length buf
unfolding told_in
told_long [] xs = refl
told_long (b ∷ buf) [] = refl
told_long (b ∷ buf) (x ∷ xs) = ap suc (told_long buf xs)

-- one number more behind those that are told
more : (buf xs : List ℕ) (n x : ℕ) {t : List ℕ} → length xs ≡ n → t ≡ told_in buf xs → set t n x ≡ told_in buf (xs ++ (x ∷ []))
more buf xs n x e f = rw (f, ← e) (told_more buf xs x)

longer : (xs : List ℕ) (x n : ℕ) → length xs ≡ n → length (xs ++ (x ∷ [])) ≡ n + 1
longer xs x n e = length-append xs (x ∷ []) ∙ ap (λ k. k + 1) e

five : (xs : List ℕ) (a b c d e : ℕ) → ((((xs ++ (a ∷ [])) ++ (b ∷ [])) ++ (c ∷ [])) ++ (d ∷ [])) ++ (e ∷ []) ≡ xs ++ (a ∷ b ∷ c ∷ d ∷ e ∷ [])
five xs a b c d e = rw (append_assoc, append_assoc, append_assoc, append_assoc)

column_told_lem : (buf xs : List ℕ) (at : ℕ) (c : Column) → length xs ≡ at → column_told (told_in buf xs) at c ≡ told_in buf (xs ++ column_nos c)
unfolding column_told column_nos
column_told_lem buf xs at c e =
    let a = align_no c.align in
    let v = valign_no c.valign in
    let w = width_no c.width in
    let f = width_from c.width in
    let t = width_to c.width in
    let l1 = longer xs (align_no c.align) at e in
    let l2 : length ((xs ++ (align_no c.align ∷ [])) ++ (valign_no c.valign ∷ [])) ≡ at + 2 = omega (arith, longer (xs ++ (align_no c.align ∷ [])) (valign_no c.valign) (at + 1) l1) in
    let l3 : length (((xs ++ (align_no c.align ∷ [])) ++ (valign_no c.valign ∷ [])) ++ (width_no c.width ∷ [])) ≡ at + 3 = omega (arith, longer ((xs ++ (align_no c.align ∷ [])) ++ (valign_no c.valign ∷ [])) (width_no c.width) (at + 2) l2) in
    let l4 : length ((((xs ++ (align_no c.align ∷ [])) ++ (valign_no c.valign ∷ [])) ++ (width_no c.width ∷ [])) ++ (width_from c.width ∷ [])) ≡ at + 4 = omega (arith, longer (((xs ++ (align_no c.align ∷ [])) ++ (valign_no c.valign ∷ [])) ++ (width_no c.width ∷ [])) (width_from c.width) (at + 3) l3) in
    more buf _ (at + 4) (width_to c.width) l4 (more buf _ (at + 3) (width_from c.width) l3 (more buf _ (at + 2) (width_no c.width) l2 (more buf _ (at + 1) (valign_no c.valign) l1 (more buf xs at (align_no c.align) e refl))))
    ∙ ap (told_in buf) (five xs (align_no c.align) (valign_no c.valign) (width_no c.width) (width_from c.width) (width_to c.width))

five_long : (c : Column) → length (column_nos c) ≡ 5
unfolding column_nos
five_long c = refl

-- ---- the loop: i columns are told
pub record Lays (buf : List ℕ) (columns : List Column) (n : ℕ) (out : List ℕ) (i : ℕ) : Type 0 where
  pub long : length columns ≡ max_columns
  pub within : i ≤ n
  pub kept : length out ≡ length buf
  pub is : out ≡ told_in buf (flat_map column_nos (take i columns))
  pub size : length (flat_map column_nos (take i columns)) ≡ 5 * i

pub lays_start : (buf : List ℕ) (columns : List Column) (n : ℕ) → length columns ≡ max_columns → Lays buf columns n buf 0
unfolding flat_map
lays_start buf columns n e = record { long = e; within = omega arith; kept = refl; is = sym (told_none buf); size = refl }

module _ {buf : List ℕ} {columns : List Column} {n : ℕ} {out : List ℕ} {i : ℕ} (inv : Lays buf columns n out i) where
  all_told : n ≤ i → out ≡ told_in buf (flat_map column_nos (take n columns))
  all_told h = let e : n ≡ i = omega (arith, inv.within) in rw e inv.is

  -- all columns of the array are told
  array_told : max_columns ≤ i → out ≡ told_in buf (flat_map column_nos (take n columns))
  array_told h =
      let a : take i columns ≡ columns = take_all i columns (omega (arith, inv.long)) in
      let b : take n columns ≡ columns = take_all n columns (omega (arith, inv.long, inv.within)) in
      rw b (rw a at inv.is)

  pub lays_end : min n max_columns ≤ i → out ≡ told_in buf (flat_map column_nos (take n columns))
  lays_end h = go (ltb n max_columns) refl
    where
      go : (b : Bool) → ltb n max_columns ≡ b → out ≡ told_in buf (flat_map column_nos (take n columns))
      go true e = all_told (omega (arith, h, ltb-true n max_columns e))
      go false e = array_told (omega (arith, h, ltb-false n max_columns e))

  one_column : (c : Column) → flat_map column_nos (c ∷ []) ≡ column_nos c
  unfolding flat_map
  one_column c = append-nil (column_nos c)

  pub lays_go : i < max_columns → i < n → {now : List ℕ} → now ≡ column_told out (5 * i) (get_or columns i zero_column) → Lays buf columns n now (i + 1)
  lays_go h l {now} e =
      let s : take (suc i) columns ≡ take i columns ++ (get_or columns i zero_column ∷ []) = take-suc columns i zero_column (omega (arith, inv.long)) in
      let f : flat_map column_nos (take (suc i) columns) ≡ flat_map column_nos (take i columns) ++ column_nos (get_or columns i zero_column) =
      ap (flat_map column_nos) s ∙ flat_append column_nos (take i columns) (get_or columns i zero_column ∷ []) ∙ ap (λ x. flat_map column_nos (take i columns) ++ x) (one_column (get_or columns i zero_column)) in
      let told : now ≡ told_in buf (flat_map column_nos (take i columns) ++ column_nos (get_or columns i zero_column)) =
      e ∙ ap (λ o. column_told o (5 * i) (get_or columns i zero_column)) inv.is ∙ column_told_lem buf (flat_map column_nos (take i columns)) (5 * i) (get_or columns i zero_column) inv.size in
      record {
        long = inv.long;
        within = omega arith;
        kept = ap length told ∙ told_long buf (flat_map column_nos (take i columns) ++ column_nos (get_or columns i zero_column));
        is = rw (add-one i, f) told;
        size = rw (add-one i, f) (length-append (flat_map column_nos (take i columns)) (column_nos (get_or columns i zero_column)) ∙ sized (get_or columns i zero_column));
      }
    where
      sized : (c : Column) → length (flat_map column_nos (take i columns)) + length (column_nos c) ≡ 5 * suc i
      sized c = omega (arith, inv.size, five_long c)
