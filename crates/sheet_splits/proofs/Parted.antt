-- A sheet that may be parted: what its tries leave in the join buffer, its lines and its records; and the mended records are the fresh ones.
-- Assumes nothing.
use mathlib.Core.Path.{◌≡◌, refl, ◌∙◌, ap}
use mathlib.Core.Bool.{Bool, true, false, cond}
use mathlib.Core.List.{List, [], ◌∷◌, ◌++◌, map, flat_map, append-nil, map-append}
use Prim.Native.Nat.{ℕ, ◌+◌, ◌≤◌}
use native.Mathlib.Nat.{zero-add}
use native.Mathlib.Omega.{arith}
use lib.Dec.{eqb}
use lib.ListN.{length, length-append}
use Rattle.base_refusals.specs.Numbers.{max_text}
use Rattle.text_lines.specs.Lines.{lines, is_dropped, first_of}
use Rattle.text_lines.proofs.First.{first_cons}
use Rattle.block_trimmed_line.specs.Fronts.{begins_indented}
use Rattle.read_blocks.specs.Blocks.{join_holds}
use Rattle.sheet_blocks.specs.Sheets.{Try, tries_at, join_behind}
use Rattle.sheet_blocks.proofs.Goes.{join_append}
use Rattle.sheet_blocks.proofs.Tries.{tries_end}
use Rattle.sheet_records.specs.Records.{Record}
use Rattle.sheet_records.specs.Listed.{records_of}
use Rattle.sheet_splits.specs.Parting.{MayPart, farther, moved_on}
use Rattle.sheet_splits.proofs.Lines.{lines-append}
use Rattle.sheet_splits.proofs.Finds.{Flat}
use Rattle.sheet_splits.proofs.Split.{split}
use Rattle.sheet_splits.proofs.Records.{records_are, records_split}

-- the first byte of a text tells how its first line begins
pub flat_lines : (y : List ℕ) → begins_indented y ≡ false → Flat (lines y)
unfolding lines
flat_lines y e = go (lines y) (first y e)
  where
    first : (y : List ℕ) → begins_indented y ≡ false → begins_indented (first_of (lines y)) ≡ false
    first [] e = refl
    first (b ∷ s) e = rw (first_cons b s) (by (eqb b 10) (is_dropped b s))
      where
        by : (p q : Bool) → begins_indented (cond p [] (cond q [] (b ∷ first_of (lines s)))) ≡ false
        by true q = refl
        by false true = refl
        by false false = e

    go : (ls : List (List ℕ)) → begins_indented (first_of ls) ≡ false → Flat ls
    go [] f = refl
    go (l ∷ ls) f = f

-- ---- farther on, once and again

pub later_none : (rs : List Record) → map (moved_on 0 0) rs ≡ rs
later_none [] = refl
later_none (r ∷ rs) = rw (zero-add r.line, zero-add r.offset, later_none rs)

pub later-later : (d o e q : ℕ) (rs : List Record) → map (moved_on d o) (map (moved_on e q) rs) ≡ map (moved_on (d + e) (o + q)) rs
later-later d o e q [] = refl
later-later d o e q (r ∷ rs) =
    let z : d + (e + r.line) ≡ d + e + r.line = omega arith in
    let y : o + (q + r.offset) ≡ o + q + r.offset = omega arith in
    rw (z, y, later-later d o e q rs)

join_farther : (d o : ℕ) (buf : List ℕ) (xs : List Try) → join_behind buf (map (farther d o) xs) ≡ join_behind buf xs
unfolding join_behind
join_farther d o buf [] = refl
join_farther d o buf (x ∷ xs) = join_farther d o (join_holds buf x.found) xs

no_records : records_of [] ≡ []
unfolding flat_map
no_records = records_are [] (omega arith) ∙ (rw (tries_end [] max_text 1 0 (omega arith)))

-- ---- the two parts

module _ (x y : List ℕ) where
  pub lines_parted : MayPart x y → length (lines (x ++ y)) ≡ length (lines x) + length (lines y)
  unfolding lines
  lines_parted (MayPart.nothing-before e) = rw e (omega arith)
  lines_parted (MayPart.nothing-behind e) = rw (e, append-nil x) (omega arith)
  lines_parted (MayPart.at_line w f) = rw (lines-append x y w) (length-append (lines x) (lines y))

  pub records_parted : MayPart x y → length (x ++ y) ≤ max_text → records_of (x ++ y) ≡ records_of x ++ map (moved_on (length (lines x)) (length x)) (records_of y)
  unfolding lines
  records_parted (MayPart.nothing-before e) k = rw (e, no_records, later_none (records_of y))
  records_parted (MayPart.nothing-behind e) k = rw (e, append-nil x, no_records, append-nil (records_of x))
  records_parted (MayPart.at_line w f) k = records_split x y w (flat_lines y f) k

  pub join_parted : MayPart x y → (buf : List ℕ) → join_behind buf (tries_at (x ++ y) max_text 1 0) ≡ join_behind (join_behind buf (tries_at x max_text 1 0)) (tries_at y max_text 1 0)
  unfolding join_behind
  join_parted (MayPart.nothing-before e) buf = rw (e, tries_end [] max_text 1 0 (omega arith))
  join_parted (MayPart.nothing-behind e) buf = rw (e, append-nil x, tries_end [] max_text 1 0 (omega arith))
  join_parted (MayPart.at_line w f) buf =
      ap (join_behind buf) (split x y w (flat_lines y f) max_text 1)
      ∙ join_append buf (tries_at x max_text 1 0) (map (farther (length (lines x)) (length x)) (tries_at y max_text 1 0))
      ∙ join_farther (length (lines x)) (length x) (join_behind buf (tries_at x max_text 1 0)) (tries_at y max_text 1 0)

-- ---- mending: p is kept, r is read again, s is kept and moved
pub mended : (p r s : List ℕ) → MayPart p (r ++ s) → MayPart r s → length (p ++ (r ++ s)) ≤ max_text
    → records_of (p ++ (r ++ s)) ≡ records_of p ++ (map (moved_on (length (lines p)) (length p)) (records_of r) ++ map (moved_on (length (lines p) + length (lines r)) (length p + length r)) (records_of s))
mended p r s m n k =
    let d = length (lines p) in
    let e = length (lines r) in
    records_parted p (r ++ s) m k
    ∙ (rw (records_parted r s n (omega (arith, k, length-append p (r ++ s))), map-append (moved_on d (length p)) (records_of r) (map (moved_on e (length r)) (records_of s)), later-later d (length p) e (length r) (records_of s)))
