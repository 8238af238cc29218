-- The records of the new text by those of the old one and of the lines that are read again; and what the tries of the parts leave in the join buffer.
-- Assumes nothing.
use mathlib.Core.Path.{◌≡◌, sym, ◌∙◌}
use mathlib.Core.List.{List, ◌++◌, map}
use Prim.Native.Nat.{ℕ, ◌+◌, ◌≤◌}
use native.Mathlib.Omega.{arith}
use lib.ListN.{length, take, drop, take-append-drop}
use lib.Seq.{slice, length-take-le, length-slice}
use Rattle.base_lists.proofs.Parts.{seam}
use Rattle.base_refusals.specs.Numbers.{max_text}
use Rattle.text_lines.specs.Lines.{lines}
use Rattle.sheet_blocks.specs.Sheets.{tries_at, join_behind}
use Rattle.sheet_records.specs.Listed.{records_of}
use Rattle.sheet_splits.specs.Parting.{MayPart, moved_on}
use Rattle.sheet_splits.proofs.Parted.{mended, join_parted}
use Rattle.sheet_edits.specs.Mends.{Mends}
use Rattle.sheet_edits.proofs.Cuts.{Cuts}

-- a text in three parts, by two places
module _ (t : List ℕ) (p e : ℕ) (h : p ≤ e) (l : e ≤ length t) where
  behind_is : slice p e t ++ drop e t ≡ drop p t
  behind_is = sym (seam t p e h)

  parts_are : take p t ++ (slice p e t ++ drop e t) ≡ t
  parts_are = rw behind_is (take-append-drop p t)

  module _ (f : MayPart (take p t) (drop p t)) (g : MayPart (slice p e t) (drop e t)) where
    pub parts_records : length t ≤ max_text
        → records_of t ≡ records_of (take p t) ++ (map (moved_on (length (lines (take p t))) p) (records_of (slice p e t)) ++ map (moved_on (length (lines (take p t)) + length (lines (slice p e t))) e) (records_of (drop e t)))
    parts_records k =
        let n : length (take p t) ≡ p = length-take-le p t (omega arith) in
        let m : p + length (slice p e t) ≡ e = omega (arith, length-slice p e t l) in
        let z : MayPart (take p t) (slice p e t ++ drop e t) = rw behind_is f in
        let y : length (take p t ++ (slice p e t ++ drop e t)) ≤ max_text = rw parts_are k in
        rw (parts_are, n, m) at (mended (take p t) (slice p e t) (drop e t) z g y)

    pub parts_join : (buf : List ℕ)
        → join_behind buf (tries_at t max_text 1 0) ≡ join_behind (join_behind (join_behind buf (tries_at (take p t) max_text 1 0)) (tries_at (slice p e t) max_text 1 0)) (tries_at (drop e t) max_text 1 0)
    parts_join buf =
        let z = rw (take-append-drop p t) at (join_parted (take p t) (drop p t) f buf) in
        let y = rw behind_is at (join_parted (slice p e t) (drop e t) g (join_behind buf (tries_at (take p t) max_text 1 0))) in
        z ∙ y

pub cuts_mend : {old new : List ℕ} {p e n : ℕ} → Cuts old new p e n → length old ≤ max_text → length new ≤ max_text → Mends old new p e n
cuts_mend {old} {new} {p} {e} {n} c k m =
    record {
      old_records = parts_records old p e c.ordered c.within c.old_front c.old_end k;
      new_records = rw (c.front, c.end) at (parts_records new p n c.new_ordered c.new_within c.new_front c.new_end m);
    }
