-- Splitting at commas, and what a width's range stands for.
-- Assumes nothing.
use Rattle.std.specs.Prelude.{None, Option, Some}
use mathlib.Core.Path.{◌≡◌, refl, sym, ◌∙◌, ap}
use mathlib.Core.Bool.{Bool, true, false}
use mathlib.Core.List.{List, map, map-map}
use Prim.Native.Nat.{ℕ, ◌+◌, ◌-◌, ◌≤◌}
use native.Mathlib.Omega.{arith}
use lib.ListN.{length, drop, length-take}
use lib.Seq.{slice, take-take, drop-drop}
use Rattle.base_lists.proofs.Parts.{slice_part, drop-take}
use Rattle.block_grammar.specs.Meaning.{PieceAt}
use Rattle.set_table.specs.Types.{Texts, text_at, range_bytes}
use Rattle.set_table.specs.declared.Origin.{Origin}
use Rattle.set_table.specs.declared.Text.TheVariants as text
use Rattle.set_marks.specs.Marks.{bytes_in, is_quoted, raw_bytes}
use Rattle.set_commas.specs.Commas.{comma_pieces, cuts_of}
use Rattle.set_commas.specs.Rules.{Parted}
use Rattle.set_commas.proofs.Splits.{pieces_split, split_only}
use Rattle.set_commas.proofs.Pieces.{cuts_pieces}
use Rattle.set_commas.proofs.Only.{cuts_order, cuts_only}
use Rattle.set_marks.proofs.Values.{raw_value}
use Rattle.set_columns.specs.Columns.{width_at, found_widths}
use Rattle.set_columns.specs.Inner.{found_pieces}
use Rattle.proved_columns.specs.Columns.{SplitOnly, CutsPieces, CutsOnly, WidthsStand, width_bytes, quoted_by}
use Rattle.set_table.specs.declared.Value.{Value}

pub splits_only : SplitOnly
splits_only s = (pieces_split s, split_only s)

pub cuts_stand : CutsPieces
cuts_stand q s = sym (map-map (bytes_in q) (λ r. slice r.from r.to s) (cuts_of q s)) ∙ cuts_pieces q s

pub cuts_one : CutsOnly
cuts_one q s = (cuts_order q s, cuts_only q s)

-- ---- widths

-- a range of a value is a range of its text
module _ (w : List ℕ) (base to : ℕ) where
  within-length : length (slice base to w) ≤ to - base
  within-length = rw (slice_part base to w) (omega (arith, length-take (to - base) (drop base w)))

  piece_slice : (f e : ℕ) → f ≤ e → e ≤ length (slice base to w) → slice (base + f) (base + e) w ≡ slice f e (slice base to w)
  piece_slice f e h l =
      let k : base + e - (base + f) ≡ e - f = omega arith in
      let m : e - f ≤ to - base - f = omega (arith, within-length) in
      rw (slice_part (base + f) (base + e) w, k, slice_part f e (slice base to w), slice_part base to w, drop-take f (to - base) (drop base w), drop-drop f base w) (sym (take-take (e - f) (to - base - f) (drop (base + f) w) m))

module _ (t : Texts) (o : Origin) (q : Bool) (base upto : ℕ) where
  stands : {from : ℕ} (rs : List PieceAt) → Parted q (range_bytes t o base upto) from rs
      → map (width_bytes t q) (map (width_at o base) rs) ≡ map (λ r. bytes_in q (slice r.from r.to (range_bytes t o base upto))) rs
  unfolding range_bytes
  stands _ (Parted.last {from} h) = rw (piece_slice (text_at t o) base upto from (length (slice base upto (text_at t o))) h.ordered h.inside)
  stands _ (Parted.comma {from} {to} {rs} h b c p) = rw (piece_slice (text_at t o) base upto from to h.piece.ordered h.piece.inside, stands rs p)
  stands _ (Parted.escaped {from} {to} {rs} y h b c d p) = rw (piece_slice (text_at t o) base upto from to h.piece.ordered h.piece.inside, stands rs p)

pub widths_stand : WidthsStand
unfolding comma_pieces
widths_stand t (text.Plain o from to) = stands t o false from to (cuts_of false (range_bytes t o from to)) (cuts_order false (range_bytes t o from to)) ∙ cuts_stand false (range_bytes t o from to)
widths_stand t (text.Quoted o from to) = stands t o true from to (cuts_of true (range_bytes t o from to)) (cuts_order true (range_bytes t o from to)) ∙ cuts_stand true (range_bytes t o from to)
widths_stand t text.Empty = refl

-- of the value that was found
pub widths_found : (t : Texts) (f : Option Value) → map (width_bytes t (quoted_by f)) (found_widths t f) ≡ found_pieces t f
unfolding found_widths found_pieces is_quoted raw_bytes
widths_found t None = refl
widths_found t (Some v) = widths_stand t v.text ∙ ap comma_pieces (raw_value t v)
