-- A list laid down on columns: what each column is then, and the loop that does it.
-- Assumes nothing.
use mathlib.Core.Path.{◌≡◌, refl, sym, ◌∙◌, ap}
use mathlib.Core.Bool.{Bool, true, false, cond}
use mathlib.Core.List.{List, [], ◌∷◌, map}
use Prim.Native.Nat.{ℕ, suc, ◌+◌, ◌-◌, ◌<◌, ◌≤◌, zero-le}
use native.Mathlib.Numerals.{add-one}
use native.Mathlib.Omega.{arith}
use lib.ListN.{length, get_or, drop, set, length-set, length-take}
use lib.Seq.{set_out}
use Rattle.base_lists.proofs.Parts.{slice_part}
use Rattle.set_table.specs.Types.{Texts, text_at, range_bytes}
use Rattle.set_table.specs.declared.Origin.{Origin}
use Rattle.set_commas.specs.declared.Cut.{Cut}
use Rattle.set_commas.specs.declared.Cut.TheVariants.{Last, Comma}
use Rattle.set_commas.specs.Commas.{cut_range, cuts_from, cuts_of, cut_at}
use Rattle.set_commas.proofs.Pieces.{cut_last, cut-comma}
use Rattle.block_grammar.specs.Meaning.{PieceAt}
use Rattle.set_columns.specs.declared.Column.{Column}
use Rattle.set_columns.specs.Columns.{zero_column, max_columns}
use Rattle.set_columns.specs.Inner.{laid_on}

-- past the last column nothing is laid down
laid_past : {A : Type 0} (f : A → Column → Column) (xs : List A) (i : ℕ) (cs : List Column) → length cs ≤ i → laid_on f xs i cs ≡ cs
unfolding laid_on
laid_past f [] i cs h = refl
laid_past f (x ∷ xs) i cs h = rw (set_out cs i (f x (get_or cs i zero_column)) h) (laid_past f xs (suc i) cs (omega arith))

-- ---- the loop: the ranges from `at` on are to be laid down on the columns from i on
pub record Lays (f : PieceAt → Column → Column) (q : Bool) (s : List ℕ) (columns out : List Column) (i at : ℕ) : Type 0 where
  pub inside : at ≤ length s
  pub long : length out ≡ max_columns
  pub rest : laid_on f (cuts_from q false at at (drop at s)) i out ≡ laid_on f (cuts_of q s) 0 columns

pub lays_start : (f : PieceAt → Column → Column) (q : Bool) (s : List ℕ) (columns : List Column) → length columns ≡ max_columns → Lays f q s columns columns 0 0
unfolding cuts_of
lays_start f q s columns e = record { inside = zero-le; long = e; rest = refl }

pub lays_full : {f : PieceAt → Column → Column} {q : Bool} {s : List ℕ} {columns out : List Column} {i at : ℕ} → Lays f q s columns out i at → max_columns ≤ i → out ≡ laid_on f (cuts_of q s) 0 columns
lays_full {f} {q} {s} {columns} {out} {i} {at} inv h = sym (laid_past f (cuts_from q false at at (drop at s)) i out (omega (arith, inv.long))) ∙ inv.rest

module _ {f : PieceAt → Column → Column} {q : Bool} {s : List ℕ} {columns out : List Column} {i at : ℕ} (inv : Lays f q s columns out i at) {r : Cut} (e : r ≡ cut_at q s at) where
  module _ {to : ℕ} (p : r ≡ Last to) where
    pub last_inside : (at ≤ to) × (to ≤ length s)
    last_inside = let z = cut_last inv.inside e p in (z.before, z.inside)

    pub lays_end : set out i (f (cut_range at to) (get_or out i zero_column)) ≡ laid_on f (cuts_of q s) 0 columns
    unfolding laid_on
    lays_end = rw (cut_last inv.inside e p).cuts at inv.rest

  module _ {to next : ℕ} (p : r ≡ Comma to next) where
    pub comma_inside : (at ≤ to) × (to ≤ length s)
    comma_inside = let z = cut-comma inv.inside e p in (z.before, omega (arith, z))

    pub comma-ahead : (at < next) × (next ≤ length s)
    comma-ahead =
        let z = cut-comma inv.inside e p in
        (omega (arith, z), z.inside)

    pub lays_go : Lays f q s columns (set out i (f (cut_range at to) (get_or out i zero_column))) (i + 1) next
    unfolding laid_on
    lays_go =
        let z = cut-comma inv.inside e p in
        record {
          inside = z.inside;
          long = length-set out i (f (cut_range at to) (get_or out i zero_column)) ∙ inv.long;
          rest = rw (add-one i) (rw z.cuts at inv.rest);
        }

-- ---- a value of u16 places has its pieces at such places
pub range_room : (t : Texts) (o : Origin) (from to : ℕ) {s : List ℕ} → s ≡ range_bytes t o from to → from ≤ 65535 → to ≤ 65535 → from + length s ≤ 65535
unfolding range_bytes
range_room t o from to e h l = rw (e, slice_part from to (text_at t o)) (omega (arith, length-take (to - from) (drop from (text_at t o))))
