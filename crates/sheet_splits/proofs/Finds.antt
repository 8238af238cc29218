-- What is found at a line, by the lines from there on alone.
-- Assumes nothing.
use Rattle.std.specs.Prelude.{Option}
use mathlib.Core.Path.{◌≡◌, refl}
use mathlib.Core.Bool.{Bool, true, false, cond, not, ◌&&◌, ◌||◌}
use mathlib.Core.List.{List, [], ◌∷◌, ◌++◌, map, map-append}
use Prim.Native.Nat.{ℕ, ◌+◌, zero-le}
use borrow.Author.Tests.{le-ltb}
use lib.Dec.{eqb-suc-zero}
use lib.ListN.{length, drop}
use Rattle.text_tabs.specs.Columns.{indent_from, capped}
use Rattle.text_lines.specs.Lines.{lines, line_at, first_of}
use Rattle.text_lines.specs.Trim.{trim, is_blank_line}
use Rattle.block_payloads.specs.Payloads.{opens, ends_in_close}
use Rattle.base_refusals.specs.declared.Refusal.TheVariants.{NoReading, NothingThere}
use Rattle.run_joins.specs.Joins.{Lined, So, is_first, passes, after}
use Rattle.block_trimmed_line.specs.Fronts.{begins_indented, front_of, opens_at}
use Rattle.block_trimmed_line.proofs.Trimmed.{front_slice}
use Rattle.block_chain.specs.Chain.{good_line}
use Rattle.read_blocks.specs.Blocks.{Found, nothing, ended_run, run_found, found}
use Rattle.read_lengths.specs.Lengths.{flush_left}
use Rattle.sheet_splits.proofs.Anywhere.{good_anywhere}
use Rattle.run_lines.specs.Runs.{as_is, start, run_from, run_of, run_at}

-- ---- no line that isn't indented is joined

flat_indent : (l : List ℕ) → begins_indented l ≡ false → indent_from 0 l ≡ 0
unfolding indent_from
flat_indent [] e = refl
flat_indent (b ∷ s) e = rw e

flat_stops : (brace : ℕ) (quote : Option ℕ) (l : List ℕ) → begins_indented l ≡ false → passes false brace quote 0 l ≡ false
unfolding passes capped
flat_stops brace quote l e = rw (flat_indent l e, le-ltb (capped brace) 0 zero-le) (go (is_blank_line l))
  where
    go : (x : Bool) → (not x && (false || false)) ≡ false
    go true = refl
    go false = refl

-- the lines are none, or the first isn't indented
abbrev pub Flat : List (List ℕ) → Type 0
Flat [] = ◌≡◌ {A = ℕ} 0 0
Flat (l ∷ ls) = begins_indented l ≡ false

-- the run of some lines isn't changed by lines that follow
run_flat : (cap : ℕ) (so : So) (ls : List Lined) (ms : List (List ℕ)) → Flat ms → is_first so ≡ false → run_from cap so (ls ++ map as_is ms) ≡ run_from cap so ls
unfolding run_from
run_flat cap so [] [] f n = refl
run_flat cap so [] (m ∷ ms) f n = rw (n, flat_stops so.brace so.quote m f)
run_flat cap so (l ∷ ls) ms f n = rw (run_flat cap (after so l) ls ms f (eqb-suc-zero so.lines))

-- of the first line nothing else is asked than that it isn't blank
pub run_front : (cap base : ℕ) (l : List ℕ) (ls ms : List (List ℕ)) → Flat ms → run_of cap base (map as_is ((l ∷ ls) ++ ms)) ≡ run_of cap base (map as_is (l ∷ ls))
unfolding run_from
run_front cap base l ls ms f = rw (map-append as_is ls ms, run_flat cap (after (start base) (as_is l)) (map as_is ls) ms f (eqb-suc-zero 0))

-- ---- what is found at the first of lines

-- whether a line by itself is a good one
abbrev good_by : List ℕ → Bool
good_by s = good_line s 0 (length s)

abbrev found_run : ℕ → List (List ℕ) → Found
found_run cap ls = ended_run (run_of cap 0 (map as_is ls)) (run_of cap 0 (map as_is ls)).stop

unfoldable pub found_of_lines : ℕ → List (List ℕ) → Found
found_of_lines cap ls =
    cond (begins_indented (first_of ls)) (nothing NothingThere)
    (cond (opens (first_of ls))
    (cond (good_by (trim (first_of ls))) Found.line
    (cond (ends_in_close (trim (first_of ls))) (nothing NoReading)
    (found_run cap ls)))
    (nothing NothingThere))

pub found_in : (t : List ℕ) (cap at : ℕ) → flush_left t cap at ≡ found_of_lines cap (lines (drop at t))
unfolding found_of_lines flush_left found front_of opens_at run_found run_at
found_in t cap at = go (opens (line_at t at)) refl
  where
    go : (x : Bool) → opens (line_at t at) ≡ x
        → cond (begins_indented (line_at t at)) (nothing NothingThere) (cond x (cond (good_line t (front_of t at).from (front_of t at).to) Found.line (cond (ends_in_close (trim (line_at t at))) (nothing NoReading) (found_run cap (lines (drop at t))))) (nothing NothingThere))
        ≡ cond (begins_indented (line_at t at)) (nothing NothingThere) (cond x (cond (good_by (trim (line_at t at))) Found.line (cond (ends_in_close (trim (line_at t at))) (nothing NoReading) (found_run cap (lines (drop at t))))) (nothing NothingThere))
    go true e = rw (good_anywhere t (front_of t at).from (front_of t at).to, front_slice t at e)
    go false e = refl

-- lines that follow, the first of them not indented, change nothing
pub found_front : (cap : ℕ) (l : List ℕ) (ls ms : List (List ℕ)) → Flat ms → found_of_lines cap ((l ∷ ls) ++ ms) ≡ found_of_lines cap (l ∷ ls)
unfolding found_of_lines
found_front cap l ls ms f = rw (run_front cap 0 l ls ms f)
