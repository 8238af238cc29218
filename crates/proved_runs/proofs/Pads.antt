-- A line's pad stands for so many spaces before its bytes: a run over padded copies is the run over lines with pads.
-- Assumes nothing.
use Rattle.std.specs.Prelude.{Err, None, Ok}
use mathlib.Core.Path.{◌≡◌, refl, ◌∙◌, ap}
use mathlib.Core.Bool.{Bool, cond, not, ◌&&◌}
use mathlib.Core.List.{List, [], ◌∷◌, map}
use Prim.Native.Nat.{ℕ, zero, suc, ◌+◌}
use native.Mathlib.Nat.{zero-add, add-zero}
use native.Mathlib.Omega.{arith}
use lib.Dec.{ltb}
use lib.ListN.{length}
use Rattle.base_lists.specs.Lists.{is_in}
use Rattle.base_bytes.specs.Bytes.{within, is_indent, is_space, is_tail, is_quote}
use Rattle.text_lines.specs.Trim.{trim, trim_start, is_blank_line}
use Rattle.text_tabs.specs.Columns.{column_after, indent_from}
use Rattle.block_grammar.specs.Close.{turned}
use Rattle.run_scanners.specs.Scanners.{passed, seek_step, seek_from, last_open_brace, holds_open}
use Rattle.base_refusals.specs.declared.Refusal.TheVariants.{NoReading, JoinFull}
use Rattle.run_lines.specs.Runs.{Run, ended, run_from}
use Rattle.run_joins.specs.Joins.{Lined, So, passes, may_join, after}
use Rattle.proved_runs.specs.Padding.{spaces, copied, PadsAsNumbers}

pad_trim : (n : ℕ) (l : List ℕ) → trim (spaces n l) ≡ trim l
unfolding trim trim_start is_space is_in
pad_trim zero l = refl
pad_trim (suc n) l = pad_trim n l

pad_in : (n : ℕ) (l : List ℕ) → is_in (spaces n l) 125 ≡ is_in l 125
unfolding is_in
pad_in zero l = refl
pad_in (suc n) l = pad_in n l

pad_indent : (n c : ℕ) (l : List ℕ) → indent_from c (spaces n l) ≡ indent_from (n + c) l
unfolding indent_from column_after is_indent is_tail is_in within
pad_indent zero c l = rw zero-add
pad_indent (suc n) c l = let z : n + suc c ≡ suc n + c = omega arith in pad_indent n (suc c) l ∙ ap (λ k. indent_from k l) z

pad_brace : (n c : ℕ) (l : List ℕ) → last_open_brace None c (spaces n l) ≡ last_open_brace None (n + c) l
unfolding last_open_brace seek_from seek_step passed turned column_after is_tail is_quote is_in within
pad_brace zero c l = rw zero-add
pad_brace (suc n) c l = let z : n + suc c ≡ suc n + c = omega arith in pad_brace n (suc c) l ∙ ap (λ k. last_open_brace None k l) z

copied_joins : (so : So) (l : Lined) → may_join so (copied l) ≡ may_join so l
unfolding passes is_blank_line
copied_joins so l = rw (pad_trim l.pad l.line, pad_indent l.pad 0 l.line, add-zero l.pad)

copied-after : (so : So) (l : Lined) → after so (copied l) ≡ after so l
copied-after so l = rw (pad_trim l.pad l.line, pad_brace l.pad 0 l.line, add-zero l.pad)

-- the run by the line's tests, whether it holds a `}`, the run behind it, and what comes then
abbrev chosen : ℕ → So → Bool → Bool → So → Run → Run
chosen cap so x m a rest =
    cond x (cond (ltb cap (length a.text)) (ended (Err JoinFull) so) (cond (m && not (holds_open a.text)) (ended (Ok tt) a) rest))
    (ended (Err NoReading) so)

pub padded : PadsAsNumbers
unfolding run_from
padded cap so [] = refl
padded cap so (l ∷ ls) =
    ap (λ x. chosen cap so x (is_in (copied l).line 125) (after so (copied l)) (run_from cap (after so (copied l)) (map copied ls))) (copied_joins so l)
    ∙ ap (λ m. chosen cap so (may_join so l) m (after so (copied l)) (run_from cap (after so (copied l)) (map copied ls))) (pad_in l.pad l.line)
    ∙ ap (λ a. chosen cap so (may_join so l) (is_in l.line 125) a (run_from cap a (map copied ls))) (copied-after so l)
    ∙ ap (chosen cap so (may_join so l) (is_in l.line 125) (after so l)) (padded cap (after so l) ls)
