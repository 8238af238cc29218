-- "Runs of lines": what a run has when a line comes, what is asked of the line, what it adds, and what it does to the run.
use Rattle.std.specs.Prelude.{ℕ, suc, ◌+◌, Bool, cond, ◌&&◌, ◌||◌, not, List, [], ◌∷◌, ◌++◌, eqb, ltb, length, take, None, Option, Some}
use Rattle.base_lists.specs.Lists.{is_in, over}
use Rattle.text_lines.specs.Trim.{trim, is_blank_line}
use Rattle.text_tabs.specs.Columns.{indent_from, capped}
use Rattle.block_payloads.specs.Payloads.{continues}
use Rattle.run_scanners.specs.Scanners.{in_quote, open_quote_at_end, last_open_brace, hold_from, is_held}
use Rattle.base_refusals.specs.Numbers.{Paper, refused_paper, passed_paper}
use Rattle.base_refusals.specs.Orders.{Ground}
use Rattle.base_refusals.specs.declared.Refusal.TheVariants.{NoReading, JoinFull}
use Rattle.run_joins.specs.declared.State.{State}
use Rattle.run_joins.specs.declared.Effect.{Effect}
use Rattle.run_joins.specs.declared.Effect.TheVariants.{Broken, Full, Go, Closes}
use Rattle.base_bytes.specs.Bytes.{close_brace, space}
use Rattle.run_scanners.specs.declared.Held.{Held}

-- ---- a line and a run

-- "Padded `repaired` copies: pads as numbers": `pad` columns stand before the line's bytes, and `size` is its untrimmed length
pub record Lined : Type 0 where
  pub pad : ℕ
  pub line : List ℕ
  pub size : ℕ

-- a line that is counted as it stands
abbrev pub at_pad : ℕ → List ℕ → Lined
at_pad pad l = record { pad = pad; line = l; size = length l }

-- What a run has when the next line comes: the text joined so far, of so many lines and so many untrimmed bytes, the column of the last open brace, what is added to
-- the first line's brace column (0 behind that line), and the quote that is left open.
pub record So : Type 0 where
  pub text : List ℕ
  pub lines : ℕ
  pub lookahead : ℕ
  pub brace : ℕ
  pub base : ℕ
  pub quote : Option ℕ

abbrev pub is_first : So → Bool
is_first so = eqb so.lines 0

-- ---- a line's own tests

-- "Each later line must be indented beyond the last open brace's column, pass `valid_wrapped_attr_continuation`, and follow no open quote."
-- (They compare as what a `usize` holds of them. Where that holds the pad and four columns for each byte, the true numbers compare so.)
abbrev pub goes_on : ℕ → Option ℕ → ℕ → List ℕ → Bool
goes_on brace quote pad l = ltb (capped brace) (capped (indent_from pad l)) && (not (in_quote quote) && continues (trim l))

-- 000: a blank line refuses the run; of the first line nothing else is asked
unfoldable pub passes : Bool → ℕ → Option ℕ → ℕ → List ℕ → Bool
passes first brace quote pad l = not (is_blank_line l) && (first || goes_on brace quote pad l)

abbrev pub may_join : So → Lined → Bool
may_join so l = passes (is_first so) so.brace so.quote l.pad l.line

-- ---- what a line adds

-- "joined by one space", which the first line has not
abbrev pub spaced : Bool → List ℕ → List ℕ
spaced first s = cond first s (space ∷ s)

-- "trimmed lines"
abbrev pub added : Bool → List ℕ → List ℕ
added first l = spaced first (trim l)

-- "`attrs_block_len_at` adds its column to the first line's brace column, without wrapping."
abbrev pub brace_after : ℕ → ℕ → Option ℕ → ℕ
brace_after brace base None = brace
brace_after brace base (Some c) = base + c

-- the run behind a line that is joined
abbrev pub after : So → Lined → So
after so l =
    record {
      text = so.text ++ added (is_first so) l.line;
      lines = suc so.lines;
      -- "the sum of the untrimmed lengths of the lines joined"
      lookahead = so.lookahead + l.size;
      -- outside quotes: 000 starts in the quote left open, but refuses a line behind one
      brace = brace_after so.brace so.base (last_open_brace None l.pad l.line);
      base = 0;
      quote = open_quote_at_end (trim l.line);
    }

-- ---- what a line does to a run

-- "the next line to join doesn't fit the join buffer", which has `cap` bytes
abbrev pub is_full : ℕ → So → Lined → Bool
is_full cap so l = ltb cap (length (after so l).text)

-- "The run ends at the first line with a `}` after which the joined text holds no open block": `held` says whether it holds one
abbrev pub is_closing : List ℕ → Bool → Bool
is_closing l held = is_in l close_brace && not held

-- The line may not be joined, or doesn't fit, and isn't joined then; or it is joined, and the run ends behind it or goes on. What is told of each case is given.
abbrev pub by_line : {A : Type 0} → ℕ → So → Lined → Bool → A → A → (So → A) → (So → A) → A
by_line cap so l held broken full ends goes =
    cond (may_join so l) (cond (is_full cap so l) full (cond (is_closing l.line held) (ends (after so l)) (goes (after so l)))) broken

-- "9 or 5 as the run meets them": 5 where the line may not be joined, 9 where it doesn't fit
abbrev pub by_line_order : ℕ → So → Lined → List Ground
by_line_order cap so l = Ground.lacking NoReading (may_join so l) ∷ Ground.given JoinFull (is_full cap so l) ∷ []

-- ---- the state that is kept of a run

-- the run of a state: its text stands at the front of the join buffer `buf`, and of its lines the state says only whether there is one
abbrev pub run_in : List ℕ → State → So
run_in buf st =
    record {
      text = take st.len buf;
      lines = cond (eqb st.len 0) 0 1;
      lookahead = 0;
      brace = st.brace;
      base = st.base;
      quote = st.quote;
    }

-- the state of a run, where its scan for an open block stands at `hold`
abbrev pub state_of : So → Option Held → State
state_of so hold = record { len = length so.text; brace = capped so.brace; base = so.base; quote = so.quote; hold = hold }

-- the state's scan goes on over what the line adds
abbrev pub hold_after : List ℕ → State → List ℕ → Option Held
hold_after buf st l = hold_from st.hold (added (is_first (run_in buf st)) l)

-- a line that is joined to the run of a state
abbrev pub line_in : {A : Type 0} → List ℕ → State → ℕ → List ℕ → A → A → (So → A) → (So → A) → A
line_in buf st pad l = by_line (length buf) (run_in buf st) (at_pad pad l) (is_held (hold_after buf st l))

unfoldable pub join_step : List ℕ → State → ℕ → List ℕ → Effect
join_step buf st pad l = line_in buf st pad l Broken Full (λ so. Closes (state_of so (hold_after buf st l))) (λ so. Go (state_of so (hold_after buf st l)))

-- "After every call the join buffer holds the joined lines at its front, the rest untouched."
unfoldable pub join_after : List ℕ → State → ℕ → List ℕ → List ℕ
join_after buf st pad l = line_in buf st pad l buf buf (λ so. over so.text buf) (λ so. over so.text buf)

-- ---- this paper's number and values

-- 5 where the line refuses the run, 9 where it has no room; else whether it closes the run, and the joined text's length
abbrev pub effect_paper : Effect → Paper
effect_paper Broken = refused_paper NoReading
effect_paper Full = refused_paper JoinFull
effect_paper (Go st) = passed_paper (0 ∷ st.len ∷ [])
effect_paper (Closes st) = passed_paper (1 ∷ st.len ∷ [])

abbrev pub join_order : List ℕ → State → ℕ → List ℕ → List Ground
join_order buf st pad l = by_line_order (length buf) (run_in buf st) (at_pad pad l)

abbrev pub join_values : List ℕ → State → ℕ → List ℕ → List ℕ
join_values buf st pad l = cond (is_closing l (is_held (hold_after buf st l))) 1 0 ∷ length (after (run_in buf st) (at_pad pad l)).text ∷ []
