-- The reason that is told of a line at which a run is refused.
-- Assumes nothing.
use Rattle.std.specs.Prelude.{Err, None, Ok, Option, Some}
use mathlib.Core.Path.{◌≡◌, refl, sym, ◌∙◌, ap}
use mathlib.Core.Bool.{Bool, true, false, cond, not, ◌&&◌, ◌||◌}
use mathlib.Core.List.{List, [], ◌∷◌, map}
use Prim.Native.Nat.{ℕ, zero, suc, ◌+◌, ◌-◌, ◌<◌, ◌≤◌}
use native.Mathlib.Nat.{zero-add}
use native.Mathlib.Omega.{arith}
use borrow.Author.Tests.{ltb-true, ltb-false, leb-true, leb-false, le-leb, lt-leb, lt-ltb}
use lib.Dec.{eqb, leb, ltb}
use lib.ListN.{length, drop}
use lib.Seq.{slice}
use Rattle.base_lists.proofs.More.{contra}
use Rattle.base_refusals.specs.declared.Refusal.TheVariants.{NoReading, JoinFull}
use Rattle.text_lines.specs.Lines.{lines, line_from, line_at}
use Rattle.text_lines.specs.Trim.{trim, is_blank_line}
use Rattle.text_lines.proofs.Lines.{lines_end, line_at_lem, next_beyond}
use Rattle.text_tabs.specs.Columns.{indent_from, indent_columns, capped}
use Rattle.block_payloads.specs.Payloads.{continues}
use Rattle.block_trimmed_line.proofs.Trimmed.{line_is}
use Rattle.run_scanners.specs.Scanners.{in_quote, holds_open, last_open_brace, capped_at}
use Rattle.run_scanners.proofs.Laws.{capped_twice}
use Rattle.run_joins.specs.Joins.{Lined, So, goes_on, passes, may_join, is_full, is_closing, after, brace_after}
use Rattle.run_lines.specs.Runs.{as_is, start, Run, ended, run_from, run_at}
use Rattle.run_lines.proofs.Bounds.{took}
use Rattle.run_stops.specs.declared.Edge.{Edge}
use Rattle.run_stops.specs.declared.Why.TheVariants as why
use Rattle.run_stops.specs.Stops.{brace_or, edge_after, edge_past, edge_of, why_of}
use Rattle.proved_findings.specs.Stops.{Reason, TrueReasons}

-- what lines leave is what a run has behind them
record Match (so : So) (e : Edge) : Type 0 where
  brace : e.brace ≡ capped so.brace
  quote : e.quote ≡ so.quote
  base : so.base ≡ 0

match_on : (t : List ℕ) (so : So) (e : Edge) → Match so e → Match (after so (as_is (line_at t e.at))) (edge_after t e)
unfolding edge_after
match_on t so e m = record { brace = go (last_open_brace None 0 (line_at t e.at)); quote = refl; base = refl }
  where
    go : (p : Option ℕ) → brace_or e.brace (capped_at p) ≡ capped (brace_after so.brace so.base p)
    go None = m.brace
    go (Some c) = rw (m.base, zero-add c)

edge_next : (t : List ℕ) (e : Edge) → (edge_after t e).at ≡ (line_from t e.at).next
unfolding edge_after
edge_next t e = refl

-- the run has stopped at the text's end, or at a line that may not be joined
data Last (t : List ℕ) (e : Edge) : Type 0 where
  over : length t ≤ e.at → Last t e
  broken : (so : So) → Match so e → e.at < length t → may_join so (as_is (line_at t e.at)) ≡ false → Last t e

module _ (t : List ℕ) (cap : ℕ) where
  abbrev run : So → ℕ → Run
  run so at = run_from cap so (map as_is (lines (drop at t)))

  Ends : So → Edge → Type 0
  Ends so e = (run so e.at).stop ≡ Err NoReading → Last t (edge_past t ((run so e.at).lines - so.lines) e)

  at_end : (so : So) (e : Edge) → length t ≤ e.at → Ends so e
  unfolding Ends run_from edge_past
  at_end so e h s = let z : so.lines - so.lines ≡ 0 = omega arith in rw (lines_end t e.at h, z) (Last.over h)

  at_line : (so : So) (e : Edge) → Match so e → e.at < length t → Ends (after so (as_is (line_at t e.at))) (edge_after t e) → Ends so e
  unfolding Ends run_from edge_past edge_after
  at_line so e m h ih = rw (line_at_lem t e.at h, ← line_is t e.at) (go (may_join so l) refl (is_full cap so l) (is_closing l.line (holds_open next.text)) (took cap next rest).counted ih)
    where
      l : Lined
      l = as_is (line_at t e.at)

      next : So
      next = after so l

      rest : List Lined
      rest = map as_is (lines (drop (line_from t e.at).next t))

      R : Bool → Bool → Bool → Run
      R x y z = cond x (cond y (ended (Err JoinFull) so) (cond z (ended (Ok tt) next) (run_from cap next rest))) (ended (Err NoReading) so)

      go : (x : Bool) → may_join so l ≡ x → (y z : Bool) → (run_from cap next rest).lines ≡ next.lines + (took cap next rest).n
          → ((run_from cap next rest).stop ≡ Err NoReading → Last t (edge_past t ((run_from cap next rest).lines - next.lines) (edge_after t e)))
          → (R x y z).stop ≡ Err NoReading → Last t (edge_past t ((R x y z).lines - so.lines) e)
      go false p y z w ih s = let u : so.lines - so.lines ≡ 0 = omega arith in rw u (Last.broken so m h p)
      go true p true z w ih s = contra true refl (cc)
      go true p false true w ih s = contra true refl (cc)
      go true p false false w ih s =
          let u : (run_from cap next rest).lines - so.lines ≡ suc ((run_from cap next rest).lines - next.lines) = omega (arith, w) in
          rw u (ih s)

  ends : (fuel : ℕ) (so : So) (e : Edge) → Match so e → length t ≤ e.at + fuel → Ends so e
  ends zero so e m h = at_end so e (omega (arith, h))
  ends (suc fuel) so e m h = go (ltb e.at (length t)) refl (ends fuel (after so (as_is (line_at t e.at))) (edge_after t e) (match_on t so e m))
    where
      go : (x : Bool) → ltb e.at (length t) ≡ x → (length t ≤ (edge_after t e).at + fuel → Ends (after so (as_is (line_at t e.at))) (edge_after t e)) → Ends so e
      go false x ih = at_end so e (ltb-false e.at (length t) x)
      go true x ih = let l = ltb-true e.at (length t) x in at_line so e m l (ih (omega (arith, h, edge_next t e, next_beyond t e.at l)))

-- ---- each reason

entries : (so : So) (e : Edge) (l : List ℕ) → Match so e → is_blank_line l ≡ false → e.quote ≡ None → leb (capped (indent_columns l)) e.brace ≡ false → may_join so (as_is l) ≡ false
    → continues (trim l) ≡ false
unfolding passes indent_columns
entries so e l m b z k p =
    let i : ltb (capped so.brace) (capped (indent_from 0 l)) ≡ true = lt-ltb (capped so.brace) (capped (indent_from 0 l)) (rw m.brace at (leb-false (capped (indent_from 0 l)) e.brace k)) in
    let q : so.quote ≡ None = sym m.quote ∙ z in
    go (eqb so.lines 0) (rw (b, i, q) at p)
  where
    go : (f : Bool) → (f || continues (trim l)) ≡ false → continues (trim l) ≡ false
    go true w = contra true refl w
    go false w = w

reasons : (t : List ℕ) (e : Edge) → Last t e → Reason t e (why_of t e)
unfolding why_of
reasons t e last = by e.quote refl
  where
    left : (so : So) → Match so e → may_join so (as_is (line_at t e.at)) ≡ false → is_blank_line (line_at t e.at) ≡ false → e.quote ≡ None
        → (b : Bool) → leb (capped (indent_columns (line_at t e.at))) e.brace ≡ b → Reason t e (cond b why.Left why.Entries)
    left so m p y z true w = leb-true (capped (indent_columns (line_at t e.at))) e.brace w
    left so m p y z false w = entries so e (line_at t e.at) m y z w p

    unjoined : (so : So) → Match so e → may_join so (as_is (line_at t e.at)) ≡ false → e.quote ≡ None
        → (x : Bool) → is_blank_line (line_at t e.at) ≡ x → Reason t e (cond x why.Blank (cond (leb (capped (indent_columns (line_at t e.at))) e.brace) why.Left why.Entries))
    unjoined so m p z true y = y
    unjoined so m p z false y = left so m p y z (leb (capped (indent_columns (line_at t e.at))) e.brace) refl

    unquoted : e.quote ≡ None → Last t e
        → Reason t e (cond (leb (length t) e.at) why.End (cond (is_blank_line (line_at t e.at)) why.Blank (cond (leb (capped (indent_columns (line_at t e.at))) e.brace) why.Left why.Entries)))
    unquoted z (Last.over h) = rw (le-leb (length t) e.at h) h
    unquoted z (Last.broken so m h p) = rw (lt-leb (length t) e.at h) (unjoined so m p z (is_blank_line (line_at t e.at)) refl)

    by : (q : Option ℕ) → e.quote ≡ q
        → Reason t e (cond (in_quote q) why.Quoted (cond (leb (length t) e.at) why.End (cond (is_blank_line (line_at t e.at)) why.Blank (cond (leb (capped (indent_columns (line_at t e.at))) e.brace) why.Left why.Entries))))
    by (Some k) z = ap in_quote z
    by None z = unquoted z last

match_first : (at : ℕ) → Match (start 0) (record { at = at; last = at; brace = 0; quote = None })
unfolding capped
match_first at = record { brace = refl; quote = refl; base = refl }

first_last : (t : List ℕ) (cap at : ℕ) → (run_at cap 0 t at).stop ≡ Err NoReading → Last t (edge_of t at (run_at cap 0 t at).lines)
unfolding run_at edge_of Ends
first_last t cap at s =
    let z : (run_at cap 0 t at).lines - 0 ≡ (run_at cap 0 t at).lines = omega arith in
    rw z at (ends t cap (length t) (start 0) (record { at = at; last = at; brace = 0; quote = None }) (match_first at) (omega arith) s)

pub true_reasons : TrueReasons
true_reasons t cap at s = reasons t (edge_of t at (run_at cap 0 t at).lines) (first_last t cap at s)
