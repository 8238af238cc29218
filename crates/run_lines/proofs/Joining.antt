-- The loop of `join_run`: the state that code keeps shows the definition's, and the lent memory holds the joined text.
-- Assumes nothing.
use Rattle.std.specs.Prelude.{Err, None, Ok, Option, Result, Some}
use mathlib.Core.Path.{◌≡◌, refl, sym, ◌∙◌, ap}
use mathlib.Core.Bool.{Bool, true, false, cond}
use mathlib.Core.List.{List, [], ◌∷◌, ◌++◌, map}
use Prim.Native.Nat.{ℕ, zero, suc, ◌+◌, ◌-◌, ◌<◌, ◌≤◌}
use native.Mathlib.Numerals.{add-one}
use native.Mathlib.Omega.{arith}
use borrow.Author.Tests.{ne_eqb, ltb-false}
use lib.Dec.{eqb, ltb}
use lib.ListN.{length, take, drop, length-append}
use lib.Seq.{length-slice, take_at, drop_at, drop-drop}
use Rattle.base_lists.specs.Lists.{over}
use Rattle.base_lists.proofs.Parts.{slice_part}
use Rattle.base_lists.proofs.Sets.{over_long}
use Rattle.text_lines.specs.declared.LineEnd.{LineEnd}
use Rattle.text_lines.specs.Lines.{lines, line_from}
use Rattle.text_lines.proofs.Lines.{lines_end, line_at_lem, to_from, to_next, next_beyond, next_le}
use Rattle.text_tabs.specs.Columns.{capped}
use Rattle.text_tabs.proofs.Laws.{capped_id}
use Rattle.run_scanners.specs.Scanners.{last_open_brace, hold_from, hold_start, is_held, holds_open}
use Rattle.run_scanners.proofs.Laws.{hold_append, capped_twice}
use Rattle.base_refusals.specs.Numbers.{outcome_no}
use Rattle.base_refusals.specs.Orders.{Ground, order_no}
use Rattle.base_refusals.specs.declared.Refusal.TheVariants.{NoReading, JoinFull}
use Rattle.run_joins.specs.declared.State.{State}
use Rattle.run_joins.specs.declared.Effect.{Effect}
use Rattle.run_joins.specs.declared.Effect.TheVariants.{Broken, Full, Go, Closes}
use Rattle.run_lines.specs.declared.Joined.{Joined}
use Rattle.run_lines.specs.Runs.{as_is, start, Run, ended, run_from, run_at, order_from, run_order, past_lines, joined_of}
use Rattle.run_joins.specs.Joins.{Lined, at_pad, So, is_first, passes, may_join, added, brace_after, after, is_closing, run_in, state_of, hold_after, join_step, join_after}
use Rattle.run_joins.proofs.Steps.{adds_some, first_of, laid, laid_is}
use Rattle.base_refusals.specs.declared.Refusal.{Refusal}
use Rattle.run_scanners.specs.declared.Held.{Held}

-- ---- one line, by code and by definition

-- the state st shows the run so
pub record Shows (so : So) (st : State) : Type 0 where
  pub len : st.len ≡ length so.text
  pub first : eqb st.len 0 ≡ is_first so
  pub brace : st.brace ≡ capped so.brace
  pub base : st.base ≡ so.base
  pub quote : st.quote ≡ so.quote
  pub hold : st.hold ≡ hold_from hold_start so.text

pub shows_start : (base : ℕ) {h : Option Held} → h ≡ hold_start → Shows (start base) (record { len = 0; brace = 0; base = base; quote = None; hold = h })
unfolding hold_from
shows_start base e = record { len = refl; first = refl; brace = sym (capped_id 0 (omega arith)); base = refl; quote = refl; hold = e }

capped_brace : (b base : ℕ) (p : Option ℕ) → capped (brace_after (capped b) base p) ≡ capped (brace_after b base p)
capped_brace b base None = capped_twice b
capped_brace b base (Some c) = refl

-- what a step does to a state that shows the run `so`, whose text stands at the front of `buf`
module _ {so : So} {st : State} (buf : List ℕ) (s : Shows so st) (t : take st.len buf ≡ so.text) (l : Lined) where
  abbrev behind : So
  behind = after (run_in buf st) (at_pad l.pad l.line)

  abbrev pub kept : State
  kept = state_of behind (hold_after buf st l.line)

  shows_first : is_first (run_in buf st) ≡ is_first so
  shows_first = first_of (eqb st.len 0) ∙ s.first

  shows_tests : may_join (run_in buf st) (at_pad l.pad l.line) ≡ may_join so l
  unfolding passes
  shows_tests = ap (λ x. passes x st.brace st.quote l.pad l.line) shows_first ∙ rw (s.brace, s.quote, capped_twice so.brace)

  pub shows_text : behind.text ≡ (after so l).text
  shows_text = ap (λ x. take st.len buf ++ added x l.line) shows_first ∙ ap (λ x. x ++ added (is_first so) l.line) t

  shows_hold : hold_after buf st l.line ≡ hold_from hold_start (after so l).text
  shows_hold =
      ap (λ x. hold_from st.hold (added x l.line)) shows_first ∙ ap (λ h. hold_from h (added (is_first so) l.line)) s.hold
      ∙ sym (hold_append hold_start so.text (added (is_first so) l.line))

  shows_held : is_held (hold_after buf st l.line) ≡ holds_open (after so l).text
  unfolding holds_open
  shows_held = ap is_held shows_hold

  shows_after : may_join so l ≡ true → Shows (after so l) kept
  shows_after p =
      record {
        len = ap length shows_text;
        first = ne_eqb (length behind.text) 0 (λ z. absurd (omega (arith, z, ap length shows_text, adds_some so l.pad l.line (is_first so) p, length-append so.text (added (is_first so) l.line))))
            ∙ sym (ne_eqb (suc so.lines) 0 (λ z. absurd (omega arith)));
        brace = rw (s.brace, s.base) (capped_brace so.brace so.base (last_open_brace None l.pad l.line));
        base = refl;
        quote = refl;
        hold = shows_hold;
      }

  -- by the line's tests, whether it doesn't fit, and whether an open block is held
  abbrev chosen : Bool → Bool → Bool → Effect
  chosen x y h = cond x (cond y Full (cond (is_closing l.line h) (Closes kept) (Go kept))) Broken

  shows_step : join_step buf st l.pad l.line ≡ chosen (may_join so l) (ltb (length buf) (length (after so l).text)) (holds_open (after so l).text)
  unfolding join_step
  shows_step =
      ap (λ x. chosen x (ltb (length buf) (length behind.text)) (is_held (hold_after buf st l.line))) shows_tests
      ∙ ap (λ z. chosen (may_join so l) (ltb (length buf) (length z)) (is_held (hold_after buf st l.line))) shows_text
      ∙ ap (chosen (may_join so l) (ltb (length buf) (length (after so l).text))) shows_held

module _ (cap : ℕ) (so : So) (l : Lined) (ls : List Lined) where
  abbrev Joined-by : State → Type 0
  Joined-by v = Shows (after so l) v × (length (after so l).text ≤ cap)

  -- what the definition says where code takes a step
  abbrev pub Meets : Effect → Type 0
  Meets Broken = run_from cap so (l ∷ ls) ≡ ended (Err NoReading) so
  Meets Full = run_from cap so (l ∷ ls) ≡ ended (Err JoinFull) so
  Meets (Closes v) = (run_from cap so (l ∷ ls) ≡ ended (Ok tt) (after so l)) × Joined-by v
  Meets (Go v) = (run_from cap so (l ∷ ls) ≡ run_from cap (after so l) ls) × Joined-by v

pub meets : {so : So} {st : State} (buf : List ℕ) → Shows so st → take st.len buf ≡ so.text → (l : Lined) (ls : List Lined)
    → Meets (length buf) so l ls (join_step buf st l.pad l.line)
unfolding run_from
meets {so} {st} buf s t l ls = rw (shows_step buf s t l) (go (may_join so l) (ltb (length buf) (length (after so l).text)) (is_closing l.line (holds_open (after so l).text)) refl refl refl)
  where
    go : (x y z : Bool) → may_join so l ≡ x → ltb (length buf) (length (after so l).text) ≡ y → is_closing l.line (holds_open (after so l).text) ≡ z
        → Meets (length buf) so l ls (cond x (cond y Full (cond z (Closes (kept buf s t l)) (Go (kept buf s t l)))) Broken)
    go false y z p q r = rw p
    go true true z p q r = rw (p, q)
    go true false true p q r = (rw (p, q, r), (shows_after buf s t l p, ltb-false (length buf) _ q))
    go true false false p q r = (rw (p, q, r), (shows_after buf s t l p, ltb-false (length buf) _ q))

-- ---- the number

stop_no : (cap : ℕ) (so : So) (ls : List Lined) → outcome_no (run_from cap so ls).stop ≡ order_no (order_from cap so ls)
unfolding run_from order_from order_no
stop_no cap so [] = refl
stop_no cap so (l ∷ ls) = go (may_join so l) (ltb cap (length (after so l).text)) (is_closing l.line (holds_open (after so l).text)) (stop_no cap (after so l) ls)
  where
    go : (x y z : Bool) → outcome_no (run_from cap (after so l) ls).stop ≡ order_no (order_from cap (after so l) ls)
        → outcome_no (cond x (cond y (ended (Err JoinFull) so) (cond z (ended (Ok tt) (after so l)) (run_from cap (after so l) ls))) (ended (Err NoReading) so)).stop
        ≡ order_no (Ground.lacking NoReading x ∷ Ground.given JoinFull y ∷ cond z [] (order_from cap (after so l) ls))
    go false y z ih = refl
    go true true z ih = refl
    go true false true ih = refl
    go true false false ih = ih

pub joins_no : (cap base : ℕ) (t : List ℕ) (at : ℕ) {r : Joined} {A : Type 0} → (r ≡ joined_of t at (run_at cap base t at)) × A
    → (r ≡ joined_of t at (run_at cap base t at)) × (A × (outcome_no r.stop ≡ order_no (run_order cap base t at)))
unfolding run_at
joins_no cap base t at w = (w.0, (w.1, ap (λ j. outcome_no j.stop) w.0 ∙ stop_no cap (start base) (map as_is (lines (drop at t)))))

-- ---- the lent memory

over_more : (xs ys buf : List ℕ) → over (xs ++ ys) (over xs buf) ≡ over (xs ++ ys) buf
over_more xs ys buf =
    rw (length-append xs ys, ← drop-drop (length ys) (length xs) (over xs buf), drop_at xs (drop (length xs) buf) (length xs) refl, drop-drop (length ys) (length xs) buf)

-- the memory holds a run's text, which its state shows
module _ {so : So} {st : State} (buf₀ buf : List ℕ) (s : Shows so st) (e : buf ≡ over so.text buf₀) where
  pub text_front : take st.len buf ≡ so.text
  text_front = rw (e, s.len) (take_at so.text (drop (length so.text) buf₀) (length so.text) refl)

  -- behind a step it is as before, or holds the text behind the line
  pub laid_by : (l : Lined) {step : Effect} {b : List ℕ} → step ≡ join_step buf st l.pad l.line → b ≡ join_after buf st l.pad l.line
      → b ≡ laid step buf (over (after so l).text buf₀)
  laid_by l {step} p q =
      q ∙ laid_is buf st l.pad l.line ∙ ap (λ x. laid x buf (over (after (run_in buf st) (at_pad l.pad l.line)).text buf)) (sym p)
      ∙ ap (laid step buf) (ap (λ x. over x buf) (shows_text buf s text_front l) ∙ ap (over (after so l).text) e ∙ over_more so.text (added (is_first so) l.line) buf₀)

-- ---- the loop

past_on : (n : ℕ) (t : List ℕ) (at : ℕ) → past_lines (suc n) t at ≡ (line_from t (past_lines n t at)).next
unfolding past_lines
past_on zero t at = refl
past_on (suc n) t at = past_on n t (line_from t at).next

-- `count` lines from `at` on are joined, of `lookahead` bytes, and the next begins at `from`
pub record Has (t : List ℕ) (at : ℕ) (buf₀ buf : List ℕ) (st : State) (count lookahead from : ℕ) (so : So) : Type 0 where
  pub shows : Shows so st
  pub room : length so.text ≤ length buf₀
  pub content : buf ≡ over so.text buf₀
  pub counted : count ≡ so.lines
  pub ahead : lookahead ≡ so.lookahead
  pub past : from ≡ past_lines count t at
  pub few : count + at ≤ from
  pub short : lookahead + at ≤ from

module _ {t : List ℕ} {at : ℕ} {buf₀ buf : List ℕ} {st : State} {count lookahead from : ℕ} {so : So} (has : Has t at buf₀ buf st count lookahead from so) where
  pub has_long : length buf ≡ length buf₀
  has_long = rw has.content (over_long so.text buf₀ has.room)

  -- the run ends here
  pub has_ended : (R : Run) (x : Result (Unit {0}) Refusal) {r : Joined} → ended x so ≡ R → r ≡ record { stop = x; len = st.len; lines = count; lookahead = lookahead; next = from }
      → (r ≡ joined_of t at R) × (buf ≡ over R.text buf₀)
  has_ended R x e q = rw (← e) (q ∙ rw (has.shows.len, has.past, has.counted, has.ahead), has.content)

  -- one line more
  module _ (h : from < length t) {r : LineEnd} (e : r ≡ line_from t from) where
    pub to_in : (from ≤ r.to) × (r.to ≤ length t)
    to_in = rw e (to_from t from, omega (arith, to_next t from, next_le t from h))

    pub next_in : (from < r.next) × ((r.to ≤ r.next) × (r.next ≤ length t))
    next_in = rw e (next_beyond t from h, (to_next t from, next_le t from h))

    abbrev pub line : List ℕ
    line = take (r.to - from) (drop from t)

    line_long : length line ≡ r.to - from
    line_long = rw (← slice_part from r.to t) (length-slice from r.to t to_in.1)

    pub line_first : map as_is (lines (drop from t)) ≡ as_is line ∷ map as_is (lines (drop r.next t))
    line_first = rw (e, ← slice_part from (line_from t from).to t, line_at_lem t from h)

    pub has_next : {v : State} {buf' : List ℕ} → Joined-by (length buf₀) so (as_is line) [] v → buf' ≡ over (after so (as_is line)).text buf₀
        → Has t at buf₀ buf' v (count + 1) (lookahead + (r.to - from)) r.next (after so (as_is line))
    has_next j w =
        record {
          shows = j.0;
          room = j.1;
          content = w;
          counted = rw (add-one count) (ap suc has.counted);
          ahead = rw line_long (ap (λ n. n + (r.to - from)) has.ahead);
          past = rw (add-one count, past_on count t at, ← has.past, e);
          few = omega (arith, has.few, next_in);
          short = omega (arith, has.short, next_in, to_in);
        }

-- the run from the line that begins at `from` is the whole run
pub record Joins (t : List ℕ) (at : ℕ) (buf₀ : List ℕ) (R : Run) (buf : List ℕ) (st : State) (count lookahead from : ℕ) : Type 0 where
  pub so : So
  pub has : Has t at buf₀ buf st count lookahead from so
  pub rest : run_from (length buf₀) so (map as_is (lines (drop from t))) ≡ R

pub joins_start : (t : List ℕ) (at base : ℕ) (buf : List ℕ) {h : Option Held} → h ≡ hold_start
    → Joins t at buf (run_at (length buf) base t at) buf (record { len = 0; brace = 0; base = base; quote = None; hold = h }) 0 0 at
unfolding run_at past_lines
joins_start t at base buf e =
    record {
      so = start base;
      has = record { shows = shows_start base e; room = omega arith; content = refl; counted = refl; ahead = refl; past = refl; few = omega arith; short = omega arith };
      rest = refl;
    }

module _ {t : List ℕ} {at : ℕ} {buf₀ : List ℕ} {R : Run} {buf : List ℕ} {st : State} {count lookahead from : ℕ} (inv : Joins t at buf₀ R buf st count lookahead from) where
  abbrev Gives : Result (Unit {0}) Refusal → State → ℕ → ℕ → ℕ → Joined → Type 0
  Gives x v n a k r = r ≡ record { stop = x; len = v.len; lines = n; lookahead = a; next = k }

  abbrev Answers : Joined → List ℕ → Type 0
  Answers r b = (r ≡ joined_of t at R) × (b ≡ over R.text buf₀)

  pub joins_end : length t ≤ from → {r : Joined} → Gives (Err NoReading) st count lookahead from r → Answers r buf
  unfolding run_from
  joins_end h = has_ended inv.has R _ (rw (lines_end t from h) at inv.rest)

  module _ (h : from < length t) {r : LineEnd} (e : r ≡ line_from t from) where
    abbrev here : List ℕ
    here = line inv.has h e

    module _ {step : Effect} {buf' : List ℕ} {P : Type 0} (w : (step ≡ join_step buf st 0 here) × ((buf' ≡ join_after buf st 0 here) × P)) where
      met : Meets (length buf₀) inv.so (as_is here) (map as_is (lines (drop r.next t))) step
      met =
          rw (w.0, ← has_long inv.has)
          (meets buf inv.has.shows (text_front buf₀ buf inv.has.shows inv.has.content) (as_is here) (map as_is (lines (drop r.next t))))

      left : buf' ≡ laid step buf (over (after inv.so (as_is here)).text buf₀)
      left = laid_by buf₀ buf inv.has.shows inv.has.content (as_is here) w.0 w.1.0

      pub joins_long : length buf' ≡ length buf₀
      joins_long = rw left (go step met)
        where
          go : (x : Effect) → Meets (length buf₀) inv.so (as_is here) (map as_is (lines (drop r.next t))) x
              → length (laid x buf (over (after inv.so (as_is here)).text buf₀)) ≡ length buf₀
          go Broken m = has_long inv.has
          go Full m = has_long inv.has
          go (Go v) m = over_long (after inv.so (as_is here)).text buf₀ m.1.1
          go (Closes v) m = over_long (after inv.so (as_is here)).text buf₀ m.1.1

      whole : run_from (length buf₀) inv.so (as_is here ∷ map as_is (lines (drop r.next t))) ≡ R
      whole = rw (line_first inv.has h e) at inv.rest

      pub joins_broken : step ≡ Broken → {g : Joined} → Gives (Err NoReading) st count lookahead from g → Answers g buf'
      joins_broken q g = rw (rw q at left) (has_ended inv.has R _ (sym (rw q at met) ∙ whole) g)

      pub joins_full : step ≡ Full → {g : Joined} → Gives (Err JoinFull) st count lookahead from g → Answers g buf'
      joins_full q g = rw (rw q at left) (has_ended inv.has R _ (sym (rw q at met) ∙ whole) g)

      next : {v : State} → Joined-by (length buf₀) inv.so (as_is here) [] v → buf' ≡ over (after inv.so (as_is here)).text buf₀
          → Has t at buf₀ buf' v (count + 1) (lookahead + (r.to - from)) r.next (after inv.so (as_is here))
      next = has_next inv.has h e

      pub joins_closed : {v : State} → step ≡ Closes v → {g : Joined} → Gives (Ok tt) v (count + 1) (lookahead + (r.to - from)) r.next g → Answers g buf'
      joins_closed q g = has_ended (next (rw q at met).1 (rw q at left)) R _ (sym (rw q at met).0 ∙ whole) g

      pub joins_go : {v : State} → step ≡ Go v → Joins t at buf₀ R buf' v (count + 1) (lookahead + (r.to - from)) r.next
      joins_go q = record { so = after inv.so (as_is here); has = next (rw q at met).1 (rw q at left); rest = sym (rw q at met).0 ∙ whole }
