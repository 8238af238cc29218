-- One line of a run: its tests, its bytes in the lent memory, and the state behind it.
-- Assumes nothing.
use Rattle.std.specs.Prelude.{None, Option, Some}
use mathlib.Core.Path.{◌≡◌, refl, sym, ◌∙◌, ap}
use mathlib.Core.Bool.{Bool, true, false, cond, not}
use mathlib.Core.List.{List, [], ◌∷◌, ◌++◌}
use Prim.Native.Nat.{ℕ, suc, ◌+◌, ◌-◌, ◌<◌, ◌≤◌}
use native.Mathlib.Nat.{zero-add}
use native.Mathlib.Numerals.{add-one}
use native.Mathlib.Omega.{arith}
use borrow.Author.Tests.{eqb-false, ne_eqb, lt-ltb, le-ltb, leb-true, leb-false, ltb-false, not-true}
use lib.Dec.{eqb, ltb, leb}
use lib.ListN.{length, take, set, length-set, length-append}
use lib.Seq.{length-take-le, take_all, sets, sets-eq, length-sets}
use Rattle.base_lists.specs.Lists.{is_in, over}
use Rattle.base_lists.proofs.Scan.{both}
use Rattle.base_refusals.specs.Orders.{Ground, on_paper}
use Rattle.base_refusals.specs.declared.Refusal.TheVariants.{NoReading, JoinFull}
use Rattle.text_lines.specs.Trim.{trim, is_blank_line}
pub use Rattle.text_lines.proofs.Trim.{core_from, core_to, core_is}
use Rattle.text_tabs.specs.Columns.{indent_from, capped, most}
use Rattle.text_tabs.proofs.Laws.{capped_id, capped_top}
use Rattle.block_payloads.specs.Payloads.{continues}
use Rattle.run_scanners.specs.Scanners.{last_open_brace, open_quote_at_end, capped_at, hold_from, is_held}
use Rattle.run_joins.specs.declared.State.{State}
use Rattle.run_joins.specs.declared.Effect.{Effect}
use Rattle.run_joins.specs.declared.Effect.TheVariants.{Broken, Full, Go, Closes}
use Rattle.run_joins.specs.Joins.{at_pad, So, is_first, goes_on, passes, may_join, spaced, added, brace_after, after, is_full, is_closing, run_in, state_of, hold_after, join_step, join_after, effect_paper, join_order, join_values}
use Rattle.run_joins.specs.Inner.{next_state}
use Rattle.run_scanners.specs.declared.Held.{Held}

-- ---- a line's own tests

module _ (st : State) (pad : ℕ) (l : List ℕ) where
  abbrev On : Bool → Type 0
  On r = r ≡ goes_on st.brace st.quote pad l

  abbrev Passes : Bool → Type 0
  Passes r = r ≡ passes (eqb st.len 0) st.brace st.quote pad l

  module _ {n : ℕ} (h : st.brace ≤ most) (e : n ≡ capped (indent_from pad l)) where
    pub goes_low : n ≤ st.brace → On false
    goes_low k = rw (capped_id st.brace h, ← e, le-ltb st.brace n k)

    pub goes_quoted : {k : ℕ} → st.brace < n → st.quote ≡ Some k → On false
    goes_quoted i f = rw (capped_id st.brace h, ← e, lt-ltb st.brace n i, f)

    pub goes_out : {r : Bool} {core : List ℕ} → st.brace < n → st.quote ≡ None → core ≡ trim l → r ≡ continues core → On r
    goes_out i f c p = rw (capped_id st.brace h, ← e, lt-ltb st.brace n i, f, ← c) p

  module _ {core : List ℕ} (c : core ≡ trim l) where
    pub blank_refuses : length core ≡ 0 → Passes false
    unfolding passes is_blank_line
    blank_refuses e = rw (← c, e)

    pub first_passes : (length core ≡ 0 → ⊥) → st.len ≡ 0 → Passes true
    unfolding passes is_blank_line
    first_passes n e = rw (← c, ne_eqb (length core) 0 n, e)

    pub later-passes : {r : Bool} → (length core ≡ 0 → ⊥) → (st.len ≡ 0 → ⊥) → On r → Passes r
    unfolding passes is_blank_line
    later-passes n e p =
        let some : eqb (length (trim l)) 0 ≡ false = rw (← c) (ne_eqb (length core) 0 n) in
        rw (some, ne_eqb st.len 0 e) p

-- ---- room

module _ (cap len : ℕ) (core : List ℕ) where
  abbrev Lacks : Bool → Type 0
  Lacks r = r ≡ ltb cap (len + length (spaced (eqb len 0) core))

  pub lacks_first : len ≡ 0 → Lacks (ltb cap (length core))
  lacks_first e = rw e (ap (ltb cap) (sym (zero-add (length core))))

  spaced_long : (len ≡ 0 → ⊥) → len + length (spaced (eqb len 0) core) ≡ len + suc (length core)
  spaced_long n = rw (ne_eqb len 0 n)

  pub lacks_before : (len ≡ 0 → ⊥) → cap < len → Lacks true
  lacks_before n h = rw (spaced_long n) (sym (lt-ltb cap (len + suc (length core)) (omega arith)))

  pub lacks_behind : (len ≡ 0 → ⊥) → len ≤ cap → Lacks (leb (cap - len) (length core))
  lacks_behind n h = rw (spaced_long n) (go (leb (cap - len) (length core)) refl)
    where
      go : (x : Bool) → leb (cap - len) (length core) ≡ x → x ≡ ltb cap (len + suc (length core))
      go true e = let z = leb-true (cap - len) (length core) e in sym (lt-ltb cap (len + suc (length core)) (omega arith))
      go false e = let z = leb-false (cap - len) (length core) e in sym (le-ltb cap (len + suc (length core)) (omega arith))

-- ---- writing

module _ (buf : List ℕ) (len : ℕ) (core : List ℕ) where
  abbrev Put : ℕ → List ℕ → Type 0
  Put r b = (r ≡ len + length (spaced (eqb len 0) core)) × (b ≡ sets buf len (spaced (eqb len 0) core))

  pub put_first : {b : List ℕ} → len ≡ 0 → b ≡ sets buf 0 core → Put (length core) b
  put_first e p = rw e (sym (zero-add (length core)), p)

  pub room_later : (len ≡ 0 → ⊥) → len + length (spaced (eqb len 0) core) ≤ length buf → len + 1 + length core ≤ length buf
  room_later n h = omega (arith, rw (ne_eqb len 0 n) at h)

  pub put-later : {b : List ℕ} → (len ≡ 0 → ⊥) → b ≡ sets (set buf len 32) (len + 1) core → Put (len + 1 + length core) b
  put-later n p = (rw (ne_eqb len 0 n) (omega arith), rw (ne_eqb len 0 n) (rw (add-one len) at p))

  pub same_length : {b : List ℕ} → b ≡ sets (set buf len 32) (len + 1) core → length b ≡ length buf
  same_length p = rw p (length-sets (set buf len 32) (len + 1) core ∙ length-set buf len 32)

-- ---- the state behind a line

module _ (l : List ℕ) (hold : Option Held) where
  pub no_close : is_in l 125 ≡ false → false ≡ is_closing l (is_held hold)
  no_close e = rw e

  pub has_close : {h : Bool} → is_in l 125 ≡ true → h ≡ is_held hold → not h ≡ is_closing l (is_held hold)
  has_close e p = rw (e, p)

module _ (hold : Option Held) (core : List ℕ) where
  pub hold_first : {first : Bool} → first ≡ true → hold_from hold core ≡ hold_from hold (spaced first core)
  hold_first e = rw e

  pub hold_later : {first : Bool} → first ≡ false → hold_from (hold_from hold (32 ∷ [])) core ≡ hold_from hold (spaced first core)
  unfolding hold_from
  hold_later e = rw e

capped-sum : (base c : ℕ) → capped (base + capped c) ≡ capped (base + c)
capped-sum base c = go (leb c most) refl
  where
    go : (x : Bool) → leb c most ≡ x → capped (base + capped c) ≡ capped (base + c)
    go true e = rw (capped_id c (leb-true c most e))
    go false e =
        let h = leb-false c most e in
        let t : capped c ≡ most = capped_top c (omega arith) in
        rw t (capped_top (base + most) (omega arith) ∙ sym (capped_top (base + c) (omega arith)))

abbrev behind : Option ℕ → ℕ
behind None = 0
behind (Some c) = suc c

-- the place that the scanner found, as far as a number holds it
module _ (brace base : ℕ) (p : Option ℕ) {found : Option ℕ} (e : found ≡ capped_at p) where
  pub brace_kept : brace ≤ most → found ≡ None → brace ≡ capped (brace_after brace base p)
  brace_kept h f = go p (sym e ∙ f)
    where
      go : (p : Option ℕ) → capped_at p ≡ None → brace ≡ capped (brace_after brace base p)
      go None q = sym (capped_id brace h)
      go (Some c) q = absurd (omega (arith, ap behind q))

  pub brace_sum : {c : ℕ} → found ≡ Some c → capped (base + c) ≡ capped (brace_after brace base p)
  brace_sum {c} f = go p (sym e ∙ f)
    where
      go : (p : Option ℕ) → capped_at p ≡ Some c → capped (base + c) ≡ capped (brace_after brace base p)
      go None q = absurd (omega (arith, ap behind q))
      go (Some d) q = let z : c ≡ capped d = omega (arith, ap behind q) in rw z (capped-sum base d)

module _ (len : ℕ) (st : State) (pad : ℕ) (l : List ℕ) {core : List ℕ} (c : core ≡ trim l) where
  pub state_is : {b : ℕ} {q : Option ℕ} {hold : Option Held} → b ≡ capped (brace_after st.brace st.base (last_open_brace None pad l)) → q ≡ open_quote_at_end core
      → hold ≡ hold_from st.hold (spaced (eqb st.len 0) core) → record { len = len; brace = b; base = 0; quote = q; hold = hold } ≡ next_state len st pad l
  state_is x y z = rw (x, y, z, c)

-- ---- the run of a state

-- a line that passes adds a byte at least
some_spaced : (first : Bool) (s : List ℕ) → eqb (length s) 0 ≡ false → 0 < length (spaced first s)
some_spaced true s e = omega (arith, eqb-false (length s) 0 e)
some_spaced false s e = omega arith

pub adds_some : (so : So) (pad : ℕ) (l : List ℕ) (first : Bool) → passes (is_first so) so.brace so.quote pad l ≡ true → 0 < length (added first l)
unfolding passes is_blank_line
adds_some so pad l first p = some_spaced first (trim l) (not-true _ (both _ _ p).0)

pub first_of : (x : Bool) → eqb (cond x 0 1) 0 ≡ x
first_of true = refl
first_of false = refl

sets_over : (xs buf : List ℕ) (n : ℕ) → n + length xs ≤ length buf → sets buf n xs ≡ over (take n buf ++ xs) buf
sets_over xs buf n h =
    let e : length (take n buf ++ xs) ≡ n + length xs = omega (arith, length-append (take n buf) xs, length-take-le n buf (omega arith)) in
    sets-eq xs buf n h ∙ rw e

module _ (st : State) (pad : ℕ) (l buf : List ℕ) where
  abbrev so : So
  so = run_in buf st

  abbrev behind_line : So
  behind_line = after so (at_pad pad l)

  -- the bytes that the line adds, by the state's length
  abbrev bytes : List ℕ
  bytes = added (eqb st.len 0) l

  first_is : is_first so ≡ eqb st.len 0
  first_is = first_of (eqb st.len 0)

  text_is : behind_line.text ≡ (take st.len buf ++ bytes)
  text_is = ap (λ x. take st.len buf ++ added x l) first_is

  tests_are : {x : Bool} → Passes st pad l x → x ≡ may_join so (at_pad pad l)
  tests_are p = p ∙ ap (λ x. passes x st.brace st.quote pad l) (sym first_is)

  text_long : st.len ≤ length buf → length behind_line.text ≡ st.len + length bytes
  text_long h = rw text_is (omega (arith, length-append (take st.len buf) bytes, length-take-le st.len buf h))

  room_is : Passes st pad l true → ltb (length buf) (st.len + length bytes) ≡ is_full (length buf) so (at_pad pad l)
  room_is p = go (leb st.len (length buf)) refl
    where
      go : (x : Bool) → leb st.len (length buf) ≡ x → ltb (length buf) (st.len + length bytes) ≡ is_full (length buf) so (at_pad pad l)
      go true e = ap (ltb (length buf)) (sym (text_long (leb-true st.len (length buf) e)))
      go false e =
          let h = leb-false st.len (length buf) e in
          let k : length behind_line.text ≡ length buf + length bytes = rw text_is (rw (take_all st.len buf (omega arith)) (length-append buf bytes)) in
          lt-ltb (length buf) _ (omega arith) ∙ sym (lt-ltb (length buf) _ (omega (arith, k, adds_some so pad l (eqb st.len 0) (sym (tests_are p)))))

-- ---- the line itself

pub step_paper : (buf : List ℕ) (st : State) (pad : ℕ) (l : List ℕ) → effect_paper (join_step buf st pad l) ≡ on_paper (join_order buf st pad l) (join_values buf st pad l)
unfolding join_step on_paper
step_paper buf st pad l = go (may_join (run_in buf st) (at_pad pad l)) (is_full (length buf) (run_in buf st) (at_pad pad l)) (is_closing l (is_held (hold_after buf st l)))
  where
    n : State
    n = state_of (after (run_in buf st) (at_pad pad l)) (hold_after buf st l)

    go : (x y z : Bool) → effect_paper (cond x (cond y Full (cond z (Closes n) (Go n))) Broken)
        ≡ on_paper (Ground.lacking NoReading x ∷ Ground.given JoinFull y ∷ []) (cond z 1 0 ∷ n.len ∷ [])
    go false y z = refl
    go true true z = refl
    go true false true = refl
    go true false false = refl

-- what stands in the buffer behind a step, where a line that is joined leaves `written`
abbrev pub laid : Effect → List ℕ → List ℕ → List ℕ
laid Broken buf written = buf
laid Full buf written = buf
laid (Go st) buf written = written
laid (Closes st) buf written = written

pub laid_is : (buf : List ℕ) (st : State) (pad : ℕ) (l : List ℕ) → join_after buf st pad l ≡ laid (join_step buf st pad l) buf (over (after (run_in buf st) (at_pad pad l)).text buf)
unfolding join_step join_after
laid_is buf st pad l = go (may_join (run_in buf st) (at_pad pad l)) (is_full (length buf) (run_in buf st) (at_pad pad l)) (is_closing l (is_held (hold_after buf st l)))
  where
    n : State
    n = state_of (after (run_in buf st) (at_pad pad l)) (hold_after buf st l)

    w : List ℕ
    w = over (after (run_in buf st) (at_pad pad l)).text buf

    go : (x y z : Bool) → cond x (cond y buf (cond z w w)) buf ≡ laid (cond x (cond y Full (cond z (Closes n) (Go n))) Broken) buf w
    go false y z = refl
    go true true z = refl
    go true false true = refl
    go true false false = refl

module _ (st : State) (pad : ℕ) (l buf : List ℕ) where
  abbrev Answers : Effect → List ℕ → Type 0
  Answers r b = (r ≡ join_step buf st pad l) × ((b ≡ join_after buf st pad l) × (effect_paper r ≡ on_paper (join_order buf st pad l) (join_values buf st pad l)))

  -- a step, and the buffer that it leaves
  said : {r : Effect} {b : List ℕ} → r ≡ join_step buf st pad l → b ≡ laid r buf (over (after (run_in buf st) (at_pad pad l)).text buf) → Answers r b
  said e q = (e, (q ∙ ap (λ x. laid x buf (over (after (run_in buf st) (at_pad pad l)).text buf)) e ∙ sym (laid_is buf st pad l), ap effect_paper e ∙ step_paper buf st pad l))

  pub step_broken : Passes st pad l false → Answers Broken buf
  unfolding join_step
  step_broken p = said (rw (← tests_are st pad l buf p)) refl

  module _ (p : Passes st pad l true) {core : List ℕ} (c : core ≡ trim l) where
    room_by : {x : Bool} → Lacks (length buf) st.len core x → x ≡ is_full (length buf) (run_in buf st) (at_pad pad l)
    room_by q = q ∙ ap (λ s. ltb (length buf) (st.len + length (spaced (eqb st.len 0) s))) c ∙ room_is st pad l buf p

    pub step_full : Lacks (length buf) st.len core true → Answers Full buf
    unfolding join_step
    step_full q = said (rw (← tests_are st pad l buf p, ← room_by q)) refl

    pub step_room : Lacks (length buf) st.len core false → st.len + length (spaced (eqb st.len 0) core) ≤ length buf
    step_room q = ltb-false (length buf) _ (sym q)

    module _ (q : Lacks (length buf) st.len core false) {len : ℕ} {b : List ℕ} (w : Put buf st.len core len b) {next : State} (n : next ≡ next_state len st pad l) where
      abbrev kept : State
      kept = state_of (after (run_in buf st) (at_pad pad l)) (hold_after buf st l)

      fits : st.len + length (added (eqb st.len 0) l) ≤ length buf
      fits = rw c at (step_room q)

      long : len ≡ length (after (run_in buf st) (at_pad pad l)).text
      long = w.0 ∙ ap (λ s. st.len + length (spaced (eqb st.len 0) s)) c ∙ sym (text_long st pad l buf (omega (arith, fits)))

      next_is : next ≡ kept
      next_is =
          n ∙ ap (λ k. next_state k st pad l) long
          ∙ ap (λ x. state_of (after (run_in buf st) (at_pad pad l)) (hold_from st.hold (added x l))) (sym (first_is st pad l buf))

      joined : cond (is_closing l (is_held next.hold)) (Closes next) (Go next) ≡ join_step buf st pad l
      unfolding join_step
      joined = rw (← tests_are st pad l buf p, ← room_by q) (ap (λ v. cond (is_closing l (is_held v.hold)) (Closes v) (Go v)) next_is)

      written : b ≡ over (after (run_in buf st) (at_pad pad l)).text buf
      written =
          w.1 ∙ ap (λ s. sets buf st.len (spaced (eqb st.len 0) s)) c ∙ sets_over (added (eqb st.len 0) l) buf st.len fits
          ∙ ap (λ s. over s buf) (sym (text_is st pad l buf))

      pub step_closes : true ≡ is_closing l (is_held next.hold) → Answers (Closes next) b
      step_closes x = said (ap (λ y. cond y (Closes next) (Go next)) x ∙ joined) written

      pub step_go : false ≡ is_closing l (is_held next.hold) → Answers (Go next) b
      step_go x = said (ap (λ y. cond y (Closes next) (Go next)) x ∙ joined) written
