-- Call by call: what a refusal lays, the calls come to an end, and what they lay is the report, each byte once and nothing else.
-- Assumes nothing.
use Rattle.std.specs.Prelude.{Err, Ok, Result}
use mathlib.Core.Path.{◌≡◌, refl, sym, ◌∙◌, ap}
use mathlib.Core.Bool.{Bool, true, false, cond}
use mathlib.Core.List.{List, [], ◌∷◌, ◌++◌, append_assoc, append-nil, flat_map}
use Prim.Native.Nat.{ℕ, zero, suc, ◌+◌, ◌-◌, ◌≤◌, ◌<◌}
use native.Mathlib.Omega.{arith}
use borrow.Author.Tests.{ltb-true, ltb-false, le-ltb}
use lib.Dec.{ltb}
use lib.ListN.{length, drop, length-append}
use lib.Seq.{take-append_seam}
use Rattle.base_lists.proofs.More.{contra}
use Rattle.text_utf8.specs.Computed.{is_utf8}
use Rattle.base_refusals.specs.Numbers.{max_text}
use Rattle.base_refusals.specs.declared.Refusal.TheVariants.{TextTooLong, NotUtf8, JoinFull, NothingThere, CanonTooLong}
use Rattle.text_checks.specs.Check.{check_of, is_text}
use Rattle.text_checks.proofs.Texts.{passed, refused}
use Rattle.text_lines.specs.Lines.{line_from}
use Rattle.text_lines.proofs.Lines.{next_beyond}
use Rattle.run_lines.specs.Runs.{past_lines}
use Rattle.read_blocks.specs.Blocks.{Found, lines_of}
use Rattle.read_lengths.specs.Lengths.{flush_left}
use Rattle.sheet_blocks.specs.Sheets.{Try, tries_at, is_block, only_blocks}
use Rattle.sheet_blocks.proofs.Tries.{some_lines, tries_end, try, tries_on, tries_past}
use Rattle.sheet_blocks.proofs.Goes.{block_bytes}
use Rattle.sheet_report.specs.declared.Told.TheVariants.{More, Done}
use Rattle.sheet_report.specs.declared.Part.{Part}
use Rattle.sheet_report.specs.Report.{refused_line, block_line, report_of, report_by, report}
use Rattle.sheet_report.specs.Parts.{part_of, max_line, Laid, laid_none, stopped, laid_behind, try_line, lay_from, begins_line, start_by, start_of, shown_part, may_begin}
use Rattle.sheet_report.proofs.Entries.{part_lays}
use Rattle.sheet_report.proofs.Lays.{lay_on, lay_here, lay_stop}
use Rattle.proved_sheets.proofs.Rooms.{blocks_are}
use Rattle.proved_sheets.proofs.Begins.{Begins, next_begins, past_begins, begins_at}
use Rattle.proved_sheets.specs.Calls.{laid_in, Leaves, Goes_on, PartGoes, Lent, first_call, call_at, Calls, AllLaid, AllEnd, AtOnce, NoMore, refused_lays, RefusedLaid}
use Rattle.base_refusals.specs.declared.Refusal.{Refusal}

-- ---- the report of tries

report_first : (t : List ℕ) (x : Try) (xs : List Try) → report_of t (only_blocks (x ∷ xs)) ≡ try_line t x ++ report_of t (only_blocks xs)
unfolding only_blocks report_of flat_map try_line
report_first t x xs = go (is_block x.found)
  where
    go : (b : Bool) → report_of t (cond b (x ∷ only_blocks xs) (only_blocks xs)) ≡ cond b (block_line t x) [] ++ report_of t (only_blocks xs)
    go true = refl
    go false = refl

report-append : (t : List ℕ) (xs ys : List Try) → report_of t (only_blocks (xs ++ ys)) ≡ report_of t (only_blocks xs) ++ report_of t (only_blocks ys)
unfolding only_blocks report_of flat_map
report-append t [] ys = refl
report-append t (x ∷ xs) ys =
    report_first t x (xs ++ ys) ∙ ap (λ (l : List ℕ). try_line t x ++ l) (report-append t xs ys)
    ∙ rw (report_first t x xs) (sym (append_assoc (try_line t x) (report_of t (only_blocks xs)) (report_of t (only_blocks ys))))

-- what a call lays is the report of the tries that it goes past
lay_text : (t : List ℕ) (room : ℕ) (xs : List Try) → (lay_from t room xs).text ≡ report_of t (only_blocks (lay_from t room xs).past)
unfolding lay_from only_blocks report_of flat_map
lay_text t room [] = refl
lay_text t room (x ∷ xs) = go (ltb room max_line) (lay_text t (room - length (try_line t x)) xs)
  where
    R : Laid
    R = lay_from t (room - length (try_line t x)) xs

    go : (b : Bool) → R.text ≡ report_of t (only_blocks R.past) → (cond b (stopped x) (laid_behind (x ∷ []) (try_line t x) R)).text ≡ report_of t (only_blocks (cond b (stopped x) (laid_behind (x ∷ []) (try_line t x) R)).past)
    go true ih = refl
    go false ih = rw ih (sym (report_first t x R.past))

-- with room for the whole report and one line more, a call lays all of it
one_call : (t : List ℕ) (room : ℕ) (xs : List Try) → length (report_of t (only_blocks xs)) + max_line ≤ room → ((lay_from t room xs).told ≡ Ok Done) × ((lay_from t room xs).past ≡ xs)
unfolding lay_from
one_call t room [] h = (refl, refl)
one_call t room (x ∷ xs) h =
    let l = length-append (try_line t x) (report_of t (only_blocks xs)) in
    let e = ap length (report_first t x xs) in
    let ih = one_call t (room - length (try_line t x)) xs (omega (arith, l, e)) in
    rw (le-ltb room max_line (omega arith)) (ih.0, ap (λ (ys : List Try). x ∷ ys) ih.1)

-- ---- from the line at a place on

-- all of it was laid, or the next call goes on at a line farther on, where a line begins that can have its number, and the tries from there on are those that are left
data Led (t : List ℕ) (cap room n at : ℕ) (R : Laid) : Type 0 where
  whole : R.told ≡ Ok Done → R.past ≡ tries_at t cap n at → Led t cap room n at R
  part : R.told ≡ Ok More → n ≤ R.line → R.line ≤ R.at + 1 → R.at < length t → begins_line t R.at ≡ true → at ≤ R.at → (max_line ≤ room → at < R.at)
      → tries_at t cap n at ≡ R.past ++ tries_at t cap R.line R.at → Led t cap room n at R

module _ (t : List ℕ) (cap : ℕ) where
  led_on : {room room' n at m k : ℕ} (xs : List ℕ) (R : Laid) → tries_at t cap n at ≡ try t cap n at ∷ tries_at t cap m k → n ≤ m → at < k
      → Led t cap room' m k R → Led t cap room n at (laid_behind (try t cap n at ∷ []) xs R)
  led_on {n = n} {at = at} xs R e h l (Led.whole d p) = Led.whole d (rw e (ap (λ (ys : List Try). try t cap n at ∷ ys) p))
  led_on {n = n} {at = at} xs R e h l (Led.part d a b c s f g p) =
      Led.part d (omega arith) b c s (omega arith) (λ r. omega arith) (rw e (ap (λ (ys : List Try). try t cap n at ∷ ys) p))

  led : (fuel room n at : ℕ) → length t ≤ at + fuel → n ≤ at + 1 → Begins t at → Led t cap room n at (lay_from t room (tries_at t cap n at))
  unfolding lay_from
  led zero room n at h b s = let e = tries_end t cap n at (omega arith) in Led.whole (rw e) (rw e)
  led (suc fuel) room n at h b s = go (ltb at (length t)) refl (ltb room max_line) refl (is_block f) refl (led fuel)
    where
      f : Found
      f = flush_left t cap at

      go : (x : Bool) → ltb at (length t) ≡ x → (y : Bool) → ltb room max_line ≡ y → (z : Bool) → is_block f ≡ z
          → ((room n at : ℕ) → length t ≤ at + fuel → n ≤ at + 1 → Begins t at → Led t cap room n at (lay_from t room (tries_at t cap n at))) → Led t cap room n at (lay_from t room (tries_at t cap n at))
      go false x y p z q ih = let e = tries_end t cap n at (ltb-false at (length t) x) in Led.whole (rw e) (rw e)
      go true x true p z q ih =
          let l = ltb-true at (length t) x in
          rw (lay_stop t cap n at l (ltb-true room max_line p)) (Led.part refl (omega arith) b l (s l) (omega arith) (λ r. absurd (omega (arith, ltb-true room max_line p))) refl)
      go true x false p false q ih =
          let l = ltb-true at (length t) x in
          let e = tries_on t cap n at l q in
          let m = next_beyond t at l in
          rw (ap (lay_from t room) e ∙ lay_on t (ltb-false room max_line p) (try t cap n at) (tries_at t cap (suc n) (line_from t at).next) q)
          (led_on [] _ e (omega arith) m (ih room (suc n) (line_from t at).next (omega (arith, h, m)) (omega (arith, b, m)) (next_begins t at)))
      go true x false p true q ih =
          let l = ltb-true at (length t) x in
          let e = tries_past t cap n at l q in
          let m = block_bytes t cap at l in
          let k = some_lines t at cap q in
          rw (ap (lay_from t room) e ∙ lay_here t (ltb-false room max_line p) (try t cap n at) (tries_at t cap (n + lines_of f) (past_lines (lines_of f) t at)) q)
          (led_on (block_line t (try t cap n at)) _ e (omega arith) (omega (arith, m, k)) (ih (room - length (block_line t (try t cap n at))) (n + lines_of f) (past_lines (lines_of f) t at) (omega (arith, h, m, k)) (omega (arith, b, m)) (past_begins (lines_of f) t at s)))

-- ---- an answer, and what it leaves of the report

laid_text : (out : List ℕ) (r : Laid) → laid_in out r ≡ r.text
laid_text out r = take-append_seam r.text (drop (length r.text) out)

module _ (t : List ℕ) (fits : length t ≤ max_text) where
  goes_by : (n at : ℕ) (out : List ℕ) → 1 ≤ n → max_line ≤ length out → (R : Laid) → R.text ≡ report_of t (only_blocks R.past) → Led t max_text (length out) n at R
      → Goes_on t at out R (report_of t (only_blocks (tries_at t max_text n at)))
  goes_by n at out h s R e (Led.whole d p) =
      record {
        rest = [];
        leaves = Leaves.nothing (λ m. let z : ◌≡◌ {A = ℕ} 0 1 = cc in absurd (omega arith));
        sum = append-nil (laid_in out R) ∙ laid_text out R ∙ rw (← p) e;
        farther = λ m. let z : ◌≡◌ {A = ℕ} 0 1 = cc in absurd (omega arith);
      }
  goes_by n at out h s R e (Led.part d a b c i f g p) =
      record {
        rest = report_of t (only_blocks (tries_at t max_text R.line R.at));
        leaves = Leaves.more d fits (omega arith) b c i;
        sum = rw (laid_text out R, e) (sym (ap (λ (xs : List Try). report_of t (only_blocks xs)) p ∙ report-append t R.past (tries_at t max_text R.line R.at)));
        farther = λ m. g s;
      }

-- a call that goes on where an answer says
pub part_goes : PartGoes
part_goes t fits n at join out h b w i j s =
    rw (part_lays t at n (length join) (length out) fits j (begins_at t at n w h b i) s)
    (goes_by t fits n at out h s _ (lay_text t (length out) (tries_at t max_text n at)) (led t max_text (length t) (length out) n at (omega arith) b (λ l. i)))

-- ---- what a refusal lays

never_refused : (t : List ℕ) (room : ℕ) (xs : List Try) (r : Refusal) → (lay_from t room xs).told ≡ Err r → ⊥
unfolding lay_from
never_refused t room [] r e = let z : ◌≡◌ {A = ℕ} 0 1 = cc in absurd (omega arith)
never_refused t room (x ∷ xs) r e = go (ltb room max_line) e (never_refused t (room - length (try_line t x)) xs r)
  where
    go : (b : Bool) → (cond b (stopped x) (laid_behind (x ∷ []) (try_line t x) (lay_from t (room - length (try_line t x)) xs))).told ≡ Err r
        → ((lay_from t (room - length (try_line t x)) xs).told ≡ Err r → ⊥) → ⊥
    go true e ih = let z : ◌≡◌ {A = ℕ} 0 1 = cc in absurd (omega arith)
    go false e ih = ih e

part_quiet : (t : List ℕ) (at n cap size : ℕ) (r : Refusal) → (part_of t at n cap size).told ≡ Err r → (part_of t at n cap size).text ≡ []
unfolding part_of
part_quiet t at n cap size r = go (ltb max_text (length t)) (ltb cap max_text) (may_begin t at n) (ltb size max_line)
  where
    R : Bool → Bool → Bool → Bool → Laid
    R x y z w =
        cond x (laid_none (Err TextTooLong))
        (cond y (laid_none (Err JoinFull))
        (cond z (cond w (laid_none (Err CanonTooLong)) (lay_from t size (tries_at t max_text n at))) (laid_none (Err NothingThere))))

    go : (x y z w : Bool) → (R x y z w).told ≡ Err r → (R x y z w).text ≡ []
    go true y z w e = refl
    go false true z w e = refl
    go false false false w e = refl
    go false false true true e = refl
    go false false true false e = absurd (never_refused t size (tries_at t max_text n at) r e)

start_lays : (t : List ℕ) (cap size : ℕ) (r : Refusal) → (start_of t cap size).told ≡ Err r → (start_of t cap size).text ≡ refused_lays t size r
unfolding start_of
start_lays t cap size r = go (check_of t) refl
  where
    go : (c : Result (Unit {0}) Refusal) → c ≡ check_of t → (start_by t cap size c).told ≡ Err r → (start_by t cap size c).text ≡ refused_lays t size r
    go (Err q) e d = let k : q ≡ r = cc in rw (← (refused t e refl), k)
    go (Ok _) e d = rw (← (passed t e refl)) (part_quiet t 0 1 cap size r d)

pub refused_laid : RefusedLaid
refused_laid t out at n cap r = (λ e. rw (part_quiet t at n cap (length out) r e), λ e. rw (start_lays t cap (length out) r e))

-- ---- the calls for a sheet

module _ (t : List ℕ) (lend : ℕ → Lent) where
  call_goes : (k : ℕ) (p : Part) → length t ≤ max_text → 1 ≤ p.line → p.line ≤ p.at + 1 → p.at < length t → begins_line t p.at ≡ true
      → Goes_on t p.at (lend k).out (call_at t lend k p) (report_of t (only_blocks (tries_at t max_text p.line p.at)))
  call_goes k p fits h b w i = part_goes t fits p.line p.at (lend k).join (lend k).out h b (omega arith) i (lend k).joins (lend k).lines

  -- they lay what was left, and nothing else
  calls_lay : {k : ℕ} {p : Part} {xs ys : List ℕ} → Calls t lend k p xs → Leaves t p ys → xs ≡ ys
  calls_lay (Calls.last d) (Leaves.nothing e) = refl
  calls_lay (Calls.last d) (Leaves.more e fits h b w i) = absurd (d e)
  calls_lay (Calls.next d c) (Leaves.nothing e) = absurd (e d)
  calls_lay (Calls.next {k} {p} {xs} d c) (Leaves.more e fits h b w i) =
      let g = call_goes k p fits h b w i in
      ap (λ (l : List ℕ). laid_in (lend k).out (call_at t lend k p) ++ l) (calls_lay c g.leaves) ∙ g.sum

  -- they come to an end, since each goes on farther on
  calls_end : (fuel k : ℕ) (p : Part) {ys : List ℕ} → Leaves t p ys → (p.told ≡ Ok More → length t ≤ p.at + fuel) → Calls t lend k p ys
  calls_end zero k p (Leaves.nothing e) f = Calls.last e
  calls_end zero k p (Leaves.more e fits h b w i) f = absurd (omega (arith, f e))
  calls_end (suc fuel) k p (Leaves.nothing e) f = Calls.last e
  calls_end (suc fuel) k p (Leaves.more e fits h b w i) f =
      let g = call_goes k p fits h b w i in
      rw (← g.sum) (Calls.next e (calls_end fuel (suc k) (shown_part (call_at t lend k p)) g.leaves (λ m. omega (arith, f e, g.farther m))))

-- ---- for any text

check_fits : (t : List ℕ) → check_of t ≡ Ok tt → length t ≤ max_text
unfolding check_of
check_fits t e = go (ltb max_text (length t)) (is_utf8 t) refl e
  where
    go : (x y : Bool) → ltb max_text (length t) ≡ x → cond {A = Result (Unit {0}) Refusal} x (Err TextTooLong) (cond y (Ok tt) (Err NotUtf8)) ≡ Ok tt → length t ≤ max_text
    go true y q e = let z : ◌≡◌ {A = ℕ} 0 1 = cc in absurd (omega arith)
    go false y q e = ltb-false max_text (length t) q

-- the one line of a text that is refused
abbrev laid_once : Refusal → Laid
laid_once r = record { told = Err r; text = refused_line 0 0 r; past = []; at = 0; line = 0 }

first_goes : (t : List ℕ) (lend : ℕ → Lent) → Goes_on t 0 (lend 0).out (first_call t lend) (report t)
unfolding start_of report
first_goes t lend = go (check_of t) refl
  where
    size : ℕ
    size = length (lend 0).out

    go : (c : Result (Unit {0}) Refusal) → check_of t ≡ c → Goes_on t 0 (lend 0).out (start_by t (length (lend 0).join) size c) (report_by t c)
    go (Err r) e =
        rw (le-ltb size max_line (lend 0).lines)
        (record {
          rest = [];
          leaves = Leaves.nothing (λ m. let z : ◌≡◌ {A = ℕ} 0 1 = cc in absurd (omega arith));
          sum = append-nil (laid_in (lend 0).out (laid_once r)) ∙ laid_text (lend 0).out (laid_once r);
          farther = λ m. let z : ◌≡◌ {A = ℕ} 0 1 = cc in absurd (omega arith);
        })
    go (Ok tt) e =
        let k = check_fits t e in
        rw (blocks_are t max_text k k) (part_goes t k 1 0 (lend 0).join (lend 0).out (omega arith) (omega arith) (omega arith) refl (lend 0).joins (lend 0).lines)

pub all_laid : AllLaid
all_laid t lend xs c =
    let g = first_goes t lend in
    ap (λ (l : List ℕ). laid_in (lend 0).out (first_call t lend) ++ l) (calls_lay t lend c g.leaves) ∙ g.sum

pub all_end : AllEnd
all_end t lend = let g = first_goes t lend in (g.rest, calls_end t lend (length t) 1 (shown_part (first_call t lend)) g.leaves (λ m. omega arith))

pub at_once : AtOnce
unfolding start_of report
at_once t lent h = let w = go (check_of t) refl h in record { last = w.0; text = w.1.0; done = w.1.1 }
  where
    size : ℕ
    size = length lent.out

    R : Result (Unit {0}) Refusal → Laid
    R c = start_by t (length lent.join) size c

    go : (c : Result (Unit {0}) Refusal) → check_of t ≡ c → length (report_by t c) + max_line ≤ size → NoMore (R c).told × (((R c).text ≡ report_by t c) × (is_text t ≡ true → (R c).told ≡ Ok Done))
    go (Err r) e h =
        rw (le-ltb size max_line lent.lines) (λ m. let z : ◌≡◌ {A = ℕ} 0 1 = cc in absurd (omega arith), (refl, λ g. contra (is_text t) g (sym (refused t (sym e) refl))))
    go (Ok tt) e h =
        let k = check_fits t e in
        let b = blocks_are t max_text k k in
        let w = one_call t size (tries_at t max_text 1 0) (rw b at h) in
        rw (part_lays t 0 1 (length lent.join) size k lent.joins (begins_at t 0 1 (omega arith) (omega arith) (omega arith) refl) lent.lines)
        (λ m. let d = w.0 in let z : ◌≡◌ {A = ℕ} 0 1 = cc in absurd (omega arith), (lay_text t size (tries_at t max_text 1 0) ∙ rw (w.1, b), λ g. w.0))
