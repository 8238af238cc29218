-- What a run is told to be, from the first walk and the run over padded lines.
-- Assumes nothing.
use Rattle.std.specs.Prelude.{Err, None, Ok, Option, Result, Some}
use mathlib.Core.Path.{◌≡◌, refl, sym, ◌∙◌, ap}
use mathlib.Core.Bool.{Bool, true, false, cond, ◌&&◌}
use mathlib.Core.List.{List}
use Prim.Native.Nat.{ℕ, ◌<◌, ◌≤◌}
use native.Mathlib.Omega.{arith}
use borrow.Author.Tests.{lt-ltb, le-ltb, ltb-false}
use lib.Dec.{eqb, ltb}
use lib.ListN.{length, drop}
use lib.Seq.{take_at, take-length}
use Rattle.block_payloads.specs.Payloads.{opens}
use Rattle.base_lists.specs.Lists.{over, begins_pair}
use Rattle.base_lists.proofs.More.{contra}
use Rattle.text_utf8.specs.Computed.{is_utf8}
use Rattle.base_refusals.specs.Numbers.{max_text, passed}
use Rattle.base_refusals.specs.declared.Refusal.{Refusal}
use Rattle.base_refusals.specs.declared.Refusal.TheVariants.{TextTooLong, NotUtf8}
use Rattle.text_checks.specs.Check.{check_of}
use Rattle.text_lines.specs.Trim.{trim_start}
use Rattle.text_lines.specs.Lines.{lines, line_from, line_of}
use Rattle.text_lines.specs.declared.LineEnd.{LineEnd}
use Rattle.text_lines.specs.declared.Range.{Range}
use Rattle.text_lines.proofs.Lines.{lines_end, line_found}
use Rattle.text_tabs.specs.Columns.{indent_columns, capped}
use Rattle.text_tabs.proofs.Laws.{indent_le, indent_whole}
use Rattle.block_chain.specs.Chain.{good_line}
use Rattle.run_lines.specs.Runs.{Run, run_of}
use Rattle.run_refused.specs.declared.RunReply.{RunReply}
use Rattle.run_refused.specs.declared.RunReply.TheVariants.{No}
use Rattle.run_refused.specs.declared.RefusedRun.{RefusedRun}
use Rattle.run_refused.specs.declared.Ran.{Ran}
use Rattle.run_refused.specs.declared.RefusedWalk.{RefusedWalk}
use Rattle.run_refused.specs.declared.RefusedWalk.TheVariants as walks
use Rattle.run_refused.specs.Refused.{Stretch, comment_from, RunTold, unjoined, run_answer, judged, found_in, refused_of, refused_at, refused_run, handed_out}
use Rattle.run_refused.specs.Inner.{walk_at, shown_walk, is_stretch, lines_taken, padded_run, ran_of, max_column}
use Rattle.run_refused.proofs.Walking.{line, line_in, line_first, line_long}

-- ---- a block

good_over : (xs buf : List ℕ) → good_line (over xs buf) 0 (length xs) ≡ good_line xs 0 (length xs)
unfolding good_line
good_over xs buf = rw (take_at xs (drop (length xs) buf) (length xs) refl, take-length xs)

abbrev pub Tells : RunTold → List ℕ → RefusedRun → List ℕ → Type 0
Tells T buf g buf' = (g ≡ handed_out T) × (buf' ≡ over T.text buf)

pub block_told : (P : Run) (count : ℕ) (buf : List ℕ) {r : Ran} {buf' : List ℕ} {a : Result RunReply Refusal} → (r ≡ ran_of P) × (buf' ≡ over P.text buf)
    → a ≡ run_answer r.stop (eqb r.lines count && good_line buf' 0 r.len) count
    → Tells (judged count P) buf (record { answer = a; lookahead = r.lookahead; joined = r.len }) buf'
block_told P count buf w q = (rw (q, w.1, w.0, good_over P.text buf), w.1)

pub unjoined_told : (T : RunTold) (buf : List ℕ) {a : Result RunReply Refusal} {g : RefusedRun} → T ≡ unjoined a → g ≡ handed_out (unjoined a) → Tells T buf g buf
unjoined_told T buf q e = rw q (e, refl)

-- ---- what the first walk shows

abbrev is_no : RefusedWalk → Bool
is_no (walks.No n) = true
is_no (walks.Block n s) = false

abbrev count_of : RefusedWalk → ℕ
count_of (walks.No n) = n
count_of (walks.Block n s) = n

abbrev shallow_of : RefusedWalk → Bool
shallow_of (walks.No n) = false
shallow_of (walks.Block n s) = s

module _ (cap : ℕ) where
  shown_no : (f : Stretch) {n : ℕ} → walks.No n ≡ shown_walk f → found_in cap f ≡ unjoined (Ok (No n))
  unfolding found_in
  shown_no Stretch.none e = ap (λ w. unjoined (Ok (No (count_of w)))) (sym e)
  shown_no (Stretch.block s ls) e = contra (is_no (shown_walk (Stretch.block s ls))) (sym (ap is_no e)) refl

  shown_deep : (f : Stretch) {n : ℕ} → walks.Block n false ≡ shown_walk f → found_in cap f ≡ unjoined (Ok (No 0))
  unfolding found_in
  shown_deep Stretch.none e = refl
  shown_deep (Stretch.block s ls) e = rw (sym (ap shallow_of e))

  shown_block : (f : Stretch) {n : ℕ} → walks.Block n true ≡ shown_walk f → (is_stretch f ≡ true) × (found_in cap f ≡ judged n (run_of cap 0 (lines_taken f)))
  unfolding found_in
  shown_block Stretch.none e = contra (is_no (walks.No 0)) refl (sym (ap is_no e))
  shown_block (Stretch.block s ls) e = (refl, rw (sym (ap shallow_of e), ap count_of e))

-- ---- the run whose first line begins at `at`

module _ (cap : ℕ) (t : List ℕ) (at : ℕ) (h : at < length t) {l : LineEnd} (e : l ≡ line_from t at) where
  abbrev here : List ℕ
  here = line t at h e

  abbrev pub told_at : RunTold
  told_at = refused_of cap (lines (drop at t))

  pub told_none : false ≡ opens here → told_at ≡ unjoined (Ok (No 0))
  unfolding refused_of
  told_none q = rw (line_first t at h e, ← q)

  module _ (q : true ≡ opens here) (short : length t ≤ max_text) {c : ℕ} (w : c ≡ capped (indent_columns here)) where
    column : c ≡ indent_columns here
    column = w ∙ indent_whole here (omega (arith, line_long t at h e, line_in t at h e))

    pub opener_low : c ≤ max_column
    opener_low = omega (arith, column, indent_le here, line_long t at h e, line_in t at h e)

    pub told_comment : true ≡ begins_pair 123 37 (trim_start here) → {a : Result RunReply Refusal} → a ≡ comment_from c 0 false (lines (drop at t)) → told_at ≡ unjoined a
    unfolding refused_of
    told_comment k z = rw (z, column, line_first t at h e, ← q, ← k)

    module _ (k : false ≡ begins_pair 123 37 (trim_start here)) where
      told_walk : told_at ≡ found_in cap (walk_at c t at)
      unfolding refused_of walk_at
      told_walk = rw (column, line_first t at h e, ← q, ← k)

      pub told_no : {n : ℕ} → walks.No n ≡ shown_walk (walk_at c t at) → told_at ≡ unjoined (Ok (No n))
      told_no z = told_walk ∙ shown_no cap (walk_at c t at) z

      pub told_deep : {n : ℕ} {s : Bool} → s ≡ false → walks.Block n s ≡ shown_walk (walk_at c t at) → told_at ≡ unjoined (Ok (No 0))
      told_deep x z = told_walk ∙ shown_deep cap (walk_at c t at) (rw x at z)

      pub told_block : {n : ℕ} {s : Bool} → s ≡ true → walks.Block n s ≡ shown_walk (walk_at c t at) → (is_stretch (walk_at c t at) ≡ true) × (told_at ≡ judged n (padded_run cap c t at))
      unfolding padded_run
      told_block x z = let b = shown_block cap (walk_at c t at) (rw x at z) in (b.0, told_walk ∙ b.1)

-- ---- the entry by a place

module _ (cap : ℕ) (t : List ℕ) (at : ℕ) where
  pub at_long : max_text < length t → refused_at cap t at ≡ unjoined (Err TextTooLong)
  unfolding refused_at
  at_long h = rw (lt-ltb max_text (length t) h)

  pub at_short : length t ≤ max_text → refused_at cap t at ≡ refused_of cap (lines (drop at t))
  unfolding refused_at
  at_short h = rw (le-ltb max_text (length t) h)

  pub at_end : length t ≤ max_text → length t ≤ at → refused_at cap t at ≡ unjoined (Ok (No 0))
  unfolding refused_of
  at_end h k = at_short h ∙ rw (lines_end t at k)

-- ---- the entry by line number

pub passes_short : (t : List ℕ) {c : Result (Unit {0}) Refusal} → c ≡ check_of t → c ≡ Ok tt → length t ≤ max_text
unfolding check_of
passes_short t e q = go (ltb max_text (length t)) refl (sym q ∙ e)
  where
    go : (x : Bool) → ltb max_text (length t) ≡ x → passed ≡ cond x (Err TextTooLong) (cond (is_utf8 t) (Ok tt) (Err NotUtf8)) → length t ≤ max_text
    go true p z = let y : ◌≡◌ {A = ℕ} 0 1 = cc in absurd (omega arith)
    go false p z = ltb-false max_text (length t) p

module _ (cap : ℕ) (t : List ℕ) (n : ℕ) {c : Result (Unit {0}) Refusal} (e : c ≡ check_of t) where
  pub run_refused : {r : Refusal} → c ≡ Err r → refused_run cap t n ≡ unjoined (Err r)
  unfolding refused_run
  run_refused q = rw (sym e ∙ q)

  module _ (q : c ≡ Ok tt) {p : Option Range} (w : p ≡ line_of n t) where
    pub run_missing : p ≡ None → refused_run cap t n ≡ unjoined (Ok (No 0))
    unfolding refused_run
    run_missing z = rw (sym e ∙ q, sym w ∙ z)

    module _ {r : Range} (z : p ≡ Some r) where
      pub run_at : refused_run cap t n ≡ refused_of cap (lines (drop r.from t))
      unfolding refused_run
      run_at = rw (sym e ∙ q, sym w ∙ z)

      pub run_in : r.from < length t
      run_in = (line_found n t r (sym w ∙ z)).start
