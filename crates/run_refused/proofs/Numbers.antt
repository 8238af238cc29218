-- The number and values of a run's answer: 1 and 2 of the text, then 9 exactly where the run is stopped by a full join buffer, else its own.
-- Assumes nothing.
use Rattle.std.specs.Prelude.{Err, None, Ok, Option, Result, Some}
use mathlib.Core.Path.{◌≡◌, refl, sym, ◌∙◌, ap}
use mathlib.Core.Bool.{Bool, true, false, cond}
use mathlib.Core.List.{List, [], ◌∷◌}
use Prim.Native.Nat.{ℕ, suc}
use borrow.Author.Tests.{eqb-true}
use lib.Dec.{eqb}
use lib.ListN.{length, drop}
use Rattle.block_payloads.specs.Payloads.{opens}
use Rattle.base_lists.specs.Lists.{over}
use Rattle.base_refusals.specs.Numbers.{too_long, number_of, outcome_no, refused_paper}
use Rattle.base_refusals.specs.Orders.{Ground, on_paper}
use Rattle.base_refusals.specs.declared.Refusal.TheVariants.{TextTooLong, JoinFull}
use Rattle.base_refusals.proofs.Numbers.{number_own}
use Rattle.base_refusals.proofs.Orders.{paper_where}
use Rattle.text_checks.specs.Check.{text_order, check_of}
use Rattle.text_lines.specs.Trim.{is_blank_line}
use Rattle.text_lines.specs.Lines.{lines, line_of}
use Rattle.text_tabs.specs.Columns.{indent_columns}
use Rattle.run_lines.specs.Runs.{run_of}
use Rattle.run_spots.specs.Spots.{shallow_or, closes_comment, opens_comment}
use Rattle.run_refused.specs.declared.RunReply.{RunReply}
use Rattle.run_refused.specs.declared.RunReply.TheVariants.{No, NoEnd}
use Rattle.run_refused.specs.declared.RefusedRun.{RefusedRun}
use Rattle.run_refused.specs.Refused.{reply_paper, Stretch, walk_from, on_first, RunTold, unjoined, run_answer, found_in, comment_by, comment_from, refused_of, refused_at, refused_by, refused_run, handed_out, stretch_order, lines_order, place_order, from_line, refused_order}
use Rattle.run_refused.proofs.Answers.{Tells}
use Rattle.base_refusals.specs.declared.Refusal.{Refusal}
use Rattle.text_lines.specs.declared.Range.{Range}

-- the first ground that holds, else the answer's own values
abbrev pub Replies : Result RunReply Refusal → List Ground → Type 0
Replies a gs = reply_paper a ≡ on_paper gs (reply_paper a).values

-- ---- the run from the first of lines on

by_stop : (x : Result (Unit {0}) Refusal) (good : Bool) (count : ℕ) → Replies (run_answer x good count) (Ground.given JoinFull (eqb (outcome_no x) (number_of JoinFull)) ∷ [])
unfolding on_paper number_of
by_stop (Ok _) true count = refl
by_stop (Ok _) false count = refl
by_stop (Err r) good count = go (eqb (number_of r) 9) refl
  where
    go : (b : Bool) → eqb (number_of r) 9 ≡ b → Replies (cond b (Err r) (Ok (No 0))) (Ground.given JoinFull b ∷ [])
    go true e = ap refused_paper (number_own r JoinFull (eqb-true (number_of r) 9 e))
    go false e = refl

stretch_no : (cap : ℕ) (f : Stretch) → Replies (found_in cap f).answer (stretch_order cap f)
unfolding found_in on_paper
stretch_no cap Stretch.none = refl
stretch_no cap (Stretch.block true ls) = by_stop (run_of cap 0 ls).stop _ (length ls)
stretch_no cap (Stretch.block false ls) = refl

comment_by_lem : (b : Bool) (n : ℕ) → Replies (comment_by b n) []
unfolding on_paper
comment_by_lem true n = refl
comment_by_lem false n = refl

comment_no : (opener n : ℕ) (shallow : Bool) (ls : List (List ℕ)) → Replies (comment_from opener n shallow ls) []
unfolding comment_from on_paper
comment_no opener n shallow [] = refl
comment_no opener n shallow (l ∷ ls) = go (is_blank_line l) (closes_comment l) (comment_no opener (suc n) s ls)
  where
    s : Bool
    s = shallow_or shallow (eqb n 0) (indent_columns l) opener

    go : (x y : Bool) → Replies (comment_from opener (suc n) s ls) [] → Replies (cond x (Ok NoEnd) (cond y (comment_by s (suc n)) (comment_from opener (suc n) s ls))) []
    go true y ih = refl
    go false true ih = comment_by_lem s (suc n)
    go false false ih = ih

pub run_no : (cap : ℕ) (ls : List (List ℕ)) → Replies (refused_of cap ls).answer (lines_order cap ls)
unfolding refused_of on_paper
run_no cap [] = refl
run_no cap (l ∷ ls) = go (opens l) (opens_comment l)
  where
    f : Stretch
    f = walk_from (indent_columns l) (on_first (indent_columns l)) (l ∷ ls)

    go : (x y : Bool)
        → Replies (cond x (cond y (unjoined (comment_from (indent_columns l) 0 false (l ∷ ls))) (found_in cap f)) (unjoined (Ok (No 0)))).answer (cond x (cond y [] (stretch_order cap f)) [])
    go false y = refl
    go true true = comment_no (indent_columns l) 0 false (l ∷ ls)
    go true false = stretch_no cap f

-- ---- the entries

place_no : (cap : ℕ) (t : List ℕ) (at : ℕ) → Replies (refused_at cap t at).answer (place_order cap t at)
unfolding refused_at on_paper
place_no cap t at = go (too_long t) (run_no cap (lines (drop at t)))
  where
    r : RunTold
    r = refused_of cap (lines (drop at t))

    go : (x : Bool) → Replies r.answer (lines_order cap (lines (drop at t)))
        → Replies (cond x (unjoined (Err TextTooLong)) r).answer (Ground.given TextTooLong x ∷ lines_order cap (lines (drop at t)))
    go true ih = refl
    go false ih = ih

pub refused_no : (cap : ℕ) (t : List ℕ) (n : ℕ) → Replies (refused_run cap t n).answer (refused_order cap t n)
unfolding refused_run check_of on_paper
refused_no cap t n =
    paper_where (λ o. reply_paper (by o (line_of n t))) Err (reply_paper (by (check_of t) (line_of n t))).values (λ r. refl) (text_order t) (from_line cap t (line_of n t))
    (λ p. go (line_of n t) ∙ ap (λ o. on_paper (from_line cap t (line_of n t)) (reply_paper (by o (line_of n t))).values) (sym p))
  where
    by : Result (Unit {0}) Refusal → Option Range → Result RunReply Refusal
    by o l = (refused_by cap t o l).answer

    go : (l : Option Range) → Replies (by (Ok tt) l) (from_line cap t l)
    go None = refl
    go (Some r) = run_no cap (lines (drop r.from t))

-- ---- what is promised

abbrev Promised : RunTold → List Ground → List ℕ → RefusedRun → List ℕ → Type 0
Promised T gs buf g buf' = record { value : g ≡ handed_out T; join_after : buf' ≡ over T.text buf; answer_value : reply_paper g.answer ≡ on_paper gs (reply_paper T.answer).values }

said : (T : RunTold) (gs : List Ground) (buf : List ℕ) {g : RefusedRun} {buf' : List ℕ} → Replies T.answer gs → Tells T buf g buf' → Promised T gs buf g buf'
said T gs buf e w = record { value = w.0; join_after = w.1; answer_value = ap (λ x. reply_paper x.answer) w.0 ∙ e }

module _ (buf t : List ℕ) (n : ℕ) {g : RefusedRun} {buf' : List ℕ} where
  pub said_at : Tells (refused_at (length buf) t n) buf g buf' → Promised (refused_at (length buf) t n) (place_order (length buf) t n) buf g buf'
  said_at = said (refused_at (length buf) t n) (place_order (length buf) t n) buf (place_no (length buf) t n)

  pub said-run : Tells (refused_run (length buf) t n) buf g buf' → Promised (refused_run (length buf) t n) (refused_order (length buf) t n) buf g buf'
  said-run = said (refused_run (length buf) t n) (refused_order (length buf) t n) buf (refused_no (length buf) t n)
