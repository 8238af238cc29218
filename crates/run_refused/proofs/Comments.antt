-- The loop over a comment.
-- Assumes nothing.
use Rattle.std.specs.Prelude.{Ok, Result}
use mathlib.Core.Path.{◌≡◌, ◌∙◌}
use mathlib.Core.Bool.{Bool, true, false}
use mathlib.Core.List.{List}
use Prim.Native.Nat.{ℕ, ◌+◌, ◌<◌, ◌≤◌}
use native.Mathlib.Numerals.{add-one}
use native.Mathlib.Omega.{arith}
use lib.Dec.{eqb}
use lib.ListN.{length, drop}
use Rattle.base_refusals.specs.Numbers.{max_text}
use Rattle.text_lines.specs.Trim.{is_blank_line}
use Rattle.text_lines.specs.Lines.{lines, line_from}
use Rattle.text_lines.specs.declared.LineEnd.{LineEnd}
use Rattle.text_lines.proofs.Lines.{lines_end}
use Rattle.text_tabs.specs.Columns.{indent_columns, capped}
use Rattle.text_tabs.proofs.Laws.{indent_whole}
use Rattle.run_refused.specs.declared.RunReply.{RunReply}
use Rattle.run_refused.specs.declared.RunReply.TheVariants.{NoEnd}
use Rattle.run_spots.specs.Spots.{shallow_or, closes_comment}
use Rattle.run_refused.specs.Refused.{comment_by, comment_from}
use Rattle.run_refused.proofs.Walking.{line, line_in, line_first, line_long}
use Rattle.base_refusals.specs.declared.Refusal.{Refusal}

-- before the line that begins at `at`, behind n lines
pub record Comments (t : List ℕ) (r : Result RunReply Refusal) (opener n at : ℕ) (sh : Bool) : Type 0 where
  pub few : n ≤ at
  pub rest : comment_from opener n sh (lines (drop at t)) ≡ r

module _ {t : List ℕ} {r : Result RunReply Refusal} {opener n at : ℕ} {sh : Bool} (inv : Comments t r opener n at sh) where
  pub comment_end : length t ≤ at → Ok NoEnd ≡ r
  unfolding comment_from
  comment_end h = rw (lines_end t at h) at inv.rest

  module _ (h : at < length t) {l : LineEnd} (e : l ≡ line_from t at) where
    pub comment_blank : true ≡ is_blank_line (line t at h e) → Ok NoEnd ≡ r
    unfolding comment_from
    comment_blank q = rw (line_first t at h e, ← q) at inv.rest

    module _ (q : false ≡ is_blank_line (line t at h e)) (short : length t ≤ max_text) {c : ℕ} (w : c ≡ capped (indent_columns (line t at h e)))
        {sh' : Bool} (x : sh' ≡ shallow_or sh (eqb n 0) c opener) where
      column : c ≡ indent_columns (line t at h e)
      column = w ∙ indent_whole (line t at h e) (omega (arith, line_long t at h e, line_in t at h e))

      pub comment_closes : true ≡ closes_comment (line t at h e) → {a : Result RunReply Refusal} → a ≡ comment_by sh' (n + 1) → a ≡ r
      unfolding comment_from
      comment_closes k z = z ∙ rw (x, column, add-one n) (rw (line_first t at h e, ← q, ← k) at inv.rest)

      pub comment_on : false ≡ closes_comment (line t at h e) → Comments t r opener (n + 1) l.next sh'
      unfolding comment_from
      comment_on k = record { few = omega (arith, inv.few, line_in t at h e); rest = rw (x, column, add-one n) (rw (line_first t at h e, ← q, ← k) at inv.rest) }
