-- The verdict on a block against the line that the sheet program writes for it, in both directions.
-- Assumes nothing.
use Rattle.std.specs.Prelude.{Err, Ok, Result}
use mathlib.Core.Path.{◌≡◌, refl, sym, ◌∙◌, ap}
use mathlib.Core.Bool.{Bool, true, false, cond}
use mathlib.Core.List.{List, [], ◌∷◌, ◌++◌}
use Prim.Native.Nat.{ℕ, ◌+◌}
use native.Mathlib.Omega.{arith}
use lib.Dec.{ltb}
use lib.ListN.{length, take, drop, get_or, length-append}
use lib.Seq.{take-append_seam, drop-append_seam}
use Rattle.base_bytes.specs.Bytes.{lf, tab}
use Rattle.base_refusals.specs.Numbers.{max_text, number_of}
use Rattle.base_refusals.specs.declared.Refusal.{Refusal}
use Rattle.base_refusals.specs.declared.Refusal.TheVariants.{CanonTooLong}
use Rattle.base_refusals.proofs.Numbers.{number_own}
use Rattle.text_digits.specs.Decimal.{decimal}
use Rattle.set_canon.specs.Canon.{canon}
use Rattle.set_table.specs.Types.{Texts}
use Rattle.set_table.specs.Rows.{meaning_of}
use Rattle.set_table.specs.declared.Attrs.{Attrs}
use Rattle.read_blocks.specs.Blocks.{lines_of, texts_in, filled_found}
use Rattle.sheet_blocks.specs.Sheets.{Try}
use Rattle.sheet_verdicts.specs.Verdicts.{printable, block_verdict, verdict_at}
use Rattle.sheet_report.specs.Report.{block_word, refused_word, report_line, refused_line, canon_line, line_by, block_line}
use Rattle.proved_sheets.specs.Report.{meant_by}
use Rattle.proved_valves.proofs.Numbers.{decimal_apart}
use Rattle.proved_tally.specs.Lines.{VerdictLines}

-- ---- the last field of a line, and its word

same-behind : (p xs ys : List ℕ) → p ++ xs ≡ p ++ ys → xs ≡ ys
same-behind p xs ys e = sym (drop-append_seam p xs) ∙ ap (drop (length p)) e ∙ drop-append_seam p ys

same-before : (xs ys : List ℕ) (b : ℕ) → xs ++ (b ∷ []) ≡ ys ++ (b ∷ []) → xs ≡ ys
same-before xs ys b e =
    let l : length xs ≡ length ys = omega (arith, length-append xs (b ∷ []), length-append ys (b ∷ []), ap length e) in
    sym (take-append_seam xs (b ∷ [])) ∙ ap (take (length xs)) e ∙ (rw l (take-append_seam ys (b ∷ [])))

last_same : (w : List ℕ) (n k : ℕ) (x y : List ℕ) → report_line w n k x ≡ report_line w n k y → x ≡ y
unfolding report_line
last_same w n k x y e = same-before x y lf (same-behind (tab ∷ []) _ _ (same-behind (tab ∷ decimal k) _ _ (same-behind (tab ∷ decimal n) _ _ (same-behind w _ _ e))))

words_apart : (n k : ℕ) (x y : List ℕ) → report_line refused_word n k x ≡ report_line block_word n k y → ⊥
unfolding report_line
words_apart n k x y e = let z : ◌≡◌ {A = ℕ} 114 98 = ap (λ (l : List ℕ). get_or l 0 0) e in omega (arith, z)

-- ---- the line by the verdict

module _ (n k : ℕ) (y : List ℕ) where
  abbrev told : Result (Unit {0}) Refusal → List ℕ
  told (Ok _) = report_line block_word n k y
  told (Err r) = refused_line n k r

  told_printed : (v : Result (Unit {0}) Refusal) (z : List ℕ) → told v ≡ report_line block_word n k z → v ≡ Ok tt
  unfolding refused_line
  told_printed (Ok _) z e = refl
  told_printed (Err r) z e = absurd (words_apart n k (decimal (number_of r)) z e)

  told_refused : (v : Result (Unit {0}) Refusal) (r : Refusal) → told v ≡ refused_line n k r → v ≡ Err r
  unfolding refused_line
  told_refused (Ok _) r e = absurd (words_apart n k (decimal (number_of r)) y (sym e))
  told_refused (Err q) r e = ap (λ z. Err z) (number_own q r (decimal_apart (number_of q) (number_of r) (last_same refused_word n k (decimal (number_of q)) (decimal (number_of r)) e)))

told_by : (n k : ℕ) (t : Texts) (a : Attrs) (o : Result (Unit {0}) Refusal) → line_by n k t a o ≡ told n k (canon (meaning_of t a)) (block_verdict t a o)
unfolding block_verdict printable canon_line
told_by n k t a (Err r) = refl
told_by n k t a (Ok _) = go (ltb max_text (length (canon (meaning_of t a))))
  where
    go : (b : Bool) → cond b (refused_line n k CanonTooLong) (report_line block_word n k (canon (meaning_of t a))) ≡ told n k (canon (meaning_of t a)) (cond b (Err CanonTooLong) (Ok tt))
    go true = refl
    go false = refl

line_told : (t : List ℕ) (x : Try) → block_line t x ≡ told x.line (lines_of x.found) (canon (meant_by t x)) (verdict_at t x)
unfolding block_line verdict_at
line_told t x = told_by x.line (lines_of x.found) (texts_in t x.found) (filled_found t x.at x.found).set (filled_found t x.at x.found).outcome

pub verdict_lines : VerdictLines
verdict_lines t x =
    record {
      printed = λ e. line ∙ ap (told x.line (lines_of x.found) (canon (meant_by t x))) e;
      only_printed = λ y e. told_printed x.line (lines_of x.found) (canon (meant_by t x)) (verdict_at t x) y (sym line ∙ e);
      refused = λ r e. line ∙ ap (told x.line (lines_of x.found) (canon (meant_by t x))) e;
      only_refused = λ r e. told_refused x.line (lines_of x.found) (canon (meant_by t x)) (verdict_at t x) r (sym line ∙ e);
    }
  where
    line : block_line t x ≡ told x.line (lines_of x.found) (canon (meant_by t x)) (verdict_at t x)
    line = line_told t x
