-- What the lines of a report say, and that none is longer than `max_line`; and the only line for a text that is refused.
-- Assumes nothing.
use Rattle.std.specs.Prelude.{Err, Ok, Result}
use mathlib.Core.Path.{◌≡◌, refl}
use mathlib.Core.Bool.{Bool, true, false, cond}
use mathlib.Core.List.{List, [], ◌∷◌}
use Prim.Native.Nat.{ℕ, ◌+◌, ◌≤◌}
use native.Mathlib.Omega.{arith}
use borrow.Author.Tests.{ltb-false}
use lib.Dec.{ltb}
use lib.ListN.{length}
use Rattle.base_lists.specs.Lists.{all, is_in}
use Rattle.base_lists.proofs.More.{among}
use Rattle.text_utf8.specs.Computed.{is_utf8}
use Rattle.base_refusals.specs.Numbers.{max_text, number_of}
use Rattle.base_refusals.specs.declared.Refusal.TheVariants.{TextTooLong, NotUtf8, CanonTooLong}
use Rattle.text_checks.specs.Check.{check_of}
use Rattle.set_canon.specs.Canon.{canon}
use Rattle.set_table.specs.Types.{Texts}
use Rattle.set_table.specs.Rows.{meaning_of}
use Rattle.set_table.specs.declared.Attrs.{Attrs}
use Rattle.run_lines.specs.Runs.{past_lines}
use Rattle.read_blocks.specs.Blocks.{lines_of, texts_in, filled_found, block_of}
use Rattle.sheet_blocks.specs.Sheets.{Try, blocks_of}
use Rattle.proved_sheets.proofs.Answers.{block_limited}
use Rattle.proved_sheets.proofs.Order.{sheet_in_order}
use Rattle.sheet_report.specs.Report.{block_word, report_line, refused_line, canon_line, line_by, block_line, report}
use Rattle.sheet_report.proofs.Laying.{line_le}
use Rattle.block_grammar.specs.Meaning.{Entry}
use Rattle.proved_sheets.specs.Order.{Each, Stands, InOrder}
use Rattle.proved_sheets.specs.Blocks.{is_limited}
use Rattle.proved_sheets.specs.Report.{Says, Good, LinesGood, TextRefused}
use Rattle.base_refusals.specs.declared.Refusal.{Refusal}

canon_says : (n k : ℕ) (m : List Entry) → Says n k m (canon_line n k (canon m))
unfolding canon_line is_in number_of
canon_says n k m = go (ltb max_text (length (canon m))) refl
  where
    go : (b : Bool) → ltb max_text (length (canon m)) ≡ b → Says n k m (cond b (refused_line n k CanonTooLong) (report_line block_word n k (canon m)))
    go true e = Says.refused CanonTooLong refl
    go false e = Says.block (ltb-false max_text (length (canon m)) e)

line_says : (n k : ℕ) (t : Texts) (a : Attrs) (o : Result (Unit {0}) Refusal) → is_limited o ≡ true → Says n k (meaning_of t a) (line_by n k t a o)
unfolding all is_in
line_says n k t a (Ok _) e = canon_says n k (meaning_of t a)
line_says n k t a (Err r) e = Says.refused r (among (is_in (6 ∷ 7 ∷ 10 ∷ [])) (6 ∷ 7 ∷ []) (number_of r) refl e)

module _ (t : List ℕ) (fits : length t ≤ max_text) where
  good : {n at : ℕ} {x : Try} → n ≤ at + 1 → Stands t max_text n at x → Good t x
  unfolding block_line block_of
  good {n} {at} {x} h s =
      let l : is_limited (filled_found t x.at x.found).outcome ≡ true = rw s.found (block_limited t max_text x.at fits (rw s.found at s.is)) in
      record {
        says = line_says x.line (lines_of x.found) (texts_in t x.found) (filled_found t x.at x.found).set (filled_found t x.at x.found).outcome l;
        short = line_le x.line (lines_of x.found) (texts_in t x.found) (filled_found t x.at x.found).set (filled_found t x.at x.found).outcome
            (omega (arith, s.number, s.order, s.bytes, s.inside)) (omega (arith, s.bytes, s.inside));
      }

  goods : (n at : ℕ) (xs : List Try) → n ≤ at + 1 → InOrder t max_text n at xs → Each (Good t) xs
  unfolding InOrder Each
  goods n at [] h o = refl
  goods n at (x ∷ xs) h (s, o) =
      (good h s, goods (x.line + lines_of x.found) (past_lines (lines_of x.found) t x.at) xs (omega (arith, s.number, s.order, s.bytes)) o)

pub lines_good : LinesGood
lines_good t fits = goods t fits 1 0 (blocks_of t) (omega arith) (sheet_in_order t fits)

pub text_refused : TextRefused
unfolding report check_of is_in number_of
text_refused t r e = (rw e, go (ltb max_text (length t)) (is_utf8 t) e)
  where
    go : (x y : Bool) → cond {A = Result (Unit {0}) Refusal} x (Err TextTooLong) (cond y (Ok tt) (Err NotUtf8)) ≡ Err r → is_in (1 ∷ 2 ∷ []) (number_of r) ≡ true
    go true y e = let z : TextTooLong ≡ r = cc in rw (← z)
    go false true e = let z : ◌≡◌ {A = ℕ} 0 1 = cc in absurd (omega arith)
    go false false e = let z : NotUtf8 ≡ r = cc in rw (← z)
