-- The lines by places have the bytes of the lines, in order; and the line of a number is that line, or 3 exactly where there is none.
-- Assumes nothing.
use Rattle.std.specs.Prelude.{Err, None, Ok, Option, Some}
use mathlib.Core.Path.{◌≡◌, refl}
use mathlib.Core.Bool.{Bool, true, false, cond}
use mathlib.Core.List.{List}
use Prim.Native.Nat.{ℕ}
use native.Mathlib.Omega.{arith}
use borrow.Author.Tests.{ltb-false}
use lib.ListN.{length}
use Rattle.base_refusals.specs.Numbers.{max_text, too_long, number_of}
use Rattle.base_refusals.specs.declared.Refusal.TheVariants.{TextTooLong, NotUtf8}
use Rattle.text_utf8.specs.Computed.{is_utf8}
use Rattle.text_checks.specs.Check.{check_of, is_text}
use Rattle.text_checks.proofs.Texts.{is_text_lem, text-passes}
use Rattle.text_lines.specs.Lines.{line_of, line_paper}
use Rattle.text_lines.proofs.Lines as found
use Rattle.text_lines.proofs.Counted as counted
use Rattle.text_line_start.specs.Starts.{begun, start_at, start_paper}
use Rattle.proved_texts.specs.Lines.{LinesByPlaces, LineHoldsNoLf, LineOfNumber, NoSuchLine, LineThree, StartThree}
use Rattle.text_lines.specs.declared.Range.{Range}

-- the two ways to say the lines of a text agree
pub ranges-lines : LinesByPlaces
ranges-lines = counted.ranges-lines

-- no line holds an LF
pub no_lf_lem : LineHoldsNoLf
no_lf_lem = found.no_lf_lem

-- the line that is found is the one of that number
pub line_found : LineOfNumber
line_found n t r e = let f = found.line_found n t r e in record { counted = f.some; there = f.within; bytes = f.bytes }

-- 3 is no such line
none : (n : ℕ) (t : List ℕ) → (line_paper (line_of n t)).number ≡ 3 → NoSuchLine n t
none n t = go (line_of n t) refl
  where
    go : (l : Option Range) → line_of n t ≡ l → (line_paper l).number ≡ 3 → NoSuchLine n t
    go None e q = counted.line_missing n t e
    go (Some r) e q = absurd (omega arith)

pub line_three : LineThree
unfolding number_of
line_three n t = (none n t, λ h. rw (counted.missing_line n t h))

-- .. of a text that gives neither 1 nor 2
pub start_three : StartThree
unfolding start_at check_of number_of
start_three n t = (go (too_long t) refl (is_utf8 t) refl, λ h. rw (text-passes t h.0, counted.missing_line n t h.1))
  where
    of_line : (l : Option Range) → (start_paper (begun (Ok tt) l)).number ≡ 3 → (line_paper l).number ≡ 3
    of_line None q = q
    of_line (Some r) q = q

    go : (x : Bool) → too_long t ≡ x → (y : Bool) → is_utf8 t ≡ y → (start_paper (begun (cond x (Err TextTooLong) (cond y (Ok tt) (Err NotUtf8))) (line_of n t))).number ≡ 3
        → (is_text t ≡ true) × NoSuchLine n t
    go true e y u q = absurd (omega arith)
    go false e true u q = (is_text_lem t (ltb-false max_text (length t) e) u, none n t (of_line (line_of n t) q))
    go false e false u q = absurd (omega arith)
