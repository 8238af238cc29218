-- Where a line begins, the text is no longer than the limit.
-- Assumes nothing.
use Rattle.std.specs.Prelude.{Err, Ok}
use mathlib.Core.Path.{◌≡◌, refl}
use mathlib.Core.Bool.{Bool, true, false, cond}
use mathlib.Core.List.{List}
use Prim.Native.Nat.{ℕ, ◌≤◌}
use native.Mathlib.Omega.{arith}
use borrow.Author.Tests.{ltb-false}
use lib.Dec.{ltb}
use lib.ListN.{length}
use Rattle.text_utf8.specs.Computed.{is_utf8}
use Rattle.base_refusals.specs.Numbers.{max_text}
use Rattle.base_refusals.specs.declared.Refusal.TheVariants.{TextTooLong, NotUtf8}
use Rattle.text_checks.specs.Check.{check_of}
use Rattle.text_lines.specs.Lines.{line_of}
use Rattle.text_line_start.specs.Starts.{begun, start_at}

pub text-fits : (t : List ℕ) (n : ℕ) {at : ℕ} → start_at t n ≡ Ok at → length t ≤ max_text
unfolding start_at check_of
text-fits t n {at} e = go (ltb max_text (length t)) refl e
  where
    go : (x : Bool) → ltb max_text (length t) ≡ x → begun (cond x (Err TextTooLong) (cond (is_utf8 t) (Ok tt) (Err NotUtf8))) (line_of n t) ≡ Ok at
        → length t ≤ max_text
    go true x e = let z : ◌≡◌ {A = ℕ} 0 1 = cc in absurd (omega arith)
    go false x e = ltb-false max_text (length t) x
