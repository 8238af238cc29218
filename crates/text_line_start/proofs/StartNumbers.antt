-- The numbers of what is found by line: "elsewhere 1, 2, 3, ..", and what the line itself gives.
-- Assumes nothing.
use Rattle.std.specs.Prelude.{Err, None, Ok, Option, Result, Some}
use mathlib.Core.Path.{◌≡◌, refl, sym}
use mathlib.Core.List.{List, [], ◌∷◌}
use Prim.Native.Nat.{ℕ, ◌≤◌}
use lib.ListN.{length}
use Rattle.text_utf8.specs.Computed.{is_utf8}
use Rattle.base_refusals.specs.Numbers.{max_text, number_of, Paper, refused_paper, passed_paper}
use Rattle.base_refusals.specs.Orders.{Ground, in_order, order_no, on_paper}
use Rattle.base_refusals.specs.declared.Refusal.{Refusal}
use Rattle.base_refusals.specs.declared.Refusal.TheVariants.{NotUtf8, NothingThere}
use Rattle.base_refusals.proofs.Orders.{order_by, order_short}
use Rattle.text_checks.specs.Check.{text_order, check_of}
use Rattle.text_lines.specs.Lines.{line_of, is_no_line, line_start}
use Rattle.text_lines.proofs.Counted.{no_line, some_line, line_begins}
use Rattle.text_line_start.specs.Starts.{begun, start_at, start_paper, line_order, numbered_start}
use Rattle.text_lines.specs.declared.Range.{Range}

-- what is said of a refused start and of a place is said of the line of a number
by_line : (t : List ℕ) (n : ℕ) {B : Type 0} (f : Result ℕ Refusal → B) (g : Refusal → B) (z : B) (h : ℕ → List Ground) → ((r : Refusal) → f (Err r) ≡ g r)
    → (length t ≤ max_text → f (Ok (line_start n t)) ≡ in_order g (h (line_start n t)) z) → f (start_at t n) ≡ in_order g (line_order t n h) z
unfolding start_at check_of in_order
by_line t n f g z h p q =
    order_by (λ o. f (begun o (line_of n t))) Err g z p (text_order t) (Ground.given NothingThere (is_no_line n t) ∷ h (line_start n t))
    (λ e. go (line_of n t) refl (order_short t (Ground.lacking NotUtf8 (is_utf8 t) ∷ []) e))
  where
    go : (l : Option Range) → line_of n t ≡ l → length t ≤ max_text → f (begun (Ok tt) l) ≡ in_order g (Ground.given NothingThere (is_no_line n t) ∷ h (line_start n t)) z
    go None e k = rw (no_line n t e) (p NothingThere)
    go (Some r) e k = rw (some_line n t e, line_begins n t e) (q k)

-- its number
pub by_start : (t : List ℕ) (n : ℕ) (f : Result ℕ Refusal → ℕ) (h : ℕ → List Ground) → ((r : Refusal) → f (Err r) ≡ number_of r)
    → (length t ≤ max_text → (at : ℕ) → f (Ok at) ≡ order_no (h at)) → f (start_at t n) ≡ order_no (line_order t n h)
unfolding order_no
by_start t n f h p q = by_line t n f number_of 0 h p (λ k. q k (line_start n t))

-- its number and values, which may speak of the line's place
pub by_start_paper : (t : List ℕ) (n : ℕ) (f : Result ℕ Refusal → Paper) (h : ℕ → List Ground) (vs : List ℕ) → ((r : Refusal) → f (Err r) ≡ refused_paper r)
    → (length t ≤ max_text → f (Ok (line_start n t)) ≡ on_paper (h (line_start n t)) vs) → f (start_at t n) ≡ on_paper (line_order t n h) vs
unfolding on_paper
by_start_paper t n f h vs p q = by_line t n f refused_paper (passed_paper vs) h p q

pub start_paper_lem : (t : List ℕ) (n : ℕ) → start_paper (start_at t n) ≡ numbered_start t n
unfolding on_paper in_order
start_paper_lem t n = by_start_paper t n start_paper (λ at. []) (line_start n t ∷ []) (λ r. refl) (λ k. refl)
