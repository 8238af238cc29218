-- What the walk comes to at a wrong byte and at the close.
-- Assumes nothing.
use Rattle.std.specs.Prelude.{None, Option, Some, Err}
use mathlib.Core.Path.{◌≡◌, sym, ◌∙◌, ap}
use mathlib.Core.Bool.{Bool, true, false}
use mathlib.Core.List.{List}
use Prim.Native.Nat.{ℕ, suc, ◌+◌, ◌-◌, ◌<◌, ◌≤◌}
use borrow.Author.Tests.{lt-ltb, le-ltb}
use lib.ListN.{length, take, drop}
use Rattle.base_bytes.specs.declared.Mode.{Mode}
use Rattle.base_refusals.specs.Numbers.{max_text}
use Rattle.base_refusals.specs.declared.Refusal.TheVariants.{TextTooLong, NotUtf8, NothingThere, NoClose}
use Rattle.text_utf8.specs.Computed.{is_utf8}
use Rattle.block_grammar.specs.ComputedClose.{find_close}
use Rattle.block_grammar.proofs.Close.{found}
use Rattle.read_brace.specs.Brace.{payload_of, brace_at, at_brace, read_attrs_at}
use Rattle.read_brace.proofs.Laws.{part}
use Rattle.read_brace.specs.declared.NotRead.TheVariants.{Refused, Unread}
use Rattle.read_brace.specs.declared.Read.{Read}
use Rattle.read_tags.specs.Tagged.{tag_at, read_tagged}
use Rattle.read_tags.specs.declared.Tags.{Tags}
use Rattle.read_tags.specs.declared.Tags.TheVariants.{Any, WellFormed}
use Rattle.read_once.specs.Inner.{unread_to, no_set, once_to}

-- the payload, as the code cuts it out
pub told : (t : List ℕ) (i e : ℕ) {b : Bool} → b ≡ is_utf8 (take (e - (i + 1)) (drop (i + 1) t)) → is_utf8 (payload_of t i e) ≡ b
told t i e h = sym (h ∙ ap is_utf8 (part t i e))

-- the search from a wrong byte on finds what the search for the whole finds
module _ (t : List ℕ) (i n : ℕ) (same : find_close t n ≡ find_close t (suc i)) {p : Option ℕ} (is : p ≡ find_close t n) where
  pub closed : {e : ℕ} → p ≡ Some e → (suc i ≤ e) × (e < length t)
  closed {e} q = let f = found t (suc i) e (sym same ∙ sym is ∙ q) in (f.from, f.to)

  pub no_close : p ≡ None → Err (Refused NoClose) ≡ unread_to t i n (find_close t (suc i))
  no_close q = rw (sym same ∙ sym is ∙ q)

  module _ {e : ℕ} (q : p ≡ Some e) where
    pub wrong_bytes : is_utf8 (payload_of t i e) ≡ false → Err (Refused NotUtf8) ≡ unread_to t i n (find_close t (suc i))
    wrong_bytes u = rw (sym same ∙ sym is ∙ q, u)

    pub wrong_place : is_utf8 (payload_of t i e) ≡ true → Err (Unread (n - i - 1)) ≡ unread_to t i n (find_close t (suc i))
    wrong_place u = rw (sym same ∙ sym is ∙ q, u)

-- ---- before the walk: 1 and 3
module _ (m : Mode) (t : List ℕ) (i : ℕ) {v : Read} where
  pub too_long_lem : (g : Tags) → max_text < length t → v ≡ no_set (Err (Refused TextTooLong)) → v ≡ read_tagged g m t i
  unfolding read_tagged read_attrs_at tag_at at_brace
  too_long_lem Any h q = q ∙ (rw (lt-ltb max_text (length t) h))
  too_long_lem WellFormed h q = q ∙ (rw (lt-ltb max_text (length t) h))

  module _ (h : length t ≤ max_text) where
    pub no_brace : (g : Tags) → brace_at t i ≡ false → v ≡ no_set (Err (Refused NothingThere)) → v ≡ read_tagged g m t i
    unfolding read_tagged read_attrs_at tag_at at_brace
    no_brace Any b q = q ∙ (rw (le-ltb max_text (length t) h, b))
    no_brace WellFormed b q = q ∙ (rw (le-ltb max_text (length t) h, b))

    pub walked : (g : Tags) → brace_at t i ≡ true → v ≡ once_to g m t i (find_close t (suc i)) → v ≡ read_tagged g m t i
    unfolding read_tagged read_attrs_at tag_at at_brace
    walked Any b q = q ∙ (rw (le-ltb max_text (length t) h, b))
    walked WellFormed b q = q ∙ (rw (le-ltb max_text (length t) h, b))

-- the plain one
pub plain : (m : Mode) (t : List ℕ) (i : ℕ) {v : Read} → v ≡ read_tagged Any m t i → v ≡ read_attrs_at m t i
unfolding read_tagged
plain m t i q = q
