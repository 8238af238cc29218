-- What the two checks say of a text, as yes or no.
-- Assumes nothing.
use Rattle.std.specs.Prelude.{Err, Ok, Result, is_ok}
use mathlib.Core.Path.{◌≡◌, refl}
use mathlib.Core.Bool.{Bool, true, false, cond, ◌&&◌}
use mathlib.Core.List.{List}
use Prim.Native.Nat.{ℕ, ◌≤◌}
use borrow.Author.Tests.{le-leb, lt-leb, le-ltb, leb-true, ltb-true, ltb-false}
use lib.Dec.{leb, ltb}
use lib.ListN.{length}
use Rattle.base_lists.proofs.Scan.{both}
use Rattle.text_utf8.specs.Computed.{is_utf8}
use Rattle.base_refusals.specs.Numbers.{max_text}
use Rattle.base_refusals.specs.Numbers as numbers
use Rattle.base_refusals.specs.declared.Refusal.{Refusal}
use Rattle.base_refusals.specs.declared.Refusal.TheVariants.{TextTooLong, NotUtf8}
use Rattle.text_checks.specs.Check.{check_of, is_text}

module _ (t : List ℕ) where
  module _ (h : is_text t ≡ true) where
    pub text_short : length t ≤ max_text
    unfolding is_text
    text_short = leb-true (length t) max_text (both (leb (length t) max_text) (is_utf8 t) h).0

    pub text_utf8 : is_utf8 t ≡ true
    unfolding is_text
    text_utf8 = (both (leb (length t) max_text) (is_utf8 t) h).1

    pub text-passes : check_of t ≡ Ok tt
    unfolding check_of
    text-passes = rw (le-ltb max_text (length t) text_short, text_utf8)

  pub is_text_lem : length t ≤ max_text → is_utf8 t ≡ true → is_text t ≡ true
  unfolding is_text
  is_text_lem h u = rw (le-leb (length t) max_text h, u)

pub text_is : (t : List ℕ) → is_ok (check_of t) ≡ is_text t
unfolding check_of is_text
text_is t = go (ltb max_text (length t)) refl (is_utf8 t)
  where
    go : (a : Bool) → ltb max_text (length t) ≡ a → (b : Bool) → is_ok (cond a (Err TextTooLong) (cond b numbers.passed (Err NotUtf8))) ≡ (leb (length t) max_text && b)
    go true e b = rw (lt-leb (length t) max_text (ltb-true max_text (length t) e))
    go false e true = rw (le-leb (length t) max_text (ltb-false max_text (length t) e))
    go false e false = rw (le-leb (length t) max_text (ltb-false max_text (length t) e))

pub passed : (t : List ℕ) {c : Result (Unit {0}) Refusal} → c ≡ check_of t → c ≡ Ok tt → true ≡ is_text t
passed t e q = (rw (← e, q) at (text_is t))

pub refused : (t : List ℕ) {c : Result (Unit {0}) Refusal} {r : Refusal} → c ≡ check_of t → c ≡ Err r → false ≡ is_text t
refused t e q = (rw (← e, q) at (text_is t))
