-- The checks of two texts: which comes first tells the number alone; and a text that gives neither 1 nor 2 is as an empty one.
-- Assumes nothing.
use Rattle.std.specs.Prelude.{Err, Ok, Result}
use mathlib.Core.Path.{◌≡◌, refl, sym, ◌∙◌}
use mathlib.Core.Bool.{Bool, true, false, ◌&&◌}
use mathlib.Core.List.{List, []}
use Prim.Native.Nat.{ℕ}
use Rattle.base_lists.proofs.More.{contra}
use Rattle.base_refusals.specs.declared.Refusal.{Refusal}
use Rattle.text_utf8.specs.Computed.{is_utf8, octets_from}
use Rattle.text_checks.specs.Check.{check_of, both_of, is_text}
use Rattle.text_checks.specs.Outcomes.{or_else}
use Rattle.text_checks.proofs.CheckNumbers.{both_is}
use Rattle.text_checks.proofs.Texts.{text-passes}

abbrev pub passes : Result (Unit {0}) Refusal → Bool
passes (Ok _) = true
passes (Err r) = false

-- a test of both, in either order
pub and_changed : (a b c : Bool) → (b && (a && c)) ≡ (a && (b && c))
and_changed true b c = refl
and_changed false true c = refl
and_changed false false c = refl

else_changed : (o p : Result (Unit {0}) Refusal) → passes (or_else o p) ≡ passes (or_else p o)
else_changed (Ok _) (Ok _) = refl
else_changed (Ok _) (Err r) = refl
else_changed (Err r) (Ok _) = refl
else_changed (Err r) (Err q) = refl

pub both_changed : (t u : List ℕ) → passes (both_of u t) ≡ passes (both_of t u)
both_changed t u = rw (← both_is t u, ← both_is u t) (else_changed (check_of u) (check_of t))

-- outcomes that pass alike come to the same for f, if for that all refusals are one
pub both_pass : {A : Type 0} (f : Result (Unit {0}) Refusal → A) (x : A) → ((r : Refusal) → f (Err r) ≡ x) → (o p : Result (Unit {0}) Refusal) → passes o ≡ passes p → f o ≡ f p
both_pass f x h (Ok _) (Ok _) e = refl
both_pass f x h (Ok _) (Err r) e = contra true refl e
both_pass f x h (Err q) (Ok _) e = contra false e refl
both_pass f x h (Err q) (Err r) e = h q ∙ sym (h r)

-- ---- texts that give neither 1 nor 2
pub empty_text : is_text [] ≡ true
unfolding is_text is_utf8 octets_from
empty_text = refl

pub both_texts : (t u : List ℕ) → is_text t ≡ true → is_text u ≡ true → both_of t u ≡ Ok tt
both_texts t u h g = rw (← both_is t u, text-passes t h, text-passes u g)

-- as the second, as the first
module _ (t u : List ℕ) (h : is_text u ≡ true) where
  pub second_lent : both_of t u ≡ both_of t []
  second_lent = rw (← both_is t u, ← both_is t [], text-passes u h, text-passes [] empty_text)

  pub first_lent : both_of u t ≡ both_of [] t
  first_lent = rw (← both_is u t, ← both_is [] t, text-passes u h, text-passes [] empty_text)

  -- as either, beside an empty one as the other
  pub changed_lent : both_of u t ≡ both_of t []
  changed_lent = rw (← both_is u t, ← both_is t [], text-passes u h, text-passes [] empty_text) (passed-behind (check_of t))
    where
      passed-behind : (o : Result (Unit {0}) Refusal) → o ≡ or_else o (Ok tt)
      passed-behind (Ok _) = refl
      passed-behind (Err r) = refl
