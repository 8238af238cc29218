-- "`ends_in_refused_brace_run` reports its runs' sum, which keeps that bound."
-- Assumes nothing.
use Rattle.std.specs.Prelude.{Ok}
use mathlib.Core.Path.{◌≡◌, refl, ap}
use mathlib.Core.Bool.{Bool, true, false, cond}
use mathlib.Core.List.{List, [], ◌∷◌, ◌++◌, map}
use Prim.Native.Nat.{ℕ, suc, ◌+◌, ◌≤◌}
use native.Mathlib.Omega.{arith}
use lib.ListN.{length}
use Rattle.block_payloads.specs.Payloads.{opens}
use Rattle.base_lists.specs.Lists.{over}
use Rattle.text_lines.specs.Trim.{is_blank_line}
use Rattle.run_lines.specs.Runs.{as_is, sizes}
use Rattle.run_refused.specs.Refused.{refused_of}
use Rattle.run_refused.proofs.Bounds.{told_ahead, ahead_before}
use Rattle.run_endings.specs.declared.Verdict as verdicts
use Rattle.run_endings.specs.declared.Verdict.TheVariants as verdict
use Rattle.run_endings.specs.Inner.{Back, verdict_of, tried_by, tried_line, back_over, back_from}

-- one line of ls was tried, with so much lookahead
pub record Once (ls : List (List ℕ)) (look : ℕ) : Type 0 where
  pub pre : List (List ℕ)
  pub m : List ℕ
  pub tail : List (List ℕ)
  pub whole : ls ≡ pre ++ (m ∷ tail)
  pub opens_m : opens m ≡ true
  pub le : look ≤ sizes (map as_is (m ∷ tail))

abbrev pub Spent : List (List ℕ) → Bool → ℕ → Type 0
Spent ls false look = look ≡ 0
Spent ls true look = Once ls look

abbrev pub Fair : List (List ℕ) → Back → Type 0
Fair ls (Back.looking tried look buf) = Spent ls tried look
Fair ls (Back.told a look buf) = look ≤ sizes (map as_is ls)

sizes_parts : (ls ms : List (List ℕ)) → sizes (map as_is (ls ++ ms)) ≡ sizes (map as_is ls) + sizes (map as_is ms)
unfolding sizes
sizes_parts [] ms = omega arith
sizes_parts (l ∷ ls) ms = omega (arith, sizes_parts ls ms)

sizes_cons : (l : List ℕ) (ls : List (List ℕ)) → sizes (map as_is (l ∷ ls)) ≡ length l + sizes (map as_is ls)
unfolding sizes
sizes_cons l ls = refl

pub spent_le : (ls : List (List ℕ)) (tried : Bool) (look : ℕ) → Spent ls tried look → look ≤ sizes (map as_is ls)
spent_le ls false look h = omega arith
spent_le ls true look h = rw h.whole (omega (arith, h.le, sizes_parts h.pre (h.m ∷ h.tail)))

-- the sum with the run from l on
sum_le : (cap : ℕ) (l : List ℕ) (ls : List (List ℕ)) (tried : Bool) (look : ℕ) → Spent ls tried look → look + (refused_of cap (l ∷ ls)).lookahead ≤ sizes (map as_is (l ∷ ls))
sum_le cap l ls false look h = omega (arith, told_ahead cap (l ∷ ls))
sum_le cap l ls true look h =
    let z = ahead_before cap l h.pre h.m h.tail h.opens_m in
    rw h.whole (omega (arith, z, h.le, sizes_parts h.pre (h.m ∷ h.tail), sizes_cons l h.pre, sizes_cons l (h.pre ++ (h.m ∷ h.tail))))

module _ (again : Bool) (l : List ℕ) (ls : List (List ℕ)) where
  tried_fair : (v : verdicts.Verdict) (k : ℕ) (x : List ℕ) → opens l ≡ true → k ≤ sizes (map as_is (l ∷ ls)) → Fair (l ∷ ls) (tried_by v k x)
  tried_fair (verdict.Told a) k x o h = h
  tried_fair verdict.Next k x o h = record { pre = []; m = l; tail = ls; whole = refl; opens_m = o; le = h }

  spent_on : (tried : Bool) (look : ℕ) → Spent ls tried look → Spent (l ∷ ls) tried look
  spent_on false look h = h
  spent_on true look h = record { pre = l ∷ h.pre; m = h.m; tail = h.tail; whole = ap (λ x. l ∷ x) h.whole; opens_m = h.opens_m; le = h.le }

  fair_over : (b : Back) → Fair ls b → Fair (l ∷ ls) (back_over again l ls b)
  fair_over (Back.told a look x) h = omega (arith, h, sizes_cons l ls)
  fair_over (Back.looking tried look x) h = go (is_blank_line l) (opens l) refl
    where
      go : (y z : Bool) → opens l ≡ z → Fair (l ∷ ls) (cond y (Back.told (Ok false) look x) (cond z (tried_line again tried (suc (length ls)) look x (refused_of (length x) (l ∷ ls))) (Back.looking tried look x)))
      go true z o = omega (arith, spent_le ls tried look h, sizes_cons l ls)
      go false true o =
          tried_fair (verdict_of (refused_of (length x) (l ∷ ls)).answer (suc (length ls)) again tried) (look + (refused_of (length x) (l ∷ ls)).lookahead) (over (refused_of (length x) (l ∷ ls)).text x) o
          (sum_le (length x) l ls tried look h)
      go false false o = spent_on tried look h

pub fair : (again : Bool) (buf : List ℕ) (ls : List (List ℕ)) → Fair ls (back_from again buf ls)
unfolding back_from
fair again buf [] = refl
fair again buf (l ∷ ls) = fair_over again l ls (back_from again buf ls) (fair again buf ls)

pub looking_le : (again : Bool) (buf : List ℕ) (ls : List (List ℕ)) {tried : Bool} {look : ℕ} {x : List ℕ} → back_from again buf ls ≡ Back.looking tried look x → look ≤ sizes (map as_is ls)
looking_le again buf ls {tried} {look} q = spent_le ls tried look (rw q at (fair again buf ls))
