-- The answer made of what the parts promise.
-- Assumes nothing.
use mathlib.Core.Path.{◌≡◌, refl, ap, ◌∙◌}
use mathlib.Core.List.{List}
use Prim.Native.Nat.{ℕ, zero, suc}
use Rattle.base_bytes.specs.declared.Mode.{Mode}
use Rattle.read_brace.specs.declared.Read.{Read}
use Rattle.read_tags.specs.Tagged.{read_tagged}
use Rattle.read_tags.specs.declared.Tags.{Tags}
use Rattle.read_tags.specs.declared.Tags.TheVariants.{WellFormed}
use Rattle.door_shared.proofs.Laws.{Says}
use Rattle.door_sets.specs.Sets.{brace_by}
use Rattle.door_tags.specs.Tags.{tags_of, tags_paper, tagged_said}

pub strict_is : (n : ℕ) → (n ≡ 0 → ⊥) → WellFormed ≡ tags_of n
strict_is zero h = absurd (h refl)
strict_is (suc n) h = refl

pub both_said : {g k : Tags} → g ≡ k → record { value : g ≡ k; result_value : tags_paper g ≡ tags_paper k }
both_said e = record { value = e; result_value = ap tags_paper e }

pub tagged_said_lem : (t buf told : List ℕ) (i : ℕ) {g k : Tags} {m n : Mode} {x : Read} {r : ℕ} {o v : List ℕ} → g ≡ k → m ≡ n → x ≡ read_tagged g m t i
    → Says buf told (brace_by t buf x) r o v → Says buf told (tagged_said k n t i buf) r o v
unfolding tagged_said
tagged_said_lem t buf told i {k = k} {m = m} d e f h = rw (← (f ∙ ap (λ j. read_tagged j m t i) d ∙ ap (λ j. read_tagged k j t i) e)) h
