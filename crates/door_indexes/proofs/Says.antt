-- An answer about an index, made of what the parts promise.
-- Assumes nothing.
use Rattle.std.specs.Prelude.{Result, Option}
use mathlib.Core.Path.{◌≡◌}
use mathlib.Core.List.{List}
use Prim.Native.Nat.{ℕ}
use Rattle.sheet_index.specs.Building.{built_paper, counted_paper}
use Rattle.sheet_index.specs.Finding.{look_paper}
use Rattle.door_shared.specs.Tells.{told_in}
use Rattle.door_indexes.specs.Indexes.{built_told, counted_told, look_told}
use Rattle.base_refusals.specs.declared.Refusal.{Refusal}

-- what is built or mended: the join buffer, the table and the index text as they stand then
pub built_said : (told : List ℕ) {R b : Result (ℕ × ℕ) Refusal} {r : ℕ} {i j t u o p v : List ℕ} → b ≡ R → i ≡ j → t ≡ u → o ≡ p → r ≡ (built_paper b).number → v ≡ told_in told (built_told b)
    → record { value : r ≡ (built_paper R).number; join_after : i ≡ j; table_after : t ≡ u; out_after : o ≡ p; told_after : v ≡ told_in told (built_told R) }
built_said told e join table out n v = rw (← e) (record { value = n; join_after = join; table_after = table; out_after = out; told_after = v })

pub counted-said : (told : List ℕ) {R b : Result ℕ Refusal} {r : ℕ} {t u v : List ℕ} → b ≡ R → t ≡ u → r ≡ (counted_paper b).number → v ≡ told_in told (counted_told b)
    → record { value : r ≡ (counted_paper R).number; table_after : t ≡ u; told_after : v ≡ told_in told (counted_told R) }
counted-said told e table n v = rw (← e) (record { value = n; table_after = table; told_after = v })

pub found-said : (told : List ℕ) {R b : Result (Option (ℕ × ℕ × ℕ)) Refusal} {r : ℕ} {v : List ℕ} → b ≡ R → r ≡ (look_paper b).number → v ≡ told_in told (look_told b)
    → record { value : r ≡ (look_paper R).number; told_after : v ≡ told_in told (look_told R) }
found-said told e n v = rw (← e) (record { value = n; told_after = v })
