-- What a caller from C or Rust is told of an index beside a sheet.
use Rattle.std.specs.Prelude.{ℕ, List, [], ◌∷◌, Err, Ok, Result, None, Option, Some}
use Rattle.base_refusals.specs.declared.Refusal.{Refusal}

-- how many records, and how many bytes of index text; 0 and 0 where it is refused
abbrev pub built_told : Result (ℕ × ℕ) Refusal → List ℕ
built_told (Err r) = 0 ∷ 0 ∷ []
built_told (Ok (k, n)) = k ∷ n ∷ []

-- how many records were read, 0 where it is refused
abbrev pub counted_told : Result ℕ Refusal → List ℕ
counted_told (Err r) = 0 ∷ []
counted_told (Ok n) = n ∷ []

-- 1 where a record was found, and its first line, line count and offset; else four times 0
abbrev pub look_told : Result (Option (ℕ × ℕ × ℕ)) Refusal → List ℕ
look_told (Err r) = 0 ∷ 0 ∷ 0 ∷ 0 ∷ []
look_told (Ok None) = 0 ∷ 0 ∷ 0 ∷ 0 ∷ []
look_told (Ok (Some (l, c, o))) = 1 ∷ l ∷ c ∷ o ∷ []
