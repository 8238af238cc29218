-- What private functions promise as they walk over blocks: nothing that a reader of the public promises has to believe.
use Rattle.std.specs.Prelude.{ℕ, ◌+◌, ◌<◌, ◌≡◌, Bool, false, List, length, drop, None, Option, Some}
use Rattle.base_bytes.specs.declared.Mode.{Mode}
use Rattle.block_tokens.specs.Shown.{accepted}
use Rattle.block_chain.specs.Computed.{blocks_from}

-- whether blocks stand from i on up to the end
abbrev pub blocks_ok : Mode → List ℕ → ℕ → Bool
blocks_ok m s i = accepted (blocks_from m (drop i s) 0 i)

-- a good block closes at e, and the answer is that for what stands behind it; or there is none
abbrev pub Passes : Mode → List ℕ → ℕ → Option ℕ → Type 0
Passes m s i None = blocks_ok m s i ≡ false
Passes m s i (Some e) = (i < e) × (e < length s) × (blocks_ok m s i ≡ blocks_ok m s (e + 1))

pub record WentPast (m : Mode) (s : List ℕ) (i : ℕ) (p : Option ℕ) : Type 0 where
  pub told : Passes m s i p
