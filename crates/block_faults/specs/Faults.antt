-- "blocks stand back to back to its end": what is wrong first where they don't.
use Rattle.std.specs.Prelude.{Bool, true, false, cond, List, [], ◌∷◌, ℕ, zero, suc, ◌+◌, ◌-◌, eqb, take, Err, None, Ok, Option, Result, Some}
use Rattle.base_bytes.specs.declared.Mode.TheVariants.{Loose}
use Rattle.base_bytes.specs.Bytes.{open_brace}
use Rattle.base_refusals.specs.Numbers.{Paper, passed_paper}
use Rattle.block_grammar.specs.Close.{fresh}
use Rattle.block_grammar.specs.ComputedClose.{close_from}
use Rattle.block_tokens.specs.Shown.{payload_tested}
use Rattle.block_faults.specs.declared.Fault.{Fault}
use Rattle.block_faults.specs.declared.Fault.TheVariants.{Behind, Open, Wrong}

-- "Refusal 5 .. shall carry a place": that at which the payload, whose first byte stands at `at`, went wrong; else what is wrong behind it
abbrev pub payload_fault : ℕ → Result (Unit {0}) ℕ → Option Fault → Option Fault
payload_fault at (Ok _) rest = rest
payload_fault at (Err n) rest = Some (Wrong (at + n))

-- s stands behind the brace at `at`, and the close is known: "no close", or the payload, and then the rest, once it is known how many bytes of s the block took
abbrev pub block_fault : List ℕ → ℕ → Option ℕ → (ℕ → Option Fault) → Option Fault
block_fault s at None rest = Some (Open at)
block_fault s at (Some e) rest = payload_fault (suc at) (payload_tested Loose (take (e - suc at) s)) (rest (suc (e - suc at)))

-- the list's first byte stands at `at`, and k bytes of the list belong to a good block
unfoldable pub fault_from : List ℕ → ℕ → ℕ → Option Fault
fault_from [] k at = None
fault_from (b ∷ s) zero at = cond (eqb b open_brace) (block_fault s at (close_from s fresh (suc at)) (λ n. fault_from s n (suc at))) (Some (Behind at))
fault_from (b ∷ s) (suc k) at = fault_from s k (suc at)

-- nothing is wrong
abbrev pub is_good : Option Fault → Bool
is_good None = true
is_good (Some (Behind i)) = false
is_good (Some (Open i)) = false
is_good (Some (Wrong i)) = false

-- on paper: which fault it is, and its place; document 01 has no number for it
abbrev pub fault_paper : Option Fault → Paper
fault_paper None = passed_paper (0 ∷ [])
fault_paper (Some (Behind i)) = passed_paper (1 ∷ i ∷ [])
fault_paper (Some (Open i)) = passed_paper (2 ∷ i ∷ [])
fault_paper (Some (Wrong i)) = passed_paper (3 ∷ i ∷ [])
