-- Each item's text of a payload stands at its place, so that ranges of the text give an item's parts.
-- Assumes nothing.
use mathlib.Core.Path.{◌≡◌}
use mathlib.Core.List.{List, [], ◌∷◌, ◌++◌, append_assoc}
use Prim.Native.Nat.{ℕ, suc, ◌+◌}
use native.Mathlib.Omega.{arith}
use native.Mathlib.Numerals.{add-one}
use lib.ListN.{length, drop, length-append}
use lib.Seq.{drop_at}
use Rattle.base_bytes.specs.declared.Mode.{Mode}
use Rattle.block_grammar.specs.Grammar.{Placed}
use Rattle.block_grammar.specs.Computed.{text}
use Rattle.block_grammar.proofs.Chain.{Chain, payload_chain}
use Rattle.block_grammar.proofs.Payload.{token_text}
use Rattle.proved_grammar.specs.Places.{PayloadStands}
pub use Rattle.proved_grammar.specs.Places.{Standing}

stand : {m : Mode} {at : ℕ} {s : List ℕ} {is : List Placed} → Chain m at s is → (pre post : List ℕ) → length pre ≡ at → Standing (pre ++ (s ++ post)) is
stand (Chain.blank {b = b} h p) pre post e = rw append_assoc at (stand p (pre ++ (b ∷ [])) post (rw (length-append pre (b ∷ []), add-one, e)))
stand (Chain.last {at = at} {t = t} {e = s} {i = i} h b) pre post e =
    let d : drop at (pre ++ ((t ++ s) ++ post)) ≡ text i ++ (s ++ post) = rw (drop_at pre ((t ++ s) ++ post) at e, token_text h, append_assoc) in
    Standing.and (s ++ post) d Standing.none
stand (Chain.more {at = at} {t = t} {s = s} {i = i} b h q p) pre post e =
    let z : length (pre ++ (t ++ (b ∷ []))) ≡ suc (at + length t) = omega (arith, length-append pre (t ++ (b ∷ [])), length-append t (b ∷ [])) in
    let w : (pre ++ (t ++ (b ∷ []))) ++ (s ++ post) ≡ pre ++ ((t ++ (b ∷ s)) ++ post) = simp append_assoc in
    let d : drop at (pre ++ ((t ++ (b ∷ s)) ++ post)) ≡ text i ++ (b ∷ (s ++ post)) = rw (drop_at pre ((t ++ (b ∷ s)) ++ post) at e, token_text h, append_assoc) in
    Standing.and (b ∷ (s ++ post)) d (rw w at (stand p (pre ++ (t ++ (b ∷ []))) post z))

pub standing : {m : Mode} {at : ℕ} {s : List ℕ} {is : List Placed} → PayloadStands m at s is
standing p pre post e = stand (payload_chain p) pre post e
