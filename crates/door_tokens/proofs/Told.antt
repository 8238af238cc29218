-- What is told of a payload and of a token, made of what the parts promise.
-- Assumes nothing.
use Rattle.std.specs.Prelude.{Option, Some}
use mathlib.Core.Path.{◌≡◌, refl, ◌∙◌}
use mathlib.Core.Bool.{Bool, true}
use mathlib.Core.List.{List, [], ◌∷◌}
use Prim.Native.Nat.{ℕ}
use lib.Dec.{ltb}
use lib.ListN.{set}
use types.Run.{OneOf}
use denote.Enum.Declared.{tag_of}
use Rattle.base_bytes.specs.declared.Mode.{Mode}
use Rattle.text_lines.specs.declared.Range.{Range}
use Rattle.block_tokens.specs.declared.Token.{Token}
use Rattle.block_tokens.specs.contracts.Token as Tk
use Rattle.block_next_token.specs.Walk.{step_at}
use Rattle.block_next_token.proofs.Steps.{tag_not_bad}
use Rattle.block_next_token.specs.declared.Step.{Step}
use Rattle.door_shared.specs.Tells.{told_in}
use Rattle.door_shared.proofs.Laws.{told_2, told_4}
use Rattle.door_tokens.specs.declared.Shape.{Shape}
use Rattle.door_tokens.specs.Tokens.{is_payload, range_told, is_token, ahead_shape, step_told}

pub payload_told : (buf : List ℕ) {r s : Range} {u v : List ℕ} → r ≡ s → u ≡ set buf 0 r.from → v ≡ set u 1 r.to
    → (ltb 0 r.from ≡ is_payload s) × (v ≡ told_in buf (range_told s))
payload_told buf {r} e p q = rw (← e) (refl, told_2 buf r.from r.to p q)

pub step_told_lem : (m : Mode) (t : List ℕ) (at : ℕ) (buf : List ℕ) {k : Mode} {s : Step} {h : Shape} {u v w x : List ℕ} {b : Bool} → k ≡ m → s ≡ step_at k t at → h ≡ ahead_shape s.ahead s.at
    → u ≡ set buf 0 h.kind → v ≡ set u 1 h.from → w ≡ set v 2 h.to → x ≡ set w 3 s.at → b ≡ is_token s.ahead
    → (b ≡ is_token (step_at m t at).ahead) × (x ≡ told_in buf (step_told (step_at m t at)))
step_told_lem m t at buf {k} {s} {h} e f g p q r z i = rw (← e, ← f) (i, told_4 buf h.kind h.from h.to s.at p q r z ∙ rw g)

-- bytes that are a token of a later variant than `Bad`
pub not_bad : {a : Option Token} {t : Token} → a ≡ Some t → OneOf (1 ∷ 2 ∷ 3 ∷ 4 ∷ 5 ∷ 6 ∷ []) (tag_of Tk.the_type t) → true ≡ is_token a
not_bad {a} {t} e k = rw (e, tag_not_bad t k)
