-- The grammar's `Payload`, byte by byte from the front: the form that proofs go by. It derives the same.
-- Assumes nothing.
use mathlib.Core.Path.{◌≡◌, refl}
use mathlib.Core.Bool.{true, false}
use mathlib.Core.List.{List, [], ◌∷◌, ◌++◌, append_assoc}
use Prim.Native.Nat.{ℕ, suc, ◌+◌}
use native.Mathlib.Nat.{add-zero, add-suc, suc-add}
use lib.ListN.{length}
use Rattle.base_lists.specs.Lists.{all, headed}
use Rattle.base_lists.proofs.Scan.{both}
use Rattle.base_lists.proofs.More.{contra}
use Rattle.base_bytes.specs.declared.Mode.{Mode}
use Rattle.base_bytes.specs.Bytes.{is_blank}
use Rattle.block_grammar.specs.Grammar.{Item, Placed, IsToken, Blanks, Gap, Tokens, Payload}

pub data Chain (m : Mode) : ℕ → List ℕ → List Placed → Type 0 where
  blank : {at b : ℕ} {s : List ℕ} {is : List Placed} → is_blank m b ≡ true → Chain m (suc at) s is → Chain m at (b ∷ s) is
  last : {at : ℕ} {t e : List ℕ} {i : Item} → IsToken t i → Blanks m e → Chain m at (t ++ e) (record { at = at; item = i } ∷ [])
  more : {at : ℕ} {t s : List ℕ} {i : Item} {is : List Placed} (b : ℕ) → IsToken t i → is_blank m b ≡ true → Chain m (suc (at + length t)) s is → Chain m at (t ++ (b ∷ s)) (record { at = at; item = i } ∷ is)

pub no_blanks : (m : Mode) → Blanks m []
unfolding all
no_blanks m = record { each = refl }

pub blanks_cons : {m : Mode} {s : List ℕ} (b : ℕ) → is_blank m b ≡ true → Blanks m s → Blanks m (b ∷ s)
unfolding all
blanks_cons b h e = record { each = rw h e.each }

-- ---- from the published form
behind : (m : Mode) (b : List ℕ) {at : ℕ} {s : List ℕ} {is : List Placed} → all (is_blank m) b ≡ true → Chain m (at + length b) s is → Chain m at (b ++ s) is
unfolding all
behind m [] h p = rw add-zero at p
behind m (c ∷ b) {at} h p =
    let g = both (is_blank m c) (all (is_blank m) b) h in
    Chain.blank g.0 (behind m b g.1 (rw (add-suc, ← suc-add at (length b)) at p))

across : (m : Mode) (b : List ℕ) {at : ℕ} {t s : List ℕ} {i : Item} {is : List Placed} → IsToken t i → headed (is_blank m) (is_blank m) b ≡ true → Chain m (at + length t + length b) s is → Chain m at (t ++ (b ++ s)) (record { at = at; item = i } ∷ is)
unfolding headed
across m [] h g p = contra false g refl
across m (c ∷ b) {at} {t} h g p =
    let q = both (is_blank m c) (all (is_blank m) b) g in
    Chain.more c h q.0 (behind m b q.1 (rw (add-suc, ← suc-add (at + length t) (length b)) at p))

tokens_chain : {m : Mode} {at : ℕ} {t e : List ℕ} {is : List Placed} → Tokens m at t is → Blanks m e → Chain m at (t ++ e) is
tokens_chain (Tokens.one h) e = Chain.last h e
tokens_chain {m} {e = e} (Tokens.more {t = t} {b = b} {s = s} h g r) f = rw (append_assoc t (b ++ s) e, append_assoc b s e) (across m b h g.each (tokens_chain r f))

pub payload_chain : {m : Mode} {at : ℕ} {s : List ℕ} {is : List Placed} → Payload m at s is → Chain m at s is
payload_chain {m} (Payload.payload {b = b} h t e) = behind m b h.each (tokens_chain t e)

-- ---- to the published form
longer : {m : Mode} {at : ℕ} {s : List ℕ} {is : List Placed} (c : ℕ) → is_blank m c ≡ true → Payload m (suc at) s is → Payload m at (c ∷ s) is
longer {m} {at} c h (Payload.payload {b = b} {t = t} {is = is} p q r) =
    let z : Tokens m (at + length (c ∷ b)) t is = rw (add-suc, ← suc-add at (length b)) q in
    Payload.payload (blanks_cons c h p) z r

from_tokens : {m : Mode} {at : ℕ} {t e : List ℕ} {is : List Placed} → Tokens m at t is → Blanks m e → Payload m at (t ++ e) is
from_tokens {m} {at} {t} {is = is} q e = let z : Tokens m (at + 0) t is = rw add-zero q in Payload.payload (no_blanks m) z e

gap : {m : Mode} (c : ℕ) {b : List ℕ} → is_blank m c ≡ true → Blanks m b → Gap m (c ∷ b)
unfolding headed
gap c h e = record { each = rw h e.each }

before : {m : Mode} {at : ℕ} {t s : List ℕ} {i : Item} {is : List Placed} (c : ℕ) → IsToken t i → is_blank m c ≡ true → Payload m (suc (at + length t)) s is → Payload m at (t ++ (c ∷ s)) (record { at = at; item = i } ∷ is)
before {m} {at} {t = t} {i = i} {is = is} c h q (Payload.payload {b = b} {t = u} {e = e} p r f) =
    let z : Tokens m (at + length t + length (c ∷ b)) u is = rw (add-suc, ← suc-add (at + length t) (length b)) r in
    let w : Payload m at ((t ++ (c ∷ (b ++ u))) ++ e) (record { at = at; item = i } ∷ is) = from_tokens (Tokens.more h (gap c q p) z) f in
    rw (append_assoc t (c ∷ (b ++ u)) e, append_assoc b u e) at w

pub chain_payload : {m : Mode} {at : ℕ} {s : List ℕ} {is : List Placed} → Chain m at s is → Payload m at s is
chain_payload (Chain.blank {b = b} h p) = longer b h (chain_payload p)
chain_payload (Chain.last h e) = from_tokens (Tokens.one h) e
chain_payload (Chain.more b t h p) = before b t h (chain_payload p)
