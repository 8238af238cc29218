-- Reading at a brace without sizes, limits and UTF-8, with which canonical text is read back; the table of refusals is proved_reading/specs/Table.
-- `read_at` answers what the rules of `AtBrace` say and nothing else: 3, 4, 5 or what is listed, each given exactly when document 01 gives it.
-- Assumes nothing.
use Rattle.std.specs.Prelude.{None, Option, Some}
use mathlib.Core.Path.{◌≡◌, refl, ap, sym}
use mathlib.Core.Bool.{Bool, true, false, cond}
use mathlib.Core.List.{List}
use Prim.Native.Nat.{ℕ, suc, ◌-◌}
use lib.Dec.{eqb}
use lib.ListN.{get_or, take, drop}
use borrow.Author.Tests.{eqb-true, eqb-false, eq-eqb, ne_eqb}
use Rattle.base_bytes.specs.declared.Mode.{Mode}
use Rattle.block_grammar.specs.Grammar.{Placed, Payload, Reading}
use Rattle.block_grammar.specs.Computed.{read_payload}
use Rattle.block_grammar.specs.Meaning.{Entry}
use Rattle.proved_grammar.specs.Meaning.{listed}
use Rattle.block_grammar.specs.Close.{Closes}
use Rattle.block_grammar.specs.ComputedClose.{find_close}
use Rattle.block_grammar.proofs.Payload.{sound, complete}
use Rattle.block_grammar.proofs.Close.{found, payload_is}
use Rattle.proved_grammar.proofs.Close.{close_complete, no_close}
use Rattle.proved_grammar.proofs.Payload.{no_reading}

-- a refusal by its number, or what the items list and the place behind the close
pub data Answer : Type 0 where
  refused : ℕ → Answer
  read : List Entry → ℕ → Answer

-- by rules, of the brace at i
pub data AtBrace (m : Mode) (s : List ℕ) (i : ℕ) : Answer → Type 0 where
  -- "no `{` at the place"
  none : (get_or s i 0 ≡ 123 → ⊥) → AtBrace m s i (Answer.refused 3)
  -- "at a brace: no close"
  unclosed : get_or s i 0 ≡ 123 → ((e : ℕ) → Closes (drop (suc i) s) (suc i) e → ⊥) → AtBrace m s i (Answer.refused 4)
  -- "at a brace, no reading of the payload exists"
  unread : {e : ℕ} → get_or s i 0 ≡ 123 → (c : Closes (drop (suc i) s) (suc i) e) → ((is : List Placed) → Payload m (suc i) c.inside is → ⊥) → AtBrace m s i (Answer.refused 5)
  read : {e : ℕ} {is : List Placed} → get_or s i 0 ≡ 123 → (c : Closes (drop (suc i) s) (suc i) e) → Payload m (suc i) c.inside is → AtBrace m s i (Answer.read (listed is) (suc e))

-- by computing
abbrev pub answer : Reading → ℕ → Answer
answer Reading.refused next = Answer.refused 5
answer (Reading.items is) next = Answer.read (listed is) next

abbrev pub read_to : Mode → List ℕ → ℕ → Option ℕ → Answer
read_to m s from None = Answer.refused 4
read_to m s from (Some e) = answer (read_payload m from (take (e - from) (drop from s))) (suc e)

unfoldable pub read_at : Mode → List ℕ → ℕ → Answer
read_at m s i = cond (eqb (get_or s i 0) 123) (read_to m s (suc i) (find_close s (suc i))) (Answer.refused 3)

find_none : (s : List ℕ) (at : ℕ) → find_close s at ≡ None → (e : ℕ) → Closes (drop at s) at e → ⊥
unfolding find_close
find_none s at h e c = no_close (drop at s) at h c

find_some : (s : List ℕ) (at : ℕ) {e : ℕ} → Closes (drop at s) at e → find_close s at ≡ Some e
unfolding find_close
find_some s at c = close_complete c

-- ---- what is answered is by the rules
pub by_rules : (m : Mode) (s : List ℕ) (i : ℕ) → AtBrace m s i (read_at m s i)
unfolding read_at
by_rules m s i = go (eqb (get_or s i 0) 123) refl
  where
    payload : {e : ℕ} → get_or s i 0 ≡ 123 → (c : Closes (drop (suc i) s) (suc i) e) (r : Reading) → read_payload m (suc i) c.inside ≡ r → AtBrace m s i (answer r (suc e))
    payload b c Reading.refused q = AtBrace.unread b c (no_reading m (suc i) c.inside q)
    payload b c (Reading.items is) q = AtBrace.read b c (sound m (suc i) c.inside is q)

    close : get_or s i 0 ≡ 123 → (p : Option ℕ) → find_close s (suc i) ≡ p → AtBrace m s i (read_to m s (suc i) p)
    close b None q = AtBrace.unclosed b (find_none s (suc i) q)
    close b (Some e) q = let f = found s (suc i) e q in payload b f.closes (read_payload m (suc i) (take (e - suc i) (drop (suc i) s))) (ap (λ l. read_payload m (suc i) l) (sym f.payload))

    go : (x : Bool) → eqb (get_or s i 0) 123 ≡ x → AtBrace m s i (cond x (read_to m s (suc i) (find_close s (suc i))) (Answer.refused 3))
    go true p = close (eqb-true (get_or s i 0) 123 p) (find_close s (suc i)) refl
    go false p = AtBrace.none (eqb-false (get_or s i 0) 123 p)

-- ---- and the rules allow one answer
pub only : {m : Mode} {s : List ℕ} {i : ℕ} {a : Answer} → AtBrace m s i a → read_at m s i ≡ a
unfolding read_at
only {m} {s} {i} (AtBrace.none n) = rw (ne_eqb (get_or s i 0) 123 n)
only {m} {s} {i} (AtBrace.unclosed b n) = rw (eq-eqb (get_or s i 0) 123 b) (go (find_close s (suc i)) refl)
  where
    go : (r : Option ℕ) → find_close s (suc i) ≡ r → read_to m s (suc i) r ≡ Answer.refused 4
    go None q = refl
    go (Some e) q = absurd (n e (found s (suc i) e q).closes)
only {m} {s} {i} (AtBrace.unread {e = e} b c n) = rw (eq-eqb (get_or s i 0) 123 b, find_some s (suc i) c, payload_is s (suc i) c) (go (read_payload m (suc i) c.inside) refl)
  where
    go : (r : Reading) → read_payload m (suc i) c.inside ≡ r → answer r (suc e) ≡ Answer.refused 5
    go Reading.refused q = refl
    go (Reading.items is) q = absurd (n is (sound m (suc i) c.inside is q))
only {m} {s} {i} (AtBrace.read b c p) = rw (eq-eqb (get_or s i 0) 123 b, find_some s (suc i) c, payload_is s (suc i) c, complete p)
