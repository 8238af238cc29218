-- The loop of `token_count`.
-- Assumes nothing.
use Rattle.std.specs.Prelude.{None, Option, Some}
use mathlib.Core.Path.{◌≡◌, refl, sym, ◌∙◌, ap}
use mathlib.Core.Bool.{true, false}
use mathlib.Core.List.{List, [], ◌∷◌}
use Prim.Native.Nat.{ℕ, ◌+◌, ◌<◌, ◌≤◌, zero-le}
use native.Mathlib.Omega.{arith}
use types.Run.{OneOf}
use denote.Enum.Declared.{tag_of}
use Rattle.block_tokens.specs.contracts.Token as Tk
use lib.ListN.{length, drop}
use Rattle.base_lists.proofs.More.{contra}
use Rattle.base_bytes.specs.declared.Mode.{Mode}
use Rattle.block_grammar.specs.Grammar.{Placed, Reading}
use Rattle.block_grammar.specs.Computed.{also, read_from}
use Rattle.block_tokens.specs.declared.Token.{Token}
use Rattle.block_tokens.specs.declared.Token.TheVariants.{Bad}
use Rattle.block_next_token.specs.Walk.{is_bad, step_at, counted}
use Rattle.block_next_token.specs.declared.Step.{Step}
use Rattle.block_next_token.proofs.Steps.{found, is_end, Says, says, shown_not_bad, tag_not_bad}

-- the count where n tokens stand before what is read
abbrev more : ℕ → Reading → Option ℕ
more n Reading.refused = None
more n (Reading.items is) = Some (n + length is)

more_none : (r : Reading) → more 0 r ≡ counted r
more_none Reading.refused = refl
more_none (Reading.items is) = ap (λ k. Some k) (omega arith)

more_also : (n : ℕ) (p : Placed) (r : Reading) → more n (also p r) ≡ more (n + 1) r
more_also n p Reading.refused = refl
more_also n p (Reading.items is) = ap (λ k. Some k) (omega arith)

-- the loop stands before byte i with n tokens counted, and the answer is r
pub record Counts (m : Mode) (s : List ℕ) (r : Option ℕ) (i n : ℕ) : Type 0 where
  pub within : i ≤ length s
  pub few : n ≤ i
  pub rest : more n (read_from m (drop i s) 0 i) ≡ r

pub start : (m : Mode) (s : List ℕ) → Counts m s (counted (read_from m s 0 0)) 0 0
start m s = record { within = zero-le; few = zero-le; rest = more_none (read_from m s 0 0) }

module _ {m : Mode} {s : List ℕ} {r : Option ℕ} {i n : ℕ} (inv : Counts m s r i n) {x : Step} (is : x ≡ step_at m s i) where
  told : Says m s i x
  told = rw is (says m s inv.within)

  pub end : x.ahead ≡ None → Some n ≡ r
  end e = go x told e
    where
      go : (y : Step) → Says m s i y → y.ahead ≡ None → Some n ≡ r
      go y (Says.none q) e = ap (λ k. Some k) (omega arith) ∙ (rw q at inv.rest)
      go y (Says.bad q) e = contra true refl (ap is_end (sym e))
      go y (Says.one p k q ahead within) e = contra true refl (ap is_end (sym e))

  pub stop : {k : ℕ} → x.ahead ≡ Some (Bad k) → None ≡ r
  stop {k} e = go x told e
    where
      go : (y : Step) → Says m s i y → y.ahead ≡ Some (Bad k) → None ≡ r
      go y (Says.none q) e = contra true refl (ap is_end e)
      go y (Says.bad q) e = rw q at inv.rest
      go y (Says.one p j q ahead within) e = contra true refl (sym (ap (λ z. is_bad (found (Bad k) z)) e) ∙ shown_not_bad p)

  pub go : {t : Token} → x.ahead ≡ Some t → is_bad t ≡ false → Counts m s r x.at (n + 1) × (i < x.at)
  go {t} e n' = on x told e
    where
      on : (y : Step) → Says m s i y → y.ahead ≡ Some t → Counts m s r y.at (n + 1) × (i < y.at)
      on y (Says.none q) e = contra true refl (ap is_end e)
      on y (Says.bad {n = k} q) e = contra true refl (ap (λ z. is_bad (found (Bad k) z)) e ∙ n')
      on y (Says.one p k q ahead within) e = (record { within = within; few = omega (arith, inv.few); rest = rw (q, more_also) at inv.rest }, ahead)

  -- .. by the token's tag, as the code tells it
  pub next : {t : Token} → x.ahead ≡ Some t → OneOf (1 ∷ 2 ∷ 3 ∷ 4 ∷ 5 ∷ 6 ∷ []) (tag_of Tk.the_type t) → Counts m s r x.at (n + 1) × (i < x.at)
  next {t} e k = go e (tag_not_bad t k)
