-- One step: from the code to its definition, and from the definition to the reader.
-- Assumes nothing.
use Rattle.std.specs.Prelude.{None, Option, Some}
use mathlib.Core.Path.{◌≡◌, refl, sym, ap, ◌∙◌}
use mathlib.Core.Bool.{Bool, true, false, cond}
use mathlib.Core.List.{List, [], ◌∷◌}
use Prim.Native.Nat.{ℕ, ◌+◌, ◌<◌, ◌≤◌}
use native.Mathlib.Omega.{arith}
use lib.Dec.{leb}
use lib.ListN.{length, drop}
use borrow.Author.Tests.{le-leb, lt-leb, leb-true, leb-false}
use types.Run.{OneOf, miss}
use denote.Enum.Declared.{tag_of}
use Rattle.base_lists.specs.Lists.{run}
use Rattle.base_lists.proofs.More.{contra}
use Rattle.base_bytes.specs.declared.Mode.{Mode}
use Rattle.base_bytes.specs.Bytes.{is_blank}
use Rattle.block_grammar.specs.Grammar.{Placed, Reading}
use Rattle.block_grammar.specs.Computed.{First, text, token_of, also, read_from}
use Rattle.block_places.specs.Computed.{token_place}
use Rattle.block_tokens.specs.Shown.{shown, token_at, token_end}
use Rattle.block_tokens.specs.declared.Token.{Token}
use Rattle.block_tokens.specs.declared.Token.TheVariants.{Bad, Tag, Id, Class, Plain, Quoted, Bare}
use Rattle.block_tokens.specs.contracts.Token as Tk
use Rattle.block_tokens.proofs.Steps as steps
use Rattle.block_next_token.specs.Walk.{gone_to, is_bad, step_over, step_at, shown_placed}
use Rattle.block_next_token.specs.declared.Step.{Step}

-- the token ahead, or t
abbrev pub found : Token → Option Token → Token
found t None = t
found t (Some u) = u

abbrev pub is_end : Option Token → Bool
is_end None = true
is_end (Some t) = false

-- a token whose tag is that of a variant behind the first is not `Bad`
pub tag_not_bad : (t : Token) → OneOf (1 ∷ 2 ∷ 3 ∷ 4 ∷ 5 ∷ 6 ∷ []) (tag_of Tk.the_type t) → is_bad t ≡ false
tag_not_bad (Bad n) k = absurd (miss (1 ∷ 2 ∷ 3 ∷ 4 ∷ 5 ∷ 6 ∷ []) 0 tt k)
tag_not_bad (Tag f e) k = refl
tag_not_bad (Id f e) k = refl
tag_not_bad (Class f e) k = refl
tag_not_bad (Plain f j e) k = refl
tag_not_bad (Quoted f j e) k = refl
tag_not_bad (Bare f e) k = refl

-- ---- the code of a step
module _ (m : Mode) (s : List ℕ) (at : ℕ) {a : ℕ} (is : a ≡ at + run (is_blank m) (drop at s)) where
  pub ends : length s ≤ a → record { ahead = None; at = a } ≡ step_at m s at
  unfolding step_at
  ends h = rw (← is, le-leb (length s) a h)

  pub goes : a < length s → {t : Token} {e : ℕ} → t ≡ token_at m s a → e ≡ gone_to a (token_end t) → record { ahead = Some t; at = e } ≡ step_at m s at
  unfolding step_at
  goes h p q = rw (← is, lt-leb (length s) a h, ← p, q)

-- ---- a step and the reader

-- what the step x from `at` says of what the reader reads there
pub data Says (m : Mode) (s : List ℕ) (at : ℕ) : Step → Type 0 where
  none : {a : ℕ} → read_from m (drop at s) 0 at ≡ Reading.items [] → Says m s at (record { ahead = None; at = a })
  bad : {a n : ℕ} → read_from m (drop at s) 0 at ≡ Reading.refused → Says m s at (record { ahead = Some (Bad n); at = a })
  one : (p : Placed) (e : ℕ) → read_from m (drop at s) 0 at ≡ also p (read_from m (drop e s) 0 e) → at < e → e ≤ length s → Says m s at (record { ahead = Some (shown_placed p); at = e })

module _ (m : Mode) (s : List ℕ) {at : ℕ} (fits : at ≤ length s) where
  abbrev a : ℕ
  a = at + run (is_blank m) (drop at s)

  over : (x : First) → token_of m (drop a s) ≡ x → a < length s → Says m s at (step_over a (shown a (a + token_place (drop a s)) x))
  unfolding shown
  over First.none p h = Says.bad (steps.none_refused m s fits refl h p)
  over (First.token j) p h =
      let q = steps.item_behind a j in
      let t = steps.token_stepped m s fits refl p (sym q) in
      rw q (Says.one (record { at = a; item = j }) (a + length (text j)) t.next (omega (arith, steps.between m s fits refl, t.ahead)) t.within)

  pub says : Says m s at (step_at m s at)
  unfolding step_at
  says = go (leb (length s) a) refl
    where
      go : (c : Bool) → leb (length s) a ≡ c → Says m s at (cond c (record { ahead = None; at = a }) (step_over a (token_at m s a)))
      go true e = Says.none (steps.at_end m s fits refl (omega (arith, leb-true (length s) a e, steps.between m s fits refl)))
      go false e = over (token_of m (drop a s)) refl (leb-false (length s) a e)

-- .. and so a walker that gives a token goes on, within the text
pub record Onward (s : List ℕ) (at : ℕ) (x : Step) : Type 0 where
  pub ahead : at < x.at
  pub within : x.at ≤ length s

-- a token that was read is not `Bad`
pub shown_not_bad : (p : Placed) → is_bad (shown_placed p) ≡ false
shown_not_bad p = go (shown_placed p) (steps.item_behind p.at p.item)
  where
    go : (t : Token) {n : ℕ} → token_end t ≡ Some n → is_bad t ≡ false
    go (Bad k) q = contra true refl (cc)
    go (Tag f e) q = refl
    go (Id f e) q = refl
    go (Class f e) q = refl
    go (Plain f k e) q = refl
    go (Quoted f k e) q = refl
    go (Bare f e) q = refl

pub onward : (m : Mode) (s : List ℕ) (at : ℕ) {x : Step} → at ≤ length s → x ≡ step_at m s at → {t : Token} → x.ahead ≡ Some t → is_bad t ≡ false → Onward s at x
onward m s at {x} fits is {t} e n = go x (rw is (says m s fits)) e
  where
    go : (y : Step) → Says m s at y → y.ahead ≡ Some t → Onward s at y
    go y (Says.none q) e = contra true refl (ap is_end e)
    go y (Says.bad {n = k} q) e = contra true refl (ap (λ z. is_bad (found (Bad k) z)) e ∙ n)
    go y (Says.one p k q ahead within) e = record { ahead = ahead; within = within }
