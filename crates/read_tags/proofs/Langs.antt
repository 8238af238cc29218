-- The last value of `lang`: what each token makes of the answer, and the loop over the tokens.
-- Assumes nothing.
use Rattle.std.specs.Prelude.{Some}
use mathlib.Core.Path.{◌≡◌, refl, sym, ◌∙◌, ap}
use mathlib.Core.Bool.{Bool, true, false, ◌&&◌}
use mathlib.Core.List.{List, [], ◌∷◌}
use Prim.Native.Nat.{ℕ, zero, suc, ◌+◌, ◌<◌, ◌≤◌, zero-le}
use native.Mathlib.Omega.{arith}
use lib.ListN.{length, drop}
use Rattle.base_lists.specs.Lists.{all, run}
use Rattle.base_bytes.specs.declared.Mode.{Mode}
use Rattle.base_bytes.specs.Bytes.{is_blank}
use Rattle.text_langtags.specs.Computed.{is_allowed}
use Rattle.block_grammar.specs.Grammar.{Item, Placed, Reading}
use Rattle.block_grammar.specs.Computed.{First, text, tail_of, token_of, also, turn, read_from, one_or_more, read_payload}
use Rattle.block_tokens.specs.declared.Token.{Token}
use Rattle.block_tokens.specs.declared.Token.TheVariants as token
use Rattle.block_tokens.specs.Shown.{token_at, token_end}
use Rattle.block_tokens.proofs.Steps as steps
use Rattle.read_tags.specs.Tagged.{lang_of, unless_new, lang_after, tag_passes, passed_by}
use Rattle.read_tags.specs.Inner.{passes_with, passes_items, passes_rest, passes_from, TagTells}
use Rattle.read_tags.specs.declared.TagStep.TheVariants.{End, Bad, Next}

-- ---- one value

pub all_one : (v : List ℕ) → all is_allowed (v ∷ []) ≡ is_allowed v
unfolding all
all_one v = go (is_allowed v)
  where
    go : (b : Bool) → (b && true) ≡ b
    go true = refl
    go false = refl

-- ---- all items

with_is : (old vs : List (List ℕ)) → passes_with (all is_allowed old) vs ≡ all is_allowed (unless_new vs old)
with_is old [] = refl
with_is old (v ∷ vs) = refl

items_pass : (old : List (List ℕ)) (is : List Placed) → passes_items (all is_allowed old) is ≡ all is_allowed (lang_after old is)
unfolding passes_items lang_after
items_pass old [] = refl
items_pass old (p ∷ is) = rw (with_is old (lang_of p.item)) (items_pass (unless_new (lang_of p.item) old) is)

also_pass : (before : Bool) (p : Placed) (r : Reading) → passes_rest before (also p r) ≡ passes_rest (passes_with before (lang_of p.item)) r
unfolding passes_items
also_pass before p Reading.refused = refl
also_pass before p (Reading.items is) = refl

some_pass : (r : Reading) → passes_rest true r ≡ passed_by (one_or_more r)
unfolding passes_items tag_passes all
some_pass Reading.refused = refl
some_pass (Reading.items []) = refl
some_pass (Reading.items (p ∷ is)) = items_pass [] (p ∷ is)

-- where a payload stands changes nothing
shifted : (m : Mode) (s : List ℕ) (k at to : ℕ) (before : Bool) → passes_rest before (read_from m s k at) ≡ passes_rest before (read_from m s k to)
unfolding read_from
shifted m [] k at to before = refl
shifted m (b ∷ s) (suc k) at to before = shifted m s k (suc at) (suc to) before
shifted m (b ∷ s) zero at to before = go (is_blank m b) (token_of m (b ∷ s)) (λ n. shifted m s n (suc at) (suc to))
  where
    go : (x : Bool) (t : First) → ((n : ℕ) (y : Bool) → passes_rest y (read_from m s n (suc at)) ≡ passes_rest y (read_from m s n (suc to)))
        → passes_rest before (turn x at t (λ n. read_from m s n (suc at))) ≡ passes_rest before (turn x to t (λ n. read_from m s n (suc to)))
    go true t ih = ih 0 before
    go false First.none ih = refl
    go false (First.token j) ih =
        also_pass before (record { at = at; item = j }) (read_from m s (tail_of (text j)) (suc at))
        ∙ ih (tail_of (text j)) (passes_with before (lang_of j))
        ∙ sym (also_pass before (record { at = to; item = j }) (read_from m s (tail_of (text j)) (suc to)))

pub anywhere : (m : Mode) (s : List ℕ) (at to : ℕ) → passed_by (read_payload m at s) ≡ passed_by (read_payload m to s)
unfolding read_payload
anywhere m s at to = sym (some_pass (read_from m s 0 at)) ∙ shifted m s 0 at to true ∙ some_pass (read_from m s 0 to)

-- ---- one token

module _ (m : Mode) (s : List ℕ) {i a : ℕ} (fits : i ≤ length s) (is : a ≡ i + run (is_blank m) (drop i s)) (before : Bool) where
  pub at_end : length s ≤ a → TagTells m s i before End
  unfolding passes_items
  at_end h = record { told = rw (steps.at_end m s fits is (omega (arith, steps.between m s fits is))) }

  pub bad : {n : ℕ} → a < length s → token.Bad n ≡ token_at m s a → TagTells m s i before Bad
  bad h e = record { told = rw (steps.refused m s fits is h e) }

  pub goes : {t : Token} {j : Item} {e : ℕ} {x : Bool} → t ≡ token_at m s a → steps.item_of s t ≡ First.token j → Some e ≡ token_end t → x ≡ passes_with before (lang_of j) → TagTells m s i before (Next x e)
  goes {t} {j} {e} {x} q p b h =
      let z = steps.stepped m s fits is q p b in
      record {
        told = (
          ap (λ y. passes_rest y (read_from m (drop e s) 0 e)) h
              ∙ sym (also_pass before (record { at = a; item = j }) (read_from m (drop e s) 0 e))
              ∙ ap (passes_rest before) (sym z.next),
          (omega (arith, steps.between m s fits is, z.ahead), z.within),
        );
      }

-- ---- the loop: the tokens before i are read

pub record Passing (m : Mode) (s : List ℕ) (i : ℕ) (before : Bool) : Type 0 where
  pub within : i ≤ length s
  pub rest : passes_from m s i before ≡ passed_by (read_payload m 0 s)

pub passing_start : (m : Mode) (s : List ℕ) → Passing m s 0 true
unfolding read_payload
passing_start m s = record { within = zero-le; rest = some_pass (read_from m s 0 0) }

module _ {m : Mode} {s : List ℕ} {i : ℕ} {before : Bool} (inv : Passing m s i before) where
  pub passing_end : TagTells m s i before End → before ≡ passed_by (read_payload m 0 s)
  passing_end h = h.told ∙ inv.rest

  pub passing_bad : TagTells m s i before Bad → true ≡ passed_by (read_payload m 0 s)
  passing_bad h = h.told ∙ inv.rest

  pub passing_go : {x : Bool} {e : ℕ} → TagTells m s i before (Next x e) → Passing m s e x × (i < e)
  passing_go h = (record { within = h.told.1.1; rest = h.told.0 ∙ inv.rest }, h.told.1.0)
