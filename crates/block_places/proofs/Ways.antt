-- Where the walk of a token stops, by what the code looks for: runs of bytes, tags, the closing quote.
-- Assumes nothing.
use mathlib.Core.Path.{◌≡◌, refl, sym, ◌∙◌, ap}
use mathlib.Core.Bool.{Bool, true, false, cond, ◌&&◌}
use mathlib.Core.List.{List, [], ◌∷◌}
use Prim.Native.Nat.{ℕ, suc, ◌+◌}
use native.Mathlib.Nat.{zero-add, suc-add}
use borrow.Author.Tests.{eqb-true}
use lib.Dec.{eqb, ltb, leb}
use lib.ListN.{length, take, drop}
use Rattle.base_lists.specs.Lists.{run}
use Rattle.base_lists.proofs.More.{contra}
use Rattle.base_bytes.specs.Bytes.{within, is_letter, is_digit, is_alnum, is_name_start, is_name_part, is_quote, is_plain}
use Rattle.base_letters.specs.Classes.{front_run}
use Rattle.text_names.specs.Computed.{tag_passes}
use Rattle.block_grammar.specs.Computed.{Shut, later, shut_step, shut_of}
use Rattle.block_grammar.proofs.Bytes.{alnum_part}
use Rattle.block_places.specs.Computed.{Spot, Turn, go_if, quoted_turn, turn_of, onward, walk_passes, nothing_parts}

-- how many bytes are passed from a spot of a token
abbrev pub along : Spot → List ℕ → ℕ
along st s = walk_passes nothing_parts st s

-- a spot that stays where it is as long as a test passes
stays_run : (f : ℕ → Bool) (st : Spot) → ((b : ℕ) → turn_of nothing_parts st b ≡ go_if (f b) st) → (s : List ℕ) → along st s ≡ run f s
unfolding walk_passes run
stays_run f st h [] = refl
stays_run f st h (b ∷ s) = rw (h b) (go (f b) (stays_run f st h s))
  where
    go : (x : Bool) → along st s ≡ run f s → onward 0 (λ v. suc (along v s)) (go_if x st) ≡ cond x (suc (run f s)) 0
    go true ih = ap (λ n. suc n) ih
    go false ih = refl

name_way : (s : List ℕ) → along Spot.name s ≡ run is_name_part s
unfolding turn_of
name_way s = stays_run is_name_part Spot.name (λ b. refl) s

plain_way : (s : List ℕ) → along Spot.plain s ≡ run is_plain s
unfolding turn_of
plain_way s = stays_run is_plain Spot.plain (λ b. refl) s

-- behind `#` or `.`
pub sigil_way : (s : List ℕ) → along Spot.sigil s ≡ front_run is_name_start is_name_part s
unfolding walk_passes turn_of
sigil_way [] = refl
sigil_way (b ∷ s) = go (is_name_start b)
  where
    go : (x : Bool) → onward 0 (λ v. suc (along v s)) (go_if x Spot.name) ≡ cond x (suc (run is_name_part s)) 0
    go true = ap (λ n. suc n) (name_way s)
    go false = refl

-- in a tag, whether it may end or not
pub tag_way : (s : List ℕ) (k : ℕ) (ok : Bool) → along (Spot.tag k ok) s ≡ tag_passes is_alnum s k
unfolding walk_passes turn_of tag_passes
tag_way [] k ok = refl
tag_way (b ∷ s) k ok = go (is_alnum b) (ltb k 8) (eqb b 45) (leb 1 k) (tag_way s (suc k) true) (tag_way s 0 false)
  where
    go : (w x y z : Bool) → along (Spot.tag (suc k) true) s ≡ tag_passes is_alnum s (suc k) → along (Spot.tag 0 false) s ≡ tag_passes is_alnum s 0
        → onward 0 (λ v. suc (along v s)) (cond w (go_if x (Spot.tag (suc k) true)) (go_if (y && z) (Spot.tag 0 false))) ≡ cond w (cond x (suc (tag_passes is_alnum s (suc k))) 0) (cond (z && y) (suc (tag_passes is_alnum s 0)) 0)
    go true true y z p q = ap (λ n. suc n) p
    go true false y z p q = refl
    go false x true true p q = ap (λ n. suc n) q
    go false x true false p q = refl
    go false x false true p q = refl
    go false x false false p q = refl

no_alnum : (b : ℕ) → is_name_part b ≡ false → is_alnum b ≡ false
no_alnum b e = cases (is_alnum b) refl
  where
    cases : (x : Bool) → is_alnum b ≡ x → x ≡ false
    cases true p = contra (is_name_part b) (alnum_part b p) e
    cases false p = refl

no_hyphen : (b : ℕ) → is_name_part b ≡ false → eqb b 45 ≡ false
unfolding is_name_part is_alnum is_letter is_digit within
no_hyphen b e = cases (eqb b 45) refl
  where
    cases : (x : Bool) → eqb b 45 ≡ x → x ≡ false
    cases true p = contra (is_name_part b) (rw (eqb-true b 45 p)) e
    cases false p = refl

-- what may stand in a tag are bytes of names, so no more than their run is looked at
pub tag_front : (s : List ℕ) (k : ℕ) → tag_passes is_alnum (take (run is_name_part s) s) k ≡ tag_passes is_alnum s k
unfolding tag_passes run
tag_front [] k = refl
tag_front (b ∷ s) k = go (is_name_part b) refl (tag_front s (suc k)) (tag_front s 0)
  where
    go : (x : Bool) → is_name_part b ≡ x → tag_passes is_alnum (take (run is_name_part s) s) (suc k) ≡ tag_passes is_alnum s (suc k) → tag_passes is_alnum (take (run is_name_part s) s) 0 ≡ tag_passes is_alnum s 0 → tag_passes is_alnum (take (run is_name_part (b ∷ s)) (b ∷ s)) k ≡ tag_passes is_alnum (b ∷ s) k
    go true e p q = rw (e, p, q)
    go false e p q = rw (e, no_alnum b e, no_hyphen b e) (sym (neither (leb 1 k)))
      where
        neither : (x : Bool) → cond (x && false) (suc (tag_passes is_alnum s 0)) 0 ≡ 0
        neither true = refl
        neither false = refl

-- ---- in a key or a bare name
abbrev pub after_word : List ℕ → ℕ
after_word [] = 0
after_word (b ∷ s) = cond (eqb b 61) (suc (along Spot.due s)) 0

pub word_way : (s : List ℕ) (ok : Bool) → along (Spot.word ok) s ≡ run is_name_part s + after_word (drop (run is_name_part s) s)
unfolding walk_passes turn_of run
word_way [] ok = refl
word_way (b ∷ s) ok = go (is_name_part b) (eqb b 61) refl (word_way s ok)
  where
    go : (x y : Bool) → eqb b 61 ≡ y → along (Spot.word ok) s ≡ run is_name_part s + after_word (drop (run is_name_part s) s) → onward 0 (λ v. suc (along v s)) (cond x (Turn.go (Spot.word ok)) (go_if y Spot.due)) ≡ cond x (suc (run is_name_part s)) 0 + after_word (drop (cond x (suc (run is_name_part s)) 0) (b ∷ s))
    go true y e ih = rw (ih, suc-add)
    go false true e ih = rw (e, zero-add)
    go false false e ih = rw (e, zero-add)

-- ---- behind `=`
pub due_quote : (q : ℕ) (s : List ℕ) → is_quote q ≡ true → along Spot.due (q ∷ s) ≡ suc (along (Spot.quoted q false) s)
unfolding walk_passes turn_of
due_quote q s h = rw h

pub due_plain : (b : ℕ) (s : List ℕ) → is_quote b ≡ false → along Spot.due (b ∷ s) ≡ run is_plain (b ∷ s)
unfolding walk_passes turn_of run
due_plain b s h = rw h (go (is_plain b))
  where
    go : (x : Bool) → onward 0 (λ v. suc (along v s)) (go_if x Spot.plain) ≡ cond x (suc (run is_plain s)) 0
    go true = ap (λ n. suc n) (plain_way s)
    go false = refl

-- ---- in a quote
abbrev pub shut_place : List ℕ → Shut → ℕ
shut_place s Shut.never = length s
shut_place s (Shut.after n) = suc n

shut_none : (s : List ℕ) → along Spot.shut s ≡ 0
unfolding walk_passes turn_of
shut_none [] = refl
shut_none (b ∷ s) = refl

pub quote_way : (q : ℕ) (s : List ℕ) (e : Bool) → along (Spot.quoted q e) s ≡ shut_place s (shut_of q s e)
unfolding walk_passes turn_of shut_of
quote_way q [] e = refl
quote_way q (b ∷ s) e = go e (eqb b q) (eqb b 92) refl refl (λ x. quote_way q s x) ∙ refl
  where
    on : (c : Shut) {n : ℕ} → n ≡ shut_place s c → suc n ≡ shut_place (b ∷ s) (later c)
    on Shut.never h = ap (λ n. suc n) h
    on (Shut.after k) h = ap (λ n. suc n) h

    go : (x y z : Bool) → eqb b q ≡ y → eqb b 92 ≡ z → ((x : Bool) → along (Spot.quoted q x) s ≡ shut_place s (shut_of q s x)) → onward 0 (λ v. suc (along v s)) (quoted_turn q x b) ≡ shut_place (b ∷ s) (shut_step x y z (λ v. shut_of q s v))
    go true y z p r ih = on (shut_of q s false) (ih false)
    go false true z p r ih = rw (p, shut_none s)
    go false false z p r ih = rw (p, r) (on (shut_of q s z) (ih z))
