-- A token by a lent table: how the code comes to it by the first byte; and for callers: where the table tells the bytes it is the token of the text.
-- Assumes nothing.
use mathlib.Core.Path.{◌≡◌, refl, ◌∙◌}
use mathlib.Core.Bool.{Bool, true, false}
use mathlib.Core.List.{List, [], ◌∷◌}
use Prim.Native.Nat.{ℕ, ◌+◌, ◌<◌, ◌≤◌}
use native.Mathlib.Nat.{add-zero, add-suc, suc-add}
use native.Mathlib.Omega.{arith}
use native.Mathlib.Numerals.{add-one}
use lib.Dec.{eqb}
use lib.ListN.{length, get_or, drop, drop_of_length-le}
use lib.Seq.{drop-cons}
use borrow.Author.Tests.{ne_eqb}
use Rattle.base_lists.specs.Lists.{is_in}
use Rattle.base_bytes.specs.declared.Mode.{Mode}
use Rattle.base_letters.specs.Classes.{TellsBytes}
use Rattle.base_letters.proofs.Rule as rule
use Rattle.text_names.specs.Names.{is_name}
use Rattle.text_names.specs.Computed.{is_language}
use Rattle.block_grammar.specs.Grammar.{Item}
use Rattle.block_grammar.specs.Computed.{token_of}
use Rattle.block_places.specs.Computed.{turn_of, walk_passes, token_place}
use Rattle.block_places.proofs.Ways as ways
use Rattle.block_tokens.specs.declared.Token.{Token}
use Rattle.block_tokens.specs.declared.Token.TheVariants.{Bad}
use Rattle.block_tokens.specs.Shown.{shown, token_at}
use Rattle.block_tokens.specs.Lent.{Tests, tests_of, tag_by, name_by, word_by, first_by, tag_place_by, name_place_by, word_place_by, place_by, token_by}
use Rattle.block_tokens.proofs.Words as words

-- ---- by the first byte
module _ (t : Tests) (m : Mode) (s : List ℕ) (i : ℕ) where
  pub past_end : length s ≤ i → Bad i ≡ token_by t m s i
  unfolding first_by place_by shown
  past_end h = rw (drop_of_length-le s h, add-zero)

  module _ (l : i < length s) where
    pub at_colon : get_or s i 0 ≡ 58 → shown i (i + 1 + tag_place_by t (drop (i + 1) s)) (tag_by t m (drop (i + 1) s)) ≡ token_by t m s i
    unfolding first_by place_by
    at_colon e = rw (drop-cons s i 0 l, e, add-one i, add-suc, suc-add)

    pub at_hash : get_or s i 0 ≡ 35 → shown i (i + 1 + name_place_by t (drop (i + 1) s)) (name_by t m (λ n. Item.id n) (drop (i + 1) s)) ≡ token_by t m s i
    unfolding first_by place_by is_in
    at_hash e = rw (drop-cons s i 0 l, e, add-one i, add-suc, suc-add)

    pub at_dot : get_or s i 0 ≡ 46 → shown i (i + 1 + name_place_by t (drop (i + 1) s)) (name_by t m (λ n. Item.class n) (drop (i + 1) s)) ≡ token_by t m s i
    unfolding first_by place_by is_in
    at_dot e = rw (drop-cons s i 0 l, e, add-one i, add-suc, suc-add)

    pub at_other : (get_or s i 0 ≡ 58 → ⊥) → (get_or s i 0 ≡ 35 → ⊥) → (get_or s i 0 ≡ 46 → ⊥) → shown i (i + word_place_by t (drop i s)) (word_by t m (drop i s)) ≡ token_by t m s i
    unfolding first_by place_by is_in
    at_other p q r = rw (drop-cons s i 0 l, ne_eqb (get_or s i 0) 58 p, ne_eqb (get_or s i 0) 35 q, ne_eqb (get_or s i 0) 46 r)

-- ---- what may begin a name is a later byte of it, in any table
module _ (table : List ℕ) where
  pub name_part : (b : ℕ) → (tests_of table).name b ≡ true → (tests_of table).part b ≡ true
  name_part = rule.wider 7 15 refl (omega arith) (omega arith) table

  pub key_part : (b : ℕ) → (tests_of table).key b ≡ true → (tests_of table).part b ≡ true
  key_part = rule.wider 5 15 refl (omega arith) (omega arith) table

  pub letter_key : (b : ℕ) → (tests_of table).letter b ≡ true → (tests_of table).key b ≡ true
  letter_key = rule.wider 1 5 refl (omega arith) (omega arith) table

-- ---- for callers
same_first : (m : Mode) (s : List ℕ) → first_by words.bytes m s ≡ token_of m s
unfolding first_by token_of is_name is_language
same_first m [] = refl
same_first m (b ∷ s) = rw (words.word_same m (b ∷ s))

same_place : (s : List ℕ) → place_by words.bytes s ≡ token_place s
unfolding place_by token_place walk_passes turn_of
same_place [] = refl
same_place (b ∷ s) = go (eqb b 58) (is_in (35 ∷ 46 ∷ []) b) refl refl
  where
    go : (x y : Bool) → eqb b 58 ≡ x → is_in (35 ∷ 46 ∷ []) b ≡ y → place_by words.bytes (b ∷ s) ≡ token_place (b ∷ s)
    go true y p q = rw (p, words.tag_place s)
    go false true p q = rw (p, q, ways.sigil_way s)
    go false false p q = rw (p, q) (words.same_place (b ∷ s))

-- a table that tells the bytes gives the token of the text
pub told : {table : List ℕ} → TellsBytes table → (m : Mode) (s : List ℕ) (i : ℕ) {r : Token} → r ≡ token_by (tests_of table) m s i → r ≡ token_at m s i
told tells m s i q =
    q ∙ ((λ k. token_by (record { letter = tells.letter k; alnum = tells.alnum k; key = tells.key k; name = tells.name k; part = tells.part k }) m s i)
    ∙ (λ k. shown i (i + same_place (drop i s) k) (same_first m (drop i s) k)))
