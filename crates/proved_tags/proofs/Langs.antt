-- The value that is looked at is the one that the meaning has under `lang`.
-- Assumes nothing.
use mathlib.Core.Path.{◌≡◌, refl, sym, ◌∙◌}
use mathlib.Core.Bool.{Bool, true, false, cond}
use mathlib.Core.List.{List, [], ◌∷◌}
use Prim.Native.Nat.{ℕ}
use Rattle.base_lists.specs.Lists.{all, same}
use Rattle.base_lists.proofs.Same.{same_true}
use Rattle.base_lists.proofs.More.{contra}
use Rattle.base_lists.proofs.Scan.{both}
use Rattle.text_escapes.specs.Unescape.{unescape}
use Rattle.text_langtags.specs.Grammar.{Allowed}
use Rattle.text_langtags.specs.Computed.{is_allowed}
use Rattle.text_langtags.proofs.Sound.{allowed_sound}
use Rattle.text_langtags.proofs.Complete.{allowed_complete}
use Rattle.block_grammar.specs.Grammar.{Item, Placed}
use Rattle.block_grammar.specs.Meaning.{Entry, id_name, class_name, lang_name, is_class, lookup}
use Rattle.block_grammar.proofs.Once.{once_lookup}
use Rattle.proved_grammar.specs.Meaning.{values_of, said, put, puts, entries_of, listed, meaning}
use Rattle.proved_grammar.proofs.Views.{put_same, put_other}
use Rattle.read_tags.specs.Tagged.{lang_of, unless_new, lang_after, tag_passes}
use Rattle.proved_tags.specs.Rules.{LangAllowed}

-- ---- one item

-- a value under the name n
named : (m : List Entry) (n v : List ℕ) → lookup lang_name (put m (record { name = n; values = values_of n v })) ≡ unless_new (cond (same n lang_name) (v ∷ []) []) (lookup lang_name m)
unfolding values_of is_class same
named m n v = go (same n lang_name) refl
  where
    here : (k : List ℕ) → k ≡ lang_name → lookup lang_name (put m (record { name = k; values = values_of k v })) ≡ v ∷ []
    here k e = rw e (put_same m (record { name = lang_name; values = values_of lang_name v }))

    go : (b : Bool) → same n lang_name ≡ b → lookup lang_name (put m (record { name = n; values = values_of n v })) ≡ unless_new (cond b (v ∷ []) []) (lookup lang_name m)
    go true e = here n (same_true n lang_name e)
    go false e = put_other m (record { name = n; values = values_of n v }) lang_name e

item_puts : (m : List Entry) (j : Item) → lookup lang_name (put m (said j)) ≡ unless_new (lang_of j) (lookup lang_name m)
unfolding said lang_of is_class same
item_puts m (Item.tag t) = put_same m (record { name = lang_name; values = t ∷ [] })
item_puts m (Item.id n) = put_other m (record { name = id_name; values = n ∷ [] }) lang_name refl
item_puts m (Item.class n) = put_other m (record { name = class_name; values = n ∷ [] }) lang_name refl
item_puts m (Item.plain k v) = named m k v
item_puts m (Item.quoted k q v) = named m k (unescape v)
item_puts m (Item.bare n) = named m n []

-- ---- all items

items_put : (m : List Entry) (is : List Placed) → lang_after (lookup lang_name m) is ≡ lookup lang_name (puts m (entries_of is))
unfolding lang_after puts entries_of
items_put m [] = refl
items_put m (p ∷ is) = rw (← item_puts m p.item) (items_put (put m (said p.item)) is)

pub lang_is : (is : List Placed) → lang_after [] is ≡ lookup lang_name (meaning is)
unfolding meaning listed is_class same lookup
lang_is is = items_put [] is ∙ sym (once_lookup lang_name (puts [] (entries_of is)))

-- ---- it is one value or none

data Few : List (List ℕ) → Type 0 where
  none : Few []
  one : (v : List ℕ) → Few (v ∷ [])

few_new : {vs old : List (List ℕ)} → Few vs → Few old → Few (unless_new vs old)
few_new Few.none h = h
few_new (Few.one v) h = Few.one v

few_cond : (b : Bool) (v : List ℕ) → Few (cond b (v ∷ []) [])
few_cond true v = Few.one v
few_cond false v = Few.none

few_item : (j : Item) → Few (lang_of j)
unfolding lang_of
few_item (Item.tag t) = Few.one t
few_item (Item.id n) = Few.none
few_item (Item.class n) = Few.none
few_item (Item.plain k v) = few_cond (same k lang_name) v
few_item (Item.quoted k q v) = few_cond (same k lang_name) (unescape v)
few_item (Item.bare n) = few_cond (same n lang_name) []

few_items : (old : List (List ℕ)) (is : List Placed) → Few old → Few (lang_after old is)
unfolding lang_after
few_items old [] h = h
few_items old (p ∷ is) h = few_items (unless_new (lang_of p.item) old) is (few_new (few_item p.item) h)

-- ---- whether it passes

pub passes_allowed : (is : List Placed) → tag_passes is ≡ true → LangAllowed (meaning is)
unfolding tag_passes all
passes_allowed is e v q = allowed_sound v (both (is_allowed v) true (rw (lang_is is, q) at e)).0

pub allowed_passes : (is : List Placed) → LangAllowed (meaning is) → tag_passes is ≡ true
unfolding tag_passes all
allowed_passes is h = go (few_items [] is Few.none) (lang_is is)
  where
    go : {vs : List (List ℕ)} → Few vs → vs ≡ lookup lang_name (meaning is) → all is_allowed vs ≡ true
    go Few.none e = refl
    go (Few.one v) e = rw (allowed_complete (h v (sym e)))

-- a value that doesn't pass
pub record Malformed (s : List Entry) : Type 0 where
  pub value : List ℕ
  pub there : lookup lang_name s ≡ value ∷ []
  pub bad : Allowed value → ⊥

pub fails_malformed : (is : List Placed) → tag_passes is ≡ false → Malformed (meaning is)
unfolding tag_passes all
fails_malformed is f = go (few_items [] is Few.none) (lang_is is) f
  where
    go : {vs : List (List ℕ)} → Few vs → vs ≡ lookup lang_name (meaning is) → all is_allowed vs ≡ false → Malformed (meaning is)
    go Few.none e n = contra true refl n
    go (Few.one v) e n = record { value = v; there = sym e; bad = λ a. contra true refl (rw (allowed_complete a) at n) }

pub malformed_fails : (is : List Placed) (v : List ℕ) → lookup lang_name (meaning is) ≡ v ∷ [] → (Allowed v → ⊥) → tag_passes is ≡ false
malformed_fails is v e n = go (tag_passes is) refl
  where
    go : (b : Bool) → tag_passes is ≡ b → b ≡ false
    go true p = absurd (n (passes_allowed is p v e))
    go false p = refl
