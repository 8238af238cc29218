-- Meanings merged left to right are what is listed, put one behind the other, with each class once; nothing among them changes nothing.
-- Assumes nothing.
use mathlib.Core.Path.{◌≡◌, refl, sym, ◌∙◌, ap}
use mathlib.Core.List.{List, [], ◌∷◌, ◌++◌, map, flat_map, foldl}
use Rattle.base_lists.proofs.Flat.{flat_append}
use Rattle.block_grammar.specs.Meaning.{Entry, classes_once}
use Rattle.proved_grammar.specs.Meaning.{puts}
use Rattle.proved_grammar.specs.Merged.{joined_meaning, merged}
use Rattle.proved_grammar.proofs.Once.{puts_once}
use Rattle.proved_grammar.proofs.Views.{puts-append}
use Rattle.set_table.specs.Types.{Texts}
use Rattle.set_table.specs.Rows.{meant, listed_of, meaning_of}
use Rattle.set_table.specs.declared.Attrs.{Attrs}
use Rattle.proved_sets.specs.Formed.{HasNothing}
use Rattle.proved_sets.proofs.PutsKept.{nothing_rows}
use Rattle.proved_groups.specs.Groups.{all_listed, merged_all, all_mean, EmptyAmong}

-- of things p that list f p
module _ {P : Type 0} (f : P → List Entry) where
  merged_on : (m : List Entry) (ps : List P) → foldl joined_meaning (classes_once m) (map (λ p. classes_once (f p)) ps) ≡ classes_once (puts m (flat_map f ps))
  unfolding flat_map puts joined_meaning
  merged_on m [] = refl
  merged_on m (p ∷ ps) = ap (λ x. foldl joined_meaning x (map (λ p. classes_once (f p)) ps)) (puts_once m (f p)) ∙ merged_on (puts m (f p)) ps ∙ ap classes_once (sym (puts-append m (f p) (flat_map f ps)))

  pub merged_parts : (ps : List P) → merged_all (map (λ p. classes_once (f p)) ps) ≡ classes_once (puts [] (flat_map f ps))
  unfolding merged classes_once
  merged_parts ps = merged_on [] ps

pub all_means : (t : Texts) (sets : List Attrs) → all_mean t sets ≡ classes_once (puts [] (all_listed t sets))
unfolding meaning_of
all_means t sets = merged_parts (listed_of t) sets

-- ======== "An empty set .. merges as nothing."
pub lists_none : (t : Texts) {e : Attrs} → HasNothing e → listed_of t e ≡ []
unfolding listed_of meant
lists_none t n = rw (nothing_rows n)

nothing-listed : (t : Texts) (fore aft : List Attrs) {e : Attrs} → HasNothing e → all_listed t (fore ++ (e ∷ aft)) ≡ all_listed t (fore ++ aft)
unfolding flat_map
nothing-listed t fore aft {e} n = flat_append (listed_of t) fore (e ∷ aft) ∙ ap (λ x. all_listed t fore ++ (x ++ all_listed t aft)) (lists_none t n) ∙ sym (flat_append (listed_of t) fore aft)

pub empty_among : EmptyAmong
empty_among t fore aft e n =
    let l = nothing-listed t fore aft n in
    record { lists = l; means = all_means t (fore ++ (e ∷ aft)) ∙ ap (λ es. classes_once (puts [] es)) l ∙ sym (all_means t (fore ++ aft)) }
