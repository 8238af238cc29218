-- What private functions promise as they walk over a payload: nothing that a reader of the public promise has to believe.
use Rattle.std.specs.Prelude.{ℕ, ◌<◌, ◌≤◌, ◌≡◌, Bool, true, List, [], ◌∷◌, length, drop}
use Rattle.base_lists.specs.Lists.{all}
use Rattle.base_bytes.specs.declared.Mode.{Mode}
use Rattle.text_langtags.specs.Computed.{is_allowed}
use Rattle.block_grammar.specs.Grammar.{Placed, Reading}
use Rattle.block_grammar.specs.Computed.{read_from}
use Rattle.read_tags.specs.Tagged.{lang_of}
use Rattle.read_tags.specs.declared.TagStep as answers
use Rattle.read_tags.specs.declared.TagStep.TheVariants.{End, Bad, Next}

-- whether `lang` passes with what an item gives it, where `before` says so of what came before
abbrev pub passes_with : Bool → List (List ℕ) → Bool
passes_with before [] = before
passes_with before (v ∷ vs) = all is_allowed (v ∷ vs)

unfoldable pub passes_items : Bool → List Placed → Bool
passes_items before [] = before
passes_items before (p ∷ is) = passes_items (passes_with before (lang_of p.item)) is

-- what has no reading passes
abbrev pub passes_rest : Bool → Reading → Bool
passes_rest before Reading.refused = true
passes_rest before (Reading.items is) = passes_items before is

-- with the tokens from i on
abbrev pub passes_from : Mode → List ℕ → ℕ → Bool → Bool
passes_from m s i before = passes_rest before (read_from m (drop i s) 0 i)

abbrev pub TagTellsBy : Mode → List ℕ → ℕ → Bool → answers.TagStep → Type 0
TagTellsBy m s i before End = before ≡ passes_from m s i before
TagTellsBy m s i before Bad = true ≡ passes_from m s i before
TagTellsBy m s i before (Next with e) = (passes_from m s e with ≡ passes_from m s i before) × ((i < e) × (e ≤ length s))

-- what a token says, and how it goes on behind it
pub record TagTells (m : Mode) (s : List ℕ) (i : ℕ) (before : Bool) (r : answers.TagStep) : Type 0 where
  pub told : TagTellsBy m s i before r
