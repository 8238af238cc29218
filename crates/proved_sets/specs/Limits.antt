-- Rows 1, 2, 6 and 7 of the table 'Sizes and refusal numbers', by rules that lines, blocks, runs and merges share (at a brace the rules are `Given` of
-- proved_reading/specs/Table). A rule gives an answer, and the meaning of the set that is handed out with it, nothing on a refusal.
use Rattle.std.specs.Prelude.{◌≡◌, cond, ◌&&◌, List, [], ◌∷◌, ℕ, ◌+◌, ◌<◌, ◌≤◌, length, Err, Ok, Result}
use Rattle.base_refusals.specs.Numbers.{max_text}
use Rattle.base_refusals.specs.declared.Refusal.TheVariants.{TextTooLong, NotUtf8, TooManyClasses, TooManyKeys}
use Rattle.proved_texts.specs.Utf8Rules.{WellFormed}
use Rattle.block_grammar.specs.Meaning.{Entry, is_class}
use Rattle.proved_grammar.specs.Meaning.{absent}
use Rattle.set_table.specs.Types.{Texts, max_classes, max_keys}
use Rattle.set_table.specs.Shape.{is_free}
use Rattle.base_refusals.specs.declared.Refusal.{Refusal}

-- "64 classes": each counts, each time that it is said
abbrev pub entry_classes : Entry → ℕ
entry_classes e = cond (is_class e.name) (length e.values) 0

unfoldable pub class_count : List Entry → ℕ
class_count [] = 0
class_count (e ∷ es) = entry_classes e + class_count es

-- "distinct keys": one counts once, where it is said last; "Keys `id` and `class` .. go to the id and the classes"
abbrev pub entry_keys : Entry → List Entry → ℕ
entry_keys e es = cond (is_free e.name && absent e.name es) 1 0

unfoldable pub key_count : List Entry → ℕ
key_count [] = 0
key_count (e ∷ es) = entry_keys e es + key_count es

-- "Given exactly when": the answer o, with a set that means s, is by the rules G, and they give nothing else; "Any two results it allows are proved equal"
pub record Exactly {A : Type 0} (G : A → List Entry → Type 0) (o : A) (s : List Entry) : Type 0 where
  pub given : G o s
  pub only : (p : A) (u : List Entry) → G p u → (o ≡ p) × (s ≡ u)
  pub single : (p q : A) (u v : List Entry) → G p u → G q v → (p ≡ q) × (u ≡ v)

-- "1, ..", and then what G gives
pub data SizeGiven (t : List ℕ) (G : Result (Unit {0}) Refusal → List Entry → Type 0) : Result (Unit {0}) Refusal → List Entry → Type 0 where
  -- 1: "text above 65,535 bytes"
  long : max_text < length t → SizeGiven t G (Err TextTooLong) []
  short : {o : Result (Unit {0}) Refusal} {s : List Entry} → length t ≤ max_text → G o s → SizeGiven t G o s

-- "2, ..", and then what G gives
pub data Utf8Given (t : List ℕ) (G : Result (Unit {0}) Refusal → List Entry → Type 0) : Result (Unit {0}) Refusal → List Entry → Type 0 where
  -- 2: "not UTF-8: ..; the whole text elsewhere"
  garbled : (WellFormed t → ⊥) → Utf8Given t G (Err NotUtf8) []
  text : {o : Result (Unit {0}) Refusal} {s : List Entry} → WellFormed t → G o s → Utf8Given t G o s

-- "1 and 2 are checked for the first text, then 1 and 2 for the second", and then what G gives
abbrev pub TextsGiven : Texts → (Result (Unit {0}) Refusal → List Entry → Type 0) → Result (Unit {0}) Refusal → List Entry → Type 0
TextsGiven t G = SizeGiven t.first (Utf8Given t.first (SizeGiven t.second (Utf8Given t.second G)))

-- ".., 6, 7", where es is all that is said, and else the set, which means s
pub data LimitGiven (es s : List Entry) : Result (Unit {0}) Refusal → List Entry → Type 0 where
  -- 6: "grammatical, more than 64 classes"
  classes : max_classes < class_count es → LimitGiven es s (Err TooManyClasses) []
  -- 7: "grammatical, more than 64 distinct keys"
  keys : class_count es ≤ max_classes → max_keys < key_count es → LimitGiven es s (Err TooManyKeys) []
  within : class_count es ≤ max_classes → key_count es ≤ max_keys → LimitGiven es s (Ok tt) s
