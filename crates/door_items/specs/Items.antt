-- What a caller from C or Rust is answered of a block's items, and of the values under a name, one by one.
use Rattle.std.specs.Prelude.{ℕ, List, [], ◌∷◌, ◌++◌, length, Result}
use Rattle.base_bytes.specs.declared.Mode.{Mode}
use Rattle.base_refusals.specs.Numbers.{outcome_no}
use Rattle.set_canon.specs.Canon.{Pair, pairs}
use Rattle.set_table.specs.Types.{Texts, one}
use Rattle.set_table.specs.Rows.{meaning_of}
use Rattle.set_items.specs.Items.{nth, name_of, value_of, values_under, laid_of, laid_in}
use Rattle.read_blocks.specs.Blocks.{Found, block_of, texts_in}
use Rattle.read_blocks.specs.declared.Block.{Block}
use Rattle.read_brace.specs.Brace.{read_attrs_at, place_said}
use Rattle.read_brace.specs.declared.Read.{Read}
use Rattle.door_shared.specs.Tells.{Said}
use Rattle.door_sets.specs.Sets.{check_by, place_behind}
use Rattle.base_refusals.specs.declared.Refusal.{Refusal}

-- the n-th of the items ps, counted from 0, is laid in `buf`, unless c refuses it or it has no room; told: how many there are, its lengths, and what else is
-- told of the block. A block that is refused has the empty set, and so no item.
abbrev pub nth_said : Result (Unit {0}) Refusal → List Pair → ℕ → (List Pair → List ℕ) → List ℕ → List ℕ → Said
nth_said c ps n lengths more buf =
    record { number = outcome_no (laid_of c (length buf) (nth n ps)).outcome; told = length ps ∷ (lengths (nth n ps) ++ more); out = laid_in c buf (nth n ps) }

-- how long its name and its value are, 0 and 0 where there is none; and its value alone
abbrev pub both_lengths : List Pair → List ℕ
both_lengths ps = length (name_of ps) ∷ length (value_of ps) ∷ []

abbrev pub value_length : List Pair → List ℕ
value_length ps = length (value_of ps) ∷ []

-- ---- of the block at a line: its lines, the place behind it, the lookahead, and how many bytes were joined

abbrev pub lines_told : Block → List ℕ
lines_told b = b.lines ∷ b.next ∷ b.lookahead ∷ b.joined ∷ []

abbrev pub item_said_by : Block → Texts → ℕ → List ℕ → Said
item_said_by b t n buf = nth_said b.outcome (pairs (meaning_of t b.set)) n both_lengths (lines_told b) buf

unfoldable pub item_said : List ℕ → ℕ → Found → ℕ → List ℕ → Said
item_said t at f n buf = item_said_by (block_of t at f) (texts_in t f) n buf

abbrev pub value_said_by : Block → Texts → List ℕ → ℕ → List ℕ → Said
value_said_by b t name n buf = nth_said b.outcome (values_under name (meaning_of t b.set)) n value_length (lines_told b) buf

unfoldable pub value_said : List ℕ → ℕ → Found → List ℕ → ℕ → List ℕ → Said
value_said t at f name n buf = value_said_by (block_of t at f) (texts_in t f) name n buf

-- ---- of the block at a brace: the place behind it, and where a payload with no reading went wrong

abbrev pub places_told : Read → List ℕ
places_told r = place_behind r.answer ∷ place_said r.answer ∷ []

abbrev pub brace_item_by : List ℕ → Read → ℕ → List ℕ → Said
brace_item_by t r n buf = nth_said (check_by r.answer) (pairs (meaning_of (one t) r.set)) n both_lengths (places_told r) buf

unfoldable pub brace_item : Mode → List ℕ → ℕ → ℕ → List ℕ → Said
brace_item m t i n buf = brace_item_by t (read_attrs_at m t i) n buf

abbrev pub brace_value_by : List ℕ → Read → List ℕ → ℕ → List ℕ → Said
brace_value_by t r name n buf = nth_said (check_by r.answer) (values_under name (meaning_of (one t) r.set)) n value_length (places_told r) buf

unfoldable pub brace_value : Mode → List ℕ → ℕ → List ℕ → ℕ → List ℕ → Said
brace_value m t i name n buf = brace_value_by t (read_attrs_at m t i) name n buf
