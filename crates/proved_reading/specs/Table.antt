-- The table 'Sizes and refusal numbers' for reading at a brace, by rules: "Given exactly when", in the "Order: at a brace 1, 3, 4, 2, 5, 6, 7".
-- A refusal's number is that of the crate base_refusals.
use Rattle.std.specs.Prelude.{◌≡◌, List, [], ℕ, suc, ◌<◌, ◌≤◌, length, get_or, drop, Err, Ok, Result}
use Rattle.base_bytes.specs.declared.Mode.{Mode}
use Rattle.base_bytes.specs.Bytes.{open_brace}
use Rattle.proved_texts.specs.Utf8Rules.{WellFormed}
use Rattle.base_refusals.specs.Numbers.{max_text}
use Rattle.base_refusals.specs.declared.Refusal.TheVariants.{TextTooLong, NotUtf8, NothingThere, NoClose, TooManyClasses, TooManyKeys}
use Rattle.text_names.specs.Longest.{Longest}
use Rattle.block_grammar.specs.Grammar.{Placed, Payload}
use Rattle.block_grammar.specs.Meaning.{Entry}
use Rattle.proved_grammar.specs.Meaning.{entries_of, meaning}
use Rattle.block_grammar.specs.Close.{Closes}
use Rattle.block_places.specs.Rules.{HasReading}
use Rattle.set_table.specs.Types.{max_classes, max_keys}
use Rattle.proved_sets.specs.Limits.{class_count, key_count}
use Rattle.read_brace.specs.declared.NotRead.{NotRead}
use Rattle.read_brace.specs.declared.NotRead.TheVariants.{Refused, Unread}

-- a `{` at the place
pub record BraceAt (t : List ℕ) (i : ℕ) : Type 0 where
  pub there : i < length t
  pub brace : get_or t i 0 ≡ open_brace

-- a block at i with its close at e
pub record BlockAt (t : List ℕ) (i e : ℕ) : Type 0 where
  pub short : length t ≤ max_text
  pub opens : BraceAt t i
  pub closes : Closes (drop (suc i) t) (suc i) e

-- a block whose payload the grammar reads
pub record Reads (m : Mode) (t : List ℕ) (i e : ℕ) (is : List Placed) : Type 0 where
  pub block : BlockAt t i e
  pub utf8 : WellFormed block.closes.inside
  pub payload : Payload m (suc i) block.closes.inside is

-- what is given of the brace at i: the answer, and the meaning of the set that is handed out with it, nothing on a refusal
pub data Given (m : Mode) (t : List ℕ) (i : ℕ) : Result ℕ NotRead → List Entry → Type 0 where
  -- 1: "text above 65,535 bytes"
  long : max_text < length t → Given m t i (Err (Refused TextTooLong)) []
  -- 3: "no `{` at the place"
  none : length t ≤ max_text → (BraceAt t i → ⊥) → Given m t i (Err (Refused NothingThere)) []
  -- 4: "at a brace: no close"
  unclosed : length t ≤ max_text → BraceAt t i → ((e : ℕ) → Closes (drop (suc i) t) (suc i) e → ⊥) → Given m t i (Err (Refused NoClose)) []
  -- 2: "not UTF-8: the payload at a brace"
  garbled : {e : ℕ} (b : BlockAt t i e) → (WellFormed b.closes.inside → ⊥) → Given m t i (Err (Refused NotUtf8)) []
  -- 5: "at a brace, no reading of the payload exists", with "the length in bytes of the longest prefix of the payload .. that can still be continued to an acceptable payload in the same mode"
  unread : {e n : ℕ} (b : BlockAt t i e) → WellFormed b.closes.inside → ((is : List Placed) → Payload m (suc i) b.closes.inside is → ⊥)
      → Longest (HasReading m) b.closes.inside n → Given m t i (Err (Unread n)) []
  -- 6: "grammatical, more than 64 classes"
  classes : {e : ℕ} {is : List Placed} → Reads m t i e is → max_classes < class_count (entries_of is) → Given m t i (Err (Refused TooManyClasses)) []
  -- 7: "grammatical, more than 64 distinct keys"
  keys : {e : ℕ} {is : List Placed} → Reads m t i e is → class_count (entries_of is) ≤ max_classes → max_keys < key_count (entries_of is) → Given m t i (Err (Refused TooManyKeys)) []
  -- the set, and the place behind the close
  read : {e : ℕ} {is : List Placed} → Reads m t i e is → class_count (entries_of is) ≤ max_classes → key_count (entries_of is) ≤ max_keys → Given m t i (Ok (suc e)) (meaning is)
