-- What a caller from C or Rust is answered of a block whose key `loose` is taken out.
use Rattle.std.specs.Prelude.{ℕ, List, [], ◌∷◌, length, Result, Err, Ok, true, false, Bool}
use Rattle.text_checks.specs.Outcomes.{or_left}
use Rattle.set_table.specs.Types.{Texts}
use Rattle.set_writer.specs.Write.{wrote_paper, or_refused, attrs_wrote, attrs_content}
use Rattle.set_loose.specs.Loose.{loose_of}
use Rattle.set_loose.specs.declared.Consumed.{Consumed}
use Rattle.read_blocks.specs.Blocks.{Found, block_of, texts_in}
use Rattle.read_blocks.specs.declared.Block.{Block}
use Rattle.door_shared.specs.Tells.{Said, len_of}
use Rattle.base_refusals.specs.declared.Refusal.{Refusal}

-- 1 where it acted
abbrev pub acted_told : Result Bool Refusal → ℕ
acted_told (Err r) = 0
acted_told (Ok true) = 1
acted_told (Ok false) = 0

-- "The result .. may be empty, and the writer then answers 12": the block's refusal, else what the writer answers of the set that is left
abbrev pub left_wrote : Block → Texts → Consumed → ℕ → Result ℕ Refusal
left_wrote b t c size = or_refused b.outcome (attrs_wrote t c.set size)

-- told: whether it acted; the length of the canonical text, 0 where none is written; the block's lines, the place behind it, the lookahead, how much was joined
abbrev pub left_said : Block → Texts → Consumed → List ℕ → Said
left_said b t c buf =
    record {
      number = (wrote_paper (left_wrote b t c (length buf))).number;
      told = acted_told c.did ∷ len_of (left_wrote b t c (length buf)) ∷ b.lines ∷ b.next ∷ b.lookahead ∷ b.joined ∷ [];
      out = or_left b.outcome buf (attrs_content t c.set buf);
    }

-- a block over its texts; that of a refusal has the empty set, on which nothing acts
abbrev pub loose_said_by : Block → Texts → List ℕ → Said
loose_said_by b t buf = left_said b t (loose_of t b.set) buf

unfoldable pub loose_said : List ℕ → ℕ → Found → List ℕ → Said
loose_said t at f buf = loose_said_by (block_of t at f) (texts_in t f) buf
