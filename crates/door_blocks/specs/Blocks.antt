-- What a caller from C or Rust is answered of a block.
use Rattle.std.specs.Prelude.{ℕ, Bool, cond, ◌&&◌, not, List, [], ◌∷◌, ltb, length}
use Rattle.base_refusals.specs.Numbers.{too_long}
use Rattle.read_blocks.specs.Blocks.{Found, block_of, texts_in}
use Rattle.read_blocks.specs.declared.Block.{Block}
use Rattle.set_table.specs.Types.{Texts}
use Rattle.door_shared.specs.Tells.{Said, set_said}

-- a block over its texts, and then 10
abbrev pub block_said_by : Block → Texts → List ℕ → Said
block_said_by b t buf = set_said b.outcome t b.set buf (λ n. b.lines ∷ b.next ∷ b.lookahead ∷ b.joined ∷ n ∷ [])

-- "merging, well-formedness and writing take both texts": the lent one, and what was joined
unfoldable pub block_said : List ℕ → ℕ → Found → List ℕ → Said
block_said t at f buf = block_said_by (block_of t at f) (texts_in t f) buf

-- ---- by place: what is told behind a refusal is the place, but 0 where no line begins there or the text is too long

unfoldable pub is_place_in : List ℕ → ℕ → Bool
is_place_in t at = not (too_long t) && ltb at (length t)

abbrev pub place_in : List ℕ → ℕ → ℕ
place_in t at = cond (is_place_in t at) at 0

-- a block with 0 for its place
abbrev pub nowhere : Block → Block
nowhere b = record { outcome = b.outcome; set = b.set; lines = b.lines; lookahead = b.lookahead; joined = b.joined; next = 0 }
