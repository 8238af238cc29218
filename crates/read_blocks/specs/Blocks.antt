-- Blocks at a place: which lines a block takes, and what it reads.
use Rattle.std.specs.Prelude.{ℕ, Bool, cond, List, [], ◌∷◌, ◌++◌, eqb, length, Err, Ok, Result}
use Rattle.std.proofs.Math.Seq.{slice}
use Rattle.base_lists.specs.Lists.{is_some, over}
use Rattle.base_bytes.specs.declared.Mode.TheVariants.{Loose}
use Rattle.base_refusals.specs.Numbers.{too_long}
use Rattle.base_refusals.specs.Orders.{Ground, met}
use Rattle.base_refusals.specs.declared.Refusal.{Refusal}
use Rattle.base_refusals.specs.declared.Refusal.TheVariants.{TextTooLong, NothingThere, NoReading}
use Rattle.block_chain.specs.Chain.{good_line}
use Rattle.block_chain.specs.Computed.{read_blocks}
use Rattle.set_fill.specs.Fill.{reading_order, chain_at}
use Rattle.set_table.specs.Types.{Texts, one, two}
use Rattle.set_table.specs.declared.Attrs.{Attrs}
use Rattle.set_table.specs.declared.Filled.{Filled}
use Rattle.set_table.specs.Filled.{refusing}
use Rattle.set_exchange.specs.Exchange.{exchanged}
use Rattle.run_lines.specs.Runs.{Run, run_at, past_lines}
use Rattle.block_trimmed_line.specs.Fronts.{front_of, opens_at}
use Rattle.read_blocks.specs.declared.Block.{Block}

-- ---- which lines a block takes

-- one good line; a good run; or neither, with what was joined by then and the lookahead
pub data Found : Type 0 where
  line : Found
  run : Run → Found
  none : Refusal → List ℕ → ℕ → Found

abbrev pub nothing : Refusal → Found
nothing r = Found.none r [] 0

-- "The run ends at the first line with a `}` after which the joined text holds no open block; that text must then be a good line."
abbrev pub closed_run : Run → Bool → Found
closed_run r good = cond good (Found.run r) (Found.none NoReading r.text r.lookahead)

abbrev pub ended_run : Run → Result (Unit {0}) Refusal → Found
ended_run r (Ok _) = closed_run r (good_line r.text 0 (length r.text))
ended_run r (Err q) = Found.none q r.text r.lookahead

-- the run from the line at `at` on, in a join buffer of `cap` bytes; the first line's brace column is `base` more
unfoldable pub run_found : List ℕ → ℕ → ℕ → ℕ → Found
run_found t at base cap = ended_run (run_at cap base t at) (run_at cap base t at).stop

-- "A block is one good line, else, if the first line's trimmed end isn't `}`, a wrapped run"
unfoldable pub found : List ℕ → ℕ → ℕ → ℕ → Found
found t at base cap =
    cond (opens_at t at)
    (cond (good_line t (front_of t at).from (front_of t at).to) Found.line
    (cond (front_of t at).closes (nothing NoReading)
    (run_found t at base cap)))
    (nothing NothingThere)

-- `wrapped_attrs_run_at`: a run, also of one good line
unfoldable pub wrapped : List ℕ → ℕ → ℕ → ℕ → Found
wrapped t at base cap = cond (opens_at t at) (run_found t at base cap) (nothing NothingThere)

-- ---- what is joined: "After every call the join buffer holds the joined lines at its front, the rest untouched"

abbrev pub joined_in : Found → List ℕ
joined_in Found.line = []
joined_in (Found.run r) = r.text
joined_in (Found.none q x n) = x

abbrev pub lookahead_of : Found → ℕ
lookahead_of Found.line = 0
lookahead_of (Found.run r) = r.lookahead
lookahead_of (Found.none q x n) = n

abbrev pub lines_of : Found → ℕ
lines_of Found.line = 1
lines_of (Found.run r) = r.lines
lines_of (Found.none q x n) = 0

unfoldable pub join_holds : List ℕ → Found → List ℕ
join_holds buf f = over (joined_in f) buf

-- ---- reading: "Every range shall say which of two lent texts it belongs to"

-- a block's texts: the lent one, and what was joined
abbrev pub texts_in : List ℕ → Found → Texts
texts_in t f = two t (joined_in f)

-- a wrapped run's set is of the second text
abbrev pub in_second : Filled → Filled
in_second f = record { outcome = f.outcome; set = exchanged f.set }

abbrev pub filled_found : List ℕ → ℕ → Found → Filled
filled_found t at Found.line = chain_at Loose t (front_of t at).from (front_of t at).to
filled_found t at (Found.run r) = in_second (chain_at Loose r.text 0 (length r.text))
filled_found t at (Found.none q x n) = refusing q

abbrev pub block_by : Filled → ℕ → ℕ → ℕ → ℕ → Block
block_by f n look joined next = record { outcome = f.outcome; set = f.set; lines = n; lookahead = look; joined = joined; next = next }

-- a refusal, with what was joined by then
abbrev pub unread : Refusal → ℕ → ℕ → ℕ → Block
unread r look joined at = block_by (refusing r) 0 look joined at

unfoldable pub block_of : List ℕ → ℕ → Found → Block
block_of t at f = block_by (filled_found t at f) (lines_of f) (lookahead_of f) (length (joined_in f)) (past_lines (lines_of f) t at)

-- ---- a block's set as one over a single text: what was joined or, where nothing was, the lent one

abbrev pub text_found : List ℕ → Found → List ℕ
text_found t f = cond (is_some (joined_in f)) (joined_in f) t

-- as the first of two texts
unfoldable pub as_first : Block → Attrs
as_first b = cond (eqb b.joined 0) b.set (exchanged b.set)

-- as the second
unfoldable pub as_second : Block → Attrs
as_second b = cond (eqb b.joined 0) (exchanged b.set) b.set

-- a text above the size is refused before anything is read (by `read_at` and `wrapped_at`, since a set's places are 16-bit numbers)
unfoldable pub sized : List ℕ → Found → Found
sized t f = cond (too_long t) (nothing TextTooLong) f

-- its order: 1, and then that of the place
abbrev pub sized_order : List ℕ → List Ground → List Ground
sized_order t gs = Ground.given TextTooLong (too_long t) ∷ gs

-- ---- the orders, where g is that of a good line from a place up to one of a text
module _ (g : List ℕ → ℕ → ℕ → List Ground) where
  -- "9 or 5 as the run meets them", then what the joined text gives
  abbrev pub ran_order : Run → List Ground
  ran_order r = met r.stop ++ (Ground.lacking NoReading (good_line r.text 0 (length r.text)) ∷ g r.text 0 (length r.text))

  abbrev pub wrapped_order : List ℕ → ℕ → ℕ → ℕ → List Ground
  wrapped_order t at base cap = Ground.lacking NothingThere (opens_at t at) ∷ ran_order (run_at cap base t at)

  abbrev pub found_order : List ℕ → ℕ → ℕ → ℕ → List Ground
  found_order t at base cap =
      Ground.lacking NothingThere (opens_at t at)
      ∷ cond (good_line t (front_of t at).from (front_of t at).to)
      (g t (front_of t at).from (front_of t at).to)
      (Ground.given NoReading (front_of t at).closes ∷ ran_order (run_at cap base t at))

-- ".., 6, 7" where a good line is read
abbrev pub read_order : List ℕ → ℕ → ℕ → List Ground
read_order t from to = reading_order (one t) (read_blocks Loose from (slice from to t))
