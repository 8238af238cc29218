-- "The sheet program": the blocks of a sheet, and how a caller goes from one to the next.
use Rattle.std.specs.Prelude.{ℕ, zero, suc, ◌-◌, Bool, true, false, cond, not, ◌&&◌, ltb, drop}
use mathlib.Core.List.{List, [], ◌∷◌, foldl}
use Rattle.base_refusals.specs.Numbers.{max_text, too_long}
use Rattle.base_refusals.specs.Orders.{Ground}
use Rattle.base_refusals.specs.declared.Refusal.{Refusal}
use Rattle.base_refusals.specs.declared.Refusal.TheVariants.{TextTooLong, NothingThere, JoinFull}
use Rattle.base_lists.specs.Lists.{is_in}
use Rattle.base_bytes.specs.Bytes.{cr, ff, open_brace}
use Rattle.text_lines.specs.Lines.{is_dropped, ranges_from, ranges}
use Rattle.text_lines.specs.declared.Range.{Range}
use Rattle.read_blocks.specs.Blocks.{Found, lines_of, join_holds, block_of, unread, sized_order, found_order, read_order}
use Rattle.read_lengths.specs.Lengths.{flush_left}
use Rattle.sheet_blocks.specs.declared.Next.{Next}

-- ---- the lines at which a block is looked for

-- 3: "trimmed line doesn't start with `{`; for `standalone_attrs_block_len`, first line starts with space or tab". So a line at the front of which a block can stand
-- begins with `{`, or with FF or CR, which are trimmed and don't indent. A CR before an LF is a blank line's, and behind the text there is no line.
unfoldable pub may_open : List ℕ → Bool
may_open [] = false
may_open (b ∷ s) = is_in (ff ∷ cr ∷ open_brace ∷ []) b && not (is_dropped b s)

-- such a line: its number, where it begins, and what is found there
pub record Try : Type 0 where
  pub line : ℕ
  pub at : ℕ
  pub found : Found

-- "then it goes past the block, or with none on one line": `rest k` is what comes behind this line and k lines more
abbrev pub tried : ℕ → ℕ → Found → (ℕ → List Try) → List Try
tried n at f rest = record { line = n; at = at; found = f } ∷ rest (lines_of f - 1)

-- "it tries `standalone_attrs_block_len` at each line": of the lines to come the first has number n, and k of them belong to a block that was found
unfoldable pub tries_from : List ℕ → ℕ → ℕ → ℕ → List Range → List Try
tries_from t cap n k [] = []
tries_from t cap n zero (r ∷ rs) = tried n r.from (flush_left t cap r.from) (λ k. tries_from t cap (suc n) k rs)
tries_from t cap n (suc k) (r ∷ rs) = tries_from t cap (suc n) k rs

-- from the line on that begins at `at`, which has number n
unfoldable pub tries_at : List ℕ → ℕ → ℕ → ℕ → List Try
tries_at t cap n at = tries_from t cap n 0 (ranges_from at false at (drop at t))

-- ---- the blocks among them

abbrev pub is_block : Found → Bool
is_block Found.line = true
is_block (Found.run r) = true
is_block (Found.none q x n) = false

unfoldable pub only_blocks : List Try → List Try
only_blocks [] = []
only_blocks (x ∷ xs) = cond (is_block x.found) (x ∷ only_blocks xs) (only_blocks xs)

-- The blocks of a sheet: "from line 1", and "Its buffers for joining and canonical text hold 65,535 bytes each"
unfoldable pub blocks_of : List ℕ → List Try
blocks_of t = only_blocks (tries_from t max_text 1 0 (ranges t))

-- ---- "a second run in one call writes over the front of what the first left": the join buffer behind tries
unfoldable pub join_behind : List ℕ → List Try → List ℕ
join_behind buf xs = foldl (λ b x. join_holds b x.found) buf xs

-- ---- the next block

-- the tries up to the first that finds a block, that one too
unfoldable pub up_to_block : List Try → List Try
up_to_block [] = []
up_to_block (x ∷ xs) = x ∷ cond (is_block x.found) [] (up_to_block xs)

-- no block: it has no lines
abbrev pub nowhere : Refusal → ℕ → Next
nowhere r at = record { skipped = 0; at = at; block = unread r 0 0 at }

-- the first of blocks whose lines are numbered from 0, so that its number says how many lines are gone past before it
abbrev pub first_block : List ℕ → ℕ → List Try → Next
first_block t at [] = nowhere NothingThere at
first_block t at (x ∷ xs) = record { skipped = x.line; at = x.at; block = block_of t x.at x.found }

-- the first block from the line on that begins at `at`; before anything is read "text above 65,535 bytes" is refused, and a join buffer of fewer bytes: "later parts
-- that read whole sheets are lent such a join buffer and answer 9, right after 2, for a shorter one" (2 is for the caller to ask)
unfoldable pub next_of : List ℕ → ℕ → ℕ → Next
next_of t cap at =
    cond (too_long t) (nowhere TextTooLong at)
    (cond (ltb cap max_text) (nowhere JoinFull at)
    (first_block t at (only_blocks (tries_at t cap 0 at))))

-- the tries that are made for it
unfoldable pub next_tries : List ℕ → ℕ → ℕ → List Try
next_tries t cap at = cond (too_long t) [] (cond (ltb cap max_text) [] (up_to_block (tries_at t cap 0 at)))

-- ---- its order: 1, 9, then 3 where there is no block, else what its set gives: ".., 6, 7"

abbrev pub first_order : List ℕ → ℕ → List Try → List Ground
first_order t cap [] = Ground.given NothingThere true ∷ []
first_order t cap (x ∷ xs) = found_order read_order t x.at 0 cap

abbrev pub next_order : List ℕ → ℕ → ℕ → List Ground
next_order t cap at = sized_order t (Ground.given JoinFull (ltb cap max_text) ∷ first_order t cap (only_blocks (tries_at t cap 0 at)))
