-- A block of a sheet is read, or refused for a limit; and rows past the counts of the next block's set are zero.
-- Assumes nothing.
use Rattle.std.specs.Prelude.{Ok}
use mathlib.Core.Path.{◌≡◌, refl}
use mathlib.Core.Bool.{Bool, true, false, cond}
use mathlib.Core.List.{List, [], ◌∷◌}
use Prim.Native.Nat.{ℕ, ◌≤◌}
use native.Mathlib.Omega.{arith}
use borrow.Author.Tests.{le-ltb}
use lib.Dec.{ltb}
use lib.ListN.{length}
use lib.Seq.{slice}
use Rattle.base_lists.specs.Lists.{is_in}
use Rattle.base_lists.proofs.More.{contra}
use Rattle.base_bytes.specs.declared.Mode.TheVariants.{Loose}
use Rattle.base_refusals.specs.Numbers.{max_text, number_of}
use Rattle.base_refusals.specs.declared.Refusal.TheVariants.{TextTooLong, TooManyClasses, TooManyKeys, JoinFull}
use Rattle.block_grammar.specs.Grammar.{Reading}
use Rattle.block_tokens.specs.Shown.{accepted}
use Rattle.block_chain.specs.Chain.{good_line}
use Rattle.block_chain.specs.Computed.{read_blocks}
use Rattle.set_table.specs.Types.{one, max_classes, max_keys, empty_set}
use Rattle.set_table.specs.Rows.{Rows, table_of}
use Rattle.set_table.specs.Filled.{refusing}
use Rattle.set_fill.specs.Fill as fill
use Rattle.proved_sets.proofs.Zeroed.{empty_zeroed}
use Rattle.proved_sets.specs.HandedOut.{Zeroed}
use Rattle.run_lines.specs.Runs.{run_at}
use Rattle.run_lines.proofs.Bounds.{text_short}
use Rattle.read_blocks.specs.Blocks.{Found, filled_found, block_of}
use Rattle.proved_reading.proofs.BlockSets.{block_zeroed}
use Rattle.sheet_blocks.specs.Sheets.{Try, tries_at, is_block, only_blocks, nowhere, first_block, next_of}
use Rattle.sheet_blocks.proofs.Tries.{found_by, run-found_by, flush_by}
use Rattle.set_table.specs.Filled as filled
use Rattle.proved_sheets.specs.Blocks.{is_limited, BlockLimited, NextZeroed}

limited : (s : Rows) → is_limited (filled.limited s).outcome ≡ true
unfolding filled.limited is_in number_of
limited s = go (ltb max_classes (length s.classes)) (ltb max_keys (length s.keys))
  where
    go : (x y : Bool) → is_limited (cond x (refusing TooManyClasses) (cond y (refusing TooManyKeys) (record { outcome = Ok tt; set = table_of s }))).outcome ≡ true
    go true y = refl
    go false true = refl
    go false false = refl

chain_limited : (t : List ℕ) (from to : ℕ) → length t ≤ max_text → good_line t from to ≡ true → is_limited (fill.chain_at Loose t from to).outcome ≡ true
unfolding fill.chain_at good_line
chain_limited t from to k g = rw (le-ltb max_text (length t) k) (go (read_blocks Loose from (slice from to t)) g)
  where
    go : (r : Reading) → accepted r ≡ true → is_limited (fill.filled_by (one t) r).outcome ≡ true
    go Reading.refused g = contra false g refl
    go (Reading.items is) g = limited _

pub block_limited : BlockLimited
unfolding block_of
block_limited t cap at k =
    flush_by P t at cap (λ e. contra false e refl)
    (found_by P t at 0 cap (λ g e. chain_limited t _ _ k g) (λ e. contra false e refl) (λ e. contra false e refl)
    (run-found_by P t at 0 cap (λ r e g b. chain_limited r.text 0 (length r.text) (rw e short) g) (λ r e q b. contra false b refl)))
  where
    P : Found → Type 0
    P f = is_block f ≡ true → is_limited (filled_found t at f).outcome ≡ true

    short : length (run_at cap 0 t at).text ≤ max_text
    short = omega (arith, k, text_short cap 0 t at)

pub next_zeroed : NextZeroed
unfolding next_of
next_zeroed t cap at = go (ltb max_text (length t)) (ltb cap max_text) (only_blocks (tries_at t cap 0 at))
  where
    none : Zeroed empty_set
    none = empty_zeroed

    go : (x y : Bool) (bs : List Try) → Zeroed (cond x (nowhere TextTooLong at) (cond y (nowhere JoinFull at) (first_block t at bs))).block.set
    go true y bs = none
    go false true bs = none
    go false false [] = none
    go false false (b ∷ bs) = block_zeroed t b.at b.found
