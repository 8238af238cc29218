-- The loop over the blocks of a sheet: what is still to be listed from a line on.
-- Assumes nothing.
use mathlib.Core.Path.{◌≡◌, refl, sym, ◌∙◌, ap}
use mathlib.Core.List.{List, [], ◌++◌, flat_map}
use Prim.Native.Nat.{ℕ, ◌+◌, ◌-◌, ◌≤◌, ◌<◌}
use native.Mathlib.Omega.{arith}
use lib.ListN.{length}
use lib.Seq.{slice}
use Rattle.base_refusals.specs.Numbers.{max_text}
use Rattle.set_table.specs.Types.{two}
use Rattle.read_blocks.specs.Blocks.{Found, joined_in, block_of}
use Rattle.read_lengths.specs.Lengths.{flush_left}
use Rattle.sheet_blocks.specs.declared.Next.{Next}
use Rattle.sheet_blocks.specs.Sheets.{tries_at, only_blocks, join_behind, next_of, next_tries}
use Rattle.sheet_blocks.proofs.Tries.{try}
use Rattle.sheet_blocks.proofs.Goes.{Goes, goes_on_lem, stops, join_long}
use Rattle.sheet_blocks.proofs.SheetWalk.{walk_start, walk_meets}
use Rattle.sheet_blocks.proofs.Rooms.{tries-same, blocks_are}
use Rattle.sheet_verdicts.specs.Verdicts.{verdict_at}
use Rattle.sheet_records.specs.Records.{Record}
use Rattle.sheet_records.specs.Listed.{record_of, added_of, records_of}
use Rattle.sheet_index.specs.Inner.{block_adds}

pub record Rounds (t join₀ join : List ℕ) (at line : ℕ) (left : List Record) : Type 0 where
  pub fits : length t ≤ max_text
  pub wide : max_text ≤ length join₀
  pub within : at ≤ length t
  pub low : line ≤ at + 1
  pub same : length join ≡ length join₀
  pub joins : join_behind join (tries_at t (length join₀) line at) ≡ join_behind join₀ (tries_at t max_text 1 0)
  pub rest : flat_map (added_of t) (only_blocks (tries_at t (length join₀) line at)) ≡ left

pub rounds_start : (t join : List ℕ) → length t ≤ max_text → max_text ≤ length join → Rounds t join join 0 1 (records_of t)
unfolding records_of
rounds_start t join k j =
    record {
      fits = k;
      wide = j;
      within = omega arith;
      low = omega arith;
      same = refl;
      joins = ap (join_behind join) (sym (tries-same t (length join) (omega arith) 1 0) ∙ tries-same t max_text k 1 0);
      rest = rw (blocks_are t (length join) k (omega arith));
    }

-- behind a block
pub record Next-round (t join₀ join : List ℕ) (at line : ℕ) (left adds : List Record) : Type 0 where
  pub more : List Record
  pub is : left ≡ adds ++ more
  pub rounds : Rounds t join₀ join at line more

module _ {t join₀ join : List ℕ} {at line : ℕ} {left : List Record} (inv : Rounds t join₀ join at line left)
    {r : Next} {join' : List ℕ} (e : r ≡ next_of t (length join) at) (j : join' ≡ join_behind join (next_tries t (length join) at)) where
  is : r ≡ next_of t (length join₀) at
  is = rw inv.same at e

  join_is : join' ≡ join_behind join (next_tries t (length join₀) at)
  join_is = rw inv.same at j

  pub join_same : length join' ≡ length join₀
  join_same = rw j (join_long t at join) ∙ inv.same

  pub rounds_none : r.block.lines ≡ 0 → (left ≡ []) × (join' ≡ join_behind join₀ (tries_at t max_text 1 0))
  unfolding flat_map
  rounds_none z =
      let w = stops t (length join₀) at inv.fits inv.wide (rw is at z) in
      (sym (rw (w.blocks line) at inv.rest), join_is ∙ (sym (w.joins line join) ∙ inv.joins))

  module _ (z : r.block.lines ≡ 0 → ⊥) where
    goes : Goes t (length join₀) at r
    goes = rw is (goes_on_lem t (length join₀) at inv.fits inv.wide (λ y. z (rw is y)))

    abbrev f : Found
    f = flush_left t (length join₀) r.at

    pub sum_le : line + r.skipped + r.block.lines ≤ r.block.next + 1
    sum_le = omega (arith, inv.low, goes.order, goes.beyond)

    pub next_within : r.block.next ≤ length t
    next_within = goes.inside

    pub next_past : at < r.block.next
    next_past = omega (arith, goes.order, goes.beyond, goes.some)

    pub rounds_less : length t - r.block.next < length t - at
    rounds_less = omega (arith, goes.within, next_past, goes.inside)

    -- a round is a walk that starts at its line
    front_is : slice 0 (length (joined_in f)) join' ≡ joined_in f
    unfolding block_of
    front_is =
        let w = walk_start t join at line inv.fits (omega (arith, inv.same, inv.wide)) inv.within inv.low in
        rw (inv.same, goes.read) at (walk_meets w e j z).joined

    adds_is : added_of t (try t (length join₀) (line + r.skipped) r.at) ≡ block_adds (two t (slice 0 r.block.joined join')) (line + r.skipped) r.block.lines r.at r.block.set r.block.outcome
    unfolding added_of record_of verdict_at block_of
    adds_is = rw (goes.read, front_is)

    pub rounds_go : Next-round t join₀ join' r.block.next (line + r.skipped + r.block.lines) left (block_adds (two t (slice 0 r.block.joined join')) (line + r.skipped) r.block.lines r.at r.block.set r.block.outcome)
    unfolding flat_map
    rounds_go =
        record {
          more = flat_map (added_of t) (only_blocks (tries_at t (length join₀) (line + r.skipped + r.block.lines) r.block.next));
          is = rw (← adds_is) (sym (rw (goes.blocks line) at inv.rest));
          rounds =
              record {
                fits = inv.fits;
                wide = inv.wide;
                within = next_within;
                low = sum_le;
                same = join_same;
                joins = ap (λ (b : List ℕ). join_behind b (tries_at t (length join₀) (line + r.skipped + r.block.lines) r.block.next)) join_is ∙ (sym (goes.joins line join) ∙ inv.joins);
                rest = refl;
              };
        }
