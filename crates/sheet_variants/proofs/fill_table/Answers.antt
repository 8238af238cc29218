use Rattle.std.specs.Prelude.{Ok}
use mathlib.Core.Path.{◌∙◌, ap}
use Prim.Native.Nat.{◌-◌}
use native.Mathlib.Omega.{arith}
use lib.ListN.{length}
use borrow.Author.Rules.{rules}
use Rattle.base_refusals.specs.Numbers.{max_text}
use Rattle.sheet_blocks.specs.Sheets.{tries_at, blocks_of}
use Rattle.sheet_blocks.proofs.SheetWalk.{walk_same, walk_ends, walk_meets}
use Rattle.sheet_valves.specs.Tables.{empty_table}
use Rattle.sheet_variants.specs.Variants.{variants_from, past_of}
use Rattle.sheet_variants.proofs.Walks as laws
use Rattle.sheet_variants.proofs.fill_table.Goals as goal
use Rattle.sheet_variants.proofs.fill_table.Goals.{in-Some, in_default}

pub sheet-init : goal.sheet-init
sheet-init c =
    laws.walks_start _ _ c.requires.0 c.requires.1 (c.empty-table.ensures)

pub shape_of-join-then-block-eq0 : goal.shape_of-join-then-block-eq0
shape_of-join-then-block-eq0 c =
    walk_same c.sheet.invariant.walk c.next_block-next.ensures.value c.next_block-next.ensures.join_after

pub returns-then-block-eq0 : goal.returns-then-block-eq0
returns-then-block-eq0 c =
    let w = c.sheet.invariant in let r = laws.walks_none w (walk_ends w.walk c.next_block-next.ensures.value c.next_block-next.ensures.join_after c.if-block-eq0.true) c.whole_table.ensures in record { value = r.0; join_after = r.1 }

pub overflow_add-n : goal.overflow_add-n
overflow_add-n c =
    omega (arith, (walk_meets c.sheet.invariant.walk c.next_block-next.ensures.value c.next_block-next.ensures.join_after c.if-block-eq0.false).few)

pub shape_of-join-in-Err : goal.shape_of-join-in-Err
shape_of-join-in-Err c =
    walk_same c.sheet.invariant.walk c.next_block-next.ensures.value c.next_block-next.ensures.join_after

pub returns-in-Err : goal.returns-in-Err
returns-in-Err c =
    let w = c.sheet.invariant in let r = laws.walks_refused w (walk_meets w.walk c.next_block-next.ensures.value c.next_block-next.ensures.join_after c.if-block-eq0.false) c.hear.ensures c.in-Err.is c.no_table.ensures in record { value = r.0; join_after = r.1 }

pub overflow_add-line : goal.overflow_add-line
overflow_add-line c =
    omega (arith, (walk_meets c.sheet.invariant.walk c.next_block-next.ensures.value c.next_block-next.ensures.join_after c.if-block-eq0.false).few)

pub sheet-smaller : goal.sheet-smaller
sheet-smaller c =
    (walk_meets c.sheet.invariant.walk c.next_block-next.ensures.value c.next_block-next.ensures.join_after c.if-block-eq0.false).less

pub sheet-preserved : goal.sheet-preserved
sheet-preserved c =
    let m = walk_meets c.sheet.invariant.walk c.next_block-next.ensures.value c.next_block-next.ensures.join_after c.if-block-eq0.false in
    elim c.match-said.branch [
      | in-Some w ↦ rw w.table-is (laws.walks_set c.sheet.invariant m c.hear.ensures (c.in-Ok.is ∙ ap (λ z. Ok z) w.in-Some.is) w.put-table.ensures)
      | in_default w ↦ rw w.table-is (laws.walks_pass c.sheet.invariant m c.hear.ensures (c.in-Ok.is ∙ ap (λ z. Ok z) w.in_default.is))
    ]
