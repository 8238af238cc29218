use native.Mathlib.Omega.{arith}
use mathlib.Core.Path.{◌≡◌, sym, ◌∙◌}
use lib.ListN.{length, length-take}
use borrow.Author.Rules.{rules}
use Rattle.set_table.specs.Types.{two, max_classes}
use Rattle.set_once.proofs.Kept as laws
use Rattle.set_once.proofs.classes_once.Goals as goal
use Rattle.set_once.proofs.classes_once.Goals.{then-not-is_listed, else-not-is_listed}

pub loop-value-init : goal.loop-value-init
loop-value-init c =
    let e : length c.args.set.classes ≡ max_classes = c.well_formed.1.1.0.1.1.1.1.1.1.1.0.1.0.1 in
    laws.keeps-start _ _ _ (omega (arith, length-take c.least-many.result c.args.set.classes, c.least-many.ensures)) e

pub is_listed-requires : goal.is_listed-requires
is_listed-requires c = let inv = c.loop-value.invariant in omega (arith, inv.room, inv.few)

pub offset_bounds-classes-n : goal.offset_bounds-classes-n
offset_bounds-classes-n c = let inv = c.loop-value.invariant in omega (arith, inv.room, inv.few)

pub bounds-classes-n : goal.bounds-classes-n
bounds-classes-n c = let inv = c.loop-value.invariant in omega (arith, inv.room, inv.few)

pub overflow_add-n : goal.overflow_add-n
overflow_add-n c = let inv = c.loop-value.invariant in omega (arith, inv.room, inv.few)

pub loop-value-preserved : goal.loop-value-preserved
loop-value-preserved c =
    let inv = c.loop-value.invariant in
    elim c.if-not-is_listed.branch [ then-not-is_listed w ↦ rw (w.classes-is, w.n-is) (laws.keeps_new inv c.loop-value-test.true (sym w.if-not-is_listed.true ∙ c.is_listed.ensures)) | else-not-is_listed w ↦ rw (w.classes-is, w.n-is) (laws.keeps_same inv c.loop-value-test.true (sym w.if-not-is_listed.false ∙ c.is_listed.ensures)) ]

pub overflow_cast-kept : goal.overflow_cast-kept
overflow_cast-kept c = let inv = c.loop-value.invariant in omega (arith, inv.room, inv.few)

pub returns : goal.returns
returns c =
    laws.lists_once (two c.args.first.now c.args.second.now) c.args.set _ _ (laws.keeps_end _ _ _ _ c.least-many.ensures c.well_formed.1.1.0.1.1.1.1.1.1.1.0.1.0.1 c.loop-value.invariant (omega arith))
