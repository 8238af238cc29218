use native.Mathlib.Omega.{arith}
use Rattle.base_refusals.specs.Numbers.{max_text}
use Rattle.base_refusals.proofs.Said.{said}
use Rattle.set_table.specs.Types.{two}
use Rattle.set_writer.specs.Write.{wrote_paper}
use Rattle.set_writer.proofs.Kept as laws
use Rattle.set_writer.proofs.Numbers.{set_no}
use borrow.Author.Rules.{rules}
use Rattle.set_writer.proofs.measure_set.Goals as goal

pub returns-then-set-ge2 : goal.returns-then-set-ge2
returns-then-set-ge2 c =
    let t = two c.args.first.now c.args.second.now in
    said wrote_paper (set_no _ _) (laws.by_measured t c.args.set max_text (laws.once_listed t c.args.set c.classes_once-kept.ensures) c.measure_listed.ensures)

pub returns : goal.returns
returns c =
    let t = two c.args.first.now c.args.second.now in
    said wrote_paper (set_no _ _) (laws.by_measured t c.args.set max_text (laws.few_listed t c.args.set (omega (arith, c.if-set-ge2.false))) c.measure_listed-2.ensures)
