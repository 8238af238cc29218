use Rattle.set_table.specs.Types.{two}
use Rattle.set_writer.proofs.Kept as laws
use Rattle.set_writer.proofs.Numbers.{said, set_no}
use borrow.Author.Rules.{rules}
use Rattle.set_writer.proofs.write_set.Goals as goal

pub returns-then-set-lt2 : goal.returns-then-set-lt2
returns-then-set-lt2 c =
    let t = two c.args.first.now c.args.second.now in
    said (set_no _ _) (laws.by_listed t c.args.set c.args.out.now (laws.few_listed t c.args.set c.if-set-lt2.true) c.write_listed.ensures.value c.write_listed.ensures.out_after)

pub returns : goal.returns
returns c =
    let t = two c.args.first.now c.args.second.now in
    said (set_no _ _) (laws.by_listed t c.args.set c.args.out.now (laws.once_listed t c.args.set c.classes_once-kept.ensures) c.write_listed-2.ensures.value c.write_listed-2.ensures.out_after)
