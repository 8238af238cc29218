use mathlib.Core.Path.{refl, sym, ◌∙◌}
use Rattle.run_endings.specs.Endings.{ends_in}
use Rattle.run_refused.proofs.Answers.{passes_short}
use Rattle.run_endings.proofs.Numbers.{said-ends}
use borrow.Author.Rules.{rules}
use Rattle.run_endings.proofs.ends_in_refused_brace_run.Goals as goal

pub ends_in-requires : goal.ends_in-requires
ends_in-requires c = passes_short c.args.text.now (c.check_text.ensures.value) c.in-Ok.is

pub returns-in-Err : goal.returns-in-Err
unfolding ends_in
returns-in-Err c =
    said-ends c.args.join.now c.args.text.now (rw (sym c.check_text.ensures.value ∙ c.in-Err.is) (c.ended.ensures, refl))

pub returns-in-Ok : goal.returns-in-Ok
unfolding ends_in
returns-in-Ok c =
    said-ends c.args.join.now c.args.text.now (rw (sym c.check_text.ensures.value ∙ c.in-Ok.is) (c.ends_in.ensures.value, c.ends_in.ensures.join_after))
