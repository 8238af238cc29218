use mathlib.Core.Path.{◌∙◌}
use borrow.Author.Rules.{rules}
use borrow.Author.Tests.{tests}
use Rattle.std.proofs.lemmas.Iterator.{YieldsList-from_slice}
use Rattle.std.proofs.lemmas.Iterator.Consumers.{count_from_yields_List}
use Rattle.std.proofs.lemmas.Iterator.Search.{YieldsList-from_take_while}
use Rattle.base_bytes.specs.Bytes.{is_space}
use Rattle.text_lines.proofs.Trim as laws
use Rattle.text_lines.proofs.trim_ascii_start.Goals as goal

-- `trim_ascii_start` counts as `run` does. Assumes nothing.

pub returns : goal.returns
returns c =
    count_from_yields_List c.take_while.result _ c.count.ensures.ran
    (YieldsList-from_take_while _ is_space (YieldsList-from_slice c.args.s.now (cc)) (cc) (cc) (λ x b q k. search (rules, tests)))
    ∙ laws.front_run c.args.s.now
