use borrow.Author.Rules.{rules}
use borrow.Author.Tests.{tests}
use Rattle.std.proofs.lemmas.Iterator.Adapters.{YieldsList-from_rev_slice}
use Rattle.std.proofs.lemmas.Iterator.Consumers.{count_from_yields_List}
use Rattle.std.proofs.lemmas.Iterator.Search.{YieldsList-from_take_while}
use Rattle.base_bytes.specs.Bytes.{is_space}
use Rattle.text_lines.proofs.Trim as laws
use Rattle.text_lines.proofs.trim_ascii_end.Goals as goal

-- `trim_ascii_end` leaves out the whitespace that it counts from the end. Assumes nothing.

pub returns : goal.returns
returns c =
    let e =
    count_from_yields_List c.take_while.result c.count-spaces.result c.count-spaces.ensures.ran
    (YieldsList-from_take_while _ is_space (YieldsList-from_rev_slice c.args.s.now (cc)) (cc) (cc) (λ x b q k. search (rules, tests))) in
    let q = laws.back_run c.args.s.now in
    cc
