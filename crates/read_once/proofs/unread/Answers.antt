use mathlib.Core.Path.{◌∙◌}
use native.Mathlib.Omega.{arith}
use borrow.Author.Tests.{not-true, not-false}
use Rattle.read_once.proofs.Ends as ends
use borrow.Author.Rules.{rules}
use Rattle.read_once.proofs.unread.Reads as reads
use Rattle.read_once.proofs.unread.Lts as lts
use Rattle.read_once.proofs.close_behind.Reads as close-behind-reads
use Rattle.text_utf8.proofs.is_utf8.Reads as is-utf8-reads
use Rattle.read_once.proofs.unread.Goals as goal

-- src/lib.rt:594:36
pub slice_bounds-is_utf8-count : goal.slice_bounds-is_utf8-count
slice_bounds-is_utf8-count c = omega (arith, ends.closed c.args.text.now c.args.place c.args.n c.requires.1.1 (c.close_behind.ensures) (c.in-Some.is))

-- src/lib.rt:594:36
pub slice_bounds-is_utf8-start : goal.slice_bounds-is_utf8-start
slice_bounds-is_utf8-start c = omega (arith, ends.closed c.args.text.now c.args.place c.args.n c.requires.1.1 (c.close_behind.ensures) (c.in-Some.is))

-- src/lib.rt:594:36
pub slice_bounds-is_utf8-end : goal.slice_bounds-is_utf8-end
slice_bounds-is_utf8-end c = omega (arith, ends.closed c.args.text.now c.args.place c.args.n c.requires.1.1 (c.close_behind.ensures) (c.in-Some.is))

-- src/lib.rt:595:17
pub returns-then-not-is_utf8 : goal.returns-then-not-is_utf8
returns-then-not-is_utf8 c = ends.wrong_bytes c.args.text.now c.args.place c.args.n c.requires.1.1 (c.close_behind.ensures) (c.in-Some.is) (ends.told c.args.text.now c.args.place _ c.is_utf8.ensures ∙ c.if-not-is_utf8.true)

-- src/lib.rt:597:28
pub overflow_sub-result : goal.overflow_sub-result
overflow_sub-result c =
    let a = c.args in
    omega (arith, c.requires.0, ends.closed a.text.now a.place a.n c.requires.1.1 c.close_behind.ensures c.in-Some.is)

-- src/lib.rt:597:28
pub overflow_sub-result-in-Some : goal.overflow_sub-result-in-Some
overflow_sub-result-in-Some c =
    let a = c.args in
    omega (arith, c.requires.0, ends.closed a.text.now a.place a.n c.requires.1.1 c.close_behind.ensures c.in-Some.is)

-- src/lib.rt:587:1
pub returns-in-None : goal.returns-in-None
returns-in-None c = ends.no_close c.args.text.now c.args.place c.args.n c.requires.1.1 (c.close_behind.ensures) (c.in-None.is)

-- src/lib.rt:587:1
pub returns-else-not-is_utf8 : goal.returns-else-not-is_utf8
returns-else-not-is_utf8 c = ends.wrong_place c.args.text.now c.args.place c.args.n c.requires.1.1 (c.close_behind.ensures) (c.in-Some.is) (ends.told c.args.text.now c.args.place _ c.is_utf8.ensures ∙ c.if-not-is_utf8.false)
