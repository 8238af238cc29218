use mathlib.Core.Path.{sym}
use native.Mathlib.Omega.{arith}
use lib.Seq.{take_all, length-take-le}
use borrow.Author.Rules.{rules}
use Rattle.block_chain.proofs.front.Goals as goal

pub returns : goal.returns
returns c = sym (take_all c.args.to c.args.text.now (omega (arith, c.if-to-text.false)))
