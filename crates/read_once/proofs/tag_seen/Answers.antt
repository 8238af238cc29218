use mathlib.Core.Path.{refl, ap}
use native.Mathlib.Omega.{arith}
use Prim.Native.Nat.{◌+◌}
use Rattle.read_once.specs.Inner.{is_closing}
use Rattle.read_once.proofs.Tags as tags
use Rattle.read_once.proofs.Tokens as laws
use borrow.Author.Rules.{rules}
use Rattle.read_once.proofs.tag_seen.Reads as reads
use Rattle.read_once.proofs.tag_seen.Lts as lts
use Rattle.read_once.proofs.finish.Reads as finish-reads
use Rattle.read_once.proofs.may_end.Reads as may-end-reads
use Rattle.read_once.proofs.seen_as.Reads as seen-as-reads
use Rattle.read_once.proofs.tag_end.Reads as tag-end-reads
use Rattle.read_once.proofs.tag_seen.Goals as goal

-- src/lib.rt:336:5
pub finish-requires : goal.finish-requires
finish-requires c = (let x = c.seen_as.ensures in ((tags.stop_inside c.requires.1 c.args.text.now (c.args.i + 1) c.tag_end-stop.ensures (omega (arith, c.requires.0))).1, (ap (λ s. s.end) x, ap (λ s. is_closing s.sort) x)))

-- src/lib.rt:328:1
pub returns : goal.returns
returns c = (let x = c.seen_as.ensures in let l = tags.stop_inside c.requires.1 c.args.text.now (c.args.i + 1) c.tag_end-stop.ensures (omega (arith, c.requires.0)) in laws.tagged c.args.text.now c.args.i c.args.mode (tags.stop_end c.requires.1 c.args.text.now (c.args.i + 1) c.tag_end-stop.ensures) (tags.stop_size c.requires.1 c.args.text.now (c.args.i + 1) c.tag_end-stop.ensures) (omega (arith, c.requires.0)) c.may_end-good.ensures (rw x at (c.finish.ensures c.args.i (rw x (refl, l.0, refl)))))
