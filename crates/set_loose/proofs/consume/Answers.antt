use Rattle.set_loose.proofs.Whole as laws
use native.Mathlib.Omega.{arith}
use borrow.Author.Rules.{rules}
use Rattle.set_loose.proofs.consume.Goals as goal

pub returns-then-n-k : goal.returns-then-n-k
returns-then-n-k c = laws.no_key c.requires c.row_named-k.ensures c.if-n-k.true

pub bounds-keys-k : goal.bounds-keys-k
bounds-keys-k c = omega (arith, laws.ready c.requires c.row_named-k.ensures (omega (arith, c.if-n-k.false)))

pub returns-then-raw_bytes-gt0 : goal.returns-then-raw_bytes-gt0
returns-then-raw_bytes-gt0 c = laws.no_bare c.requires c.row_named-k.ensures (omega (arith, c.if-n-k.false)) c.raw_bytes.ensures.0 c.if-raw_bytes-gt0.true

pub without_row-left-requires : goal.without_row-left-requires
without_row-left-requires c = laws.ready c.requires c.row_named-k.ensures (omega (arith, c.if-n-k.false))

pub returns : goal.returns
returns c = laws.yes_bare c.requires c.row_named-k.ensures (omega (arith, c.if-n-k.false)) c.raw_bytes.ensures.0 (omega (arith, c.if-raw_bytes-gt0.false)) c.without_row-left.ensures
