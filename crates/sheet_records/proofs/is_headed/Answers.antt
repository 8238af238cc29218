use mathlib.Core.Path.{refl}
use native.Mathlib.Omega.{arith}
use lib.ListN.{replicate}
use Rattle.sheet_records.proofs.Lines as laws
use borrow.Author.Rules.{rules}
use Rattle.sheet_records.proofs.is_headed.Goals as goal

pub returns-then-index-lt-HEADER : goal.returns-then-index-lt-HEADER
returns-then-index-lt-HEADER c = laws.head_short _ (omega (arith, c.if-index-lt-HEADER.true))

pub returns : goal.returns
returns c = laws.headed_is _ (replicate 19 0) refl c.put_header.ensures c.bytes_of-first.ensures c.same_bytes.ensures
