use mathlib.Core.Path.{refl}
use native.Mathlib.Omega.{arith}
use Rattle.sheet_mends.proofs.Tells as laws
use borrow.Author.Rules.{rules}
use Rattle.sheet_mends.proofs.tell_row.Goals as goal

pub tell-requires : goal.tell-requires
tell-requires c =
    (omega (arith, c.requires), omega (arith, c.requires, laws.row_short c.args.index.now c.args.row.from c.args.row.to c.bytes_of-raw.ensures))

pub returns : goal.returns
returns c =
    rw (← laws.row_id c.args.index.now c.args.row.from c.args.row.to refl c.bytes_of-raw.ensures) c.tell.ensures
