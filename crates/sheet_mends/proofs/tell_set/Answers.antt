use native.Mathlib.Omega.{arith}
use Rattle.set_table.specs.Types.{two}
use Rattle.set_marks.proofs.Values.{bytes_short}
use Rattle.sheet_mends.proofs.Tells as laws
use borrow.Author.Rules.{rules}
use Rattle.sheet_mends.proofs.tell_set.Goals as goal

pub tell-requires : goal.tell-requires
tell-requires c =
    (omega (arith, c.requires), omega (arith, c.requires, bytes_short c.is_quoted-quoted.result c.raw_bytes-raw.result.now, c.raw_bytes-raw.ensures.1))

pub returns : goal.returns
returns c = let r = laws.set_told c.args.index.now (record { so = c.args.so; table = c.args.table.now; out = c.args.out.now }) (two c.args.first.now c.args.second.now) c.args.n c.args.lines c.args.at c.args.set (omega arith) (omega arith) (omega arith) c.raw_bytes-raw.ensures c.is_quoted-quoted.ensures c.tell.ensures in record { out_after = r.0; at_most = r.1 }
