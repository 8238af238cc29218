use Rattle.set_table.specs.Types.{two}
use Rattle.sheet_index.proofs.Builds as laws
use borrow.Author.Rules.{rules}
use Rattle.sheet_index.proofs.put_set.Goals as goal

pub returns : goal.returns
returns c =
    let a = c.args in record { value = rw (← laws.id_is (two c.args.first.now c.args.second.now) a.set, ← c.raw_bytes-raw.ensures.0, ← c.is_quoted-quoted.ensures) (c.put_record.ensures.value); out_after = rw (← laws.id_is (two c.args.first.now c.args.second.now) a.set, ← c.raw_bytes-raw.ensures.0, ← c.is_quoted-quoted.ensures) (c.put_record.ensures.out_after) }
