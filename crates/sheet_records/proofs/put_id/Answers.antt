use Rattle.sheet_records.proofs.Lines as laws
use borrow.Author.Rules.{rules}
use Rattle.sheet_records.proofs.put_id.Goals as goal

pub returns-in-None : goal.returns-in-None
returns-in-None c = laws.id_full _ _ _ _ c.requires c.if-quoted.true c.write_unescaped.ensures.value c.in-None.is

pub returns-in-Some : goal.returns-in-Some
returns-in-Some c = let r = laws.id_to _ _ _ _ c.requires c.if-quoted.true c.write_unescaped.ensures.value c.write_unescaped.ensures.buf_after c.in-Some.is in record { value = r.0; out_after = r.1 }

pub returns : goal.returns
returns c = let r = laws.id_plain _ _ _ _ c.requires c.if-quoted.false c.put_bytes.ensures in record { value = r.0; out_after = r.1 }
