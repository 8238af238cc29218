use Rattle.set_table.specs.Types.{range_bytes}
use Rattle.text_langtags.specs.Computed.{is_allowed}
use borrow.Author.Rules.{rules}
use Rattle.read_once.proofs.is_allowed.Reads as reads
use Rattle.read_once.proofs.is_allowed.Lts as lts
use Rattle.set_table.proofs.bytes_of.Reads as bytes-of-reads
use Rattle.text_langtags.proofs.is_allowed_tag.Reads as is-allowed-tag-reads
use Rattle.text_langtags.proofs.is_allowed_unescaped.Reads as is-allowed-unescaped-reads
use Rattle.read_once.proofs.is_allowed.Goals as goal

-- src/lib.rt:561:1
pub returns-in-Plain : goal.returns-in-Plain
unfolding range_bytes
returns-in-Plain c = rw (c.in-Plain.is, ← c.bytes_of.ensures) (c.is_allowed_tag.ensures)

-- src/lib.rt:561:1
pub returns-in-Quoted : goal.returns-in-Quoted
unfolding range_bytes
returns-in-Quoted c = rw (c.in-Quoted.is, ← c.bytes_of-in-Quoted.ensures) (c.is_allowed_unescaped.ensures)

-- src/lib.rt:561:1
pub returns-in-Empty : goal.returns-in-Empty
unfolding is_allowed
returns-in-Empty c = rw (c.in-Empty.is)
