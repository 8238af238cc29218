use Rattle.read_brace.proofs.Places.{brace_place}
use Rattle.read_brace.proofs.Numbers.{said, brace_no}
use Rattle.read_once.proofs.Ends as ends
use borrow.Author.Rules.{rules}
use Rattle.read_once.proofs.read_attrs_once.Reads as reads
use Rattle.read_once.proofs.read_attrs_once.Lts as lts
use Rattle.read_once.proofs.read_attrs_once_with.Reads as read-attrs-once-with-reads
use Rattle.read_once.proofs.read_attrs_once.Goals as goal

-- src/lib.rt:774:1
pub returns : goal.returns
returns c = said (brace_no _ _ _) (brace_place _ _ _) (ends.plain _ _ _ (c.read_attrs_once_with.ensures.value))
