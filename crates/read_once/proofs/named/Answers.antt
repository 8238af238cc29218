use mathlib.Core.Path.{sym, ◌∙◌}
use Rattle.read_once.proofs.Values as values
use borrow.Author.Rules.{rules}
use Rattle.read_once.proofs.named.Reads as reads
use Rattle.read_once.proofs.named.Lts as lts
use Rattle.base_lists.proofs.same_bytes.Reads as same-bytes-reads
use Rattle.read_once.proofs.first_piece.Reads as first-piece-reads
use Rattle.read_once.proofs.put.Reads as put_reads
use Rattle.read_once.proofs.named.Goals as goal

-- src/lib.rt:468:9
pub returns-then-same_bytes : goal.returns-then-same_bytes
returns-then-same_bytes c = values.named_id (c.requires.0) (c.requires.1.0) (c.requires.1.1.0) (c.requires.1.1.1) _ (sym c.same_bytes.ensures ∙ c.if-same_bytes.true) c.put.ensures

-- src/lib.rt:471:9
pub returns-then-same_bytes-2 : goal.returns-then-same_bytes-2
returns-then-same_bytes-2 c = values.named_class (c.requires.0) (c.requires.1.0) (c.requires.1.1.0) (c.requires.1.1.1) c.args.kind (sym c.same_bytes.ensures ∙ c.if-same_bytes.false) (sym c.same_bytes-2.ensures ∙ c.if-same_bytes-2.true) c.first_piece.ensures

-- src/lib.rt:474:9
pub returns-then-same_bytes-3 : goal.returns-then-same_bytes-3
returns-then-same_bytes-3 c = values.named_lang (c.requires.0) (c.requires.1.0) (c.requires.1.1.0) (c.requires.1.1.1) _ (sym c.same_bytes.ensures ∙ c.if-same_bytes.false) (sym c.same_bytes-2.ensures ∙ c.if-same_bytes-2.false) (sym c.same_bytes-3.ensures ∙ c.if-same_bytes-3.true) c.put-then-same_bytes-3.ensures

-- src/lib.rt:462:1
pub returns : goal.returns
returns c = values.named_key (c.requires.0) (c.requires.1.0) (c.requires.1.1.0) (c.requires.1.1.1) _ (sym c.same_bytes.ensures ∙ c.if-same_bytes.false) (sym c.same_bytes-2.ensures ∙ c.if-same_bytes-2.false) (sym c.same_bytes-3.ensures ∙ c.if-same_bytes-3.false) c.put-2.ensures
