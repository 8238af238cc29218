use borrow.Author.Rules.{rules}
use Rattle.set_table.specs.Types.{two}
use Rattle.set_marks.proofs.Values as values
use Rattle.set_marks.proofs.same_values.Goals as goal

pub returns-then-p : goal.returns-then-p
returns-then-p c =
    values.by_pieces (two c.args.first.now c.args.second.now) c.args.a c.args.b c.raw_bytes-x.ensures.0 c.raw_bytes-y.ensures.0 c.is_quoted-p.ensures c.is_quoted-q.ensures c.same_pieces.ensures

pub returns-then-q : goal.returns-then-q
returns-then-q c =
    values.by_pieces (two c.args.first.now c.args.second.now) c.args.a c.args.b c.raw_bytes-x.ensures.0 c.raw_bytes-y.ensures.0 c.is_quoted-p.ensures c.is_quoted-q.ensures c.same_pieces-then-q.ensures

pub returns : goal.returns
returns c =
    values.by_bytes (two c.args.first.now c.args.second.now) c.args.a c.args.b c.raw_bytes-x.ensures.0 c.raw_bytes-y.ensures.0 c.is_quoted-p.ensures c.is_quoted-q.ensures c.if-p.false c.if-q.false c.same_bytes.ensures
