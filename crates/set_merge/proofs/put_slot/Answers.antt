use native.Mathlib.Omega.{arith}
use mathlib.Core.Path.{refl}
use Rattle.set_merge.proofs.Tables as tables
use borrow.Author.Rules.{rules}
use Rattle.set_merge.proofs.put_slot.Goals as goal

pub returns-then-b : goal.returns-then-b
returns-then-b c = rw (tables.puts_id c.args.b c.in-Id.is c.if-b.true) (tables.fits_one refl (c.put_id.ensures _))

pub put_classes-requires : goal.put_classes-requires
put_classes-requires c =
    (c.requires.0, tables.class_fits c.requires.1 c.in-Class.is)

pub bounds-b-k : goal.bounds-b-k
bounds-b-k c =
    omega (arith, tables.key_there c.requires.1 c.in-Key.is, c.requires.1.nkey)

pub returns-else-b : goal.returns-else-b
returns-else-b c =
    rw (tables.puts_none c.args.b c.in-Id.is c.if-b.false) (tables.fits_none refl c.requires.0)

pub returns-in-Class : goal.returns-in-Class
returns-in-Class c = rw (tables.puts_classes c.args.b c.in-Class.is) (tables.fits refl (c.put_classes.ensures _))

pub returns-in-Key : goal.returns-in-Key
returns-in-Key c =
    rw (tables.puts_key c.args.b c.in-Key.is (tables.key_there c.requires.1 c.in-Key.is)) c.put_key.ensures
