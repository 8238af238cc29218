use native.Mathlib.Omega.{arith}
use mathlib.Core.Path.{refl}
use Rattle.set_table.proofs.Holding as holding
use Rattle.set_merge.proofs.Tables as tables
use borrow.Author.Rules.{rules}
use Rattle.set_merge.proofs.put_key.Goals as goal

pub offset_bounds-set-k : goal.offset_bounds-set-k
offset_bounds-set-k c = let h = c.requires in omega (arith, holding.few h, holding.key_within h _ _ c.find_key-k.ensures)

pub bounds-set-k : goal.bounds-set-k
bounds-set-k c = let h = c.requires in omega (arith, holding.few h, holding.key_within h _ _ c.find_key-k.ensures)

pub offset_bounds-set-k-then-k-n : goal.offset_bounds-set-k-then-k-n
offset_bounds-set-k-then-k-n c = let h = c.requires in omega (arith, holding.few h, holding.key_within h _ _ c.find_key-k.ensures)

pub bounds-set-k-then-k-n : goal.bounds-set-k-then-k-n
bounds-set-k-then-k-n c = let h = c.requires in omega (arith, holding.few h, holding.key_within h _ _ c.find_key-k.ensures)

pub returns-then-k-n : goal.returns-then-k-n
returns-then-k-n c = tables.fits_one refl (holding.key_again c.requires _ _ _ c.find_key-k.ensures c.if-k-n.true)

pub returns-then-n-ge-KEYS : goal.returns-then-n-ge-KEYS
returns-then-n-ge-KEYS c = tables.no_room c.requires c.find_key-k.ensures c.if-k-n.false c.if-n-ge-KEYS.true refl

pub bounds-set-p : goal.bounds-set-p
bounds-set-p c = omega (arith, holding.room_key c.requires c.if-n-ge-KEYS.false)

pub overflow_add-set-2 : goal.overflow_add-set-2
overflow_add-set-2 c = omega (arith, holding.few c.requires)

pub returns : goal.returns
returns c = tables.fits_one refl (holding.key_first c.requires _ _ _ c.find_key-k.ensures c.if-k-n.false c.if-n-ge-KEYS.false)
