use mathlib.Core.Path.{sym}
use native.Mathlib.Omega.{arith}
use Prim.Native.Nat.{◌-◌}
use borrow.Author.Rules.{rules}
use lib.ListN.{length}
use Rattle.set_table.specs.Types.{one}
use Rattle.set_table.specs.Rows.{no_rows}
use Rattle.set_fill.specs.Inner.{chain_rest, tokens_at, filled_from}
use Rattle.set_fill.proofs.Walk as walk
use Rattle.set_fill.proofs.Chains as chains
use Rattle.set_table.proofs.Holding as holding
use Rattle.set_fill.proofs.Fills as fills
use Rattle.set_fill.proofs.fill_part.Goals as goal

pub pushes-init : goal.pushes-init
pushes-init c =
    fills.start _ _ _ _ _ c.requires.0 c.requires.1 c.empty-set.ensures c.before_tokens-cur.ensures

pub slice_bounds-next_push-end : goal.slice_bounds-next_push-end
slice_bounds-next_push-end c = sym (chains.front c.pushes.invariant.stands)

pub next_push-requires : goal.next_push-requires
next_push-requires c =
    let i = c.pushes.invariant in (i.stands.inside, omega (arith, chains.front i.stands, i.stands.fits, c.requires.2), c.requires.3)

pub block_behind-requires : goal.block_behind-requires
block_behind-requires c = let i = c.pushes.invariant in (i.stands.fits, c.requires.2)

pub returns-in-Last : goal.returns-in-Last
returns-in-Last c =
    fills.last c.pushes.invariant c.next_push.ensures c.block_behind.ensures c.in-End.is c.in-Last.is

pub returns-in-Unread : goal.returns-in-Unread
returns-in-Unread c =
    fills.unread c.pushes.invariant c.next_push.ensures c.block_behind.ensures c.in-End.is c.in-Unread.is c.refusing.ensures.value

pub overflow_add-end : goal.overflow_add-end
overflow_add-end c = let i = c.pushes.invariant in omega (arith, i.stands.fits, c.requires.2)

pub pushes-smaller-in-Closing : goal.pushes-smaller-in-Closing
pushes-smaller-in-Closing c =
    chains.less_into c.pushes.invariant.stands c.block_behind.ensures c.in-Closing.is c.before_tokens-cur-in-Closing.ensures

pub pushes-preserved-in-Closing : goal.pushes-preserved-in-Closing
pushes-preserved-in-Closing c =
    fills.into c.pushes.invariant c.next_push.ensures c.block_behind.ensures c.in-End.is c.in-Closing.is c.before_tokens-cur-in-Closing.ensures

pub returns-in-Bad : goal.returns-in-Bad
returns-in-Bad c = fills.bad c.pushes.invariant c.next_push.ensures c.in-Bad.is c.refusing-in-Bad.ensures.value

pub pushes-smaller-then-there : goal.pushes-smaller-then-there
pushes-smaller-then-there c = chains.less c.pushes.invariant.stands (walk.id_gives c.next_push.ensures c.in-Id.is)

pub pushes-preserved-then-there : goal.pushes-preserved-then-there
pushes-preserved-then-there c = let i = c.pushes.invariant in fills.next i (walk.id_gives c.next_push.ensures c.in-Id.is) (holding.id_again i.holds _ _ c.if-there.true)

pub overflow_cast-p : goal.overflow_cast-p
overflow_cast-p c = let i = c.pushes.invariant in omega (arith, holding.few i.holds)

pub offset_bounds-set-p : goal.offset_bounds-set-p
offset_bounds-set-p c = let i = c.pushes.invariant in omega (arith, holding.few i.holds)

pub bounds-set-p : goal.bounds-set-p
bounds-set-p c = let i = c.pushes.invariant in omega (arith, holding.room_id i.holds c.if-there.false)

pub overflow_add-set : goal.overflow_add-set
overflow_add-set c = let i = c.pushes.invariant in omega (arith, holding.few i.holds)

pub pushes-smaller-in-Id : goal.pushes-smaller-in-Id
pushes-smaller-in-Id c = chains.less c.pushes.invariant.stands (walk.id_gives c.next_push.ensures c.in-Id.is)

pub pushes-preserved-in-Id : goal.pushes-preserved-in-Id
pushes-preserved-in-Id c = let i = c.pushes.invariant in fills.next i (walk.id_gives c.next_push.ensures c.in-Id.is) (holding.id_first i.holds _ _ c.if-there.false)

pub overflow_cast-n : goal.overflow_cast-n
overflow_cast-n c = let i = c.pushes.invariant in omega (arith, holding.few i.holds)

pub overflow_add-n : goal.overflow_add-n
overflow_add-n c = let i = c.pushes.invariant in omega (arith, holding.few i.holds)

pub passed_limit-requires : goal.passed_limit-requires
passed_limit-requires c =
    let i = c.pushes.invariant in ((walk.class_gives c.next_push.ensures c.in-Class.is).inside, i.stands.fits, c.requires.2, omega (arith, holding.few i.holds), c.requires.3)

pub returns-then-n-ge-CLASSES : goal.returns-then-n-ge-CLASSES
returns-then-n-ge-CLASSES c =
    fills.class_over c.pushes.invariant (walk.class_gives c.next_push.ensures c.in-Class.is) (omega (arith, c.if-n-ge-CLASSES.true)) c.passed_limit.ensures
    c.refusing-then-n-ge-CLASSES.ensures.value

pub overflow_add-set-in-Class : goal.overflow_add-set-in-Class
overflow_add-set-in-Class c = let i = c.pushes.invariant in omega (arith, holding.few i.holds)

pub pushes-smaller-then-n-gt0 : goal.pushes-smaller-then-n-gt0
pushes-smaller-then-n-gt0 c = chains.less c.pushes.invariant.stands (walk.class_gives c.next_push.ensures c.in-Class.is)

pub pushes-preserved-then-n-gt0 : goal.pushes-preserved-then-n-gt0
pushes-preserved-then-n-gt0 c =
    let i = c.pushes.invariant in fills.next i (walk.class_gives c.next_push.ensures c.in-Class.is) (holding.class_again i.holds _ _ (omega (arith, c.if-n-ge-CLASSES.false)) (omega (arith, c.if-n-gt0.true)))

pub overflow_cast-p-in-Class : goal.overflow_cast-p-in-Class
overflow_cast-p-in-Class c = let i = c.pushes.invariant in omega (arith, holding.few i.holds)

pub offset_bounds-set-p-in-Class : goal.offset_bounds-set-p-in-Class
offset_bounds-set-p-in-Class c = let i = c.pushes.invariant in omega (arith, holding.few i.holds)

pub bounds-set-p-in-Class : goal.bounds-set-p-in-Class
bounds-set-p-in-Class c = let i = c.pushes.invariant in omega (arith, holding.room_class i.holds (omega (arith, c.if-n-gt0.false)))

pub overflow_add-set-in-Class-2 : goal.overflow_add-set-in-Class-2
overflow_add-set-in-Class-2 c = let i = c.pushes.invariant in omega (arith, holding.few i.holds)

pub pushes-smaller-in-Class : goal.pushes-smaller-in-Class
pushes-smaller-in-Class c = chains.less c.pushes.invariant.stands (walk.class_gives c.next_push.ensures c.in-Class.is)

pub pushes-preserved-in-Class : goal.pushes-preserved-in-Class
pushes-preserved-in-Class c =
    let i = c.pushes.invariant in fills.next i (walk.class_gives c.next_push.ensures c.in-Class.is) (holding.class_first i.holds _ _ (omega (arith, c.if-n-ge-CLASSES.false)) (omega (arith, c.if-n-gt0.false)))

pub overflow_cast-n-in-Key : goal.overflow_cast-n-in-Key
overflow_cast-n-in-Key c = let i = c.pushes.invariant in omega (arith, holding.few i.holds)

pub offset_bounds-set-k : goal.offset_bounds-set-k
offset_bounds-set-k c = let i = c.pushes.invariant in omega (arith, holding.few i.holds, holding.key_within i.holds _ _ c.find_key-k.ensures)

pub bounds-set-k : goal.bounds-set-k
bounds-set-k c = let i = c.pushes.invariant in omega (arith, holding.few i.holds, holding.key_within i.holds _ _ c.find_key-k.ensures)

pub offset_bounds-set-k-then-k-n : goal.offset_bounds-set-k-then-k-n
offset_bounds-set-k-then-k-n c = let i = c.pushes.invariant in omega (arith, holding.few i.holds, holding.key_within i.holds _ _ c.find_key-k.ensures)

pub bounds-set-k-then-k-n : goal.bounds-set-k-then-k-n
bounds-set-k-then-k-n c = let i = c.pushes.invariant in omega (arith, holding.few i.holds, holding.key_within i.holds _ _ c.find_key-k.ensures)

pub pushes-smaller-then-k-n : goal.pushes-smaller-then-k-n
pushes-smaller-then-k-n c =
    chains.less c.pushes.invariant.stands (walk.key_gives c.next_push.ensures c.in-Key.is)

pub pushes-preserved-then-k-n : goal.pushes-preserved-then-k-n
pushes-preserved-then-k-n c =
    let i = c.pushes.invariant in fills.next i (walk.key_gives c.next_push.ensures c.in-Key.is) (holding.key_again i.holds _ _ _ c.find_key-k.ensures
    (omega (arith, c.if-k-n.true)))

pub overflow_cast-set : goal.overflow_cast-set
overflow_cast-set c = let i = c.pushes.invariant in omega (arith, holding.few i.holds)

pub passed_limit-requires-then-n-ge-KEYS : goal.passed_limit-requires-then-n-ge-KEYS
passed_limit-requires-then-n-ge-KEYS c =
    let i = c.pushes.invariant in ((walk.key_gives c.next_push.ensures c.in-Key.is).inside, i.stands.fits, c.requires.2, omega (arith, holding.few i.holds), c.requires.3)

pub returns-then-n-ge-KEYS : goal.returns-then-n-ge-KEYS
returns-then-n-ge-KEYS c =
    fills.key_over c.pushes.invariant (walk.key_gives c.next_push.ensures c.in-Key.is) c.find_key-k.ensures (omega (arith, c.if-k-n.false))
    (omega (arith, c.if-n-ge-KEYS.true)) c.passed_limit-then-n-ge-KEYS.ensures c.refusing-then-n-ge-KEYS.ensures.value

pub overflow_cast-p-in-Key : goal.overflow_cast-p-in-Key
overflow_cast-p-in-Key c = let i = c.pushes.invariant in omega (arith, holding.few i.holds)

pub offset_bounds-set-n-in-Key : goal.offset_bounds-set-n-in-Key
offset_bounds-set-n-in-Key c = let i = c.pushes.invariant in omega (arith, holding.few i.holds)

pub bounds-set-n-in-Key : goal.bounds-set-n-in-Key
bounds-set-n-in-Key c = let i = c.pushes.invariant in omega (arith, holding.room_key i.holds (omega (arith, c.if-n-ge-KEYS.false)))

pub offset_bounds-set-p-in-Key : goal.offset_bounds-set-p-in-Key
offset_bounds-set-p-in-Key c = let i = c.pushes.invariant in omega (arith, holding.few i.holds)

pub bounds-set-p-in-Key : goal.bounds-set-p-in-Key
bounds-set-p-in-Key c = let i = c.pushes.invariant in omega (arith, holding.room_key i.holds (omega (arith, c.if-n-ge-KEYS.false)))

pub overflow_add-set-in-Key : goal.overflow_add-set-in-Key
overflow_add-set-in-Key c = let i = c.pushes.invariant in omega (arith, holding.few i.holds)

pub overflow_add-set-in-Key-2 : goal.overflow_add-set-in-Key-2
overflow_add-set-in-Key-2 c = let i = c.pushes.invariant in omega (arith, holding.few i.holds)

pub pushes-smaller : goal.pushes-smaller
pushes-smaller c =
    chains.less c.pushes.invariant.stands (walk.key_gives c.next_push.ensures c.in-Key.is)

pub pushes-preserved : goal.pushes-preserved
pushes-preserved c =
    let i = c.pushes.invariant in fills.next i (walk.key_gives c.next_push.ensures c.in-Key.is) (holding.key_first i.holds _ _ _ c.find_key-k.ensures
    (omega (arith, c.if-k-n.false)) (omega (arith, c.if-n-ge-KEYS.false)))
