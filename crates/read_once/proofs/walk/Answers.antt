use mathlib.Core.Path.{◌∙◌}
use Prim.Native.Nat.{◌-◌}
use native.Mathlib.Omega.{arith}
use borrow.Author.Rules.{rules}
use lib.ListN.{length}
use Rattle.set_table.proofs.Holding as holding
use Rattle.read_once.specs.Inner.{Walks}
use Rattle.read_once.proofs.Arms as arms
use Rattle.read_once.proofs.Loop as loop
use Rattle.read_once.proofs.walk.Reads as reads
use Rattle.read_once.proofs.walk.Lts as lts
use Rattle.read_once.proofs.is_next.Reads as is-next-reads
use Rattle.read_once.proofs.name_of.Reads as name-of-reads
use Rattle.read_once.proofs.next_move.Reads as next-move-reads
use Rattle.read_once.proofs.refused.Reads as refused-reads
use Rattle.read_once.proofs.spoken.Reads as spoken-reads
use Rattle.read_once.proofs.tag_passes.Reads as tag-passes-reads
use Rattle.read_once.proofs.unread.Reads as unread-reads
use Rattle.read_once.proofs.value_of.Reads as value-of-reads
use Rattle.read_once.proofs.verdict.Reads as verdict-reads
use Rattle.set_table.proofs.Attrs.empty.Reads as empty-reads
use Rattle.set_table.proofs.find_key.Reads as find-key-reads
use borrow.Enum.Refused as refused
use Rattle.read_once.proofs.walk.Goals as goal

-- src/lib.rt:658:18
pub overflow_add-at : goal.overflow_add-at
overflow_add-at c = omega (arith, c.requires.0, c.requires.1.0)

-- src/lib.rt:659:18
pub overflow_add-to : goal.overflow_add-to
overflow_add-to c = omega (arith, c.requires.0, c.requires.1.0)

-- src/lib.rt:660:20
pub overflow_add-next : goal.overflow_add-next
overflow_add-next c = omega (arith, c.requires.0, c.requires.1.0)

-- src/lib.rt:669:5
pub moves-init : goal.moves-init
moves-init c = loop.start c.args.mode c.args.text.now c.args.place c.requires.1.0 c.empty-set.ensures

-- src/lib.rt:670:13
pub next_move-r-requires : goal.next_move-r-requires
next_move-r-requires c = (c.moves.invariant.stands, c.requires.1.1)

-- src/lib.rt:677:43
pub unread-requires : goal.unread-requires
unread-requires c = (let w = arms.wrongs c.next_move-r.ensures c.in-Wrong.is in (omega (arith, c.moves.invariant.from, c.moves.invariant.stands.low, c.moves.invariant.stands.mid, w.ahead), (w.within, w.close ∙ c.moves.invariant.close)))

-- src/lib.rt:677:28
pub returns-in-Wrong : goal.returns-in-Wrong
returns-in-Wrong c = loop.wrong_ends c.moves.invariant (arms.wrongs c.next_move-r.ensures c.in-Wrong.is) c.args.tags c.unread.ensures c.refused.ensures

-- src/lib.rt:680:21
pub verdict-answer-requires : goal.verdict-answer-requires
verdict-answer-requires c = loop.inside c.moves.invariant (arms.closing c.next_move-r.ensures c.in-Close.is)

-- src/lib.rt:682:21
pub returns-then-is_next : goal.returns-then-is_next
returns-then-is_next c = loop.passed c.moves.invariant (arms.closing c.next_move-r.ensures c.in-Close.is) c.args.tags c.tag_passes-passes.ensures c.verdict-answer.ensures c.is_next.ensures c.if-is_next.true

-- src/lib.rt:684:17
pub returns-in-Close : goal.returns-in-Close
returns-in-Close c = loop.refused c.moves.invariant (arms.closing c.next_move-r.ensures c.in-Close.is) c.args.tags c.tag_passes-passes.ensures c.verdict-answer.ensures c.is_next.ensures c.if-is_next.false c.refused-in-Close.ensures

-- src/lib.rt:689:26
pub value_of-set-requires : goal.value_of-set-requires
value_of-set-requires c = (let p = arms.by_id c.next_move-r.ensures c.in-Id.is in (omega (arith, p.short.2, c.requires.0), omega (arith, p.short.3, c.requires.0)))

-- src/lib.rt:669:5
pub moves-smaller-then-there : goal.moves-smaller-then-there
moves-smaller-then-there c = loop.less c.moves.invariant (arms.by_id c.next_move-r.ensures c.in-Id.is)

-- src/lib.rt:669:5
pub moves-preserved-then-there : goal.moves-preserved-then-there
moves-preserved-then-there c = arms.id_on c.moves.invariant c.next_move-r.ensures c.in-Id.is c.value_of-set.ensures (holding.id_again (c.moves.invariant.fits.holds) _ _ c.if-there.true)

-- src/lib.rt:694:25
pub overflow_cast-p : goal.overflow_cast-p
overflow_cast-p c = omega (arith, holding.few (c.moves.invariant.fits.holds))

-- src/lib.rt:695:17
pub offset_bounds-set-p : goal.offset_bounds-set-p
offset_bounds-set-p c = omega (arith, holding.few (c.moves.invariant.fits.holds))

-- src/lib.rt:695:17
pub bounds-set-p : goal.bounds-set-p
bounds-set-p c = omega (arith, holding.room_id (c.moves.invariant.fits.holds) c.if-there.false)

-- src/lib.rt:696:30
pub overflow_add-set : goal.overflow_add-set
overflow_add-set c = omega (arith, holding.few (c.moves.invariant.fits.holds))

-- src/lib.rt:669:5
pub moves-smaller-in-Id : goal.moves-smaller-in-Id
moves-smaller-in-Id c = loop.less c.moves.invariant (arms.by_id c.next_move-r.ensures c.in-Id.is)

-- src/lib.rt:669:5
pub moves-preserved-in-Id : goal.moves-preserved-in-Id
moves-preserved-in-Id c = arms.id_on c.moves.invariant c.next_move-r.ensures c.in-Id.is c.value_of-set.ensures (holding.id_first (c.moves.invariant.fits.holds) _ _ c.if-there.false)

-- src/lib.rt:701:25
pub overflow_cast-n : goal.overflow_cast-n
overflow_cast-n c = omega (arith, holding.few (c.moves.invariant.fits.holds))

-- src/lib.rt:669:5
pub moves-smaller-then-n-ge-CLASSES : goal.moves-smaller-then-n-ge-CLASSES
moves-smaller-then-n-ge-CLASSES c = loop.less c.moves.invariant (arms.by_class c.next_move-r.ensures c.in-Class.is)

-- src/lib.rt:669:5
pub moves-preserved-then-n-ge-CLASSES : goal.moves-preserved-then-n-ge-CLASSES
moves-preserved-then-n-ge-CLASSES c = arms.class_many c.moves.invariant c.next_move-r.ensures c.in-Class.is (omega (arith, c.if-n-ge-CLASSES.true))

-- src/lib.rt:706:34
pub value_of-requires : goal.value_of-requires
value_of-requires c = (let p = arms.by_class c.next_move-r.ensures c.in-Class.is in (omega (arith, p.short.2, c.requires.0), omega (arith, p.short.3, c.requires.0)))

-- src/lib.rt:706:17
pub offset_bounds-set-n : goal.offset_bounds-set-n
offset_bounds-set-n c = omega (arith, holding.few (c.moves.invariant.fits.holds), c.if-n-ge-CLASSES.false)

-- src/lib.rt:706:17
pub bounds-set-n : goal.bounds-set-n
bounds-set-n c = omega (arith, holding.few (c.moves.invariant.fits.holds), c.if-n-ge-CLASSES.false)

-- src/lib.rt:707:30
pub overflow_add-set-in-Class : goal.overflow_add-set-in-Class
overflow_add-set-in-Class c = omega (arith, holding.few (c.moves.invariant.fits.holds))

-- src/lib.rt:669:5
pub moves-smaller-then-n-gt0 : goal.moves-smaller-then-n-gt0
moves-smaller-then-n-gt0 c = loop.less c.moves.invariant (arms.by_class c.next_move-r.ensures c.in-Class.is)

-- src/lib.rt:669:5
pub moves-preserved-then-n-gt0 : goal.moves-preserved-then-n-gt0
moves-preserved-then-n-gt0 c = arms.class_on c.moves.invariant c.next_move-r.ensures c.in-Class.is c.value_of.ensures (holding.class_again (c.moves.invariant.fits.holds) _ _ (omega (arith, c.if-n-ge-CLASSES.false)) (omega (arith, c.if-n-gt0.true)))

-- src/lib.rt:711:25
pub overflow_cast-p-in-Class : goal.overflow_cast-p-in-Class
overflow_cast-p-in-Class c = omega (arith, holding.few (c.moves.invariant.fits.holds))

-- src/lib.rt:712:17
pub bounds-set-p-in-Class : goal.bounds-set-p-in-Class
bounds-set-p-in-Class c = omega (arith, holding.room_class (c.moves.invariant.fits.holds) (omega (arith, c.if-n-gt0.false)))

-- src/lib.rt:713:30
pub overflow_add-set-in-Class-2 : goal.overflow_add-set-in-Class-2
overflow_add-set-in-Class-2 c = omega (arith, holding.few (c.moves.invariant.fits.holds))

-- src/lib.rt:669:5
pub moves-smaller-in-Class : goal.moves-smaller-in-Class
moves-smaller-in-Class c = loop.less c.moves.invariant (arms.by_class c.next_move-r.ensures c.in-Class.is)

-- src/lib.rt:669:5
pub moves-preserved-in-Class : goal.moves-preserved-in-Class
moves-preserved-in-Class c = arms.class_on c.moves.invariant c.next_move-r.ensures c.in-Class.is c.value_of.ensures (holding.class_first (c.moves.invariant.fits.holds) _ _ (omega (arith, c.if-n-ge-CLASSES.false)) (omega (arith, c.if-n-gt0.false)))

-- src/lib.rt:719:21
pub name_of-name-requires : goal.name_of-name-requires
name_of-name-requires c = (let p = arms.by_key c.next_move-r.ensures c.in_default.in_default-own.keys5 in (omega (arith, p.short.0, c.requires.0), omega (arith, p.short.1, c.requires.0)))

-- src/lib.rt:720:21
pub value_of-v-requires : goal.value_of-v-requires
value_of-v-requires c = (let p = arms.by_key c.next_move-r.ensures c.in_default.in_default-own.keys5 in (omega (arith, p.short.2, c.requires.0), omega (arith, p.short.3, c.requires.0)))

-- src/lib.rt:721:25
pub overflow_cast-n-in_default : goal.overflow_cast-n-in_default
overflow_cast-n-in_default c = omega (arith, holding.few (c.moves.invariant.fits.holds))

-- src/lib.rt:725:35
pub offset_bounds-set-k : goal.offset_bounds-set-k
offset_bounds-set-k c = omega (arith, holding.few (c.moves.invariant.fits.holds), holding.key_within (c.moves.invariant.fits.holds) _ _ c.find_key-k.ensures)

-- src/lib.rt:725:35
pub bounds-set-k : goal.bounds-set-k
bounds-set-k c = omega (arith, holding.few (c.moves.invariant.fits.holds), holding.key_within (c.moves.invariant.fits.holds) _ _ c.find_key-k.ensures)

-- src/lib.rt:727:21
pub offset_bounds-set-k-then-k-n : goal.offset_bounds-set-k-then-k-n
offset_bounds-set-k-then-k-n c = omega (arith, holding.few (c.moves.invariant.fits.holds), holding.key_within (c.moves.invariant.fits.holds) _ _ c.find_key-k.ensures)

-- src/lib.rt:727:21
pub bounds-set-k-then-k-n : goal.bounds-set-k-then-k-n
bounds-set-k-then-k-n c = omega (arith, holding.few (c.moves.invariant.fits.holds), holding.key_within (c.moves.invariant.fits.holds) _ _ c.find_key-k.ensures)

-- src/lib.rt:669:5
pub moves-smaller-then-k-n : goal.moves-smaller-then-k-n
moves-smaller-then-k-n c = loop.less c.moves.invariant (arms.by_key c.next_move-r.ensures c.in_default.in_default-own.keys5)

-- src/lib.rt:669:5
pub moves-preserved-then-k-n : goal.moves-preserved-then-k-n
moves-preserved-then-k-n c = arms.key_on c.moves.invariant c.next_move-r.ensures c.in_default.in_default-own.keys5 _ c.spoken-last.ensures c.name_of-name.ensures c.value_of-v.ensures (holding.key_again (c.moves.invariant.fits.holds) _ _ _ c.find_key-k.ensures (omega (arith, c.if-k-n.true)))

-- src/lib.rt:669:5
pub moves-smaller-then-n-ge-KEYS : goal.moves-smaller-then-n-ge-KEYS
moves-smaller-then-n-ge-KEYS c = loop.less c.moves.invariant (arms.by_key c.next_move-r.ensures c.in_default.in_default-own.keys5)

-- src/lib.rt:669:5
pub moves-preserved-then-n-ge-KEYS : goal.moves-preserved-then-n-ge-KEYS
moves-preserved-then-n-ge-KEYS c = arms.key_over c.moves.invariant c.next_move-r.ensures c.in_default.in_default-own.keys5 _ c.spoken-last.ensures c.name_of-name.ensures c.value_of-v.ensures c.find_key-k.ensures (omega (arith, c.if-k-n.false)) (omega (arith, c.if-n-ge-KEYS.true))

-- src/lib.rt:734:25
pub overflow_cast-p-in_default : goal.overflow_cast-p-in_default
overflow_cast-p-in_default c = omega (arith, holding.few (c.moves.invariant.fits.holds))

-- src/lib.rt:735:17
pub offset_bounds-set-n-in_default : goal.offset_bounds-set-n-in_default
offset_bounds-set-n-in_default c = omega (arith, holding.few (c.moves.invariant.fits.holds))

-- src/lib.rt:735:17
pub bounds-set-n-in_default : goal.bounds-set-n-in_default
bounds-set-n-in_default c = omega (arith, holding.room_key (c.moves.invariant.fits.holds) (omega (arith, c.if-n-ge-KEYS.false)))

-- src/lib.rt:736:17
pub offset_bounds-set-p-in_default : goal.offset_bounds-set-p-in_default
offset_bounds-set-p-in_default c = omega (arith, holding.few (c.moves.invariant.fits.holds))

-- src/lib.rt:736:17
pub bounds-set-p-in_default : goal.bounds-set-p-in_default
bounds-set-p-in_default c = omega (arith, holding.room_key (c.moves.invariant.fits.holds) (omega (arith, c.if-n-ge-KEYS.false)))

-- src/lib.rt:739:28
pub overflow_add-set-in_default : goal.overflow_add-set-in_default
overflow_add-set-in_default c = omega (arith, holding.few (c.moves.invariant.fits.holds))

-- src/lib.rt:740:30
pub overflow_add-set-in_default-2 : goal.overflow_add-set-in_default-2
overflow_add-set-in_default-2 c = omega (arith, holding.few (c.moves.invariant.fits.holds))

-- src/lib.rt:669:5
pub moves-smaller : goal.moves-smaller
moves-smaller c = loop.less c.moves.invariant (arms.by_key c.next_move-r.ensures c.in_default.in_default-own.keys5)

-- src/lib.rt:669:5
pub moves-preserved : goal.moves-preserved
moves-preserved c = arms.key_on c.moves.invariant c.next_move-r.ensures c.in_default.in_default-own.keys5 _ c.spoken-last.ensures c.name_of-name.ensures c.value_of-v.ensures (holding.key_first (c.moves.invariant.fits.holds) _ _ _ c.find_key-k.ensures (omega (arith, c.if-k-n.false)) (omega (arith, c.if-n-ge-KEYS.false)))

pub offset_bounds-set-p-in-Class : goal.offset_bounds-set-p-in-Class
offset_bounds-set-p-in-Class c = omega (arith, holding.few c.moves.invariant.fits.holds)
