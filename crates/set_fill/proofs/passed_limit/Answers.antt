use native.Mathlib.Omega.{arith}
use mathlib.Core.Path.{sym, ◌∙◌}
use Prim.Native.Nat.{◌-◌}
use lib.ListN.{length}
use borrow.Author.Rules.{rules}
use Rattle.set_fill.specs.Inner.{chain_rest, over_of}
use Rattle.set_fill.proofs.Walk as walk
use Rattle.set_fill.proofs.Chains as chains
use Rattle.set_fill.proofs.Limits as limits
use Rattle.set_fill.proofs.passed_limit.Goals as goal

pub walk-init : goal.walk-init
walk-init c = limits.start _ _ _ c.requires.0 c.requires.1

pub slice_bounds-next_push-end : goal.slice_bounds-next_push-end
slice_bounds-next_push-end c = sym (chains.front c.walk.invariant.stands)

pub next_push-requires : goal.next_push-requires
next_push-requires c = let i = c.walk.invariant in (i.stands.inside, omega (arith, chains.front i.stands, i.stands.fits, c.requires.2), c.requires.4)

pub block_behind-requires : goal.block_behind-requires
block_behind-requires c = let i = c.walk.invariant in (i.stands.fits, c.requires.2)

pub overflow_add-end : goal.overflow_add-end
overflow_add-end c = let i = c.walk.invariant in omega (arith, i.stands.fits, c.requires.2)

pub walk-smaller-in-Closing : goal.walk-smaller-in-Closing
walk-smaller-in-Closing c =
    chains.less_into c.walk.invariant.stands c.block_behind.ensures c.in-Closing.is c.before_tokens-cur.ensures

pub walk-preserved-in-Closing : goal.walk-preserved-in-Closing
walk-preserved-in-Closing c =
    limits.into c.walk.invariant c.next_push.ensures c.block_behind.ensures c.in-End.is c.in-Closing.is c.before_tokens-cur.ensures

pub walk-smaller-in-Id : goal.walk-smaller-in-Id
walk-smaller-in-Id c = chains.less c.walk.invariant.stands (walk.id_gives c.next_push.ensures c.in-Id.is)

pub walk-preserved-in-Id : goal.walk-preserved-in-Id
walk-preserved-in-Id c = limits.next c.walk.invariant (walk.id_gives c.next_push.ensures c.in-Id.is)

pub overflow_add-count : goal.overflow_add-count
overflow_add-count c = let i = c.walk.invariant in omega (arith, c.requires, i.bound, i.stands.inside, chains.front i.stands, i.stands.fits)

pub walk-smaller-in-Class : goal.walk-smaller-in-Class
walk-smaller-in-Class c = chains.less c.walk.invariant.stands (walk.class_gives c.next_push.ensures c.in-Class.is)

pub walk-preserved-in-Class : goal.walk-preserved-in-Class
walk-preserved-in-Class c = limits.next c.walk.invariant (walk.class_gives c.next_push.ensures c.in-Class.is)

pub walk-smaller : goal.walk-smaller
walk-smaller c = chains.less c.walk.invariant.stands (walk.key_gives c.next_push.ensures c.in-Key.is)

pub walk-preserved : goal.walk-preserved
walk-preserved c = limits.next c.walk.invariant (walk.key_gives c.next_push.ensures c.in-Key.is)

pub returns-in-Last : goal.returns-in-Last
returns-in-Last c =
    c.over.ensures ∙ limits.last c.walk.invariant c.next_push.ensures c.block_behind.ensures c.in-End.is c.in-Last.is

pub returns-in-Unread : goal.returns-in-Unread
returns-in-Unread c =
    limits.unread c.walk.invariant c.next_push.ensures c.block_behind.ensures c.in-End.is c.in-Unread.is

pub returns-in-Bad : goal.returns-in-Bad
returns-in-Bad c = limits.bad c.walk.invariant c.next_push.ensures c.in-Bad.is
