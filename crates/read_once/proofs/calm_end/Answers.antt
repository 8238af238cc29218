use mathlib.Core.Path.{ap}
use mathlib.Core.Bool.{not}
use Prim.Native.Nat.{◌+◌, ◌-◌}
use native.Mathlib.Omega.{arith}
use borrow.Author.Rules.{rules}
use lib.ListN.{length}
use Rattle.read_once.proofs.Calm as calm
use Rattle.read_once.proofs.calm_end.Goals as goal

pub loop-k-init : goal.loop-k-init
loop-k-init c = calm.passes-start _ _

pub returns-then-s-k-lt4 : goal.returns-then-s-k-lt4
returns-then-s-k-lt4 c = calm.passed c.loop-k.invariant

pub returns-then-not-is_calm : goal.returns-then-not-is_calm
returns-then-not-is_calm c = calm.passed c.loop-k.invariant

pub returns-then-not-is_calm-2 : goal.returns-then-not-is_calm-2
returns-then-not-is_calm-2 c =
    let n = c.loop-k.k in
    let p1 = calm.passes_byte (n + 1) c.loop-k.invariant (omega arith) c.is_calm.ensures (ap not c.if-not-is_calm.false) (omega arith) in
    calm.passed p1

pub returns-then-not-is_calm-3 : goal.returns-then-not-is_calm-3
returns-then-not-is_calm-3 c =
    let n = c.loop-k.k in
    let p1 = calm.passes_byte (n + 1) c.loop-k.invariant (omega arith) c.is_calm.ensures (ap not c.if-not-is_calm.false) (omega arith) in
    let p2 = calm.passes_byte (n + 2) p1 (omega arith) c.is_calm-in-loop-k.ensures (ap not c.if-not-is_calm-2.false) (omega arith) in
    calm.passed p2

pub returns-then-not-is_calm-4 : goal.returns-then-not-is_calm-4
returns-then-not-is_calm-4 c =
    let n = c.loop-k.k in
    let p1 = calm.passes_byte (n + 1) c.loop-k.invariant (omega arith) c.is_calm.ensures (ap not c.if-not-is_calm.false) (omega arith) in
    let p2 = calm.passes_byte (n + 2) p1 (omega arith) c.is_calm-in-loop-k.ensures (ap not c.if-not-is_calm-2.false) (omega arith) in
    let p3 = calm.passes_byte (n + 3) p2 (omega arith) c.is_calm-in-loop-k-2.ensures (ap not c.if-not-is_calm-3.false) (omega arith) in
    calm.passed p3

pub loop-k-preserved : goal.loop-k-preserved
loop-k-preserved c =
    let n = c.loop-k.k in
    let p1 = calm.passes_byte (n + 1) c.loop-k.invariant (omega arith) c.is_calm.ensures (ap not c.if-not-is_calm.false) (omega arith) in
    let p2 = calm.passes_byte (n + 2) p1 (omega arith) c.is_calm-in-loop-k.ensures (ap not c.if-not-is_calm-2.false) (omega arith) in
    let p3 = calm.passes_byte (n + 3) p2 (omega arith) c.is_calm-in-loop-k-2.ensures (ap not c.if-not-is_calm-3.false) (omega arith) in
    let p4 = calm.passes_byte (n + 4) p3 (omega arith) c.is_calm-in-loop-k-3.ensures (ap not c.if-not-is_calm-4.false) (omega arith) in
    p4

pub returns : goal.returns
returns c = calm.passed c.loop-k.invariant
