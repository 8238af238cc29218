use mathlib.Core.Path.{refl, ap}
use native.Mathlib.Omega.{arith}
use Rattle.read_once.specs.Inner.{is_closing}
use Rattle.read_once.proofs.Tokens as laws
use borrow.Author.Rules.{rules}
use Rattle.read_once.proofs.quoted_seen.Goals as goal

pub quote_end-requires : goal.quote_end-requires
quote_end-requires c = c.requires.1.1

pub overflow_add-e : goal.overflow_add-e
overflow_add-e c = omega (arith, c.quote_end.ensures.shuts.within _ c.in-Some.is)

pub overflow_add-e-in-Some : goal.overflow_add-e-in-Some
overflow_add-e-in-Some c = omega (arith, c.quote_end.ensures.shuts.within _ c.in-Some.is)

pub finish-requires : goal.finish-requires
finish-requires c =
    let x = c.seen_as.ensures in
    (omega (arith, c.quote_end.ensures.shuts.within _ c.in-Some.is), (ap (λ s. s.end) x, ap (λ s. is_closing s.sort) x))

pub returns-in-None : goal.returns-in-None
returns-in-None c =
    let a = c.args in
    laws.quoted_none a.text.now a.i a.k a.mode c.requires.1.0 c.requires.1.1 c.quote_end.ensures c.in-None.is c.wrong_at.ensures

pub returns-in-Some : goal.returns-in-Some
returns-in-Some c =
    let a = c.args in
    let x = c.seen_as.ensures in
    laws.quoted_some a.text.now a.i a.k a.mode c.requires.1.0 c.requires.1.1 c.requires.0 c.quote_end.ensures c.in-Some.is (rw x at (c.finish.ensures a.i (rw x (refl, c.requires.0, omega (arith, c.quote_end.ensures.shuts.within _ c.in-Some.is)))))
