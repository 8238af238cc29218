use mathlib.Core.Path.{refl, ap}
use Prim.Native.Nat.{◌+◌}
use native.Mathlib.Omega.{arith}
use Rattle.base_letters.proofs.Fronts as fronts
use Rattle.block_grammar.specs.Grammar.{Item}
use Rattle.block_tokens.specs.Shown.{shown_item}
use Rattle.block_tokens.specs.declared.Token.TheVariants.{Id}
use Rattle.read_once.specs.Inner.{is_closing}
use Rattle.read_once.proofs.Tokens as laws
use borrow.Author.Rules.{rules}
use Rattle.read_once.proofs.id_seen.Goals as goal

pub finish-requires : goal.finish-requires
finish-requires c =
    let x = c.seen_as.ensures in
    ((fronts.inside _ _ c.args.text.now c.front_end-e.ensures (omega (arith, c.requires.0))).1, (ap (λ s. s.end) x, ap (λ s. is_closing s.sort) x))

pub returns : goal.returns
unfolding shown_item
returns c =
    let a = c.args in
    let x = c.seen_as.ensures in
    let is = laws.named c.requires.1 a.text.now (a.i + 1) c.front_end-e.ensures in
    laws.sigil a.text.now (a.i + 1) a.i a.mode (λ n. Item.id n) (λ e. Id (a.i + 1) e) (λ n. refl) is (omega (arith, c.requires.0)) (rw x at (c.finish.ensures a.i (rw x (refl, (fronts.inside _ _ a.text.now is (omega (arith, c.requires.0))).0, refl))))
