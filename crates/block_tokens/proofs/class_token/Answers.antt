use mathlib.Core.Path.{refl}
use Prim.Native.Nat.{◌+◌}
use native.Mathlib.Omega.{arith}
use Rattle.block_grammar.specs.Grammar.{Item}
use Rattle.block_tokens.specs.Shown.{shown_item}
use Rattle.block_tokens.specs.declared.Token.TheVariants.{Class}
use Rattle.block_tokens.specs.Lent.{tests_of}
use Rattle.block_tokens.proofs.Words as words
use Rattle.block_tokens.proofs.Lent as lent
use borrow.Author.Rules.{rules}
use Rattle.block_tokens.proofs.class_token.Goals as goal

pub returns : goal.returns
unfolding shown_item
returns c =
    let a = c.args in
    words.sigil_by (tests_of a.table.now) (lent.name_part a.table.now) a.s.now c.front_end-e.ensures (omega (arith, c.requires)) a.i a.mode (λ n. Item.class n) (λ e. Class (a.i + 1) e) (λ n. refl) c.finish.ensures
