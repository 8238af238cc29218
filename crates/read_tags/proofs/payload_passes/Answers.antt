use Prim.Native.Nat.{◌-◌}
use native.Mathlib.Omega.{arith}
use borrow.Author.Rules.{rules}
use lib.ListN.{length}
use Rattle.base_bytes.specs.Bytes.{is_letter, is_digit, within}
use Rattle.base_letters.specs.Classes.{class_of}
use Rattle.base_letters.proofs.Rule as rule
use Rattle.read_tags.proofs.Langs as langs
use Rattle.read_tags.proofs.payload_passes.Goals as goal

pub tokens-init : goal.tokens-init
tokens-init c = langs.passing_start _ _

pub token_told-requires : goal.token_told-requires
unfolding class_of is_letter is_digit within
token_told-requires c = (c.tokens.invariant.within, rule.tells)

pub tokens-smaller : goal.tokens-smaller
tokens-smaller c =
    let g = langs.passing_go c.tokens.invariant (rw c.in-Next.is at c.token_told.ensures) in omega (arith, g.0.within, g.1)

pub tokens-preserved : goal.tokens-preserved
tokens-preserved c =
    (langs.passing_go c.tokens.invariant (rw c.in-Next.is at c.token_told.ensures)).0

pub returns-in-End : goal.returns-in-End
returns-in-End c = langs.passing_end c.tokens.invariant (rw c.in-End.is at c.token_told.ensures)

pub returns-in-Bad : goal.returns-in-Bad
returns-in-Bad c = langs.passing_bad c.tokens.invariant (rw c.in-Bad.is at c.token_told.ensures)
