use Prim.Native.Nat.{◌-◌}
use native.Mathlib.Omega.{arith}
use borrow.Author.Rules.{rules}
use lib.ListN.{length}
use Rattle.base_bytes.specs.Bytes.{is_letter, is_digit, within}
use Rattle.base_letters.specs.Classes.{class_of}
use Rattle.base_letters.proofs.Rule as rule
use Rattle.read_tags.proofs.Langs as langs
use Rattle.read_tags.proofs.payload_passes.Given as goal

abbrev pub invariant-tokens : goal.invariant-tokens
invariant-tokens l = langs.Passing l.mode l.s l.i l.passes

abbrev pub decreases-tokens : goal.decreases-tokens
decreases-tokens l = length l.s - l.i
