use mathlib.Core.Path.{refl, ap, sym, ◌∙◌}
use Prim.Native.Nat.{◌-◌}
use native.Mathlib.Omega.{arith}
use borrow.Author.Rules.{rules}
use lib.ListN.{length}
use Rattle.base_bytes.specs.Bytes.{is_letter, is_digit, within}
use Rattle.base_letters.specs.Classes.{class_of}
use Rattle.base_letters.proofs.Rule as rule
use Rattle.base_refusals.proofs.Said.{said}
use Rattle.text_names.specs.Tested.{tested_paper}
use Rattle.block_tokens.specs.Shown.{payload_tested}
use Rattle.block_tokens.specs.Inner.{behind_of}
use Rattle.block_tokens.proofs.Lent as lent
use Rattle.block_tokens.proofs.Payload as payload
use Rattle.block_tokens.proofs.payload_test.Given as goal

abbrev pub invariant-tokens : goal.invariant-tokens
invariant-tokens l = payload.Reads l.mode l.s (payload_tested l.mode l.s) l.i l.some

abbrev pub decreases-tokens : goal.decreases-tokens
decreases-tokens l = length l.s - l.i
