use native.Mathlib.Omega.{arith}
use Rattle.base_bytes.specs.Bytes.{is_letter, is_digit, within}
use Rattle.base_letters.specs.Classes.{class_of}
use Rattle.base_letters.proofs.Rule as rule
use Rattle.block_quick.proofs.Walks as walks
use Rattle.block_quick.proofs.attr_payload_provably_invalid.Goals as goal

pub returns-then-s-brace : goal.returns-then-s-brace
returns-then-s-brace c = walks.past_end _ _ c.if-s-brace.true

pub loop-b-init : goal.loop-b-init
loop-b-init c = walks.start _ _

pub turn_by-requires : goal.turn_by-requires
unfolding class_of is_letter is_digit within
turn_by-requires c = record { key = rule.key_start; name = rule.name_start; part = rule.name_part }

pub returns-in-Refuse : goal.returns-in-Refuse
returns-in-Refuse c = rw c.in-Refuse.is at (walks.turned c.loop-b.invariant (omega arith) c.turn_by.ensures)

pub returns-in-Leave : goal.returns-in-Leave
returns-in-Leave c = rw c.in-Leave.is at (walks.turned c.loop-b.invariant (omega arith) c.turn_by.ensures)

pub loop-b-preserved : goal.loop-b-preserved
loop-b-preserved c = walks.go c.loop-b.invariant (omega arith) c.in-On.is c.turn_by.ensures

pub returns : goal.returns
returns c = walks.end c.loop-b.invariant (omega arith)
