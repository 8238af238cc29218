use native.Mathlib.Omega.{arith}
use Rattle.text_utf8.proofs.Laws as laws
use mathlib.Core.Path.{refl}
use Rattle.text_utf8.specs.Computed.{lead_of}
use borrow.Author.Rules.{rules}
use Rattle.text_utf8.proofs.past_wide.Goals as goal

pub returns-then-a-lt194 : goal.returns-then-a-lt194
unfolding lead_of
returns-then-a-lt194 c = laws.no_lead 0x80 66 (omega arith) refl (omega arith) (omega arith)

pub past_two-requires : goal.past_two-requires
unfolding lead_of
past_two-requires c = laws.begins 0xC2 30 (omega arith) refl (omega arith) (omega arith)

pub past_three-requires : goal.past_three-requires
unfolding lead_of
past_three-requires c = laws.begins 0xE0 1 (omega arith) refl (omega arith) (omega arith)

pub past_three-requires-in-237 : goal.past_three-requires-in-237
unfolding lead_of
past_three-requires-in-237 c = laws.begins 0xED 1 (omega arith) refl (omega arith) (omega arith)

pub past_four-requires : goal.past_four-requires
unfolding lead_of
past_four-requires c = laws.begins 0xF0 1 (omega arith) refl (omega arith) (omega arith)

pub past_four-requires-in-244 : goal.past_four-requires-in-244
unfolding lead_of
past_four-requires-in-244 c = laws.begins 0xF4 1 (omega arith) refl (omega arith) (omega arith)

pub past_three-requires-in-225-to-236 : goal.past_three-requires-in-225-to-236
unfolding lead_of
past_three-requires-in-225-to-236 c = laws.begins 0xE1 12 (omega arith) refl (omega arith) (omega arith)

pub past_three-requires-in-238-to-239 : goal.past_three-requires-in-238-to-239
unfolding lead_of
past_three-requires-in-238-to-239 c = laws.begins 0xEE 2 (omega arith) refl (omega arith) (omega arith)

pub past_four-requires-in-241-to-243 : goal.past_four-requires-in-241-to-243
unfolding lead_of
past_four-requires-in-241-to-243 c = laws.begins 0xF1 3 (omega arith) refl (omega arith) (omega arith)

pub returns-in_default : goal.returns-in_default
returns-in_default c = absurd (omega arith)

pub returns-in_default-2 : goal.returns-in_default-2
returns-in_default-2 c = laws.past_leads (omega arith) (omega arith)
