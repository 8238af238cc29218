use mathlib.Core.Path.{refl}
use native.Mathlib.Omega.{arith}
use Rattle.base_refusals.proofs.Said.{said}
use Rattle.sheet_valves.specs.Settings.{heard_paper}
use Rattle.sheet_valves.proofs.Keys as laws
use borrow.Author.Rules.{rules}
use Rattle.sheet_valves.proofs.setting_of.Goals as goal

pub returns-then-v-ge-KEYS : goal.returns-then-v-ge-KEYS
returns-then-v-ge-KEYS c = said heard_paper refl (laws.rows_without c.key_rows-rows.ensures (omega arith) c.say_without.ensures)

pub returns-then-w-ge-KEYS : goal.returns-then-w-ge-KEYS
returns-then-w-ge-KEYS c = said heard_paper refl (laws.rows_no_wheel c.key_rows-rows.ensures (omega arith) (omega arith))

pub returns-then-x-ge-KEYS : goal.returns-then-x-ge-KEYS
returns-then-x-ge-KEYS c = said heard_paper refl (laws.rows_no_valve c.key_rows-rows.ensures (omega arith) (omega arith) (omega arith))

pub returns : goal.returns
returns c =
    said heard_paper refl (laws.rows_all c.key_rows-rows.ensures (omega arith) (omega arith) (omega arith) c.read_setting.ensures)
