-- The numbers of what is handed out: those of its grounds, then of what stands behind them.
-- Assumes nothing.
use Rattle.std.specs.Prelude.{Ok}
use mathlib.Core.Path.{◌≡◌, refl, ap, ◌∙◌}
use mathlib.Core.List.{List, [], ◌++◌}
use Prim.Native.Nat.{ℕ}
use Rattle.base_refusals.specs.Numbers.{outcome_no}
use Rattle.base_refusals.specs.Orders.{Ground, in_order, order_no}
use Rattle.base_refusals.proofs.Orders.{order_no_lem}
use Rattle.set_table.specs.Rows.{Rows, table_of}
use Rattle.set_table.specs.declared.Filled.{Filled}
use Rattle.set_table.specs.Filled.{refusing, limit_order, limited}

-- what is handed out behind grounds
pub behind_no : (gs hs : List Ground) (f : Filled) → outcome_no f.outcome ≡ order_no hs → outcome_no (in_order refusing gs f).outcome ≡ order_no (gs ++ hs)
behind_no gs hs f e = order_no_lem (λ x. outcome_no x.outcome) refusing (λ r. refl) gs hs e

pub limited_no : (s : Rows) → outcome_no (limited s).outcome ≡ order_no (limit_order s)
unfolding limited order_no
limited_no s = behind_no (limit_order s) [] (record { outcome = Ok tt; set = table_of s }) refl

-- what is handed out has the number of what it is equal to
pub said : {f g : Filled} {n : ℕ} → outcome_no g.outcome ≡ n → f ≡ g → record { value : f ≡ g; outcome_value : outcome_no f.outcome ≡ n }
said k e = record { value = e; outcome_value = ap (λ x. outcome_no x.outcome) e ∙ k }
