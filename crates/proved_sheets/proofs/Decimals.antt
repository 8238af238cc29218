-- The numbers of a report have the fewest digits that hold them.
-- Assumes nothing.
use mathlib.Core.Path.{refl}
use Rattle.text_digits.specs.Decimal.{places, decimal}
use Rattle.text_digits.proofs.Decimals.{fewest}
use Rattle.proved_sheets.specs.Report.{FewestDigits}

pub decimal_digits : FewestDigits
unfolding decimal
decimal_digits n = (places n, (refl, fewest n))
