use Rattle.set_marks.proofs.Values.{raw_value}
use mathlib.Core.Path.{refl}
use Rattle.base_refusals.proofs.Said.{said}
use Rattle.text_digits.specs.Digits.{number_in, decimal_paper}
use borrow.Author.Rules.{rules}
use Rattle.set_keyed.proofs.value_number.Goals as goal

pub returns : goal.returns
unfolding number_in
returns c = said decimal_paper refl (rw (← raw_value, ← c.is_quoted.ensures, ← c.raw_bytes-raw.ensures.0, ← c.read_raw.ensures) c.read_out.ensures.value)
