use mathlib.Core.Path.{sym}
use Rattle.text_checks.proofs.Texts.{text_short, passed}
use Rattle.sheet_variants.proofs.VariantNumbers as numbers
use borrow.Author.Rules.{rules}
use Rattle.sheet_variants.proofs.variants_of.Goals as goal

pub fill_checked-requires : goal.fill_checked-requires
fill_checked-requires c = text_short _ (sym (passed _ c.check_text.ensures.value c.in-Ok.is))

pub returns-in-Err : goal.returns-in-Err
returns-in-Err c = let r = numbers.told_refused _ _ c.check_text.ensures.value c.in-Err.is c.no_table.ensures in record { value = r.0; join_after = r.1.0; result_value = r.1.1 }

pub returns-in-Ok : goal.returns-in-Ok
returns-in-Ok c = let r = numbers.told_passed _ _ c.check_text.ensures.value c.in-Ok.is (c.fill_checked.ensures.value, c.fill_checked.ensures.join_after) in record { value = r.0; join_after = r.1.0; result_value = r.1.1 }
