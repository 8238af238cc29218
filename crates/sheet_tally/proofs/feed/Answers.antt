use Rattle.sheet_tally.proofs.Feeding as laws
use Rattle.text_checks.proofs.Texts.{text_short, passed}
use lib.ListN.{length}
use mathlib.Core.Path.{sym}
use borrow.Author.Rules.{rules}
use Rattle.sheet_tally.proofs.feed.Goals as goal

pub returns-then-join-lt-MAX_TEXT : goal.returns-then-join-lt-MAX_TEXT
returns-then-join-lt-MAX_TEXT c = let r = laws.fed_short c.args.totals c.args.text.now (length c.args.join.now) c.args.join.now c.check_text.ensures.value c.in-Ok.is c.if-join-lt-MAX_TEXT.true in record { value = r.0; join_after = r.1.0; result_value = r.1.1 }

pub tally-requires : goal.tally-requires
tally-requires c = (text_short _ (sym (passed _ c.check_text.ensures.value c.in-Ok.is)), c.if-join-lt-MAX_TEXT.false)

pub returns-in-Err : goal.returns-in-Err
returns-in-Err c = let r = laws.fed_refused c.args.totals c.args.text.now (length c.args.join.now) c.args.join.now c.check_text.ensures.value c.in-Err.is c.refused_sheet.ensures c.add_totals.ensures.value in record { value = r.0; join_after = r.1.0; result_value = r.1.1 }

pub returns-else-join-lt-MAX_TEXT : goal.returns-else-join-lt-MAX_TEXT
returns-else-join-lt-MAX_TEXT c = let r = laws.fed_passed c.args.totals c.args.text.now (length c.args.join.now) c.args.join.now c.check_text.ensures.value c.in-Ok.is c.if-join-lt-MAX_TEXT.false c.tally.ensures.value c.tally.ensures.join_after c.add_totals-in-Ok.ensures.value in record { value = r.0; join_after = r.1.0; result_value = r.1.1 }
