use mathlib.Core.Path.{◌≡◌, sym, ◌∙◌}
use native.Mathlib.Omega.{arith}
use lib.ListN.{length, length-map}
use Rattle.set_table.specs.Types.{max_classes, max_keys, max_slots}
use borrow.Author.Tests.{not-true, not-false, le-leb, lt-leb}
use Rattle.set_table.specs.Rows.{rows_in}
use Rattle.set_wellformed.specs.WellFormed.{counts_ok, rows_ok, table_ok}
use Rattle.set_wellformed.proofs.Decide as laws
use borrow.Author.Rules.{rules}
use Rattle.set_wellformed.proofs.table_ok.Goals as goal

pub returns-then-nclass-gt-CLASSES : goal.returns-then-nclass-gt-CLASSES
unfolding table_ok counts_ok
returns-then-nclass-gt-CLASSES c = rw (lt-leb c.args.set.nclass max_classes (omega (arith, c.if-nclass-gt-CLASSES.true)))

pub returns-then-nkey-gt-KEYS : goal.returns-then-nkey-gt-KEYS
unfolding table_ok counts_ok
returns-then-nkey-gt-KEYS c = rw (le-leb c.args.set.nclass max_classes (omega (arith, c.if-nclass-gt-CLASSES.false)), lt-leb c.args.set.nkey max_keys (omega (arith, c.if-nkey-gt-KEYS.true)))

pub returns-then-norder-gt-SLOTS : goal.returns-then-norder-gt-SLOTS
unfolding table_ok counts_ok
returns-then-norder-gt-SLOTS c =
    rw (le-leb c.args.set.nclass max_classes (omega (arith, c.if-nclass-gt-CLASSES.false)), le-leb c.args.set.nkey max_keys (omega (arith, c.if-nkey-gt-KEYS.false)), lt-leb c.args.set.norder max_slots (omega (arith, c.if-norder-gt-SLOTS.true)))

pub returns-then-not-ident_ok : goal.returns-then-not-ident_ok
unfolding table_ok rows_ok rows_in
returns-then-not-ident_ok c =
    rw (laws.counts c.args.set (omega (arith, c.if-nclass-gt-CLASSES.false)) (omega (arith, c.if-nkey-gt-KEYS.false)) (omega (arith, c.if-norder-gt-SLOTS.false)), sym c.ident_ok.ensures ∙ c.if-not-ident_ok.true)

pub returns-then-not-classes_ok : goal.returns-then-not-classes_ok
unfolding table_ok rows_ok rows_in
returns-then-not-classes_ok c =
    rw (laws.counts c.args.set (omega (arith, c.if-nclass-gt-CLASSES.false)) (omega (arith, c.if-nkey-gt-KEYS.false)) (omega (arith, c.if-norder-gt-SLOTS.false)), sym c.ident_ok.ensures ∙ c.if-not-ident_ok.false, sym c.classes_ok.ensures ∙ c.if-not-classes_ok.true)

pub returns-then-not-keys_ok : goal.returns-then-not-keys_ok
unfolding table_ok rows_ok rows_in
returns-then-not-keys_ok c =
    rw (laws.counts c.args.set (omega (arith, c.if-nclass-gt-CLASSES.false)) (omega (arith, c.if-nkey-gt-KEYS.false)) (omega (arith, c.if-norder-gt-SLOTS.false)), sym c.ident_ok.ensures ∙ c.if-not-ident_ok.false, sym c.classes_ok.ensures ∙ c.if-not-classes_ok.false, sym c.keys_ok.ensures ∙ c.if-not-keys_ok.true)

pub returns-then-not-keys_apart : goal.returns-then-not-keys_apart
unfolding table_ok rows_ok rows_in
returns-then-not-keys_apart c =
    rw (
      laws.counts c.args.set (omega (arith, c.if-nclass-gt-CLASSES.false)) (omega (arith, c.if-nkey-gt-KEYS.false)) (omega (arith, c.if-norder-gt-SLOTS.false)),
      sym c.ident_ok.ensures ∙ c.if-not-ident_ok.false,
      sym c.classes_ok.ensures ∙ c.if-not-classes_ok.false,
      sym c.keys_ok.ensures ∙ c.if-not-keys_ok.false,
      sym c.keys_apart.ensures ∙ c.if-not-keys_apart.true,
    )

pub returns : goal.returns
unfolding table_ok rows_ok rows_in
returns c =
    let a = c.args.set in
    let lc : length a.classes ≡ max_classes = c.well_formed.1.1.0.1.1.1.1.1.1.1.0.1.0.1 in
    let lk : length a.keys ≡ max_keys = c.well_formed.1.1.0.1.1.1.1.1.1.1.1.0.1.0.1 in
    rw (
      laws.counts a (omega (arith, c.if-nclass-gt-CLASSES.false)) (omega (arith, c.if-nkey-gt-KEYS.false)) (omega (arith, c.if-norder-gt-SLOTS.false)),
      sym c.ident_ok.ensures ∙ c.if-not-ident_ok.false,
      sym c.classes_ok.ensures ∙ c.if-not-classes_ok.false,
      sym c.keys_ok.ensures ∙ c.if-not-keys_ok.false,
      sym c.keys_apart.ensures ∙ c.if-not-keys_apart.false,
    )
    (c.slots_ok.ensures ∙ sym (laws.slots_table a (omega (arith, lc, c.if-nclass-gt-CLASSES.false)) (omega (arith, lk, c.if-nkey-gt-KEYS.false))))
