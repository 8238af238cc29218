-- Sets whose rows are alike: they mean the same, are well-formed alike, and merge alike.
-- Assumes nothing.
use Rattle.std.specs.Prelude.{Err, Ok, Result}
use mathlib.Core.Path.{◌≡◌, refl}
use mathlib.Core.Bool.{Bool, true, false, cond, ◌&&◌}
use lib.Dec.{ltb}
use lib.ListN.{length}
use Rattle.base_refusals.specs.Orders.{in_order}
use Rattle.base_refusals.specs.declared.Refusal.{Refusal}
use Rattle.base_refusals.specs.declared.Refusal.TheVariants.{TooManyClasses, TooManyKeys, NotWellFormed}
use Rattle.set_table.specs.Types.{Texts, max_classes, max_keys}
use Rattle.set_table.specs.Rows.{Rows, with_puts, table_of, rows_in, meaning_of}
use Rattle.set_table.specs.Filled.{refusing, limited}
use Rattle.set_table.specs.declared.Value.{Value}
use Rattle.set_table.specs.declared.Name.{Name}
use Rattle.set_table.specs.declared.Attrs.{Attrs}
use Rattle.set_table.specs.declared.Filled.{Filled}
use Rattle.set_wellformed.specs.WellFormed.{counts_ok, table_ok}
use Rattle.set_wellformed.proofs.Shape.{Passed, table_passed, slots_named}
use Rattle.set_merge.specs.Merge.{puts_by, merged_by}
use Rattle.proved_origins.proofs.Meaning.{bytes_mean}
use Rattle.proved_origins.proofs.Pairs.{pairs-length}
use Rattle.proved_origins.proofs.Alike.{RowsLike, Keeps, same_bytes, rows_ok_lem, with_puts_lem, puts_by_lem}

pub record SetsLike (P : Value → Value → Type 0) (Q : Name → Name → Type 0) (a a' : Attrs) : Type 0 where
  pub counts : counts_ok a' ≡ counts_ok a
  pub rows : RowsLike P Q (rows_in a) (rows_in a')

-- the rows that a merge of b into a makes
abbrev pub merged_rows : Texts → Attrs → Attrs → Rows
merged_rows t a b = with_puts t (rows_in a) (puts_by (rows_in b))

-- G holds of two answers of a merge, if it does of the same refusal twice and of the tables of alike rows
pub record Follows (P : Value → Value → Type 0) (Q : Name → Name → Type 0) (G : Filled → Filled → Type 0) : Type 0 where
  pub refused : (r : Refusal) → G (refusing r) (refusing r)
  pub done : (s s' : Rows) → RowsLike P Q s s' → G (record { outcome = Ok tt; set = table_of s }) (record { outcome = Ok tt; set = table_of s' })

-- what comes of rows with too many classes, of rows with too many keys
abbrev by : Bool → Bool → Rows → Filled
by a b r = cond a (refusing TooManyClasses) (cond b (refusing TooManyKeys) (record { outcome = Ok tt; set = table_of r }))

module _ {P : Value → Value → Type 0} {Q : Name → Name → Type 0} {G : Filled → Filled → Type 0} (f : Follows P Q G) where
  pub limited_alike : {s s' : Rows} → RowsLike P Q s s' → G (limited s) (limited s')
  unfolding limited in_order
  limited_alike {s} {s'} h = rw (pairs-length h.classes, pairs-length h.keys) (go (ltb max_classes (length s.classes)) (ltb max_keys (length s.keys)))
    where
      go : (a b : Bool) → G (by a b s) (by a b s')
      go true b = f.refused TooManyClasses
      go false true = f.refused TooManyKeys
      go false false = f.done s s' h

module _ {P : Value → Value → Type 0} {Q : Name → Name → Type 0} {t t' : Texts} (k : Keeps P Q t t') where
  pub same_table : {a a' : Attrs} → SetsLike P Q a a' → table_ok t' a' ≡ table_ok t a
  unfolding table_ok
  same_table h = rw (h.counts, rows_ok_lem k h.rows)

  pub same-meaning : {a a' : Attrs} → SetsLike P Q a a' → meaning_of t' a' ≡ meaning_of t a
  same-meaning {a} {a'} h = bytes_mean t t' a a' (same_bytes k h.rows)

  module _ {a a' b b' : Attrs} (h : SetsLike P Q a a') (g : SetsLike P Q b b') where
    pub same_rows : table_ok t b ≡ true → RowsLike P Q (merged_rows t a b) (merged_rows t' a' b')
    same_rows e = with_puts_lem k h.rows (puts_by_lem k g.rows (slots_named (rows_in b) (table_passed t b e).slots))

    pub same_merge : {G : Filled → Filled → Type 0} → Follows P Q G → (o : Result (Unit {0}) Refusal) → G (merged_by o t a b) (merged_by o t' a' b')
    same_merge f (Err r) = f.refused r
    same_merge {G} f (Ok _) = rw (same_table h, same_table g) (go (table_ok t a) (table_ok t b) refl)
      where
        go : (x y : Bool) → table_ok t b ≡ y → G (cond (x && y) (limited (merged_rows t a b)) (refusing NotWellFormed)) (cond (x && y) (limited (merged_rows t' a' b')) (refusing NotWellFormed))
        go true true e = limited_alike f (same_rows e)
        go true false e = f.refused NotWellFormed
        go false y e = f.refused NotWellFormed
