-- Good rows stay good as good things are put into them; the table of good rows within the limits is good; and so is one with nothing in it.
-- Assumes nothing.
use mathlib.Core.Path.{◌≡◌, refl}
use mathlib.Core.Bool.{Bool, true, false, cond}
use mathlib.Core.List.{List, [], ◌∷◌}
use Rattle.base_lists.specs.Lists.{all}
use Rattle.base_lists.proofs.Scan.{both, all_append}
use native.Mathlib.Omega.{arith}
use Rattle.set_table.specs.Types.{Texts}
use Rattle.set_table.specs.declared.Attrs.{Attrs}
use Rattle.set_table.specs.Rows.{Rows, Put, no_rows, is_named, put_row, with_put, with_puts, table_of, rows_in}
use Rattle.set_table.specs.Shape.{times, Shaped}
use Rattle.set_table.specs.declared.Name.{Name}
use Rattle.set_table.specs.declared.Row.{Row}
use Rattle.set_table.specs.declared.Value.{Value}
use Rattle.proved_sets.proofs.TableMeant.{shaped_put}
use Rattle.proved_sets.proofs.Slots.{slots_fit}
use Rattle.proved_sets.proofs.WellFormedShape.{passed_rows, keyed_ok, rows_shaped, shaped_apart, shaped_slots}
use Rattle.set_table.proofs.Whole.{rows_table}
use Rattle.set_table.proofs.Puts.{is_allowed}
use Rattle.set_values.specs.Values.{class_ok, key_ok}
use Rattle.set_wellformed.specs.WellFormed.{keys_apart, keys_once, slots_ok, rows_ok, table_ok}
use Rattle.set_wellformed.proofs.Decide.{counts}
use Rattle.proved_sets.specs.Formed.{PutsKeep, TableKeeps, HasNothing, EmptyFormed}
use Rattle.set_wellformed.proofs.Shape.{Passed, rows_passed, Keyed, keyed}
unfoldable pub use Rattle.proved_sets.specs.Formed.{put_ok}

module _ (t : Texts) where
  keys_put : (n : Name) (v : Value) → key_ok t (record { name = n; value = v }) ≡ true → (rs : List Row) → all (key_ok t) rs ≡ true → all (key_ok t) (put_row t n v rs) ≡ true
  unfolding all put_row
  keys_put n v p [] h = rw p
  keys_put n v p (r ∷ rs) h = let z = both (key_ok t r) (all (key_ok t) rs) h in go (is_named t n r) (keyed z.0) z.0 z.1 (keys_put n v p rs z.1)
    where
      go : (b : Bool) → Keyed t r → key_ok t r ≡ true → all (key_ok t) rs ≡ true → all (key_ok t) (put_row t n v rs) ≡ true
          → all (key_ok t) (cond b (record { name = r.name; value = v } ∷ rs) (r ∷ put_row t n v rs)) ≡ true
      go true k a rest ih = rw (keyed_ok {r = record { name = r.name; value = v }} (record { range = k.range; key = k.key; free = k.free; value = (keyed p).value })) rest
      go false k a rest ih = rw a ih

  -- a good put may be made
  pub allowed : (p : Put) → put_ok t p ≡ true → is_allowed t p ≡ true
  unfolding put_ok is_allowed
  allowed (Put.ident v) h = refl
  allowed (Put.class v) h = refl
  allowed (Put.key n v) h = (keyed h).free

  -- the rows of a put are shaped, so each has only to be looked at alone
  pub rows_put : (s : Rows) (p : Put) → rows_ok t s ≡ true → put_ok t p ≡ true → rows_ok t (with_put t s p) ≡ true
  unfolding put_ok with_put all
  rows_put s p h k = passed_rows (go p (rows_passed t s h) k (shaped_put (rows_shaped h) p (allowed p k)))
    where
      go : (p : Put) → Passed t s → put_ok t p ≡ true → Shaped t (with_put t s p) → Passed t (with_put t s p)
      go (Put.ident v) r k g = record { ident = k; classes = r.classes; keys = r.keys; apart = r.apart; slots = shaped_slots g }
      go (Put.class v) r k g = record { ident = r.ident; classes = all_append (class_ok t) s.classes (v ∷ []) r.classes (rw k); keys = r.keys; apart = r.apart; slots = shaped_slots g }
      go (Put.key n v) r k g = record { ident = r.ident; classes = r.classes; keys = keys_put n v k s.keys r.keys; apart = shaped_apart g; slots = shaped_slots g }

  -- the set with nothing in it
  pub rows_none : rows_ok t no_rows ≡ true
  unfolding rows_ok all keys_apart slots_ok keys_once times
  rows_none = refl

  pub rows_puts : PutsKeep t
  unfolding with_puts all
  rows_puts s [] h k = h
  rows_puts s (p ∷ ps) h k = let z = both (put_ok t p) (all (put_ok t) ps) k in rows_puts (with_put t s p) ps (rows_put s p h z.0) z.1

  -- ---- the table
  pub table_ok_lem : TableKeeps t
  unfolding table_ok table_of
  table_ok_lem s h c k = rw (counts (table_of s) c k (slots_fit (rows_shaped h) k), rows_table s) h

-- ---- the set with nothing in it, whatever lies past its counts
pub nothing_rows : {e : Attrs} → HasNothing e → rows_in e ≡ no_rows
unfolding rows_in
nothing_rows h = rw (h.id, h.classes, h.keys, h.slots)

pub empty_formed : EmptyFormed
unfolding table_ok
empty_formed t e h = rw (counts e (omega (arith, h.classes)) (omega (arith, h.keys)) (omega (arith, h.slots)), nothing_rows h) (rows_none t)
