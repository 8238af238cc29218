-- The table as the walk goes: it has every row that was put, until a limit is passed; then only that is noted.
-- Assumes nothing.
use Rattle.std.specs.Prelude.{Ok}
use mathlib.Core.Path.{◌≡◌, refl, sym, ap}
use mathlib.Core.Bool.{Bool, true, false, cond}
use Prim.Native.Nat.{ℕ, ◌<◌, ◌≤◌}
use native.Mathlib.Omega.{arith}
use lib.ListN.{length, take}
use borrow.Author.Tests.{le-ltb, lt-ltb}
use Rattle.base_lists.proofs.More.{contra}
use Rattle.base_refusals.specs.Orders.{in_order}
use Rattle.base_refusals.specs.declared.Refusal.TheVariants.{TooManyClasses, TooManyKeys}
use Rattle.set_table.specs.declared.Attrs.{Attrs}
use Rattle.set_table.specs.declared.Name.{Name}
use Rattle.set_table.specs.declared.Value.{Value}
use Rattle.set_table.specs.Types.{Texts, empty_set, max_classes, max_keys}
use Rattle.set_table.specs.Rows.{Rows, Put, no_rows, key_at, with_put}
use Rattle.set_table.specs.Filled.{refusing, limited}
use Rattle.set_table.specs.Inner.{Holds}
use Rattle.set_table.proofs.Holding.{holds_none, class_count, key_more}
use Rattle.set_table.proofs.Puts.{put_grows}
use Rattle.read_once.specs.Inner.{Fits}

pub fits_none : {a : Attrs} → a ≡ empty_set → Fits no_rows a false false
fits_none e =
    record {
      own = no_rows;
      holds = rw e holds_none;
      classes = λ m. refl;
      keys = λ o. refl;
      all = λ m o. refl;
      many_over = λ m. contra false m refl;
      over_over = λ o. contra false o refl;
    }

-- ---- rows with the same classes, or the same keys, have the same ones behind a put
module _ (t : Texts) (r s : Rows) where
  same_classes : (p : Put) → r.classes ≡ s.classes → (with_put t r p).classes ≡ (with_put t s p).classes
  unfolding with_put
  same_classes (Put.ident v) e = e
  same_classes (Put.class v) e = rw e
  same_classes (Put.key n v) e = e

  same_keys : (p : Put) → r.keys ≡ s.keys → (with_put t r p).keys ≡ (with_put t s p).keys
  unfolding with_put
  same_keys (Put.ident v) e = e
  same_keys (Put.class v) e = e
  same_keys (Put.key n v) e = rw e

module _ {rows : Rows} {a : Attrs} {many over : Bool} (f : Fits rows a many over) (t : Texts) where
  -- a put that the table has room for
  pub fits-put : {p : Put} (q : Put) {b : Attrs} → p ≡ q → Holds b (with_put t f.own q) → Fits (with_put t rows p) b many over
  fits-put q e h =
      rw e
      (record {
        own = with_put t f.own q;
        holds = h;
        classes = λ m. same_classes t f.own rows q (f.classes m);
        keys = λ o. same_keys t f.own rows q (f.keys o);
        all = λ m o. ap (λ r. with_put t r q) (f.all m o);
        many_over = λ m. omega (arith, f.many_over m, put_grows t rows q);
        over_over = λ o. omega (arith, f.over_over o, put_grows t rows q);
      })

  -- a class that it has no room for
  pub fits_many : {p : Put} (v : Value) → p ≡ Put.class v → max_classes ≤ a.nclass → Fits (with_put t rows p) a true over
  unfolding with_put
  fits_many v q l =
      rw q
      (record {
        own = f.own;
        holds = f.holds;
        classes = λ m. contra true refl m;
        keys = λ o. f.keys o;
        all = λ m o. contra true refl m;
        many_over = λ m. passed many refl;
        over_over = λ o. f.over_over o;
      })
    where
      passed : (x : Bool) → many ≡ x → max_classes < length (with_put t rows (Put.class v)).classes
      passed true e = omega (arith, f.many_over e, put_grows t rows (Put.class v))
      passed false e = rw (same_classes t rows f.own (Put.class v) (sym (f.classes e))) (omega (arith, class_count f.holds t v))

  -- a key that it has no room for
  pub fits-over : {p : Put} (n : Name) (v : Value) {k : ℕ} → p ≡ Put.key n v → k ≡ key_at t n (take a.nkey a.keys) → a.nkey ≤ k → max_keys ≤ a.nkey → Fits (with_put t rows p) a many true
  unfolding with_put
  fits-over n v q g h l =
      rw q
      (record {
        own = f.own;
        holds = f.holds;
        classes = λ m. f.classes m;
        keys = λ o. contra true refl o;
        all = λ m o. contra true refl o;
        many_over = λ m. f.many_over m;
        over_over = λ o. passed over refl;
      })
    where
      passed : (x : Bool) → over ≡ x → max_keys < length (with_put t rows (Put.key n v)).keys
      passed true e = omega (arith, f.over_over e, put_grows t rows (Put.key n v))
      passed false e = rw (same_keys t rows f.own (Put.key n v) (sym (f.keys e))) (omega (arith, key_more f.holds t v n g h))

-- ---- at the close: which limit was passed, or the table itself
pub fits-limited : {rows : Rows} {a : Attrs} {many over : Bool} → Fits rows a many over → limited rows ≡ cond many (refusing TooManyClasses) (cond over (refusing TooManyKeys) (record { outcome = Ok tt; set = a }))
unfolding limited in_order
fits-limited {rows} {a} {many} {over} f = go many over refl refl
  where
    few_classes : many ≡ false → length rows.classes ≤ max_classes
    few_classes m = rw (f.classes m) at f.holds.classes

    few_keys : over ≡ false → length rows.keys ≤ max_keys
    few_keys o = rw (f.keys o) at f.holds.keys

    go : (x y : Bool) → many ≡ x → over ≡ y → limited rows ≡ cond x (refusing TooManyClasses) (cond y (refusing TooManyKeys) (record { outcome = Ok tt; set = a }))
    go true y m o = rw (lt-ltb max_classes (length rows.classes) (f.many_over m))
    go false true m o = rw (le-ltb max_classes (length rows.classes) (few_classes m), lt-ltb max_keys (length rows.keys) (f.over_over o))
    go false false m o =
        rw (le-ltb max_classes (length rows.classes) (few_classes m), le-ltb max_keys (length rows.keys) (few_keys o), f.holds.is, f.all m o)
