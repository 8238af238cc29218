-- Two sets, each over its own texts, whose values and names are alike one by one: what is asked of the one and put into it is alike for the other.
-- Assumes nothing.
use mathlib.Core.Path.{◌≡◌, refl, sym, ◌∙◌, ap}
use mathlib.Core.Bool.{Bool, true, false, cond}
use mathlib.Core.List.{List, ◌∷◌, map, flat_map}
use lib.ListN.{length}
use borrow.Author.Tests.{ltb-true}
use Rattle.base_lists.specs.Lists.{all}
use Rattle.set_table.specs.Types.{Texts, name_bytes, value_bytes, zero_row}
use Rattle.set_table.specs.Rows.{Ident, Rows, Put, is_there, id_values, is_named, has_key, put_row, with_put, with_puts}
use Rattle.set_table.specs.Shape.{is_present}
use Rattle.set_table.specs.declared.Value.{Value}
use Rattle.set_table.specs.declared.Name.{Name}
use Rattle.set_table.specs.declared.Row.{Row}
use Rattle.set_table.specs.declared.Slot.{Slot}
use Rattle.set_table.specs.declared.Slot.TheVariants.{Id, Class, Key}
use Rattle.set_values.specs.Values.{text_ok, name_ok, value_ok, ident_ok, class_ok, key_ok}
use Rattle.set_wellformed.specs.WellFormed.{keys_apart, slots_ok, rows_ok}
use Rattle.set_wellformed.proofs.Decide.{slots_in_lem}
use Rattle.set_merge.specs.Merge.{puts_of_id, puts_at, puts_by}
use Rattle.proved_origins.specs.Meaning.{row_name, row_value}
use Rattle.proved_origins.proofs.Meaning.{SameBytes}
use Rattle.proved_origins.proofs.Pairs.{Pairs, pairs-append, pairs-length, pairs_some, pairs-map, pairs-all, pairs_at, pairs_flat}

-- ---- rows and puts, alike as their values (P) and names (Q) are
module _ (P : Value → Value → Type 0) (Q : Name → Name → Type 0) where
  pub data IdentLike : Ident → Ident → Type 0 where
    missing : IdentLike Ident.missing Ident.missing
    given : {v w : Value} → P v w → IdentLike (Ident.given v) (Ident.given w)

  pub record RowLike (r r' : Row) : Type 0 where
    pub name : Q r.name r'.name
    pub value : P r.value r'.value

  pub record RowsLike (s s' : Rows) : Type 0 where
    pub ident : IdentLike s.ident s'.ident
    pub classes : Pairs P s.classes s'.classes
    pub keys : Pairs RowLike s.keys s'.keys
    pub order : s'.order ≡ s.order

  pub data PutLike : Put → Put → Type 0 where
    ident : {v w : Value} → P v w → PutLike (Put.ident v) (Put.ident w)
    class : {v w : Value} → P v w → PutLike (Put.class v) (Put.class w)
    key : {n m : Name} {v w : Value} → Q n m → P v w → PutLike (Put.key n v) (Put.key m w)

  -- what is alike has the same bytes, and is well-formed or not alike
  pub record Keeps (t t' : Texts) : Type 0 where
    pub bytes : (v w : Value) → P v w → value_bytes t' w ≡ value_bytes t v
    pub ok : (v w : Value) → P v w → text_ok t' w.text ≡ text_ok t v.text
    pub name : (n m : Name) → Q n m → name_bytes t' m ≡ name_bytes t n
    pub named : (n m : Name) → Q n m → name_ok t' m ≡ name_ok t n

pub is_there_lem : {P : Value → Value → Type 0} {Q : Name → Name → Type 0} {i j : Ident} → IdentLike P Q i j → is_there j ≡ is_there i
is_there_lem IdentLike.missing = refl
is_there_lem (IdentLike.given p) = refl

module _ {P : Value → Value → Type 0} {Q : Name → Name → Type 0} {t t' : Texts} (k : Keeps P Q t t') where
  -- ---- the same bytes
  ident_bytes : {i j : Ident} → IdentLike P Q i j → id_values t' j ≡ id_values t i
  ident_bytes IdentLike.missing = refl
  ident_bytes (IdentLike.given {v} {w} p) = rw (k.bytes v w p)

  pub same_bytes : {s s' : Rows} → RowsLike P Q s s' → SameBytes t t' s s'
  same_bytes h =
      record {
        ident = ident_bytes h.ident;
        classes = pairs-map (value_bytes t) (value_bytes t') k.bytes h.classes;
        names = pairs-map (row_name t) (row_name t') (λ r r' l. k.name r.name r'.name l.name) h.keys;
        values = pairs-map (row_value t) (row_value t') (λ r r' l. k.bytes r.value r'.value l.value) h.keys;
        order = h.order;
      }

  -- ---- the same tests
  value_ok_lem : (v w : Value) → P v w → value_ok t' w ≡ value_ok t v
  unfolding value_ok
  value_ok_lem v w p = rw (k.ok v w p, k.bytes v w p)

  ident_ok_lem : {i j : Ident} → IdentLike P Q i j → ident_ok t' j ≡ ident_ok t i
  ident_ok_lem IdentLike.missing = refl
  ident_ok_lem (IdentLike.given {v} {w} p) = value_ok_lem v w p

  class_ok_lem : (v w : Value) → P v w → class_ok t' w ≡ class_ok t v
  unfolding class_ok
  class_ok_lem v w p = rw (value_ok_lem v w p, k.bytes v w p)

  key_ok_lem : (r r' : Row) → RowLike P Q r r' → key_ok t' r' ≡ key_ok t r
  unfolding key_ok
  key_ok_lem r r' l = rw (k.named r.name r'.name l.name, k.name r.name r'.name l.name, value_ok_lem r.value r'.value l.value)

  is_named_lem : {n m : Name} → Q n m → (r r' : Row) → RowLike P Q r r' → is_named t' m r' ≡ is_named t n r
  is_named_lem {n} {m} q r r' l = rw (k.name n m q, k.name r.name r'.name l.name)

  has_key_lem : {n m : Name} → Q n m → {rs rs' : List Row} → Pairs (RowLike P Q) rs rs' → has_key t' m rs' ≡ has_key t n rs
  unfolding has_key
  has_key_lem q Pairs.none = refl
  has_key_lem q (Pairs.more {x = r} {y = r'} l p) = rw (is_named_lem q r r' l, has_key_lem q p)

  keys_apart_lem : {rs rs' : List Row} → Pairs (RowLike P Q) rs rs' → keys_apart t' rs' ≡ keys_apart t rs
  unfolding keys_apart
  keys_apart_lem Pairs.none = refl
  keys_apart_lem (Pairs.more l p) = rw (has_key_lem l.name p, keys_apart_lem p)

  slots_ok_lem : {s s' : Rows} → RowsLike P Q s s' → slots_ok s' ≡ slots_ok s
  slots_ok_lem {s} {s'} h = slots_in_lem s' ∙ (rw (h.order, is_there_lem h.ident, pairs_some h.classes, pairs-length h.keys) (sym (slots_in_lem s)))

  pub rows_ok_lem : {s s' : Rows} → RowsLike P Q s s' → rows_ok t' s' ≡ rows_ok t s
  unfolding rows_ok
  rows_ok_lem h =
      rw (ident_ok_lem h.ident, pairs-all (class_ok t) (class_ok t') class_ok_lem h.classes, pairs-all (key_ok t) (key_ok t') key_ok_lem h.keys, keys_apart_lem h.keys, slots_ok_lem h)

  -- ---- the same put into both
  put_row_lem : {n m : Name} {v w : Value} → Q n m → P v w → {rs rs' : List Row} → Pairs (RowLike P Q) rs rs' → Pairs (RowLike P Q) (put_row t n v rs) (put_row t' m w rs')
  unfolding put_row
  put_row_lem q p Pairs.none = Pairs.more (record { name = q; value = p }) Pairs.none
  put_row_lem {n} {m} {v} {w} q p (Pairs.more {x = r} {y = r'} {xs = rs} {ys = rs'} l e) = rw (is_named_lem q r r' l) (go (is_named t n r) (put_row_lem q p e))
    where
      go : (b : Bool) → Pairs (RowLike P Q) (put_row t n v rs) (put_row t' m w rs')
          → Pairs (RowLike P Q) (cond b (record { name = r.name; value = v } ∷ rs) (r ∷ put_row t n v rs)) (cond b (record { name = r'.name; value = w } ∷ rs') (r' ∷ put_row t' m w rs'))
      go true ih = Pairs.more (record { name = l.name; value = p }) e
      go false ih = Pairs.more l ih

  with_put_lem : {s s' : Rows} {x y : Put} → RowsLike P Q s s' → PutLike P Q x y → RowsLike P Q (with_put t s x) (with_put t' s' y)
  unfolding with_put
  with_put_lem h (PutLike.ident p) = record { ident = IdentLike.given p; classes = h.classes; keys = h.keys; order = rw (is_there_lem h.ident, h.order) }
  with_put_lem h (PutLike.class p) = record { ident = h.ident; classes = pairs-append h.classes (Pairs.more p Pairs.none); keys = h.keys; order = rw (pairs_some h.classes, h.order) }
  with_put_lem h (PutLike.key q p) =
      record { ident = h.ident; classes = h.classes; keys = put_row_lem q p h.keys; order = rw (has_key_lem q h.keys, h.order, pairs-length h.keys) }

  pub with_puts_lem : {s s' : Rows} {ps ps' : List Put} → RowsLike P Q s s' → Pairs (PutLike P Q) ps ps' → RowsLike P Q (with_puts t s ps) (with_puts t' s' ps')
  unfolding with_puts
  with_puts_lem h Pairs.none = h
  with_puts_lem {s = s} {s' = s'} h (Pairs.more {x = x'} {y = y'} x e) = with_puts_lem {s = with_put t s x'} {s' = with_put t' s' y'} (with_put_lem h x) e

  -- what alike rows put is alike, if their slots name what is there
  module _ {s s' : Rows} (h : RowsLike P Q s s') where
    puts_id : {i j : Ident} → IdentLike P Q i j → Pairs (PutLike P Q) (puts_of_id i) (puts_of_id j)
    puts_id IdentLike.missing = Pairs.none
    puts_id (IdentLike.given p) = Pairs.more (PutLike.ident p) Pairs.none

    puts_classes : {vs ws : List Value} → Pairs P vs ws → Pairs (PutLike P Q) (map Put.class vs) (map Put.class ws)
    puts_classes Pairs.none = Pairs.none
    puts_classes (Pairs.more p e) = Pairs.more (PutLike.class p) (puts_classes e)

    puts_at_lem : (x : Slot) → is_present s x ≡ true → Pairs (PutLike P Q) (puts_at s x) (puts_at s' x)
    unfolding puts_at
    puts_at_lem Id e = puts_id h.ident
    puts_at_lem Class e = puts_classes h.classes
    puts_at_lem (Key n) e = let l = pairs_at zero_row h.keys n (ltb-true n (length s.keys) e) in Pairs.more (PutLike.key l.name l.value) Pairs.none

    pub puts_by_lem : all (is_present s) s.order ≡ true → Pairs (PutLike P Q) (puts_by s) (puts_by s')
    puts_by_lem e = rw (ap (flat_map (puts_at s')) h.order) (pairs_flat (puts_at s) (puts_at s') (is_present s) puts_at_lem s.order e)
