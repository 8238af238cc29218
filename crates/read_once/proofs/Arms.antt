-- The arms of the loop: what each code of a move says, and how the walk goes on with what it puts.
-- Assumes nothing.
use mathlib.Core.Path.{◌≡◌, refl, sym, ◌∙◌, subst}
use mathlib.Core.Bool.{Bool, true, false}
use mathlib.Core.List.{List, [], ◌∷◌}
use Prim.Native.Nat.{ℕ, ◌≤◌}
use lib.ListN.{take}
use types.Run.{OneOf}
use denote.Enum.Declared
use Rattle.base_lists.proofs.More.{contra}
use Rattle.base_bytes.specs.declared.Mode.{Mode}
use Rattle.set_table.specs.declared.Attrs.{Attrs}
use Rattle.set_table.specs.declared.Name.{Name}
use Rattle.set_table.specs.declared.Value.{Value}
use Rattle.set_table.specs.Types.{one, max_classes, max_keys}
use Rattle.set_table.specs.Rows.{Put, key_at, with_put}
use Rattle.set_table.specs.Inner.{Holds}
use Rattle.set_fill.specs.Inner.{Rest}
use Rattle.read_tags.specs.Inner.{passes_with}
use Rattle.read_once.specs.declared.Kind as kinds
use Rattle.read_once.specs.declared.Code as codes
use Rattle.read_once.specs.declared.Code.TheVariants as code
use Rattle.read_once.specs.declared.Span.{Span}
use Rattle.read_once.specs.declared.Moved.{Moved}
use Rattle.read_once.specs.Inner.{value_in, rest_at, name_by, put_by, put_of, is_put, lang_by, span_bytes, span_allowed, Closing, Wrongs, Putting, MoveTells, Moves, Walks}
use Rattle.read_once.specs.contracts.Code
use Rattle.read_once.proofs.Codes.{by_code}
use Rattle.read_once.proofs.Loop as loop
use Rattle.read_once.proofs.Moves.{put_moves}
use Rattle.read_once.proofs.Tables as tables

-- ---- by the code
module _ {m : Mode} {t : List ℕ} {at next : ℕ} {rest : List ℕ → Rest} {r : Moved} (g : Moves m t at next rest r) where
  pub wrongs : r.code ≡ code.Wrong → Wrongs m t next rest r
  wrongs e = subst (λ x. MoveTells m t at next rest r x) e g.told

  pub closing : r.code ≡ code.Close → Closing m t next rest r
  closing e = subst (λ x. MoveTells m t at next rest r x) e g.told

  pub by_id : r.code ≡ code.Id → Putting m t at next rest r
  by_id e = put_moves (rw e) g

  pub by_class : r.code ≡ code.Class → Putting m t at next rest r
  by_class e = put_moves (rw e) g

-- a key, named or given by `:`
abbrev is_keyed : codes.Code → Bool
is_keyed code.Close = false
is_keyed code.Wrong = false
is_keyed code.Id = false
is_keyed code.Class = false
is_keyed code.Key = true
is_keyed code.Lang = true
is_keyed code.Tag = true

keyed : (x : codes.Code) → OneOf (4 ∷ 5 ∷ 6 ∷ []) (Declared.tag_of Code.the_type x) → is_keyed x ≡ true
keyed x h = sym (by_code (λ c. true) is_keyed (4 ∷ 5 ∷ 6 ∷ []) x h refl)

keyed_put : (x : codes.Code) → is_keyed x ≡ true → is_put x ≡ true
keyed_put code.Close e = contra false e refl
keyed_put code.Wrong e = contra false e refl
keyed_put code.Id e = contra false e refl
keyed_put code.Class e = contra false e refl
keyed_put code.Key e = refl
keyed_put code.Lang e = refl
keyed_put code.Tag e = refl

keyed_is : (x : codes.Code) (n : Name) (v : Value) → is_keyed x ≡ true → put_by x n v ≡ Put.key n v
keyed_is code.Close n v e = contra false e refl
keyed_is code.Wrong n v e = contra false e refl
keyed_is code.Id n v e = contra false e refl
keyed_is code.Class n v e = contra false e refl
keyed_is code.Key n v e = refl
keyed_is code.Lang n v e = refl
keyed_is code.Tag n v e = refl

pub by_key : {m : Mode} {t : List ℕ} {at next : ℕ} {rest : List ℕ → Rest} {r : Moved} → Moves m t at next rest r → OneOf (4 ∷ 5 ∷ 6 ∷ []) (Declared.tag_of Code.the_type r.code) → Putting m t at next rest r
by_key {r = r} g h = put_moves (keyed_put r.code (keyed r.code h)) g

-- ---- how the walk goes on
module _ {m : Mode} {t : List ℕ} {place : ℕ} {a : Attrs} {some many over : Bool} {last : Span} {k : kinds.Kind} {at to next : ℕ} (inv : Walks m t place a some many over last k at to next) {r : Moved} (g : Moves m t at next (λ s. rest_at m t s k at to next) r) where
  pub id_on : {v : Value} {b : Attrs} → r.code ≡ code.Id → v ≡ value_in r.kind r.from r.to → Holds b (with_put (one t) inv.fits.own (Put.ident v))
      → Walks m t place b true many over last r.kind r.at r.end r.next
  id_on {v} e q h = loop.on inv (by_id g e) (tables.fits-put inv.fits (one t) (Put.ident v) (rw (e, q)) h) (rw e)

  module _ (e : r.code ≡ code.Class) where
    pub class_on : {v : Value} {b : Attrs} → v ≡ value_in r.kind r.from r.to → Holds b (with_put (one t) inv.fits.own (Put.class v)) → Walks m t place b true many over last r.kind r.at r.end r.next
    class_on {v} q h = loop.on inv (by_class g e) (tables.fits-put inv.fits (one t) (Put.class v) (rw (e, q)) h) (rw e)

    pub class_many : max_classes ≤ a.nclass → Walks m t place a true true over last r.kind r.at r.end r.next
    class_many l = loop.on inv (by_class g e) (tables.fits_many inv.fits (one t) (value_in r.kind r.from r.to) (rw e) l) (rw e)

  module _ (h : OneOf (4 ∷ 5 ∷ 6 ∷ []) (Declared.tag_of Code.the_type r.code)) (now : Span) (l : (u : List ℕ) → span_allowed u now ≡ passes_with (span_allowed u last) (lang_by r.code (span_bytes u r.kind r.from r.to)))
      {n : Name} (p : n ≡ name_by r.code r.name r.key) {v : Value} (q : v ≡ value_in r.kind r.from r.to) where
    is : put_of r ≡ Put.key n v
    is = keyed_is r.code (name_by r.code r.name r.key) (value_in r.kind r.from r.to) (keyed r.code h) ∙ (rw (p, q))

    pub key_on : {b : Attrs} → Holds b (with_put (one t) inv.fits.own (Put.key n v)) → Walks m t place b true many over now r.kind r.at r.end r.next
    key_on f = loop.on inv (by_key g h) (tables.fits-put inv.fits (one t) (Put.key n v) is f) (l t)

    pub key_over : {i : ℕ} → i ≡ key_at (one t) n (take a.nkey a.keys) → a.nkey ≤ i → max_keys ≤ a.nkey → Walks m t place a true many true now r.kind r.at r.end r.next
    key_over f x y = loop.on inv (by_key g h) (tables.fits-over inv.fits (one t) n v is f x y) (l t)
