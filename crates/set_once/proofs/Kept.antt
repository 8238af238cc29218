-- Each class kept at its first place alone: the loops that compare them, and what the set with these classes lists.
-- Assumes nothing.
use mathlib.Core.Path.{◌≡◌, refl, sym, ◌∙◌, ap}
use mathlib.Core.Bool.{Bool, true, false, cond}
use mathlib.Core.List.{List, [], ◌∷◌, ◌++◌, map, map-append, append-nil}
use Prim.Native.Nat.{ℕ, suc, ◌+◌, ◌≤◌, ◌<◌, min, zero-le}
use native.Mathlib.Numerals.{add-one}
use native.Mathlib.Omega.{arith}
use borrow.Author.Tests.{leb-true, leb-false}
use Rattle.std.specs.List.{list_any}
use Rattle.std.proofs.lemmas.List.{take_min}
use lib.Dec.{leb}
use lib.ListN.{length, get_or, set, take, drop, length-set, length-take, length-map, drop_of_length-le}
use lib.Seq.{drop-cons, get_or-take, take-suc, take-suc-set, take_all}
use Rattle.base_lists.specs.Lists.{same}
use Rattle.block_grammar.specs.Meaning.{Entry, is_class, is_among, unless_there, fresh_after, once_in, classes_once}
use Rattle.block_grammar.proofs.Fresh.{fresh-append, kept_alike}
use Rattle.set_table.specs.Types.{Texts, value_bytes, max_classes, zero_value}
use Rattle.set_table.specs.Rows.{Rows, Ident, id_values, slot_entry, meant, rows_in, listed_of}
use Rattle.set_table.specs.declared.Value.{Value}
use Rattle.set_table.specs.declared.Attrs.{Attrs}
use Rattle.set_table.specs.declared.Slot.{Slot}
use Rattle.set_table.specs.declared.Slot.TheVariants.{Id, Class, Key}

-- ---- the answer of an iterator's `any`
pub any_among : {A : Type 0} (v : List ℕ) (g : A → List ℕ) (xs : List A) (r : Bool) → r ≡ list_any (λ x. same v (g x)) xs → r ≡ is_among v (map g xs)
unfolding is_among
any_among {A} v g xs r e = e ∙ go xs
  where
    go : (ys : List A) → list_any (λ x. same v (g x)) ys ≡ is_among v (map g ys)
    go [] = refl
    go (y ∷ ys) = rw (go ys)

-- ---- one more behind a list whose members are kept each once
more_kept : (xs : List (List ℕ)) (v : List ℕ) → fresh_after [] (xs ++ (v ∷ [])) ≡ fresh_after [] xs ++ unless_there (is_among v (fresh_after [] xs)) v []
unfolding fresh_after
more_kept xs v = fresh-append [] xs (v ∷ []) ∙ (rw ((kept_alike xs).each v))

-- i of the rows were compared, n of them are new and stand at the front
pub record Keeps (t : Texts) (rows kept : List Value) (n i : ℕ) : Type 0 where
  pub room : length rows ≤ max_classes
  pub size : length kept ≡ max_classes
  pub few : n ≤ i
  pub news : map (value_bytes t) (take n kept) ≡ fresh_after [] (map (value_bytes t) (take i rows))

pub keeps-start : (t : Texts) (rows kept : List Value) → length rows ≤ max_classes → length kept ≡ max_classes → Keeps t rows kept 0 0
unfolding fresh_after
keeps-start t rows kept r l = record { room = r; size = l; few = zero-le; news = refl }

module _ {t : Texts} {rows kept : List Value} {n i : ℕ} (inv : Keeps t rows kept n i) where
  module _ (h : i < length rows) where
    next : fresh_after [] (map (value_bytes t) (take (i + 1) rows))
        ≡ map (value_bytes t) (take n kept) ++ unless_there (is_among (value_bytes t (get_or rows i zero_value)) (map (value_bytes t) (take n kept))) (value_bytes t (get_or rows i zero_value)) []
    next =
        rw (add-one, take-suc rows i zero_value h, map-append (value_bytes t) (take i rows) (get_or rows i zero_value ∷ []), inv.news)
        (more_kept (map (value_bytes t) (take i rows)) (value_bytes t (get_or rows i zero_value)))

    pub keeps_same : true ≡ is_among (value_bytes t (get_or rows i zero_value)) (map (value_bytes t) (take n kept)) → Keeps t rows kept n (i + 1)
    keeps_same e =
        record {
          room = inv.room;
          size = inv.size;
          few = omega (arith, inv.few);
          news = sym (append-nil (map (value_bytes t) (take n kept))) ∙ sym (rw (sym e) at next);
        }

    pub keeps_new : false ≡ is_among (value_bytes t (get_or rows i zero_value)) (map (value_bytes t) (take n kept)) → Keeps t rows (set kept n (get_or rows i zero_value)) (n + 1) (i + 1)
    keeps_new e =
        record {
          room = inv.room;
          size = length-set kept n (get_or rows i zero_value) ∙ inv.size;
          few = omega (arith, inv.few);
          news = rw (add-one n, take-suc-set kept n (get_or rows i zero_value) (omega (arith, inv.size, inv.few, inv.room)), map-append (value_bytes t) (take n kept) (get_or rows i zero_value ∷ [])) (sym (rw (sym e) at next));
        }

-- the rows are the classes that count
pub keeps_end : (t : Texts) (classes : List Value) (many m : ℕ) {kept : List Value} {n i : ℕ} → many ≡ min m max_classes → length classes ≡ max_classes → Keeps t (take many classes) kept n i → length (take many classes) ≤ i
    → map (value_bytes t) (take n kept) ≡ fresh_after [] (map (value_bytes t) (take m classes))
keeps_end t classes many m {i = i} e l inv h =
    let q : many ≡ min m (length classes) = rw l e in
    rw (inv.news, take_all i (take many classes) h, q, take_min m classes)

-- ---- a set with these classes lists what the set means

-- one value or none is there once
pub few_once : (vs : List (List ℕ)) → length vs ≤ 1 → fresh_after [] vs ≡ vs
unfolding fresh_after is_among
few_once [] h = refl
few_once (v ∷ []) h = refl
few_once (v ∷ w ∷ vs) h = absurd (omega arith)

entry_once : (e : Entry) → length e.values ≤ 1 → once_in e ≡ e
unfolding once_in
entry_once e h = rw (few_once e.values h) (go (is_class e.name))
  where
    go : (x : Bool) → record { name = e.name; values = cond x e.values e.values } ≡ e
    go true = refl
    go false = refl

-- the rows with other classes
abbrev with_classes : Rows → List Value → Rows
with_classes s cs = record { ident = s.ident; classes = cs; keys = s.keys; order = s.order }

module _ (t : Texts) (s : Rows) (cs : List Value) (e : map (value_bytes t) cs ≡ fresh_after [] (map (value_bytes t) s.classes)) where
  slot_once : (x : Slot) → slot_entry t (with_classes s cs) x ≡ once_in (slot_entry t s x)
  unfolding slot_entry once_in is_class same
  slot_once Id = sym (entry_once (slot_entry t s Id) (go s.ident))
    where
      go : (i : Ident) → length (id_values t i) ≤ 1
      go Ident.missing = zero-le
      go (Ident.given v) = omega arith
  slot_once Class = rw e
  slot_once (Key k) = sym (entry_once (slot_entry t s (Key k)) (omega arith))

  rows_once : meant t (with_classes s cs) ≡ classes_once (meant t s)
  unfolding meant classes_once
  rows_once = go s.order
    where
      go : (o : List Slot) → map (slot_entry t (with_classes s cs)) o ≡ map once_in (map (slot_entry t s) o)
      go [] = refl
      go (x ∷ o) = rw (slot_once x, go o)

module _ (t : Texts) (a : Attrs) where
  pub lists_once : (n : ℕ) (cs : List Value) → map (value_bytes t) (take n cs) ≡ fresh_after [] (map (value_bytes t) (take a.nclass a.classes))
      → listed_of t (record { id = a.id; given = a.given; nclass = n; nkey = a.nkey; norder = a.norder; classes = cs; keys = a.keys; order = a.order }) ≡ classes_once (listed_of t a)
  unfolding listed_of rows_in
  lists_once n cs e = rows_once t (rows_in a) (take n cs) e
