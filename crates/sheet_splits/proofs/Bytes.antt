-- What is put into a set, and what the set then is, goes by the bytes that its names and values stand for: two sets into which the same bytes are put,
-- each over texts of its own, are refused alike and mean the same.
-- Assumes nothing.
use Rattle.std.specs.Prelude.{Err, Ok}
use mathlib.Core.Path.{◌≡◌, refl, sym, ◌∙◌, ap}
use mathlib.Core.Bool.{Bool, true, false, cond, ◌||◌}
use mathlib.Core.List.{List, [], ◌∷◌, ◌++◌, map, foldl, map-append}
use Prim.Native.Nat.{ℕ, zero, suc}
use lib.Dec.{ltb}
use lib.ListN.{length, get_or, take, drop, length-map}
use Rattle.base_lists.specs.Lists.{is_some, same}
use Rattle.base_lists.proofs.Each.{get_map}
use Rattle.base_refusals.specs.declared.Refusal.{Refusal}
use Rattle.base_refusals.specs.declared.Refusal.TheVariants.{TooManyClasses, TooManyKeys}
use Rattle.text_escapes.specs.Unescape.{unescape}
use Rattle.block_grammar.specs.Meaning.{Entry, id_name, class_name, classes_once}
use Rattle.set_exchange.specs.Exchange.{other_origin, changed_over, other_text, other_value, other_name, other_row, firsts_by, exchanged}
use Rattle.set_table.specs.Types.{Texts, range_bytes, name_bytes, text_bytes, value_bytes, zero_row, empty_set, max_classes, max_keys}
use Rattle.set_table.specs.Rows.{Ident, Rows, Put, no_rows, is_there, slot_unless, is_named, has_key, put_row, with_put, with_puts, id_values, slot_entry, meant, table_of, rows_in, listed_of, meaning_of}
use Rattle.set_table.specs.Filled.{refusing, limited}
use Rattle.set_table.specs.declared.Filled.{Filled}
use Rattle.set_table.specs.declared.Attrs.{Attrs}
use Rattle.set_table.specs.declared.Origin.{Origin}
use Rattle.set_table.specs.declared.Origin.TheVariants.{First, Second}
use Rattle.set_table.specs.declared.Text.{Text}
use Rattle.set_table.specs.declared.Text.TheVariants.{Plain, Quoted, Empty}
use Rattle.set_table.specs.declared.Name.{Name}
use Rattle.set_table.specs.declared.Name.TheVariants.{Range, Lang}
use Rattle.set_table.specs.declared.Value.{Value}
use Rattle.set_table.specs.declared.Row.{Row}
use Rattle.set_table.specs.declared.Slot as slots
use Rattle.set_table.specs.declared.Slot.TheVariants as slot
use Rattle.set_table.proofs.Whole.{rows_table, none_means}

-- ---- rows and puts as bytes

-- a key's row: its name and its value
abbrev pub row_bytes : Texts → Row → Entry
row_bytes t r = record { name = name_bytes t r.name; values = value_bytes t r.value ∷ [] }

pub record InBytes : Type 0 where
  pub ident : List (List ℕ)
  pub classes : List (List ℕ)
  pub keys : List Entry
  pub order : List slots.Slot

abbrev pub in_bytes : Texts → Rows → InBytes
in_bytes t s = record { ident = id_values t s.ident; classes = map (value_bytes t) s.classes; keys = map (row_bytes t) s.keys; order = s.order }

pub data Says : Type 0 where
  ident : List ℕ → Says
  class : List ℕ → Says
  key : List ℕ → List ℕ → Says

abbrev pub says_of : Texts → Put → Says
says_of t (Put.ident v) = Says.ident (value_bytes t v)
says_of t (Put.class v) = Says.class (value_bytes t v)
says_of t (Put.key n v) = Says.key (name_bytes t n) (value_bytes t v)

unfoldable has_entry : List ℕ → List Entry → Bool
has_entry n [] = false
has_entry n (e ∷ es) = same e.name n || has_entry n es

unfoldable put_entry : List ℕ → List ℕ → List Entry → List Entry
put_entry n v [] = record { name = n; values = v ∷ [] } ∷ []
put_entry n v (e ∷ es) = cond (same e.name n) (record { name = e.name; values = v ∷ [] } ∷ es) (e ∷ put_entry n v es)

abbrev put_said : InBytes → Says → InBytes
put_said s (Says.ident v) = record { ident = v ∷ []; classes = s.classes; keys = s.keys; order = slot_unless (is_some s.ident) s.order slot.Id }
put_said s (Says.class v) = record { ident = s.ident; classes = s.classes ++ (v ∷ []); keys = s.keys; order = slot_unless (is_some s.classes) s.order slot.Class }
put_said s (Says.key n v) = record { ident = s.ident; classes = s.classes; keys = put_entry n v s.keys; order = slot_unless (has_entry n s.keys) s.order (slot.Key (length s.keys)) }

-- what they mean, slot by slot
abbrev entry_by : InBytes → slots.Slot → Entry
entry_by b slot.Id = record { name = id_name; values = b.ident }
entry_by b slot.Class = record { name = class_name; values = b.classes }
entry_by b (slot.Key k) = get_or b.keys k (record { name = []; values = [] ∷ [] })

-- ---- a put

some_map : {A B : Type 0} (f : A → B) (xs : List A) → is_some (map f xs) ≡ is_some xs
some_map f [] = refl
some_map f (x ∷ xs) = refl

module _ (t : Texts) where
  id_there : (i : Ident) → is_there i ≡ is_some (id_values t i)
  id_there Ident.missing = refl
  id_there (Ident.given v) = refl

  has_said : (n : Name) (rs : List Row) → has_key t n rs ≡ has_entry (name_bytes t n) (map (row_bytes t) rs)
  unfolding has_key has_entry
  has_said n [] = refl
  has_said n (r ∷ rs) = ap (λ b. is_named t n r || b) (has_said n rs)

  row_said : (n : Name) (v : Value) (rs : List Row) → map (row_bytes t) (put_row t n v rs) ≡ put_entry (name_bytes t n) (value_bytes t v) (map (row_bytes t) rs)
  unfolding put_row put_entry
  row_said n v [] = refl
  row_said n v (r ∷ rs) = go (is_named t n r) (row_said n v rs)
    where
      go : (b : Bool) → map (row_bytes t) (put_row t n v rs) ≡ put_entry (name_bytes t n) (value_bytes t v) (map (row_bytes t) rs)
          → map (row_bytes t) (cond b (record { name = r.name; value = v } ∷ rs) (r ∷ put_row t n v rs))
          ≡ cond b (record { name = name_bytes t r.name; values = value_bytes t v ∷ [] } ∷ map (row_bytes t) rs) (row_bytes t r ∷ put_entry (name_bytes t n) (value_bytes t v) (map (row_bytes t) rs))
      go true ih = refl
      go false ih = ap (λ (es : List Entry). row_bytes t r ∷ es) ih

  put-said : (s : Rows) (p : Put) → in_bytes t (with_put t s p) ≡ put_said (in_bytes t s) (says_of t p)
  unfolding with_put
  put-said s (Put.ident v) = rw (id_there s.ident)
  put-said s (Put.class v) = rw (map-append (value_bytes t) s.classes (v ∷ []), some_map (value_bytes t) s.classes)
  put-said s (Put.key n v) = rw (row_said n v s.keys, has_said n s.keys, length-map s.keys (row_bytes t))

  puts-said : (s : Rows) (ps : List Put) → in_bytes t (with_puts t s ps) ≡ foldl put_said (in_bytes t s) (map (says_of t) ps)
  unfolding with_puts
  puts-said s [] = refl
  puts-said s (p ∷ ps) = puts-said (with_put t s p) ps ∙ ap (λ b. foldl put_said b (map (says_of t) ps)) (put-said s p)

  -- ---- what rows mean
  slot_said : (s : Rows) (x : slots.Slot) → slot_entry t s x ≡ entry_by (in_bytes t s) x
  unfolding slot_entry name_bytes value_bytes range_bytes
  slot_said s slot.Id = refl
  slot_said s slot.Class = refl
  slot_said s (slot.Key k) = sym (get_map (row_bytes t) zero_row s.keys k)

  rows_said : (s : Rows) → meant t s ≡ map (entry_by (in_bytes t s)) s.order
  unfolding meant
  rows_said s = go s.order
    where
      go : (xs : List slots.Slot) → map (slot_entry t s) xs ≡ map (entry_by (in_bytes t s)) xs
      go [] = refl
      go (x ∷ xs) = rw (slot_said s x, go xs)

-- ---- two sets of the same bytes

abbrev within : {A : Type 0} → Rows → A → A → A → A
within s c k x = cond (ltb max_classes (length s.classes)) c (cond (ltb max_keys (length s.keys)) k x)

limits_by : (s : Rows) → (limited s).outcome ≡ within s (Err TooManyClasses) (Err TooManyKeys) (Ok tt)
unfolding limited
limits_by s = go (ltb max_classes (length s.classes)) (ltb max_keys (length s.keys))
  where
    go : (x y : Bool) → (cond x (refusing TooManyClasses) (cond y (refusing TooManyKeys) (record { outcome = Ok tt; set = table_of s }))).outcome ≡ cond x (Err TooManyClasses) (cond y (Err TooManyKeys) (Ok tt))
    go true y = refl
    go false true = refl
    go false false = refl

table_means : (t : Texts) (s : Rows) → meaning_of t (table_of s) ≡ classes_once (meant t s)
unfolding meaning_of listed_of
table_means t s = rw (rows_table s)

none_id : (t : Texts) → id_values t (rows_in empty_set).ident ≡ []
unfolding rows_in
none_id t = refl

-- the set of a refusal means nothing
means_by : (t : Texts) (s : Rows) → meaning_of t (limited s).set ≡ within s [] [] (classes_once (meant t s))
unfolding limited
means_by t s = go (ltb max_classes (length s.classes)) (ltb max_keys (length s.keys))
  where
    go : (x y : Bool) → meaning_of t (cond x (refusing TooManyClasses) (cond y (refusing TooManyKeys) (record { outcome = Ok tt; set = table_of s }))).set ≡ cond x [] (cond y [] (classes_once (meant t s)))
    go true y = none_means t empty_set refl
    go false true = none_means t empty_set refl
    go false false = table_means t s

-- the id's bytes, none where there is none
abbrev pub id_bytes : Texts → Attrs → List (List ℕ)
id_bytes t a = id_values t (rows_in a).ident

id_by_lem : (t : Texts) (s : Rows) → id_bytes t (limited s).set ≡ within s [] [] (id_values t s.ident)
unfolding limited
id_by_lem t s = go (ltb max_classes (length s.classes)) (ltb max_keys (length s.keys))
  where
    go : (x y : Bool) → id_bytes t (cond x (refusing TooManyClasses) (cond y (refusing TooManyKeys) (record { outcome = Ok tt; set = table_of s }))).set ≡ cond x [] (cond y [] (id_values t s.ident))
    go true y = none_id t
    go false true = none_id t
    go false false = rw (rows_table s)

-- what two readings come to, each over its texts, is alike: the outcome, the meaning and the id
pub record Alike (t t' : Texts) (f f' : Filled) : Type 0 where
  pub outcome : f.outcome ≡ f'.outcome
  pub meaning : meaning_of t f.set ≡ meaning_of t' f'.set
  pub ids : id_bytes t f.set ≡ id_bytes t' f'.set

pub refused_alike : (t t' : Texts) (r : Refusal) → Alike t t' (refusing r) (refusing r)
refused_alike t t' r = record { outcome = refl; meaning = none_means t empty_set refl ∙ sym (none_means t' empty_set refl); ids = none_id t ∙ sym (none_id t') }

module _ (t t' : Texts) (s s' : Rows) (e : in_bytes t s ≡ in_bytes t' s') where
  classes_alike : length s.classes ≡ length s'.classes
  classes_alike = sym (length-map s.classes (value_bytes t)) ∙ ap (λ b. length b.classes) e ∙ length-map s'.classes (value_bytes t')

  keys_alike : length s.keys ≡ length s'.keys
  keys_alike = sym (length-map s.keys (row_bytes t)) ∙ ap (λ b. length b.keys) e ∙ length-map s'.keys (row_bytes t')

  meant_alike : meant t s ≡ meant t' s'
  meant_alike = rows_said t s ∙ ap (λ b. map (entry_by b) b.order) e ∙ sym (rows_said t' s')

  pub rows_alike : Alike t t' (limited s) (limited s')
  rows_alike =
      record {
        outcome = limits_by s ∙ (rw (classes_alike, keys_alike) (sym (limits_by s')));
        meaning = means_by t s ∙ (rw (classes_alike, keys_alike, meant_alike) (sym (means_by t' s')));
        ids = id_by_lem t s ∙ (rw (classes_alike, keys_alike, ap (λ b. b.ident) e) (sym (id_by_lem t' s')));
      }

-- so it is where the same bytes are put into empty ones
pub puts_alike : (t t' : Texts) (ps qs : List Put) → map (says_of t) ps ≡ map (says_of t') qs → in_bytes t (with_puts t no_rows ps) ≡ in_bytes t' (with_puts t' no_rows qs)
puts_alike t t' ps qs e = puts-said t no_rows ps ∙ ap (foldl put_said (in_bytes t no_rows)) e ∙ sym (puts-said t' no_rows qs)

-- ---- one set, over two texts in which what is put has the same bytes

heads : {A : Type 0} {x y : A} {xs ys : List A} → (x ∷ xs) ≡ (y ∷ ys) → (x ≡ y) × (xs ≡ ys)
heads {x = x} e = (ap (λ l. get_or l 0 x) e, ap (drop 1) e)

abbrev name_said : Says → List ℕ
name_said (Says.ident v) = []
name_said (Says.class v) = []
name_said (Says.key n v) = n

module _ (t t' : Texts) where
  row_same : (n : Name) (v : Value) (rs : List Row) → map (row_bytes t) rs ≡ map (row_bytes t') rs → name_bytes t n ≡ name_bytes t' n → put_row t n v rs ≡ put_row t' n v rs
  unfolding put_row
  row_same n v [] e h = refl
  row_same n v (r ∷ rs) e h =
      let k = heads e in
      let z : is_named t n r ≡ is_named t' n r = rw (ap (λ x. x.name) k.0, h) in
      rw (z, row_same n v rs k.1 h)

  put_same : (s : Rows) (p : Put) → in_bytes t s ≡ in_bytes t' s → says_of t p ≡ says_of t' p → with_put t s p ≡ with_put t' s p
  unfolding with_put
  put_same s (Put.ident v) e h = refl
  put_same s (Put.class v) e h = refl
  put_same s (Put.key n v) e h =
      let k = ap (λ b. b.keys) e in
      let i = ap name_said h in
      let z : has_key t n s.keys ≡ has_key t' n s.keys = has_said t n s.keys ∙ (rw (k, i) (sym (has_said t' n s.keys))) in
      rw (row_same n v s.keys k i, z)

  puts-same : (s : Rows) (ps : List Put) → in_bytes t s ≡ in_bytes t' s → map (says_of t) ps ≡ map (says_of t') ps → with_puts t s ps ≡ with_puts t' s ps
  unfolding with_puts
  puts-same s [] e h = refl
  puts-same s (p ∷ ps) e h =
      let k = heads h in
      let q = put_same s p e k.0 in
      let z : in_bytes t (with_put t s p) ≡ in_bytes t' (with_put t s p) = put-said t s p ∙ (rw (e, k.0) (sym (put-said t' s p))) ∙ ap (in_bytes t') (sym q) in
      puts-same (with_put t s p) ps z k.1 ∙ ap (λ r. with_puts t' r ps) q

  pub over_either : (ps : List Put) → map (says_of t) ps ≡ map (says_of t') ps → in_bytes t (with_puts t' no_rows ps) ≡ in_bytes t' (with_puts t' no_rows ps)
  over_either ps h = rw (← puts-same no_rows ps refl h) (puts_alike t t' ps ps h ∙ ap (in_bytes t') (sym (puts-same no_rows ps refl h)))

-- ---- a set with its texts changed over: "meaning doesn't include the origin"

abbrev other_ident : Ident → Ident
other_ident Ident.missing = Ident.missing
other_ident (Ident.given v) = Ident.given (other_value v)

abbrev other_rows : Rows → Rows
other_rows s = record { ident = other_ident s.ident; classes = map other_value s.classes; keys = map other_row s.keys; order = s.order }

take-firsts : {A : Type 0} (f : A → A) (n : ℕ) (xs : List A) → take n (firsts_by f n xs) ≡ map f (take n xs)
unfolding firsts_by
take-firsts f zero xs = refl
take-firsts f (suc n) [] = refl
take-firsts f (suc n) (x ∷ xs) = ap (λ ys. f x ∷ ys) (take-firsts f n xs)

rows_other : (a : Attrs) → rows_in (exchanged a) ≡ other_rows (rows_in a)
unfolding rows_in exchanged
rows_other a = rw (take-firsts other_value a.nclass a.classes, take-firsts other_row a.nkey a.keys, id a.given)
  where
    id : (b : Bool) → cond b (Ident.given (cond b (other_value a.id) a.id)) Ident.missing ≡ other_ident (cond b (Ident.given a.id) Ident.missing)
    id true = refl
    id false = refl

module _ (t : Texts) where
  range_other : (o : Origin) (f e : ℕ) → range_bytes (changed_over t) (other_origin o) f e ≡ range_bytes t o f e
  unfolding range_bytes
  range_other First f e = refl
  range_other Second f e = refl

  text_other : (x : Text) → text_bytes (changed_over t) (other_text x) ≡ text_bytes t x
  text_other (Plain o f e) = range_other o f e
  text_other (Quoted o f e) = ap unescape (range_other o f e)
  text_other Empty = refl

  value_other : (v : Value) → value_bytes (changed_over t) (other_value v) ≡ value_bytes t v
  unfolding value_bytes
  value_other v = text_other v.text

  name_other : (n : Name) → name_bytes (changed_over t) (other_name n) ≡ name_bytes t n
  unfolding name_bytes
  name_other (Range o f e) = range_other o f e
  name_other Lang = refl

  ident_other : (i : Ident) → id_values (changed_over t) (other_ident i) ≡ id_values t i
  ident_other Ident.missing = refl
  ident_other (Ident.given v) = rw (value_other v)

  classes_other : (vs : List Value) → map (value_bytes (changed_over t)) (map other_value vs) ≡ map (value_bytes t) vs
  classes_other [] = refl
  classes_other (v ∷ vs) = rw (value_other v, classes_other vs)

  keys_other : (rs : List Row) → map (row_bytes (changed_over t)) (map other_row rs) ≡ map (row_bytes t) rs
  keys_other [] = refl
  keys_other (r ∷ rs) = rw (name_other r.name, value_other r.value, keys_other rs)

  pub exchange_means : (a : Attrs) → meaning_of (changed_over t) (exchanged a) ≡ meaning_of t a
  unfolding meaning_of listed_of
  exchange_means a =
      let s = rows_in a in
      let z : in_bytes (changed_over t) (other_rows s) ≡ in_bytes t s = rw (ident_other s.ident, classes_other s.classes, keys_other s.keys) in
      ap classes_once (rw (rows_other a) (meant_alike (changed_over t) t (other_rows s) s z))

  pub exchange_id : (a : Attrs) → id_bytes (changed_over t) (exchanged a) ≡ id_bytes t a
  exchange_id a = rw (rows_other a) (ident_other (rows_in a).ident)
