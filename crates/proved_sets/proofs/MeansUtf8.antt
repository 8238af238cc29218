-- What a well-formed table means is UTF-8, name by name and value by value, and so is its canonical text: what is written can be read back.
-- Assumes nothing.
use mathlib.Core.Path.{◌≡◌, refl, ◌∙◌}
use mathlib.Core.Bool.{Bool, true, false, cond, ◌&&◌}
use mathlib.Core.List.{List, [], ◌∷◌, ◌++◌, map, flat_map}
use Prim.Native.Nat.{ℕ, ◌≤◌}
use native.Mathlib.Omega.{arith}
use lib.Dec.{leb, eqb}
use lib.ListN.{length}
use borrow.Author.Tests.{ltb-true, leb-true, leb-false, le-leb, lt-leb, ne_eqb}
use Rattle.base_lists.specs.Lists.{all, is_in}
use Rattle.base_lists.proofs.Scan.{both}
use Rattle.base_lists.proofs.More.{contra, all_weaker}
use Rattle.base_lists.proofs.Flat.{all_flat}
use Rattle.base_bytes.specs.Bytes.{within, is_letter, is_digit, is_alnum, is_name_part, is_punct, is_marked}
use Rattle.text_names.specs.Names.{is_key}
use Rattle.proved_texts.specs.Utf8Rules as utf8
use Rattle.text_utf8.specs.Computed.{is_utf8}
use Rattle.text_utf8.specs.Utf8.{is_boundary}
use Rattle.text_utf8.proofs.Laws.{past_ascii}
use Rattle.proved_texts.proofs.Utf8Grammar.{char, sound, utf8_append}
use Rattle.proved_texts.proofs.Utf8Boundaries.{ascii, slice_utf8}
use Rattle.text_checks.proofs.Texts as texts
use Rattle.text_escapes.specs.Unescape.{unescape, unescape_from}
use Rattle.block_grammar.specs.Close.{no_lf}
use Rattle.block_grammar.specs.Meaning.{Entry, id_name, class_name, is_class, fresh_after, once_in, classes_once}
use Rattle.block_grammar.proofs.Bytes.{key_parts}
use Rattle.set_canon.specs.Canon.{marked, escape, Pair, pair_text, more_text, pairs_text, pairs_of, pairs, canon}
use Rattle.set_table.specs.Types.{Texts, text_at, range_bytes, text_bytes, value_bytes, zero_row}
use Rattle.set_table.specs.Rows.{Ident, Rows, is_there, id_values, slot_entry, meant, rows_in, meaning_of, listed_of}
use Rattle.set_table.specs.Shape.{is_present}
use Rattle.set_table.specs.declared.Attrs.{Attrs}
use Rattle.set_table.specs.declared.Origin.{Origin}
use Rattle.set_table.specs.declared.Origin.TheVariants.{First, Second}
use Rattle.set_table.specs.declared.Slot.{Slot}
use Rattle.set_table.specs.declared.Slot.TheVariants.{Id, Class, Key}
use Rattle.set_table.specs.declared.Text.{Text}
use Rattle.set_table.specs.declared.Text.TheVariants.{Plain, Quoted, Empty}
use Rattle.set_table.specs.declared.Value.{Value}
use Rattle.set_values.specs.Values.{range_ok, text_ok, value_ok, ident_ok, class_ok, key_ok}
use Rattle.set_wellformed.specs.WellFormed.{well_formed}
use Rattle.base_lists.proofs.Each.{all_map, all_at}
use Rattle.set_wellformed.proofs.Shape.{slots_named, Passed, keyed, table_passed}
use Rattle.proved_sets.specs.Formed.{entry_utf8, NamesUtf8, WrittenUtf8, MeansUtf8}
use Rattle.proved_sets.proofs.WellFormedMeans.{class_value}
use Rattle.proved_sets.proofs.WellFormedShape.{formed_parts}
use Rattle.block_grammar.proofs.Fresh.{fresh-all}

-- ---- a character is one ASCII byte, or bytes that are all above ASCII
abbrev is_high : ℕ → Bool
is_high b = leb 0x80 b

data Kind : List ℕ → Type 0 where
  low : {a : ℕ} → a ≤ 0x7F → Kind (a ∷ [])
  high : {a : ℕ} {k : List ℕ} → all is_high (a ∷ k) ≡ true → Kind (a ∷ k)

two : (a b : ℕ) → 0x80 ≤ a → 0x80 ≤ b → all is_high (a ∷ b ∷ []) ≡ true
unfolding all
two a b p q = rw (le-leb 0x80 a p, le-leb 0x80 b q)

three : (a b c : ℕ) → 0x80 ≤ a → 0x80 ≤ b → 0x80 ≤ c → all is_high (a ∷ b ∷ c ∷ []) ≡ true
unfolding all
three a b c p q r = rw (le-leb 0x80 a p) (two b c q r)

four : (a b c d : ℕ) → 0x80 ≤ a → 0x80 ≤ b → 0x80 ≤ c → 0x80 ≤ d → all is_high (a ∷ b ∷ c ∷ d ∷ []) ≡ true
unfolding all
four a b c d p q r s = rw (le-leb 0x80 a p) (three b c d q r s)

kind : {k : List ℕ} → utf8.Char k → Kind k
kind (utf8.Char.one p) = Kind.low p.high
kind (utf8.Char.two {a} {b} p q) = Kind.high (two a b (omega (arith, p.low)) q.low)
kind (utf8.Char.three_E0 {a} {b} {c} p q r) = Kind.high (three a b c (omega (arith, p.low)) (omega (arith, q.low)) r.low)
kind (utf8.Char.three_E1 {a} {b} {c} p q r) = Kind.high (three a b c (omega (arith, p.low)) q.low r.low)
kind (utf8.Char.three_ED {a} {b} {c} p q r) = Kind.high (three a b c (omega (arith, p.low)) q.low r.low)
kind (utf8.Char.three_EE {a} {b} {c} p q r) = Kind.high (three a b c (omega (arith, p.low)) q.low r.low)
kind (utf8.Char.four_F0 {a} {b} {c} {d} p q r s) = Kind.high (four a b c d (omega (arith, p.low)) (omega (arith, q.low)) r.low s.low)
kind (utf8.Char.four_F1 {a} {b} {c} {d} p q r s) = Kind.high (four a b c d (omega (arith, p.low)) q.low r.low s.low)
kind (utf8.Char.four_F4 {a} {b} {c} {d} p q r s) = Kind.high (four a b c d (omega (arith, p.low)) q.low r.low s.low)

high_other : (n b : ℕ) → n ≤ 0x7F → is_high b ≡ true → eqb b n ≡ false
high_other n b h e = ne_eqb b n (λ q. absurd (omega (arith, leb-true 0x80 b e)))

high_punct : (b : ℕ) → is_high b ≡ true → is_punct b ≡ false
unfolding is_punct within
high_punct b e =
    let h = leb-true 0x80 b e in
    rw (le-leb 0x21 b (omega arith), lt-leb b 0x2F (omega arith), le-leb 0x3A b (omega arith), lt-leb b 0x40 (omega arith), le-leb 0x5B b (omega arith), lt-leb b 0x60 (omega arith), le-leb 0x7B b (omega arith), lt-leb b 0x7E (omega arith))

-- ---- unescaping and escaping leave whole characters
high_unescape : (k s : List ℕ) → all is_high k ≡ true → unescape_from false (k ++ s) ≡ k ++ unescape_from false s
unfolding all unescape_from
high_unescape [] s e = refl
high_unescape (a ∷ k) s e = let h = both (is_high a) (all is_high k) e in rw (high_other 92 a (omega arith) h.0, high_unescape k s h.1)

high_escape : (k s : List ℕ) → all is_high k ≡ true → escape (k ++ s) ≡ k ++ escape s
unfolding all marked is_marked escape flat_map is_in
high_escape [] s e = refl
high_escape (a ∷ k) s e = let h = both (is_high a) (all is_high k) e in rw (high_other 34 a (omega arith) h.0, high_other 92 a (omega arith) h.0, high_escape k s h.1)

low_utf8 : (a : ℕ) (s : List ℕ) → a ≤ 0x7F → is_utf8 s ≡ true → is_utf8 (a ∷ s) ≡ true
unfolding is_utf8
low_utf8 a s h e = past_ascii a s h ∙ e

append_utf8 : (s t : List ℕ) → is_utf8 s ≡ true → is_utf8 t ≡ true → is_utf8 (s ++ t) ≡ true
append_utf8 s t e q = utf8_append s t e ∙ q

either : (b : Bool) (s t : List ℕ) → is_utf8 s ≡ true → is_utf8 t ≡ true → is_utf8 (cond b s t) ≡ true
either true s t e q = e
either false s t e q = q

unescaped : {ks : List (List ℕ)} {s : List ℕ} → utf8.Octets ks s → (b : Bool) → is_utf8 (unescape_from b s) ≡ true
unfolding unescape_from all
unescaped utf8.Octets.none false = ascii [] refl
unescaped utf8.Octets.none true = ascii (92 ∷ []) refl
unescaped (utf8.Octets.more {k} {s} c o) b = go k (kind c) (char c) b (λ x. unescaped o x)
  where
    go : (k : List ℕ) → Kind k → is_utf8 k ≡ true → (b : Bool) → ((b : Bool) → is_utf8 (unescape_from b s) ≡ true) → is_utf8 (unescape_from b (k ++ s)) ≡ true
    go [] x4 u _ ih = elim x4 [ ]
    go (a ∷ []) (Kind.low h) u false ih = either (eqb a 92) (unescape_from true s) (a ∷ unescape_from false s) (ih true) (low_utf8 a _ h (ih false))
    go (a ∷ []) (Kind.low h) u true ih =
        let z = low_utf8 a (unescape_from false s) h (ih false) in
        either (is_punct a) (a ∷ unescape_from false s) (92 ∷ (a ∷ unescape_from false s)) z (low_utf8 92 _ (omega arith) z)
    go (a ∷ k) (Kind.high h) u false ih = rw (high_unescape (a ∷ k) s h) (append_utf8 (a ∷ k) (unescape_from false s) u (ih false))
    go (a ∷ k) (Kind.high h) u true ih =
        let p = both (is_high a) (all is_high k) h in
        rw (high_punct a p.0, high_unescape k s p.1) (low_utf8 92 _ (omega arith) (append_utf8 (a ∷ k) (unescape_from false s) u (ih false)))

pub unescape_utf8 : (s : List ℕ) → is_utf8 s ≡ true → is_utf8 (unescape s) ≡ true
unfolding unescape
unescape_utf8 s e = unescaped (sound s e).octets false

escaped : {ks : List (List ℕ)} {s : List ℕ} → utf8.Octets ks s → is_utf8 (escape s) ≡ true
unfolding marked is_marked escape flat_map all
escaped utf8.Octets.none = ascii [] refl
escaped (utf8.Octets.more {k} {s} c o) = go k (kind c) (char c) (escaped o)
  where
    go : (k : List ℕ) → Kind k → is_utf8 k ≡ true → is_utf8 (escape s) ≡ true → is_utf8 (escape (k ++ s)) ≡ true
    go [] x4 u ih = elim x4 [ ]
    go (a ∷ []) (Kind.low h) u ih = also (is_in (34 ∷ 92 ∷ []) a) (low_utf8 a (escape s) h ih)
      where
        also : (x : Bool) → is_utf8 (a ∷ escape s) ≡ true → is_utf8 (cond x (92 ∷ (a ∷ [])) (a ∷ []) ++ escape s) ≡ true
        also true z = low_utf8 92 _ (omega arith) z
        also false z = z
    go (a ∷ k) (Kind.high h) u ih = rw (high_escape (a ∷ k) s h) (append_utf8 (a ∷ k) (escape s) u ih)

pub escape_utf8 : (s : List ℕ) → is_utf8 s ≡ true → is_utf8 (escape s) ≡ true
escape_utf8 s e = escaped (sound s e).octets

-- ---- canonical text
abbrev pair_utf8 : Pair → Bool
pair_utf8 p = is_utf8 p.name && is_utf8 p.value

pair_utf8_lem : (p : Pair) → pair_utf8 p ≡ true → is_utf8 (pair_text p) ≡ true
unfolding all
pair_utf8_lem p e =
    let h = both (is_utf8 p.name) (is_utf8 p.value) e in
    append_utf8 p.name _ h.0 (low_utf8 61 _ (omega arith) (low_utf8 34 _ (omega arith) (append_utf8 (escape p.value) (34 ∷ []) (escape_utf8 p.value h.1) (ascii (34 ∷ []) refl))))

more_utf8 : (ps : List Pair) → all pair_utf8 ps ≡ true → is_utf8 (more_text ps) ≡ true
unfolding more_text flat_map all
more_utf8 [] e = ascii [] refl
more_utf8 (p ∷ ps) e =
    let h = both (pair_utf8 p) (all pair_utf8 ps) e in
    low_utf8 32 _ (omega arith) (append_utf8 (pair_text p) (more_text ps) (pair_utf8_lem p h.0) (more_utf8 ps h.1))

pairs-text_utf8 : (ps : List Pair) → all pair_utf8 ps ≡ true → is_utf8 (pairs_text ps) ≡ true
unfolding pairs_text all
pairs-text_utf8 [] e = ascii [] refl
pairs-text_utf8 (p ∷ ps) e = let h = both (pair_utf8 p) (all pair_utf8 ps) e in append_utf8 (pair_text p) (more_text ps) (pair_utf8_lem p h.0) (more_utf8 ps h.1)

values_utf8 : (n : List ℕ) (vs : List (List ℕ)) → is_utf8 n ≡ true → all is_utf8 vs ≡ true → all pair_utf8 (pairs_of n vs) ≡ true
unfolding all pairs_of
values_utf8 n [] e h = refl
values_utf8 n (v ∷ vs) e h = let z = both (is_utf8 v) (all is_utf8 vs) h in rw (e, z.0) (values_utf8 n vs e z.1)

pairs_utf8 : (m : List Entry) → all entry_utf8 m ≡ true → all pair_utf8 (pairs m) ≡ true
unfolding pairs
pairs_utf8 m e = all_flat entry_utf8 pair_utf8 (λ x. pairs_of x.name x.values) (λ x h. let z = both (is_utf8 x.name) (all is_utf8 x.values) h in values_utf8 x.name x.values z.0 z.1) m e

pub canon_utf8 : (m : List Entry) → all entry_utf8 m ≡ true → is_utf8 (canon m) ≡ true
unfolding canon all
canon_utf8 m e = low_utf8 123 _ (omega arith) (append_utf8 (pairs_text (pairs m)) (125 ∷ []) (pairs-text_utf8 (pairs m) (pairs_utf8 m e)) (ascii (125 ∷ []) refl))

-- ---- a key is ASCII
part_low : (b : ℕ) → is_name_part b ≡ true → leb b 0x7F ≡ true
unfolding is_name_part is_alnum is_letter is_digit within
part_low b e = go (leb b 0x7F) refl
  where
    go : (x : Bool) → leb b 0x7F ≡ x → x ≡ true
    go true q = refl
    go false q =
        let h = leb-false b 0x7F q in
        contra (is_name_part b) e (rw (le-leb 65 b (omega arith), lt-leb b 90 (omega arith), le-leb 97 b (omega arith), lt-leb b 122 (omega arith), le-leb 48 b (omega arith), lt-leb b 57 (omega arith), ne_eqb b 95 (λ z. absurd (omega arith)), ne_eqb b 45 (λ z. absurd (omega arith))))

key_utf8 : (n : List ℕ) → is_key n ≡ true → is_utf8 n ≡ true
key_utf8 n e = ascii n (all_weaker is_name_part (λ b. leb b 0x7F) part_low n (key_parts n e))

-- ---- the values of a table over texts that are UTF-8
module _ (t : Texts) (u : (o : Origin) → is_utf8 (text_at t o) ≡ true) where
  range_utf8 : (o : Origin) (from to : ℕ) → range_ok t o from to ≡ true → is_utf8 (range_bytes t o from to) ≡ true
  unfolding range_ok range_bytes
  range_utf8 o from to e =
      let a = both (leb from to) (is_boundary (text_at t o) from && is_boundary (text_at t o) to) e in
      let b = both (is_boundary (text_at t o) from) (is_boundary (text_at t o) to) a.1 in
      slice_utf8 (text_at t o) from to (u o) b.0 b.1 (leb-true from to a.0)

  pub value_utf8 : (v : Value) → value_ok t v ≡ true → is_utf8 (value_bytes t v) ≡ true
  unfolding value_ok value_bytes text_ok all
  value_utf8 v e = go v.text (both (text_ok t v.text) (no_lf (value_bytes t v)) e).0
    where
      go : (x : Text) → text_ok t x ≡ true → is_utf8 (text_bytes t x) ≡ true
      go (Plain o from to) h = range_utf8 o from to h
      go (Quoted o from to) h = unescape_utf8 (range_bytes t o from to) (range_utf8 o from to h)
      go Empty h = ascii [] refl

  module _ {s : Rows} (p : Passed t s) where
    id_utf8 : (i : Ident) → is_there i ≡ true → ident_ok t i ≡ true → all is_utf8 (id_values t i) ≡ true
    unfolding all
    id_utf8 Ident.missing h e = refl
    id_utf8 (Ident.given v) h e = rw (value_utf8 v e)

    slot_utf8 : (x : Slot) → is_present s x ≡ true → entry_utf8 (slot_entry t s x) ≡ true
    unfolding slot_entry all
    slot_utf8 Id h = rw (ascii id_name refl) (id_utf8 s.ident h p.ident)
    slot_utf8 Class h = rw (ascii class_name refl, all_map) (all_weaker (class_ok t) (λ v. is_utf8 (value_bytes t v)) (λ v e. value_utf8 v (class_value t v e).0) s.classes p.classes)
    slot_utf8 (Key k) h =
        let r = keyed (all_at (key_ok t) zero_row s.keys p.keys k (ltb-true k (length s.keys) h)) in
        rw (key_utf8 _ r.key, value_utf8 _ r.value)

    slots_utf8 : (o : List Slot) → all (is_present s) o ≡ true → all entry_utf8 (map (slot_entry t s) o) ≡ true
    unfolding all
    slots_utf8 [] h = refl
    slots_utf8 (x ∷ o) h = let z = both (is_present s x) (all (is_present s) o) h in rw (slot_utf8 x z.0) (slots_utf8 o z.1)

in_utf8 : (e : Entry) → entry_utf8 e ≡ true → entry_utf8 (once_in e) ≡ true
unfolding once_in
in_utf8 e h = let g = both (is_utf8 e.name) (all is_utf8 e.values) h in rw g.0 (go (is_class e.name) g.1)
  where
    go : (b : Bool) → all is_utf8 e.values ≡ true → all is_utf8 (cond b (fresh_after [] e.values) e.values) ≡ true
    go true k = fresh-all is_utf8 [] e.values k
    go false k = k

once_utf8 : (m : List Entry) → all entry_utf8 m ≡ true → all entry_utf8 (classes_once m) ≡ true
unfolding all classes_once
once_utf8 [] h = refl
once_utf8 (e ∷ m) h = let g = both (entry_utf8 e) (all entry_utf8 m) h in rw (in_utf8 e g.0) (once_utf8 m g.1)

-- ======== of a table
module _ (t : Texts) (a : Attrs) (e : well_formed t a ≡ true) where
  pub text_utf8 : (o : Origin) → is_utf8 (text_at t o) ≡ true
  text_utf8 First = texts.text_utf8 t.first (formed_parts t a e).0
  text_utf8 Second = texts.text_utf8 t.second (formed_parts t a e).1

  pub means_utf8 : NamesUtf8 t a
  unfolding meaning_of listed_of meant
  means_utf8 = let p = table_passed t a (formed_parts t a e).2 in once_utf8 (meant t (rows_in a)) (slots_utf8 t text_utf8 p (rows_in a).order (slots_named (rows_in a) p.slots))

  pub written_utf8 : WrittenUtf8 t a
  written_utf8 = canon_utf8 (meaning_of t a) means_utf8

pub all_utf8 : MeansUtf8
all_utf8 t a e = (means_utf8 t a e, written_utf8 t a e)
