-- What is put next, and where a walk goes on.
-- Assumes nothing.
use mathlib.Core.Path.{◌≡◌, refl, ◌∙◌}
use mathlib.Core.Bool.{true, false}
use mathlib.Core.List.{List, [], ◌∷◌, flat_map}
use Prim.Native.Nat.{ℕ, ◌+◌, ◌-◌, ◌<◌, ◌≤◌}
use native.Mathlib.Omega.{arith}
use lib.ListN.{length, take, drop, length-take, length-drop}
use lib.Seq.{slice, slice_empty, length-take-le}
use Rattle.base_lists.specs.Lists.{run, same}
use Rattle.base_lists.proofs.Scan.{run_le}
use Rattle.base_lists.proofs.Parts.{slice_part, part_end}
use Rattle.base_bytes.specs.declared.Mode.{Mode}
use Rattle.base_bytes.specs.Bytes.{is_blank, is_space}
use Rattle.block_grammar.specs.Grammar.{Item, Placed, Reading}
use Rattle.block_grammar.specs.Computed.{also, read_from}
use Rattle.block_grammar.specs.Meaning.{id_name, class_name}
use Rattle.block_tokens.specs.declared.Token as tokens
use Rattle.block_tokens.specs.declared.Token.TheVariants as token
use Rattle.block_tokens.specs.Shown.{token_at}
use Rattle.block_tokens.proofs.Steps as steps
use Rattle.set_table.specs.declared.Value.{Value}
use Rattle.set_table.specs.declared.Name.{Name}
use Rattle.set_table.specs.declared.Name.TheVariants as names
use Rattle.set_table.specs.declared.Origin.TheVariants.{First}
use Rattle.set_table.specs.declared.Text.TheVariants as text
use Rattle.set_table.specs.Rows.{Put}
use Rattle.set_table.specs.Puts.{value_of, by_name, valued, puts_of, puts_in}
use Rattle.set_fill.specs.declared.Kind.TheVariants.{Plain, Quoted, Empty}
use Rattle.set_fill.specs.declared.Cursor.{Cursor}
use Rattle.set_fill.specs.declared.Push as pushes
use Rattle.set_fill.specs.declared.Push.TheVariants.{End, Bad, Id, Class, Key}
use Rattle.set_fill.specs.Inner.{Rest, of_reading, before, tokens_from, kind_of, pieces_of, rest_of, cursor_of, tokens_at, InText, PutsNext, PushTells, Yields, piece_from, class_rest, named_rest}
use Rattle.set_fill.proofs.Pieces as pieces

pub before_none : (r : Rest) → before [] r ≡ r
before_none Rest.refused = refl
before_none (Rest.puts qs) = refl

before_more : (p : Put) (ps : List Put) (r : Rest) → before (p ∷ ps) r ≡ before (p ∷ []) (before ps r)
before_more p ps Rest.refused = refl
before_more p ps (Rest.puts qs) = refl

-- no pieces come before tokens
pub tokens_first : (m : Mode) (s : List ℕ) (i : ℕ) → rest_of m s (tokens_at i) ≡ tokens_from m s i
unfolding rest_of
tokens_first m s i = rw (slice_empty i s, pieces.none i) (before_none (tokens_from m s i))

-- what is ahead of j is ahead of a place before it
gives_later : {m : Mode} {s : List ℕ} {j : ℕ} {r : Rest} {p : Put} {c : Cursor} (i : ℕ) → i ≤ j → PutsNext m s j r p c → PutsNext m s i r p c
gives_later i h y = record { is = y.is; ahead = omega (arith, y.ahead); inside = y.inside }

pub later : {m : Mode} {s : List ℕ} {j : ℕ} {r : Rest} {p : pushes.Push} (i : ℕ) → i ≤ j → Yields m s j r p → Yields m s i r p
later {m} {s} {j} {r} {p} i h y = record { told = go p y.told }
  where
    go : (p : pushes.Push) → PushTells m s j r p → PushTells m s i r p
    go End t = t
    go Bad t = t
    go (Id v c) t = gives_later i h t
    go (Class v c) t = gives_later i h t
    go (Key n v c) t = gives_later i h t

-- ---- what a push gives: the walk goes on, and further
module _ {m : Mode} {s : List ℕ} {i : ℕ} {r : Rest} {p : pushes.Push} (y : Yields m s i r p) where
  pub id_gives : {v : Value} {c : Cursor} → p ≡ Id v c → PutsNext m s i r (Put.ident v) c
  id_gives e = rw e at y.told

  pub class_gives : {v : Value} {c : Cursor} → p ≡ Class v c → PutsNext m s i r (Put.class v) c
  class_gives e = rw e at y.told

  pub key_gives : {n : Name} {v : Value} {c : Cursor} → p ≡ Key n v c → PutsNext m s i r (Put.key n v) c
  key_gives e = rw e at y.told

-- one put, and then the tokens from e on
pub alone : (m : Mode) (s : List ℕ) (p : Put) {i e : ℕ} → i < e → e ≤ length s → PutsNext m s i (before (p ∷ []) (tokens_from m s e)) p (tokens_at e)
alone m s p {i} {e} h l = record { is = rw (tokens_first m s e); ahead = h; inside = record { at = omega arith; to = omega arith; next = l } }

-- ---- class values
module _ {s : List ℕ} {c : Cursor} (inv : InText s c) {from : ℕ} (is : from ≡ c.at + run is_space (slice c.at c.to s)) where
  ends : length (take c.to s) ≡ c.to
  ends = length-take-le c.to s (omega (arith, inv.to, inv.next))

  -- only whitespace is left
  no_pieces : from ≡ c.to → pieces_of s c ≡ []
  no_pieces e = rw (pieces.no_piece (take c.to s) c.at is (omega (arith, ends)))

  -- so the next token is put
  pub token_next : {m : Mode} {r : pushes.Push} → from ≡ c.to → Yields m s c.next (tokens_from m s c.next) r → Yields m s c.at (rest_of m s c) r
  unfolding rest_of
  token_next {m} e y = rw (no_pieces e, before_none (tokens_from m s c.next)) (later c.at (omega (arith, inv.at, inv.to)) y)

  -- the value as a whole is put
  pub whole_class : (m : Mode) {v : Value} {d : Cursor} → 0 < c.at → from ≡ c.to → v ≡ value_of (kind_of c.kind c.at c.to) → d ≡ tokens_at c.next
      → Yields m s (c.at - 1) (class_rest m s c) (Class v d)
  whole_class m h e p q = record { told = rw (no_pieces e, p, q) (alone m s _ (omega (arith, inv.at, inv.to)) inv.next) }

  -- the first piece is put
  module _ (m : Mode) (n : from ≡ c.to → ⊥) where
    here : from < length (take c.to s)
    here = omega (arith, ends, inv.at, run_le is_space (slice c.at c.to s), length-drop c.at (take c.to s))

    goes : (r : Rest) → r ≡ before (pieces_of s c) (tokens_from m s c.next) → Yields m s c.at r (piece_from s from c)
    unfolding rest_of
    goes r e =
        let z = pieces.piece_ahead (take c.to s) c.at is refl here in
        record {
          told = record {
            is = e ∙ (rw (pieces.a_piece (take c.to s) c.at is refl here) (before_more _ _ (tokens_from m s c.next)));
            ahead = omega (arith, z.0, is);
            inside = record { at = omega (arith, z.1, ends); to = inv.to; next = inv.next };
          };
        }

    pub piece_next : {r : pushes.Push} → r ≡ piece_from s from c → Yields m s c.at (rest_of m s c) r
    unfolding rest_of
    piece_next q = rw q (goes (rest_of m s c) refl)

    pub class_next : {r : pushes.Push} → r ≡ piece_from s from c → Yields m s (c.at - 1) (class_rest m s c) r
    class_next q = rw q (later (c.at - 1) (omega arith) (goes (class_rest m s c) (rw (pieces.a_piece (take c.to s) c.at is refl here))))

-- ---- names with a value: the bytes of the name are as the code reads them
module _ (m : Mode) {s : List ℕ} {c : Cursor} (inv : InText s c) {f k : ℕ} (le : f ≤ k) (l : k ≤ c.at) (h : f < c.at) where
  pub named_id : {v : Value} {d : Cursor} → same (take (k - f) (drop f s)) id_name ≡ true → v ≡ value_of (kind_of c.kind c.at c.to) → d ≡ tokens_at c.next
      → Yields m s f (named_rest m s f k c) (Id v d)
  unfolding by_name
  named_id e p q = record { told = rw (slice_part f k s, e, p, q) (alone m s _ (omega (arith, inv.at, inv.to)) inv.next) }

  pub named_class : {r : pushes.Push} → same (take (k - f) (drop f s)) id_name ≡ false → same (take (k - f) (drop f s)) class_name ≡ true → Yields m s (c.at - 1) (class_rest m s c) r
      → Yields m s f (named_rest m s f k c) r
  unfolding by_name
  named_class e g y = rw (slice_part f k s, e, g) (later f (omega arith) y)

  pub named_key : {v : Value} {d : Cursor} → same (take (k - f) (drop f s)) id_name ≡ false → same (take (k - f) (drop f s)) class_name ≡ false
      → v ≡ value_of (kind_of c.kind c.at c.to) → d ≡ tokens_at c.next → Yields m s f (named_rest m s f k c) (Key (names.Range First f k) v d)
  unfolding by_name
  named_key e g p q =
      let z : f + length (take (k - f) (drop f s)) ≡ k = omega (arith, length-take (k - f) (drop f s), length-drop f s, inv.at, inv.to, inv.next) in
      record { told = rw (slice_part f k s, e, g, z, p, q) (alone m s _ (omega (arith, inv.at, inv.to)) inv.next) }

-- ---- tokens

-- the value behind a key's `=` at k up to e, the one in quotes, and that of a bare name up to e
abbrev plain_at : ℕ → ℕ → Cursor
plain_at k e = cursor_of Plain (k + 1) e e

abbrev quoted_at : ℕ → ℕ → Cursor
quoted_at k e = cursor_of Quoted (k + 2) (e - 1) e

abbrev bare_at : ℕ → Cursor
bare_at e = cursor_of Empty e e e

-- a token's ranges lie in the text
abbrev Lies : List ℕ → tokens.Token → Type 0
Lies s (token.Bad n) = Unit {0}
Lies s (token.Tag f e) = (f ≤ e) × (e ≤ length s)
Lies s (token.Id f e) = (f ≤ e) × (e ≤ length s)
Lies s (token.Class f e) = (f ≤ e) × (e ≤ length s)
Lies s (token.Plain f k e) = (f ≤ k) × (k + 1 ≤ e) × (e ≤ length s)
Lies s (token.Quoted f k e) = (f ≤ k) × (k + 3 ≤ e) × (e ≤ length s)
Lies s (token.Bare f e) = (f < e) × (e ≤ length s)

of_also : (p : Placed) (r : Reading) → of_reading (also p r) ≡ before (puts_of p.at p.item) (of_reading r)
unfolding puts_in flat_map
of_also p Reading.refused = refl
of_also p (Reading.items is) = refl

module _ (m : Mode) (s : List ℕ) {i a : ℕ} (fits : i ≤ length s) (is : a ≡ i + run (is_blank m) (drop i s)) where
  pub at_end : length s ≤ a → Yields m s i (tokens_from m s i) End
  unfolding puts_in flat_map
  at_end h = record { told = rw (steps.at_end m s fits is (omega (arith, steps.between m s fits is))) }

  pub bad : {n : ℕ} → a < length s → token.Bad n ≡ token_at m s a → Yields m s i (tokens_from m s i) Bad
  bad h e = record { told = rw (steps.refused m s fits is h e) }

  pub lies : (t : tokens.Token) → t ≡ token_at m s a → Lies s t
  lies (token.Bad n) q = tt
  lies (token.Tag f e) q = omega (arith, steps.spans m s a q, (steps.tag_step m s fits is q).within)
  lies (token.Id f e) q = omega (arith, steps.spans m s a q, (steps.id_step m s fits is q).within)
  lies (token.Class f e) q = omega (arith, steps.spans m s a q, (steps.class_step m s fits is q).within)
  lies (token.Plain f k e) q = omega (arith, steps.spans m s a q, (steps.plain_step m s fits is q).within)
  lies (token.Quoted f k e) q = omega (arith, steps.spans m s a q, (steps.quoted_step m s fits is q).within)
  lies (token.Bare f e) q = let st = steps.bare_step m s fits is q in omega (arith, steps.spans m s a q, st.ahead, st.within)

  puts_next : {j : Item} {e : ℕ} → steps.Stepped m s i a j e → tokens_from m s i ≡ before (puts_of a j) (tokens_from m s e)
  puts_next {j} {e} st = rw st.next (of_also (record { at = a; item = j }) (read_from m (drop e s) 0 e))

  -- a name alone
  lone : {j : Item} {e : ℕ} {p : Put} → steps.Stepped m s i a j e → puts_of a j ≡ p ∷ [] → PutsNext m s i (tokens_from m s i) p (tokens_at e)
  lone st q = rw (puts_next st, q) (alone m s _ (omega (arith, steps.between m s fits is, st.ahead)) st.within)

  module _ {f e : ℕ} {v : Value} {d : Cursor} (p : v ≡ value_of (text.Plain First f e)) (q : d ≡ tokens_at e) where
    pub tag : token.Tag f e ≡ token_at m s a → Yields m s i (tokens_from m s i) (Key names.Lang v d)
    unfolding puts_of
    tag t =
        let st = steps.tag_step m s fits is t in
        let sp = steps.spans m s a t in
        record { told = rw (p, q) (lone st (rw (← sp.0, part_end s f e sp.1 st.within))) }

    pub id : token.Id f e ≡ token_at m s a → Yields m s i (tokens_from m s i) (Id v d)
    unfolding puts_of
    id t =
        let st = steps.id_step m s fits is t in
        let sp = steps.spans m s a t in
        record { told = rw (p, q) (lone st (rw (← sp.0, part_end s f e sp.1 st.within))) }

    pub class : token.Class f e ≡ token_at m s a → Yields m s i (tokens_from m s i) (Class v d)
    unfolding puts_of
    class t =
        let st = steps.class_step m s fits is t in
        let sp = steps.spans m s a t in
        record { told = rw (p, q) (lone st (rw (← sp.0, part_end s f e sp.1 st.within))) }

  -- a name with a value
  named : {f e : ℕ} {j : Item} {x : Rest} {r : pushes.Push} → steps.Stepped m s i a j e → f ≡ a → before (puts_of a j) (tokens_from m s e) ≡ x → Yields m s f x r → Yields m s i (tokens_from m s i) r
  named st g w y = rw (puts_next st, w) (later i (omega (arith, steps.between m s fits is)) y)

  module _ {f k e : ℕ} {c : Cursor} {r : pushes.Push} where
    pub plain : token.Plain f k e ≡ token_at m s a → c ≡ plain_at k e → Yields m s f (named_rest m s f k c) r → Yields m s i (tokens_from m s i) r
    unfolding puts_of valued
    plain t q y =
        let st = steps.plain_step m s fits is t in
        let sp = steps.spans m s a t in
        named st sp.0 (rw (q, ← sp.0, part_end s f k sp.1 (omega (arith, sp.2, st.within)), part_end s (k + 1) e sp.2 st.within)) y

    pub quoted : token.Quoted f k e ≡ token_at m s a → c ≡ quoted_at k e → Yields m s f (named_rest m s f k c) r → Yields m s i (tokens_from m s i) r
    unfolding puts_of valued
    quoted t q y =
        let st = steps.quoted_step m s fits is t in
        let sp = steps.spans m s a t in
        named st sp.0 (rw (q, ← sp.0, part_end s f k sp.1 (omega (arith, sp.2, st.within)), part_end s (k + 2) (e - 1) (omega (arith, sp.2)) (omega (arith, st.within)))) y

  pub bare : {f e : ℕ} {c : Cursor} {r : pushes.Push} → token.Bare f e ≡ token_at m s a → c ≡ bare_at e → Yields m s f (named_rest m s f e c) r → Yields m s i (tokens_from m s i) r
  unfolding puts_of
  bare {f} {e} t q y =
      let st = steps.bare_step m s fits is t in
      let sp = steps.spans m s a t in
      named st sp.0 (rw (q, ← sp.0, slice_empty e s, pieces.none e)) y
