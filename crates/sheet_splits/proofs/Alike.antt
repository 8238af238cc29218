-- What a line of blocks reads is the same wherever it stands: what its set is refused for, and what it means. The same of a run, whatever text it stands in.
-- Assumes nothing.
use mathlib.Core.Path.{◌≡◌, refl, sym, ◌∙◌, ap}
use mathlib.Core.Bool.{Bool, true, false, cond}
use mathlib.Core.List.{List, [], ◌∷◌, ◌++◌, map, flat_map, map-append}
use Prim.Native.Nat.{ℕ, suc, ◌+◌, ◌-◌, ◌≤◌}
use native.Mathlib.Nat.{zero-add}
use native.Mathlib.Omega.{arith}
use borrow.Author.Tests.{lt-ltb, le-ltb, ltb-true, ltb-false}
use lib.Dec.{ltb}
use lib.ListN.{length, drop, length-append, length-take, length-drop}
use lib.Seq.{slice, take-take, drop-drop}
use Rattle.base_lists.specs.Lists.{same}
use Rattle.base_lists.proofs.Parts.{slice_part, drop-take}
use Rattle.base_bytes.specs.Bytes.{is_space}
use Rattle.base_bytes.specs.declared.Mode.{Mode}
use Rattle.base_bytes.specs.declared.Mode.TheVariants.{Loose}
use Rattle.base_refusals.specs.Numbers.{max_text}
use Rattle.base_refusals.specs.declared.Refusal.TheVariants.{TextTooLong, NoReading}
use Rattle.text_escapes.specs.Unescape.{unescape}
use Rattle.block_grammar.specs.Grammar.{Item, Placed, Reading, Tokens, Payload}
use Rattle.block_grammar.specs.Computed.{text}
use Rattle.block_grammar.specs.Meaning.{PieceAt, mark, piece_ranges, or_whole, id_name, class_name}
use Rattle.block_grammar.proofs.Payload.{token_text}
use Rattle.block_chain.specs.Chain.{OneBlock, Blocks}
use Rattle.block_chain.specs.Computed.{read_blocks}
use Rattle.block_chain.proofs.Blocks.{sound}
use Rattle.set_table.specs.Types.{Texts, one, two, range_bytes, name_bytes, value_bytes}
use Rattle.set_table.specs.Rows.{Put}
use Rattle.set_table.specs.Puts.{value_of, piece_of, by_name, valued, puts_of, puts_in}
use Rattle.set_table.specs.Filled.{refusing}
use Rattle.set_table.specs.declared.Origin.TheVariants.{First}
use Rattle.set_table.specs.declared.Name.TheVariants as name
use Rattle.set_table.specs.declared.Text.{Text}
use Rattle.set_table.specs.declared.Text.TheVariants as text
use Rattle.set_fill.specs.Fill.{filled_by, chain_at}
use Rattle.read_blocks.specs.Blocks.{in_second}
use Rattle.sheet_splits.proofs.Anywhere.{item_on, reading_on, line_on, slice_all}
use Rattle.sheet_splits.proofs.Bytes.{Says, says_of, Alike, refused_alike, rows_alike, puts_alike, over_either, exchange_means, exchange_id}

-- ---- the items of a line lie in it

-- each ends at b or before
unfoldable Till : ℕ → List Placed → Type 0
Till b [] = Unit {0}
Till b (p ∷ is) = (p.at + length (text p.item) ≤ b) × Till b is

till_on : (b c : ℕ) (is : List Placed) → b ≤ c → Till b is → Till c is
unfolding Till
till_on b c [] h e = e
till_on b c (p ∷ is) h e = (omega (arith, h, e.0), till_on b c is h e.1)

till_append : (b : ℕ) (is js : List Placed) → Till b is → Till b js → Till b (is ++ js)
unfolding Till
till_append b [] js e f = f
till_append b (p ∷ is) js e f = (e.0, till_append b is js e.1 f)

tokens_till : {m : Mode} {at : ℕ} {s : List ℕ} {is : List Placed} → Tokens m at s is → Till (at + length s) is
unfolding Till
tokens_till {at = at} (Tokens.one {t = t} k) = (rw (token_text k) (omega arith), tt)
tokens_till {at = at} (Tokens.more {t = t} {b = b} {s = s} {is = is} k g r) =
    let z : at + length (t ++ (b ++ s)) ≡ at + length t + length b + length s = omega (arith, length-append t (b ++ s), length-append b s) in
    (rw (z, token_text k) (omega arith), till_on (at + length t + length b + length s) (at + length (t ++ (b ++ s))) is (omega (arith, z)) (tokens_till r))

payload_till : {m : Mode} {at : ℕ} {s : List ℕ} {is : List Placed} → Payload m at s is → Till (at + length s) is
payload_till {at = at} (Payload.payload {b = b} {t = t} {e = e} {is = is} g r f) =
    till_on (at + length b + length t) (at + length (b ++ (t ++ e))) is (omega (arith, length-append b (t ++ e), length-append t e)) (tokens_till r)

block_till : {m : Mode} {at : ℕ} {s : List ℕ} {is : List Placed} → OneBlock m at s is → Till (at + length s) is
block_till {at = at} (OneBlock.block {inside = x} {is = is} c f p) =
    till_on (suc at + length x) (at + length (123 ∷ (x ++ (125 ∷ [])))) is (omega (arith, length-append x (125 ∷ []))) (payload_till p)

line_till : {m : Mode} {at : ℕ} {s : List ℕ} {is : List Placed} → Blocks m at s is → Till (at + length s) is
line_till (Blocks.one b) = block_till b
line_till {at = at} (Blocks.more {b = b} {s = s} {is = is} {js = js} x p) =
    let z = length-append b s in
    till_append (at + length (b ++ s)) is js
    (till_on (at + length b) (at + length (b ++ s)) is (omega (arith, z)) (block_till x))
    (till_on (at + length b + length s) (at + length (b ++ s)) js (omega (arith, z)) (line_till p))

-- ---- what an item puts d places farther on, in a text t that has there up to b the bytes of t'

module _ (t t' : Texts) (d b : ℕ) (h : (f e : ℕ) → e ≤ b → range_bytes t First (d + f) (d + e) ≡ range_bytes t' First f e) where
  -- a kind of value, plain or quoted
  abbrev Kind : (ℕ → ℕ → Text) → Type 0
  Kind kind = (f e : ℕ) → e ≤ b → value_bytes t (value_of (kind (d + f) (d + e))) ≡ value_bytes t' (value_of (kind f e))

  plain_kind : Kind (λ f e. text.Plain First f e)
  unfolding value_bytes
  plain_kind f e k = h f e k

  quoted_kind : Kind (λ f e. text.Quoted First f e)
  unfolding value_bytes
  quoted_kind f e k = ap unescape (h f e k)

  module _ (kind : ℕ → ℕ → Text) (k : Kind kind) where
    abbrev pieces_on : List PieceAt → List Says
    pieces_on rs = map (says_of t) (map (piece_of kind) rs)

    abbrev pieces : List PieceAt → List Says
    pieces rs = map (says_of t') (map (piece_of kind) rs)

    mark_on : (from at : ℕ) (rs qs : List PieceAt) → at ≤ b → pieces_on rs ≡ pieces qs → pieces_on (mark (d + from) (d + at) rs) ≡ pieces (mark from at qs)
    mark_on from at rs qs l e = go (ltb from at) refl
      where
        go : (x : Bool) → ltb from at ≡ x → pieces_on (mark (d + from) (d + at) rs) ≡ pieces (cond x (record { from = from; to = at } ∷ qs) qs)
        go true w = rw (lt-ltb (d + from) (d + at) (omega (arith, ltb-true from at w)), k from at l, e)
        go false w = rw (le-ltb (d + from) (d + at) (omega (arith, ltb-false from at w))) e

    pieces_on_lem : (from at : ℕ) (v : List ℕ) → at + length v ≤ b → pieces_on (piece_ranges (d + from) (d + at) v) ≡ pieces (piece_ranges from at v)
    unfolding piece_ranges
    pieces_on_lem from at [] l = mark_on from at [] [] (omega (arith, l)) refl
    pieces_on_lem from at (c ∷ v) l = go (is_space c) (pieces_on_lem (suc at) (suc at) v (omega (arith, l))) (pieces_on_lem from (suc at) v (omega (arith, l)))
      where
        z : d + suc at ≡ suc (d + at)
        z = omega arith

        go : (x : Bool) → pieces_on (piece_ranges (d + suc at) (d + suc at) v) ≡ pieces (piece_ranges (suc at) (suc at) v) → pieces_on (piece_ranges (d + from) (d + suc at) v) ≡ pieces (piece_ranges from (suc at) v)
            → pieces_on (cond x (mark (d + from) (d + at) (piece_ranges (suc (d + at)) (suc (d + at)) v)) (piece_ranges (d + from) (suc (d + at)) v))
            ≡ pieces (cond x (mark from at (piece_ranges (suc at) (suc at) v)) (piece_ranges from (suc at) v))
        go true p q = mark_on from at _ _ (omega (arith, l)) (rw z at p)
        go false p q = rw z at q

    whole_says : (x : Put) (rs : List PieceAt) (u : Texts) → map (says_of u) (or_whole x (map (piece_of kind) rs)) ≡ or_whole (says_of u x) (map (says_of u) (map (piece_of kind) rs))
    whole_says x [] u = refl
    whole_says x (r ∷ rs) u = refl

    -- the value v of a key, whose first byte stands at `from`: the value itself, and the classes that it gives
    whole_on : (from : ℕ) (v : List ℕ) → from + length v ≤ b
        → map (says_of t) (or_whole (Put.class (value_of (kind (d + from) (d + (from + length v))))) (map (piece_of kind) (piece_ranges (d + from) (d + from) v)))
        ≡ map (says_of t') (or_whole (Put.class (value_of (kind from (from + length v)))) (map (piece_of kind) (piece_ranges from from v)))
    whole_on from v l =
        whole_says (Put.class (value_of (kind (d + from) (d + (from + length v))))) (piece_ranges (d + from) (d + from) v) t
        ∙ (rw (pieces_on_lem from from v l, k from (from + length v) l) (sym (whole_says (Put.class (value_of (kind from (from + length v)))) (piece_ranges from from v) t')))

  -- a key's put by its name
  name_on : (at : ℕ) (n : List ℕ) (x y : Text) (cs ds : List Put) → at + length n ≤ b → value_bytes t (value_of x) ≡ value_bytes t' (value_of y) → map (says_of t) cs ≡ map (says_of t') ds
      → map (says_of t) (by_name (d + at) n x cs) ≡ map (says_of t') (by_name at n y ds)
  unfolding by_name name_bytes
  name_on at n x y cs ds l e f = go (same n id_name) (same n class_name)
    where
      z : d + at + length n ≡ d + (at + length n)
      z = omega arith

      go : (p q : Bool) → map (says_of t) (cond p (Put.ident (value_of x) ∷ []) (cond q cs (Put.key (name.Range First (d + at) (d + at + length n)) (value_of x) ∷ [])))
          ≡ map (says_of t') (cond p (Put.ident (value_of y) ∷ []) (cond q ds (Put.key (name.Range First at (at + length n)) (value_of y) ∷ [])))
      go true q = rw e
      go false true = f
      go false false = rw (z, h at (at + length n) l, e)

  item_on_lem : (at : ℕ) (i : Item) → at + length (text i) ≤ b → map (says_of t) (puts_of (d + at) i) ≡ map (says_of t') (puts_of at i)
  unfolding puts_of text valued name_bytes value_bytes
  item_on_lem at (Item.tag n) l =
      let z : d + at + 1 ≡ d + (at + 1) = omega arith in
      let y : d + (at + 1) + length n ≡ d + (at + 1 + length n) = omega arith in
      rw (z, y, plain_kind (at + 1) (at + 1 + length n) (omega (arith, l)))
  item_on_lem at (Item.id n) l =
      let z : d + at + 1 ≡ d + (at + 1) = omega arith in
      let y : d + (at + 1) + length n ≡ d + (at + 1 + length n) = omega arith in
      rw (z, y, plain_kind (at + 1) (at + 1 + length n) (omega (arith, l)))
  item_on_lem at (Item.class n) l =
      let z : d + at + 1 ≡ d + (at + 1) = omega arith in
      let y : d + (at + 1) + length n ≡ d + (at + 1 + length n) = omega arith in
      rw (z, y, plain_kind (at + 1) (at + 1 + length n) (omega (arith, l)))
  item_on_lem at (Item.plain n v) l =
      let c = length-append n (61 ∷ v) in
      let z : d + at + length n + 1 ≡ d + (at + length n + 1) = omega arith in
      let y : d + (at + length n + 1) + length v ≡ d + (at + length n + 1 + length v) = omega arith in
      rw (z, y)
      (name_on at n _ _ _ _ (omega (arith, l, c)) (plain_kind (at + length n + 1) (at + length n + 1 + length v) (omega (arith, l, c)))
      (whole_on (λ f e. text.Plain First f e) plain_kind (at + length n + 1) v (omega (arith, l, c))))
  item_on_lem at (Item.quoted n q v) l =
      let c = length-append n (61 ∷ q ∷ (v ++ (q ∷ []))) in
      let w = length-append v (q ∷ []) in
      let z : d + at + length n + 2 ≡ d + (at + length n + 2) = omega arith in
      let y : d + (at + length n + 2) + length v ≡ d + (at + length n + 2 + length v) = omega arith in
      rw (z, y)
      (name_on at n _ _ _ _ (omega (arith, l, c, w)) (quoted_kind (at + length n + 2) (at + length n + 2 + length v) (omega (arith, l, c, w)))
      (whole_on (λ f e. text.Quoted First f e) quoted_kind (at + length n + 2) v (omega (arith, l, c, w))))
  item_on_lem at (Item.bare n) l = name_on at n text.Empty text.Empty _ _ l refl refl

  items_on : (is : List Placed) → Till b is → map (says_of t) (puts_in (map (item_on d) is)) ≡ map (says_of t') (puts_in is)
  unfolding puts_in Till flat_map
  items_on [] w = refl
  items_on (p ∷ is) w =
      map-append (says_of t) (puts_of (d + p.at) p.item) (puts_in (map (item_on d) is))
      ∙ (rw (item_on_lem p.at p.item w.0, items_on is w.1) (sym (map-append (says_of t') (puts_of p.at p.item) (puts_in is))))

-- ---- the theorems

items_stay : (is : List Placed) → map (item_on 0) is ≡ is
items_stay [] = refl
items_stay (p ∷ is) = rw (zero-add p.at, items_stay is)

-- a part of a part
part-part : (from to : ℕ) (t : List ℕ) (f e : ℕ) → e ≤ length (slice from to t) → slice (from + f) (from + e) t ≡ slice f e (slice from to t)
part-part from to t f e h =
    let l : e ≤ to - from = omega (arith, h, ap length (slice_part from to t), length-take (to - from) (drop from t)) in
    let z : from + e - (from + f) ≡ e - f = omega arith in
    slice_part (from + f) (from + e) t
    ∙ (rw (z, ← drop-drop f from t, ← take-take (e - f) (to - from - f) (drop f (drop from t)) (omega (arith, l)), ← drop-take f (to - from) (drop from t), ← slice_part from to t) (sym (slice_part f e (slice from to t))))

module _ (t : List ℕ) (from to : ℕ) (k : length t ≤ max_text) where
  abbrev s : List ℕ
  s = slice from to t

  short : length s ≤ max_text
  short = rw (slice_part from to t) (omega (arith, k, length-take (to - from) (drop from t), length-drop from t))

  pub line_alike : Alike (one t) (one s) (chain_at Loose t from to) (chain_at Loose s 0 (length s))
  unfolding chain_at range_bytes
  line_alike = rw (le-ltb max_text (length t) k, le-ltb max_text (length s) short, slice_all s, line_on Loose from s) (go (read_blocks Loose 0 s) refl)
    where
      go : (r : Reading) → read_blocks Loose 0 s ≡ r → Alike (one t) (one s) (filled_by (one t) (reading_on from r)) (filled_by (one s) r)
      go Reading.refused e = refused_alike (one t) (one s) NoReading
      go (Reading.items is) e =
          rows_alike (one t) (one s) _ _
          (puts_alike (one t) (one s) (puts_in (map (item_on from) is)) (puts_in is)
          (items_on (one t) (one s) from (length s) (λ f x h. rw (part-part from to t f x h)) is (rw (zero-add (length s)) at (line_till (sound Loose 0 s is e)))))

-- a run's set is of the joined bytes, which are the second text, and whatever the first is
module _ (t u : List ℕ) where
  first_alike : Alike (two u t) (one u) (chain_at Loose u 0 (length u)) (chain_at Loose u 0 (length u))
  unfolding chain_at range_bytes
  first_alike = go (ltb max_text (length u)) (read_blocks Loose 0 (slice 0 (length u) u)) refl
    where
      go : (x : Bool) (r : Reading) → read_blocks Loose 0 (slice 0 (length u) u) ≡ r
          → Alike (two u t) (one u) (cond x (refusing TextTooLong) (filled_by (one u) r)) (cond x (refusing TextTooLong) (filled_by (one u) r))
      go true r e = refused_alike (two u t) (one u) TextTooLong
      go false Reading.refused e = refused_alike (two u t) (one u) NoReading
      go false (Reading.items is) e =
          let w = items_on (two u t) (one u) 0 (0 + length (slice 0 (length u) u)) (λ f x h. rw (zero-add f, zero-add x)) is (line_till (sound Loose 0 (slice 0 (length u) u) is e)) in
          rows_alike (two u t) (one u) _ _ (over_either (two u t) (one u) (puts_in is) (rw (items_stay is) at w))

  pub run_alike : Alike (two t u) (one u) (in_second (chain_at Loose u 0 (length u))) (chain_at Loose u 0 (length u))
  run_alike =
      record {
        outcome = refl;
        meaning = exchange_means (two u t) (chain_at Loose u 0 (length u)).set ∙ first_alike.meaning;
        ids = exchange_id (two u t) (chain_at Loose u 0 (length u)).set ∙ first_alike.ids;
      }
