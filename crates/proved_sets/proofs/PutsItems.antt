-- What the items of a payload without LF put into a set is good, where the payload stands in a text between character boundaries.
-- Assumes nothing.
use mathlib.Core.Path.{◌≡◌, refl, ◌∙◌}
use mathlib.Core.Bool.{Bool, true, false, cond, ◌&&◌}
use mathlib.Core.List.{List, [], ◌∷◌, ◌++◌, map, append-nil, append_assoc, flat_map}
use Prim.Native.Nat.{ℕ, suc, ◌+◌, ◌<◌, ◌≤◌}
use native.Mathlib.Omega.{arith}
use lib.Dec.{leb, ltb}
use lib.ListN.{length, length-append}
use borrow.Author.Tests.{leb-false, lt-ltb, le-ltb}
use Rattle.base_lists.specs.Lists.{all, headed, same}
use Rattle.base_lists.proofs.Scan.{both, all_append}
use Rattle.base_lists.proofs.More.{contra, among_not, all_parts}
use Rattle.base_lists.proofs.Flat.{flat_append}
use Rattle.base_bytes.specs.declared.Mode.{Mode}
use Rattle.base_bytes.specs.Bytes.{within, is_letter, is_digit, is_alnum, is_name_part, is_key_start, is_space, is_quote, is_blank}
use Rattle.text_names.specs.Names.{is_key}
use Rattle.text_escapes.specs.Unescape.{unescape}
use Rattle.text_escapes.proofs.Pieces.{no_lf_lem, no_space, only_space}
use Rattle.block_grammar.specs.Grammar.{Item, Placed, IsToken, Payload}
use Rattle.block_grammar.specs.Meaning.{PieceAt, mark, piece_ranges, id_name, class_name, or_whole}
use Rattle.block_grammar.specs.Close.{no_lf}
use Rattle.block_grammar.proofs.Bytes.{blank_not, bare_key}
use Rattle.block_grammar.proofs.Chain.{Chain, payload_chain}
use Rattle.set_canon.specs.Canon.{is_class_value}
use Rattle.proved_sets.proofs.CanonWellFormed.{not_lf, solid, solid_class, white_class, name_class}
use Rattle.set_table.specs.Types.{one, name_bytes, text_bytes, value_bytes, range_bytes}
use Rattle.set_table.specs.Rows.{Put}
use Rattle.set_table.specs.Puts.{value_of, piece_of, by_name, valued, puts_of, puts_in}
use Rattle.set_table.specs.Shape.{is_free}
use Rattle.set_table.specs.declared.Origin.TheVariants.{First}
use Rattle.set_table.specs.declared.Text.{Text}
use Rattle.set_table.specs.declared.Text.TheVariants as texts
use Rattle.set_table.specs.declared.Name.TheVariants as name
use Rattle.set_values.specs.Values.{range_ok, text_ok, name_ok, value_ok, class_ok, key_ok}
use Rattle.proved_sets.proofs.PutsKept.{put_ok}
use Rattle.proved_sets.proofs.PutsParts.{Part, range_ok_lem, range_is, before, behind}

-- ---- the bytes that part a payload are ASCII
blank_low : (m : Mode) (b : ℕ) → is_blank m b ≡ true → b ≤ 0x7F
unfolding all
blank_low m b h = let z = leb-false 0x80 b (blank_not (λ x. leb 0x80 x) m b refl h) in omega arith

space_low : (b : ℕ) → is_space b ≡ true → b ≤ 0x7F
unfolding is_space all
space_low b h = let z = leb-false 0x80 b (among_not (λ x. leb 0x80 x) (32 ∷ 9 ∷ 10 ∷ 12 ∷ 13 ∷ []) b refl h) in omega arith

quote_low : (q : ℕ) → is_quote q ≡ true → q ≤ 0x7F
unfolding is_quote all
quote_low q h = let z = leb-false 0x80 q (among_not (λ x. leb 0x80 x) (34 ∷ 39 ∷ []) q refl h) in omega arith

-- ---- classes
-- with no piece there is nothing but whitespace
begun : (s : List ℕ) (from at : ℕ) → from < at → piece_ranges from at s ≡ [] → ⊥
unfolding piece_ranges
begun [] from at h e = let z = rw (lt-ltb from at h) at e in contra true refl (cc)
begun (b ∷ s) from at h e = go (is_space b) e (begun s from (suc at) (omega arith))
  where
    go : (x : Bool) → cond x (mark from at (piece_ranges (suc at) (suc at) s)) (piece_ranges from (suc at) s) ≡ [] → (piece_ranges from (suc at) s ≡ [] → ⊥) → ⊥
    go true e ih = let z = rw (lt-ltb from at h) at e in contra true refl (cc)
    go false e ih = ih e

no_ranges : (s : List ℕ) (at : ℕ) → piece_ranges at at s ≡ [] → all is_space s ≡ true
unfolding piece_ranges all
no_ranges [] at e = refl
no_ranges (b ∷ s) at e = go (is_space b) refl e (no_ranges s (suc at))
  where
    go : (x : Bool) → is_space b ≡ x → cond x (mark at at (piece_ranges (suc at) (suc at) s)) (piece_ranges at (suc at) s) ≡ [] → (piece_ranges (suc at) (suc at) s ≡ [] → all is_space s ≡ true) → (is_space b && all is_space s) ≡ true
    go true p e ih = rw p (ih (rw (le-ltb at at (omega arith)) at e))
    go false p e ih = absurd (begun s at (suc at) (omega arith) e)

-- ---- values: the text of a kind has the bytes of its range, themselves or unescaped
module _ (w : List ℕ) where
  record Kind (kind : ℕ → ℕ → Text) (f : List ℕ → List ℕ) : Type 0 where
    reads : (a b : ℕ) → text_bytes (one w) (kind a b) ≡ f (range_bytes (one w) First a b)
    inside : (a b : ℕ) → text_ok (one w) (kind a b) ≡ range_ok (one w) First a b
    flat : (v : List ℕ) → no_lf v ≡ true → no_lf (f v) ≡ true
    class : (v : List ℕ) → is_class_value v ≡ true → is_class_value (f v) ≡ true

  plain_kind : Kind (λ a b. texts.Plain First a b) (λ v. v)
  unfolding text_ok
  plain_kind = record { reads = λ a b. refl; inside = λ a b. refl; flat = λ v h. h; class = λ v h. h }

  quoted_kind : Kind (λ a b. texts.Quoted First a b) unescape
  unfolding text_ok no_lf is_class_value
  quoted_kind = record { reads = λ a b. refl; inside = λ a b. refl; flat = λ v h. no_lf_lem v ∙ h; class = λ v h. rw (no_space v, only_space v) h }

  module _ {kind : ℕ → ℕ → Text} {f : List ℕ → List ℕ} (k : Kind kind f) where
    value_ok_lem : {from : ℕ} {v rest : List ℕ} → Part w from v rest → no_lf v ≡ true → value_ok (one w) (value_of (kind from (from + length v))) ≡ true
    unfolding value_ok value_bytes
    value_ok_lem {from} {v} p h = rw (k.inside from (from + length v), range_ok_lem p, k.reads from (from + length v), range_is p) (k.flat v h)

    class_ok_lem : {from : ℕ} {v rest : List ℕ} → Part w from v rest → no_lf v ≡ true → is_class_value v ≡ true → class_ok (one w) (value_of (kind from (from + length v))) ≡ true
    unfolding class_ok value_bytes
    class_ok_lem {from} {v} p h c = rw (value_ok_lem p h, k.reads from (from + length v), range_is p) (k.class v c)

    -- the piece c was begun at `from`, and the rest s of the value stands at `at`
    marked : {from at : ℕ} {c rest : List ℕ} (rs : List PieceAt) → Part w from c rest → at ≡ from + length c → no_lf c ≡ true → all solid c ≡ true
        → all (put_ok (one w)) (map (piece_of kind) rs) ≡ true → all (put_ok (one w)) (map (piece_of kind) (mark from at rs)) ≡ true
    unfolding all put_ok
    marked {from} {at} {c} rs p e h d r = go (ltb from at)
      where
        go : (x : Bool) → all (put_ok (one w)) (map (piece_of kind) (cond x (record { from = from; to = at } ∷ rs) rs)) ≡ true
        go true = rw (e, class_ok_lem p h (solid_class c d)) r
        go false = r

    pieces_ok : {rest : List ℕ} (s c : List ℕ) {from at : ℕ} → Part w from (c ++ s) rest → at ≡ from + length c → no_lf (c ++ s) ≡ true → all solid c ≡ true
        → all (put_ok (one w)) (map (piece_of kind) (piece_ranges from at s)) ≡ true
    unfolding piece_ranges no_lf all
    pieces_ok [] c p e h d = marked [] (rw append-nil at p) e (rw append-nil at h) d refl
    pieces_ok {rest} (b ∷ s) c {from} {at} p e h d =
        let g = all_parts not_lf c (b ∷ s) h in
        go (is_space b) refl g.0 (λ q. pieces_ok s [] (space q) (omega arith) (both (not_lf b) (all not_lf s) g.1).1 refl) (λ q. pieces_ok {rest = rest} s (c ++ (b ∷ [])) (rw (append_assoc c (b ∷ []) s) p) (omega (arith, length-append c (b ∷ []))) (rw (append_assoc c (b ∷ []) s) h) (all_append solid c (b ∷ []) d (rw q)))
      where
        space : is_space b ≡ true → Part w (suc at) s rest
        space q = behind c b s (space_low b q) p (omega arith)

        go : (x : Bool) → is_space b ≡ x → no_lf c ≡ true → (is_space b ≡ true → all (put_ok (one w)) (map (piece_of kind) (piece_ranges (suc at) (suc at) s)) ≡ true)
            → (is_space b ≡ false → all (put_ok (one w)) (map (piece_of kind) (piece_ranges from (suc at) s)) ≡ true)
            → all (put_ok (one w)) (map (piece_of kind) (cond x (mark from at (piece_ranges (suc at) (suc at) s)) (piece_ranges from (suc at) s))) ≡ true
        go true q f i j = marked (piece_ranges (suc at) (suc at) s) (before c b s (space_low b q) p) e f d (i q)
        go false q f i j = j q

    classes_ok : {from : ℕ} {v rest : List ℕ} → Part w from v rest → no_lf v ≡ true
        → all (put_ok (one w)) (or_whole (Put.class (value_of (kind from (from + length v)))) (map (piece_of kind) (piece_ranges from from v))) ≡ true
    unfolding all put_ok
    classes_ok {from} {v} p h = go (piece_ranges from from v) refl (pieces_ok v [] p (omega arith) h refl)
      where
        go : (rs : List PieceAt) → piece_ranges from from v ≡ rs → all (put_ok (one w)) (map (piece_of kind) (piece_ranges from from v)) ≡ true
            → all (put_ok (one w)) (or_whole (Put.class (value_of (kind from (from + length v)))) (map (piece_of kind) rs)) ≡ true
        go [] q i = rw (class_ok_lem p h (white_class v (no_ranges v from q)))
        go (r ∷ rs) q i = rw q at i

  -- ---- items
  by_name_lem : {at : ℕ} {k rest : List ℕ} → Part w at k rest → is_key k ≡ true → (x : Text) → value_ok (one w) (value_of x) ≡ true → (classes : List Put) → all (put_ok (one w)) classes ≡ true
      → all (put_ok (one w)) (by_name at k x classes) ≡ true
  unfolding all put_ok by_name key_ok name_ok name_bytes is_free
  by_name_lem {at} {k} p h x v classes c = go (same k id_name) refl (same k class_name) refl
    where
      go : (a : Bool) → same k id_name ≡ a → (b : Bool) → same k class_name ≡ b → all (put_ok (one w)) (cond a (Put.ident (value_of x) ∷ []) (cond b classes (Put.key (name.Range First at (at + length k)) (value_of x) ∷ []))) ≡ true
      go true q b r = rw v
      go false q true r = c
      go false q false r = rw (range_ok_lem p, range_is p, h, q, r, v)

  valued_ok : {kind : ℕ → ℕ → Text} {f : List ℕ → List ℕ} → Kind kind f → {at from : ℕ} {k v rest post : List ℕ} → Part w at k rest → is_key k ≡ true → Part w from v post → no_lf v ≡ true
      → all (put_ok (one w)) (valued at k kind from v) ≡ true
  unfolding valued
  valued_ok {kind} o {at} {from} {k} {v} p h q g =
      by_name_lem p h (kind from (from + length v)) (value_ok_lem o q g) (or_whole (Put.class (value_of (kind from (from + length v)))) (map (piece_of kind) (piece_ranges from from v))) (classes_ok o q g)

  lang_ok : (x : Text) → value_ok (one w) (value_of x) ≡ true → put_ok (one w) (Put.key name.Lang (value_of x)) ≡ true
  unfolding put_ok key_ok name_ok name_bytes is_free same is_key headed all is_key_start is_name_part is_alnum is_letter is_digit within
  lang_ok x h = h

  bare_value : value_ok (one w) (value_of texts.Empty) ≡ true
  unfolding value_ok text_ok value_bytes no_lf all
  bare_value = refl

  bare_class : all (put_ok (one w)) (Put.class (value_of texts.Empty) ∷ []) ≡ true
  unfolding all put_ok class_ok value_ok text_ok value_bytes no_lf is_class_value
  bare_class = refl

  token_ok : {t : List ℕ} {i : Item} → IsToken t i → {at : ℕ} {rest : List ℕ} → Part w at t rest → no_lf t ≡ true → all (put_ok (one w)) (puts_of at i) ≡ true
  unfolding puts_of all put_ok no_lf
  token_ok (IsToken.tag {t = t} h) {at} p f = rw (lang_ok (texts.Plain First (at + 1) (at + 1 + length t)) (value_ok_lem plain_kind (behind [] 58 t (omega arith) p (omega arith)) f))
  token_ok (IsToken.id {n = n} h) {at} p f = rw (value_ok_lem plain_kind {from = at + 1} (behind [] 35 n (omega arith) p (omega arith)) f)
  token_ok (IsToken.class {n = n} h) {at} p f = rw (class_ok_lem plain_kind {from = at + 1} (behind [] 46 n (omega arith) p (omega arith)) f (name_class n h))
  token_ok (IsToken.plain {k = k} {v = v} h g) p f =
      valued_ok plain_kind (before k 61 v (omega arith) p) h (behind k 61 v (omega arith) p (omega arith)) (all_parts not_lf k (61 ∷ v) f).1
  token_ok (IsToken.quoted {k = k} {q = q} {v = v} h g i) p f =
      let a = (all_parts not_lf k (61 ∷ (q ∷ (v ++ (q ∷ [])))) f).1 in
      let b = (both (not_lf q) (all not_lf (v ++ (q ∷ []))) a).1 in
      let y = behind k 61 (q ∷ (v ++ (q ∷ []))) (omega arith) p refl in
      valued_ok quoted_kind (before k 61 (q ∷ (v ++ (q ∷ []))) (omega arith) p) h (before v q [] (quote_low q g) (behind [] q (v ++ (q ∷ [])) (quote_low q g) y (omega arith))) (all_parts not_lf v (q ∷ []) b).0
  token_ok (IsToken.bare {n = n} h) p f = by_name_lem p (bare_key n h) texts.Empty bare_value (Put.class (value_of texts.Empty) ∷ []) bare_class

  -- ---- all items
  last_part : (m : Mode) {at : ℕ} {t rest : List ℕ} (e : List ℕ) → all (is_blank m) e ≡ true → Part w at (t ++ e) rest → Part w at t (e ++ rest)
  unfolding all
  last_part m [] h p = rw append-nil at p
  last_part m {t = t} (b ∷ e) h p = before t b e (blank_low m b (both (is_blank m b) (all (is_blank m) e) h).0) p

  chain_ok : {m : Mode} {at : ℕ} {s : List ℕ} {is : List Placed} → Chain m at s is → {rest : List ℕ} → Part w at s rest → no_lf s ≡ true → all (put_ok (one w)) (puts_in is) ≡ true
  unfolding no_lf all puts_in flat_map
  chain_ok {m} (Chain.blank {b = b} {s = s} h c) p f = chain_ok c (behind [] b s (blank_low m b h) p (omega arith)) (both (not_lf b) (all not_lf s) f).1
  chain_ok {m} {at} (Chain.last {t = t} {e = e} {i = i} h b) p f =
      all_append (put_ok (one w)) (puts_of at i) [] (token_ok h (last_part m e b.each p) (all_parts not_lf t e f).0) refl
  chain_ok {m} {at} (Chain.more {t = t} {s = s} {i = i} {is = is} b h q c) p f =
      let g = all_parts not_lf t (b ∷ s) f in
      all_append (put_ok (one w)) (puts_of at i) (puts_in is) (token_ok h (before t b s (blank_low m b q) p) g.0)
      (chain_ok c (behind t b s (blank_low m b q) p refl) (both (not_lf b) (all not_lf s) g.1).1)

  -- the payload s stands in w at `at`
  pub items_ok : {m : Mode} {at : ℕ} {s rest : List ℕ} {is : List Placed} → Payload m at s is → Part w at s rest → no_lf s ≡ true → all (put_ok (one w)) (puts_in is) ≡ true
  items_ok h p f = chain_ok (payload_chain h) p f

  -- items one after the other
  pub more_ok : (is js : List Placed) → all (put_ok (one w)) (puts_in is) ≡ true → all (put_ok (one w)) (puts_in js) ≡ true → all (put_ok (one w)) (puts_in (is ++ js)) ≡ true
  unfolding puts_in
  more_ok is js h k = rw (flat_append (λ p. puts_of p.at p.item) is js) (all_append (put_ok (one w)) (puts_in is) (puts_in js) h k)
