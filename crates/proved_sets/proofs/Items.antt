-- What the items of a payload put, as ranges of a text that they stand in, is what they say: so the rows of what was read list the fold of the items.
-- Assumes nothing.
use mathlib.Core.Path.{◌≡◌, refl, sym, ◌∙◌, ap}
use mathlib.Core.Bool.{Bool, true, false, cond}
use mathlib.Core.List.{List, [], ◌∷◌, ◌++◌, map, map-append, map-id, append_assoc, flat_map}
use Prim.Native.Nat.{ℕ, ◌+◌, ◌-◌, ◌<◌, ◌≤◌}
use native.Mathlib.Omega.{arith}
use lib.ListN.{length, take, drop, length-append, length-take, length-drop, take-append-drop}
use lib.Seq.{slice, take-append_seam, take-take, length-take-le}
use Rattle.base_lists.specs.Lists.{all, same}
use Rattle.base_lists.proofs.Parts.{slice_part, slice_add, drop_past}
use Rattle.base_lists.proofs.Scan.{all_append}
use Rattle.base_lists.proofs.Same.{same_refl, same_true}
use Rattle.base_lists.proofs.More.{contra}
use Rattle.base_bytes.specs.declared.Mode.{Mode}
use Rattle.text_escapes.specs.Unescape.{unescape}
use Rattle.block_grammar.specs.Grammar.{Item, Placed, Reading}
use Rattle.block_grammar.specs.Computed.{text, read_from, read_payload}
use Rattle.block_grammar.specs.Meaning.{Entry, PieceAt, piece_ranges, id_name, class_name, or_whole, is_class, lookup, fresh_after}
use Rattle.proved_grammar.specs.Meaning.{pieces_from, classes_of, values_of, said, with_values, put, puts, entries_of, listed, meaning}
use Rattle.block_grammar.proofs.Payload.{sound}
use Rattle.proved_grammar.proofs.Pieces.{cut, cut_pieces, unescapes, pieces_unescape}
use Rattle.proved_grammar.proofs.Views.{puts-append, put_same, put_other, put_slots}
use Rattle.proved_sets.specs.Read.{LastWins, ReadLists}
use Rattle.proved_grammar.proofs.Places.{Standing, standing}
use Rattle.set_table.specs.Types.{one, range_bytes, name_bytes, text_bytes, value_bytes}
use Rattle.set_table.specs.Rows.{Rows, Put, no_rows, with_puts, meant}
use Rattle.set_table.specs.Puts.{value_of, piece_of, by_name, valued, puts_of, puts_in}
use Rattle.set_table.specs.Shape.{is_free, Shaped}
use Rattle.set_table.specs.declared.Origin.TheVariants.{First}
use Rattle.set_table.specs.declared.Text.{Text}
use Rattle.set_table.specs.declared.Text.TheVariants as texts
use Rattle.set_table.specs.declared.Name.TheVariants as name
use Rattle.set_table.proofs.Puts.{is_allowed}
use Rattle.proved_sets.proofs.Shaping.{put_entry}
use Rattle.proved_sets.proofs.TableMeant.{shaped_none, shaped_puts, puts-meant}
use Rattle.block_grammar.proofs.Fresh.{kept_twice, kept_joined}
use Rattle.block_grammar.proofs.Once.{once_lookup}
use Rattle.proved_grammar.proofs.Once.{once_slots, once_absent}

-- ======== classes put one by one
abbrev pub entry : List ℕ → List (List ℕ) → Entry
entry n vs = record { name = n; values = vs }

-- two puts of classes are one of both
pub put_join : (m : List Entry) (n : List ℕ) (vs ws : List (List ℕ)) → is_class n ≡ true → put (put m (entry n vs)) (entry n ws) ≡ put m (entry n (vs ++ ws))
unfolding put
put_join [] n vs ws h = rw (same_refl n, h)
put_join (e ∷ m) n vs ws h = go (same e.name n) refl (put_join m n vs ws h)
  where
    go : (b : Bool) → same e.name n ≡ b → put (put m (entry n vs)) (entry n ws) ≡ put m (entry n (vs ++ ws))
        → put (cond b (with_values e vs ∷ m) (e ∷ put m (entry n vs))) (entry n ws) ≡ cond b (with_values e (vs ++ ws) ∷ m) (e ∷ put m (entry n (vs ++ ws)))
    go true q ih = rw (q, same_true e.name n q, h, append_assoc)
    go false q ih = rw (q, ih)

pub classes_puts : (vs : List (List ℕ)) (v : List ℕ) (m : List Entry) → puts m (map (λ u. entry class_name (u ∷ [])) (v ∷ vs)) ≡ put m (entry class_name (v ∷ vs))
unfolding puts is_class same
classes_puts [] v m = refl
classes_puts (w ∷ vs) v m = classes_puts vs w (put m (entry class_name (v ∷ []))) ∙ put_join m class_name (v ∷ []) (w ∷ vs) refl

-- ======== a part of a text, by its range
range_is : (w b c : List ℕ) (from : ℕ) → drop from w ≡ b ++ c → range_bytes (one w) First from (from + length b) ≡ b
unfolding range_bytes
range_is w b c from d = rw (slice_add from (length b) w, d, take-append_seam b c)

unescapes-map : (ps : List (List ℕ)) → unescapes ps ≡ map unescape ps
unescapes-map [] = refl
unescapes-map (p ∷ ps) = rw (unescapes-map ps)

-- ======== the puts ps, over the text w, say the entry e
record Says (w : List ℕ) (ps : List Put) (e : Entry) : Type 0 where
  means : (m : List Entry) → puts m (map (put_entry (one w)) ps) ≡ put m e
  allowed : all (is_allowed (one w)) ps ≡ true

module _ (w : List ℕ) where
  -- under the name k, which stands at `at`, the text x says its bytes u, or its classes if the name is `class`
  by_name_lem : (at : ℕ) (k rest : List ℕ) → drop at w ≡ k ++ rest → (x : Text) (u : List ℕ) → text_bytes (one w) x ≡ u
      → (classes : List Put) → Says w classes (entry class_name (classes_of u)) → Says w (by_name at k x classes) (entry k (values_of k u))
  unfolding puts put_entry by_name values_of is_class same name_bytes value_bytes all is_allowed is_free
  by_name_lem at k rest d x u e classes c = go (same k id_name) refl (same k class_name) refl
    where
      go : (a : Bool) → same k id_name ≡ a → (b : Bool) → same k class_name ≡ b
          → Says w (cond a (Put.ident (value_of x) ∷ []) (cond b classes (Put.key (name.Range First at (at + length k)) (value_of x) ∷ []))) (entry k (cond b (classes_of u) (u ∷ [])))
      go true p true q = contra (same k class_name) q (rw (same_true k id_name p))
      go true p false q = record { means = λ m. rw (e, same_true k id_name p); allowed = refl }
      go false p true q = record { means = λ m. rw (same_true k class_name q) (c.means m); allowed = c.allowed }
      go false p false q = record { means = λ m. rw (e, range_is w k rest at d); allowed = rw (range_is w k rest at d, p, q) }

  -- a value, read by the function f: itself, or unescaped
  module _ (kind : ℕ → ℕ → Text) (f : List ℕ → List ℕ) (reads : (a b : ℕ) → text_bytes (one w) (kind a b) ≡ f (range_bytes (one w) First a b))
      (splits : (v : List ℕ) → pieces_from [] (f v) ≡ map f (pieces_from [] v)) where
    pieces : (rs : List PieceAt) → map (put_entry (one w)) (map (piece_of kind) rs) ≡ map (λ u. entry class_name (u ∷ [])) (map f (cut w rs))
    unfolding put_entry value_bytes range_bytes
    pieces [] = refl
    pieces (r ∷ rs) = rw (reads r.from r.to, slice_part r.from r.to w, pieces rs)

    pieces_allowed : (rs : List PieceAt) → all (is_allowed (one w)) (map (piece_of kind) rs) ≡ true
    unfolding all is_allowed
    pieces_allowed [] = refl
    pieces_allowed (r ∷ rs) = pieces_allowed rs

    -- the value v of the key k stands at `from`
    value_says : (at : ℕ) (k rest : List ℕ) → drop at w ≡ k ++ rest → (from : ℕ) (v post : List ℕ) → drop from w ≡ v ++ post
        → Says w (valued at k kind from v) (entry k (values_of k (f v)))
    unfolding valued classes_of puts put_entry value_bytes all is_allowed
    value_says at k rest d from v post e =
        let c : Says w (or_whole (Put.class (value_of (kind from (from + length v)))) (map (piece_of kind) (piece_ranges from from v))) (entry class_name (classes_of (f v))) = rw (splits v, ← cut_pieces w post v from e) (go (piece_ranges from from v)) in
        by_name_lem at k rest d (kind from (from + length v)) (f v) is (or_whole (Put.class (value_of (kind from (from + length v)))) (map (piece_of kind) (piece_ranges from from v))) c
      where
        is : text_bytes (one w) (kind from (from + length v)) ≡ f v
        is = rw (reads from (from + length v), range_is w v post from e)

        go : (rs : List PieceAt) → Says w (or_whole (Put.class (value_of (kind from (from + length v)))) (map (piece_of kind) rs)) (entry class_name (or_whole (f v) (map f (cut w rs))))
        go [] = record { means = λ m. rw is; allowed = refl }
        go (r ∷ rs) = record { means = λ m. ap (puts m) (pieces (r ∷ rs)) ∙ classes_puts (map f (cut w rs)) (f (take (r.to - r.from) (drop r.from w))) m; allowed = pieces_allowed rs }

  -- ---- each item
  word : (c at : ℕ) (n rest : List ℕ) → drop at w ≡ c ∷ (n ++ rest) → range_bytes (one w) First (at + 1) (at + 1 + length n) ≡ n
  word c at n rest d = range_is w n rest (at + 1) (drop_past w (c ∷ []) (n ++ rest) at (at + 1) d refl)

  says : (at : ℕ) (i : Item) (rest : List ℕ) → drop at w ≡ text i ++ rest → Says w (puts_of at i) (said i)
  unfolding text puts_of said puts put_entry value_bytes name_bytes all is_allowed is_free same classes_of pieces_from
  says at (Item.tag t) rest d = record { means = λ m. rw (word 58 at t rest d); allowed = refl }
  says at (Item.id n) rest d = record { means = λ m. rw (word 35 at n rest d); allowed = refl }
  says at (Item.class n) rest d = record { means = λ m. rw (word 46 at n rest d); allowed = refl }
  says at (Item.plain k v) rest d =
      let e : drop (at + length k + 1) w ≡ v ++ rest = drop_past w (k ++ (61 ∷ [])) (v ++ rest) at (at + length k + 1) (d ∙ simp append_assoc) (omega (arith, length-append k (61 ∷ []))) in
      value_says (λ a b. texts.Plain First a b) (λ v. v) (λ a b. refl) (λ v. sym (map-id (pieces_from [] v))) at k ((61 ∷ v) ++ rest) (d ∙ simp append_assoc) (at + length k + 1) v rest e
  says at (Item.quoted k q v) rest d =
      let e : drop (at + length k + 2) w ≡ v ++ ((q ∷ []) ++ rest) = drop_past w (k ++ (61 ∷ (q ∷ []))) (v ++ ((q ∷ []) ++ rest)) at (at + length k + 2) (d ∙ simp append_assoc) (omega (arith, length-append k (61 ∷ (q ∷ [])))) in
      value_says (λ a b. texts.Quoted First a b) unescape (λ a b. refl) (λ v. pieces_unescape v ∙ unescapes-map (pieces_from [] v)) at k ((61 ∷ (q ∷ (v ++ (q ∷ [])))) ++ rest) (d ∙ simp append_assoc) (at + length k + 2) v ((q ∷ []) ++ rest) e
  says at (Item.bare n) rest d = by_name_lem at n rest d texts.Empty [] refl (Put.class (value_of texts.Empty) ∷ []) (record { means = λ m. refl; allowed = refl })

-- ======== all items
pub items_allowed : {w : List ℕ} {is : List Placed} → Standing w is → all (is_allowed (one w)) (puts_in is) ≡ true
unfolding puts_in flat_map all
items_allowed Standing.none = refl
items_allowed {w} (Standing.and {p = p} {is = is} rest d h) = all_append (is_allowed (one w)) (puts_of p.at p.item) (puts_in is) (says w p.at p.item rest d).allowed (items_allowed h)

pub items_mean : {w : List ℕ} {is : List Placed} → Standing w is → (m : List Entry) → puts m (map (put_entry (one w)) (puts_in is)) ≡ puts m (entries_of is)
unfolding puts_in flat_map entries_of puts
items_mean Standing.none m = refl
items_mean {w} (Standing.and {p = p} {is = is} rest d h) m =
    rw (map-append, puts-append, (says w p.at p.item rest d).means m) (items_mean h (put m (said p.item)))

-- items put into a set add what they say to what it lists
module _ {w : List ℕ} {is : List Placed} (h : Standing w is) where
  pub rows_more : {s : Rows} → Shaped (one w) s → meant (one w) (with_puts (one w) s (puts_in is)) ≡ puts (meant (one w) s) (entries_of is)
  rows_more {s} g = puts-meant g (puts_in is) (items_allowed h) ∙ items_mean h (meant (one w) s)

  pub rows_shaped : {s : Rows} → Shaped (one w) s → Shaped (one w) (with_puts (one w) s (puts_in is))
  rows_shaped g = shaped_puts g (puts_in is) (items_allowed h)

  pub rows_list : meant (one w) (with_puts (one w) no_rows (puts_in is)) ≡ listed is
  unfolding listed meant
  rows_list = rows_more (shaped_none (one w))

-- ======== a payload that is read from `at` up to `end` of a text
payload_long : (m : Mode) (at : ℕ) (s : List ℕ) (is : List Placed) → read_payload m at s ≡ Reading.items is → 0 < length s
unfolding read_payload read_from
payload_long m at [] is e = contra true refl (cc)
payload_long m at (b ∷ s) is e = omega arith

pub payload_stands : (m : Mode) (t : List ℕ) (at end : ℕ) (is : List Placed) → read_payload m at (slice at end t) ≡ Reading.items is → Standing t is
payload_stands m t at end is e =
    let h : (at < end) × (at ≤ length t) = omega (arith, payload_long m at (slice at end t) is e, length-drop at (take end t), length-take end t) in
    let w : take at t ++ (slice at end t ++ drop end t) ≡ t = sym (append_assoc (take at t) (slice at end t) (drop end t))
    ∙ ap (λ l. (l ++ slice at end t) ++ drop end t) (sym (take-take at end t (omega arith))) ∙ (rw (take-append-drop at (take end t), take-append-drop end t)) in
    rw w at (standing (sound m at (slice at end t) is e) (take at t) (drop end t) (length-take-le at t h.1))

pub read_lists : ReadLists
read_lists m t at end is e = rows_list (payload_stands m t at end is e)

-- ======== what one item more changes
more_listed : (is : List Placed) (p : Placed) → listed (is ++ (p ∷ [])) ≡ put (listed is) (said p.item)
unfolding listed entries_of puts
more_listed is p = rw (map-append, puts-append)

-- what is said under its own name, each class once
own_once : (xs ys : List (List ℕ)) (b : Bool) → cond b (fresh_after [] (cond b (xs ++ ys) ys)) (cond b (xs ++ ys) ys) ≡ cond b (fresh_after [] (cond b (fresh_after [] xs) xs ++ ys)) ys
own_once xs ys true = sym (kept_joined xs ys) ∙ (rw (kept_twice xs) at (kept_joined (fresh_after [] xs) ys))
own_once xs ys false = refl

pub last_wins : LastWins
unfolding meaning
last_wins is p =
    let e = said p.item in
    let m = listed is in
    let n = e.name in
    record {
      own = rw (more_listed is p, once_lookup n (put m e), once_lookup n m, put_same m e) (own_once (lookup n m) e.values (is_class n));
      others = λ k h. rw (more_listed is p, once_lookup k (put m e), once_lookup k m, put_other m e k h);
      slots = rw (more_listed is p, once_slots (put m e), once_slots m, once_absent n m) (put_slots m e);
    }
