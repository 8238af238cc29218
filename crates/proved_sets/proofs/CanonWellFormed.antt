-- What is read from a payload without LF is well-formed, and not empty; putting keeps it so.
-- Assumes nothing.
use mathlib.Core.Path.{◌≡◌, refl, ◌∙◌}
use mathlib.Core.Bool.{Bool, true, false, not, ◌&&◌, ◌||◌, cond}
use mathlib.Core.List.{List, [], ◌∷◌, ◌++◌}
use Prim.Native.Nat.{ℕ}
use lib.Dec.{eqb}
use Rattle.base_lists.specs.Lists.{all, headed, same, is_some}
use Rattle.base_lists.proofs.Scan.{both, all_append}
use Rattle.base_lists.proofs.Same.{same_true}
use Rattle.base_lists.proofs.More.{contra, or_right, not_in, all_parts, all_weaker}
use Rattle.base_lists.proofs.Each.{some_append}
use Rattle.base_bytes.specs.declared.Mode.{Mode}
use Rattle.base_bytes.specs.Bytes.{within, is_letter, is_digit, is_alnum, is_name_part, is_key_start, is_space}
use Rattle.text_names.specs.Names.{is_name, is_key}
use Rattle.text_escapes.specs.Unescape.{unescape}
use Rattle.text_escapes.proofs.Pieces.{no_lf_lem}
use Rattle.block_grammar.specs.Grammar.{Item, Placed, IsToken, Payload}
use Rattle.block_grammar.specs.Meaning.{Entry, lang_name, id_name, class_name, or_whole, is_class}
use Rattle.proved_grammar.specs.Meaning.{flush, pieces_from, classes_of, values_of, said, with_values, put, puts, entries_of, listed, distinct}
use Rattle.block_grammar.specs.Close.{no_lf}
use Rattle.block_grammar.proofs.Bytes.{name_parts, bare_key}
use Rattle.block_grammar.proofs.Chain.{Chain, payload_chain}
use Rattle.proved_grammar.proofs.Views.{put-distinct, put_some}
use Rattle.set_canon.specs.Canon.{is_class_value}
use Rattle.proved_sets.specs.Formed.{values_ok, entry_ok, wf}
use Rattle.proved_sets.proofs.CanonParts.{Okay, okay, entry_ok_lem, classes_some, classes_ok, value_ok_lem, joined}

abbrev pub not_lf : ℕ → Bool
not_lf b = not (eqb b 10)

abbrev pub solid : ℕ → Bool
solid b = not (is_space b)

-- ---- pieces
all-flush : (g : List ℕ → Bool) (c : List ℕ) (ps : List (List ℕ)) → g c ≡ true → all g ps ≡ true → all g (flush c ps) ≡ true
unfolding all
all-flush g [] ps h k = k
all-flush g (a ∷ c) ps h k = rw h k

-- each byte of a piece passes, where each byte of the value that isn't whitespace does
all_pieces : (f : ℕ → Bool) (c s : List ℕ) → all f c ≡ true → all (λ b. is_space b || f b) s ≡ true → all (all f) (pieces_from c s) ≡ true
unfolding pieces_from all
all_pieces f c [] h k = all-flush (all f) c [] h refl
all_pieces f c (b ∷ s) h k =
    let g = both (is_space b || f b) (all (λ b. is_space b || f b) s) k in
    go (is_space b) g.0 (all_pieces f [] s refl g.1) (λ p. all_pieces f (c ++ (b ∷ [])) s (all_append f c (b ∷ []) h (rw p)) g.1)
  where
    go : (x : Bool) → (x || f b) ≡ true → all (all f) (pieces_from [] s) ≡ true → (f b ≡ true → all (all f) (pieces_from (c ++ (b ∷ [])) s) ≡ true) → all (all f) (cond x (flush c (pieces_from [] s)) (pieces_from (c ++ (b ∷ [])) s)) ≡ true
    go true p i j = all-flush (all f) c (pieces_from [] s) h i
    go false p i j = j p

or_not : (a : Bool) → (a || not a) ≡ true
or_not true = refl
or_not false = refl

anything : (s : List ℕ) → all (λ b. is_space b || solid b) s ≡ true
unfolding all
anything [] = refl
anything (b ∷ s) = rw (or_not (is_space b)) (anything s)

-- a piece that was begun is there
begun-flush : (c : List ℕ) (b : ℕ) (ps : List (List ℕ)) → flush (c ++ (b ∷ [])) ps ≡ [] → ⊥
begun-flush [] b ps e = contra true refl (cc)
begun-flush (a ∷ c) b ps e = contra true refl (cc)

begun : (c s : List ℕ) (b : ℕ) → pieces_from (c ++ (b ∷ [])) s ≡ [] → ⊥
unfolding pieces_from
begun c [] b e = begun-flush c b [] e
begun c (d ∷ s) b e = go (is_space d) e (begun (c ++ (b ∷ [])) s d)
  where
    go : (x : Bool) → cond x (flush (c ++ (b ∷ [])) (pieces_from [] s)) (pieces_from ((c ++ (b ∷ [])) ++ (d ∷ [])) s) ≡ [] → (pieces_from ((c ++ (b ∷ [])) ++ (d ∷ [])) s ≡ [] → ⊥) → ⊥
    go true e ih = begun-flush c b (pieces_from [] s) e
    go false e ih = ih e

-- with no piece there is nothing but whitespace
no_pieces : (s : List ℕ) → pieces_from [] s ≡ [] → all is_space s ≡ true
unfolding pieces_from all
no_pieces [] e = refl
no_pieces (b ∷ s) e = go (is_space b) refl e (no_pieces s)
  where
    go : (x : Bool) → is_space b ≡ x → cond x (pieces_from [] s) (pieces_from (b ∷ []) s) ≡ [] → (pieces_from [] s ≡ [] → all is_space s ≡ true) → (is_space b && all is_space s) ≡ true
    go true p e ih = rw p (ih e)
    go false p e ih = absurd (begun [] s b e)

pub solid_class : (v : List ℕ) → all solid v ≡ true → is_class_value v ≡ true
unfolding is_class_value
solid_class v h = rw h

pub white_class : (v : List ℕ) → all is_space v ≡ true → is_class_value v ≡ true
unfolding is_class_value
white_class v h = or_right (all solid v) (all is_space v) h

-- what the classes of a value are
record Classes (vs : List (List ℕ)) : Type 0 where
  some : is_some vs ≡ true
  flat : all no_lf vs ≡ true
  whole : all is_class_value vs ≡ true

classes_good : (v : List ℕ) → no_lf v ≡ true → Classes (classes_of v)
unfolding classes_of all no_lf
classes_good v h =
    go (pieces_from [] v) refl
    (all_pieces not_lf [] v refl (all_weaker not_lf (λ b. is_space b || not_lf b) (λ b p. or_right (is_space b) (not_lf b) p) v h))
    (all_weaker (all solid) is_class_value solid_class (pieces_from [] v) (all_pieces solid [] v refl (anything v)))
  where
    go : (ps : List (List ℕ)) → pieces_from [] v ≡ ps → all (all not_lf) (pieces_from [] v) ≡ true → all is_class_value (pieces_from [] v) ≡ true → Classes (or_whole v ps)
    go [] e i j = record { some = refl; flat = rw h; whole = rw (white_class v (no_pieces v e)) }
    go (p ∷ ps) e i j = record { some = refl; flat = rw e at i; whole = rw e at j }

-- ---- entries
value_good : (n v : List ℕ) → is_key n ≡ true → no_lf v ≡ true → entry_ok (record { name = n; values = values_of n v }) ≡ true
unfolding values_of all
value_good n v k f = go (is_class n) refl (classes_good v f)
  where
    go : (x : Bool) → is_class n ≡ x → Classes (classes_of v) → entry_ok (record { name = n; values = cond x (classes_of v) (v ∷ []) }) ≡ true
    go true p c = entry_ok_lem (record { name = n; values = classes_of v }) (record { key = k; flat = c.flat; shape = classes_ok n (classes_of v) p c.some c.whole })
    go false p c = entry_ok_lem (record { name = n; values = v ∷ [] }) (record { key = k; flat = rw f; shape = value_ok_lem n v p })

one_good : (n v : List ℕ) → is_key n ≡ true → no_lf v ≡ true → (is_class n ≡ true → is_class_value v ≡ true) → entry_ok (record { name = n; values = v ∷ [] }) ≡ true
unfolding all
one_good n v k f w = entry_ok_lem (record { name = n; values = v ∷ [] }) (record { key = k; flat = rw f; shape = go (is_class n) refl })
  where
    go : (x : Bool) → is_class n ≡ x → values_ok n (v ∷ []) ≡ true
    go true p = classes_ok n (v ∷ []) p refl (rw (w p))
    go false p = value_ok_lem n v p

part_solid : (b : ℕ) → is_name_part b ≡ true → solid b ≡ true
unfolding is_space is_name_part is_alnum is_letter is_digit within all
part_solid b h = rw (not_in is_name_part (32 ∷ 9 ∷ 10 ∷ 12 ∷ 13 ∷ []) b refl h)

pub name_class : (n : List ℕ) → is_name n ≡ true → is_class_value n ≡ true
name_class n h = solid_class n (all_weaker is_name_part solid part_solid n (name_parts n h))

said_good : {t : List ℕ} {i : Item} → IsToken t i → no_lf t ≡ true → entry_ok (said i) ≡ true
unfolding said no_lf all is_key headed is_key_start is_name_part is_alnum is_letter is_digit within is_class same
said_good (IsToken.tag {t = t} h) f = one_good lang_name t refl f (λ e. contra false e refl)
said_good (IsToken.id {n = n} h) f = one_good id_name n refl f (λ e. contra false e refl)
said_good (IsToken.class {n = n} h) f = one_good class_name n refl f (λ e. name_class n h)
said_good (IsToken.plain {k = k} {v = v} h g) f = value_good k v h (all_parts not_lf k (61 ∷ v) f).1
said_good (IsToken.quoted {k = k} {q = q} {v = v} h g i) f =
    let a = (all_parts not_lf k (61 ∷ (q ∷ (v ++ (q ∷ [])))) f).1 in
    let b = (both (not_lf q) (all not_lf (v ++ (q ∷ []))) a).1 in
    value_good k (unescape v) h (no_lf_lem v ∙ (all_parts not_lf v (q ∷ []) b).0)
said_good (IsToken.bare {n = n} h) f = value_good n [] (bare_key n h) refl

-- ---- putting
over_good : (n : List ℕ) (us vs : List (List ℕ)) → Okay n us → Okay n vs → entry_ok (record { name = n; values = cond (is_class n) (us ++ vs) vs }) ≡ true
over_good n us vs a b = go (is_class n) refl
  where
    go : (x : Bool) → is_class n ≡ x → entry_ok (record { name = n; values = cond x (us ++ vs) vs }) ≡ true
    go true p =
        let c = classes_some a p in
        let d = classes_some b p in
        entry_ok_lem (record { name = n; values = us ++ vs }) (record { key = a.key; flat = all_append no_lf us vs a.flat b.flat; shape = classes_ok n (us ++ vs) p (some_append us vs c.0) (all_append is_class_value us vs c.1 d.1) })
    go false p = entry_ok_lem (record { name = n; values = vs }) b

put_good : (m : List Entry) (e : Entry) → all entry_ok m ≡ true → entry_ok e ≡ true → all entry_ok (put m e) ≡ true
unfolding all put
put_good [] e h k = rw k
put_good (f ∷ m) e h k =
    let a = both (entry_ok f) (all entry_ok m) h in
    go (same f.name e.name) refl a.0 a.1 (put_good m e a.1 k)
  where
    go : (x : Bool) → same f.name e.name ≡ x → entry_ok f ≡ true → all entry_ok m ≡ true → all entry_ok (put m e) ≡ true → all entry_ok (cond x (with_values f e.values ∷ m) (f ∷ put m e)) ≡ true
    go true p o w i =
        let z : Okay f.name e.values = rw (same_true f.name e.name p) (okay e k) in
        rw (over_good f.name f.values e.values (okay f o) z) w
    go false p o w i = rw o i

pub put-wf : (m : List Entry) (e : Entry) → wf m ≡ true → entry_ok e ≡ true → wf (put m e) ≡ true
unfolding wf
put-wf m e h k =
    let a = both (all entry_ok m) (distinct m) h in
    joined (put m e) (put_good m e a.0 k) (put-distinct m e a.1)

-- merged
pub puts-wf : (m es : List Entry) → wf m ≡ true → all entry_ok es ≡ true → wf (puts m es) ≡ true
unfolding puts all
puts-wf m [] h k = h
puts-wf m (e ∷ es) h k = let a = both (entry_ok e) (all entry_ok es) k in puts-wf (put m e) es (put-wf m e h a.0) a.1

-- ---- the theorems
entries_good : {m : Mode} {at : ℕ} {s : List ℕ} {is : List Placed} → Chain m at s is → no_lf s ≡ true → all entry_ok (entries_of is) ≡ true
unfolding no_lf all entries_of
entries_good (Chain.blank {b = b} {s = s} h p) f = entries_good p (both (not_lf b) (all not_lf s) f).1
entries_good (Chain.last {t = t} {e = e} {i = i} h b) f = rw (said_good h (all_parts not_lf t e f).0)
entries_good (Chain.more {t = t} {s = s} {i = i} b h q p) f =
    let g = all_parts not_lf t (b ∷ s) f in
    rw (said_good h g.0) (entries_good p (both (not_lf b) (all not_lf s) g.1).1)

pub read_wf : {m : Mode} {at : ℕ} {s : List ℕ} {is : List Placed} → Payload m at s is → no_lf s ≡ true → wf (listed is) ≡ true
unfolding listed wf all distinct
read_wf {is = is} p f = puts-wf [] (entries_of is) refl (entries_good (payload_chain p) f)

puts_some : (es m : List Entry) → (m ≡ [] → ⊥) → puts m es ≡ [] → ⊥
unfolding puts
puts_some [] m n q = n q
puts_some (e ∷ es) m n q = puts_some es (put m e) (put_some m e) q

chain_some : {m : Mode} {at : ℕ} {s : List ℕ} {is : List Placed} → Chain m at s is → listed is ≡ [] → ⊥
unfolding listed entries_of puts
chain_some (Chain.blank h p) q = chain_some p q
chain_some (Chain.last {i = i} t b) q = put_some [] (said i) q
chain_some (Chain.more {i = i} {is = is} b t h p) q = puts_some (entries_of is) (put [] (said i)) (put_some [] (said i)) q

pub read_some : {m : Mode} {at : ℕ} {s : List ℕ} {is : List Placed} → Payload m at s is → listed is ≡ [] → ⊥
read_some p q = chain_some (payload_chain p) q
