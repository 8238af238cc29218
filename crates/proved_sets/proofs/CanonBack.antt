-- The canonical text of a well-formed meaning, not empty, is read back to its last byte, and lists the same. So two such texts are equal only where the
-- meanings are.
-- Assumes nothing.
use Rattle.std.specs.Prelude.{Some}
use mathlib.Core.Path.{◌≡◌, refl, ap, sym, ◌∙◌}
use mathlib.Core.Bool.{true, false}
use mathlib.Core.List.{List, [], ◌∷◌, ◌++◌, flat_map}
use Prim.Native.Nat.{ℕ, suc, ◌+◌, ◌-◌}
use native.Mathlib.Omega.{arith}
use lib.ListN.{length, length-append}
use lib.Seq.{take_at}
use Rattle.base_lists.specs.Lists.{all, is_in, is_some}
use Rattle.base_lists.proofs.Scan.{both, all_append}
use Rattle.base_lists.proofs.More.{contra, apart, not_in, all_weaker}
use Rattle.base_bytes.specs.declared.Mode.TheVariants.{Strict}
use Rattle.base_bytes.specs.Bytes.{is_blank, within, is_letter, is_digit, is_alnum, is_name_part, is_quote}
use Rattle.text_names.specs.Names.{is_key}
use Rattle.block_grammar.specs.Grammar.{Item, Placed, IsToken}
use Rattle.block_grammar.specs.Computed.{read_from, read_payload}
use Rattle.block_grammar.specs.Meaning.{Entry, is_class}
use Rattle.proved_grammar.specs.Meaning.{said, puts, entries_of, listed}
use Rattle.block_grammar.specs.Close.{fresh, Covered, no_lf}
use Rattle.block_grammar.specs.ComputedClose.{scan_step, close_from, find_close}
use Rattle.block_grammar.proofs.Bytes.{key_parts}
use Rattle.block_grammar.proofs.Chain.{Chain, no_blanks, chain_payload}
use Rattle.block_grammar.proofs.Payload.{complete}
use Rattle.set_canon.specs.Canon.{escape, Pair, pair_text, more_text, pairs_text, pairs_of, pairs, canon, is_class_value}
use Rattle.proved_sets.specs.Formed.{wf}
use Rattle.proved_sets.proofs.CanonValues.{inside_escape, unescape-escape, all-escape, values_whole}
use Rattle.proved_sets.proofs.CanonParts.{okay, classes_some, some_value, split_wf}
use Rattle.proved_sets.proofs.CanonPuts.{pair_entry, pair_entries, put_together}
use Rattle.proved_sets.proofs.CanonWellFormed.{not_lf}
use Rattle.proved_sets.proofs.CanonAtBrace.{Answer, read_at}
use Rattle.proved_grammar.proofs.Close.{covered_append, close_complete}
use Rattle.proved_sets.specs.Canonical.{SameText, SameMeaning}

-- a pair that stands for itself
record Sure (p : Pair) : Type 0 where
  key : is_key p.name ≡ true
  flat : no_lf p.value ≡ true
  whole : is_class p.name ≡ true → is_class_value p.value ≡ true

data Sures : List Pair → Type 0 where
  none : Sures []
  and : {p : Pair} {ps : List Pair} → Sure p → Sures ps → Sures (p ∷ ps)

-- ======== by the grammar
abbrev pair_item : Pair → Item
pair_item p = Item.quoted p.name 34 (escape p.value)

-- the items of pairs, the first of which stands at `at`
unfoldable items_at : ℕ → List Pair → List Placed
items_at at [] = []
items_at at (p ∷ ps) = record { at = at; item = pair_item p } ∷ items_at (suc (at + length (pair_text p))) ps

pair_token : {p : Pair} → Sure p → IsToken (pair_text p) (pair_item p)
unfolding is_quote is_in
pair_token {p} h = IsToken.quoted h.key refl (inside_escape p.value)

pairs_chain : {p : Pair} {ps : List Pair} (at : ℕ) → Sure p → Sures ps → Chain Strict at (pair_text p ++ more_text ps) (items_at at (p ∷ ps))
unfolding more_text flat_map items_at is_blank is_in
pairs_chain at h Sures.none = Chain.last (pair_token h) (no_blanks Strict)
pairs_chain {p = p} at h (Sures.and {p = p'} {ps = ps} g gs) = Chain.more 32 (pair_token h) refl (pairs_chain {p = p'} {ps = ps} _ g gs)

-- ======== by the meaning
pair_said : {p : Pair} → Sure p → said (pair_item p) ≡ pair_entry p
unfolding said
pair_said {p} h = rw (unescape-escape p.value, values_whole p.name p.value h.whole)

pairs-said : {ps : List Pair} (at : ℕ) → Sures ps → entries_of (items_at at ps) ≡ pair_entries ps
unfolding entries_of items_at pair_entries
pairs-said at Sures.none = refl
pairs-said at (Sures.and h hs) = rw (pair_said h, pairs-said (suc (at + _)) hs)

-- ======== by the search for the close
part_bare : (b : ℕ) → is_name_part b ≡ true → is_in (34 ∷ 39 ∷ 92 ∷ 125 ∷ []) b ≡ false
unfolding is_name_part is_alnum is_letter is_digit within all
part_bare b h = not_in is_name_part (34 ∷ 39 ∷ 92 ∷ 125 ∷ []) b refl h

part_flat : (b : ℕ) → is_name_part b ≡ true → not_lf b ≡ true
unfolding is_name_part is_alnum is_letter is_digit within
part_flat b h = rw (apart is_name_part b 10 h refl)

name_covered : (n : List ℕ) → all is_name_part n ≡ true → Covered n
unfolding all
name_covered [] h = Covered.end
name_covered (b ∷ n) h = let g = both (is_name_part b) (all is_name_part n) h in Covered.byte (part_bare b g.0) (name_covered n g.1)

-- covered, and without LF
pub record Passed (s : List ℕ) : Type 0 where
  pub covered : Covered s
  pub flat : no_lf s ≡ true

passed-append : {s t : List ℕ} → Passed s → Passed t → Passed (s ++ t)
unfolding no_lf
passed-append {s} {t} p q = record { covered = covered_append p.covered q.covered; flat = all_append not_lf s t p.flat q.flat }

passed_byte : {s : List ℕ} (b : ℕ) → is_in (34 ∷ 39 ∷ 92 ∷ 125 ∷ []) b ≡ false → not_lf b ≡ true → Passed s → Passed (b ∷ s)
unfolding no_lf all
passed_byte b h k p = record { covered = Covered.byte h p.covered; flat = rw k p.flat }

passed_none : Passed []
unfolding no_lf all
passed_none = record { covered = Covered.end; flat = refl }

passed_name : (n : List ℕ) → is_key n ≡ true → Passed n
unfolding no_lf
passed_name n h = let k = key_parts n h in record { covered = name_covered n k; flat = all_weaker is_name_part not_lf part_flat n k }

passed_value : (v : List ℕ) → no_lf v ≡ true → Passed (34 ∷ (escape v ++ (34 ∷ [])))
unfolding no_lf all is_quote is_in
passed_value v h = record { covered = Covered.quoted refl (inside_escape v) Covered.end; flat = all_append not_lf (escape v) (34 ∷ []) (all-escape not_lf refl v h) refl }

passed_pair : {p : Pair} → Sure p → Passed (pair_text p)
unfolding is_in
passed_pair {p} h = passed-append (passed_name p.name h.key) (passed_byte 61 refl refl (passed_value p.value h.flat))

passed_more : {ps : List Pair} → Sures ps → Passed (more_text ps)
unfolding more_text flat_map is_in
passed_more Sures.none = passed_none
passed_more (Sures.and h hs) = passed_byte 32 refl refl (passed-append (passed_pair h) (passed_more hs))

closes : {s : List ℕ} → Passed s → (i : ℕ) → close_from (s ++ (125 ∷ [])) fresh i ≡ Some (i + length s)
closes {s} p i = close_complete (record { inside = s; rest = []; whole = refl; place = refl; covered = p.covered; flat = p.flat })

-- ======== the pairs of a well-formed meaning
pairs_of_sure : (n : List ℕ) (vs : List (List ℕ)) → is_key n ≡ true → all no_lf vs ≡ true → (is_class n ≡ true → all is_class_value vs ≡ true) → Sures (pairs_of n vs)
unfolding pairs_of all
pairs_of_sure n [] k f w = Sures.none
pairs_of_sure n (v ∷ vs) k f w =
    let g = both (no_lf v) (all no_lf vs) f in
    Sures.and (record { key = k; flat = g.0; whole = λ c. (both (is_class_value v) (all is_class_value vs) (w c)).0 }) (pairs_of_sure n vs k g.1 (λ c. (both (is_class_value v) (all is_class_value vs) (w c)).1))

sures_append : {ps qs : List Pair} → Sures ps → Sures qs → Sures (ps ++ qs)
sures_append Sures.none g = g
sures_append (Sures.and h hs) g = Sures.and h (sures_append hs g)

pairs_sure : (m : List Entry) → wf m ≡ true → Sures (pairs m)
unfolding pairs flat_map
pairs_sure [] h = Sures.none
pairs_sure (e ∷ m) h =
    let a = split_wf e m h in
    let o = okay e a.head in
    sures_append (pairs_of_sure e.name e.values o.key o.flat (λ c. (classes_some o c).1)) (pairs_sure m a.tail)

pairs_some : (m : List Entry) → wf m ≡ true → (m ≡ [] → ⊥) → pairs m ≡ [] → ⊥
unfolding pairs flat_map pairs_of
pairs_some [] h n e = n refl
pairs_some (a ∷ m) h n e = go a.values (some_value (okay a (split_wf a m h).head)) e
  where
    go : (vs : List (List ℕ)) → is_some vs ≡ true → pairs_of a.name vs ++ pairs m ≡ [] → ⊥
    go [] s q = contra false s refl
    go (v ∷ vs) s q = contra true refl (cc)

-- ======== reading back
back_pairs : (ps : List Pair) (m : List Entry) → (ps ≡ [] → ⊥) → Sures ps → puts [] (pair_entries ps) ≡ m → read_at Strict (123 ∷ (pairs_text ps ++ (125 ∷ []))) 0 ≡ Answer.read m (suc (suc (length (pairs_text ps))))
unfolding read_at find_close pairs_text listed
back_pairs [] m n h e = absurd (n refl)
back_pairs (p ∷ ps) m n (Sures.and h hs) e =
    let t = pair_text p ++ more_text ps in
    let z : suc (1 + length t) ≡ suc (suc (length t)) = omega arith in
    rw (closes (passed-append (passed_pair h) (passed_more hs)) 1, take_at t (125 ∷ []) ((1 + length t) - 1) (omega arith), complete (chain_payload (pairs_chain 1 h hs)), pairs-said 1 (Sures.and h hs), e)
    (ap (λ x. Answer.read m x) z)

pub back : (m : List Entry) → wf m ≡ true → (m ≡ [] → ⊥) → read_at Strict (canon m) 0 ≡ Answer.read m (length (canon m))
unfolding canon
back m h n =
    let z : suc (suc (length (pairs_text (pairs m)))) ≡ suc (length (pairs_text (pairs m) ++ (125 ∷ []))) = omega (arith, length-append (pairs_text (pairs m)) (125 ∷ [])) in
    back_pairs (pairs m) m (pairs_some m h n) (pairs_sure m h) (put_together m h) ∙ ap (λ x. Answer.read m x) z

-- ======== canonical texts are equal exactly when the meanings are
nothing_back : read_at Strict (canon []) 0 ≡ Answer.refused 5
unfolding read_at canon pairs flat_map pairs_text find_close close_from scan_step read_payload read_from is_quote is_in
nothing_back = refl

not_nil : {e : Entry} {m : List Entry} → ◌≡◌ {A = List Entry} (e ∷ m) [] → ⊥
not_nil q = contra true refl (cc)

pub same_text : SameText
same_text [] [] h h' e = refl
same_text [] (f ∷ m') h h' e = let b : Answer.refused 5 ≡ Answer.read (f ∷ m') (length (canon (f ∷ m'))) = sym nothing_back ∙ (rw e (back (f ∷ m') h' not_nil)) in cc
same_text (f ∷ m) [] h h' e = let b : Answer.read (f ∷ m) (length (canon (f ∷ m))) ≡ Answer.refused 5 = sym (back (f ∷ m) h not_nil) ∙ (rw e nothing_back) in cc
same_text (f ∷ m) (f' ∷ m') h h' e = let b : Answer.read (f ∷ m) (length (canon (f ∷ m))) ≡ Answer.read (f' ∷ m') (length (canon (f' ∷ m'))) = sym (back (f ∷ m) h not_nil) ∙ (rw e (back (f' ∷ m') h' not_nil)) in cc

pub same-meaning : SameMeaning
same-meaning m m' e = ap canon e
