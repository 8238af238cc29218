-- Put in slot by slot, value by value, a well-formed meaning comes together again.
-- Assumes nothing.
use mathlib.Core.Path.{◌≡◌, refl, ap, ◌∙◌}
use mathlib.Core.Bool.{Bool, true, false, not, ◌&&◌}
use mathlib.Core.List.{List, [], ◌∷◌, ◌++◌, append-nil, append_assoc, flat_map}
use Prim.Native.Nat.{ℕ}
use borrow.Author.Tests.{not-true}
use Rattle.base_lists.specs.Lists.{all, same}
use Rattle.base_lists.proofs.Scan.{both}
use Rattle.base_lists.proofs.Same.{same_refl}
use Rattle.base_lists.proofs.More.{contra, same_sym}
use Rattle.block_grammar.specs.Meaning.{Entry, is_class}
use Rattle.proved_grammar.specs.Meaning.{put, puts, absent}
use Rattle.proved_grammar.proofs.Views.{put_new, puts-append}
use Rattle.set_canon.specs.Canon.{Pair, pairs_of, pairs}
use Rattle.proved_sets.specs.Formed.{is_one, wf}
use Rattle.proved_sets.proofs.CanonParts.{Okay, okay, one_value, some_value, split_wf}

-- a pair as one entry
abbrev pub pair_entry : Pair → Entry
pair_entry p = record { name = p.name; values = p.value ∷ [] }

unfoldable pub pair_entries : List Pair → List Entry
pair_entries [] = []
pair_entries (p ∷ ps) = pair_entry p ∷ pair_entries ps

entries_append : (ps qs : List Pair) → pair_entries (ps ++ qs) ≡ pair_entries ps ++ pair_entries qs
unfolding pair_entries
entries_append [] qs = refl
entries_append (p ∷ ps) qs = rw (entries_append ps qs)

-- classes of the last slot are met again
put_last : (m : List Entry) (n : List ℕ) (us vs : List (List ℕ)) → absent n m ≡ true → is_class n ≡ true → put (m ++ (record { name = n; values = us } ∷ [])) (record { name = n; values = vs }) ≡ m ++ (record { name = n; values = us ++ vs } ∷ [])
unfolding put absent all
put_last [] n us vs h c = rw (same_refl n, c)
put_last (f ∷ m) n us vs h c =
    let g = both (not (same f.name n)) (absent n m) h in
    rw (not-true (same f.name n) g.0, put_last m n us vs g.1 c)

put_classes : (m : List Entry) (n : List ℕ) (us vs : List (List ℕ)) → absent n m ≡ true → is_class n ≡ true → puts (m ++ (record { name = n; values = us } ∷ [])) (pair_entries (pairs_of n vs)) ≡ m ++ (record { name = n; values = us ++ vs } ∷ [])
unfolding puts pairs_of pair_entries
put_classes m n us [] h c = rw append-nil
put_classes m n us (v ∷ vs) h c = ap (λ x. puts x (pair_entries (pairs_of n vs))) (put_last m n us (v ∷ []) h c) ∙ put_classes m n (us ++ (v ∷ [])) vs h c ∙ rw append_assoc

one_only : (v : List ℕ) (vs : List (List ℕ)) → is_one (v ∷ vs) ≡ true → vs ≡ []
one_only v [] h = refl
one_only v (w ∷ vs) h = contra false h refl

-- the pairs of one entry
put_entry_lem : (m : List Entry) (n : List ℕ) (vs : List (List ℕ)) → absent n m ≡ true → Okay n vs → puts m (pair_entries (pairs_of n vs)) ≡ m ++ (record { name = n; values = vs } ∷ [])
unfolding puts pairs_of pair_entries
put_entry_lem m n [] h o = contra false (some_value o) refl
put_entry_lem m n (v ∷ vs) h o = go (is_class n) refl
  where
    go : (x : Bool) → is_class n ≡ x → puts (put m (record { name = n; values = v ∷ [] })) (pair_entries (pairs_of n vs)) ≡ m ++ (record { name = n; values = v ∷ vs } ∷ [])
    go true c = rw (put_new m (record { name = n; values = v ∷ [] }) h, put_classes m n (v ∷ []) vs h c)
    go false c = rw (put_new m (record { name = n; values = v ∷ [] }) h, one_only v vs (one_value o c))

-- ---- slot by slot

-- no name of m stands in acc
unfoldable pub strange : List Entry → List Entry → Bool
strange acc [] = true
strange acc (e ∷ m) = absent e.name acc && strange acc m

absent-append : (n : List ℕ) (m : List Entry) (e : Entry) → absent n m ≡ true → same e.name n ≡ false → absent n (m ++ (e ∷ [])) ≡ true
unfolding absent all
absent-append n [] e h k = rw k
absent-append n (f ∷ m) e h k = let g = both (not (same f.name n)) (absent n m) h in rw g.0 (absent-append n m e g.1 k)

pub strange_append : (acc m : List Entry) (e : Entry) → strange acc m ≡ true → absent e.name m ≡ true → strange (acc ++ (e ∷ [])) m ≡ true
unfolding strange absent all
strange_append acc [] e h k = refl
strange_append acc (f ∷ m) e h k =
    let g = both (absent f.name acc) (strange acc m) h in
    let l = both (not (same f.name e.name)) (absent e.name m) k in
    rw (absent-append f.name acc e g.0 (same_sym e.name f.name ∙ not-true (same f.name e.name) l.0)) (strange_append acc m e g.1 l.1)

together : (acc m : List Entry) → wf m ≡ true → strange acc m ≡ true → puts acc (pair_entries (pairs m)) ≡ acc ++ m
unfolding pairs flat_map pair_entries puts strange
together acc [] h k = rw append-nil
together acc (e ∷ m) h k =
    let a = split_wf e m h in
    let g = both (absent e.name acc) (strange acc m) k in
    rw (entries_append (pairs_of e.name e.values) (pairs m), puts-append acc (pair_entries (pairs_of e.name e.values)) (pair_entries (pairs m)), put_entry_lem acc e.name e.values g.0 (okay e a.head), together (acc ++ (e ∷ [])) m a.tail (strange_append acc m e g.1 a.new), append_assoc)

pub nothing_strange : (m : List Entry) → strange [] m ≡ true
unfolding strange absent all
nothing_strange [] = refl
nothing_strange (e ∷ m) = nothing_strange m

pub put_together : (m : List Entry) → wf m ≡ true → puts [] (pair_entries (pairs m)) ≡ m
put_together m h = together [] m h (nothing_strange m)
