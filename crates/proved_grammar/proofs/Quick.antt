-- The quick test refuses no payload that the grammar accepts: it passes each token, and each blank between them, or leaves the rest to the full reader.
-- Assumes nothing.
use mathlib.Core.Path.{◌≡◌, refl, ap, ◌∙◌}
use mathlib.Core.Bool.{Bool, true, false, not, ◌||◌}
use mathlib.Core.List.{List, [], ◌∷◌, ◌++◌, append_assoc}
use Prim.Native.Nat.{ℕ, ◌≤◌}
use native.Mathlib.Omega.{arith}
use lib.Dec.{eqb, leb}
use borrow.Author.Tests.{eqb-true, ne_eqb, le-leb, lt-leb, leb-true}
use Rattle.base_lists.specs.Lists.{all, headed, is_in}
use Rattle.base_lists.proofs.Scan.{both}
use Rattle.base_lists.proofs.More.{contra, among_not, not_in}
use Rattle.base_bytes.specs.declared.Mode.{Mode}
use Rattle.base_bytes.specs.declared.Mode.TheVariants.{Strict, Loose}
use Rattle.base_bytes.specs.Bytes.{is_blank, within, is_letter, is_digit, is_alnum, is_name_start, is_name_part, is_key_start, is_quote, is_plain}
use Rattle.text_names.specs.Names.{is_name, is_key}
use Rattle.block_grammar.specs.Grammar.{Item, Placed, IsToken, is_value}
use Rattle.block_grammar.specs.Quick.{edge, quick_from, quick_refuses}
use Rattle.block_grammar.specs.declared.Walk.{Walk}
use Rattle.block_grammar.proofs.Bytes.{blank_not, bare_key}
use Rattle.block_grammar.proofs.Chain.{Chain, payload_chain}
use Rattle.proved_grammar.specs.Quick.{QuickPasses}

-- what may follow a token: a blank or the close
data After (m : Mode) : List ℕ → Type 0 where
  blank : (b : ℕ) {s : List ℕ} → is_blank m b ≡ true → After m (b ∷ s)
  close : {s : List ℕ} → After m (125 ∷ s)

-- ---- a blank between tokens is passed, or left to the full reader
edge_blank : (m : Mode) (b : ℕ) (s : List ℕ) → is_blank m b ≡ true → quick_from Walk.Edge s ≡ false → quick_from Walk.Edge (b ∷ s) ≡ false
unfolding quick_from is_blank is_in is_key_start is_letter within
edge_blank Strict b s h e = go (eqb b 32) refl h
  where
    go : (x : Bool) → eqb b 32 ≡ x → (x || false) ≡ true → edge b (λ v. quick_from v s) ≡ false
    go true p h = rw (eqb-true b 32 p) e
    go false p h = contra false h refl
edge_blank Loose b s h e = go (eqb b 32) (eqb b 13) (eqb b 10) refl refl refl h
  where
    go : (x y z : Bool) → eqb b 32 ≡ x → eqb b 13 ≡ y → eqb b 10 ≡ z → (x || (y || (z || false))) ≡ true → edge b (λ v. quick_from v s) ≡ false
    go true y z p q r h = rw (eqb-true b 32 p) e
    go false true z p q r h = rw (eqb-true b 13 q) e
    go false false true p q r h = rw (eqb-true b 10 r)
    go false false false p q r h = contra false h refl

-- ---- the bytes that begin a tag, an id and a class
colon : (t : List ℕ) → quick_from Walk.Edge (58 ∷ t) ≡ false
unfolding quick_from is_in
colon t = refl

hash : (t : List ℕ) → quick_from Walk.Edge (35 ∷ t) ≡ quick_from Walk.Sigil t
unfolding quick_from is_in
hash t = refl

dot : (t : List ℕ) → quick_from Walk.Edge (46 ∷ t) ≡ quick_from Walk.Sigil t
unfolding quick_from is_in
dot t = refl

-- ---- behind a name it stands between tokens again
word_pass : (n t : List ℕ) → all is_name_part n ≡ true → quick_from Walk.Word (n ++ t) ≡ quick_from Walk.Word t
unfolding quick_from all
word_pass [] t e = refl
word_pass (a ∷ n) t e = let g = both (is_name_part a) (all is_name_part n) e in rw g.0 (word_pass n t g.1)

ident_pass : (n t : List ℕ) → all is_name_part n ≡ true → quick_from Walk.Ident (n ++ t) ≡ quick_from Walk.Ident t
unfolding quick_from all
ident_pass [] t e = refl
ident_pass (a ∷ n) t e = let g = both (is_name_part a) (all is_name_part n) e in rw g.0 (ident_pass n t g.1)

not_part : (m : Mode) (b : ℕ) → is_blank m b ≡ true → is_name_part b ≡ false
unfolding all is_name_part is_alnum is_letter is_digit within
not_part m b h = blank_not is_name_part m b refl h

not_equals : (m : Mode) (b : ℕ) → is_blank m b ≡ true → eqb b 61 ≡ false
unfolding all
not_equals m b h = blank_not (λ x. eqb x 61) m b refl h

ident_edge : {m : Mode} {t : List ℕ} → After m t → quick_from Walk.Ident t ≡ quick_from Walk.Edge t
unfolding quick_from is_name_part is_alnum is_letter is_digit within
ident_edge {m} (After.blank b h) = rw (not_part m b h)
ident_edge After.close = refl

word_edge : {m : Mode} {t : List ℕ} → After m t → quick_from Walk.Word t ≡ quick_from Walk.Edge t
unfolding quick_from is_name_part is_alnum is_letter is_digit within
word_edge {m} (After.blank b h) = rw (not_part m b h, not_equals m b h)
word_edge After.close = refl

-- ---- a key's first byte
key_small : (a : ℕ) → is_key_start a ≡ true → leb 128 a ≡ false
unfolding is_key_start is_letter within
key_small a h = go (leb 128 a) refl
  where
    none : 128 ≤ a → is_key_start a ≡ false
    none l = rw (le-leb 65 a (omega arith), lt-leb a 90 (omega arith), le-leb 97 a (omega arith), lt-leb a 122 (omega arith), ne_eqb a 95 (λ e. omega arith))

    go : (x : Bool) → leb 128 a ≡ x → x ≡ false
    go true p = contra (is_key_start a) h (none (leb-true 128 a p))
    go false p = refl

-- it is none of the bytes that are tested before
key_none : (a : ℕ) → is_key_start a ≡ true → (is_in (125 ∷ 10 ∷ 34 ∷ 39 ∷ 92 ∷ 58 ∷ []) a ≡ false) × (is_in (32 ∷ 9 ∷ 13 ∷ []) a ≡ false) × (is_in (35 ∷ 46 ∷ []) a ≡ false)
unfolding all is_key_start is_letter within
key_none a h = (not_in is_key_start (125 ∷ 10 ∷ 34 ∷ 39 ∷ 92 ∷ 58 ∷ []) a refl h, not_in is_key_start (32 ∷ 9 ∷ 13 ∷ []) a refl h, not_in is_key_start (35 ∷ 46 ∷ []) a refl h)

key_word : (a : ℕ) (s : List ℕ) → is_key_start a ≡ true → quick_from Walk.Edge (a ∷ s) ≡ quick_from Walk.Word s
unfolding quick_from
key_word a s h = let n = key_none a h in rw (key_small a h, n.0, n.1, n.2, h)

word : (k t : List ℕ) → is_key k ≡ true → quick_from Walk.Edge (k ++ t) ≡ quick_from Walk.Word t
unfolding is_key headed
word [] t h = contra false h refl
word (a ∷ k) t h =
    let g = both (is_key_start a) (all is_name_part k) h in
    key_word a (k ++ t) g.0 ∙ word_pass k t g.1

name : (n t : List ℕ) → is_name n ≡ true → quick_from Walk.Sigil (n ++ t) ≡ quick_from Walk.Ident t
unfolding is_name headed quick_from
name [] t h = contra false h refl
name (a ∷ n) t h =
    let g = both (is_name_start a) (all is_name_part n) h in
    rw g.0 (ident_pass n t g.1)

-- ---- values
equals : (t : List ℕ) → quick_from Walk.Word (61 ∷ t) ≡ quick_from Walk.Value t
unfolding quick_from is_name_part is_alnum is_letter is_digit within
equals t = refl

quoted_value : (q : ℕ) (t : List ℕ) → is_quote q ≡ true → quick_from Walk.Value (q ∷ t) ≡ false
unfolding quick_from is_quote is_in all
quoted_value q t h = among_not (λ x. quick_from Walk.Value (x ∷ t)) (34 ∷ 39 ∷ []) q refl h

plain_not : all (λ x. not (is_plain x)) (125 ∷ 32 ∷ 9 ∷ 13 ∷ 10 ∷ []) ≡ true
unfolding all is_plain is_in
plain_not = refl

plain_value : (v t : List ℕ) → is_value v ≡ true → quick_from Walk.Value (v ++ t) ≡ false
unfolding is_value headed quick_from
plain_value [] t h = contra false h refl
plain_value (a ∷ v) t h = not_in is_plain (125 ∷ 32 ∷ 9 ∷ 13 ∷ 10 ∷ []) a plain_not (both (is_plain a) (all is_plain v) h).0

-- ---- tokens
token_quick : {m : Mode} {t u : List ℕ} {i : Item} → IsToken t i → After m u → quick_from Walk.Edge u ≡ false → quick_from Walk.Edge (t ++ u) ≡ false
token_quick {u = u} (IsToken.tag {t = t} h) a e = colon (t ++ u)
token_quick {u = u} (IsToken.id {n = n} h) a e = hash (n ++ u) ∙ name n u h ∙ ident_edge a ∙ e
token_quick {u = u} (IsToken.class {n = n} h) a e = dot (n ++ u) ∙ name n u h ∙ ident_edge a ∙ e
token_quick {u = u} (IsToken.plain {k = k} {v = v} h g) a e = rw (append_assoc k (61 ∷ v) u) (word k (61 ∷ (v ++ u)) h ∙ equals (v ++ u) ∙ plain_value v u g)
token_quick {u = u} (IsToken.quoted {k = k} {q = q} {v = v} h g w) a e = rw (append_assoc k (61 ∷ (q ∷ (v ++ (q ∷ [])))) u) (word k (61 ∷ (q ∷ ((v ++ (q ∷ [])) ++ u))) h ∙ equals (q ∷ ((v ++ (q ∷ [])) ++ u)) ∙ quoted_value q ((v ++ (q ∷ [])) ++ u) g)
token_quick {u = u} (IsToken.bare {n = n} h) a e = word n u (bare_key n h) ∙ word_edge a ∙ e

closes : (rest : List ℕ) → quick_from Walk.Edge (125 ∷ rest) ≡ false
unfolding quick_from is_in
closes rest = refl

blanks_quick : (m : Mode) (e rest : List ℕ) → all (is_blank m) e ≡ true → After m (e ++ (125 ∷ rest)) × (quick_from Walk.Edge (e ++ (125 ∷ rest)) ≡ false)
unfolding all
blanks_quick m [] rest h = (After.close, closes rest)
blanks_quick m (b ∷ e) rest h =
    let g = both (is_blank m b) (all (is_blank m) e) h in
    (After.blank b g.0, edge_blank m b (e ++ (125 ∷ rest)) g.0 (blanks_quick m e rest g.1).1)

chain_quick : {m : Mode} {at : ℕ} {s : List ℕ} {is : List Placed} → Chain m at s is → (rest : List ℕ) → quick_from Walk.Edge (s ++ (125 ∷ rest)) ≡ false
chain_quick {m} (Chain.blank {b = b} {s = s} h p) rest = edge_blank m b (s ++ (125 ∷ rest)) h (chain_quick p rest)
chain_quick {m} (Chain.last {t = t} {e = e} h b) rest = let g = blanks_quick m e rest b.each in rw (append_assoc t e (125 ∷ rest)) (token_quick h g.0 g.1)
chain_quick {m} (Chain.more {t = t} {s = s} b h q p) rest = rw (append_assoc t (b ∷ s) (125 ∷ rest)) (token_quick h (After.blank b q) (edge_blank m b (s ++ (125 ∷ rest)) q (chain_quick p rest)))

-- what the grammar accepts, between a brace and a close of the text w
pub quick_passes : {m : Mode} {at : ℕ} {s : List ℕ} {is : List Placed} → QuickPasses m at s is
unfolding quick_refuses
quick_passes p w rest brace e = ap (λ l. quick_from Walk.Edge l) e ∙ chain_quick (payload_chain p) rest
