-- `token_of` reads what the grammar calls a token, with a blank or the end behind it, and nothing else.
-- Assumes nothing.
use mathlib.Core.Path.{◌≡◌, refl, ap, sym}
use mathlib.Core.Bool.{Bool, true, false, ◌&&◌, cond}
use mathlib.Core.List.{List, [], ◌∷◌, ◌++◌, append_assoc}
use Prim.Native.Nat.{ℕ, suc}
use lib.Dec.{eqb}
use lib.ListN.{length, take, drop, take-append-drop}
use lib.Seq.{take-append_seam}
use borrow.Author.Tests.{eqb-true, eqb-false, ne_eqb, eq-eqb}
use Rattle.base_lists.specs.Lists.{all, headed, run, is_in}
use Rattle.base_lists.proofs.Scan.{both}
use Rattle.base_lists.proofs.More.{contra, apart, among_not, not_in, headed-all, stops, take-run, drop-run}
use Rattle.base_lists.proofs.Parts.{drop-behind}
use Rattle.base_bytes.specs.declared.Mode.{Mode}
use Rattle.base_bytes.specs.Bytes.{is_blank, within, is_letter, is_digit, is_alnum, is_name_part, is_key_start, is_quote, is_plain}
use Rattle.text_names.specs.Names.{is_name, is_key, is_bare_name}
use Rattle.text_names.specs.Computed.{is_language}
use Rattle.text_names.proofs.Grammar.{language_sound, language_complete}
use Rattle.block_grammar.specs.Grammar.{Item, Inside, IsToken, is_value}
use Rattle.block_grammar.specs.Computed.{First, Shut, ends, finish, text, later, shut_step, shut_of, quoted_token, plain_token, value_token, after_name, name_token, word_token, token_of}
use Rattle.block_grammar.proofs.Bytes.{blank_not, ends_stop, part-ends, name_parts, key_parts, bare_key, language_parts}

-- ======== every token is read

done : (m : Mode) (good : Bool) (i : Item) (rest : List ℕ) → good ≡ true → ends m rest ≡ true → finish m good i rest ≡ First.token i
unfolding finish
done m good i rest p e = rw (p, e)

word_read : (m : Mode) (test : List ℕ → Bool) (item : List ℕ → Item) (n rest : List ℕ) → test n ≡ true → all is_name_part n ≡ true → ends m rest ≡ true → word_token m test item (n ++ rest) ≡ First.token (item n)
word_read m test item n rest h a e =
    let st = part-ends m rest e in
    rw (take-run is_name_part n rest a st, drop-run is_name_part n rest a st) (done m (test n) (item n) rest h e)

name_front : (m : Mode) (k s : List ℕ) → is_key k ≡ true → token_of m (k ++ s) ≡ name_token m (k ++ s)
unfolding token_of is_key headed is_key_start is_letter within
name_front m [] s h = contra false h refl
name_front m (a ∷ k) s h =
    let p = (both (is_key_start a) (all is_name_part k) h).0 in
    rw (apart is_key_start a 58 p refl, apart is_key_start a 35 p refl, apart is_key_start a 46 p refl)

key_read : (m : Mode) (k s : List ℕ) → is_key k ≡ true → token_of m (k ++ (61 ∷ s)) ≡ value_token m k s
unfolding after_name is_name_part is_alnum is_letter is_digit within
key_read m k s h =
    let a = key_parts k h in
    rw (name_front m k (61 ∷ s) h, take-run is_name_part k (61 ∷ s) a refl, drop-run is_name_part k (61 ∷ s) a refl, h)

plain_not_quote : (c : ℕ) → is_plain c ≡ true → is_quote c ≡ false
unfolding is_quote all is_plain is_in
plain_not_quote c e = not_in is_plain (34 ∷ 39 ∷ []) c refl e

plain_ends : (m : Mode) (rest : List ℕ) → ends m rest ≡ true → stops is_plain rest ≡ true
unfolding all is_plain is_in
plain_ends m rest e = ends_stop is_plain m rest refl e

plain_read : (m : Mode) (k v rest : List ℕ) → is_value v ≡ true → ends m rest ≡ true → value_token m k (v ++ rest) ≡ First.token (Item.plain k v)
unfolding value_token is_value headed
plain_read m k [] rest h e = contra false h refl
plain_read m k (c ∷ v) rest h e =
    let a = headed-all is_plain is_plain (λ b p. p) (c ∷ v) h in
    let st = plain_ends m rest e in
    rw (plain_not_quote c (both (is_plain c) (all is_plain v) h).0, take-run is_plain (c ∷ v) rest a st, drop-run is_plain (c ∷ v) rest a st)
    (done m (is_value (c ∷ v)) (Item.plain k (c ∷ v)) rest h e)

blank_not_equals : (m : Mode) (b : ℕ) → is_blank m b ≡ true → eqb b 61 ≡ false
unfolding all
blank_not_equals m b e = blank_not (λ x. eqb x 61) m b refl e

bare_after : (m : Mode) (n rest : List ℕ) → is_bare_name n ≡ true → ends m rest ≡ true → after_name m n rest ≡ First.token (Item.bare n)
unfolding after_name ends
bare_after m n [] h e = done m (is_bare_name n) (Item.bare n) [] h e
bare_after m n (b ∷ rest) h e = rw (blank_not_equals m b e) (done m (is_bare_name n) (Item.bare n) (b ∷ rest) h e)

bare_read : (m : Mode) (n rest : List ℕ) → is_bare_name n ≡ true → ends m rest ≡ true → token_of m (n ++ rest) ≡ First.token (Item.bare n)
bare_read m n rest h e =
    let k = bare_key n h in
    let a = key_parts n k in
    let st = part-ends m rest e in
    rw (name_front m n rest k, take-run is_name_part n rest a st, drop-run is_name_part n rest a st) (bare_after m n rest h e)

-- the quote closes behind the text in it
shuts : {q : ℕ} {v : List ℕ} → Inside q v → (q ≡ 92 → ⊥) → (rest : List ℕ) → shut_of q (v ++ (q ∷ rest)) false ≡ Shut.after (length v)
unfolding shut_of
shuts {q} Inside.end n rest = rw (eq-eqb q q refl)
shuts {q} (Inside.byte {b = b} {s = s} p r h) n rest = rw (ne_eqb b q p, ne_eqb b 92 r, shuts h n rest)
shuts {q} (Inside.pair {b = b} {s = s} h) n rest = rw (ne_eqb 92 q (λ e. n (sym e)), shuts h n rest)

pub quote_not : (q : ℕ) → is_quote q ≡ true → q ≡ 92 → ⊥
unfolding is_quote all
quote_not q h = eqb-false q 92 (among_not (λ x. eqb x 92) (34 ∷ 39 ∷ []) q refl h)

quoted_read : (m : Mode) (k : List ℕ) (q : ℕ) (v rest : List ℕ) → is_quote q ≡ true → Inside q v → ends m rest ≡ true → value_token m k (q ∷ ((v ++ (q ∷ [])) ++ rest)) ≡ First.token (Item.quoted k q v)
unfolding value_token
quoted_read m k q v rest h i e =
    rw (h, append_assoc v (q ∷ []) rest, shuts i (quote_not q h) rest, take-append_seam v (q ∷ rest), drop-behind v q rest)
    (done m true (Item.quoted k q v) rest refl e)

pub token_complete : {t : List ℕ} {i : Item} (m : Mode) → IsToken t i → (rest : List ℕ) → ends m rest ≡ true → token_of m (t ++ rest) ≡ First.token i
unfolding token_of
token_complete m (IsToken.tag {t = t} h) rest e = word_read m is_language (λ t. Item.tag t) t rest (language_complete h) (language_parts h) e
token_complete m (IsToken.id {n = n} h) rest e = word_read m is_name (λ n. Item.id n) n rest h (name_parts n h) e
token_complete m (IsToken.class {n = n} h) rest e = word_read m is_name (λ n. Item.class n) n rest h (name_parts n h) e
token_complete m (IsToken.plain {k = k} {v = v} h g) rest e = rw (append_assoc k (61 ∷ v) rest, key_read m k (v ++ rest) h) (plain_read m k v rest g e)
token_complete m (IsToken.quoted {k = k} {q = q} {v = v} h g i) rest e =
    rw (append_assoc k (61 ∷ (q ∷ (v ++ (q ∷ [])))) rest, key_read m k (q ∷ ((v ++ (q ∷ [])) ++ rest)) h) (quoted_read m k q v rest g i e)
token_complete m (IsToken.bare {n = n} h) rest e = bare_read m n rest h e

-- ======== nothing else is read

-- the item i is read from the front of s
pub record Found (m : Mode) (s : List ℕ) (i : Item) : Type 0 where
  pub rest : List ℕ
  pub whole : text i ++ rest ≡ s
  pub token : IsToken (text i) i
  pub ended : ends m rest ≡ true

finished : (m : Mode) (good : Bool) (i j : Item) (rest : List ℕ) → finish m good i rest ≡ First.token j → (good ≡ true) × (ends m rest ≡ true) × (i ≡ j)
unfolding finish
finished m good i j rest e = go good (ends m rest) refl refl e
  where
    go : (a b : Bool) → good ≡ a → ends m rest ≡ b → cond (a && b) (First.token i) First.none ≡ First.token j → (good ≡ true) × (ends m rest ≡ true) × (i ≡ j)
    go true true p q e = (p, q, cc)
    go true false p q e = contra true refl (cc)
    go false b p q e = contra true refl (cc)

-- behind a byte c that says which kind of item it is
word_found : (m : Mode) (c : ℕ) (test : List ℕ → Bool) (item : List ℕ → Item) (s : List ℕ) (j : Item) → ((n : List ℕ) → text (item n) ≡ c ∷ n) → ((n : List ℕ) → test n ≡ true → IsToken (c ∷ n) (item n)) → word_token m test item s ≡ First.token j → Found m (c ∷ s) j
word_found m c test item s j x w e =
    let n = run is_name_part s in
    let h = finished m (test (take n s)) (item (take n s)) j (drop n s) e in
    rw (← h.2) (record { rest = drop n s; whole = rw (x (take n s), take-append-drop n s); token = rw (x (take n s)) (w (take n s) h.0); ended = h.1 })

colon-found : (m : Mode) (s : List ℕ) (j : Item) → word_token m is_language (λ t. Item.tag t) s ≡ First.token j → Found m (58 ∷ s) j
unfolding text
colon-found m s j e = word_found m 58 is_language (λ t. Item.tag t) s j (λ t. refl) (λ t h. IsToken.tag (language_sound t h)) e

hash-found : (m : Mode) (s : List ℕ) (j : Item) → word_token m is_name (λ n. Item.id n) s ≡ First.token j → Found m (35 ∷ s) j
unfolding text
hash-found m s j e = word_found m 35 is_name (λ n. Item.id n) s j (λ n. refl) (λ n h. IsToken.id h) e

dot-found : (m : Mode) (s : List ℕ) (j : Item) → word_token m is_name (λ n. Item.class n) s ≡ First.token j → Found m (46 ∷ s) j
unfolding text
dot-found m s j e = word_found m 46 is_name (λ n. Item.class n) s j (λ n. refl) (λ n h. IsToken.class h) e

-- ---- quoted text
later_of : (c : Shut) (n : ℕ) → later c ≡ Shut.after n → (k : ℕ) × (c ≡ Shut.after k) × (n ≡ suc k)
later_of Shut.never n e = contra true refl (cc)
later_of (Shut.after k) n e = (k, refl, cc)

-- with the backslash that was just read
abbrev pub covering : Bool → List ℕ → List ℕ
covering true v = 92 ∷ v
covering false v = v

shut_found : (q : ℕ) (s : List ℕ) (escaped : Bool) (n : ℕ) → shut_of q s escaped ≡ Shut.after n → Inside q (covering escaped (take n s)) × (take n s ++ (q ∷ drop (suc n) s) ≡ s)
unfolding shut_of
shut_found q [] escaped n e = contra true refl (cc)
shut_found q (b ∷ s) true n e =
    let (k, p, r) = later_of (shut_of q s false) n e in
    let h = shut_found q s false k p in
    rw r (Inside.pair h.0, ap (λ l. b ∷ l) h.1)
shut_found q (b ∷ s) false n e = go (eqb b q) (eqb b 92) refl refl e (λ c k. shut_found q s c k)
  where
    go : (x y : Bool) → eqb b q ≡ x → eqb b 92 ≡ y → shut_step false x y (λ c. shut_of q s c) ≡ Shut.after n → ((c : Bool) (k : ℕ) → shut_of q s c ≡ Shut.after k → Inside q (covering c (take k s)) × (take k s ++ (q ∷ drop (suc k) s) ≡ s)) → Inside q (take n (b ∷ s)) × (take n (b ∷ s) ++ (q ∷ drop (suc n) (b ∷ s)) ≡ b ∷ s)
    go true y p r e ih = let z : 0 ≡ n = cc in rw (← z) (Inside.end, rw (eqb-true b q p))
    go false true p r e ih =
        let (k, f, g) = later_of (shut_of q s true) n e in
        let h = ih true k f in
        rw (g, eqb-true b 92 r) (h.0, ap (λ l. 92 ∷ l) h.1)
    go false false p r e ih =
        let (k, f, g) = later_of (shut_of q s false) n e in
        let h = ih false k f in
        rw g (Inside.byte (eqb-false b q p) (eqb-false b 92 r) h.0, ap (λ l. b ∷ l) h.1)

-- ---- the value behind `k=`
module _ (m : Mode) (k : List ℕ) (hk : is_key k ≡ true) (j : Item) where
  plain_found : (s : List ℕ) → plain_token m k s ≡ First.token j → Found m (k ++ (61 ∷ s)) j
  unfolding text
  plain_found s e =
      let n = run is_plain s in
      let h = finished m (is_value (take n s)) (Item.plain k (take n s)) j (drop n s) e in
      rw (← h.2) (record { rest = drop n s; whole = rw (append_assoc, take-append-drop n s); token = IsToken.plain hk h.0; ended = h.1 })

  quoted_found : (q : ℕ) (s : List ℕ) (c : Shut) → is_quote q ≡ true → shut_of q s false ≡ c → quoted_token m k q s c ≡ First.token j → Found m (k ++ (61 ∷ (q ∷ s))) j
  unfolding text
  quoted_found q s Shut.never hq p e = contra true refl (cc)
  quoted_found q s (Shut.after n) hq p e =
      let h = finished m true (Item.quoted k q (take n s)) j (drop (suc n) s) e in
      let g = shut_found q s false n p in
      rw (← h.2) (record { rest = drop (suc n) s; whole = rw (append_assoc k (61 ∷ (q ∷ (take n s ++ (q ∷ [])))) (drop (suc n) s), append_assoc (take n s) (q ∷ []) (drop (suc n) s), g.1); token = IsToken.quoted hk hq g.0; ended = h.1 })

  value_found : (s : List ℕ) → value_token m k s ≡ First.token j → Found m (k ++ (61 ∷ s)) j
  unfolding value_token
  value_found [] e = contra true refl (cc)
  value_found (q ∷ s) e = go (is_quote q) refl e
    where
      go : (c : Bool) → is_quote q ≡ c → cond c (quoted_token m k q s (shut_of q s false)) (plain_token m k (q ∷ s)) ≡ First.token j → Found m (k ++ (61 ∷ (q ∷ s))) j
      go true p e = quoted_found q s (shut_of q s false) p refl e
      go false p e = plain_found (q ∷ s) e

-- ---- what begins with a name
bare_found : (m : Mode) (k s : List ℕ) (j : Item) → finish m (is_bare_name k) (Item.bare k) s ≡ First.token j → Found m (k ++ s) j
unfolding text
bare_found m k s j e =
    let h = finished m (is_bare_name k) (Item.bare k) j s e in
    rw (← h.2) (record { rest = s; whole = refl; token = IsToken.bare h.0; ended = h.1 })

after-found : (m : Mode) (k s : List ℕ) (j : Item) → after_name m k s ≡ First.token j → Found m (k ++ s) j
unfolding after_name
after-found m k [] j e = bare_found m k [] j e
after-found m k (b ∷ s) j e = go (eqb b 61) (is_key k) refl refl e
  where
    go : (x y : Bool) → eqb b 61 ≡ x → is_key k ≡ y → cond x (cond y (value_token m k s) First.none) (finish m (is_bare_name k) (Item.bare k) (b ∷ s)) ≡ First.token j → Found m (k ++ (b ∷ s)) j
    go true true p q e = rw (eqb-true b 61 p) (value_found m k q j s e)
    go true false p q e = contra true refl (cc)
    go false y p q e = bare_found m k (b ∷ s) j e

name_found : (m : Mode) (s : List ℕ) (j : Item) → name_token m s ≡ First.token j → Found m s j
name_found m s j e = rw (take-append-drop (run is_name_part s) s) at (after-found m (take (run is_name_part s) s) (drop (run is_name_part s) s) j e)

pub token_sound : (m : Mode) (s : List ℕ) (j : Item) → token_of m s ≡ First.token j → Found m s j
unfolding token_of
token_sound m [] j e = contra true refl (cc)
token_sound m (b ∷ s) j e = go (eqb b 58) (eqb b 35) (eqb b 46) refl refl refl e
  where
    go : (x y z : Bool) → eqb b 58 ≡ x → eqb b 35 ≡ y → eqb b 46 ≡ z → cond x (word_token m is_language (λ t. Item.tag t) s) (cond y (word_token m is_name (λ n. Item.id n) s) (cond z (word_token m is_name (λ n. Item.class n) s) (name_token m (b ∷ s)))) ≡ First.token j → Found m (b ∷ s) j
    go true y z p q r e = rw (eqb-true b 58 p) (colon-found m s j e)
    go false true z p q r e = rw (eqb-true b 35 q) (hash-found m s j e)
    go false false true p q r e = rw (eqb-true b 46 r) (dot-found m s j e)
    go false false false p q r e = name_found m (b ∷ s) j e
