-- `read_payload` reads what the grammar's `Payload` derives, and nothing else; so there is at most one reading.
-- Assumes nothing.
use mathlib.Core.Path.{◌≡◌, refl, sym, ◌∙◌}
use mathlib.Core.Bool.{Bool, true, false, not}
use mathlib.Core.List.{List, [], ◌∷◌, ◌++◌, append-nil}
use Prim.Native.Nat.{ℕ, zero, suc, ◌+◌}
use native.Mathlib.Nat.{add-zero, add-suc, suc-add}
use lib.Dec.{eqb}
use lib.ListN.{length, drop}
use lib.Seq.{drop-nil}
use Rattle.base_lists.specs.Lists.{all, headed}
use Rattle.base_lists.proofs.Scan.{both}
use Rattle.base_lists.proofs.More.{contra}
use Rattle.base_lists.proofs.Parts.{drop-behind}
use Rattle.base_bytes.specs.declared.Mode.{Mode}
use Rattle.base_bytes.specs.Bytes.{is_blank, within, is_letter, is_name_part, is_key_start}
use Rattle.text_names.specs.Names.{is_key}
use Rattle.block_grammar.specs.Grammar.{Item, Placed, IsToken, Blanks, Payload, Reading}
use Rattle.block_grammar.specs.Computed.{First, ends, text, token_of, also, tail_of, turn, read_from, one_or_more, read_payload}
use Rattle.block_grammar.proofs.Bytes.{blanks, not_blank, bare_key}
use Rattle.block_grammar.proofs.Tokens.{token_complete, token_sound}
use Rattle.block_grammar.proofs.Chain.{Chain, no_blanks, blanks_cons, payload_chain, chain_payload}

-- ---- tokens
pub token_text : {t : List ℕ} {i : Item} → IsToken t i → text i ≡ t
unfolding text
token_text (IsToken.tag h) = refl
token_text (IsToken.id h) = refl
token_text (IsToken.class h) = refl
token_text (IsToken.plain h g) = refl
token_text (IsToken.quoted h g v) = refl
token_text (IsToken.bare h) = refl

-- a token's first byte is there and is no blank
pub record Front (m : Mode) (t : List ℕ) : Type 0 where
  pub head : ℕ
  pub tail : List ℕ
  pub is : t ≡ head ∷ tail
  pub solid : is_blank m head ≡ false

byte_front : (m : Mode) (b : ℕ) (t : List ℕ) → all (λ x. not (eqb x b)) blanks ≡ true → eqb b b ≡ true → Front m (b ∷ t)
byte_front m b t h e = record { head = b; tail = t; is = refl; solid = not_blank (λ x. eqb x b) m b h e }

key_front : (m : Mode) (k s : List ℕ) → is_key k ≡ true → Front m (k ++ s)
unfolding is_key headed all is_key_start is_letter within
key_front m [] s e = contra false e refl
key_front m (a ∷ k) s e = record { head = a; tail = k ++ s; is = refl; solid = not_blank is_key_start m a refl (both (is_key_start a) (all is_name_part k) e).0 }

pub token_front : {t : List ℕ} {i : Item} (m : Mode) → IsToken t i → Front m t
unfolding all
token_front m (IsToken.tag {t = t} h) = byte_front m 58 t refl refl
token_front m (IsToken.id {n = t} h) = byte_front m 35 t refl refl
token_front m (IsToken.class {n = t} h) = byte_front m 46 t refl refl
token_front m (IsToken.plain {k = k} {v = v} h g) = key_front m k (61 ∷ v) h
token_front m (IsToken.quoted {k = k} {q = q} {v = v} h g i) = key_front m k (61 ∷ (q ∷ (v ++ (q ∷ [])))) h
token_front m (IsToken.bare {n = n} h) = rw append-nil at (key_front m n [] (bare_key n h))

-- ---- what a token took is skipped
skip : (m : Mode) (t s : List ℕ) (at : ℕ) → read_from m (t ++ s) (length t) at ≡ read_from m s 0 (at + length t)
unfolding read_from
skip m [] s at = rw add-zero
skip m (b ∷ t) s at = rw (skip m t s (suc at), add-suc, suc-add)

skip_blank : (m : Mode) (t : List ℕ) (b : ℕ) (s : List ℕ) (at : ℕ) → read_from m (t ++ (b ∷ s)) (suc (length t)) at ≡ read_from m s 0 (suc (at + length t))
unfolding read_from
skip_blank m [] b s at = rw add-zero
skip_blank m (c ∷ t) b s at = rw (skip_blank m t b s (suc at), add-suc, suc-add)

pub blank_step : (m : Mode) (b : ℕ) (s : List ℕ) (at : ℕ) → is_blank m b ≡ true → read_from m (b ∷ s) 0 at ≡ read_from m s 0 (suc at)
unfolding read_from
blank_step m b s at h = rw h

-- ======== every payload is read
token_step' : (m : Mode) (b : ℕ) (s rest : List ℕ) (i : Item) (at : ℕ) → is_blank m b ≡ false → token_of m (b ∷ (s ++ rest)) ≡ First.token i → text i ≡ b ∷ s → read_from m (b ∷ (s ++ rest)) 0 at ≡ also (record { at = at; item = i }) (read_from m rest 0 (at + suc (length s)))
unfolding read_from
token_step' m b s rest i at h e q = rw (h, e, q, skip m s rest (suc at), add-suc, suc-add)

pub token_step : {t : List ℕ} {i : Item} (m : Mode) → IsToken t i → (rest : List ℕ) (at : ℕ) → ends m rest ≡ true → read_from m (t ++ rest) 0 at ≡ also (record { at = at; item = i }) (read_from m rest 0 (at + length t))
token_step {t} {i} m h rest at e =
    let f = token_front m h in
    let c = rw f.is at (token_complete m h rest e) in
    let x = token_text h ∙ f.is in
    rw f.is (token_step' m f.head f.tail rest i at f.solid c x)

blanks_read : (m : Mode) (s : List ℕ) (at : ℕ) → all (is_blank m) s ≡ true → read_from m s 0 at ≡ Reading.items []
unfolding all read_from
blanks_read m [] at h = refl
blanks_read m (b ∷ s) at h = let g = both (is_blank m b) (all (is_blank m) s) h in rw g.0 (blanks_read m s (suc at) g.1)

blanks_end : (m : Mode) (s : List ℕ) → all (is_blank m) s ≡ true → ends m s ≡ true
unfolding all ends
blanks_end m [] h = refl
blanks_end m (b ∷ s) h = (both (is_blank m b) (all (is_blank m) s) h).0

complete_from : {m : Mode} {at : ℕ} {s : List ℕ} {is : List Placed} → Chain m at s is → read_from m s 0 at ≡ Reading.items is
unfolding ends
complete_from {m} (Chain.blank {at = at} {b = b} {s = s} h p) = blank_step m b s at h ∙ complete_from p
complete_from {m} (Chain.last {at = at} {t = t} {e = e} t' b) = rw (token_step m t' e at (blanks_end m e b.each), blanks_read m e (at + length t) b.each)
complete_from {m} (Chain.more {at = at} {t = t} {s = s} b t' h p) = rw (token_step m t' (b ∷ s) at h, blank_step m b s (at + length t) h, complete_from p)

one_or_more_lem : {m : Mode} {at : ℕ} {s : List ℕ} {is : List Placed} → Chain m at s is → one_or_more (Reading.items is) ≡ Reading.items is
one_or_more_lem (Chain.blank h p) = one_or_more_lem p
one_or_more_lem (Chain.last t b) = refl
one_or_more_lem (Chain.more b t h p) = refl

-- ======== nothing else is read

-- what `read_from` reads: nothing but blanks, or a payload
data Rest (m : Mode) : ℕ → List ℕ → List Placed → Type 0 where
  empty : {at : ℕ} {s : List ℕ} → Blanks m s → Rest m at s []
  full : {at : ℕ} {s : List ℕ} {is : List Placed} → Chain m at s is → Rest m at s is

rest_blank : {m : Mode} {at : ℕ} {s : List ℕ} {is : List Placed} (b : ℕ) → is_blank m b ≡ true → Rest m (suc at) s is → Rest m at (b ∷ s) is
rest_blank b h (Rest.empty e) = Rest.empty (blanks_cons b h e)
rest_blank b h (Rest.full p) = Rest.full (Chain.blank h p)

rest_token : {m : Mode} {at : ℕ} {t s : List ℕ} {i : Item} {is : List Placed} (b : ℕ) → IsToken t i → is_blank m b ≡ true → Rest m (suc (at + length t)) s is → Rest m at (t ++ (b ∷ s)) (record { at = at; item = i } ∷ is)
rest_token b t h (Rest.empty e) = Rest.full (Chain.last t (blanks_cons b h e))
rest_token b t h (Rest.full p) = Rest.full (Chain.more b t h p)

also_of : (p : Placed) (r : Reading) (is : List Placed) → also p r ≡ Reading.items is → (js : List Placed) × (r ≡ Reading.items js) × (is ≡ p ∷ js)
also_of p Reading.refused is e = contra true refl (cc)
also_of p (Reading.items js) is e = (js, refl, cc)

items_is : (is : List Placed) → Reading.items is ≡ Reading.items [] → is ≡ []
items_is is e = cc

none_left : (m : Mode) (at : ℕ) → read_from m [] 0 at ≡ Reading.items []
unfolding read_from
none_left m at = refl

-- behind the token b ∷ t, where the induction hypothesis knows the rest
token_rest : (m : Mode) (t rest : List ℕ) (b : ℕ) (s : List ℕ) (i : Item) (at : ℕ) (is : List Placed) → IsToken (b ∷ t) i → ends m rest ≡ true → t ++ rest ≡ s → read_from m s (length t) (suc at) ≡ Reading.items is → ((k : ℕ) → read_from m s k (suc at) ≡ Reading.items is → Rest m (suc at + k) (drop k s) is) → Rest m at (b ∷ s) (record { at = at; item = i } ∷ is)
unfolding ends
token_rest m t [] b s i at is h e q r ih =
    let z : is ≡ [] = items_is is (sym r ∙ (rw (← q) (skip m t [] (suc at))) ∙ none_left m (suc at + length t)) in
    rw (z, ← q) (Rest.full (Chain.last h (no_blanks m)))
token_rest m t (c ∷ rest) b s i at is h e q r ih =
    let x : read_from m s (suc (length t)) (suc at) ≡ Reading.items is = rw (← q) (skip_blank m t c rest (suc at) ∙ sym (blank_step m c rest (suc at + length t) e) ∙ sym (skip m t (c ∷ rest) (suc at)) ∙ (rw (← q) at r)) in
    let y = rw (← q, drop-behind t c rest, suc-add) at (ih (suc (length t)) x) in
    rw (← q) (rest_token c h e y)

token_case : (m : Mode) (b : ℕ) (s : List ℕ) (i : Item) (at : ℕ) (js : List Placed) → token_of m (b ∷ s) ≡ First.token i → read_from m s (tail_of (text i)) (suc at) ≡ Reading.items js → ((k : ℕ) → read_from m s k (suc at) ≡ Reading.items js → Rest m (suc at + k) (drop k s) js) → Rest m at (b ∷ s) (record { at = at; item = i } ∷ js)
token_case m b s i at js q r ih =
    let f = token_sound m (b ∷ s) i q in
    let h = token_front m f.token in
    let whole : h.head ∷ (h.tail ++ f.rest) ≡ b ∷ s = rw h.is at f.whole in
    let one : h.head ≡ b = cc in
    let two : h.tail ++ f.rest ≡ s = cc in
    let t' : IsToken (b ∷ h.tail) i = rw (h.is, one) at f.token in
    token_rest m h.tail f.rest b s i at js t' f.ended two (rw h.is at r) ih

sound_from : (m : Mode) (s : List ℕ) (k at : ℕ) (is : List Placed) → read_from m s k at ≡ Reading.items is → Rest m (at + k) (drop k s) is
unfolding read_from all
sound_from m [] k at is e = let z : [] ≡ is = cc in rw (← z, drop-nil k) (Rest.empty (record { each = refl }))
sound_from m (b ∷ s) (suc k) at is e = rw (add-suc, ← suc-add at k) (sound_from m s k (suc at) is e)
sound_from m (b ∷ s) zero at is e = rw add-zero (go (is_blank m b) (token_of m (b ∷ s)) refl refl e (λ k js. sound_from m s k (suc at) js))
  where
    go : (x : Bool) (t : First) → is_blank m b ≡ x → token_of m (b ∷ s) ≡ t → turn x at t (λ n. read_from m s n (suc at)) ≡ Reading.items is → ((k : ℕ) (js : List Placed) → read_from m s k (suc at) ≡ Reading.items js → Rest m (suc at + k) (drop k s) js) → Rest m at (b ∷ s) is
    go true t p q e ih = rest_blank b p (rw add-zero at (ih 0 is e))
    go false First.none p q e ih = contra true refl (cc)
    go false (First.token i) p q e ih =
        let w = also_of (record { at = at; item = i }) (read_from m s (tail_of (text i)) (suc at)) is e in
        rw w.2 (token_case m b s i at w.0 q w.1 (λ k. ih k w.0))

some_of : (r : Reading) (is : List Placed) → one_or_more r ≡ Reading.items is → (r ≡ Reading.items is) × (is ≡ [] → ⊥)
some_of Reading.refused is e = contra true refl (cc)
some_of (Reading.items []) is e = contra true refl (cc)
some_of (Reading.items (p ∷ js)) is e = (e, λ q. contra true refl (cc))

chain_of : {m : Mode} {at : ℕ} {s : List ℕ} {is : List Placed} → Rest m at s is → (is ≡ [] → ⊥) → Chain m at s is
chain_of (Rest.empty e) n = absurd (n refl)
chain_of (Rest.full p) n = p

-- ======== the theorems
pub sound : (m : Mode) (at : ℕ) (s : List ℕ) (is : List Placed) → read_payload m at s ≡ Reading.items is → Payload m at s is
unfolding read_payload
sound m at s is e =
    let h = some_of (read_from m s 0 at) is e in
    chain_payload (chain_of (rw add-zero at (sound_from m s 0 at is h.0)) h.1)

pub complete : {m : Mode} {at : ℕ} {s : List ℕ} {is : List Placed} → Payload m at s is → read_payload m at s ≡ Reading.items is
unfolding read_payload
complete p = let c = payload_chain p in rw (complete_from c) (one_or_more_lem c)
