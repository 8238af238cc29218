-- The items of a set one after the other, and what they are together.
-- Assumes nothing.
use Rattle.std.specs.Prelude.{Err, Ok}
use mathlib.Core.Path.{◌≡◌, refl, sym, ◌∙◌, ap}
use mathlib.Core.Bool.{Bool, true, false}
use mathlib.Core.List.{List, [], ◌∷◌, ◌++◌, append_assoc, append-nil, flat_map}
use Prim.Native.Nat.{ℕ, suc, ◌+◌, ◌≤◌, ◌<◌}
use native.Mathlib.Nat.{add-zero, add-suc}
use native.Mathlib.Omega.{arith}
use borrow.Author.Tests.{ne_eqb, le-leb, lt-leb}
use Rattle.base_refusals.specs.declared.Refusal.TheVariants.{CanonTooLong}
use lib.ListN.{length, set, length-append}
use lib.Seq.{sets}
use Rattle.block_grammar.specs.Meaning.{Entry}
use Rattle.set_canon.specs.Canon.{Pair, escape, pair_text, more_text, pairs_text, pairs, canon}
use Rattle.base_refusals.specs.Numbers.{max_text}
use Rattle.base_lists.proofs.Sets.{sets-append}
use Rattle.base_lists.proofs.Flat.{flat_append}
use Rattle.set_marks.proofs.Values.{escape_short, bytes_short, raw_value}
use Rattle.set_table.specs.Types.{Texts, value_bytes}
use Rattle.set_table.specs.declared.Value.{Value}
use Rattle.set_writer.specs.Inner.{max_item, put_if, wrote_to, lead_byte, item_text, items_text, closing_bytes}
use Rattle.set_marks.specs.Marks.{bytes_in, raw_bytes, is_quoted}

more_append : (ps qs : List Pair) → more_text (ps ++ qs) ≡ more_text ps ++ more_text qs
unfolding more_text
more_append ps qs = flat_append (λ p. 32 ∷ pair_text p) ps qs

items_suc : (n : ℕ) (ps : List Pair) → items_text (suc n) ps ≡ more_text ps
unfolding more_text flat_map pairs_text lead_byte
items_suc n [] = refl
items_suc n (p ∷ ps) = rw (ne_eqb (suc n) 0 (λ e. omega arith))

pub items_append : (n : ℕ) (ps qs : List Pair) → items_text n (ps ++ qs) ≡ items_text n ps ++ items_text (n + length (items_text n ps)) qs
unfolding pairs_text
items_append n [] qs = rw add-zero
items_append n (p ∷ ps) qs =
    rw (add-suc, items_suc, more_append ps qs) (ap (λ (l : List ℕ). lead_byte n ∷ l) (sym (append_assoc (pair_text p) (more_text ps) (more_text qs))))

pub items_one : (n : ℕ) (p : Pair) → items_text n (p ∷ []) ≡ item_text n p.name p.value
unfolding pairs_text more_text flat_map
items_one n p = ap (λ (l : List ℕ). lead_byte n ∷ l) (append-nil (pair_text p))

-- items behind n bytes and the close
abbrev pub text_from : ℕ → List Pair → List ℕ
text_from n [] = closing_bytes n
text_from n (p ∷ ps) = lead_byte n ∷ (pairs_text (p ∷ ps) ++ (125 ∷ []))

from_suc : (n : ℕ) (ps : List Pair) → text_from (suc n) ps ≡ more_text ps ++ (125 ∷ [])
unfolding more_text flat_map pairs_text lead_byte closing_bytes
from_suc n [] = rw (ne_eqb (suc n) 0 (λ e. omega arith))
from_suc n (p ∷ ps) = rw (ne_eqb (suc n) 0 (λ e. omega arith))

pub from_append : (n : ℕ) (ps qs : List Pair) → text_from n (ps ++ qs) ≡ items_text n ps ++ text_from (n + length (items_text n ps)) qs
unfolding pairs_text
from_append n [] qs = rw add-zero
from_append n (p ∷ ps) qs =
    rw (add-suc, from_suc, more_append ps qs)
    (ap (λ (l : List ℕ). lead_byte n ∷ l)
    (append_assoc (pair_text p) (more_text ps ++ more_text qs) (125 ∷ [])
    ∙ ap (λ (l : List ℕ). pair_text p ++ l) (append_assoc (more_text ps) (more_text qs) (125 ∷ []))
    ∙ sym (append_assoc (pair_text p) (more_text ps) (more_text qs ++ (125 ∷ [])))))

-- from the front on it is the canonical text
pub from_front : (m : List Entry) → text_from 0 (pairs m) ≡ canon m
unfolding canon closing_bytes pairs_text lead_byte
from_front m = go (pairs m)
  where
    go : (ps : List Pair) → text_from 0 ps ≡ 123 ∷ (pairs_text ps ++ (125 ∷ []))
    go [] = refl
    go (p ∷ ps) = refl

-- ---- the close
pub close_none : (buf : List ℕ) (n : ℕ) → n ≡ 0 → (2 ≡ n + length (closing_bytes n)) × (set (set buf 0 123) 1 125 ≡ sets buf n (closing_bytes n))
unfolding closing_bytes
close_none buf n e = rw e (refl, refl)

pub close_some : (buf : List ℕ) (n : ℕ) → (n ≡ 0 → ⊥) → (n + 1 ≡ n + length (closing_bytes n)) × (set buf n 125 ≡ sets buf n (closing_bytes n))
unfolding closing_bytes
close_some buf n e = rw (ne_eqb n 0 e) (refl, refl)

-- ---- one item, part by part
module _ (at : ℕ) (name v : List ℕ) where
  pub item_length : length (item_text at name v) ≡ length name + length (escape v) + 4
  item_length = simp length-append (omega arith)

  pub item_put : (buf : List ℕ) {b₁ b₂ : List ℕ} {lead k e : ℕ} → lead ≡ lead_byte at → k ≡ at + 1 + length name → b₁ ≡ sets (set buf at lead) (at + 1) name → e ≡ k + 2 + length (escape v)
      → b₂ ≡ sets (set (set b₁ k 61) (k + 1) 34) (k + 2) (escape v) → (e + 1 ≡ at + length (item_text at name v)) × (set b₂ e 34 ≡ sets buf at (item_text at name v))
  item_put buf {b₁} {b₂} {lead} {k} {e} p q f r g =
      let a : at + 1 ≡ suc at = omega arith in
      let i : k + 1 ≡ suc k = omega arith in
      let j : k + 2 ≡ suc (suc k) = omega arith in
      let z : k ≡ suc at + length name = omega arith in
      let c : sets buf at (item_text at name v) ≡ sets (sets (set buf at (lead_byte at)) (suc at) name) (suc at + length name) (61 ∷ (34 ∷ (escape v ++ (34 ∷ [])))) = sets-append (set buf at (lead_byte at)) (suc at) name (61 ∷ (34 ∷ (escape v ++ (34 ∷ [])))) in
      let d : sets b₁ k (61 ∷ (34 ∷ (escape v ++ (34 ∷ [])))) ≡ set b₂ e 34 = sets-append (set (set b₁ k 61) (suc k) 34) (suc (suc k)) (escape v) (34 ∷ []) ∙ rw (g, r, i, j) in
      (omega (arith, item_length), sym (c ∙ rw (sym p, sym z, sym a, sym f) d))

-- what measuring adds up is far below what a number holds
pub item_short : (at : ℕ) (name v : List ℕ) → length name ≤ max_text → length v ≤ max_text → length (item_text at name v) ≤ max_item
item_short at name v h l = omega (arith, item_length at name v, escape_short v)

-- the item of a value, whose raw text stands for w
module _ (at : ℕ) (name v : List ℕ) {w : List ℕ} (e : w ≡ v) where
  pub item_room : {size : ℕ} → at + length (item_text at name v) ≤ size → at + length (item_text at name w) ≤ size
  item_room h = rw e h

  pub item_written : (buf : List ℕ) {buf' : List ℕ} {really : Bool} {r : ℕ} → length (item_text at name v) ≤ max_item → really ≡ true → r ≡ at + length (item_text at name w) → buf' ≡ sets buf at (item_text at name w)
      → ((r ≡ at + length (item_text at name v)) × (r ≤ at + max_item)) × (buf' ≡ put_if really buf at (item_text at name v))
  unfolding put_if
  item_written buf {r = r} h y p g =
      let z : r ≡ at + length (item_text at name v) = rw (sym e) p in
      ((z, omega arith), rw (y, sym e) g)

  pub item_measured : (buf : List ℕ) {really : Bool} {n : ℕ} → length (item_text at name v) ≤ max_item → really ≡ false → n ≡ length (escape w)
      → ((at + length name + n + 4 ≡ at + length (item_text at name v)) × (at + length name + n + 4 ≤ at + max_item)) × (buf ≡ put_if really buf at (item_text at name v))
  unfolding put_if
  item_measured buf {n = n} h y p =
      let z : at + length name + n + 4 ≡ at + length (item_text at name v) = rw (sym e) (omega (arith, item_length at name w, p)) in
      ((z, omega arith), rw y)

pub value_of : (t : Texts) (v : Value) {s : List ℕ} {q : Bool} → (s ≡ raw_bytes t v) × (length s ≤ max_text) → q ≡ is_quoted v → bytes_in q s ≡ value_bytes t v
value_of t v e f = rw (e.0, f) (raw_value t v)

pub value_short : (t : Texts) (at : ℕ) (name : List ℕ) (v : Value) {s : List ℕ} {q : Bool} → length name ≤ max_text → (s ≡ raw_bytes t v) × (length s ≤ max_text) → q ≡ is_quoted v
    → length (item_text at name (value_bytes t v)) ≤ max_item
value_short t at name v {s} {q} h e f = item_short at name (value_bytes t v) h (rw (sym (value_of t v e f)) (omega (arith, bytes_short q s, e.1)))

-- closing, by what is asked
module _ (buf : List ℕ) (at : ℕ) {cap : ℕ} {really : Bool} where
  pub close_written : really ≡ true → at + length (closing_bytes at) ≤ cap → {k : ℕ} {buf' : List ℕ} → k ≡ at + length (closing_bytes at) → buf' ≡ sets buf at (closing_bytes at)
      → (Ok k ≡ wrote_to cap (at + length (closing_bytes at))) × (buf' ≡ put_if really buf at (closing_bytes at))
  unfolding put_if wrote_to
  close_written y h p q = (rw (le-leb (at + length (closing_bytes at)) cap h, p), rw (y, q))

  pub close_over : really ≡ false → {k : ℕ} → k ≡ at + length (closing_bytes at) → cap < k → (Err CanonTooLong ≡ wrote_to cap (at + length (closing_bytes at))) × (buf ≡ put_if really buf at (closing_bytes at))
  unfolding put_if wrote_to
  close_over y p h = (rw (lt-leb (at + length (closing_bytes at)) cap (omega arith)), rw y)

  pub close_measured : really ≡ false → {k : ℕ} → k ≡ at + length (closing_bytes at) → k ≤ cap → (Ok k ≡ wrote_to cap (at + length (closing_bytes at))) × (buf ≡ put_if really buf at (closing_bytes at))
  unfolding put_if wrote_to
  close_measured y p h = (rw (le-leb (at + length (closing_bytes at)) cap (omega arith), p), rw y)
