-- For callers of `blank_end` and `token_at`: what the ranges of a token say, and how the reader goes on behind it.
-- Assumes nothing.
use Rattle.std.specs.Prelude.{Ok, Some}
use mathlib.Core.Path.{◌≡◌, refl, ap, sym, ◌∙◌}
use mathlib.Core.Bool.{true, false}
use mathlib.Core.List.{List, [], ◌∷◌, ◌++◌, append_assoc, append-nil}
use Prim.Native.Nat.{ℕ, suc, ◌+◌, ◌-◌, ◌<◌, ◌≤◌}
use native.Mathlib.Nat.{zero-add}
use native.Mathlib.Omega.{arith}
use lib.ListN.{length, get_or, drop, length-append}
use lib.Seq.{slice, get_or-drop, get_or-append-add}
use Rattle.base_lists.specs.Lists.{run}
use Rattle.base_lists.proofs.More.{contra}
use Rattle.base_lists.proofs.Parts.{slice_add}
use Rattle.base_bytes.specs.declared.Mode.{Mode}
use Rattle.base_bytes.specs.Bytes.{is_blank}
use Rattle.block_grammar.specs.Grammar.{Item, Placed, Reading}
use Rattle.block_grammar.specs.Grammar as rules
use Rattle.block_grammar.specs.Computed.{First, text, token_of, also, read_from}
use Rattle.block_grammar.proofs.Tokens.{token_sound}
use Rattle.block_grammar.proofs.Payload.{token_front}
use Rattle.block_grammar.proofs.Places.{part}
use Rattle.block_grammar.proofs.Loop as loop
use Rattle.block_places.specs.Computed.{token_place}
use Rattle.block_tokens.specs.declared.Token.{Token}
use Rattle.block_tokens.specs.declared.Token.TheVariants.{Bad, Tag, Id, Class, Plain, Quoted, Bare}
use Rattle.block_tokens.specs.Shown.{shown_item, shown, token_at, token_end}
use Rattle.block_tokens.specs.Inner.{behind_of}

-- ---- the item of a token, by the bytes of its ranges
abbrev pub item_of : List ℕ → Token → First
item_of s (Bad n) = First.none
item_of s (Tag f e) = First.token (Item.tag (slice f e s))
item_of s (Id f e) = First.token (Item.id (slice f e s))
item_of s (Class f e) = First.token (Item.class (slice f e s))
item_of s (Plain f k e) = First.token (Item.plain (slice f k s) (slice (k + 1) e s))
item_of s (Quoted f k e) = First.token (Item.quoted (slice f k s) (get_or s (k + 1) 0) (slice (k + 2) (e - 1) s))
item_of s (Bare f e) = First.token (Item.bare (slice f e s))

-- the ranges' order, for a token whose first byte stands at a
abbrev pub Spans : ℕ → Token → Type 0
Spans a (Bad n) = Unit {0}
Spans a (Tag f e) = (f ≡ a + 1) × (f ≤ e)
Spans a (Id f e) = (f ≡ a + 1) × (f ≤ e)
Spans a (Class f e) = (f ≡ a + 1) × (f ≤ e)
Spans a (Plain f k e) = (f ≡ a) × (f ≤ k) × (k + 1 ≤ e)
Spans a (Quoted f k e) = (f ≡ a) × (f ≤ k) × (k + 3 ≤ e)
Spans a (Bare f e) = (f ≡ a) × (f ≤ e)

item_spans : (a : ℕ) (j : Item) → Spans a (shown_item a j)
unfolding shown_item
item_spans a (Item.tag n) = (refl, omega arith)
item_spans a (Item.id n) = (refl, omega arith)
item_spans a (Item.class n) = (refl, omega arith)
item_spans a (Item.plain k v) = (refl, omega arith, omega arith)
item_spans a (Item.quoted k q v) = (refl, omega arith, omega arith)
item_spans a (Item.bare n) = (refl, omega arith)

pub item_behind : (a : ℕ) (j : Item) → token_end (shown_item a j) ≡ Some (a + length (text j))
unfolding shown_item text
item_behind a (Item.tag n) = ap (λ x. Some x) (omega arith)
item_behind a (Item.id n) = ap (λ x. Some x) (omega arith)
item_behind a (Item.class n) = ap (λ x. Some x) (omega arith)
item_behind a (Item.plain k v) = ap (λ x. Some x) (omega (arith, length-append k (61 ∷ v)))
item_behind a (Item.quoted k q v) = ap (λ x. Some x) (omega (arith, length-append k (61 ∷ (q ∷ (v ++ (q ∷ [])))), length-append v (q ∷ [])))
item_behind a (Item.bare n) = refl

-- so a loop goes on behind it
pub item_next : (a : ℕ) (j : Item) → behind_of (shown_item a j) ≡ Ok (a + length (text j))
item_next a j = go (shown_item a j) (item_behind a j)
  where
    go : (t : Token) {n : ℕ} → token_end t ≡ Some n → behind_of t ≡ Ok n
    go (Bad k) e = contra true refl (cc)
    go (Tag f e) q = cc
    go (Id f e) q = cc
    go (Class f e) q = cc
    go (Plain f k e) q = cc
    go (Quoted f k e) q = cc
    go (Bare f e) q = cc

-- the bytes of b, which stand in s behind those of p, which stand at a
range : (s p b c : List ℕ) (a f e : ℕ) → drop a s ≡ p ++ (b ++ c) → f ≡ a + length p → e ≡ f + length b → slice f e s ≡ b
range s p b c a f e h g l = rw (l, slice_add f (length b) s, g) (part s p b c a h)

item_ranges : (s : List ℕ) (a : ℕ) (j : Item) (c : List ℕ) → drop a s ≡ text j ++ c → item_of s (shown_item a j) ≡ First.token j
unfolding shown_item text
item_ranges s a (Item.tag n) c h = rw (range s (58 ∷ []) n c a (a + 1) (a + 1 + length n) h refl refl)
item_ranges s a (Item.id n) c h = rw (range s (35 ∷ []) n c a (a + 1) (a + 1 + length n) h refl refl)
item_ranges s a (Item.class n) c h = rw (range s (46 ∷ []) n c a (a + 1) (a + 1 + length n) h refl refl)
item_ranges s a (Item.plain k v) c h =
    let g : drop a s ≡ k ++ ((61 ∷ v) ++ c) = h ∙ append_assoc k (61 ∷ v) c in
    let w : drop a s ≡ (k ++ (61 ∷ [])) ++ (v ++ c) = g ∙ sym (append_assoc k (61 ∷ []) (v ++ c)) in
    rw (range s [] k ((61 ∷ v) ++ c) a a (a + length k) g (omega arith) refl, range s (k ++ (61 ∷ [])) v c a (a + length k + 1) (a + length k + 1 + length v) w (omega (arith, length-append k (61 ∷ []))) refl)
item_ranges s a (Item.quoted k q v) c h =
    let g : drop a s ≡ k ++ ((61 ∷ (q ∷ (v ++ (q ∷ [])))) ++ c) = h ∙ append_assoc k (61 ∷ (q ∷ (v ++ (q ∷ [])))) c in
    let w : drop a s ≡ (k ++ (61 ∷ (q ∷ []))) ++ (v ++ ((q ∷ []) ++ c)) = g ∙ (rw (append_assoc v (q ∷ []) c) (sym (append_assoc k (61 ∷ (q ∷ [])) (v ++ ((q ∷ []) ++ c))))) in
    let x : get_or s (a + length k + 1) 0 ≡ q = (let z : a + length k + 1 ≡ a + (length k + 1) = omega arith in rw (z, ← get_or-drop a s (length k + 1) 0, g) (get_or-append-add k ((61 ∷ (q ∷ (v ++ (q ∷ [])))) ++ c) 1 0)) in
    rw (
      range s [] k ((61 ∷ (q ∷ (v ++ (q ∷ [])))) ++ c) a a (a + length k) g (omega arith) refl,
      x,
      range s (k ++ (61 ∷ (q ∷ []))) v ((q ∷ []) ++ c) a (a + length k + 2) (a + length k + 3 + length v - 1) w (omega (arith, length-append k (61 ∷ (q ∷ [])))) (omega arith),
    )
item_ranges s a (Item.bare n) c h = rw (range s [] n c a a (a + length n) h (omega arith) refl)

-- ---- what `token_at` hands out loses nothing
module _ (m : Mode) (s : List ℕ) (a : ℕ) where
  pub ranges : {t : Token} → t ≡ token_at m s a → token_of m (drop a s) ≡ item_of s t
  unfolding shown
  ranges {t} e = go (token_of m (drop a s)) refl e
    where
      go : (x : First) → token_of m (drop a s) ≡ x → t ≡ shown a (a + token_place (drop a s)) x → x ≡ item_of s t
      go First.none p e = rw e
      go (First.token j) p e = let f = token_sound m (drop a s) j p in rw e (sym (item_ranges s a j f.rest (sym f.whole)))

  pub spans : {t : Token} → t ≡ token_at m s a → Spans a t
  unfolding shown
  spans e = rw e (go (token_of m (drop a s)))
    where
      go : (x : First) → Spans a (shown a (a + token_place (drop a s)) x)
      go First.none = tt
      go (First.token j) = item_spans a j

-- ---- the reader, from byte i on
abbrev add : List Placed → Placed → List Placed
add ps p = ps ++ (p ∷ [])

abbrev given : List Placed → Reading
given ps = Reading.items ps

adds : (ps is : List Placed) → loop.steps add Reading.refused given ps is ≡ ps ++ is
adds ps [] = sym (append-nil ps)
adds ps (p ∷ is) = adds (ps ++ (p ∷ [])) is ∙ append_assoc ps (p ∷ []) is

fill_none : (r : Reading) → loop.fill add Reading.refused given [] r ≡ r
fill_none Reading.refused = refl
fill_none (Reading.items is) = ap (λ x. Reading.items x) (adds [] is)

fill_one : (p : Placed) (r : Reading) → loop.fill add Reading.refused given (p ∷ []) r ≡ also p r
fill_one p Reading.refused = refl
fill_one p (Reading.items is) = ap (λ x. Reading.items x) (adds (p ∷ []) is)

-- the token at a, behind the blanks from i on, is j and ends before e
pub record Stepped (m : Mode) (s : List ℕ) (i a : ℕ) (j : Item) (e : ℕ) : Type 0 where
  pub next : read_from m (drop i s) 0 i ≡ also (record { at = a; item = j }) (read_from m (drop e s) 0 e)
  pub ahead : a < e
  pub within : e ≤ length s
  pub token : rules.IsToken (text j) j

module _ (m : Mode) (s : List ℕ) {i a : ℕ} (fits : i ≤ length s) (is : a ≡ i + run (is_blank m) (drop i s)) where
  here : loop.Reads add Reading.refused given m s 0 (read_from m (drop i s) 0 i) i []
  here = record { within = fits; rest = rw zero-add (fill_none (read_from m (drop i s) 0 i)) }

  pub between : (i ≤ a) × (a ≤ length s)
  between = loop.between add Reading.refused given here is

  pub no_blank : a < length s → is_blank m (get_or s a 0) ≡ false
  no_blank h = loop.solid add Reading.refused given here is h

  pub at_end : a ≡ length s → read_from m (drop i s) 0 i ≡ Reading.items []
  at_end h = sym (loop.end add Reading.refused given (loop.blanks add Reading.refused given here is) (omega arith))

  pub none_refused : a < length s → token_of m (drop a s) ≡ First.none → read_from m (drop i s) 0 i ≡ Reading.refused
  none_refused h e = sym (loop.none add Reading.refused given (loop.blanks add Reading.refused given here is) h (no_blank h) e)

  pub refused : {n : ℕ} → a < length s → Bad n ≡ token_at m s a → read_from m (drop i s) 0 i ≡ Reading.refused
  refused h e = none_refused h (ranges m s a e)

  pub token_stepped : {j : Item} {e : ℕ} → token_of m (drop a s) ≡ First.token j → Some e ≡ token_end (shown_item a j) → Stepped m s i a j e
  token_stepped {j} {e} x q =
      let w : a + length (text j) ≡ e = cc (item_behind a j) in
      let f = token_sound m (drop a s) j x in
      let o = token_front m f.token in
      let l : length (text j) ≡ suc (length o.tail) = ap length o.is in
      let r = loop.token add Reading.refused given (loop.blanks add Reading.refused given here is) j x in
      record {
        next = sym r.rest ∙ (rw (zero-add, w, zero-add) (fill_one (record { at = a; item = j }) (read_from m (drop e s) 0 e)));
        ahead = omega arith;
        within = omega (arith, r.within);
        token = f.token;
      }

  -- j and e are found from the token t, as `item_of` and `token_end` compute at it: `stepped m s fits is q refl refl`
  pub stepped : {t : Token} {j : Item} {e : ℕ} → t ≡ token_at m s a → item_of s t ≡ First.token j → Some e ≡ token_end t → Stepped m s i a j e
  unfolding shown
  stepped q p b = let x = ranges m s a q ∙ p in token_stepped x (rw x at (b ∙ ap token_end q))

  -- the same for each kind of token
  pub tag_step : {f e : ℕ} → Tag f e ≡ token_at m s a → Stepped m s i a (Item.tag (slice f e s)) e
  tag_step q = stepped q refl refl

  pub id_step : {f e : ℕ} → Id f e ≡ token_at m s a → Stepped m s i a (Item.id (slice f e s)) e
  id_step q = stepped q refl refl

  pub class_step : {f e : ℕ} → Class f e ≡ token_at m s a → Stepped m s i a (Item.class (slice f e s)) e
  class_step q = stepped q refl refl

  pub plain_step : {f k e : ℕ} → Plain f k e ≡ token_at m s a → Stepped m s i a (Item.plain (slice f k s) (slice (k + 1) e s)) e
  plain_step q = stepped q refl refl

  pub quoted_step : {f k e : ℕ} → Quoted f k e ≡ token_at m s a → Stepped m s i a (Item.quoted (slice f k s) (get_or s (k + 1) 0) (slice (k + 2) (e - 1) s)) e
  quoted_step q = stepped q refl refl

  pub bare_step : {f e : ℕ} → Bare f e ≡ token_at m s a → Stepped m s i a (Item.bare (slice f e s)) e
  bare_step q = stepped q refl refl
