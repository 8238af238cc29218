-- The search for the close finds what the rules say and nothing else; what a loop and a reader ask of it; and why the place of the last `}` can be dropped.
-- Assumes nothing.
use Rattle.std.specs.Prelude.{None, Option, Some}
use mathlib.Core.Path.{◌≡◌, refl, ap, sym, ◌∙◌}
use mathlib.Core.Bool.{Bool, true, false, ◌||◌, cond}
use mathlib.Core.List.{List, [], ◌∷◌, ◌++◌}
use Prim.Native.Nat.{ℕ, suc, ◌+◌, ◌-◌, ◌<◌, ◌≤◌}
use native.Mathlib.Nat.{add-zero}
use native.Mathlib.Omega.{arith}
use native.Mathlib.Numerals.{add-one}
use lib.Dec.{eqb}
use lib.ListN.{length, get_or, take, drop, drop_of_length-le, length-drop, length-append}
use lib.Seq.{drop-cons, take_at, get_or-drop, get_or-append_seam}
use borrow.Author.Tests.{eqb-true, eqb-false}
use Rattle.base_lists.specs.Lists.{all, is_in}
use Rattle.base_lists.proofs.More.{contra, among_not}
use Rattle.base_bytes.specs.Bytes.{is_quote}
use Rattle.block_grammar.specs.Grammar.{Inside}
use Rattle.block_grammar.specs.declared.Scan.{Scan}
use Rattle.block_grammar.specs.Close.{turned, fresh, Covered, no_lf, Closes}
use Rattle.block_grammar.specs.ComputedClose.{Scanned, going, bare_step, scan_step, go_on, close_from, find_close}
use Rattle.block_grammar.proofs.Tokens.{covering}

-- ======== what is found is a close

-- in the quote q: text up to where it closes, then covered text
record Quoted (q : ℕ) (escaped : Bool) (s : List ℕ) : Type 0 where
  text : List ℕ
  behind : List ℕ
  whole : s ≡ text ++ (q ∷ behind)
  within : Inside q (covering escaped text)
  rest : Covered behind

-- what stands before the close, by the search's state
abbrev Left : Option ℕ → Bool → List ℕ → Type 0
Left None escaped s = Covered (covering escaped s)
Left (Some q) escaped s = Quoted q escaped s

record Ends (q : Option ℕ) (escaped : Bool) (s : List ℕ) (i e : ℕ) : Type 0 where
  inside : List ℕ
  rest : List ℕ
  whole : s ≡ inside ++ (125 ∷ rest)
  place : e ≡ i + length inside
  left : Left q escaped inside
  flat : no_lf inside ≡ true

-- one byte more in front
longer : {q q' : Option ℕ} {x x' : Bool} {s : List ℕ} {i e : ℕ} (b : ℕ) → eqb b 10 ≡ false → ((t : List ℕ) → Left q' x' t → Left q x (b ∷ t)) → Ends q' x' s (suc i) e → Ends q x (b ∷ s) i e
unfolding no_lf all
longer b n w h = record { inside = b ∷ h.inside; rest = h.rest; whole = ap (λ l. b ∷ l) h.whole; place = omega (arith, h.place); left = w h.inside h.left; flat = rw n h.flat }

-- by a byte that a backslash covers
by_covered : (q : Option ℕ) (b : ℕ) (t : List ℕ) → Left q false t → Left q true (b ∷ t)
by_covered None b t l = Covered.pair l
by_covered (Some k) b t l = record { text = b ∷ l.text; behind = l.behind; whole = ap (λ u. b ∷ u) l.whole; within = Inside.pair l.within; rest = l.rest }

by_backslash : (q : Option ℕ) (b : ℕ) → eqb b 92 ≡ true → (t : List ℕ) → Left q true t → Left q false (b ∷ t)
by_backslash None b p t l = rw (eqb-true b 92 p) l
by_backslash (Some k) b p t l = rw (eqb-true b 92 p) (record { text = 92 ∷ l.text; behind = l.behind; whole = ap (λ u. 92 ∷ u) l.whole; within = l.within; rest = l.rest })

by_end : (k b : ℕ) → eqb b k ≡ true → (t : List ℕ) → Covered t → Quoted k false (b ∷ t)
by_end k b p t l = rw (eqb-true b k p) (record { text = []; behind = t; whole = refl; within = Inside.end; rest = l })

by_inside : (k b : ℕ) → eqb b k ≡ false → eqb b 92 ≡ false → (t : List ℕ) → Quoted k false t → Quoted k false (b ∷ t)
by_inside k b p r t l = record { text = b ∷ l.text; behind = l.behind; whole = ap (λ u. b ∷ u) l.whole; within = Inside.byte (eqb-false b k p) (eqb-false b 92 r) l.within; rest = l.rest }

by_quote : (b : ℕ) → is_quote b ≡ true → (t : List ℕ) → Quoted b false t → Covered (b ∷ t)
by_quote b p t l = rw l.whole (Covered.quoted p l.within l.rest)

other : (b : ℕ) → is_quote b ≡ false → eqb b 92 ≡ false → eqb b 125 ≡ false → is_in (34 ∷ 39 ∷ 92 ∷ 125 ∷ []) b ≡ false
unfolding is_quote is_in
other b p q r = go (eqb b 34) (eqb b 39) p
  where
    go : (x y : Bool) → (x || (y || false)) ≡ false → (x || (y || (eqb b 92 || (eqb b 125 || false)))) ≡ false
    go true y e = contra true refl e
    go false true e = contra true refl e
    go false false e = rw (q, r)

pub quote-lf : (q : ℕ) → is_quote q ≡ true → eqb q 10 ≡ false
unfolding is_quote all
quote-lf q h = among_not (λ x. eqb x 10) (34 ∷ 39 ∷ []) q refl h

pub quote_close : (q : ℕ) → is_quote q ≡ true → eqb q 125 ≡ false
unfolding is_quote all
quote_close q h = among_not (λ x. eqb x 125) (34 ∷ 39 ∷ []) q refl h

close_from_lem : (s : List ℕ) (q : Option ℕ) (x : Bool) (i e : ℕ) → close_from s (record { quote = q; escaped = x }) i ≡ Some e → Ends q x s i e
unfolding close_from scan_step turned no_lf all
close_from_lem [] q x i e h = contra true refl (cc)
close_from_lem (b ∷ s) q x i e h = go (eqb b 10) (eqb b 92) q x refl refl h (λ q x. close_from_lem s q x (suc i) e)
  where
    out : (y z : Bool) → is_quote b ≡ y → eqb b 125 ≡ z → eqb b 10 ≡ false → eqb b 92 ≡ false → go_on (cond z Scanned.closed (going (cond y (Some b) None) false)) i (λ v. close_from s v (suc i)) ≡ Some e → ((q : Option ℕ) (x : Bool) → close_from s (record { quote = q; escaped = x }) (suc i) ≡ Some e → Ends q x s (suc i) e) → Ends None false (b ∷ s) i e
    out true true p r n w h ih = contra (eqb b 125) r (quote_close b p)
    out true false p r n w h ih = longer b n (by_quote b p) (ih (Some b) false h)
    out false true p r n w h ih = let z : i ≡ e = cc in record { inside = []; rest = s; whole = rw (eqb-true b 125 r); place = rw add-zero (sym z); left = Covered.end; flat = refl }
    out false false p r n w h ih = longer b n (λ t l. Covered.byte (other b p w r) l) (ih None false h)

    inq : (k : ℕ) (y : Bool) → eqb b k ≡ y → eqb b 10 ≡ false → eqb b 92 ≡ false → go_on (going (cond y None (Some k)) false) i (λ v. close_from s v (suc i)) ≡ Some e → ((q : Option ℕ) (x : Bool) → close_from s (record { quote = q; escaped = x }) (suc i) ≡ Some e → Ends q x s (suc i) e) → Ends (Some k) false (b ∷ s) i e
    inq k true p n w h ih = longer b n (by_end k b p) (ih None false h)
    inq k false p n w h ih = longer b n (by_inside k b p w) (ih (Some k) false h)

    go : (l y : Bool) (q : Option ℕ) (x : Bool) → eqb b 10 ≡ l → eqb b 92 ≡ y → go_on (cond l Scanned.broken (cond x (going q false) (cond y (going q true) (bare_step q b)))) i (λ v. close_from s v (suc i)) ≡ Some e → ((q : Option ℕ) (x : Bool) → close_from s (record { quote = q; escaped = x }) (suc i) ≡ Some e → Ends q x s (suc i) e) → Ends q x (b ∷ s) i e
    go true y q x n w h ih = contra true refl (cc)
    go false y q true n w h ih = longer b n (by_covered q b) (ih q false h)
    go false true q false n w h ih = longer b n (by_backslash q b w) (ih q true h)
    go false false (Some k) false n w h ih = inq k (eqb b k) refl n w h ih
    go false false None false n w h ih = out (is_quote b) (eqb b 125) refl refl n w h ih

pub close_found : (s : List ℕ) (i e : ℕ) → close_from s fresh i ≡ Some e → Closes s i e
close_found s i e h = let c = close_from_lem s None false i e h in record { inside = c.inside; rest = c.rest; whole = c.whole; place = c.place; covered = c.left; flat = c.flat }

-- ======== a close is found

-- ======== what a reader asks of the place found

pub closes_within : (s : List ℕ) (at : ℕ) {e : ℕ} → Closes (drop at s) at e → (at ≤ e) × (e < length s)
closes_within s at c = omega (arith, c.place, length-drop at s, ap length c.whole, length-append c.inside (125 ∷ c.rest))

pub payload_is : (s : List ℕ) (at : ℕ) {e : ℕ} (c : Closes (drop at s) at e) → take (e - at) (drop at s) ≡ c.inside
payload_is s at {e} c = ap (λ l. take (e - at) l) c.whole ∙ take_at c.inside (125 ∷ c.rest) (e - at) (omega (arith, c.place))

pub record Found (s : List ℕ) (at e : ℕ) : Type 0 where
  pub from : at ≤ e
  pub to : e < length s
  pub brace : get_or s e 0 ≡ 125
  pub closes : Closes (drop at s) at e
  pub payload : take (e - at) (drop at s) ≡ closes.inside

pub found : (s : List ℕ) (at e : ℕ) → find_close s at ≡ Some e → Found s at e
unfolding find_close
found s at e h =
    let c = close_found (drop at s) at e h in
    record {
      from = (closes_within s at c).0;
      to = (closes_within s at c).1;
      brace = ap (λ n. get_or s n 0) c.place ∙ sym (get_or-drop at s (length c.inside) 0) ∙ ap (λ l. get_or l (length c.inside) 0) c.whole ∙ get_or-append_seam c.inside 125 c.rest 0;
      closes = c;
      payload = payload_is s at c;
    }

-- ======== what a loop asks, one law for each way on: it stands before byte i of s in the state st, and the answer is r
pub record Scans (s : List ℕ) (r : Option ℕ) (i : ℕ) (st : Scan) : Type 0 where
  pub rest : close_from (drop i s) st i ≡ r

pub start : (s : List ℕ) (at : ℕ) → Scans s (find_close s at) at fresh
unfolding find_close
start s at = record { rest = refl }

module _ {s : List ℕ} {r : Option ℕ} {i : ℕ} {st : Scan} (inv : Scans s r i st) where
  pub end : length s ≤ i → None ≡ r
  unfolding close_from
  end h = rw (drop_of_length-le s h) at inv.rest

  module _ (h : i < length s) where
    pub closed : Scanned.closed ≡ scan_step st (get_or s i 0) → Some i ≡ r
    unfolding close_from
    closed e = rw (drop-cons s i 0 h, ← e) at inv.rest

    pub broken : Scanned.broken ≡ scan_step st (get_or s i 0) → None ≡ r
    unfolding close_from
    broken e = rw (drop-cons s i 0 h, ← e) at inv.rest

    pub go : {v : Scan} → Scanned.on v ≡ scan_step st (get_or s i 0) → Scans s r (i + 1) v
    unfolding close_from
    go e = record { rest = rw add-one (rw (drop-cons s i 0 h, ← e) at inv.rest) }
