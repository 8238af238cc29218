-- The search for the close finds what the rules say and nothing else; and why the place of the last `}` can be dropped.
-- Assumes nothing.
use Rattle.std.specs.Prelude.{None, Option, Some}
use mathlib.Core.Path.{◌≡◌, refl, sym, ap}
use mathlib.Core.Bool.{Bool, true, false, not, ◌||◌, cond}
use mathlib.Core.List.{List, [], ◌∷◌, ◌++◌, append_assoc, append-nil}
use Prim.Native.Nat.{ℕ, suc, ◌+◌, ◌-◌, ◌≤◌}
use native.Mathlib.Nat.{add-zero, add-suc, suc-add}
use native.Mathlib.Omega.{arith}
use lib.Dec.{eqb, leb}
use lib.ListN.{length, take, drop, length-append, take-append-drop}
use lib.Seq.{drop-nil, drop-drop}
use borrow.Author.Tests.{eqb-true, eq-eqb, ne_eqb, not-true, le-ltb, leb-true, leb-false}
use Rattle.base_lists.specs.Lists.{all, is_in}
use Rattle.base_lists.proofs.Scan.{both, all_append}
use Rattle.base_lists.proofs.More.{contra, all_parts}
use Rattle.base_bytes.specs.Bytes.{is_quote}
use Rattle.block_grammar.specs.Grammar.{Inside}
use Rattle.block_grammar.specs.Close.{uncovered, turned, fresh, Covered, no_lf}
use Rattle.block_grammar.specs.ComputedClose.{Scanned, going, scan_step, go_on, close_from, find_close}
use Rattle.proved_grammar.specs.Close.{last_from, last_close, is_before, FoundCloses, CloseIsFound, OneClose, NothingIsNoClose, not_close, IsLast, LastIsTrue, NoBraceNoClose, ThirdArgument, ThirdChangesNothing}
use Rattle.block_grammar.proofs.Tokens.{quote_not}
use Rattle.block_grammar.proofs.Close.{quote_close, quote-lf}
use Rattle.block_grammar.proofs.Close as laws

-- ======== by the rules
pub close_found : FoundCloses
close_found = laws.close_found

-- an ordinary byte outside quotes
byte_pass : (b : ℕ) (t : List ℕ) (i : ℕ) → is_in (34 ∷ 39 ∷ 92 ∷ 125 ∷ []) b ≡ false → eqb b 10 ≡ false → close_from (b ∷ t) fresh i ≡ close_from t fresh (suc i)
unfolding close_from scan_step turned is_quote is_in
byte_pass b t i h n = rw n (go (eqb b 34) (eqb b 39) (eqb b 92) (eqb b 125) h)
  where
    go : (w x y z : Bool) → (w || (x || (y || (z || false)))) ≡ false → go_on (cond y (going None true) (cond z Scanned.closed (going (cond (w || (x || false)) (Some b) None) false))) i (λ v. close_from t v (suc i)) ≡ close_from t fresh (suc i)
    go true x y z h = contra true refl h
    go false true y z h = contra true refl h
    go false false true z h = contra true refl h
    go false false false true h = contra true refl h
    go false false false false h = refl

-- the text in a quote, and the quote's end
inside_pass : {q : ℕ} {v : List ℕ} → Inside q v → (q ≡ 92 → ⊥) → eqb q 10 ≡ false → no_lf v ≡ true → (t : List ℕ) (i : ℕ) → close_from (v ++ (q ∷ t)) (uncovered (Some q)) i ≡ close_from t fresh (suc (i + length v))
unfolding no_lf all close_from scan_step turned
inside_pass {q} Inside.end w n h t i = rw (n, ne_eqb q 92 w, eq-eqb q q refl, add-zero)
inside_pass {q} (Inside.byte {b = b} {s = s} p r g) w n h t i =
    let k = both (not (eqb b 10)) (all (λ b. not (eqb b 10)) s) h in
    rw (not-true (eqb b 10) k.0, ne_eqb b 92 r, ne_eqb b q p, inside_pass g w n k.1 t (suc i), add-suc, suc-add)
inside_pass {q} (Inside.pair {b = b} {s = s} g) w n h t i =
    let k = both (not (eqb b 10)) (all (λ b. not (eqb b 10)) s) h in
    rw (not-true (eqb b 10) k.0, inside_pass g w n k.1 t (suc (suc i)), add-suc, add-suc, suc-add, suc-add)

quote_pass : (q : ℕ) (t : List ℕ) (i : ℕ) → is_quote q ≡ true → close_from (q ∷ t) fresh i ≡ close_from t (uncovered (Some q)) (suc i)
unfolding close_from scan_step turned
quote_pass q t i h = rw (quote-lf q h, ne_eqb q 92 (quote_not q h), quote_close q h, h)

pair_pass : (b : ℕ) (t : List ℕ) (i : ℕ) → eqb b 10 ≡ false → close_from (92 ∷ (b ∷ t)) fresh i ≡ close_from t fresh (suc (suc i))
unfolding close_from scan_step
pair_pass b t i n = rw n

-- covered text may be put together
pub covered_append : {s t : List ℕ} → Covered s → Covered t → Covered (s ++ t)
covered_append Covered.end d = d
covered_append (Covered.byte n c) d = Covered.byte n (covered_append c d)
covered_append (Covered.pair c) d = Covered.pair (covered_append c d)
covered_append {t = t} (Covered.quoted {q = q} {v = v} {s = s} p g c) d = rw (append_assoc v (q ∷ s) t) (Covered.quoted p g (covered_append c d))

-- and is passed
covered_pass : {s : List ℕ} → Covered s → no_lf s ≡ true → (t : List ℕ) (i : ℕ) → close_from (s ++ t) fresh i ≡ close_from t fresh (i + length s)
unfolding no_lf all
covered_pass Covered.end h t i = rw add-zero
covered_pass (Covered.byte {b = b} {s = s} n c) h t i =
    let k = both (not (eqb b 10)) (all (λ b. not (eqb b 10)) s) h in
    rw (byte_pass b (s ++ t) i n (not-true (eqb b 10) k.0), covered_pass c k.1 t (suc i), add-suc, suc-add)
covered_pass (Covered.pair {b = b} {s = s} c) h t i =
    let k = both (not (eqb b 10)) (all (λ b. not (eqb b 10)) s) h in
    rw (pair_pass b (s ++ t) i (not-true (eqb b 10) k.0), covered_pass c k.1 t (suc (suc i)), add-suc, add-suc, suc-add, suc-add)
covered_pass (Covered.quoted {q = q} {v = v} {s = s} p g c) h t i =
    let k = both (not (eqb q 10)) (all (λ b. not (eqb b 10)) (v ++ (q ∷ s))) h in
    let l = all_parts (λ b. not (eqb b 10)) v (q ∷ s) k.1 in
    let m = both (not (eqb q 10)) (all (λ b. not (eqb b 10)) s) l.1 in
    let z : suc (suc i + length v) + length s ≡ i + suc (length (v ++ (q ∷ s))) = omega (arith, length-append v (q ∷ s)) in
    rw (quote_pass q ((v ++ (q ∷ s)) ++ t) i p, append_assoc v (q ∷ s) t, inside_pass g (quote_not q p) (quote-lf q p) l.0 (s ++ t) (suc i), covered_pass c m.1 t (suc (suc i + length v)))
    (ap (λ x. close_from t fresh x) z)

close_here : (t : List ℕ) (i : ℕ) → close_from (125 ∷ t) fresh i ≡ Some i
unfolding close_from scan_step is_quote is_in
close_here t i = refl

pub close_complete : {s : List ℕ} {i e : ℕ} → CloseIsFound s i e
close_complete {s} {i} {e} c = rw (c.whole, covered_pass c.covered c.flat (125 ∷ c.rest) i, close_here c.rest (i + length c.inside), c.place)

-- at most one close, and refused only where there is none
pub one_close : {s : List ℕ} {i e e' : ℕ} → OneClose s i e e'
one_close c d = let p = close_complete c in let q = close_complete d in cc

pub no_close : (s : List ℕ) (i : ℕ) {e : ℕ} → NothingIsNoClose s i e
no_close s i h c = let p = close_complete c in contra true refl (cc)

-- ======== the dropped third argument
-- with no `}` there is no close
pub no_brace : NoBraceNoClose
unfolding all
no_brace s i h = go (close_from s fresh i) refl
  where
    go : (r : Option ℕ) → close_from s fresh i ≡ r → r ≡ None
    go None e = refl
    go (Some e) q = let c = close_found s i e q in contra false (all_parts not_close c.inside (125 ∷ c.rest) (rw c.whole at h)).1 refl

-- a `}` at p or behind it is not before `start`
last_after : (s : List ℕ) (i p start : ℕ) → start ≤ p → start ≤ i → is_before (last_from s i (Some p)) start ≡ false
unfolding last_from
last_after [] i p start h k = le-ltb p start h
last_after (b ∷ s) i p start h k = go (eqb b 125) (last_after s (suc i) i start k (omega arith)) (last_after s (suc i) p start h (omega arith))
  where
    go : (x : Bool) → is_before (last_from s (suc i) (Some i)) start ≡ false → is_before (last_from s (suc i) (Some p)) start ≡ false → is_before (last_from s (suc i) (cond x (Some i) (Some p))) start ≡ false
    go true p q = p
    go false p q = q

none_behind : (s : List ℕ) (i : ℕ) (last : Option ℕ) (start : ℕ) → is_before (last_from s i last) start ≡ true → all not_close (drop (start - i) s) ≡ true
unfolding last_from all
none_behind [] i last start h = rw (drop-nil (start - i))
none_behind (b ∷ s) i last start h = go (leb start i) refl (eqb b 125) refl h (λ l. none_behind s (suc i) l start)
  where
    go : (x : Bool) → leb start i ≡ x → (y : Bool) → eqb b 125 ≡ y → is_before (last_from s (suc i) (cond y (Some i) last)) start ≡ true
        → ((l : Option ℕ) → is_before (last_from s (suc i) l) start ≡ true → all not_close (drop (start - suc i) s) ≡ true) → all not_close (drop (start - i) (b ∷ s)) ≡ true
    go true p true q h ih = contra (is_before (last_from s (suc i) (Some i)) start) h (last_after s (suc i) i start (leb-true start i p) (omega (arith, leb-true)))
    go true p false q h ih =
        let l = leb-true start i p in
        let z : start - i ≡ 0 = omega arith in
        let y : start - suc i ≡ 0 = omega arith in
        rw (z, q) (rw y at (ih last h))
    go false p y q h ih =
        let l = leb-false start i p in
        let z : start - i ≡ suc (start - suc i) = omega arith in
        rw z (ih (cond y (Some i) last) h)

-- where the text's last `}` stands before `start`, the search from there on finds nothing, and the reader refuses anyway
pub third_argument : ThirdArgument
unfolding last_close find_close all
third_argument s start at h e =
    let z : start - 0 ≡ start = omega arith in
    let y : start + (at - start) ≡ at = omega arith in
    let a : all not_close (drop start s) ≡ true = rw z at (none_behind s 0 None start e) in
    let d = at - start in
    let t = drop start s in
    let b : all not_close (drop d t) ≡ true = (all_parts not_close (take d t) (drop d t) (rw (take-append-drop d t) a)).1 in
    no_brace (drop at s) at (rw (drop-drop (at - start) start s, y) at b)

pub third_changes_nothing : ThirdChangesNothing
third_changes_nothing s start = go (is_before (last_close s) start) refl
  where
    go : (x : Bool) → is_before (last_close s) start ≡ x → cond x None (find_close s (suc start)) ≡ find_close s (suc start)
    go true e = sym (third_argument s start (suc start) (omega arith) e)
    go false e = refl

-- ---- the place that is tested is the true one

-- s goes on behind `front`, whose last `}` is `last`
last_on : (front s : List ℕ) (i : ℕ) (last : Option ℕ) → i ≡ length front → IsLast front last → IsLast (front ++ s) (last_from s i last)
unfolding last_from all
last_on front [] i last h p = rw append-nil p
last_on front (b ∷ s) i last h p =
    let l : suc i ≡ length (front ++ (b ∷ [])) = omega (arith, length-append front (b ∷ [])) in
    rw (← append_assoc front (b ∷ []) s) (last_on (front ++ (b ∷ [])) s (suc i) (cond (eqb b 125) (Some i) last) l (go (eqb b 125) refl last p))
  where
    go : (x : Bool) → eqb b 125 ≡ x → (last : Option ℕ) → IsLast front last → IsLast (front ++ (b ∷ [])) (cond x (Some i) last)
    go true e last p = record { front = front; rest = []; whole = rw (eqb-true b 125 e); place = h; none = refl }
    go false e None p = all_append not_close front (b ∷ []) p (rw e)
    go false e (Some k) p = record {
      front = p.front;
      rest = p.rest ++ (b ∷ []);
      whole = rw p.whole (append_assoc p.front (125 ∷ p.rest) (b ∷ []));
      place = p.place;
      none = all_append not_close p.rest (b ∷ []) p.none (rw e);
    }

pub last_is_last : LastIsTrue
unfolding last_close all
last_is_last s = last_on [] s 0 None refl refl
