-- Where a later line of a run stops being what may stand there.
-- Assumes nothing.
use mathlib.Core.Path.{◌≡◌, refl, sym, ◌∙◌, ap}
use mathlib.Core.Bool.{Bool, true, false, cond, ◌&&◌, ◌||◌}
use mathlib.Core.List.{List, [], ◌∷◌, ◌++◌, append-nil, tail}
use Prim.Native.Nat.{ℕ, zero, suc, ◌+◌, ◌-◌, ◌<◌, ◌≤◌}
use native.Mathlib.Omega.{arith}
use borrow.Author.Tests.{leb-true, leb-false, eq-eqb, eqb-true, eqb-false}
use lib.Dec.{eqb, leb}
use lib.ListN.{length, get_or, take, drop, length-take, length-drop, length-append, get_or-eq_default}
use lib.Seq.{slice, take-suc, drop-cons, get_or-drop}
use Rattle.base_lists.specs.Lists.{begins_pair}
use Rattle.base_lists.proofs.More.{contra}
use Rattle.base_lists.proofs.Parts.{slice_part}
use Rattle.base_lists.proofs.Scan.{both}
use Rattle.base_bytes.specs.declared.Mode.TheVariants.{Loose}
use Rattle.text_names.specs.Longest.{CanGoOn, Longest}
use Rattle.text_lines.specs.Lines.{line_at}
use Rattle.text_lines.proofs.Trim.{core_is}
use Rattle.block_grammar.specs.Grammar.{Reading}
use Rattle.block_grammar.specs.Computed.{read_payload}
use Rattle.block_grammar.proofs.Payload as payload
use Rattle.block_places.specs.Rules.{HasReading}
use Rattle.block_places.specs.Computed.{payload_place}
use Rattle.block_places.proofs.Place.{place_longest}
use Rattle.block_tokens.specs.Shown.{accepted, payload_tested}
use Rattle.block_payloads.specs.Payloads.{ends_in_close, behind_from, behind_last, continues}
use Rattle.run_stops.specs.Stops.{stops_at, last_from, closes_at, entries_in, entries_place}
use Rattle.run_stops.proofs.Laws.{last_is, entries_short}
use Rattle.proved_findings.specs.Entries.{Fits, TruePlaces, InTheLine}

-- ---- what stands behind the last `}{` is the end of the line

record Ends (s x : List ℕ) : Type 0 where
  from : ℕ
  within : from ≤ length s
  is : drop from s ≡ x

ends_tail : (s : List ℕ) (b : ℕ) (x : List ℕ) → Ends s (b ∷ x) → Ends s x
ends_tail s b x e =
    let h : e.from < length s = omega (arith, e.within, length-drop e.from s, ap length e.is) in
    record { from = suc e.from; within = omega (arith, h); is = ap (drop 1) (sym (drop-cons s e.from 0 h) ∙ e.is) }

ends-behind : (s best x : List ℕ) → Ends s best → Ends s x → Ends s (behind_from best x)
unfolding behind_from
ends-behind s best [] d e = d
ends-behind s best (b ∷ x) d e = ends-behind s (cond (begins_pair 125 123 (b ∷ x)) (tail x) best) x (go (begins_pair 125 123 (b ∷ x)) x (ends_tail s b x e)) (ends_tail s b x e)
  where
    go : (p : Bool) (x : List ℕ) → Ends s x → Ends s (cond p (tail x) best)
    go false x e = d
    go true [] e = e
    go true (c ∷ x) e = ends_tail s c x e

behind_is : (s : List ℕ) → drop (last_from s) s ≡ behind_last s
unfolding behind_last
behind_is s =
    let all : Ends s s = record { from = 0; within = omega arith; is = refl } in
    let e = ends-behind s s s all all in
    rw (← last_is s e.within e.is) e.is

-- ---- a prefix of p, continued to u and a `}`

data Cut (p u : List ℕ) (k : ℕ) : Type 0 where
  inside : (r : List ℕ) → take k p ++ r ≡ u → Cut p u k
  whole : k ≡ suc (length u) → take (length u) p ≡ u → get_or p (length u) 0 ≡ 125 → Cut p u k

cut : (p u : List ℕ) (k : ℕ) (r : List ℕ) → k ≤ length p → u ++ (125 ∷ []) ≡ take k p ++ r → Cut p u k
cut p u zero r h e = Cut.inside u refl
cut [] u (suc k) r h e = absurd (omega (arith, h))
cut (a ∷ p) [] (suc k) r h e = Cut.whole (omega (arith, h, ap length e, length-append (take k p) r, length-take k p)) refl (sym (ap (λ w. get_or w 0 0) e))
cut (a ∷ p) (b ∷ u) (suc k) r h e = go (cut p u k r (omega (arith, h)) (ap (drop 1) e))
  where
    same : b ≡ a
    same = ap (λ w. get_or w 0 0) e

    go : Cut p u k → Cut (a ∷ p) (b ∷ u) (suc k)
    go (Cut.inside r q) = Cut.inside r (rw (same, q))
    go (Cut.whole x y z) = Cut.whole (ap suc x) (rw (same, y)) z

-- ---- the place of entries, and behind the `}` that ends them

is_read : (s : List ℕ) → accepted (read_payload Loose 0 s) ≡ true → HasReading Loose s
is_read s = go (read_payload Loose 0 s) refl
  where
    go : (r : Reading) → read_payload Loose 0 s ≡ r → accepted r ≡ true → HasReading Loose s
    go Reading.refused p e = contra false e refl
    go (Reading.items is) p e = record { items = is; payload = payload.sound Loose 0 s is p }

read_is : (s : List ℕ) → HasReading Loose s → accepted (read_payload Loose 0 s) ≡ true
read_is s h = rw (payload.complete h.payload)

module _ (from : ℕ) (p : List ℕ) where
  abbrev n : ℕ
  n = payload_place Loose p

  -- a `}` at n ends what stands before it
  abbrev closing : Bool
  closing = eqb (get_or p n 0) 125 && (eqb (from + n) 0 || accepted (read_payload Loose 0 (take n p)))

  -- how far a prefix that can be continued goes
  data Reach (k : ℕ) : Type 0 where
    to : k ≤ n → Reach k
    past : k ≡ suc n → closing ≡ true → Reach k

  closing_whole : get_or p n 0 ≡ 125 → accepted (read_payload Loose 0 (take n p)) ≡ true → closing ≡ true
  closing_whole a b = rw (eq-eqb (get_or p n 0) 125 a, b) (go (eqb (from + n) 0))
    where
      go : (x : Bool) → (x || true) ≡ true
      go true = refl
      go false = refl

  module _ (k : ℕ) (h : k ≤ length p) where
    shut : (u : List ℕ) → HasReading Loose u → Cut p u k → Reach k
    shut u r (Cut.inside x e) = Reach.to ((place_longest Loose p).longest k h (record { rest = x; good = rw e r }))
    shut u r (Cut.whole x y z) = go (eqb (length u) n) refl ((place_longest Loose p).longest (length u) (omega (arith, h, x)) (record { rest = []; good = rw (append-nil, y) r }))
      where
        go : (b : Bool) → eqb (length u) n ≡ b → length u ≤ n → Reach k
        go true e w = let q = eqb-true (length u) n e in Reach.past (x ∙ ap suc q) (closing_whole (rw q at z) (rw (rw q at y) (read_is u r)))
        go false e w = Reach.to (omega (arith, x, w, eqb-false (length u) n e))

    fronted : from ≡ 0 → Cut p [] k → Reach k
    fronted z (Cut.inside r e) = Reach.to (omega (arith, h, ap length e, length-append (take k p) r, length-take k p))
    fronted z (Cut.whole x y w) = go (eqb 0 n) refl
      where
        go : (b : Bool) → eqb 0 n ≡ b → Reach k
        go true e = let q = eqb-true 0 n e in Reach.past (x ∙ ap suc q) (rw (eq-eqb (get_or p n 0) 125 (sym (ap (λ i. get_or p i 0) q) ∙ w), eq-eqb (from + n) 0 (omega (arith, z, q))))
        go false e = Reach.to (omega (arith, x, eqb-false 0 n e))

    reach : CanGoOn (Fits from) (take k p) → Reach k
    reach g = go g.good
      where
        go : Fits from (take k p ++ g.rest) → Reach k
        go (Fits.entries r) = Reach.to ((place_longest Loose p).longest k h (record { rest = g.rest; good = r }))
        go (Fits.closed u r e) = shut u r (cut p u k g.rest h e)
        go (Fits.above z e) = fronted z (cut p [] k g.rest h e)

  closed_on : get_or p n 0 ≡ 125 → n < length p → (x y : Bool) → eqb (from + n) 0 ≡ x → accepted (read_payload Loose 0 (take n p)) ≡ y → (x || y) ≡ true → CanGoOn (Fits from) (take (suc n) p)
  closed_on a l true y e f w =
      let z : from + n ≡ 0 = eqb-true (from + n) 0 e in
      let q : n ≡ 0 = omega (arith, z) in
      record { rest = []; good = Fits.above (omega (arith, z)) (rw (append-nil, take-suc p n 0 l, a, q)) }
  closed_on a l false true e f w = record { rest = []; good = Fits.closed (take n p) (is_read (take n p) f) (rw (append-nil, take-suc p n 0 l, a)) }
  closed_on a l false false e f w = contra false w refl

  in_line : get_or p n 0 ≡ 125 → n < length p
  in_line a = go (leb (length p) n) refl
    where
      go : (b : Bool) → leb (length p) n ≡ b → n < length p
      go true e = absurd (omega (arith, sym a ∙ get_or-eq_default p 0 (leb-true (length p) n e)))
      go false e = leb-false (length p) n e

  placed : Longest (Fits from) p (cond closing (suc n) n)
  placed = go closing refl
    where
      up : (k : ℕ) → Reach k → k ≤ suc n
      up k (Reach.to w) = omega (arith, w)
      up k (Reach.past w v) = omega (arith, w)

      stay : (k : ℕ) → closing ≡ false → Reach k → k ≤ n
      stay k c (Reach.to w) = w
      stay k c (Reach.past w v) = contra closing v c

      go : (b : Bool) → closing ≡ b → Longest (Fits from) p (cond b (suc n) n)
      go true c =
          let w = both (eqb (get_or p n 0) 125) (eqb (from + n) 0 || accepted (read_payload Loose 0 (take n p))) c in
          let a : get_or p n 0 ≡ 125 = eqb-true (get_or p n 0) 125 w.0 in
          let l : n < length p = in_line a in
          record {
            within = omega (arith, l);
            goes = closed_on a l (eqb (from + n) 0) (accepted (read_payload Loose 0 (take n p))) refl refl w.1;
            longest = λ k h g. up k (reach k h g);
          }
      go false c =
          record {
            within = (place_longest Loose p).within;
            goes = record { rest = (place_longest Loose p).goes.rest; good = Fits.entries (place_longest Loose p).goes.good };
            longest = λ k h g. stay k c (reach k h g);
          }

-- ---- in a line

module _ (s : List ℕ) (c : continues s ≡ false) where
  unread : accepted (read_payload Loose 0 (behind_last s)) ≡ false
  unfolding continues
  unread = go (ends_in_close s) c
    where
      go : (x : Bool) → (x || accepted (read_payload Loose 0 (behind_last s))) ≡ false → accepted (read_payload Loose 0 (behind_last s)) ≡ false
      go true e = contra true refl e
      go false e = e

  closes_is : closes_at s (last_from s) (last_from s + n (last_from s) (behind_last s)) ≡ closing (last_from s) (behind_last s)
  unfolding closes_at
  closes_is =
      let f = last_from s in
      let k = payload_place Loose (behind_last s) in
      let z : f + k - f ≡ k = omega arith in
      rw (slice_part f (f + k) s, z, ← get_or-drop f s k 0, behind_is s)

  entries_is : entries_in s ≡ last_from s + cond (closing (last_from s) (behind_last s)) (suc (n (last_from s) (behind_last s))) (n (last_from s) (behind_last s))
  unfolding entries_in
  entries_is = rw (behind_is s, unread, closes_is) (go (closing (last_from s) (behind_last s)))
    where
      go : (b : Bool) → cond b (suc (last_from s + payload_place Loose (behind_last s))) (last_from s + payload_place Loose (behind_last s)) ≡ last_from s + cond b (suc (payload_place Loose (behind_last s))) (payload_place Loose (behind_last s))
      go true = omega arith
      go false = refl

pub true_places : TruePlaces
true_places s c =
    let e = entries_is s c in
    let z : entries_in s - last_from s ≡ cond (closing (last_from s) (behind_last s)) (suc (n (last_from s) (behind_last s))) (n (last_from s) (behind_last s)) = omega (arith, e) in
    (omega (arith, e), rw z (placed (last_from s) (behind_last s)))

pub in_the_line : InTheLine
unfolding entries_place
in_the_line t at = (omega arith, omega (arith, entries_short (line_at t at) refl (ap entries_in (sym (core_is (line_at t at) refl)))))
