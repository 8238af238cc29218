-- From the last line upwards.
-- Assumes nothing.
use Rattle.std.specs.Prelude.{Ok, Result}
use mathlib.Core.Path.{◌≡◌, refl, sym, ◌∙◌, ap}
use mathlib.Core.Logic.{inl, inr}
use mathlib.Core.Bool.{Bool, true, false, cond}
use mathlib.Core.List.{List, [], ◌∷◌, ◌++◌, append-nil}
use Prim.Native.Nat.{ℕ, zero, suc, ◌+◌, ◌-◌, ◌<◌, ◌≤◌}
use native.Mathlib.Omega.{arith}
use borrow.Author.Tests.{ne_eqb}
use lib.Dec.{eqb}
use lib.ListN.{length, get_or, take, drop, length-drop}
use lib.Seq.{drop-cons, length-take-le}
use Rattle.std.proofs.Common.{Option, None, Some, MatchOption, ◌≢◌}
use Rattle.std.proofs.lemmas.List.{get_or-take}
use Rattle.block_payloads.specs.Payloads.{opens}
use Rattle.base_lists.specs.Lists.{is_in, over}
use Rattle.base_refusals.specs.Numbers.{max_text}
use Rattle.text_lines.specs.Trim.{is_blank_line}
use Rattle.text_lines.specs.Lines.{onto, is_dropped, lines, eol, line_from}
use Rattle.text_lines.specs.declared.LineEnd.{LineEnd}
use Rattle.text_lines.proofs.First.{rest_of}
use Rattle.text_lines.proofs.Lines.{lines_end}
use Rattle.run_lines.proofs.Bounds.{sizes-lines, costs_lines}
use Rattle.run_scanners.proofs.Quick.{IsLast}
use Rattle.run_spots.specs.Spots.{closes_comment}
use Rattle.run_refused.specs.declared.RefusedRun.{RefusedRun}
use Rattle.run_refused.specs.Refused.{refused_at, handed_out}
use Rattle.run_refused.proofs.Answers.{at_short}
use Rattle.run_refused.proofs.Bounds.{told_ahead, told_text}
use Rattle.run_refused.proofs.Walking.{line, line_in, line_first}
use Rattle.run_endings.specs.declared.EndsRun.{EndsRun}
use Rattle.run_endings.specs.declared.Verdict as verdicts
use Rattle.run_endings.specs.declared.Verdict.TheVariants as verdict
use Rattle.run_endings.specs.Endings.{openings, last_of, Ended, settled, tried_in, ends_of, ends_shown}
use Rattle.run_endings.specs.Inner.{Edge, Before, Back, verdict_of, tried_by, back_over, back_from, ended_by}
use Rattle.run_endings.proofs.Openings.{ended_same}
use Rattle.run_endings.proofs.Bounds.{looking_le}
use Rattle.base_refusals.specs.declared.Refusal.{Refusal}

-- ---- where a line begins the lines part

on_append : (x y : Bool) (b : ℕ) (l : List ℕ) (ls ms : List (List ℕ)) → cond x ([] ∷ ((l ∷ ls) ++ ms)) (cond y ((l ∷ ls) ++ ms) (onto b ((l ∷ ls) ++ ms))) ≡ cond x ([] ∷ (l ∷ ls)) (cond y (l ∷ ls) (onto b (l ∷ ls))) ++ ms
on_append true y b l ls ms = refl
on_append false true b l ls ms = refl
on_append false false b l ls ms = refl

edge_tail : (b : ℕ) (s : List ℕ) (j : ℕ) → Edge (b ∷ s) (suc (suc j)) → Edge s (suc j)
edge_tail b s j (inl e) = absurd (omega arith)
edge_tail b s j (inr (inl e)) = inr (inl (omega arith))
edge_tail b s j (inr (inr e)) =
    let m : suc (suc j) - 1 ≡ suc j = omega arith in
    let n : suc j - 1 ≡ j = omega arith in
    inr (inr (rw n (rw m at e)))

pub split : (t : List ℕ) (at : ℕ) → at ≤ length t → Edge t at → lines t ≡ lines (take at t) ++ lines (drop at t)
unfolding lines
split t zero h e = refl
split [] (suc k) h e = refl
split (b ∷ s) (suc zero) h (inl e) = absurd (omega arith)
split (b ∷ []) (suc zero) h (inr (inl e)) = sym (append-nil (lines (b ∷ [])))
split (b ∷ c ∷ s) (suc zero) h (inr (inl e)) = absurd (omega arith)
split (b ∷ s) (suc zero) h (inr (inr e)) = let q : b ≡ 10 = e in rw q
split (b ∷ []) (suc (suc j)) h e = absurd (omega arith)
split (b ∷ c ∷ s) (suc (suc j)) h e =
    let z = split (c ∷ s) (suc j) (omega arith) (edge_tail b (c ∷ s) j e) in
    let f = rest_of (take (suc j) (c ∷ s)) (omega arith) in
    ap (λ (r : List (List ℕ)). cond (eqb b 10) ([] ∷ r) (cond (is_dropped b (c ∷ s)) r (onto b r))) z ∙ rw f (on_append (eqb b 10) (is_dropped b (c ∷ s)) b _ _ (lines (drop (suc j) (c ∷ s))))

-- ---- the loop of `line_start`: the line from i on ends before `at`

pub record Climbs (t : List ℕ) (at i : ℕ) : Type 0 where
  pub below : i < at
  pub within : at ≤ length t
  pub next : (line_from t i).next ≡ at

pub climb_start : (t : List ℕ) (at : ℕ) → 0 < at → at ≤ length t → Edge t at → Climbs t at (at - 1)
unfolding line_from eol
climb_start t at k h (inl e) = absurd (omega arith)
climb_start t at k h (inr (inl e)) = record { below = omega arith; within = h; next = omega (arith, length-drop (at - 1) t) }
climb_start t at k h (inr (inr e)) =
    let q : eol (drop (at - 1) t) ≡ 0 = rw (drop-cons t (at - 1) 0 (omega arith), e) in
    record { below = omega arith; within = h; next = omega (arith, length-drop (at - 1) t, q) }

module _ {t : List ℕ} {at i : ℕ} (inv : Climbs t at i) where
  pub climb_stop : get_or t (i - 1) 0 ≡ 10 → Before t at i
  climb_stop e = record { below = inv.below; edge = inr (inr e); next = inv.next }

  pub climb_end : i ≤ 0 → Before t at i
  climb_end h = record { below = inv.below; edge = inl (omega arith); next = inv.next }

  pub climb_go : 0 < i → (get_or t (i - 1) 0 ≡ 10 → ⊥) → Climbs t at (i - 1)
  unfolding line_from eol
  climb_go h e =
      let m : suc (i - 1) ≡ i = omega arith in
      let d : eol (drop (i - 1) t) ≡ suc (eol (drop (suc (i - 1)) t)) = rw (drop-cons t (i - 1) 0 (omega (arith, inv.within, inv.below)), ne_eqb (get_or t (i - 1) 0) 10 e) in
      let q = d ∙ ap (λ n. suc (eol (drop n t))) m in
      record { below = omega (arith, inv.below); within = inv.within; next = omega (arith, length-drop (i - 1) t, length-drop i t, q, inv.next, inv.below, inv.within) }

-- what `line_start` asks the library: the last LF before the byte in front of `at`
module _ {t : List ℕ} {at : ℕ} (top : Climbs t at (at - 1)) where
  down : (m r e : ℕ) → e ≡ r + m → Climbs t at e → ((k : ℕ) → r ≤ k → k < e → get_or t k 0 ≢ 10) → Climbs t at r
  down zero r e q inv h = let z : e ≡ r = omega arith in rw z at inv
  down (suc m) r e q inv h = down m r (e - 1) (omega arith) (climb_go inv (omega arith) (h (e - 1) (omega arith) (omega arith))) (λ k a b. h k a (omega arith))

  pub climb_found : (r : Option ℕ) {n : ℕ} → IsLast 10 (take (at - 1) t) r → MatchOption r (n ≡ 0) (λ i. n ≡ i + 1) → Before t at n
  climb_found None h e =
      let l = length-take-le (at - 1) t (omega (arith, top.within)) in
      rw e (climb_end (down (at - 1) 0 (at - 1) (omega arith) top (λ k a b q. h k (omega arith) (get_or-take (at - 1) t k 0 b ∙ q))) (omega arith))
  climb_found (Some i) {n} (w, (here, h)) e =
      let l = length-take-le (at - 1) t (omega (arith, top.within)) in
      let z : n - 1 ≡ i = omega arith in
      let g : get_or t i 0 ≡ 10 = sym (get_or-take (at - 1) t i 0 (omega arith)) ∙ here in
      climb_stop (down (at - 1 - n) n (at - 1) (omega arith) top (λ k a b q. h k (omega arith) (omega arith) (get_or-take (at - 1) t k 0 b ∙ q))) (rw z g)

-- ---- the loop of `search_back`

told_stays : (again : Bool) (buf : List ℕ) (pre ls : List (List ℕ)) {a : Result Bool Refusal} {k : ℕ} {x : List ℕ} → back_from again buf ls ≡ Back.told a k x → back_from again buf (pre ++ ls) ≡ Back.told a k x
unfolding back_from
told_stays again buf [] ls q = q
told_stays again buf (l ∷ pre) ls q = rw (told_stays again buf pre ls q)

-- before the lines from `at` on are passed, upwards
pub record Backs (t : List ℕ) (again : Bool) (buf₀ buf : List ℕ) (at count : ℕ) (tried : Bool) (look : ℕ) : Type 0 where
  pub within : at ≤ length t
  pub edge : Edge t at
  pub few : count + at ≤ length t
  pub counted : count ≡ length (lines (drop at t))
  pub long : length buf ≡ length buf₀
  pub so : back_from again buf₀ (lines (drop at t)) ≡ Back.looking tried look buf

pub backs_start : (t : List ℕ) (again : Bool) (buf : List ℕ) → Backs t again buf buf (length t) 0 false 0
unfolding back_from
backs_start t again buf =
    record { within = omega arith; edge = inr (inl refl); few = omega arith; counted = rw (lines_end t (length t) (omega arith)); long = refl; so = rw (lines_end t (length t) (omega arith)) }

module _ {t : List ℕ} {again : Bool} {buf₀ buf : List ℕ} {at count : ℕ} {tried : Bool} {look : ℕ} (inv : Backs t again buf₀ buf at count tried look) where
  abbrev R : Ended
  R = ended_by (back_from again buf₀ (lines t))

  abbrev Tells : EndsRun → List ℕ → Type 0
  Tells g x = (g ≡ ends_shown R) × (x ≡ R.join)

  abbrev Gives : Result Bool Refusal → ℕ → EndsRun → Type 0
  Gives a k g = g ≡ record { answer = a; lookahead = k }

  pub backs_end : at ≡ 0 → {g : EndsRun} → Gives (Ok false) look g → Tells g buf
  backs_end z g = let q : back_from again buf₀ (lines t) ≡ Back.looking tried look buf = rw z at inv.so in rw q (g, refl)

  pub look_le : look ≤ length t
  look_le = omega (arith, looking_le again buf₀ (lines (drop at t)) inv.so, sizes-lines (drop at t), length-drop at t)

  module _ {p : ℕ} (b : Before t at p) {l : LineEnd} (e : l ≡ line_from t p) where
    pub some : p < length t
    some = omega (arith, b.below, inv.within)

    pub run_le : length t ≤ max_text → {r : RefusedRun} → r ≡ handed_out (refused_at (length buf) t p) → (r.lookahead ≤ length t) × (r.joined ≤ length t)
    run_le short q =
        rw (q, at_short (length buf) t p short) (
          omega (arith, told_ahead (length buf) (lines (drop p t)), sizes-lines (drop p t), length-drop p t),
          omega (arith, told_text (length buf) (lines (drop p t)), costs_lines (drop p t), length-drop p t),
        )

    abbrev here : List ℕ
    here = line t p some e

    pub here_in : (p ≤ l.to) × (l.to ≤ length t)
    here_in = let z = line_in t p some e in (z.0, omega (arith, z))

    first : lines (drop p t) ≡ here ∷ lines (drop at t)
    first = let n : l.next ≡ at = rw e b.next in rw n at (line_first t p some e)

    over_this : back_from again buf₀ (lines (drop p t)) ≡ back_over again here (lines (drop at t)) (Back.looking tried look buf)
    unfolding back_from
    over_this = rw (first, inv.so)

    -- the search is at its end with this line
    told_here : {a : Result Bool Refusal} {k : ℕ} {x : List ℕ} → back_from again buf₀ (lines (drop p t)) ≡ Back.told a k x → {g : EndsRun} → Gives a k g → Tells g x
    told_here q g =
        let z = ap (back_from again buf₀) (split t p (omega (arith, some)) b.edge) ∙ told_stays again buf₀ (lines (take p t)) (lines (drop p t)) q in
        rw z (g, refl)

    pub backs_blank : true ≡ is_blank_line here → {g : EndsRun} → Gives (Ok false) look g → Tells g buf
    backs_blank q = told_here (over_this ∙ rw (← q))

    module _ (q : false ≡ is_blank_line here) where
      count_next : count + 1 ≡ length (lines (drop p t))
      count_next = rw first (omega (arith, inv.counted))

      at_this : {tried' : Bool} {look' : ℕ} {buf' : List ℕ} → length buf' ≡ length buf → back_from again buf₀ (lines (drop p t)) ≡ Back.looking tried' look' buf' → Backs t again buf₀ buf' p (count + 1) tried' look'
      at_this k w = record { within = omega (arith, some); edge = b.edge; few = omega (arith, inv.few, b.below); counted = count_next; long = k ∙ inv.long; so = w }

      pub backs_pass : false ≡ opens here → Backs t again buf₀ buf p (count + 1) tried look
      backs_pass o = at_this refl (over_this ∙ rw (← q, ← o))

      module _ (o : true ≡ opens here) (short : length t ≤ max_text) {r : RefusedRun} {buf' : List ℕ} (long : length buf' ≡ length buf)
          {P : Type 0} (w : (r ≡ handed_out (refused_at (length buf) t p)) × ((buf' ≡ over (refused_at (length buf) t p).text buf) × P))
          {v : verdicts.Verdict} (u : v ≡ verdict_of r.answer (count + 1) again tried) where
        tried_this : back_from again buf₀ (lines (drop p t)) ≡ tried_by v (look + r.lookahead) buf'
        tried_this = let c : count + 1 ≡ suc (length (lines (drop at t))) = omega (arith, inv.counted) in over_this ∙ rw (u, w.1.0, w.0, at_short (length buf) t p short, c, first, ← q, ← o)

        pub backs_told : {a : Result Bool Refusal} → v ≡ verdict.Told a → {g : EndsRun} → Gives a (look + r.lookahead) g → Tells g buf'
        backs_told k = told_here (tried_this ∙ rw k)

        pub backs_next : v ≡ verdict.Next → Backs t again buf₀ buf' p (count + 1) true (look + r.lookahead)
        backs_next k = at_this long (tried_this ∙ rw k)

-- ---- the last line

last_is : (pre : List (List ℕ)) (l : List ℕ) → last_of (pre ++ (l ∷ [])) ≡ l
unfolding last_of
last_is [] l = refl
last_is (x ∷ []) l = refl
last_is (x ∷ y ∷ pre) l = last_is (y ∷ pre) l

pub ends_empty : (t buf : List ℕ) → length t ≡ 0 → ends_of buf (lines t) ≡ settled (Ok false) buf
unfolding ends_of lines last_of is_in openings tried_in
ends_empty [] buf h = refl
ends_empty (b ∷ t) buf h = absurd (omega arith)

module _ (t buf : List ℕ) {p : ℕ} (b : Before t (length t) p) {l : LineEnd} (e : l ≡ line_from t p) where
  abbrev last_line : List ℕ
  last_line = line t p b.below e

  last : last_of (lines t) ≡ last_line
  last =
      let n : l.next ≡ length t = rw e b.next in
      let z : lines (drop p t) ≡ last_line ∷ [] = line_first t p b.below e ∙ ap (λ x. last_line ∷ x) (rw n (lines_end t (length t) (omega arith))) in
      ap last_of (split t p (omega (arith, b.below)) b.edge) ∙ rw z (last_is (lines (take p t)) last_line)

  pub ends_none : false ≡ is_in last_line 125 → ends_of buf (lines t) ≡ settled (Ok false) buf
  unfolding ends_of tried_in
  ends_none q = rw (last, ← q)

  pub ends_search : {again : Bool} → true ≡ is_in last_line 125 → again ≡ closes_comment last_line → ends_of buf (lines t) ≡ ended_by (back_from again buf (lines t))
  unfolding ends_of
  ends_search {again} q w = rw (last, ← q, ← w) (sym (ended_same again buf (lines t)))
