-- The lines of a text by the places where they begin and end, and by number: what a loop over lines goes by.
-- Assumes nothing.
use Rattle.std.specs.Prelude.{None, Option, Some}
use mathlib.Core.Path.{◌≡◌, refl, sym, ◌∙◌, ap}
use mathlib.Core.Bool.{Bool, true, false, cond, not, ◌||◌}
use mathlib.Core.List.{List, [], ◌∷◌}
use Prim.Native.Nat.{ℕ, zero, suc, ◌+◌, ◌-◌, ◌<◌, ◌≤◌, min, max}
use native.Mathlib.Nat.{zero-add, add-zero}
use native.Mathlib.Numerals.{add-one}
use native.Mathlib.Omega.{arith}
use borrow.Author.Tests.{ltb-true, ltb-false, eqb-true, eqb-false, eq-eqb, ne_eqb, le-ltb, lt-ltb}
use lib.Dec.{eqb, ltb, eqb-suc-zero}
use lib.ListN.{length, get_or, take, drop, length-take, length-drop, drop_of_length-le}
use Rattle.std.proofs.lemmas.List.{get_or-take}
use lib.Seq.{drop-cons, drop-drop, get_or-drop, slice}
use Rattle.base_lists.specs.Lists.{all}
use Rattle.text_lines.specs.declared.Range.{Range}
use Rattle.text_lines.specs.declared.LineEnd.{LineEnd}
use Rattle.text_lines.specs.Lines.{onto, is_dropped, lines, eol, first_of, line_from, ranges_from, ranges, bytes_of, pick, line_of}
use Rattle.base_lists.proofs.Parts.{slice_add, drop_min}
use Rattle.text_lines.proofs.First.{first_cons, first_on, first_stop, rest_of, eol_le, first_le, first_take, first_whole, first_cut}

-- ---- the loop of `line_feed` stands before byte i
pub record Feeds (t : List ℕ) (at i : ℕ) : Type 0 where
  pub rest : i + eol (drop i t) ≡ at + eol (drop at t)

module _ {t : List ℕ} {at i : ℕ} (inv : Feeds t at i) where
  pub feeds_end : length t ≤ i → i ≡ at + eol (drop at t)
  unfolding eol
  feeds_end h = sym (add-zero i) ∙ (rw (drop_of_length-le t h) at inv.rest)

  module _ (h : i < length t) where
    pub feeds_stop : get_or t i 0 ≡ 10 → i ≡ at + eol (drop at t)
    unfolding eol
    feeds_stop e = sym (add-zero i) ∙ (rw (drop-cons t i 0 h, e) at inv.rest)

    pub feeds_go : (get_or t i 0 ≡ 10 → ⊥) → Feeds t at (i + 1)
    unfolding eol
    feeds_go e = record { rest = let z = rw (drop-cons t i 0 h, ne_eqb _ _ e) at inv.rest in rw (add-one i) (omega (arith, z)) }

-- a loop from `from` on, up to the text's end or not at all
pub feeds_max : {t : List ℕ} {at from i : ℕ} → Feeds t at from → Feeds t at i → length t ≤ i → (from ≤ length t → i ≤ length t) → max from (length t) ≡ at + eol (drop at t)
feeds_max {t} {at} {from} {i} a b h k = go (ltb (length t) from) refl
  where
    go : (x : Bool) → ltb (length t) from ≡ x → max from (length t) ≡ at + eol (drop at t)
    go true e = let l = ltb-true (length t) from e in omega (arith, feeds_end a (omega arith))
    go false e = let l = ltb-false (length t) from e in omega (arith, feeds_end b h, k l)

-- ---- the same for the strides: where the line ends at k or behind, it ends where the one from k on does

eol_on : (n : ℕ) (s : List ℕ) → n ≤ eol s → n + eol (drop n s) ≡ eol s
unfolding eol
eol_on zero s h = zero-add (eol s)
eol_on (suc n) [] h = absurd (omega arith)
eol_on (suc n) (b ∷ s) h = go (eqb b 10) h (eol_on n s)
  where
    go : (x : Bool) → suc n ≤ cond x 0 (suc (eol s)) → (n ≤ eol s → n + eol (drop n s) ≡ eol s) → suc n + eol (drop n s) ≡ cond x 0 (suc (eol s))
    go true h ih = absurd (omega arith)
    go false h ih = omega (arith, ih (omega arith))

feeds_past : {t : List ℕ} {at i k : ℕ} → Feeds t at i → i ≤ k → k ≤ i + eol (drop i t) → Feeds t at k
feeds_past {t} {at} {i} {k} inv l h =
    let z : i + (k - i) ≡ k = omega arith in
    record { rest = omega (arith, inv.rest, rw (drop-drop, z) at (eol_on (k - i) (drop i t) (omega arith))) }

-- the loop of `has_lf` stands before byte k: `found`, whether the LF stands before it
pub record Looked (t : List ℕ) (i k : ℕ) (found : Bool) : Type 0 where
  pub onward : i ≤ k
  pub is : found ≡ ltb (i + eol (drop i t)) k

pub looked_start : (t : List ℕ) (i : ℕ) → Looked t i i false
looked_start t i = record { onward = omega arith; is = sym (le-ltb _ i (omega arith)) }

pub looked_go : {t : List ℕ} {i k : ℕ} {f g : Bool} → Looked t i k f → k < length t → g ≡ (f || eqb (get_or t k 0) 10) → Looked t i (k + 1) g
looked_go {t} {i} {k} {f} {g} inv h e = record { onward = omega (arith, inv.onward); is = e ∙ go f inv.is (eqb (get_or t k 0) 10) refl }
  where
    here : k ≤ i + eol (drop i t) → Feeds t i k
    here l = feeds_past (record { rest = refl }) inv.onward l

    go : (f : Bool) → f ≡ ltb (i + eol (drop i t)) k → (x : Bool) → eqb (get_or t k 0) 10 ≡ x → (f || x) ≡ ltb (i + eol (drop i t)) (k + 1)
    go true q x p = sym (lt-ltb _ (k + 1) (omega (arith, ltb-true _ k (sym q))))
    go false q true p = sym (lt-ltb _ (k + 1) (omega (arith, feeds_stop (here (ltb-false _ k (sym q))) h (eqb-true _ _ p))))
    go false q false p = sym (le-ltb _ (k + 1) (omega (arith, (feeds_go (here (ltb-false _ k (sym q))) h (eqb-false _ _ p)).rest)))

-- a loop over the bytes from i up to e: byte k of them is byte i + k of the text
pub looked_on : (e : ℕ) {t : List ℕ} {i k : ℕ} {f g : Bool} → Looked t i (i + k) f → k < length (take (e - i) (drop i t)) → g ≡ (f || eqb (get_or (take (e - i) (drop i t)) k 0) 10) → Looked t i (i + (k + 1)) g
looked_on e {t} {i} {k} {f} {g} inv h q =
    let a : k < e - i = omega (arith, length-take (e - i) (drop i t)) in
    let b : i + k < length t = omega (arith, length-take (e - i) (drop i t), length-drop i t) in
    let z : i + k + 1 ≡ i + (k + 1) = omega arith in
    rw z at (looked_go inv b (rw (get_or-take (e - i) (drop i t) k 0 a, get_or-drop i t k 0) at q))

pub looked_end : {t : List ℕ} {i k e : ℕ} {f : Bool} → Looked t i k f → k ≡ e → f ≡ ltb (i + eol (drop i t)) e
looked_end inv e = rw e at inv.is

-- no LF among the bytes up to e
pub feeds_stride : {t : List ℕ} {at i e : ℕ} → Feeds t at i → i ≤ e → ltb (i + eol (drop i t)) e ≡ false → Feeds t at e
feeds_stride inv l q = feeds_past inv l (ltb-false _ _ q)

-- ---- what `line_from` answers, where e is the place of the LF behind the line at `at`, or the text's end
ends : {a b c d : ℕ} → a ≡ c → b ≡ d → ◌≡◌ {A = LineEnd} (record { to = a; next = b }) (record { to = c; next = d })
ends p q = rw (p, q)

module _ (t : List ℕ) (at e : ℕ) (q : e ≡ at + eol (drop at t)) where
  pub from_open : length t ≤ e → record { to = e; next = e } ≡ line_from t at
  unfolding line_from
  from_open h =
      let l = length-drop at t in
      let k = eol_le (drop at t) in
      let z = ap length (first_whole (drop at t) (omega arith)) in
      ends (omega arith) (omega arith)

  module _ (h : e < length t) where
    beyond : e + 1 ≡ at + min (suc (eol (drop at t))) (length (drop at t))
    beyond = omega (arith, length-drop at t)

    pub from_empty : at ≡ e → record { to = e; next = e + 1 } ≡ line_from t at
    unfolding line_from
    from_empty z = ends (omega (arith, first_le (drop at t))) beyond

    cut : (x : Bool) → (at ≡ e → ⊥) → eqb (get_or t (e - 1) 0) 13 ≡ x → length (first_of (lines (drop at t))) ≡ cond x (eol (drop at t) - 1) (eol (drop at t))
    cut x n p =
        let z : at + (eol (drop at t) - 1) ≡ e - 1 = omega arith in
        rw (get_or-drop at t (eol (drop at t) - 1) 0, z, p) at (first_cut (drop at t) (omega arith) (omega (arith, length-drop at t)))

    pub from_cr : (at ≡ e → ⊥) → get_or t (e - 1) 0 ≡ 13 → record { to = e - 1; next = e + 1 } ≡ line_from t at
    unfolding line_from
    from_cr n p = ends (omega (arith, cut true n (eq-eqb _ _ p))) beyond

    pub from_lf : (at ≡ e → ⊥) → (get_or t (e - 1) 0 ≡ 13 → ⊥) → record { to = e; next = e + 1 } ≡ line_from t at
    unfolding line_from
    from_lf n p = ends (omega (arith, cut false n (ne_eqb _ _ p))) beyond

-- ---- the line that begins at a place of a text, and the lines behind it

pub lines_end : (t : List ℕ) (at : ℕ) → length t ≤ at → lines (drop at t) ≡ []
unfolding lines
lines_end t at h = rw (drop_of_length-le t h)

module _ (t : List ℕ) (at : ℕ) where
  pub to_from : at ≤ (line_from t at).to
  unfolding line_from
  to_from = omega arith

  pub to_next : (line_from t at).to ≤ (line_from t at).next
  unfolding line_from
  to_next = omega (arith, first_le (drop at t), eol_le (drop at t))

  module _ (h : at < length t) where
    pub line_at_lem : lines (drop at t) ≡ slice at (line_from t at).to t ∷ lines (drop (line_from t at).next t)
    unfolding line_from
    line_at_lem = rw (slice_add, ← drop-drop, ← first_take) (rest_of (drop at t) (omega (arith, length-drop at t)))

    pub next_beyond : at < (line_from t at).next
    unfolding line_from
    next_beyond = omega (arith, length-drop at t)

    pub next_le : (line_from t at).next ≤ length t
    unfolding line_from
    next_le = omega (arith, length-drop at t)

-- ---- the lines by places

-- the lines from the one that begins at n on
abbrev pub after : ℕ → List ℕ → List Range
after n s = ranges_from n false n s

none_left : (n : ℕ) → after n [] ≡ []
unfolding ranges_from
none_left n = rw (le-ltb n n (omega arith))

-- in a line that begins at `from`, behind its byte p at place i; the next line begins at n
abbrev On : ℕ → ℕ → ℕ → List ℕ → ℕ → Type 0
On from i p s n = ranges_from from (eqb p 13) (suc i) s ≡ record { from = from; to = i + length (first_of (lines (p ∷ s))) } ∷ after n (drop (suc (eol s)) s)

ranges_on : (from i p : ℕ) (s : List ℕ) (n : ℕ) → n ≡ suc i + min (suc (eol s)) (length s) → from ≤ i → eqb p 10 ≡ false → On from i p s n
unfolding ranges_from eol
ranges_on from i p [] n q h e =
    let z : n ≡ i + 1 = omega arith in
    rw (lt-ltb from (suc i) (omega arith), first_whole (p ∷ []) (rw e (omega arith)), z, none_left (i + 1), add-one)
ranges_on from i p (a ∷ s) n q h e = go (eqb a 10) refl q (ranges_on from (suc i) a s n)
  where
    to : (y : Bool) → cond y (suc i - 1) (suc i) ≡ i + length (cond y [] (p ∷ []))
    to true = omega arith
    to false = omega arith

    go : (x : Bool) → eqb a 10 ≡ x → n ≡ suc i + min (suc (cond x 0 (suc (eol s)))) (suc (length s))
        → (n ≡ suc (suc i) + min (suc (eol s)) (length s) → from ≤ suc i → eqb a 10 ≡ false → On from (suc i) a s n) → On from i p (a ∷ s) n
    go true x q ih = let z : n ≡ suc (suc i) = omega arith in rw (x, first_stop p (a ∷ s) e x, ← to (eqb p 13), z)
    go false x q ih =
        let z : suc i + length (first_of (lines (a ∷ s))) ≡ i + suc (length (first_of (lines (a ∷ s)))) = omega arith in
        rw (first_on p (a ∷ s) e x, x) (rw z at (ih (omega arith) (omega arith) x))

abbrev First : ℕ → ℕ → List ℕ → ℕ → Type 0
First at b s n = after at (b ∷ s) ≡ record { from = at; to = at + length (first_of (lines (b ∷ s))) } ∷ after n (drop (eol (b ∷ s)) s)

ranges_first : (at b : ℕ) (s : List ℕ) (n : ℕ) → n ≡ at + min (suc (eol (b ∷ s))) (suc (length s)) → First at b s n
unfolding ranges_from eol
ranges_first at b s n q = go (eqb b 10) refl q
  where
    go : (x : Bool) → eqb b 10 ≡ x → n ≡ at + min (suc (cond x 0 (suc (eol s)))) (suc (length s)) → First at b s n
    go true x q = let z : n ≡ suc at = omega arith in rw (first_cons b s, x, z, add-zero)
    go false x q = rw x (ranges_on at at b s n (omega arith) (omega arith) x)

pub ranges_end : (t : List ℕ) (at : ℕ) → length t ≤ at → ranges_from at false at (drop at t) ≡ []
ranges_end t at h = rw (drop_of_length-le t h) (none_left at)

pub ranges_at : (t : List ℕ) (at : ℕ) → at < length t → ranges_from at false at (drop at t)
    ≡ record { from = at; to = (line_from t at).to } ∷ ranges_from (line_from t at).next false (line_from t at).next (drop (line_from t at).next t)
unfolding line_from
ranges_at t at h = rw (← drop-drop, drop_min, drop-cons t at 0 h) (ranges_first at (get_or t at 0) (drop (suc at) t) _ refl)

-- ---- the loop of `line_of` stands before the line at `at`: the one asked for is number `left` from there on

pub pick_zero : (ls : List Range) → pick 0 ls ≡ None
unfolding pick
pick_zero [] = refl
pick_zero (l ∷ ls) = refl

pub pick_on : (n : ℕ) (l : Range) (ls : List Range) → 1 < n → pick n (l ∷ ls) ≡ pick (n - 1) ls
unfolding pick
pick_on zero l ls h = absurd (omega arith)
pick_on (suc n) l ls h = let z : suc n - 1 ≡ n = omega arith in rw (ne_eqb n 0 (λ q. omega arith), z)

pub record Counts (t : List ℕ) (r : Option Range) (left at : ℕ) : Type 0 where
  pub some : 0 < left
  pub rest : pick left (ranges_from at false at (drop at t)) ≡ r

pub counts_zero : (n : ℕ) (t : List ℕ) → n ≡ 0 → None ≡ line_of n t
unfolding line_of
counts_zero n t e = rw e (sym (pick_zero (ranges t)))

pub counts_start : (n : ℕ) (t : List ℕ) → (n ≡ 0 → ⊥) → Counts t (line_of n t) n 0
unfolding line_of ranges
counts_start n t h = record { some = omega arith; rest = refl }

module _ {t : List ℕ} {r : Option Range} {left at : ℕ} (inv : Counts t r left at) where
  pub counts_end : length t ≤ at → None ≡ r
  unfolding pick
  counts_end h = rw (ranges_end t at h) at inv.rest

  module _ (h : at < length t) {l : LineEnd} (e : l ≡ line_from t at) where
    pub counts_stop : left ≡ 1 → Some (record { from = at; to = l.to }) ≡ r
    unfolding pick
    counts_stop o = rw e (rw (ranges_at t at h, o) at inv.rest)

    pub counts_less : length t - l.next < length t - at
    counts_less = rw e (omega (arith, next_beyond t at h))

    pub counts_go : (left ≡ 1 → ⊥) → Counts t r (left - 1) l.next
    counts_go o = let k : 1 < left = omega (arith, inv.some) in rw e (record { some = omega arith; rest = rw (ranges_at t at h, pick_on left) at inv.rest })

-- ---- what the line of a number is

-- r is the line n lines behind the one at `at`
record Reached (t : List ℕ) (at n : ℕ) (r : Range) : Type 0 where
  pub start : r.from < length t
  pub end : r.to ≡ (line_from t r.from).to
  pub rest : lines (drop r.from t) ≡ drop n (lines (drop at t))

inside : (n : ℕ) (t : List ℕ) (at : ℕ) (r : Range) → pick n (after at (drop at t)) ≡ Some r → at < length t
unfolding pick
inside n t at r q = go (ltb at (length t)) refl
  where
    go : (x : Bool) → ltb at (length t) ≡ x → at < length t
    go true x = ltb-true at (length t) x
    go false x =
        let e : None ≡ Some r = rw (ranges_end t at (ltb-false at (length t) x)) at q in
        let z : ◌≡◌ {A = ℕ} 0 1 = cc in
        absurd (omega arith)

reach : (n : ℕ) (t : List ℕ) (at : ℕ) (r : Range) → pick (suc n) (after at (drop at t)) ≡ Some r → Reached t at n r
unfolding pick
reach zero t at r q =
    let k = inside 1 t at r q in
    let e : Some (record { from = at; to = (line_from t at).to }) ≡ Some r = rw (ranges_at t at k) at q in
    let z : record { from = at; to = (line_from t at).to } ≡ r = cc in
    rw (← z) (record { start = k; end = refl; rest = refl })
reach (suc n) t at r q =
    let k = inside (suc (suc n)) t at r q in
    let z = reach n t (line_from t at).next r (rw (ranges_at t at k, eqb-suc-zero n) at q) in
    record { start = z.start; end = z.end; rest = rw (line_at_lem t at k) z.rest }

-- r is line n of t: its bytes are those of that line, and the lines from its start on are those from number n on
pub record Found (n : ℕ) (t : List ℕ) (r : Range) : Type 0 where
  pub some : 0 < n
  pub within : n ≤ length (lines t)
  pub bytes : bytes_of t r ≡ get_or (lines t) (n - 1) []
  pub start : r.from < length t
  pub end : r.to ≡ (line_from t r.from).to
  pub rest : lines (drop r.from t) ≡ drop (n - 1) (lines t)

pub line_found : (n : ℕ) (t : List ℕ) (r : Range) → line_of n t ≡ Some r → Found n t r
unfolding line_of ranges
line_found zero t r q =
    let e : None ≡ Some r = rw pick_zero at q in
    let z : ◌≡◌ {A = ℕ} 0 1 = cc in
    absurd (omega arith)
line_found (suc n) t r q =
    let z = reach n t 0 r q in
    let m : suc n - 1 ≡ n = omega arith in
    let l = sym z.rest ∙ line_at_lem t r.from z.start in
    let b : bytes_of t r ≡ get_or (lines t) n [] = rw (z.end, ← add-zero n, ← get_or-drop n (lines t) 0 []) (rw l) in
    record {
      some = omega arith;
      within = omega (arith, length-drop n (lines t), ap length l);
      bytes = rw m b;
      start = z.start;
      end = z.end;
      rest = rw m z.rest;
    }

-- ---- no line holds an LF

abbrev NoLf : List (List ℕ) → ℕ → Type 0
NoLf ls n = all (λ b. not (eqb b 10)) (get_or ls n []) ≡ true

pub no_lf_lem : (t : List ℕ) (n : ℕ) → all (λ b. not (eqb b 10)) (get_or (lines t) n []) ≡ true
unfolding lines all
no_lf_lem [] n = refl
no_lf_lem (b ∷ s) n = go (eqb b 10) refl (is_dropped b s) (lines s) (no_lf_lem s) n
  where
    go : (x : Bool) → eqb b 10 ≡ x → (y : Bool) (ls : List (List ℕ)) → ((k : ℕ) → NoLf ls k) → (n : ℕ) → NoLf (cond x ([] ∷ ls) (cond y ls (onto b ls))) n
    go true e y ls ih zero = refl
    go true e y ls ih (suc n) = ih n
    go false e true ls ih n = ih n
    go false e false [] ih zero = rw e
    go false e false [] ih (suc n) = refl
    go false e false (l ∷ ls) ih zero = rw e (ih 0)
    go false e false (l ∷ ls) ih (suc n) = ih (suc n)
