-- How the search for the close goes on from byte k, in a quote and outside, by what stands there.
-- Assumes nothing.
use Rattle.std.specs.Prelude.{None, Option, Some}
use mathlib.Core.Path.{◌≡◌, refl, sym, ◌∙◌}
use mathlib.Core.Bool.{Bool, true, false, not}
use mathlib.Core.List.{List, [], ◌∷◌}
use mathlib.Core.Logic.{inl, inr}
use Prim.Native.Nat.{ℕ, ◌+◌, ◌<◌, ◌≤◌}
use native.Mathlib.Omega.{arith}
use lib.Dec.{eqb, leb}
use lib.ListN.{length, get_or, drop, drop_of_length-le}
use lib.Seq.{drop-cons}
use borrow.Author.Tests.{eq-eqb, ne_eqb, not-true, not-false, leb-true, leb-false}
use types.Run.{OneOf}
use Rattle.base_lists.specs.Lists.{all, is_in}
use Rattle.base_lists.proofs.Steady.{met}
use Rattle.base_lists.proofs.More.{contra, among_not}
use Rattle.base_bytes.specs.Bytes.{is_quote}
use Rattle.block_grammar.specs.Close.{uncovered, turned, fresh}
use Rattle.block_grammar.specs.ComputedClose.{scan_step, close_from, find_close}
use Rattle.block_grammar.specs.declared.Scan.{Scan}
use Rattle.block_grammar.proofs.Close as close
use Rattle.block_grammar.proofs.Close.{Scans, quote-lf}
use Rattle.block_grammar.proofs.Tokens.{quote_not}
use Rattle.block_close.specs.Inner.{no_lf_first, close_behind, Shuts}

-- a byte that is no LF stands at k
pub record On (s : List ℕ) (k : ℕ) : Type 0 where
  pub there : k < length s
  pub flat : eqb (get_or s k 0) 10 ≡ false

pub past_end : (s : List ℕ) (k : ℕ) → length s ≤ k → false ≡ no_lf_first (drop k s)
past_end s k h = rw (drop_of_length-le s h)

pub byte_on : (s : List ℕ) (k : ℕ) → k < length s → not (eqb (get_or s k 0) 10) ≡ no_lf_first (drop k s)
byte_on s k h = rw (drop-cons s k 0 h)

is_on : {s : List ℕ} {k : ℕ} {x : Bool} → x ≡ no_lf_first (drop k s) → not x ≡ false → On s k
is_on {s} {k} {x} is e = go (leb (length s) k) refl
  where
    go : (y : Bool) → leb (length s) k ≡ y → On s k
    go true p = contra x (not-false x e) (is ∙ sym (past_end s k (leb-true (length s) k p)))
    go false p = let h = leb-false (length s) k p in record { there = h; flat = not-true _ (byte_on s k h ∙ sym is ∙ not-false x e) }

-- before byte k, the line goes on at k, and one byte further
module _ {s : List ℕ} {r : Option ℕ} {k : ℕ} {st : Scan} (inv : Scans s r k st) {x : Bool} where
  pub here : x ≡ no_lf_first (drop k s) → not x ≡ false → On s k
  here is e = is_on is e

  pub next : x ≡ no_lf_first (drop (k + 1) s) → not x ≡ false → On s (k + 1)
  next is e = is_on is e

-- the line ends, in any state
pub ended : {s : List ℕ} {r : Option ℕ} {k : ℕ} {st : Scan} → Scans s r k st → no_lf_first (drop k s) ≡ false → None ≡ r
unfolding scan_step
ended {s} {r} {k} {st} inv e = go (leb (length s) k) refl
  where
    go : (x : Bool) → leb (length s) k ≡ x → None ≡ r
    go true p = close.end inv (leb-true (length s) k p)
    go false p = let h = leb-false (length s) k p in close.broken inv h (rw (not-false (eqb (get_or s k 0) 10) (byte_on s k h ∙ e)))

-- a backslash, in a quote or outside, and the byte that it covers
module _ {s : List ℕ} {r : Option ℕ} {k : ℕ} {q : Option ℕ} (inv : Scans s r k (uncovered q)) (on : On s k) (e : get_or s k 0 ≡ 92) where
  backslash : Scans s r (k + 1) (record { quote = q; escaped = true })
  unfolding scan_step
  backslash = close.go inv on.there (rw e)

  pub cut : no_lf_first (drop (k + 1) s) ≡ false → None ≡ r
  cut h = ended backslash h

  pub pair : On s (k + 1) → Scans s r (k + 2) (uncovered q)
  unfolding scan_step
  pair o =
      let two : k + 1 + 1 ≡ k + 2 = omega arith in
      rw two at (close.go backslash o.there {v = uncovered q} (rw o.flat))

-- ---- in the quote q: the loop stands before byte k, and began at i
pub record Quoted (s : List ℕ) (q i k : ℕ) : Type 0 where
  pub scan : Scans s (close_from (drop i s) (uncovered (Some q)) i) k (uncovered (Some q))
  pub from : i ≤ k

pub opened : (s : List ℕ) (q i : ℕ) → Quoted s q i i
opened s q i = record { scan = record { rest = refl }; from = omega arith }

-- no close
nowhere : {s : List ℕ} {q i : ℕ} → None ≡ close_from (drop i s) (uncovered (Some q)) i → Shuts s q i None
nowhere e = record { same = e; within = λ e h. contra true refl (cc) }

module _ {s : List ℕ} {q i k : ℕ} (inv : Quoted s q i k) where
  pub quote-ended : no_lf_first (drop k s) ≡ false → Shuts s q i None
  quote-ended h = nowhere (ended inv.scan h)

  module _ (on : On s k) where
    pub quote-cut : get_or s k 0 ≡ 92 → no_lf_first (drop (k + 1) s) ≡ false → Shuts s q i None
    quote-cut e h = nowhere (cut inv.scan on e h)

    pub quote_pair : get_or s k 0 ≡ 92 → On s (k + 1) → Quoted s q i (k + 2)
    quote_pair e o = record { scan = pair inv.scan on e o; from = omega (arith, inv.from) }

    pub quote_byte : (get_or s k 0 ≡ q → ⊥) → (get_or s k 0 ≡ 92 → ⊥) → Quoted s q i (k + 1)
    unfolding scan_step turned
    quote_byte n w = record {
      scan = close.go inv.scan on.there {v = uncovered (Some q)} (rw (on.flat, ne_eqb (get_or s k 0) 92 w, ne_eqb (get_or s k 0) q n));
      from = omega (arith, inv.from);
    }

    pub shut : is_quote q ≡ true → get_or s k 0 ≡ q → Shuts s q i (Some k)
    unfolding scan_step turned find_close
    shut h e =
        let o = close.go inv.scan on.there {v = fresh} (rw (e, quote-lf q h, ne_eqb q 92 (quote_not q h), eq-eqb q q refl)) in
        record { same = o.rest; within = λ x p. let z : k ≡ x = cc in omega (arith, inv.from, on.there) }

-- ---- outside quotes
pub quoting : {b : ℕ} → OneOf (34 ∷ 39 ∷ []) b → is_quote b ≡ true
unfolding is_quote is_in
quoting {b} h = sym (met is_quote true (34 ∷ 39 ∷ []) b h refl)

quote_brace : (q : ℕ) → is_quote q ≡ true → eqb q 125 ≡ false
unfolding is_quote all
quote_brace q h = among_not (λ x. eqb x 125) (34 ∷ 39 ∷ []) q refl h

module _ {s : List ℕ} {r : Option ℕ} {k : ℕ} (inv : Scans s r k fresh) (on : On s k) where
  pub closed : get_or s k 0 ≡ 125 → Some k ≡ r
  unfolding scan_step
  closed e = close.closed inv on.there (rw e)

  pub byte : (get_or s k 0 ≡ 125 → ⊥) → (get_or s k 0 ≡ 92 → ⊥) → (OneOf (34 ∷ 39 ∷ []) (get_or s k 0) → ⊥) → Scans s r (k + 1) fresh
  unfolding scan_step turned is_quote is_in
  byte c w n = close.go inv on.there {v = fresh} (rw (on.flat, ne_eqb (get_or s k 0) 92 w, ne_eqb (get_or s k 0) 125 c, ne_eqb (get_or s k 0) 34 (λ e. n (inl e)), ne_eqb (get_or s k 0) 39 (λ e. n (inr e))))

  -- a quote: the search is the one behind its close
  module _ (h : OneOf (34 ∷ 39 ∷ []) (get_or s k 0)) {p : Option ℕ} (q : Shuts s (get_or s k 0) (k + 1) p) where
    behind : close_behind s p ≡ r
    unfolding scan_step turned
    behind =
        let b = get_or s k 0 in
        let x = quoting h in
        q.same ∙ (close.go inv on.there {v = uncovered (Some b)} (rw (on.flat, ne_eqb b 92 (quote_not b x), quote_brace b x, x))).rest

    pub unshut : p ≡ None → None ≡ r
    unshut e = rw e at behind

    pub passed : {e : ℕ} → p ≡ Some e → Scans s r (e + 1) fresh
    unfolding find_close
    passed e = record { rest = rw e at behind }
