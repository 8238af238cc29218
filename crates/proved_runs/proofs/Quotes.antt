-- A scan goes on from line to line; and where no backslash stands outside quotes, the three scanners agree about quotes.
-- Assumes nothing.
use Rattle.std.specs.Prelude.{None, Option, Some}
use mathlib.Core.Path.{◌≡◌, refl, sym, ◌∙◌, ap}
use mathlib.Core.Bool.{Bool, true, false, cond, not, ◌&&◌, ◌||◌}
use mathlib.Core.List.{List, [], ◌∷◌}
use Prim.Native.Nat.{ℕ}
use lib.Dec.{eqb}
use borrow.Author.Tests.{eqb-true, not-true}
use Rattle.base_lists.specs.Lists.{is_in}
use Rattle.base_lists.proofs.Scan.{both}
use Rattle.base_lists.proofs.More.{contra}
use Rattle.base_bytes.specs.Bytes.{is_quote}
use Rattle.block_grammar.specs.Close.{uncovered, fresh, turned}
use Rattle.block_grammar.specs.declared.Scan.{Scan}
use Rattle.run_scanners.specs.declared.Held.{Held}
use Rattle.run_scanners.specs.Scanners.{in_quote, passed, honoured, ignored, scan_from, is_bare, open_quote_at_end, live, held_step, hold_from}
use Rattle.proved_runs.specs.Rules.{none_bare}
use Rattle.run_scanners.proofs.Laws as laws
use Rattle.run_scanners.proofs.Laws.{dead_stays}
use Rattle.proved_runs.specs.Scanning.{QuotesAgree, ScanCarried}

-- ---- a joined text

pub holds_append : ScanCarried
holds_append = laws.holds_append

-- ---- a byte outside quotes

pub bare_is : (st : Scan) (b c : ℕ) → is_bare st b c ≡ true → (b ≡ c) × (st ≡ fresh)
bare_is st b c e = go st.escaped st.quote refl refl e
  where
    go : (x : Bool) (q : Option ℕ) → st.escaped ≡ x → st.quote ≡ q → cond x false (not (in_quote q) && eqb b c) ≡ true → (b ≡ c) × (st ≡ fresh)
    go true q p r e = contra true refl (sym e)
    go false (Some k) p r e = contra true refl (sym e)
    go false None p r e = (eqb-true b c e, rw (p, r))

-- a brace changes no state
pub brace_stays : (st : Scan) (b : ℕ) → is_bare st b 123 ≡ true → passed ignored st b ≡ st
unfolding passed turned is_quote is_in
brace_stays st b e = let h = bare_is st b 123 e in rw (h.0, h.1)

close_stays : (st : Scan) (b : ℕ) → is_bare st b 125 ≡ true → passed ignored st b ≡ st
unfolding passed turned is_quote is_in
close_stays st b e = let h = bare_is st b 125 e in rw (h.0, h.1)

-- ---- whether a backslash outside quotes is honoured doesn't matter where none stands there

step_agree : (st : Scan) (b : ℕ) → is_bare st b 92 ≡ false → passed honoured st b ≡ passed ignored st b
unfolding passed
step_agree st b e = go st.escaped st.quote e
  where
    go : (x : Bool) (q : Option ℕ) → cond x false (not (in_quote q) && eqb b 92) ≡ false
        → ◌≡◌ {A = Scan} (cond x (uncovered q) (cond ((in_quote q || true) && eqb b 92) (record { quote = q; escaped = true }) (uncovered (turned q b))))
        (cond x (uncovered q) (cond ((in_quote q || false) && eqb b 92) (record { quote = q; escaped = true }) (uncovered (turned q b))))
    go true q e = refl
    go false (Some k) e = refl
    go false None e = rw e

scan_agree : (st : Scan) (s : List ℕ) → none_bare 92 st s ≡ true → scan_from honoured st s ≡ scan_from ignored st s
unfolding scan_from none_bare
scan_agree st [] e = refl
scan_agree st (b ∷ s) e =
    let h = both (not (is_bare st b 92)) (none_bare 92 (passed ignored st b) s) e in
    ap (λ v. scan_from honoured v s) (step_agree st b (not-true (is_bare st b 92) h.0)) ∙ scan_agree (passed ignored st b) s h.1

-- ---- the open block's scanner goes by the same quotes

abbrev scan_of : Option Held → Scan
scan_of None = fresh
scan_of (Some h) = h.scan

abbrev is_live : Option Held → Bool
is_live None = false
is_live (Some h) = true

step_scan : (h : Held) (b : ℕ) {u : Held} → held_step h b ≡ Some u → u.scan ≡ passed ignored h.scan b
unfolding held_step
step_scan h b {u} e = go (is_bare h.scan b 123) (is_bare h.scan b 125) h.inside refl refl e
  where
    go : (x y i : Bool) → is_bare h.scan b 123 ≡ x → is_bare h.scan b 125 ≡ y
        → cond x (cond i None (live h.scan true)) (cond y (cond i (live h.scan false) None) (live (passed ignored h.scan b) i)) ≡ Some u → u.scan ≡ passed ignored h.scan b
    go true y true p q e = contra (is_live (Some u)) refl (ap is_live (sym e))
    go true y false p q e = ap scan_of (sym e) ∙ sym (brace_stays h.scan b p)
    go false true true p q e = ap scan_of (sym e) ∙ sym (close_stays h.scan b q)
    go false true false p q e = contra (is_live (Some u)) refl (ap is_live (sym e))
    go false false i p q e = ap scan_of (sym e)

hold_scan : (h : Held) (s : List ℕ) {v : Held} → hold_from (Some h) s ≡ Some v → v.scan ≡ scan_from ignored h.scan s
unfolding hold_from scan_from
hold_scan h [] e = ap scan_of (sym e)
hold_scan h (b ∷ s) {v} e = go (held_step h b) refl e (λ u p. hold_scan u s p)
  where
    go : (n : Option Held) → held_step h b ≡ n → hold_from n s ≡ Some v → ((u : Held) → hold_from (Some u) s ≡ Some v → v.scan ≡ scan_from ignored u.scan s)
        → v.scan ≡ scan_from ignored (passed ignored h.scan b) s
    go None p e ih = contra (is_live (Some v)) refl (ap is_live (sym e ∙ dead_stays s))
    go (Some u) p e ih = ih u e ∙ ap (λ st. scan_from ignored st s) (step_scan h b p)

-- so the quote that is open at the end is the one that the open block's scan stands in
pub hold_quote : QuotesAgree
unfolding open_quote_at_end
hold_quote s n v e = ap (λ st. st.quote) (hold_scan (record { scan = fresh; inside = false }) s e ∙ sym (scan_agree fresh s n))
