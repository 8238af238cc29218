-- Blanks between tokens: the search for the close passes them, and up to the close they are the grammar's blanks.
-- Assumes nothing.
use Rattle.std.specs.Prelude.{None, Some}
use mathlib.Core.Path.{◌≡◌, refl, sym, ◌∙◌, ap}
use mathlib.Core.Bool.{Bool, true, false, not, cond, ◌&&◌}
use mathlib.Core.List.{List, [], ◌∷◌}
use Prim.Native.Nat.{ℕ, zero, suc, ◌+◌, ◌-◌, ◌<◌, ◌≤◌}
use native.Mathlib.Nat.{add-zero, add-suc, suc-add}
use native.Mathlib.Omega.{arith}
use lib.Dec.{eqb}
use lib.ListN.{length, get_or, take, drop, length-drop}
use lib.Seq.{drop-cons, drop-drop, get_or-drop}
use Rattle.base_lists.specs.Lists.{all, run, is_in}
use Rattle.base_lists.proofs.More.{contra, run_stops}
use Rattle.base_lists.proofs.Scan.{run_le}
use Rattle.base_lists.proofs.Parts.{drop-take}
use Rattle.base_bytes.specs.declared.Mode.{Mode}
use Rattle.base_bytes.specs.Bytes.{is_blank, is_quote}
use Rattle.block_grammar.specs.Close.{fresh, turned}
use Rattle.block_grammar.specs.ComputedClose.{Scanned, scan_step, close_from, find_close}
use Rattle.block_grammar.proofs.Bytes.{blank_not}
use Rattle.block_grammar.proofs.Close.{found}
use Rattle.read_once.specs.Inner.{is_gap}

-- ---- what a byte between tokens is
gap_blank : (m : Mode) (b : ℕ) → is_gap m b ≡ true → (eqb b 10 ≡ false) × (is_blank m b ≡ true)
unfolding is_gap
gap_blank m b h = go (eqb b 10) (is_blank m b) h
  where
    go : (x y : Bool) → (not x && y) ≡ true → (x ≡ false) × (y ≡ true)
    go true y e = contra false e refl
    go false y e = (refl, e)

no_gap : (m : Mode) (b : ℕ) → is_gap m b ≡ false → eqb b 10 ≡ false → is_blank m b ≡ false
unfolding is_gap
no_gap m b h n = rw n at h

gap_step : (m : Mode) (b : ℕ) → is_gap m b ≡ true → scan_step fresh b ≡ Scanned.on fresh
unfolding scan_step turned is_quote is_in all
gap_step m b h =
    let z = gap_blank m b h in
    rw (z.0, blank_not (λ x. eqb x 92) m b refl z.1, blank_not (λ x. eqb x 125) m b refl z.1, blank_not (λ x. eqb x 34) m b refl z.1, blank_not (λ x. eqb x 39) m b refl z.1)

-- ---- the search passes them
passed : (m : Mode) (s : List ℕ) (i : ℕ) → close_from (drop (run (is_gap m) s) s) fresh (i + run (is_gap m) s) ≡ close_from s fresh i
unfolding run close_from
passed m [] i = refl
passed m (b ∷ s) i = go (is_gap m b) refl (passed m s (suc i))
  where
    go : (x : Bool) → is_gap m b ≡ x → close_from (drop (run (is_gap m) s) s) fresh (suc i + run (is_gap m) s) ≡ close_from s fresh (suc i)
        → close_from (drop (cond x (suc (run (is_gap m) s)) 0) (b ∷ s)) fresh (i + cond x (suc (run (is_gap m) s)) 0) ≡ close_from (b ∷ s) fresh i
    go true e ih = rw (add-suc, ← suc-add, gap_step m b e) ih
    go false e ih = rw add-zero

-- an LF means no close
lf_none : (t : List ℕ) (a : ℕ) → a < length t → eqb (get_or t a 0) 10 ≡ true → find_close t a ≡ None
unfolding find_close close_from scan_step
lf_none t a h e = rw (drop-cons t a 0 h, e)

-- ---- up to the close they are blanks
blanks : (m : Mode) (l : List ℕ) (n : ℕ) → run (is_gap m) l ≤ n → (run (is_gap m) l < n → is_blank m (get_or l (run (is_gap m) l) 0) ≡ false) → run (is_blank m) (take n l) ≡ run (is_gap m) l
unfolding run
blanks m [] zero h f = refl
blanks m [] (suc n) h f = refl
blanks m (b ∷ l) n h f = go (is_gap m b) refl n h f (blanks m l)
  where
    go : (x : Bool) → is_gap m b ≡ x → (n : ℕ) → cond x (suc (run (is_gap m) l)) 0 ≤ n → (cond x (suc (run (is_gap m) l)) 0 < n → is_blank m (get_or (b ∷ l) (cond x (suc (run (is_gap m) l)) 0) 0) ≡ false)
        → ((n : ℕ) → run (is_gap m) l ≤ n → (run (is_gap m) l < n → is_blank m (get_or l (run (is_gap m) l) 0) ≡ false) → run (is_blank m) (take n l) ≡ run (is_gap m) l)
        → run (is_blank m) (take n (b ∷ l)) ≡ cond x (suc (run (is_gap m) l)) 0
    go true e zero h f ih = absurd (omega arith)
    go true e (suc n) h f ih = rw (gap_blank m b e).1 (ap suc (ih n (omega arith) (λ k. f (omega arith))))
    go false e zero h f ih = refl
    go false e (suc n) h f ih = rw (f (omega arith))

module _ (m : Mode) (t : List ℕ) (i : ℕ) {a : ℕ} (is : a ≡ i + run (is_gap m) (drop i t)) where
  pub gap_close : find_close t a ≡ find_close t i
  unfolding find_close
  gap_close = let z : drop (run (is_gap m) (drop i t)) (drop i t) ≡ drop a t = rw (drop-drop (run (is_gap m) (drop i t)) i t, ← is) in rw (← z, is) (passed m (drop i t) i)

  pub gap_within : i ≤ length t → (i ≤ a) × (a ≤ length t)
  gap_within h = omega (arith, is, run_le (is_gap m) (drop i t), length-drop i t)

  -- the close is at c
  module _ {c : ℕ} (h : find_close t i ≡ Some c) where
    here : find_close t a ≡ Some c
    here = gap_close ∙ h

    pub gap_blanks : a ≡ i + run (is_blank m) (drop i (take c t))
    gap_blanks =
        let f = found t a c here in
        let z = blanks m (drop i t) (c - i) (omega (arith, is, f.from)) stops in
        rw (drop-take i c t, z) is
      where
        r : ℕ
        r = run (is_gap m) (drop i t)

        stops : r < c - i → is_blank m (get_or (drop i t) r 0) ≡ false
        stops k =
            let f = found t a c here in
            let l : a < length t = omega (arith, is, f.to) in
            let y : get_or (drop i t) r 0 ≡ get_or t a 0 = get_or-drop i t r 0 ∙ ap (λ x. get_or t x 0) (sym is) in
            no_gap m (get_or (drop i t) r 0) (run_stops (is_gap m) (drop i t) (omega (arith, is, length-drop i t))) (rw y (solid (eqb (get_or t a 0) 10) refl l))
          where
            solid : (x : Bool) → eqb (get_or t a 0) 10 ≡ x → a < length t → x ≡ false
            solid true e l = contra true refl (cc (lf_none t a l e, here))
            solid false e l = refl
