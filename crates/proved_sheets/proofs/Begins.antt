-- Where lines begin: behind a line, and behind several, so that a call may go on there.
-- Assumes nothing.
use Prim.Native.Nat.{ℕ, zero, suc, ◌+◌, ◌≤◌, ◌<◌}
use mathlib.Core.Path.{◌≡◌, refl, sym, ◌∙◌}
use mathlib.Core.Bool.{Bool, true, false, cond}
use mathlib.Core.List.{List, [], ◌∷◌}
use native.Mathlib.Omega.{arith}
use borrow.Author.Tests.{eq-eqb, eqb-true, le-leb}
use lib.Dec.{eqb}
use lib.ListN.{length, get_or, drop, length-drop}
use lib.Seq.{get_or-drop}
use Rattle.text_lines.specs.Lines.{eol, line_from}
use Rattle.run_lines.specs.Runs.{past_lines}
use Rattle.sheet_report.specs.Parts.{begins_line, may_begin}

lf_there : (s : List ℕ) → eol s < length s → get_or s (eol s) 0 ≡ 10
unfolding eol
lf_there [] h = absurd (omega arith)
lf_there (b ∷ s) h = go (eqb b 10) refl h (lf_there s)
  where
    go : (x : Bool) → eqb b 10 ≡ x → cond x 0 (suc (eol s)) < suc (length s) → (eol s < length s → get_or s (eol s) 0 ≡ 10) → get_or (b ∷ s) (cond x 0 (suc (eol s))) 0 ≡ 10
    go true e h ih = eqb-true b 10 e
    go false e h ih = ih (omega arith)

-- a line begins at the place, if a byte stands there
abbrev pub Begins : List ℕ → ℕ → Type 0
Begins t at = at < length t → begins_line t at ≡ true

-- so it is behind a line, and behind several
pub next_begins : (t : List ℕ) (at : ℕ) → Begins t (line_from t at).next
unfolding line_from
next_begins t at h =
    let l = length-drop at t in
    let z : (line_from t at).next ≡ suc (at + eol (drop at t)) = omega (arith, l, h) in
    rw z (eq-eqb (get_or t (at + eol (drop at t)) 0) 10 (sym (get_or-drop at t (eol (drop at t)) 0) ∙ lf_there (drop at t) (omega (arith, l, h, z))))

pub past_begins : (k : ℕ) (t : List ℕ) (at : ℕ) → Begins t at → Begins t (past_lines k t at)
unfolding past_lines
past_begins zero t at b = b
past_begins (suc k) t at b = past_begins k t (line_from t at).next (next_begins t at)

module _ (t : List ℕ) (at n : ℕ) where
  pub begins_at : at ≤ length t → 1 ≤ n → n ≤ at + 1 → begins_line t at ≡ true → may_begin t at n ≡ true
  begins_at h l m b = rw (le-leb at (length t) h, le-leb 1 n l, le-leb n (suc at) (omega arith), b)
