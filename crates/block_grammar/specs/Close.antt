-- Where a block closes, by rules; the search that computes it is ComputedClose.
use Rattle.std.specs.Prelude.{◌≡◌, Bool, true, false, cond, not, List, [], ◌∷◌, ◌++◌, ℕ, ◌+◌, eqb, length, None, Option, Some}
use Rattle.base_lists.specs.Lists.{all, is_in}
use Rattle.base_refusals.specs.Numbers.{Paper, refused_paper, passed_paper}
use Rattle.base_refusals.specs.declared.Refusal.TheVariants.{NoClose}
use Rattle.base_bytes.specs.Bytes.{is_quote, apostrophe, backslash, close_brace, lf, quote}
use Rattle.block_grammar.specs.Grammar.{Inside}
use Rattle.block_grammar.specs.declared.Scan.{Scan}

-- ---- over types that code has too

-- in a quote or outside, where no backslash covers the next byte
abbrev pub uncovered : Option ℕ → Scan
uncovered q = record { quote = q; escaped = false }

-- "text in one kind of quote": a quote opens outside, and the same one closes
unfoldable pub turned : Option ℕ → ℕ → Option ℕ
turned None b = cond (is_quote b) (Some b) None
turned (Some k) b = cond (eqb b k) None (Some k)

abbrev pub fresh : Scan
fresh = uncovered None

-- on paper: the place, or 4: "at a brace: no close"
abbrev pub close_paper : Option ℕ → Paper
close_paper None = refused_paper NoClose
close_paper (Some e) = passed_paper (e ∷ [])

-- ---- by rules

-- each `}` is one that a quote or a backslash covers
pub data Covered : List ℕ → Type 0 where
  end : Covered []
  byte : {b : ℕ} {s : List ℕ} → is_in (quote ∷ apostrophe ∷ backslash ∷ close_brace ∷ []) b ≡ false → Covered s → Covered (b ∷ s)
  -- "here a backslash covers the next byte outside quotes too"
  pair : {b : ℕ} {s : List ℕ} → Covered s → Covered (backslash ∷ (b ∷ s))
  quoted : {q : ℕ} {v s : List ℕ} → is_quote q ≡ true → Inside q v → Covered s → Covered (q ∷ (v ++ (q ∷ s)))

unfoldable pub no_lf : List ℕ → Bool
no_lf s = all (λ b. not (eqb b lf)) s

-- "the payload ends before the first `}` that no quote or backslash covers; .. An LF before it means no close.":
-- s, whose first byte stands at i, has its close at e
pub record Closes (s : List ℕ) (i e : ℕ) : Type 0 where
  pub inside : List ℕ
  pub rest : List ℕ
  pub whole : s ≡ inside ++ (close_brace ∷ rest)
  pub place : e ≡ i + length inside
  pub covered : Covered inside
  pub flat : no_lf inside ≡ true
