-- The rules that the pieces and the ranges follow. No promise cites them: that they are met, and that nothing else meets them, is proved in proofs/Splits and Only.
use Rattle.std.specs.Prelude.{◌≡◌, ℕ, suc, ◌+◌, ◌<◌, ◌≤◌, Bool, true, false, cond, not, ◌&&◌, eqb, length, get_or}
use mathlib.Core.List.{List, [], ◌∷◌, ◌++◌, flat_map}
use Rattle.std.proofs.Math.Seq.{slice}
use Rattle.base_lists.specs.Lists.{all, is_some}
use Rattle.block_grammar.specs.Meaning.{PieceAt}
use Rattle.set_commas.specs.Commas.{cut_range}

-- the pieces with a comma between two of them
abbrev pub comma_joined : List (List ℕ) → List ℕ
comma_joined [] = []
comma_joined (p ∷ ps) = p ++ flat_map (λ q. 44 ∷ q) ps

abbrev pub is_commaless : List ℕ → Bool
is_commaless p = all (λ b. not (eqb b 44)) p

-- the text split at its commas: at least one piece, none with a comma in it, which give the text back
pub record Split (s : List ℕ) (ps : List (List ℕ)) : Type 0 where
  pub some : is_some ps ≡ true
  pub bare : all is_commaless ps ≡ true
  pub back : comma_joined ps ≡ s

-- how many commas a text has
unfoldable pub commas_in : List ℕ → ℕ
commas_in [] = 0
commas_in (b ∷ s) = cond (eqb b 44) (suc (commas_in s)) (commas_in s)

-- whether a backslash at the text's end is open, so that it escapes what comes behind: none before it escapes it; in a plain value none does. m: one stands just before the text
unfoldable pub ends_open : Bool → Bool → List ℕ → Bool
ends_open quoted m [] = m
ends_open quoted false (b ∷ s) = ends_open quoted (quoted && eqb b 92) s
ends_open quoted true (b ∷ s) = ends_open quoted false s

-- the range of a piece: no comma is in it
pub record PieceIn (s : List ℕ) (from to : ℕ) : Type 0 where
  pub ordered : from ≤ to
  pub inside : to ≤ length s
  pub bare : is_commaless (slice from to s) ≡ true

-- .. and what stands behind it isn't escaped by a backslash in it: `1\\,` is a pair and a comma, not a backslash and an escaped comma
pub record ShutIn (quoted : Bool) (s : List ℕ) (from to : ℕ) : Type 0 where
  pub piece : PieceIn s from to
  pub shut : ends_open quoted false (slice from to s) ≡ false

-- the ranges go from `from` to the value's end, one behind the other; between two stands a comma, in a quoted value with at most one
-- backslash before it, and nothing else
pub data Parted (quoted : Bool) (s : List ℕ) : ℕ → List PieceAt → Type 0 where
  last : {from : ℕ} → PieceIn s from (length s) → Parted quoted s from (cut_range from (length s) ∷ [])
  comma : {from to : ℕ} {rs : List PieceAt} → ShutIn quoted s from to → to < length s → get_or s to 0 ≡ 44
      → Parted quoted s (to + 1) rs → Parted quoted s from (cut_range from to ∷ rs)
  escaped : {from to : ℕ} {rs : List PieceAt} → quoted ≡ true → ShutIn quoted s from to → to + 1 < length s → get_or s to 0 ≡ 92 → get_or s (to + 1) 0 ≡ 44
      → Parted quoted s (to + 2) rs → Parted quoted s from (cut_range from to ∷ rs)
