-- "the longest prefix .. that can still be continued": of any language L of byte strings, be it of names, of tags, of tokens or of payloads.
use Rattle.std.specs.Prelude.{List, ◌++◌, ℕ, ◌≤◌, length, take}

-- p can be continued to a member of L
pub record CanGoOn (L : List ℕ → Type 0) (p : List ℕ) : Type 0 where
  pub rest : List ℕ
  pub good : L (p ++ rest)

-- n is the length of the longest prefix of s that can be continued to a member of L
pub record Longest (L : List ℕ → Type 0) (s : List ℕ) (n : ℕ) : Type 0 where
  pub within : n ≤ length s
  pub goes : CanGoOn L (take n s)
  pub longest : (k : ℕ) → k ≤ length s → CanGoOn L (take k s) → k ≤ n
