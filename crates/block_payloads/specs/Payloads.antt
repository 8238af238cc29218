-- "payload entries only say yes or no, and no for 1, 2, 5."
use Rattle.std.specs.Prelude.{ℕ, Bool, false, cond, ◌&&◌, ◌||◌, eqb}
use mathlib.Core.List.{List, [], ◌∷◌, tail}
use Rattle.base_lists.specs.Lists.{begins, begins_pair}
use Rattle.base_bytes.specs.declared.Mode.{Mode}
use Rattle.base_bytes.specs.declared.Mode.TheVariants.{Loose}
use Rattle.base_bytes.specs.Bytes.{close_brace, open_brace}
use Rattle.text_checks.specs.Check.{is_text}
use Rattle.block_grammar.specs.Computed.{read_payload}
use Rattle.block_tokens.specs.Shown.{accepted}
use Rattle.text_lines.specs.Trim.{trim, trim_start}

-- a reading of the payload exists
unfoldable pub is_payload : Mode → List ℕ → Bool
is_payload m s = is_text s && accepted (read_payload m 0 s)

-- ---- a line's front

abbrev pub begins_open : List ℕ → Bool
begins_open s = begins s open_brace

-- a line's first byte that is no whitespace is `{`
abbrev pub opens : List ℕ → Bool
opens l = begins_open (trim_start l)

-- ---- a later line of a wrapped run, trimmed

-- the last byte is `}`
unfoldable pub ends_in_close : List ℕ → Bool
ends_in_close [] = false
ends_in_close (b ∷ []) = eqb b close_brace
ends_in_close (b ∷ c ∷ s) = ends_in_close (c ∷ s)

-- what stands behind the last `}{`, where `best` stands behind the last of those before; all of it where there is none
unfoldable pub behind_from : List ℕ → List ℕ → List ℕ
behind_from best [] = best
behind_from best (b ∷ s) = behind_from (cond (begins_pair close_brace open_brace (b ∷ s)) (tail s) best) s

unfoldable pub behind_last : List ℕ → List ℕ
behind_last s = behind_from s s

-- 000: a line that ends in `}` passes; else what stands behind its last `}{` has to be a payload in loose mode
unfoldable pub continues : List ℕ → Bool
continues l = ends_in_close l || accepted (read_payload Loose 0 (behind_last l))

unfoldable pub is_continuation : List ℕ → Bool
is_continuation s = is_text s && continues (trim s)
