-- "Lines end at LF; a CR just before that LF is dropped. Text after the last LF is a line if it isn't empty. A line number counts from 1."
use Rattle.std.specs.Prelude.{ℕ, zero, suc, ◌+◌, ◌-◌, min, Bool, false, cond, ◌&&◌, ◌||◌, List, [], ◌∷◌, eqb, ltb, length, get_or, drop, None, Option, Some}
use Rattle.std.proofs.Math.Seq.{slice}
use Rattle.base_lists.specs.Lists.{begins}
use Rattle.base_refusals.specs.Numbers.{Paper, refused_paper, passed_paper}
use Rattle.base_refusals.specs.Orders.{Ground, on_paper}
use Rattle.base_refusals.specs.declared.Refusal.TheVariants.{NothingThere}
use Rattle.text_lines.specs.declared.Range.{Range}
use Rattle.text_lines.specs.declared.LineEnd.{LineEnd}
use Rattle.base_bytes.specs.Bytes.{cr, lf}

-- ---- the lines of a text, as bytes

-- s begins with an LF
abbrev pub before_lf : List ℕ → Bool
before_lf s = begins s lf

-- A byte in front of the first line. Where none follows it begins one: "Text after the last LF is a line if it isn't empty."
abbrev pub onto : ℕ → List (List ℕ) → List (List ℕ)
onto b [] = (b ∷ []) ∷ []
onto b (l ∷ ls) = (b ∷ l) ∷ ls

-- is this byte a CR, with an LF behind it
abbrev pub is_dropped : ℕ → List ℕ → Bool
is_dropped b s = eqb b cr && before_lf s

-- "Lines end at LF; a CR just before that LF is dropped.": at an LF a line ends, to which the bytes before are yet to come
unfoldable pub lines : List ℕ → List (List ℕ)
lines [] = []
lines (b ∷ s) = cond (eqb b lf) ([] ∷ lines s) (cond (is_dropped b s) (lines s) (onto b (lines s)))

-- ---- the same by places

-- how many bytes stand before the first LF
unfoldable pub eol : List ℕ → ℕ
eol [] = 0
eol (b ∷ s) = cond (eqb b lf) 0 (suc (eol s))

abbrev pub first_of : List (List ℕ) → List ℕ
first_of [] = []
first_of (l ∷ ls) = l

-- the bytes of the line that begins at `at`, none where the text has no byte there
abbrev pub line_at : List ℕ → ℕ → List ℕ
line_at t at = first_of (lines (drop at t))

-- The line that begins at `at`: it is as long as the first line of the text from there on, and the next begins behind its LF, or at the
-- text's end. Both are `at` where the text has no byte there.
unfoldable pub line_from : List ℕ → ℕ → LineEnd
line_from t at = record { to = at + length (line_at t at); next = at + min (suc (eol (drop at t))) (length (drop at t)) }

-- The lines from the one that begins at `from` on, where the text goes on with the list at place `at`; `behindCr`: a CR of the line stands just
-- before that place, which at a line's start there is not. A line's bytes lie from its start up to its LF, or its CR LF, or the text's end.
unfoldable pub ranges_from : ℕ → Bool → ℕ → List ℕ → List Range
ranges_from from behindCr at [] = cond (ltb from at) (record { from = from; to = at } ∷ []) []
ranges_from from behindCr at (b ∷ s) =
    cond (eqb b lf) (record { from = from; to = cond behindCr (at - 1) at } ∷ ranges_from (suc at) false (suc at) s)
    (ranges_from from (eqb b cr) (suc at) s)

-- where the lines of a text lie
unfoldable pub ranges : List ℕ → List Range
ranges t = ranges_from 0 false 0 t

-- the bytes of a range of a text
abbrev pub bytes_of : List ℕ → Range → List ℕ
bytes_of t r = slice r.from r.to t

-- "A line number counts from 1.": line 0 and a line past the last are missing
unfoldable pub pick : ℕ → List Range → Option Range
pick n [] = None
pick zero (l ∷ ls) = None
pick (suc n) (l ∷ ls) = cond (eqb n 0) (Some l) (pick n ls)

-- the line of a number
unfoldable pub line_of : ℕ → List ℕ → Option Range
line_of n t = pick n (ranges t)

-- ---- the same on paper

-- 3, "no such line", or where the line lies
abbrev pub line_paper : Option Range → Paper
line_paper None = refused_paper NothingThere
line_paper (Some r) = passed_paper (r.from ∷ r.to ∷ [])

-- "no such line": number 0, or one past the last
abbrev pub is_no_line : ℕ → List ℕ → Bool
is_no_line n t = eqb n 0 || ltb (length (lines t)) n

-- the place behind so many LFs
unfoldable pub behind_lfs : List ℕ → ℕ → ℕ
behind_lfs [] n = 0
behind_lfs (b ∷ s) zero = 0
behind_lfs (b ∷ s) (suc n) = suc (behind_lfs s (cond (eqb b lf) n (suc n)))

-- where line n begins: behind all LFs of the lines before it
abbrev pub line_start : ℕ → List ℕ → ℕ
line_start n t = behind_lfs t (n - 1)

abbrev pub numbered_line : ℕ → List ℕ → Paper
numbered_line n t = on_paper (Ground.given NothingThere (is_no_line n t) ∷ []) (line_start n t ∷ (line_start n t + length (get_or (lines t) (n - 1) [])) ∷ [])
