-- "mend after lines a to b were replaced": which lines of the new text are read again.
use Rattle.std.specs.Prelude.{ℕ, suc, ◌+◌, ◌-◌, ◌≡◌, Bool, true, false, cond, not, ◌&&◌, List, [], ◌∷◌, ◌++◌, eqb, leb, ltb, length, take, drop, None, Option, Some}
use Rattle.std.proofs.Math.Seq.{slice}
use Rattle.base_lists.specs.Lists.{same}
use Rattle.base_bytes.specs.Bytes.{is_indent, lf}
use Rattle.base_refusals.specs.Numbers.{Paper, refused_paper, passed_paper}
use Rattle.base_refusals.specs.declared.Refusal.TheVariants.{NothingThere}
use Rattle.text_lines.specs.Lines.{line_from, line_of}
use Rattle.sheet_splits.specs.Parting.{is_whole}
use Rattle.text_lines.specs.declared.Range.{Range}

-- ---- 3: "lines a to b not in the old text"

-- from the line that begins at `from` up to line b, with its LF
abbrev pub span_by : List ℕ → ℕ → Option Range → Option (ℕ × ℕ)
span_by t from None = None
span_by t from (Some r) = Some (from, (line_from t r.from).next)

unfoldable pub span_to : List ℕ → ℕ → ℕ → Option (ℕ × ℕ)
span_to t from b = span_by t from (line_of b t)

abbrev pub span_from : List ℕ → ℕ → Option Range → Option (ℕ × ℕ)
span_from t b None = None
span_from t b (Some r) = span_to t r.from b

-- lines a to b of a text: where the first begins, and where the line behind the last does
unfoldable pub span_of : List ℕ → ℕ → ℕ → Option (ℕ × ℕ)
span_of t a b = cond (ltb b a) None (span_from t b (line_of a t))

-- by rule: "the new text .. beginning with the old bytes before line a and, without overlap, ending with those after line b": some middle stands in the place of these
-- lines
pub record Replaced (old new : List ℕ) (a b : ℕ) : Type 0 where
  pub from : ℕ
  pub to : ℕ
  pub lines : span_of old a b ≡ Some (from, to)
  pub middle : List ℕ
  pub text : new ≡ take from old ++ (middle ++ drop to old)

-- by computing; the two are proved to agree
unfoldable pub keeps : List ℕ → List ℕ → ℕ → ℕ → Bool
keeps old new from to =
    leb (from + (length old - to)) (length new)
    && (same (take from new) (take from old) && same (drop (length new - (length old - to)) new) (drop to old))

-- ---- the lines that are read again, by computing; Rules says by what they are which these are, and the two are proved to agree

-- a byte begins a line (where it is fresh), "with neither space nor tab"
abbrev pub is_flat : Bool → ℕ → Bool
is_flat fresh b = fresh && not (is_indent b)

-- the place of the last such line, where the list stands at `at` and `last` is the last before it
unfoldable pub flat_from : Bool → ℕ → ℕ → List ℕ → ℕ
flat_from fresh at last [] = last
flat_from fresh at last (b ∷ s) = flat_from (eqb b lf) (suc at) (cond (is_flat fresh b) at last) s

-- of a text, 0 where it has none: so it is read from the front
abbrev pub last_flat : List ℕ → ℕ
last_flat t = flat_from true 0 0 t

-- how many bytes stand before the first such line, all where there is none
unfoldable pub till_flat : Bool → List ℕ → ℕ
till_flat fresh [] = 0
till_flat fresh (b ∷ s) = cond (is_flat fresh b) 0 (suc (till_flat (eqb b lf) s))

-- Where the bytes from `from` up to `to` of the old text were replaced: the first line behind them counts only if the replaced part is empty or ends in LF, since otherwise
-- it has grown.
abbrev pub more_again : List ℕ → List ℕ → ℕ → ℕ
more_again old new to = till_flat (is_whole (take (length new - (length old - to)) new)) (drop to old)

unfoldable pub again_in : List ℕ → List ℕ → ℕ → ℕ → Option (ℕ × ℕ × ℕ)
again_in old new from to =
    cond (keeps old new from to)
    (Some (last_flat (take from old), to + more_again old new to, length new - (length old - to) + more_again old new to))
    None

abbrev pub again_by : List ℕ → List ℕ → Option (ℕ × ℕ) → Option (ℕ × ℕ × ℕ)
again_by old new None = None
again_by old new (Some (from, to)) = again_in old new from to

unfoldable pub again_of : List ℕ → List ℕ → ℕ → ℕ → Option (ℕ × ℕ × ℕ)
again_of old new a b = again_by old new (span_of old a b)

-- on paper: 3, or the three places
abbrev pub again_paper : Option (ℕ × ℕ × ℕ) → Paper
again_paper None = refused_paper NothingThere
again_paper (Some (p, e, n)) = passed_paper (p ∷ e ∷ n ∷ [])

-- whether there is one
abbrev pub is_again : Option (ℕ × ℕ × ℕ) → Bool
is_again None = false
is_again (Some (p, e, n)) = true

-- the lines themselves
abbrev pub again_text : List ℕ → Option (ℕ × ℕ × ℕ) → List ℕ
again_text new None = []
again_text new (Some (p, e, n)) = slice p n new
