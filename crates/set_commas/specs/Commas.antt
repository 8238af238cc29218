-- "split at commas as `table_columns_from_attrs` in source document 000 does": the pieces of a value between its commas, as bytes and by raw places.
use Rattle.std.specs.Prelude.{ℕ, suc, ◌+◌, Bool, true, false, cond, ◌&&◌, List, [], ◌∷◌, eqb, drop}
use Rattle.base_bytes.specs.Bytes.{backslash}
use Rattle.base_refusals.specs.Numbers.{Paper, passed_paper}
use Rattle.block_grammar.specs.Meaning.{PieceAt}
use Rattle.set_commas.specs.declared.Cut as cuts
use Rattle.set_commas.specs.declared.Cut.TheVariants.{Last, Comma}

-- `,`
abbrev pub comma : ℕ
comma = 44

-- a byte before the first piece
abbrev pub on_head : ℕ → List (List ℕ) → List (List ℕ)
on_head b [] = []
on_head b (p ∷ ps) = (b ∷ p) ∷ ps

-- the original's `split(',')` of an unescaped value: pieces aren't trimmed, and a text without a comma is one piece. By a rule: `Split` of Rules.
unfoldable pub comma_pieces : List ℕ → List (List ℕ)
comma_pieces [] = [] ∷ []
comma_pieces (b ∷ s) = cond (eqb b comma) ([] ∷ comma_pieces s) (on_head b (comma_pieces s))

-- ---- "the width as a raw range": the same by places in the raw text, from a piece that began at `from`

abbrev pub cut_range : ℕ → ℕ → PieceAt
cut_range from to = record { from = from; to = to }

-- "an escaped comma splits too; its backslash belongs to no width's range". false: the next byte stands at `at`. true: a backslash stands at `at`, and what
-- becomes of it is open: before a comma it goes with the comma
unfoldable pub cuts_from : Bool → Bool → ℕ → ℕ → List ℕ → List PieceAt
cuts_from quoted false from at [] = cut_range from at ∷ []
cuts_from quoted true from at [] = cut_range from (suc at) ∷ []
cuts_from quoted false from at (b ∷ s) =
    cond (eqb b comma) (cut_range from at ∷ cuts_from quoted false (suc at) (suc at) s)
    (cond (quoted && eqb b backslash) (cuts_from quoted true from at s) (cuts_from quoted false from (suc at) s))
cuts_from quoted true from at (b ∷ s) =
    cond (eqb b comma) (cut_range from at ∷ cuts_from quoted false (at + 2) (at + 2) s)
    (cuts_from quoted false from (at + 2) s)

-- the raw ranges of a value's pieces
unfoldable pub cuts_of : Bool → List ℕ → List PieceAt
cuts_of quoted s = cuts_from quoted false 0 0 s

-- ---- one at a time: where the first of some ranges ends and, where another follows, where that begins
unfoldable pub first_cut : List PieceAt → cuts.Cut
first_cut [] = Last 0
first_cut (r ∷ []) = Last r.to
first_cut (r ∷ (n ∷ rs)) = Comma r.to n.from

-- of the piece that begins at `at`
unfoldable pub cut_at : Bool → List ℕ → ℕ → cuts.Cut
cut_at quoted s at = first_cut (cuts_from quoted false at at (drop at s))

-- on paper: where the piece ends and, behind a comma, where the next one begins
abbrev pub cut_paper : cuts.Cut → Paper
cut_paper (Last to) = passed_paper (to ∷ [])
cut_paper (Comma to next) = passed_paper (to ∷ next ∷ [])
