-- The quick test of 000, `attr_payload_provably_invalid`: true where it refuses.
use Rattle.std.specs.Prelude.{Bool, true, false, cond, List, [], ◌∷◌, ℕ, suc, eqb, leb, drop}
use Rattle.base_lists.specs.Lists.{is_in}
use Rattle.base_bytes.specs.Bytes.{is_name_start, is_name_part, is_key_start, apostrophe, backslash, close_brace, colon, cr, dot, equals, hash, lf, quote, space, tab}
use Rattle.block_grammar.specs.declared.Walk.{Walk}

-- between tokens: what is not ASCII, a close, an LF, a quote, a backslash and `:` are left to the full reader
abbrev pub edge : ℕ → (Walk → Bool) → Bool
edge c rest =
    cond (leb 128 c) false
    (cond (is_in (close_brace ∷ lf ∷ quote ∷ apostrophe ∷ backslash ∷ colon ∷ []) c) false
    (cond (is_in (space ∷ tab ∷ cr ∷ []) c) (rest Walk.Edge)
    (cond (is_in (hash ∷ dot ∷ []) c) (rest Walk.Sigil)
    (cond (is_key_start c) (rest Walk.Word) true))))

abbrev pub quick_step : Walk → ℕ → (Walk → Bool) → Bool
quick_step Walk.Edge c rest = edge c rest
quick_step Walk.Sigil c rest = cond (is_name_start c) (rest Walk.Ident) true
quick_step Walk.Ident c rest = cond (is_name_part c) (rest Walk.Ident) (edge c rest)
quick_step Walk.Word c rest = cond (is_name_part c) (rest Walk.Word) (cond (eqb c equals) (rest Walk.Value) (edge c rest))
quick_step Walk.Value c rest = is_in (close_brace ∷ space ∷ tab ∷ cr ∷ lf ∷ []) c

unfoldable pub quick_from : Walk → List ℕ → Bool
quick_from w [] = true
quick_from w (c ∷ s) = quick_step w c (λ v. quick_from v s)

-- for the brace at `brace`
unfoldable pub quick_refuses : List ℕ → ℕ → Bool
quick_refuses s brace = quick_from Walk.Edge (drop (suc brace) s)
