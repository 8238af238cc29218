-- The pieces of a class value: by ranges of the text they are the same, and splitting and unescaping change places.
-- Assumes nothing.
use mathlib.Core.Path.{◌≡◌, refl, ap, ◌∙◌}
use mathlib.Core.Bool.{Bool, true, false, cond}
use mathlib.Core.List.{List, [], ◌∷◌, ◌++◌, append-nil, append_assoc}
use Prim.Native.Nat.{ℕ, suc, ◌+◌, ◌-◌, ◌<◌, ◌≤◌}
use native.Mathlib.Omega.{arith}
use lib.Dec.{eqb, ltb}
use lib.ListN.{length, take, drop, length-drop, length-append}
use lib.Seq.{take-suc, get_or-drop}
use borrow.Author.Tests.{lt-ltb, le-ltb}
use Rattle.base_lists.specs.Lists.{all, is_in}
use Rattle.base_lists.proofs.More.{contra, apart, among_not}
use Rattle.base_lists.proofs.Parts.{byte_at, drop_next}
use Rattle.base_bytes.specs.Bytes.{is_space, is_punct, within}
use Rattle.text_escapes.specs.Unescape.{unescape_from, unescape}
use Rattle.block_grammar.specs.Meaning.{PieceAt, mark, piece_ranges}
use Rattle.proved_grammar.specs.Meaning.{flush, pieces_from}
use Rattle.proved_grammar.specs.Pieces.{PiecesByPlaces, UnescapedFirst}
pub use Rattle.proved_grammar.specs.Pieces.{cut, unescapes}

-- ======== by ranges

cut-mark : (w c : List ℕ) (from at : ℕ) (rs : List PieceAt) → take (at - from) (drop from w) ≡ c → length c ≡ at - from → from ≤ at → cut w (mark from at rs) ≡ flush c (cut w rs)
cut-mark w [] from at rs e l h = let z : ltb from at ≡ false = le-ltb from at (omega arith) in rw z
cut-mark w (a ∷ c) from at rs e l h = let z : ltb from at ≡ true = lt-ltb from at (omega arith) in rw (z, e)

take_next : (w : List ℕ) (from at b : ℕ) (s c : List ℕ) → drop at w ≡ b ∷ s → from ≤ at → take (at - from) (drop from w) ≡ c → take (suc at - from) (drop from w) ≡ c ++ (b ∷ [])
take_next w from at b s c d h e =
    let n = at - from in
    let z : suc at - from ≡ suc n = omega arith in
    let y : from + n ≡ at = omega arith in
    let x : n < length (drop from w) = omega (arith, length-drop from w, length-drop at w, ap length d) in
    rw (z, take-suc (drop from w) n 0 x, e, get_or-drop from w n 0, y, byte_at w at b s d)

-- the rest s of the value stands in w at `at`, and the piece c that was begun from `from` on
cut_from : (w post s c : List ℕ) (from at : ℕ) → drop at w ≡ s ++ post → from ≤ at → take (at - from) (drop from w) ≡ c → length c ≡ at - from → cut w (piece_ranges from at s) ≡ pieces_from c s
unfolding piece_ranges pieces_from
cut_from w post [] c from at d h e l = cut-mark w c from at [] e l h
cut_from w post (b ∷ s) c from at d h e l =
    let n = drop_next w at b (s ++ post) d in
    let z : suc at - suc at ≡ 0 = omega arith in
    go (is_space b) (cut_from w post s [] (suc at) (suc at) n (omega arith) (rw z) (omega arith))
    (cut_from w post s (c ++ (b ∷ [])) from (suc at) n (omega arith) (take_next w from at b (s ++ post) c d h e) (omega (arith, length-append c (b ∷ []))))
  where
    go : (x : Bool) → cut w (piece_ranges (suc at) (suc at) s) ≡ pieces_from [] s → cut w (piece_ranges from (suc at) s) ≡ pieces_from (c ++ (b ∷ [])) s → cut w (cond x (mark from at (piece_ranges (suc at) (suc at) s)) (piece_ranges from (suc at) s)) ≡ cond x (flush c (pieces_from [] s)) (pieces_from (c ++ (b ∷ [])) s)
    go true i j = cut-mark w c from at (piece_ranges (suc at) (suc at) s) e l h ∙ ap (λ ps. flush c ps) i
    go false i j = j

-- the ranges of a value that stands in w at `at` give its pieces
pub cut_pieces : PiecesByPlaces
cut_pieces w post v at d = let z : at - at ≡ 0 = omega arith in cut_from w post v [] at at d (omega arith) (rw z) (omega arith)

-- ======== splitting and unescaping
-- what is not empty, or stands behind a backslash, is not empty unescaped
backslash_some : (s : List ℕ) → unescape_from true s ≡ [] → ⊥
unfolding unescape_from
backslash_some [] q = contra true refl (cc)
backslash_some (b ∷ s) q = go (is_punct b) q
  where
    go : (x : Bool) → cond x (b ∷ unescape_from false s) (92 ∷ (b ∷ unescape_from false s)) ≡ [] → ⊥
    go true q = contra true refl (cc)
    go false q = contra true refl (cc)

unescape_some : (a : ℕ) (s : List ℕ) → unescape_from false (a ∷ s) ≡ [] → ⊥
unfolding unescape_from
unescape_some a s e = go (eqb a 92) e
  where
    go : (x : Bool) → cond x (unescape_from true s) (a ∷ unescape_from false s) ≡ [] → ⊥
    go true e = backslash_some s e
    go false e = contra true refl (cc)

flush_some : (d : List ℕ) (ps : List (List ℕ)) → (d ≡ [] → ⊥) → flush d ps ≡ d ∷ ps
flush_some [] ps n = absurd (n refl)
flush_some (a ∷ d) ps n = refl

pieces_flush : (c d : List ℕ) (ps : List (List ℕ)) → unescape_from false c ≡ d → flush d (unescapes ps) ≡ unescapes (flush c ps)
unfolding unescape_from unescape
pieces_flush [] d ps e = rw (← e)
pieces_flush (a ∷ c) d ps e = rw (← e, flush_some (unescape_from false (a ∷ c)) (unescapes ps) (unescape_some a c))

-- the raw piece c came to d, with a backslash open behind it or not
record Came (c : List ℕ) (escaped : Bool) (d : List ℕ) : Type 0 where
  goes : (t : List ℕ) → unescape_from false (c ++ t) ≡ d ++ unescape_from escaped t

came_none : Came [] false []
came_none = record { goes = λ t. refl }

snoc : (c : List ℕ) (b : ℕ) (t : List ℕ) → (c ++ (b ∷ [])) ++ t ≡ c ++ (b ∷ t)
snoc c b t = append_assoc c (b ∷ []) t

module _ {c d : List ℕ} where
  came_done : Came c false d → unescape_from false c ≡ d
  unfolding unescape_from
  came_done h = rw (append-nil c, append-nil d) at (h.goes [])

  came_back : Came c true d → unescape_from false c ≡ d ++ (92 ∷ [])
  unfolding unescape_from
  came_back h = rw append-nil at (h.goes [])

  came_plain : (b : ℕ) → Came c false d → eqb b 92 ≡ false → Came (c ++ (b ∷ [])) false (d ++ (b ∷ []))
  unfolding unescape_from
  came_plain b h e = record { goes = λ t. rw (snoc c b t, h.goes (b ∷ t), e, snoc d b (unescape_from false t)) }

  came_backslash : (b : ℕ) → Came c false d → eqb b 92 ≡ true → Came (c ++ (b ∷ [])) true d
  unfolding unescape_from
  came_backslash b h e = record { goes = λ t. rw (snoc c b t, h.goes (b ∷ t), e) }

  came_punct : (b : ℕ) → Came c true d → is_punct b ≡ true → Came (c ++ (b ∷ [])) false (d ++ (b ∷ []))
  unfolding unescape_from
  came_punct b h e = record { goes = λ t. rw (snoc c b t, h.goes (b ∷ t), e, snoc d b (unescape_from false t)) }

  came_other : (b : ℕ) → Came c true d → is_punct b ≡ false → Came (c ++ (b ∷ [])) false ((d ++ (92 ∷ [])) ++ (b ∷ []))
  unfolding unescape_from
  came_other b h e = record { goes = λ t. rw (snoc c b t, h.goes (b ∷ t), e, snoc (d ++ (92 ∷ [])) b (unescape_from false t), snoc d 92 (b ∷ unescape_from false t)) }

space_not_punct : (b : ℕ) → is_space b ≡ true → is_punct b ≡ false
unfolding is_space is_punct within all
space_not_punct b h = among_not is_punct (32 ∷ 9 ∷ 10 ∷ 12 ∷ 13 ∷ []) b refl h

space_not_backslash : (b : ℕ) → is_space b ≡ true → eqb b 92 ≡ false
unfolding is_space is_in
space_not_backslash b h = apart is_space b 92 h refl

backslash_not_space : is_space 92 ≡ false
unfolding is_space is_in
backslash_not_space = refl

-- the rest s, behind what came
pieces_came : (s c d : List ℕ) (escaped : Bool) → Came c escaped d → pieces_from d (unescape_from escaped s) ≡ unescapes (pieces_from c s)
unfolding pieces_from unescape_from
pieces_came [] c d false h = pieces_flush c d [] (came_done h)
pieces_came [] c d true h = rw backslash_not_space (pieces_flush c (d ++ (92 ∷ [])) [] (came_back h))
pieces_came (b ∷ s) c d false h = go (is_space b) (eqb b 92) refl refl (λ c d e. pieces_came s c d e)
  where
    go : (x y : Bool) → is_space b ≡ x → eqb b 92 ≡ y → ((c d : List ℕ) (e : Bool) → Came c e d → pieces_from d (unescape_from e s) ≡ unescapes (pieces_from c s)) → pieces_from d (cond y (unescape_from true s) (b ∷ unescape_from false s)) ≡ unescapes (cond x (flush c (pieces_from [] s)) (pieces_from (c ++ (b ∷ [])) s))
    go true true p q ih = contra (eqb b 92) q (space_not_backslash b p)
    go true false p q ih = rw (p, ih [] [] false came_none) (pieces_flush c d (pieces_from [] s) (came_done h))
    go false true p q ih = ih (c ++ (b ∷ [])) d true (came_backslash b h q)
    go false false p q ih = rw p (ih (c ++ (b ∷ [])) (d ++ (b ∷ [])) false (came_plain b h q))
pieces_came (b ∷ s) c d true h = go (is_space b) (is_punct b) refl refl (λ c d e. pieces_came s c d e)
  where
    go : (x y : Bool) → is_space b ≡ x → is_punct b ≡ y → ((c d : List ℕ) (e : Bool) → Came c e d → pieces_from d (unescape_from e s) ≡ unescapes (pieces_from c s)) → pieces_from d (cond y (b ∷ unescape_from false s) (92 ∷ (b ∷ unescape_from false s))) ≡ unescapes (cond x (flush c (pieces_from [] s)) (pieces_from (c ++ (b ∷ [])) s))
    go true true p q ih = contra (is_punct b) q (space_not_punct b p)
    go true false p q ih = rw (backslash_not_space, p, ih [] [] false came_none) (pieces_flush c (d ++ (92 ∷ [])) (pieces_from [] s) (came_back h))
    go false true p q ih = rw p (ih (c ++ (b ∷ [])) (d ++ (b ∷ [])) false (came_punct b h q))
    go false false p q ih = rw (backslash_not_space, p) (ih (c ++ (b ∷ [])) ((d ++ (92 ∷ [])) ++ (b ∷ [])) false (came_other b h q))

-- the pieces of an unescaped value are its pieces, unescaped: so ranges of the raw value will do
pub pieces_unescape : UnescapedFirst
unfolding unescape
pieces_unescape v = pieces_came v [] [] false came_none
