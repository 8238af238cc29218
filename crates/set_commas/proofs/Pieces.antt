-- The raw ranges against the pieces of the unescaped value.
-- Assumes nothing.
use mathlib.Core.Path.{◌≡◌, refl, sym, ◌∙◌, ap}
use mathlib.Core.Bool.{Bool, true, false, cond, ◌&&◌, and-false}
use mathlib.Core.List.{List, [], ◌∷◌, ◌++◌, map, append-nil, append_assoc}
use Prim.Native.Nat.{ℕ, suc, ◌+◌, ◌-◌, ◌<◌, ◌≤◌, zero-le}
use native.Mathlib.Nat.{add-zero}
use native.Mathlib.Omega.{arith}
use borrow.Author.Tests.{eqb-true}
use lib.Dec.{eqb}
use lib.ListN.{length, get_or, take, drop, length-drop, length-map}
use lib.Seq.{slice, slice_empty, take-suc, drop-append-le, length-take-le, get_or-drop}
use Rattle.base_lists.proofs.Parts.{drop_past}
use Rattle.base_lists.proofs.More.{contra}
use Rattle.base_bytes.specs.Bytes.{is_punct, within}
use Rattle.text_escapes.specs.Unescape.{unescape, unescape_from}
use Rattle.set_marks.specs.Marks.{bytes_in}
use Rattle.block_grammar.specs.Meaning.{PieceAt}
use Rattle.set_commas.specs.declared.Cut.{Cut}
use Rattle.set_commas.specs.declared.Cut.TheVariants.{Last, Comma}
use Rattle.set_commas.specs.Commas.{cut_range, on_head, comma_pieces, cuts_from, cuts_of, first_cut, cut_at}
use Rattle.set_commas.specs.Rules.{commas_in}
use Rattle.set_commas.proofs.Splits.{pieces_count}
use Rattle.set_commas.proofs.Loops.{begun}

-- ---- the raw pieces without their places

unfoldable raw_from : Bool → Bool → List ℕ → List (List ℕ)
raw_from q false [] = [] ∷ []
raw_from q true [] = (92 ∷ []) ∷ []
raw_from q false (b ∷ s) = cond (eqb b 44) ([] ∷ raw_from q false s) (cond (q && eqb b 92) (raw_from q true s) (on_head b (raw_from q false s)))
raw_from q true (b ∷ s) = cond (eqb b 44) ([] ∷ raw_from q false s) (on_head 92 (on_head b (raw_from q false s)))

-- a plain value's are its pieces
raw_plain : (s : List ℕ) → raw_from false false s ≡ comma_pieces s
unfolding raw_from comma_pieces
raw_plain [] = refl
raw_plain (b ∷ s) = rw (raw_plain s)

-- a byte that is no backslash stays, and so does it behind a backslash that goes or stays by its rule
first_byte : (b : ℕ) → eqb b 92 ≡ false → (ps : List (List ℕ)) → map unescape (on_head b ps) ≡ on_head b (map unescape ps)
unfolding unescape unescape_from
first_byte b h [] = refl
first_byte b h (p ∷ ps) = rw h

first_pair : (b : ℕ) → is_punct b ≡ true → (ps : List (List ℕ)) → map unescape (on_head 92 (on_head b ps)) ≡ on_head b (map unescape ps)
unfolding unescape unescape_from
first_pair b h [] = refl
first_pair b h (p ∷ ps) = rw h

first_other : (b : ℕ) → is_punct b ≡ false → (ps : List (List ℕ)) → map unescape (on_head 92 (on_head b ps)) ≡ on_head 92 (on_head b (map unescape ps))
unfolding unescape unescape_from
first_other b h [] = refl
first_other b h (p ∷ ps) = rw h

raw_quoted : (m : Bool) (s : List ℕ) → map unescape (raw_from true m s) ≡ comma_pieces (unescape_from m s)
unfolding raw_from comma_pieces unescape unescape_from is_punct within
raw_quoted false [] = refl
raw_quoted true [] = refl
raw_quoted false (b ∷ s) = go (eqb b 44) (eqb b 92) refl refl (raw_quoted true s) (raw_quoted false s)
  where
    go : (x y : Bool) → eqb b 44 ≡ x → eqb b 92 ≡ y → map unescape (raw_from true true s) ≡ comma_pieces (unescape_from true s) → map unescape (raw_from true false s) ≡ comma_pieces (unescape_from false s)
        → map unescape (cond x ([] ∷ raw_from true false s) (cond y (raw_from true true s) (on_head b (raw_from true false s)))) ≡ comma_pieces (cond y (unescape_from true s) (b ∷ unescape_from false s))
    go true true e f p o = contra true refl (rw (eqb-true b 44 e) at (sym f))
    go true false e f p o = rw (e, o)
    go false true e f p o = p
    go false false e f p o = rw (e, first_byte b f (raw_from true false s), o)
raw_quoted true (b ∷ s) = go (eqb b 44) (is_punct b) refl refl (raw_quoted false s)
  where
    go : (x y : Bool) → eqb b 44 ≡ x → is_punct b ≡ y → map unescape (raw_from true false s) ≡ comma_pieces (unescape_from false s)
        → map unescape (cond x ([] ∷ raw_from true false s) (on_head 92 (on_head b (raw_from true false s)))) ≡ comma_pieces (cond y (b ∷ unescape_from false s) (92 ∷ (b ∷ unescape_from false s)))
    go true true e f o = rw (e, o)
    go true false e f o = contra true refl (rw (eqb-true b 44 e) at f)
    go false true e f o = rw (e, first_pair b f (raw_from true false s), o)
    go false false e f o = rw (e, first_other b f (raw_from true false s), o)

map_same : (ps : List (List ℕ)) → map (bytes_in false) ps ≡ ps
map_same [] = refl
map_same (p ∷ ps) = rw (map_same ps)

raw_pieces : (q : Bool) (s : List ℕ) → map (bytes_in q) (raw_from q false s) ≡ comma_pieces (bytes_in q s)
unfolding unescape
raw_pieces true s = raw_quoted false s
raw_pieces false s = map_same (raw_from false false s) ∙ raw_plain s

-- ---- their places

-- the rest of the value from `at` on is s, and the piece that was begun starts no later
pub record Spot (w : List ℕ) (from at : ℕ) (s : List ℕ) : Type 0 where
  pub before : from ≤ at
  pub long : length w ≡ at + length s
  pub rest : drop at w ≡ s

module _ {w : List ℕ} {from at b : ℕ} {s : List ℕ} (h : Spot w from at (b ∷ s)) where
  spot_rest : drop (suc at) w ≡ s
  spot_rest = drop_past w (b ∷ []) s at (suc at) h.rest (omega arith)

  pub spot_next : Spot w from (suc at) s
  spot_next = record { before = omega (arith, h.before); long = omega (arith, h.long); rest = spot_rest }

  pub spot_new : Spot w (suc at) (suc at) s
  spot_new = record { before = omega arith; long = omega (arith, h.long); rest = spot_rest }

  pub spot_byte : get_or w at 0 ≡ b
  spot_byte = sym (rw (add-zero at) at (get_or-drop at w 0 0)) ∙ ap (λ l. get_or l 0 0) h.rest

  pub spot_more : slice from (suc at) w ≡ slice from at w ++ (b ∷ [])
  spot_more =
      rw (take-suc w at 0 (omega (arith, h.long)), spot_byte)
      (drop-append-le from (take at w) (b ∷ []) (omega (arith, h.before, h.long, length-take-le at w (omega (arith, h.long)))))

abbrev pub cut : List ℕ → List PieceAt → List (List ℕ)
cut w rs = map (λ r. slice r.from r.to w) rs

-- what was begun before the first piece
abbrev onto : List ℕ → List (List ℕ) → List (List ℕ)
onto c [] = []
onto c (p ∷ ps) = (c ++ p) ∷ ps

onto_nil : (ps : List (List ℕ)) → onto [] ps ≡ ps
onto_nil [] = refl
onto_nil (p ∷ ps) = refl

onto_byte : (c : List ℕ) (b : ℕ) (ps : List (List ℕ)) → onto (c ++ (b ∷ [])) ps ≡ onto c (on_head b ps)
onto_byte c b [] = refl
onto_byte c b (p ∷ ps) = rw (append_assoc c (b ∷ []) p)

abbrev pub ahead : Bool → List ℕ → List ℕ
ahead false s = s
ahead true s = 92 ∷ s

new : (q : Bool) (w : List ℕ) (at : ℕ) (s : List ℕ) → cut w (cuts_from q false at at s) ≡ onto (slice at at w) (raw_from q false s) → cut w (cuts_from q false at at s) ≡ raw_from q false s
new q w at s e = e ∙ rw (slice_empty at w) (onto_nil (raw_from q false s))

slices : (q m : Bool) (w : List ℕ) (from at : ℕ) (s : List ℕ) → Spot w from at (ahead m s) → cut w (cuts_from q m from at s) ≡ onto (slice from at w) (raw_from q m s)
unfolding cuts_from raw_from
slices q false w from at [] h = rw append-nil
slices q true w from at [] h = rw (spot_more h)
slices q false w from at (b ∷ s) h =
    go (eqb b 44) (eqb b 92) refl (new q w (suc at) s (slices q false w (suc at) (suc at) s (spot_new h))) (λ e. slices q true w from at s (rw (eqb-true b 92 e) at h)) (slices q false w from (suc at) s (spot_next h))
  where
    stays : cut w (cuts_from q false from (suc at) s) ≡ onto (slice from (suc at) w) (raw_from q false s) → cut w (cuts_from q false from (suc at) s) ≡ onto (slice from at w) (on_head b (raw_from q false s))
    stays o = o ∙ rw (spot_more h) (onto_byte (slice from at w) b (raw_from q false s))

    go : (x y : Bool) → eqb b 92 ≡ y → cut w (cuts_from q false (suc at) (suc at) s) ≡ raw_from q false s
        → (eqb b 92 ≡ true → cut w (cuts_from q true from at s) ≡ onto (slice from at w) (raw_from q true s))
        → cut w (cuts_from q false from (suc at) s) ≡ onto (slice from (suc at) w) (raw_from q false s)
        → cut w (cond x (cut_range from at ∷ cuts_from q false (suc at) (suc at) s) (cond (q && y) (cuts_from q true from at s) (cuts_from q false from (suc at) s)))
        ≡ onto (slice from at w) (cond x ([] ∷ raw_from q false s) (cond (q && y) (raw_from q true s) (on_head b (raw_from q false s))))
    go true y f p i o = rw (append-nil, p)
    go false false f p i o = rw (and-false q) (stays o)
    go false true f p i o = both_ways q
      where
        both_ways : (q' : Bool) → cut w (cond (q' && true) (cuts_from q true from at s) (cuts_from q false from (suc at) s)) ≡ onto (slice from at w) (cond (q' && true) (raw_from q true s) (on_head b (raw_from q false s)))
        both_ways true = i f
        both_ways false = stays o
slices q true w from at (b ∷ s) h =
    let n : suc (suc at) ≡ at + 2 = omega arith in
    go (eqb b 44) (new q w (at + 2) s (slices q false w (at + 2) (at + 2) s (rw n at (spot_new (spot_next h))))) (slices q false w from (at + 2) s (rw n at (spot_next (spot_next h))))
  where
    wide : slice from (at + 2) w ≡ (slice from at w ++ (92 ∷ [])) ++ (b ∷ [])
    wide = let n : at + 2 ≡ suc (suc at) = omega arith in rw (n, spot_more (spot_next h), spot_more h)

    go : (x : Bool) → cut w (cuts_from q false (at + 2) (at + 2) s) ≡ raw_from q false s → cut w (cuts_from q false from (at + 2) s) ≡ onto (slice from (at + 2) w) (raw_from q false s)
        → cut w (cond x (cut_range from at ∷ cuts_from q false (at + 2) (at + 2) s) (cuts_from q false from (at + 2) s)) ≡ onto (slice from at w) (cond x ([] ∷ raw_from q false s) (on_head 92 (on_head b (raw_from q false s))))
    go true p o = rw (append-nil, p)
    go false p o = o ∙ rw wide (onto_byte (slice from at w ++ (92 ∷ [])) b (raw_from q false s) ∙ onto_byte (slice from at w) 92 (on_head b (raw_from q false s)))

-- ---- the theorems

pub whole : (s : List ℕ) → Spot s 0 0 s
whole s = record { before = zero-le; long = omega arith; rest = refl }

-- the ranges' bytes, each unescaped by itself where the value is quoted, are the pieces of the unescaped value
pub cuts_pieces : (q : Bool) (s : List ℕ) → map (bytes_in q) (cut s (cuts_of q s)) ≡ comma_pieces (bytes_in q s)
unfolding cuts_of
cuts_pieces q s = rw (new q s 0 s (slices q false s 0 0 s (whole s))) (raw_pieces q s)

-- as many ranges as pieces: one more than commas
pub cuts_count : (q : Bool) (s : List ℕ) → length (cuts_of q s) ≡ suc (commas_in (bytes_in q s))
cuts_count q s = simp length-map at (ap length (cuts_pieces q s)) ∙ pieces_count (bytes_in q s)

-- ---- one cut_range after the other

-- the ranges from a piece's front: that piece's, and those from the next one's front on where there is a next one
data Cutting (q : Bool) (s : List ℕ) (from : ℕ) : List PieceAt → Type 0 where
  last : (to : ℕ) → from ≤ to → to ≤ length s → Cutting q s from (cut_range from to ∷ [])
  comma : (to next : ℕ) → from ≤ to → to < next → next ≤ length s → Cutting q s from (cut_range from to ∷ cuts_from q false next next (drop next s))

cutting : (q m : Bool) (w : List ℕ) (from at : ℕ) (s : List ℕ) → Spot w from at (ahead m s) → Cutting q w from (cuts_from q m from at s)
unfolding cuts_from
cutting q false w from at [] h = Cutting.last at h.before (omega (arith, h.long))
cutting q true w from at [] h = Cutting.last (suc at) (omega (arith, h.before)) (omega (arith, h.long))
cutting q false w from at (b ∷ s) h =
    go (eqb b 44) q (eqb b 92) refl (λ f. cutting q true w from at s (rw (eqb-true b 92 f) at h)) (cutting q false w from (suc at) s (spot_next h))
  where
    go : (x q' z : Bool) → eqb b 92 ≡ z → (eqb b 92 ≡ true → Cutting q w from (cuts_from q true from at s)) → Cutting q w from (cuts_from q false from (suc at) s)
        → Cutting q w from (cond x (cut_range from at ∷ cuts_from q false (suc at) (suc at) s) (cond (q' && z) (cuts_from q true from at s) (cuts_from q false from (suc at) s)))
    go true q' z g i o =
        rw (sym (spot_next h).rest) (Cutting.comma at (suc at) h.before (omega arith) (omega (arith, h.long)))
    go false true true g i o = i g
    go false true false g i o = o
    go false false z g i o = o
cutting q true w from at (b ∷ s) h =
    let n : suc (suc at) ≡ at + 2 = omega arith in
    go (eqb b 44) (rw n at (spot_next (spot_next h))) (cutting q false w from (at + 2) s (rw n at (spot_next (spot_next h))))
  where
    go : (x : Bool) → Spot w from (at + 2) s → Cutting q w from (cuts_from q false from (at + 2) s)
        → Cutting q w from (cond x (cut_range from at ∷ cuts_from q false (at + 2) (at + 2) s) (cuts_from q false from (at + 2) s))
    go true k o = rw (sym k.rest) (Cutting.comma at (at + 2) h.before (omega arith) (omega (arith, h.long)))
    go false k o = o

at_front : (s : List ℕ) (at : ℕ) → at ≤ length s → Spot s at at (drop at s)
at_front s at h = record { before = omega arith; long = omega (arith, length-drop at s); rest = refl }

-- the last piece
pub record Ends (q : Bool) (s : List ℕ) (at to : ℕ) : Type 0 where
  pub cuts : cuts_from q false at at (drop at s) ≡ cut_range at to ∷ []
  pub before : at ≤ to
  pub inside : to ≤ length s

-- a piece with another behind it
pub record Goes (q : Bool) (s : List ℕ) (at to next : ℕ) : Type 0 where
  pub cuts : cuts_from q false at at (drop at s) ≡ cut_range at to ∷ cuts_from q false next next (drop next s)
  pub before : at ≤ to
  pub ahead : to < next
  pub inside : next ≤ length s

module _ {q : Bool} {s : List ℕ} {at : ℕ} {r : Cut} (h : at ≤ length s) (e : r ≡ cut_at q s at) where
  pub cut_last : {to : ℕ} → r ≡ Last to → Ends q s at to
  unfolding cut_at first_cut
  cut_last {to} p = go (cuts_from q false at at (drop at s)) refl (cutting q false s at at (drop at s) (at_front s at h))
    where
      go : (rs : List PieceAt) → cuts_from q false at at (drop at s) ≡ rs → Cutting q s at rs → Ends q s at to
      go _ z (Cutting.last to' b i) =
          let y : Last to ≡ Last to' = sym p ∙ e ∙ ap first_cut z in
          let n : to ≡ to' = cc in
          rw n (record { cuts = z; before = b; inside = i })
      go _ z (Cutting.comma to' next b a i) =
          let y : Last to ≡ Comma to' next = sym p ∙ e ∙ ap first_cut z ∙ begun q false (cut_range at to') next next (drop next s) in
          let z : ◌≡◌ {A = ℕ} 0 1 = cc in
          absurd (omega arith)

  pub cut-comma : {to next : ℕ} → r ≡ Comma to next → Goes q s at to next
  unfolding cut_at first_cut
  cut-comma {to} {next} p = go (cuts_from q false at at (drop at s)) refl (cutting q false s at at (drop at s) (at_front s at h))
    where
      go : (rs : List PieceAt) → cuts_from q false at at (drop at s) ≡ rs → Cutting q s at rs → Goes q s at to next
      go _ z (Cutting.last to' b i) =
          let y : Comma to next ≡ Last to' = sym p ∙ e ∙ ap first_cut z in
          let z : ◌≡◌ {A = ℕ} 0 1 = cc in
          absurd (omega arith)
      go _ z (Cutting.comma to' next' b a i) =
          let y : Comma to next ≡ Comma to' next' = sym p ∙ e ∙ ap first_cut z ∙ begun q false (cut_range at to') next' next' (drop next' s) in
          let n : to ≡ to' = cc in
          let m : next ≡ next' = cc in
          rw (n, m) (record { cuts = z; before = b; ahead = a; inside = i })
