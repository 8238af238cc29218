-- A token of a payload s: what it puts, what it says of `lang`, and how the place goes on behind it.
-- Assumes nothing.
use Rattle.std.specs.Prelude.{Some}
use mathlib.Core.Path.{◌≡◌, refl, sym, ◌∙◌, ap}
use mathlib.Core.Bool.{Bool, true, false}
use mathlib.Core.List.{List, [], ◌∷◌, flat_map}
use Prim.Native.Nat.{ℕ, suc, ◌+◌, ◌<◌, ◌≤◌}
use native.Mathlib.Nat.{add-zero}
use native.Mathlib.Omega.{arith}
use lib.ListN.{length, get_or, drop, drop_of_length-le}
use lib.Seq.{drop-cons, drop-drop}
use Rattle.base_lists.specs.Lists.{run}
use Rattle.base_lists.proofs.Parts.{drop_past}
use Rattle.base_bytes.specs.declared.Mode.{Mode}
use Rattle.base_bytes.specs.Bytes.{is_blank}
use Rattle.block_grammar.specs.Grammar.{Item, Placed, Reading}
use Rattle.block_grammar.specs.Computed.{First, text, token_of, also, read_from}
use Rattle.block_grammar.proofs.Tokens.{token_sound}
use Rattle.block_places.specs.Computed.{Spot, turn_of, walk_passes, payload_place, token_place}
use Rattle.block_places.proofs.Tokens.{blanks_over, over, bad_place}
use Rattle.block_tokens.specs.declared.Token.{Token}
use Rattle.block_tokens.specs.declared.Token.TheVariants as token
use Rattle.block_tokens.specs.Shown.{shown, shown_item, token_at, token_end}
use Rattle.block_tokens.proofs.Steps as steps
use Rattle.set_table.specs.Puts.{puts_of, puts_in}
use Rattle.set_fill.specs.Inner.{Rest, of_reading, before, tokens_from}
use Rattle.read_tags.specs.Tagged.{lang_of}
use Rattle.read_tags.specs.Inner.{passes_with, passes_items, passes_rest, passes_from}
use Rattle.read_once.specs.Inner.{place_from}

-- ---- the place doesn't ask whether a token was read before
any_edge : (m : Mode) (some : Bool) (s : List ℕ) → walk_passes (is_blank m) (Spot.edge some) s ≡ walk_passes (is_blank m) (Spot.edge true) s
unfolding walk_passes turn_of
any_edge m some [] = refl
any_edge m some (b ∷ s) = go (is_blank m b) refl (any_edge m some s)
  where
    go : (x : Bool) → is_blank m b ≡ x → walk_passes (is_blank m) (Spot.edge some) s ≡ walk_passes (is_blank m) (Spot.edge true) s → walk_passes (is_blank m) (Spot.edge some) (b ∷ s) ≡ walk_passes (is_blank m) (Spot.edge true) (b ∷ s)
    go true e ih = rw (e, ih)
    go false e ih = rw e

pub place_start : (m : Mode) (s : List ℕ) (i : ℕ) → place_from m s i ≡ i + payload_place m (drop i s)
unfolding place_from payload_place
place_start m s i = rw (any_edge m false (drop i s))

-- ---- an item more
of_also : (p : Placed) (r : Reading) → of_reading (also p r) ≡ before (puts_of p.at p.item) (of_reading r)
unfolding puts_in flat_map
of_also p Reading.refused = refl
of_also p (Reading.items is) = refl

also_pass : (x : Bool) (p : Placed) (r : Reading) → passes_rest x (also p r) ≡ passes_rest (passes_with x (lang_of p.item)) r
unfolding passes_items
also_pass x p Reading.refused = refl
also_pass x p (Reading.items is) = refl

-- the token at a, behind the blanks from i on, says j and ends before e
pub record Over (m : Mode) (s : List ℕ) (i a : ℕ) (j : Item) (e : ℕ) : Type 0 where
  pub puts : tokens_from m s i ≡ before (puts_of a j) (tokens_from m s e)
  pub place : place_from m s i ≡ place_from m s e
  pub lang : (x : Bool) → passes_from m s i x ≡ passes_from m s e (passes_with x (lang_of j))
  pub ahead : a < e
  pub within : e ≤ length s

module _ (m : Mode) (s : List ℕ) {i a : ℕ} (fits : i ≤ length s) (is : a ≡ i + run (is_blank m) (drop i s)) where
  pub between : (i ≤ a) × (a ≤ length s)
  between = steps.between m s fits is

  place_on : place_from m s i ≡ place_from m s a
  unfolding place_from
  place_on =
      let z : drop (run (is_blank m) (drop i s)) (drop i s) ≡ drop a s = rw (drop-drop (run (is_blank m) (drop i s)) i s, ← is) in
      rw (blanks_over m true (drop i s), z) (omega (arith, is))

  -- nothing is left
  pub end_puts : a ≡ length s → tokens_from m s i ≡ Rest.puts []
  unfolding puts_in flat_map
  end_puts h = rw (steps.at_end m s fits is h)

  pub end_place : a ≡ length s → place_from m s i ≡ a
  unfolding place_from walk_passes
  end_place h = place_on ∙ (rw (drop_of_length-le s {i = a} (omega arith), add-zero))

  pub end_lang : a ≡ length s → (x : Bool) → passes_from m s i x ≡ x
  unfolding passes_items
  end_lang h x = rw (steps.at_end m s fits is h)

  -- no token
  module _ {n : ℕ} (h : a < length s) (q : token.Bad n ≡ token_at m s a) where
    pub bad_puts : tokens_from m s i ≡ Rest.refused
    bad_puts = rw (steps.refused m s fits is h q)

    pub bad_lang : (x : Bool) → passes_from m s i x ≡ true
    bad_lang x = rw (steps.refused m s fits is h q)

    none : token_of m (drop a s) ≡ First.none
    none = steps.ranges m s a q

    pub bad_spot : place_from m s i ≡ n
    unfolding place_from shown
    bad_spot =
        let z : token.Bad n ≡ token.Bad (a + token_place (drop a s)) = rw none at q in
        let y : n ≡ a + token_place (drop a s) = cc in
        let b : walk_passes (is_blank m) (Spot.edge true) (drop a s) ≡ token_place (drop a s) = (rw (drop-cons s a 0 h) (bad_place m true (get_or s a 0) (drop (suc a) s) (steps.no_blank m s fits is h) (rw (drop-cons s a 0 h) at none))) in
        place_on ∙ (rw (y, b))

  -- a token
  module _ {t : Token} {j : Item} {e : ℕ} (q : t ≡ token_at m s a) (p : steps.item_of s t ≡ First.token j) (b : Some e ≡ token_end t) where
    is_token_lem : token_of m (drop a s) ≡ First.token j
    is_token_lem = steps.ranges m s a q ∙ p

    ended : a + length (text j) ≡ e
    unfolding shown
    ended = let w : Some e ≡ token_end (shown_item a j) = rw is_token_lem at (b ∙ ap token_end q) in cc (steps.item_behind a j)

    pub passes_over : Over m s i a j e
    unfolding place_from
    passes_over =
        let st = steps.stepped m s fits is q p b in
        let f = token_sound m (drop a s) j is_token_lem in
        let d : drop e s ≡ f.rest = drop_past s (text j) f.rest a e (sym f.whole) (sym ended) in
        record {
          puts = rw st.next (of_also (record { at = a; item = j }) (read_from m (drop e s) 0 e));
          place = place_on ∙ (rw (← f.whole, over m true f.rest f.token f.ended, d) (omega (arith, ended)));
          lang = λ x. rw st.next (also_pass x (record { at = a; item = j }) (read_from m (drop e s) 0 e));
          ahead = st.ahead;
          within = st.within;
        }
