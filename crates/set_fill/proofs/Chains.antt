-- A line of blocks: what is still to be put from a place in one of them on, and which block comes next.
-- Assumes nothing.
use Rattle.std.specs.Prelude.{None, Option, Some}
use mathlib.Core.Path.{◌≡◌, refl, sym, ◌∙◌}
use mathlib.Core.Bool.{Bool, true, false}
use mathlib.Core.List.{List, [], ◌∷◌, ◌++◌, append_assoc, append-nil, flat_map}
use Prim.Native.Nat.{ℕ, ◌+◌, ◌-◌, ◌<◌, ◌≤◌}
use native.Mathlib.Omega.{arith}
use lib.Dec.{leb}
use borrow.Author.Tests.{leb-true, leb-false}
use lib.ListN.{length, get_or, take, drop, drop_of_length-le}
use lib.Seq.{slice, length-take-le, take-length}
use Rattle.base_lists.specs.Lists.{run}
use Rattle.base_lists.proofs.Flat.{flat_append}
use Rattle.base_bytes.specs.declared.Mode.{Mode}
use Rattle.base_bytes.specs.Bytes.{is_blank}
use Rattle.block_grammar.specs.Grammar.{Placed, Reading}
use Rattle.block_grammar.specs.Computed.{First, text, token_of, also, read_from, one_or_more, read_payload}
use Rattle.block_grammar.specs.ComputedClose.{find_close}
use Rattle.block_tokens.proofs.Steps as steps
use Rattle.block_chain.specs.Computed.{joined, blocks_from}
use Rattle.block_chain.proofs.Blocks as blocks
use Rattle.set_table.specs.Rows.{Put}
use Rattle.set_table.specs.Puts.{puts_of, puts_in}
use Rattle.set_fill.specs.declared.Cursor.{Cursor}
use Rattle.set_fill.specs.declared.Following as nexts
use Rattle.set_fill.specs.declared.Following.TheVariants.{Last, Unread, Closing}
use Rattle.set_fill.specs.declared.Push as pushes
use Rattle.set_fill.specs.declared.Push.TheVariants.{End, Bad}
use Rattle.set_fill.specs.Inner.{Rest, of_reading, before, tokens_from, rest_of, then_rest, blocks_rest, chain_rest, tokens_at, InText, Opened, PutsNext, Yields}
use Rattle.set_fill.proofs.Walk.{before_none, tokens_first}

-- ---- a payload's tokens: one or more
one-also : (p : Placed) (r : Reading) → one_or_more (also p r) ≡ also p r
one-also p Reading.refused = refl
one-also p (Reading.items is) = refl

-- blanks are passed up to a
module _ (m : Mode) (s : List ℕ) (at : ℕ) {a : ℕ} (is : a ≡ at + run (is_blank m) (drop at s)) where
  -- nothing stands there: `at` may lie behind the end
  pub none_read : length s ≤ a → read_from m (drop at s) 0 at ≡ Reading.items []
  unfolding read_from
  none_read h = go (leb at (length s)) refl
    where
      go : (x : Bool) → leb at (length s) ≡ x → read_from m (drop at s) 0 at ≡ Reading.items []
      go true p = let l = leb-true at (length s) p in steps.at_end m s l is (omega (arith, steps.between m s l is))
      go false p = rw (drop_of_length-le s {i = at} (omega (arith, leb-false at (length s) p)))

  -- a token stands there, or none that can be read
  pub some_read : a < length s → one_or_more (read_from m (drop at s) 0 at) ≡ read_from m (drop at s) 0 at
  some_read h = go (token_of m (drop a s)) refl
    where
      fits : at ≤ length s
      fits = omega arith

      go : (x : First) → token_of m (drop a s) ≡ x → one_or_more (read_from m (drop at s) 0 at) ≡ read_from m (drop at s) 0 at
      go First.none p = rw (steps.none_refused m s fits is h p)
      go (First.token j) p =
          let e = a + length (text j) in
          rw (steps.token_stepped m s fits is p (sym (steps.item_behind a j))).next (one-also (record { at = a; item = j }) (read_from m (drop e s) 0 e))

-- ---- one rest after the other
before-before : (ps qs : List Put) (r : Rest) → before (ps ++ qs) r ≡ before ps (before qs r)
before-before ps qs Rest.refused = refl
before-before ps qs (Rest.puts rs) = rw (append_assoc ps qs rs)

then_before : (ps : List Put) (r q : Rest) → then_rest (before ps r) q ≡ before ps (then_rest r q)
then_before ps Rest.refused q = refl
then_before ps (Rest.puts qs) q = before-before ps qs q

then_none : (r : Rest) → then_rest r (Rest.puts []) ≡ r
then_none Rest.refused = refl
then_none (Rest.puts ps) = rw (append-nil ps)

puts-append : (is js : List Placed) → puts_in (is ++ js) ≡ puts_in is ++ puts_in js
unfolding puts_in
puts-append is js = flat_append (λ p. puts_of p.at p.item) is js

of_joined : (r q : Reading) → of_reading (joined r q) ≡ then_rest (of_reading r) (of_reading q)
of_joined Reading.refused q = refl
of_joined (Reading.items is) Reading.refused = refl
of_joined (Reading.items is) (Reading.items js) = rw (puts-append is js)

-- ---- no block is left
pub last_rest : (m : Mode) (w : List ℕ) (i : ℕ) → length w ≤ i → blocks_from m (drop i w) 0 i ≡ Reading.items []
unfolding blocks_from
last_rest m w i h = rw (drop_of_length-le w h)

last_puts : (m : Mode) (w : List ℕ) (i : ℕ) → length w ≤ i → blocks_rest m w i ≡ Rest.puts []
unfolding puts_in flat_map
last_puts m w i h = rw (last_rest m w i h)

-- a payload alone is a line whose block has nothing behind it
pub alone : (m : Mode) (s : List ℕ) (at : ℕ) → chain_rest m s (length s) (tokens_at at) ≡ tokens_from m s at
unfolding chain_rest
alone m s at = rw (take-length s, last_puts m s (length s + 1) (omega arith)) (then_none (rest_of m s (tokens_at at)) ∙ tokens_first m s at)

-- ---- the next block
pub record Goes (m : Mode) (w : List ℕ) (i e : ℕ) : Type 0 where
  pub ahead : i < e
  pub within : e < length w
  pub is : blocks_rest m w i ≡ chain_rest m w e (tokens_at (i + 1))

pub goes : {m : Mode} {w : List ℕ} {i e : ℕ} {n : nexts.Following} → Opened m w i n → n ≡ Closing e → Goes m w i e
goes {m} {w} {i} {e} o k =
    let z : (i < e) × (e < length w) × (blocks_rest m w i ≡ chain_rest m w e (tokens_at (i + 1))) = rw k at o.told in
    record { ahead = z.0; within = z.1; is = z.2 }

-- ---- where the walk stands: in the block of w that closes at e
pub record Stands (w : List ℕ) (e : ℕ) (c : Cursor) : Type 0 where
  pub inside : InText (take e w) c
  pub fits : e ≤ length w

module _ {w : List ℕ} {e : ℕ} {c : Cursor} (s : Stands w e c) where
  pub front : length (take e w) ≡ e
  front = length-take-le e w s.fits

  -- something is put: the walk goes on, and further
  module _ {m : Mode} {p : Put} {d : Cursor} (g : PutsNext m (take e w) c.at (rest_of m (take e w) c) p d) where
    pub on : Stands w e d
    on = record { inside = g.inside; fits = s.fits }

    pub less : length w - d.at < length w - c.at
    less = omega (arith, g.ahead, g.inside, front, s.fits)

    pub next : chain_rest m w e c ≡ before (p ∷ []) (chain_rest m w e d)
    unfolding chain_rest
    next = rw g.is (then_before (p ∷ []) (rest_of m (take e w) d) (blocks_rest m w (e + 1)))

  -- the block can't be read
  module _ {m : Mode} {q : pushes.Push} (y : Yields m (take e w) c.at (rest_of m (take e w) c) q) where
    pub bad : q ≡ Bad → chain_rest m w e c ≡ Rest.refused
    unfolding chain_rest
    bad g = let z : rest_of m (take e w) c ≡ Rest.refused = rw g at y.told in rw z

    end : q ≡ End → chain_rest m w e c ≡ blocks_rest m w (e + 1)
    unfolding chain_rest
    end g = let z : rest_of m (take e w) c ≡ Rest.puts [] = rw g at y.told in rw z (before_none (blocks_rest m w (e + 1)))

    -- it ends
    module _ {n : nexts.Following} (o : Opened m w (e + 1) n) where
      pub last : q ≡ End → n ≡ Last → chain_rest m w e c ≡ Rest.puts []
      last g k = let z : length w ≤ e + 1 = rw k at o.told in end g ∙ last_puts m w (e + 1) z

      pub unread : q ≡ End → n ≡ Unread → chain_rest m w e c ≡ Rest.refused
      unread g k = let z : blocks_rest m w (e + 1) ≡ Rest.refused = rw k at o.told in end g ∙ z

      pub entered : {x : ℕ} {d : Cursor} → q ≡ End → n ≡ Closing x → d ≡ tokens_at (e + 2) → chain_rest m w e c ≡ chain_rest m w x d
      entered g k h = let z : e + 1 + 1 ≡ e + 2 = omega arith in end g ∙ (rw h (rw z at (goes o k).is))

  -- the next block is entered
  module _ {m : Mode} {n : nexts.Following} {x : ℕ} {d : Cursor} (o : Opened m w (e + 1) n) (k : n ≡ Closing x) (q : d ≡ tokens_at (e + 2)) where
    pub into : Stands w x d
    into =
        let z = goes o k in
        let y = length-take-le x w (omega (arith, z.within)) in
        record { inside = rw q (record { at = omega arith; to = omega arith; next = omega (arith, y, z.ahead) }); fits = omega (arith, z.within) }

    pub farther : c.at < d.at
    farther = rw q (omega (arith, front, s.inside))

    pub less_into : length w - d.at < length w - c.at
    less_into = let z = goes o k in rw q (omega (arith, front, s.inside, z.ahead, z.within))

-- ---- the block at i
module _ (m : Mode) (w : List ℕ) (i : ℕ) where
  module _ (h : i < length w) where
    pub no_brace : (get_or w i 0 ≡ 123 → ⊥) → Opened m w i Unread
    no_brace n = record { told = rw (blocks.no_brace m w i h n) }

    module _ (b : get_or w i 0 ≡ 123) {p : Option ℕ} (f : p ≡ find_close w (i + 1)) where
      pub no_close : p ≡ None → Opened m w i Unread
      no_close q = record { told = rw (blocks.no_close m w i h b f q) }

      module _ {e : ℕ} (q : p ≡ Some e) where
        pub inside : (i < e) × (e < length w)
        inside = blocks.within m w i h b f q

        pub closed : length (take e w) ≡ e
        closed = length-take-le e w (omega (arith, inside))

        -- blanks are passed up to a
        module _ {a : ℕ} (is : a ≡ (i + 1) + run (is_blank m) (drop (i + 1) (take e w))) where
          pub no_token : e ≤ a → Opened m w i Unread
          unfolding read_payload
          no_token l = record { told = rw (blocks.block m w i h b f q, none_read m (take e w) (i + 1) is (omega (arith, closed))) }

          pub token : a < e → Opened m w i (Closing e)
          unfolding read_payload chain_rest
          token l =
              let r = read_from m (slice (i + 1) e w) 0 (i + 1) in
              record {
                told = (
                  inside.0,
                  inside.1,
                  rw (blocks.block m w i h b f q, some_read m (take e w) (i + 1) is (omega (arith, closed)), of_joined r (blocks_from m (drop (e + 1) w) 0 (e + 1)), tokens_first m (take e w) (i + 1)),
                );
              }
