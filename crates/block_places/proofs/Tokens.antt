-- The walk of a payload at a token: over one that is good, and as far as its own place into one that is not.
-- Assumes nothing.
use mathlib.Core.Path.{◌≡◌, refl, sym, ◌∙◌, ap}
use mathlib.Core.Bool.{Bool, true, false, cond}
use mathlib.Core.List.{List, [], ◌∷◌, ◌++◌, append_assoc}
use Prim.Native.Nat.{ℕ, zero, suc, ◌+◌, ◌-◌, ◌≤◌}
use native.Mathlib.Nat.{zero-add, suc-add}
use native.Mathlib.Omega.{arith}
use borrow.Author.Tests.{leb-true, leb-false}
use lib.Dec.{eqb, leb}
use lib.ListN.{length, take, drop, length-append}
use lib.Seq.{take-append-add}
use Rattle.base_lists.specs.Lists.{all, run, is_in}
use Rattle.base_lists.proofs.More.{contra}
use Rattle.base_bytes.specs.declared.Mode.{Mode}
use Rattle.base_bytes.specs.Bytes.{is_blank, within, is_letter, is_digit, is_alnum, is_name_start, is_name_part, is_quote, is_plain}
use Rattle.block_grammar.specs.Grammar.{Item, IsToken}
use Rattle.block_grammar.specs.Computed.{First, ends, token_of}
use Rattle.block_grammar.proofs.Bytes.{blank_not}
use Rattle.block_grammar.proofs.Tokens.{token_complete}
use Rattle.text_names.specs.Longest.{CanGoOn, Longest}
use Rattle.block_places.specs.Computed.{Spot, Turn, may_end, quoted_turn, solid_turn, blank_turn, turn_of, walk_takes, walk_passes, nothing_parts, token_place}
use Rattle.block_places.proofs.Walk.{From, walk}
use Rattle.block_places.proofs.Sound.{Holds, Stepped, Taken, in_token, stepped, taken, whole}
use Rattle.block_places.proofs.Complete.{read}
use Rattle.block_places.proofs.Place.{blanks_alive}

module _ (m : Mode) where
  -- ---- blanks between tokens are passed
  pub blanks_over : (some : Bool) (s : List ℕ) → walk_passes (is_blank m) (Spot.edge some) s ≡ run (is_blank m) s + walk_passes (is_blank m) (Spot.edge some) (drop (run (is_blank m) s) s)
  unfolding walk_passes turn_of run
  blanks_over some [] = refl
  blanks_over some (b ∷ s) = go (is_blank m b) refl (blanks_over some s)
    where
      go : (x : Bool) → is_blank m b ≡ x → walk_passes (is_blank m) (Spot.edge some) s ≡ run (is_blank m) s + walk_passes (is_blank m) (Spot.edge some) (drop (run (is_blank m) s) s) → walk_passes (is_blank m) (Spot.edge some) (b ∷ s) ≡ cond x (suc (run (is_blank m) s)) 0 + walk_passes (is_blank m) (Spot.edge some) (drop (cond x (suc (run (is_blank m) s)) 0) (b ∷ s))
      go true e ih = rw (e, ih, suc-add)
      go false e ih = sym (zero-add (walk_passes (is_blank m) (Spot.edge some) (b ∷ s)))

  -- ---- a good token is passed whole
  record Way (p : List ℕ) : Type 0 where
    rest : List ℕ
    ended : ends m (p ++ rest) ≡ true
    good : walk_takes (is_blank m) (Spot.edge true) (p ++ rest) ≡ true

  -- what goes on behind a token can go on by a blank, or by nothing
  way : (rest : List ℕ) (n : ℕ) → ends m rest ≡ true → CanGoOn (From (is_blank m) (Spot.edge true)) (take n rest) → Way (take n rest)
  unfolding walk_takes may_end ends
  way [] zero e g = record { rest = []; ended = refl; good = refl }
  way [] (suc n) e g = record { rest = []; ended = refl; good = refl }
  way (b ∷ s) zero e g = record { rest = []; ended = refl; good = refl }
  way (b ∷ s) (suc n) e g = record { rest = g.rest; ended = e; good = g.good }

  still : (rest : List ℕ) (n : ℕ) (r : List ℕ) → ends m rest ≡ true → 1 ≤ n → n ≤ length rest → ends m (take n rest ++ r) ≡ true
  unfolding ends
  still rest zero r e h l = absurd (omega arith)
  still [] (suc n) r e h l = absurd (omega arith)
  still (b ∷ s) (suc n) r e h l = e

  module _ {t : List ℕ} {i : Item} (some : Bool) (rest : List ℕ) (tok : IsToken t i) (e : ends m rest ≡ true) where
    whole_walk : Longest (From (is_blank m) (Spot.edge some)) (t ++ rest) (walk_passes (is_blank m) (Spot.edge some) (t ++ rest))
    whole_walk = walk (is_blank m) (blanks_alive m) (Spot.edge some) (t ++ rest)

    rest_walk : Longest (From (is_blank m) (Spot.edge true)) rest (walk_passes (is_blank m) (Spot.edge true) rest)
    rest_walk = walk (is_blank m) (blanks_alive m) (Spot.edge true) rest

    at_least : length t + walk_passes (is_blank m) (Spot.edge true) rest ≤ walk_passes (is_blank m) (Spot.edge some) (t ++ rest)
    at_least =
        let n = walk_passes (is_blank m) (Spot.edge true) rest in
        let w = way rest n e rest_walk.goes in
        whole_walk.longest (length t + n) (omega (arith, length-append t rest, rest_walk.within))
        (record { rest = w.rest; good = rw (take-append-add t rest n, append_assoc t (take n rest) w.rest) (read m some (take n rest ++ w.rest) tok w.ended ∙ w.good) })

    at_most_lem : walk_passes (is_blank m) (Spot.edge some) (t ++ rest) ≤ length t + walk_passes (is_blank m) (Spot.edge true) rest
    at_most_lem = go (leb (walk_passes (is_blank m) (Spot.edge some) (t ++ rest)) (length t)) refl
      where
        go : (x : Bool) → leb (walk_passes (is_blank m) (Spot.edge some) (t ++ rest)) (length t) ≡ x → walk_passes (is_blank m) (Spot.edge some) (t ++ rest) ≤ length t + walk_passes (is_blank m) (Spot.edge true) rest
        go true p = omega (arith, leb-true (walk_passes (is_blank m) (Spot.edge some) (t ++ rest)) (length t) p)
        go false p =
            let n = walk_passes (is_blank m) (Spot.edge some) (t ++ rest) in
            let j = n - length t in
            let h = leb-false n (length t) p in
            let z : n ≡ length t + j = omega (arith, h) in
            let l : j ≤ length rest = omega (arith, h, whole_walk.within, length-append t rest) in
            let g = whole_walk.goes in
            let k : take n (t ++ rest) ++ g.rest ≡ t ++ (take j rest ++ g.rest) = ap (λ x. x ++ g.rest) (ap (λ x. take x (t ++ rest)) z ∙ take-append-add t rest j) ∙ append_assoc t (take j rest) g.rest in
            omega (arith, h, rest_walk.longest j l (record { rest = g.rest; good = sym (read m some (take j rest ++ g.rest) tok (still rest j g.rest e (omega (arith, h)) l)) ∙ (rw k at g.good) }))

    pub over : walk_passes (is_blank m) (Spot.edge some) (t ++ rest) ≡ length t + walk_passes (is_blank m) (Spot.edge true) rest
    over = omega (arith, at_least, at_most_lem)

  -- ---- into a bad one the walk goes as far as if nothing parted
  blank_solid : (st : Spot) (b : ℕ) → is_blank m b ≡ true → in_token st ≡ true → blank_turn st b ≡ Turn.stop → solid_turn st b ≡ Turn.stop
  unfolding all is_alnum is_letter is_digit is_name_start is_name_part is_quote is_plain is_in within
  blank_solid (Spot.edge some) b h n q = contra false n refl
  blank_solid (Spot.tag k ok) b h n q = rw (blank_not is_alnum m b refl h, blank_not (λ x. eqb x 45) m b refl h)
  blank_solid Spot.sigil b h n q = rw (blank_not is_name_start m b refl h)
  blank_solid Spot.name b h n q = rw (blank_not is_name_part m b refl h)
  blank_solid (Spot.word ok) b h n q = rw (blank_not is_name_part m b refl h, blank_not (λ x. eqb x 61) m b refl h)
  blank_solid Spot.due b h n q = rw (blank_not is_quote m b refl h, blank_not is_plain m b refl h)
  blank_solid Spot.plain b h n q = rw (blank_not is_plain m b refl h)
  blank_solid (Spot.quoted r e) b h n q = q
  blank_solid Spot.shut b h n q = refl

  -- one byte more, where both walks take the same turn
  both_turn : (b : ℕ) (s : List ℕ) (st : Spot) (t : Turn) → turn_of (is_blank m) st b ≡ t → solid_turn st b ≡ t → ((v : Spot) → solid_turn st b ≡ Turn.go v → walk_passes (is_blank m) v s ≡ walk_passes nothing_parts v s) → walk_passes (is_blank m) st (b ∷ s) ≡ walk_passes nothing_parts st (b ∷ s)
  unfolding walk_passes turn_of ends
  both_turn b s st Turn.stop p q ih = rw (p, q)
  both_turn b s st (Turn.go v) p q ih = rw (p, q, ih v q)

  pub stays : (s : List ℕ) {st : Spot} {p : List ℕ} → Holds st p → in_token st ≡ true → token_of m (p ++ s) ≡ First.none → walk_passes (is_blank m) st s ≡ walk_passes nothing_parts st s
  unfolding walk_passes turn_of ends
  stays [] h n e = refl
  stays (b ∷ s) {st} {p} h n e = go (is_blank m b) refl (taken st) h n e (λ v g f. stays s g.holds g.within f)
    where
      on : {st : Spot} {p : List ℕ} → Holds st p → token_of m (p ++ (b ∷ s)) ≡ First.none → ((v : Spot) → Stepped v (p ++ (b ∷ [])) → token_of m ((p ++ (b ∷ [])) ++ s) ≡ First.none → walk_passes (is_blank m) v s ≡ walk_passes nothing_parts v s) → (v : Spot) → solid_turn st b ≡ Turn.go v → walk_passes (is_blank m) v s ≡ walk_passes nothing_parts v s
      on {p = p} h e ih v q = ih v (stepped h b v q) (rw (append_assoc p (b ∷ []) s) e)

      go : {st : Spot} {p : List ℕ} (x : Bool) → is_blank m b ≡ x → Taken st → Holds st p → in_token st ≡ true → token_of m (p ++ (b ∷ s)) ≡ First.none → ((v : Spot) → Stepped v (p ++ (b ∷ [])) → token_of m ((p ++ (b ∷ [])) ++ s) ≡ First.none → walk_passes (is_blank m) v s ≡ walk_passes nothing_parts v s) → walk_passes (is_blank m) st (b ∷ s) ≡ walk_passes nothing_parts st (b ∷ s)
      go {st} false r t h n e ih = both_turn b s st (solid_turn st b) (rw r) refl (on h e ih)
      go true r (Taken.between some) h n e ih = contra false n refl
      go {st} true r (Taken.within q x) h n e ih = both_turn b s st (quoted_turn q x b) (rw r) refl (on h e ih)
      go {st} {p} true r (Taken.behind t f) h n e ih = done (may_end st) refl
        where
          done : (y : Bool) → may_end st ≡ y → walk_passes (is_blank m) st (b ∷ s) ≡ walk_passes nothing_parts st (b ∷ s)
          done true y = let w = whole h n y in contra true refl (cc (token_complete m w.token (b ∷ s) r, e))
          done false y = both_turn b s st Turn.stop (rw (r, f b, y)) (blank_solid st b r n (f b ∙ (rw y))) (on h e ih)

  -- from a token's first byte, which is no blank
  pub bad_place : (some : Bool) (b : ℕ) (s : List ℕ) → is_blank m b ≡ false → token_of m (b ∷ s) ≡ First.none → walk_passes (is_blank m) (Spot.edge some) (b ∷ s) ≡ token_place (b ∷ s)
  unfolding token_place walk_passes turn_of
  bad_place some b s r e = both_turn b s (Spot.edge some) (solid_turn (Spot.edge some) b) (rw r) refl (λ v q. (let g = stepped (Holds.edge {some = some}) b v q in stays s g.holds g.within e)) ∙ same-edge
    where
      same-edge : walk_passes nothing_parts (Spot.edge some) (b ∷ s) ≡ walk_passes nothing_parts (Spot.edge false) (b ∷ s)
      same-edge = refl
