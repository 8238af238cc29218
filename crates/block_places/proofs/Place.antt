-- The place of a payload is the length of its longest prefix that can be continued to a payload; that of a token likewise.
-- Assumes nothing.
use mathlib.Core.Path.{◌≡◌, refl}
use mathlib.Core.Bool.{Bool, true, false}
use mathlib.Core.List.{List, [], ◌∷◌, ◌++◌, append-nil}
use Prim.Native.Nat.{ℕ}
use native.Mathlib.Omega.{arith}
use borrow.Author.Tests.{ltb-false, eq-eqb, le-leb}
use lib.Dec.{ltb}
use lib.ListN.{take}
use Rattle.base_lists.specs.Lists.{is_in}
use Rattle.base_lists.proofs.More.{contra}
use Rattle.base_bytes.specs.declared.Mode.{Mode}
use Rattle.base_bytes.specs.declared.Mode.TheVariants.{Strict, Loose}
use Rattle.base_bytes.specs.Bytes.{is_blank, within, is_letter, is_digit, is_alnum, is_name_start, is_name_part, is_key_start, is_quote, is_plain}
use Rattle.block_grammar.proofs.Chain.{payload_chain, chain_payload}
use Rattle.text_names.specs.Longest.{CanGoOn, Longest}
use Rattle.block_places.specs.Rules.{HasReading, HasToken}
use Rattle.block_places.specs.Computed.{Spot, may_end, turn_of, walk_takes, walk_passes, nothing_parts, payload_place, token_place}
use Rattle.block_places.proofs.Walk.{From, walk}
use Rattle.block_places.proofs.Sound.{Holds, Left, sound_from, sound_token}
use Rattle.block_places.proofs.Complete.{complete_from, quote-turn, token_read}

pub reading_walk : {m : Mode} {s : List ℕ} → HasReading m s → walk_takes (is_blank m) (Spot.edge false) s ≡ true
reading_walk {m} a = complete_from m false (payload_chain a.payload)

pub walk_reading : (m : Mode) (s : List ℕ) → walk_takes (is_blank m) (Spot.edge false) s ≡ true → HasReading m s
walk_reading m s e = go (sound_from m s 0 (Holds.edge {some = false}) e)
  where
    go : Left m 0 false s → HasReading m s
    go (Left.full {is = is} c) = record { items = is; payload = chain_payload c }

pub token_walk : (s : List ℕ) → HasToken s → walk_takes nothing_parts (Spot.edge false) s ≡ true
unfolding walk_takes may_end
token_walk s h = rw append-nil at (token_read nothing_parts (λ f b e g. refl) false [] h.token refl)

pub walk_token : (s : List ℕ) → walk_takes nothing_parts (Spot.edge false) s ≡ true → HasToken s
unfolding may_end
walk_token s e = sound_token s (Holds.edge {some = false}) (λ x. contra false x refl) e

-- every spot has a way to the end, where none of `a`, `=` and `-` parts two tokens
module _ (parts : ℕ → Bool) (no-a : parts 97 ≡ false) (no-equals : parts 61 ≡ false) (no_hyphen : parts 45 ≡ false) where
  pub alive : (st : Spot) → CanGoOn (From parts st) []
  unfolding walk_takes turn_of may_end is_in is_letter is_digit is_alnum is_name_start is_name_part is_key_start is_quote is_plain within
  alive (Spot.edge some) = record { rest = 97 ∷ []; good = rw no-a }
  alive (Spot.tag k true) = record { rest = []; good = refl }
  alive (Spot.tag k false) = tagged k (ltb k 8) refl
    where
      tagged : (k : ℕ) (x : Bool) → ltb k 8 ≡ x → CanGoOn (From parts (Spot.tag k false)) []
      tagged k true e = record { rest = 97 ∷ []; good = rw (no-a, e) }
      tagged k false e = record { rest = 45 ∷ 97 ∷ []; good = rw (no_hyphen, le-leb 1 k (omega (arith, ltb-false k 8 e)), no-a) }
  alive Spot.sigil = record { rest = 97 ∷ []; good = rw no-a }
  alive Spot.name = record { rest = []; good = refl }
  alive (Spot.word ok) = record { rest = 61 ∷ 97 ∷ []; good = rw (no-equals, no-a) }
  alive Spot.due = record { rest = 97 ∷ []; good = rw no-a }
  alive Spot.plain = record { rest = []; good = refl }
  alive (Spot.quoted q false) = record { rest = q ∷ []; good = rw (quote-turn parts q false q, eq-eqb q q refl) }
  alive (Spot.quoted q true) = record { rest = q ∷ q ∷ []; good = rw (quote-turn parts q true q, quote-turn parts q false q, eq-eqb q q refl) }
  alive Spot.shut = record { rest = []; good = refl }

pub blanks_alive : (m : Mode) (st : Spot) → CanGoOn (From (is_blank m) st) []
unfolding is_blank is_in
blanks_alive Strict st = alive (is_blank Strict) refl refl refl st
blanks_alive Loose st = alive (is_blank Loose) refl refl refl st

-- a walk that takes a language passes its longest prefix
by_walk : (parts : ℕ → Bool) {L : List ℕ → Type 0} (st : Spot) (s : List ℕ) → ((t : List ℕ) → walk_takes parts st t ≡ true → L t) → ((t : List ℕ) → L t → walk_takes parts st t ≡ true) → Longest (From parts st) s (walk_passes parts st s) → Longest L s (walk_passes parts st s)
by_walk parts st s sound complete w =
    record {
      within = w.within;
      goes = record { rest = w.goes.rest; good = sound (take (walk_passes parts st s) s ++ w.goes.rest) w.goes.good };
      longest = λ k h g. w.longest k h (record { rest = g.rest; good = complete (take k s ++ g.rest) g.good });
    }

pub place_longest : (m : Mode) (s : List ℕ) → Longest (HasReading m) s (payload_place m s)
unfolding payload_place
place_longest m s = by_walk (is_blank m) (Spot.edge false) s (walk_reading m) (λ t. reading_walk) (walk (is_blank m) (blanks_alive m) (Spot.edge false) s)

pub token_longest : (s : List ℕ) → Longest HasToken s (token_place s)
unfolding token_place
token_longest s = by_walk nothing_parts (Spot.edge false) s walk_token token_walk (walk nothing_parts (alive nothing_parts refl refl refl) (Spot.edge false) s)
