-- At a brace a prefix that goes on does so by bytes that a block can hold, and the block then closes behind them.
-- Assumes nothing.
use Rattle.std.specs.Prelude.{Some}
use mathlib.Core.Path.{◌≡◌, refl, ◌∙◌}
use mathlib.Core.Bool.{Bool, true, false, not, ◌&&◌}
use mathlib.Core.List.{List, [], ◌∷◌, ◌++◌}
use Prim.Native.Nat.{ℕ, suc, ◌+◌}
use native.Mathlib.Nat.{add-zero, zero-add, add-suc, suc-add}
use native.Mathlib.Omega.{arith}
use borrow.Author.Tests.{not-true, ltb-false, le-leb, eq-eqb}
use lib.Dec.{eqb, ltb}
use lib.ListN.{length, take}
use Rattle.base_lists.specs.Lists.{all, is_in}
use Rattle.base_lists.proofs.Scan.{both, all_append}
use Rattle.base_lists.proofs.More.{contra, among}
use Rattle.base_bytes.specs.declared.Mode.{Mode}
use Rattle.base_bytes.specs.declared.Mode.TheVariants.{Strict, Loose}
use Rattle.base_bytes.specs.Bytes.{is_blank, is_letter, is_digit, is_alnum, is_name_start, is_name_part, is_key_start, is_quote, is_plain, within}
use Rattle.block_grammar.specs.Close.{no_lf}
use Rattle.block_grammar.specs.ComputedClose.{go_on, scan_step, close_from, find_close}
use Rattle.block_places.specs.Computed.{Spot, Turn, may_end, turn_of, onward, walk_takes, walk_passes, payload_place}
use Rattle.block_places.specs.Inner.{scan_of, is_out}
use Rattle.block_places.proofs.Search.{Sane, same, goes_sane, out_scan, closing}
use Rattle.block_places.proofs.Complete.{quote-turn}
use Rattle.block_places.proofs.Place.{walk_reading}
use Rattle.proved_places.specs.Places.{is_harmless, PrefixGoesOnAtABrace}

-- ---- a payload without LF closes at its end
not_lf : (b : ℕ) (p : List ℕ) → no_lf (b ∷ p) ≡ true → (eqb b 10 ≡ false) × (no_lf p ≡ true)
unfolding no_lf all
not_lf b p e = let h = both (not (eqb b 10)) (no_lf p) e in (not-true (eqb b 10) h.0, h.1)

may_end_out : (st : Spot) → may_end st ≡ true → is_out st ≡ true
unfolding may_end
may_end_out (Spot.edge some) e = refl
may_end_out (Spot.tag k ok) e = refl
may_end_out Spot.sigil e = refl
may_end_out Spot.name e = refl
may_end_out (Spot.word ok) e = refl
may_end_out Spot.due e = refl
may_end_out Spot.plain e = refl
may_end_out (Spot.quoted q x) e = contra false e refl
may_end_out Spot.shut e = refl

module _ (m : Mode) where
  pub closes_behind : (p t : List ℕ) {st : Spot} (i : ℕ) → Sane st → no_lf p ≡ true → walk_takes (is_blank m) st p ≡ true → close_from (p ++ (125 ∷ t)) (scan_of st) i ≡ Some (i + length p)
  unfolding walk_takes close_from
  closes_behind [] t {st} i h n e = rw (out_scan st (may_end_out st e), closing 125 refl, add-zero)
  closes_behind (b ∷ p) t {st} i h n e = go (turn_of (is_blank m) st b) refl e (λ v g f. closes_behind p t (suc i) g (not_lf b p n).1 f)
    where
      go : (x : Turn) → turn_of (is_blank m) st b ≡ x → onward false (λ v. walk_takes (is_blank m) v p) x ≡ true → ((v : Spot) → Sane v → walk_takes (is_blank m) v p ≡ true → close_from (p ++ (125 ∷ t)) (scan_of v) (suc i) ≡ Some (suc i + length p)) → go_on (scan_step (scan_of st) b) i (λ v. close_from (p ++ (125 ∷ t)) v (suc i)) ≡ Some (i + suc (length p))
      go Turn.stop q f ih = contra false f refl
      go (Turn.go v) q f ih = let z = same m b v h (not_lf b p n).0 q in rw (z.step, add-suc, ← suc-add i (length p)) (ih v z.sane f)

  -- ---- every spot has a way to the end by harmless bytes
  record Way (st : Spot) (p : List ℕ) : Type 0 where
    rest : List ℕ
    harmless : all is_harmless rest ≡ true
    good : walk_takes (is_blank m) st (p ++ rest) ≡ true

blank_none : (m : Mode) (b : ℕ) → is_in (97 ∷ 61 ∷ 45 ∷ []) b ≡ true → is_blank m b ≡ false
unfolding is_blank is_in all
blank_none m b h = not-true (is_blank m b) (among (λ x. not (is_blank m x)) (97 ∷ 61 ∷ 45 ∷ []) b (each m) h)
  where
    each : (m : Mode) → all (λ x. not (is_blank m x)) (97 ∷ 61 ∷ 45 ∷ []) ≡ true
    each Strict = refl
    each Loose = refl

quote_harmless : (q : ℕ) → is_quote q ≡ true → is_harmless q ≡ true
unfolding is_quote is_harmless all
quote_harmless q h = among is_harmless (34 ∷ 39 ∷ []) q refl h

way : (m : Mode) (st : Spot) → Sane st → Way m st []
unfolding walk_takes turn_of may_end is_in is_letter is_digit is_alnum is_name_start is_name_part is_key_start is_quote is_plain within all is_harmless
way m (Spot.edge some) h = record { rest = 97 ∷ []; harmless = refl; good = rw (blank_none m 97 refl) }
way m (Spot.tag k true) h = record { rest = []; harmless = refl; good = refl }
way m (Spot.tag k false) h = tagged (ltb k 8) refl
  where
    tagged : (x : Bool) → ltb k 8 ≡ x → Way m (Spot.tag k false) []
    tagged true e = record { rest = 97 ∷ []; harmless = refl; good = rw (blank_none m 97 refl, e) }
    tagged false e = record { rest = 45 ∷ 97 ∷ []; harmless = refl; good = rw (blank_none m 45 refl, le-leb 1 k (omega (arith, ltb-false k 8 e)), blank_none m 97 refl) }
way m Spot.sigil h = record { rest = 97 ∷ []; harmless = refl; good = rw (blank_none m 97 refl) }
way m Spot.name h = record { rest = []; harmless = refl; good = refl }
way m (Spot.word ok) h = record { rest = 61 ∷ 97 ∷ []; harmless = refl; good = rw (blank_none m 61 refl, blank_none m 97 refl) }
way m Spot.due h = record { rest = 97 ∷ []; harmless = refl; good = rw (blank_none m 97 refl) }
way m Spot.plain h = record { rest = []; harmless = refl; good = refl }
way m (Spot.quoted q x) (Sane.out o) = contra false o refl
way m (Spot.quoted q false) (Sane.quoted h) = record { rest = q ∷ []; harmless = rw (quote_harmless q h); good = rw (quote-turn (is_blank m) q false q, eq-eqb q q refl) }
way m (Spot.quoted q true) (Sane.quoted h) = record { rest = q ∷ q ∷ []; harmless = rw (quote_harmless q h); good = rw (quote-turn (is_blank m) q true q, quote-turn (is_blank m) q false q, eq-eqb q q refl) }
way m Spot.shut h = record { rest = []; harmless = refl; good = refl }

way_on : (m : Mode) (s : List ℕ) {st : Spot} → Sane st → Way m st (take (walk_passes (is_blank m) st s) s)
unfolding walk_passes walk_takes
way_on m [] {st} h = way m st h
way_on m (b ∷ s) {st} h = go (turn_of (is_blank m) st b) refl (λ v g. way_on m s g)
  where
    go : (t : Turn) → turn_of (is_blank m) st b ≡ t → ((v : Spot) → Sane v → Way m v (take (walk_passes (is_blank m) v s) s)) → Way m st (take (onward 0 (λ v. suc (walk_passes (is_blank m) v s)) t) (b ∷ s))
    go Turn.stop e ih = way m st h
    go (Turn.go v) e ih = let w = ih v (goes_sane m b v h e) in record { rest = w.rest; harmless = w.harmless; good = rw e w.good }

harmless_flat : (r : List ℕ) → all is_harmless r ≡ true → no_lf r ≡ true
unfolding no_lf all is_harmless
harmless_flat [] h = refl
harmless_flat (b ∷ r) h =
    let p = both (is_harmless b) (all is_harmless r) h in
    let q = both (not (eqb b 10)) (not (eqb b 125)) (both (ltb b 128) (not (eqb b 10) && not (eqb b 125)) p.0).1 in
    rw q.0 (harmless_flat r p.1)

pub at_a_brace : PrefixGoesOnAtABrace
unfolding payload_place find_close no_lf
at_a_brace m s =
    let n = walk_passes (is_blank m) (Spot.edge false) s in
    let w = way_on m s {st = Spot.edge false} (Sane.out refl) in
    record {
      rest = w.rest;
      harmless = w.harmless;
      reading = walk_reading m (take n s ++ w.rest) w.good;
      closes = λ t f. closes_behind m (take n s ++ w.rest) t {st = Spot.edge false} 0 (Sane.out refl) (all_append (λ b. not (eqb b 10)) (take n s) w.rest f (harmless_flat w.rest w.harmless)) w.good ∙ (rw zero-add);
    }
