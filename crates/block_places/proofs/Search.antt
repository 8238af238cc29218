-- While the walk goes on, the search for the close is in the same quote or outside, in either mode.
-- Assumes nothing.
use Rattle.std.specs.Prelude.{None, Some}
use mathlib.Core.Path.{◌≡◌, refl, ◌∙◌, ap}
use mathlib.Core.Bool.{Bool, true, false, cond, not, ◌&&◌, ◌||◌}
use mathlib.Core.List.{List, [], ◌∷◌}
use Prim.Native.Nat.{ℕ, suc, ◌+◌, ◌-◌, ◌≤◌, ◌<◌}
use native.Mathlib.Omega.{arith}
use native.Mathlib.Nat.{add-zero, add-suc, suc-add}
use borrow.Author.Tests.{eqb-true}
use lib.Dec.{eqb, ltb, leb}
use lib.ListN.{take}
use Rattle.base_lists.specs.Lists.{all, is_in}
use Rattle.base_lists.proofs.More.{contra, not_in, among_not}
use Rattle.base_bytes.specs.declared.Mode.{Mode}
use Rattle.base_bytes.specs.declared.Mode.TheVariants.{Strict, Loose}
use Rattle.base_bytes.specs.Bytes.{is_blank, within, is_letter, is_digit, is_alnum, is_name_start, is_name_part, is_key_start, is_quote, is_plain}
use Rattle.block_grammar.specs.Close.{uncovered, turned, fresh}
use Rattle.block_grammar.specs.ComputedClose.{Scanned, going, scan_step, go_on, close_from}
use Rattle.block_grammar.specs.declared.Scan.{Scan}
use Rattle.block_places.specs.Computed.{Spot, Turn, go_if, opening_turn, quoted_turn, solid_turn, blank_turn, turn_of, onward, walk_takes, walk_passes}
use Rattle.block_places.specs.Inner.{scan_of, is_out}
use Rattle.block_places.proofs.Sound.{goes_if}

-- ---- bytes that don't touch the search
abbrev specials : List ℕ
specials = 34 ∷ 39 ∷ 92 ∷ 125 ∷ []

record Quiet (b : ℕ) (v : Spot) : Type 0 where
  calm : is_in specials b ≡ false
  out : scan_of v ≡ fresh

-- how a spot outside quotes goes on
data Goes (b : ℕ) : Spot → Type 0 where
  opens : is_quote b ≡ true → Goes b (Spot.quoted b false)
  quiet : {v : Spot} → is_in specials b ≡ false → scan_of v ≡ fresh → Goes b v

by_test : (f : ℕ → Bool) (b : ℕ) → all (λ x. not (f x)) specials ≡ true → f b ≡ true → is_in specials b ≡ false
by_test f b h e = not_in f specials b h e

if_goes : (f : ℕ → Bool) (b : ℕ) (w v : Spot) → all (λ x. not (f x)) specials ≡ true → scan_of w ≡ fresh → go_if (f b) w ≡ Turn.go v → Goes b v
if_goes f b w v h o e = let z = goes_if (f b) e in rw (← z.1) (Goes.quiet (by_test f b h z.0) o)

begin_goes : (b : ℕ) (v : Spot) → opening_turn b ≡ Turn.go v → Goes b v
unfolding all is_in is_key_start is_letter within
begin_goes b v e = go (eqb b 58) refl (is_in (35 ∷ 46 ∷ []) b) refl e
  where
    go : (x : Bool) → eqb b 58 ≡ x → (y : Bool) → is_in (35 ∷ 46 ∷ []) b ≡ y → cond x (Turn.go (Spot.tag 0 true)) (cond y (Turn.go Spot.sigil) (go_if (is_key_start b) (Spot.word (is_letter b)))) ≡ Turn.go v → Goes b v
    go true p y r f = let z : Spot.tag 0 true ≡ v = cc in rw (← z) (Goes.quiet (by_test (λ x. eqb x 58) b refl p) refl)
    go false p true r f = let z : Spot.sigil ≡ v = cc in rw (← z) (Goes.quiet (by_test (is_in (35 ∷ 46 ∷ [])) b refl r) refl)
    go false p false r f = if_goes is_key_start b (Spot.word (is_letter b)) v refl refl f

solid_goes : (st : Spot) (b : ℕ) (v : Spot) → is_out st ≡ true → solid_turn st b ≡ Turn.go v → Goes b v
unfolding all is_in is_name_start is_name_part is_alnum is_letter is_digit within is_plain
solid_goes (Spot.edge some) b v o e = begin_goes b v e
solid_goes (Spot.tag k ok) b v o e = go (is_alnum b) refl e
  where
    go : (x : Bool) → is_alnum b ≡ x → cond x (go_if (ltb k 8) (Spot.tag (suc k) true)) (go_if (eqb b 45 && leb 1 k) (Spot.tag 0 false)) ≡ Turn.go v → Goes b v
    go true p f = let z = goes_if (ltb k 8) f in rw (← z.1) (Goes.quiet (by_test is_alnum b refl p) refl)
    go false p f = let z = goes_if (eqb b 45 && leb 1 k) f in rw (← z.1) (Goes.quiet (by_test (λ x. eqb x 45) b refl (first (eqb b 45) (leb 1 k) z.0)) refl)
      where
        first : (x y : Bool) → (x && y) ≡ true → x ≡ true
        first true y h = refl
        first false y h = h
solid_goes Spot.sigil b v o e = if_goes is_name_start b Spot.name v refl refl e
solid_goes Spot.name b v o e = if_goes is_name_part b Spot.name v refl refl e
solid_goes (Spot.word ok) b v o e = go (is_name_part b) refl e
  where
    go : (x : Bool) → is_name_part b ≡ x → cond x (Turn.go (Spot.word ok)) (go_if (eqb b 61) Spot.due) ≡ Turn.go v → Goes b v
    go true p f = let z : Spot.word ok ≡ v = cc in rw (← z) (Goes.quiet (by_test is_name_part b refl p) refl)
    go false p f = if_goes (λ x. eqb x 61) b Spot.due v refl refl f
solid_goes Spot.due b v o e = go (is_quote b) refl e
  where
    go : (x : Bool) → is_quote b ≡ x → cond x (Turn.go (Spot.quoted b false)) (go_if (is_plain b) Spot.plain) ≡ Turn.go v → Goes b v
    go true p f = let z : Spot.quoted b false ≡ v = cc in rw (← z) (Goes.opens p)
    go false p f = if_goes is_plain b Spot.plain v refl refl f
solid_goes Spot.plain b v o e = if_goes is_plain b Spot.plain v refl refl e
solid_goes (Spot.quoted q x) b v o e = contra false o refl
solid_goes Spot.shut b v o e = contra true refl (cc)

blank_calm : (m : Mode) (b : ℕ) → is_blank m b ≡ true → is_in specials b ≡ false
unfolding is_blank all is_in
blank_calm Strict b e = by_test (is_in (32 ∷ [])) b refl e
blank_calm Loose b e = by_test (is_in (32 ∷ 13 ∷ 10 ∷ [])) b refl e

blank_goes : (m : Mode) (st : Spot) (b : ℕ) (v : Spot) → is_out st ≡ true → is_blank m b ≡ true → blank_turn st b ≡ Turn.go v → Goes b v
blank_goes m (Spot.edge some) b v o h e = let z : Spot.edge some ≡ v = cc in rw (← z) (Goes.quiet (blank_calm m b h) refl)
blank_goes m (Spot.tag k ok) b v o h e = let z = goes_if ok e in rw (← z.1) (Goes.quiet (blank_calm m b h) refl)
blank_goes m Spot.sigil b v o h e = contra true refl (cc)
blank_goes m Spot.name b v o h e = let z : Spot.edge true ≡ v = cc in rw (← z) (Goes.quiet (blank_calm m b h) refl)
blank_goes m (Spot.word ok) b v o h e = let z = goes_if ok e in rw (← z.1) (Goes.quiet (blank_calm m b h) refl)
blank_goes m Spot.due b v o h e = contra true refl (cc)
blank_goes m Spot.plain b v o h e = let z : Spot.edge true ≡ v = cc in rw (← z) (Goes.quiet (blank_calm m b h) refl)
blank_goes m (Spot.quoted q x) b v o h e = contra false o refl
blank_goes m Spot.shut b v o h e = let z : Spot.edge true ≡ v = cc in rw (← z) (Goes.quiet (blank_calm m b h) refl)

out_goes : (m : Mode) (st : Spot) (b : ℕ) (v : Spot) → is_out st ≡ true → turn_of (is_blank m) st b ≡ Turn.go v → Goes b v
unfolding turn_of
out_goes m st b v o e = go (is_blank m b) refl e
  where
    go : (x : Bool) → is_blank m b ≡ x → cond x (blank_turn st b) (solid_turn st b) ≡ Turn.go v → Goes b v
    go true h f = blank_goes m st b v o h f
    go false h f = solid_goes st b v o f

-- ---- while the walk goes on, the search goes with it

-- a quote that was opened is a quote
pub data Sane : Spot → Type 0 where
  out : {st : Spot} → is_out st ≡ true → Sane st
  quoted : {q : ℕ} {e : Bool} → is_quote q ≡ true → Sane (Spot.quoted q e)

calm_step : (b : ℕ) → is_in specials b ≡ false → eqb b 10 ≡ false → scan_step fresh b ≡ Scanned.on fresh
unfolding scan_step turned is_quote is_in
calm_step b h n = rw n (go (eqb b 34) (eqb b 39) (eqb b 92) (eqb b 125) h)
  where
    go : (w x y z : Bool) → (w || (x || (y || (z || false)))) ≡ false → cond y (going None true) (cond z Scanned.closed (going (cond (w || (x || false)) (Some b) None) false)) ≡ Scanned.on fresh
    go true x y z h = contra true refl h
    go false true y z h = contra true refl h
    go false false true z h = contra true refl h
    go false false false true h = contra true refl h
    go false false false false h = refl

open_step : (b : ℕ) → is_quote b ≡ true → scan_step fresh b ≡ Scanned.on (uncovered (Some b))
unfolding scan_step turned is_quote all
open_step b h = rw (among_not (λ x. eqb x 10) (34 ∷ 39 ∷ []) b refl h, among_not (λ x. eqb x 92) (34 ∷ 39 ∷ []) b refl h, among_not (λ x. eqb x 125) (34 ∷ 39 ∷ []) b refl h, h)

-- what a turn that goes on does to the search
pub record Same (st : Spot) (b : ℕ) (v : Spot) : Type 0 where
  pub step : scan_step (scan_of st) b ≡ Scanned.on (scan_of v)
  pub sane : Sane v

fresh_sane : (v : Spot) → scan_of v ≡ fresh → Sane v
fresh_sane (Spot.edge some) e = Sane.out refl
fresh_sane (Spot.tag k ok) e = Sane.out refl
fresh_sane Spot.sigil e = Sane.out refl
fresh_sane Spot.name e = Sane.out refl
fresh_sane (Spot.word ok) e = Sane.out refl
fresh_sane Spot.due e = Sane.out refl
fresh_sane Spot.plain e = Sane.out refl
fresh_sane (Spot.quoted q x) e = let z : Some q ≡ None = ap (λ s. s.quote) e in contra true refl (cc)
fresh_sane Spot.shut e = Sane.out refl

pub out_scan : (st : Spot) → is_out st ≡ true → scan_of st ≡ fresh
out_scan (Spot.edge some) o = refl
out_scan (Spot.tag k ok) o = refl
out_scan Spot.sigil o = refl
out_scan Spot.name o = refl
out_scan (Spot.word ok) o = refl
out_scan Spot.due o = refl
out_scan Spot.plain o = refl
out_scan (Spot.quoted q x) o = contra false o refl
out_scan Spot.shut o = refl

quote-same : (q : ℕ) (x : Bool) (b : ℕ) (v : Spot) → is_quote q ≡ true → eqb b 10 ≡ false → quoted_turn q x b ≡ Turn.go v → Same (Spot.quoted q x) b v
unfolding scan_step turned all is_quote
quote-same q true b v h n e = let z : Spot.quoted q false ≡ v = cc in rw (← z) (record { step = rw n; sane = Sane.quoted h })
quote-same q false b v h n e = go (eqb b q) refl (eqb b 92) refl e
  where
    go : (x : Bool) → eqb b q ≡ x → (y : Bool) → eqb b 92 ≡ y → cond x (Turn.go Spot.shut) (Turn.go (Spot.quoted q y)) ≡ Turn.go v → Same (Spot.quoted q false) b v
    go true p true r f = contra (eqb b 92) r (rw (eqb-true b q p) (among_not (λ x. eqb x 92) (34 ∷ 39 ∷ []) q refl h))
    go true p false r f = let z : Spot.shut ≡ v = cc in rw (← z) (record { step = rw (n, r, p); sane = Sane.out refl })
    go false p true r f = let z : Spot.quoted q true ≡ v = cc in rw (← z) (record { step = rw (n, r); sane = Sane.quoted h })
    go false p false r f = let z : Spot.quoted q false ≡ v = cc in rw (← z) (record { step = rw (n, r, p); sane = Sane.quoted h })

module _ (m : Mode) where
  pub same : {st : Spot} (b : ℕ) (v : Spot) → Sane st → eqb b 10 ≡ false → turn_of (is_blank m) st b ≡ Turn.go v → Same st b v
  unfolding turn_of
  same {st} b v (Sane.out o) n e = go (out_goes m st b v o e)
    where
      go : {v : Spot} → Goes b v → Same st b v
      go (Goes.opens h) = record { step = rw (out_scan st o) (open_step b h); sane = Sane.quoted h }
      go (Goes.quiet {v = v} c f) = record { step = rw (out_scan st o, f) (calm_step b c n); sane = fresh_sane v f }
  same b v (Sane.quoted {q = q} {e = x} h) n e = quote-same q x b v h n (both_ways (is_blank m b) e)
    where
      both_ways : (y : Bool) → cond y (quoted_turn q x b) (quoted_turn q x b) ≡ Turn.go v → quoted_turn q x b ≡ Turn.go v
      both_ways true f = f
      both_ways false f = f

  pub goes_sane : {st : Spot} (b : ℕ) (v : Spot) → Sane st → turn_of (is_blank m) st b ≡ Turn.go v → Sane v
  unfolding turn_of
  goes_sane {st} b v (Sane.out o) e = go (out_goes m st b v o e)
    where
      go : {v : Spot} → Goes b v → Sane v
      go (Goes.opens h) = Sane.quoted h
      go (Goes.quiet {v = v} c f) = fresh_sane v f
  goes_sane b v (Sane.quoted {q = q} {e = x} h) e = go (is_blank m b) x e
    where
      inq : (x : Bool) → quoted_turn q x b ≡ Turn.go v → Sane v
      inq true f = let z : Spot.quoted q false ≡ v = cc in rw (← z) (Sane.quoted h)
      inq false f = cases (eqb b q) f
        where
          cases : (y : Bool) → cond y (Turn.go Spot.shut) (Turn.go (Spot.quoted q (eqb b 92))) ≡ Turn.go v → Sane v
          cases true f = let z : Spot.shut ≡ v = cc in rw (← z) (Sane.out refl)
          cases false f = let z : Spot.quoted q (eqb b 92) ≡ v = cc in rw (← z) (Sane.quoted h)

      go : (y x : Bool) → cond y (quoted_turn q x b) (quoted_turn q x b) ≡ Turn.go v → Sane v
      go true x f = inq x f
      go false x f = inq x f

pub closing : (b : ℕ) → eqb b 125 ≡ true → scan_step fresh b ≡ Scanned.closed
unfolding scan_step turned
closing b e = rw (eqb-true b 125 e)
