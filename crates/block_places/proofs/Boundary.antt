-- In well-formed text the place is a character boundary.
-- Assumes nothing.
use mathlib.Core.Path.{◌≡◌, refl, sym, ◌∙◌}
use mathlib.Core.Bool.{Bool, true, false, cond, ◌&&◌}
use mathlib.Core.List.{List, [], ◌∷◌}
use Prim.Native.Nat.{ℕ, suc, ◌-◌, ◌≤◌}
use native.Mathlib.Omega.{arith}
use borrow.Author.Tests.{eqb-true, ne_eqb, lt-leb, le-leb, leb-true, leb-false}
use lib.Dec.{eqb, ltb, leb}
use lib.ListN.{length, get_or}
use Rattle.base_lists.specs.Lists.{all, is_in}
use Rattle.base_lists.proofs.Scan.{both}
use Rattle.base_lists.proofs.More.{contra, not_in, among}
use Rattle.base_bytes.specs.declared.Mode.{Mode}
use Rattle.base_bytes.specs.declared.Mode.TheVariants.{Strict, Loose}
use Rattle.base_bytes.specs.Bytes.{is_blank, is_tail, within, is_letter, is_digit, is_alnum, is_name_start, is_name_part, is_key_start, is_quote, is_plain}
use Rattle.text_utf8.specs.Utf8.{is_boundary}
use Rattle.text_utf8.specs.Computed.{Want, Follows, want, lead_of, after_of, go_on_char, octets_from, owes_none, is_utf8}
use Rattle.block_grammar.proofs.Bytes.{alnum_part, start-part, key_part, not_blank}
use Rattle.block_places.specs.Computed.{Spot, Turn, go_if, opening_turn, quoted_turn, solid_turn, blank_turn, turn_of, onward, walk_passes, payload_place}
use Rattle.block_places.proofs.Sound.{goes_if}
use Rattle.block_places.proofs.Search.{Sane, goes_sane}
use Rattle.block_places.proofs.Place.{place_longest}

-- ---- which bytes are ASCII
part_low : (b : ℕ) → is_name_part b ≡ true → b ≤ 127
unfolding is_name_part is_alnum is_letter is_digit within
part_low b e = go (leb b 127) refl
  where
    go : (x : Bool) → leb b 127 ≡ x → b ≤ 127
    go true p = leb-true b 127 p
    go false p =
        let h = leb-false b 127 p in
        contra (is_name_part b) e (rw (le-leb 65 b (omega arith), lt-leb b 90 (omega arith), le-leb 97 b (omega arith), lt-leb b 122 (omega arith), le-leb 48 b (omega arith), lt-leb b 57 (omega arith), ne_eqb b 95 (λ q. absurd (omega arith)), ne_eqb b 45 (λ q. absurd (omega arith))))

listed_low : (l : List ℕ) (b : ℕ) → all (λ x. leb x 127) l ≡ true → is_in l b ≡ true → b ≤ 127
listed_low l b h e = leb-true b 127 (among (λ x. leb x 127) l b h e)

quote_low : (q : ℕ) → is_quote q ≡ true → q ≤ 127
unfolding is_quote all
quote_low q e = listed_low (34 ∷ 39 ∷ []) q refl e

blank_low : (m : Mode) (b : ℕ) → is_blank m b ≡ true → b ≤ 127
unfolding is_blank all
blank_low Strict b e = listed_low (32 ∷ []) b refl e
blank_low Loose b e = listed_low (32 ∷ 13 ∷ 10 ∷ []) b refl e

is_low : (b k : ℕ) → k ≤ 127 → eqb b k ≡ true → b ≤ 127
is_low b k h e = rw (eqb-true b k e) h

-- the spots in which a character beyond ASCII may stand
abbrev wide : Spot → Bool
wide (Spot.edge some) = false
wide (Spot.tag k ok) = false
wide Spot.sigil = false
wide Spot.name = false
wide (Spot.word ok) = false
wide Spot.due = false
wide Spot.plain = true
wide (Spot.quoted q e) = true
wide Spot.shut = false

-- a byte that leads to a spot where none may stand is ASCII
Leads : ℕ → Spot → Type 0
Leads b v = wide v ≡ false → b ≤ 127

if_leads : (f : ℕ → Bool) (b : ℕ) (w v : Spot) → (f b ≡ true → b ≤ 127) → go_if (f b) w ≡ Turn.go v → b ≤ 127
if_leads f b w v h e = h (goes_if (f b) e).0

begin_low : (b : ℕ) (v : Spot) → opening_turn b ≡ Turn.go v → b ≤ 127
unfolding all
begin_low b v e = go (eqb b 58) refl (is_in (35 ∷ 46 ∷ []) b) refl e
  where
    go : (x : Bool) → eqb b 58 ≡ x → (y : Bool) → is_in (35 ∷ 46 ∷ []) b ≡ y → cond x (Turn.go (Spot.tag 0 true)) (cond y (Turn.go Spot.sigil) (go_if (is_key_start b) (Spot.word (is_letter b)))) ≡ Turn.go v → b ≤ 127
    go true p y r f = is_low b 58 (omega arith) p
    go false p true r f = listed_low (35 ∷ 46 ∷ []) b refl r
    go false p false r f = if_leads is_key_start b (Spot.word (is_letter b)) v (λ h. part_low b (key_part b h)) f

solid_leads : {st : Spot} (b : ℕ) (v : Spot) → Sane st → solid_turn st b ≡ Turn.go v → Leads b v
unfolding Leads
solid_leads {st} b v h e n = go st h e
  where
    quote : (q : ℕ) (x : Bool) → is_quote q ≡ true → quoted_turn q x b ≡ Turn.go v → b ≤ 127
    quote q true g f = let z : Spot.quoted q false ≡ v = cc in contra true refl (rw (← z) at n)
    quote q false g f = cases (eqb b q) refl f
      where
        cases : (y : Bool) → eqb b q ≡ y → cond y (Turn.go Spot.shut) (Turn.go (Spot.quoted q (eqb b 92))) ≡ Turn.go v → b ≤ 127
        cases true p f = rw (eqb-true b q p) (quote_low q g)
        cases false p f = let z : Spot.quoted q (eqb b 92) ≡ v = cc in contra true refl (rw (← z) at n)

    go : (st : Spot) → Sane st → solid_turn st b ≡ Turn.go v → b ≤ 127
    go (Spot.edge some) h e = begin_low b v e
    go (Spot.tag k ok) h e = tagged (is_alnum b) refl e
      where
        tagged : (x : Bool) → is_alnum b ≡ x → cond x (go_if (ltb k 8) (Spot.tag (suc k) true)) (go_if (eqb b 45 && leb 1 k) (Spot.tag 0 false)) ≡ Turn.go v → b ≤ 127
        tagged true p f = part_low b (alnum_part b p)
        tagged false p f = is_low b 45 (omega arith) (both (eqb b 45) (leb 1 k) (goes_if (eqb b 45 && leb 1 k) f).0).0
    go Spot.sigil h e = if_leads is_name_start b Spot.name v (λ h. part_low b (start-part b h)) e
    go Spot.name h e = if_leads is_name_part b Spot.name v (part_low b) e
    go (Spot.word ok) h e = worded (is_name_part b) refl e
      where
        worded : (x : Bool) → is_name_part b ≡ x → cond x (Turn.go (Spot.word ok)) (go_if (eqb b 61) Spot.due) ≡ Turn.go v → b ≤ 127
        worded true p f = part_low b p
        worded false p f = is_low b 61 (omega arith) (goes_if (eqb b 61) f).0
    go Spot.due h e = valued (is_quote b) refl e
      where
        valued : (x : Bool) → is_quote b ≡ x → cond x (Turn.go (Spot.quoted b false)) (go_if (is_plain b) Spot.plain) ≡ Turn.go v → b ≤ 127
        valued true p f = quote_low b p
        valued false p f = let z = goes_if (is_plain b) f in contra true refl (rw (← z.1) at n)
    go Spot.plain h e = let z = goes_if (is_plain b) e in contra true refl (rw (← z.1) at n)
    go (Spot.quoted q x) (Sane.out o) e = contra false o refl
    go (Spot.quoted q x) (Sane.quoted g) e = quote q x g e
    go Spot.shut h e = contra true refl (cc)

-- ---- UTF-8 beside the walk
low_lead : (b : ℕ) → b ≤ 127 → lead_of b ≡ want 0 0x80 0xBF
unfolding lead_of
low_lead b h = rw (le-leb b 127 h)

tail_lead : (b : ℕ) → is_tail b ≡ true → lead_of b ≡ Follows.bad
unfolding lead_of is_tail within
tail_lead b e =
    let p = both (leb 0x80 b) (leb b 0xBF) e in
    let l = leb-true 0x80 b p.0 in
    let h = leb-true b 0xBF p.1 in
    rw (lt-leb b 127 (omega arith), le-leb b 0xC1 (omega arith))

-- what is still owed: nothing where the spot takes ASCII alone
record Owes (st : Spot) (w : Want) : Type 0 where
  none : wide st ≡ false → w.owed ≡ 0
  high : 0x80 ≤ w.lo

-- what is wanted behind a byte
after_high : (w v : Want) (b : ℕ) → 0x80 ≤ w.lo → after_of w b ≡ Follows.go v → 0x80 ≤ v.lo
unfolding after_of lead_of
after_high w v b h e = go (eqb w.owed 0) (within w.lo w.hi b) e
  where
    of : (n lo hi : ℕ) → 0x80 ≤ lo → want n lo hi ≡ Follows.go v → 0x80 ≤ v.lo
    of n lo hi l f = let z : record { owed = n; lo = lo; hi = hi } ≡ v = cc in rw (← z) l

    lead : (a b c d e f g h i j : Bool) → cond a (want 0 0x80 0xBF) (cond b Follows.bad (cond c (want 1 0x80 0xBF) (cond d (want 2 0xA0 0xBF) (cond e (want 2 0x80 0xBF) (cond f (want 2 0x80 0x9F) (cond g (want 2 0x80 0xBF) (cond h (want 3 0x90 0xBF) (cond i (want 3 0x80 0xBF) (cond j (want 3 0x80 0x8F) Follows.bad))))))))) ≡ Follows.go v → 0x80 ≤ v.lo
    lead true b c d e f g h i j q = of 0 0x80 0xBF (omega arith) q
    lead false true c d e f g h i j q = contra true refl (cc)
    lead false false true d e f g h i j q = of 1 0x80 0xBF (omega arith) q
    lead false false false true e f g h i j q = of 2 0xA0 0xBF (omega arith) q
    lead false false false false true f g h i j q = of 2 0x80 0xBF (omega arith) q
    lead false false false false false true g h i j q = of 2 0x80 0x9F (omega arith) q
    lead false false false false false false true h i j q = of 2 0x80 0xBF (omega arith) q
    lead false false false false false false false true i j q = of 3 0x90 0xBF (omega arith) q
    lead false false false false false false false false true j q = of 3 0x80 0xBF (omega arith) q
    lead false false false false false false false false false true q = of 3 0x80 0x8F (omega arith) q
    lead false false false false false false false false false false q = contra true refl (cc)

    go : (x y : Bool) → cond x (lead_of b) (cond y (want (w.owed - 1) 0x80 0xBF) Follows.bad) ≡ Follows.go v → 0x80 ≤ v.lo
    go true y f = lead (leb b 0x7F) (leb b 0xC1) (leb b 0xDF) (leb b 0xE0) (leb b 0xEC) (leb b 0xED) (leb b 0xEF) (leb b 0xF0) (leb b 0xF3) (leb b 0xF4) f
    go false true f = of (w.owed - 1) 0x80 0xBF (omega arith) f
    go false false f = contra true refl (cc)

after_low : (w v : Want) (b : ℕ) → 0x80 ≤ w.lo → b ≤ 127 → after_of w b ≡ Follows.go v → v.owed ≡ 0
unfolding after_of within
after_low w v b h l e = go (eqb w.owed 0) e
  where
    of : want 0 0x80 0xBF ≡ Follows.go v → v.owed ≡ 0
    of f = let z : record { owed = 0; lo = 0x80; hi = 0xBF } ≡ v = cc in rw (← z)

    go : (x : Bool) → cond x (lead_of b) (cond (leb w.lo b && leb b w.hi) (want (w.owed - 1) 0x80 0xBF) Follows.bad) ≡ Follows.go v → v.owed ≡ 0
    go true f = of (sym (low_lead b l) ∙ f)
    go false f = let z : Follows.bad ≡ Follows.go v = rw (lt-leb w.lo b (omega arith)) at f in contra true refl (cc)

module _ (m : Mode) where
  leads : {st : Spot} (b : ℕ) (v : Spot) → Sane st → turn_of (is_blank m) st b ≡ Turn.go v → wide v ≡ false → b ≤ 127
  unfolding turn_of Leads
  leads {st} b v h e n = go (is_blank m b) refl e
    where
      go : (x : Bool) → is_blank m b ≡ x → cond x (blank_turn st b) (solid_turn st b) ≡ Turn.go v → b ≤ 127
      go true p f = blank_low m b p
      go false p f = solid_leads b v h f n

  tail_blank : (b : ℕ) → is_tail b ≡ true → is_blank m b ≡ false
  unfolding is_tail within all
  tail_blank b t = not_blank is_tail m b refl t

  plain_goes : (b : ℕ) → is_tail b ≡ true → turn_of (is_blank m) Spot.plain b ≡ Turn.go Spot.plain
  unfolding turn_of is_plain is_tail within all
  plain_goes b t = rw (tail_blank b t, not_in is_tail (125 ∷ 124 ∷ 34 ∷ 39 ∷ 92 ∷ 32 ∷ 9 ∷ 13 ∷ 10 ∷ []) b refl t)

  stops : Turn → Type 0
  stops t = t ≡ Turn.stop

  quote_goes : (q : ℕ) (x : Bool) (b : ℕ) → turn_of (is_blank m) (Spot.quoted q x) b ≡ Turn.stop → ⊥
  unfolding turn_of
  quote_goes q x b e = both_ways (is_blank m b) x e
    where
      inq : (x : Bool) → quoted_turn q x b ≡ Turn.stop → ⊥
      inq true f = contra true refl (cc)
      inq false f = cases (eqb b q) f
        where
          cases : (y : Bool) → cond y (Turn.go Spot.shut) (Turn.go (Spot.quoted q (eqb b 92))) ≡ Turn.stop → ⊥
          cases true f = contra true refl (cc)
          cases false f = contra true refl (cc)

      both_ways : (y x : Bool) → cond y (quoted_turn q x b) (quoted_turn q x b) ≡ Turn.stop → ⊥
      both_ways true x f = inq x f
      both_ways false x f = inq x f

  wide_goes : (st : Spot) (b : ℕ) → wide st ≡ true → is_tail b ≡ true → turn_of (is_blank m) st b ≡ Turn.stop → ⊥
  wide_goes (Spot.edge some) b q t e = contra false q refl
  wide_goes (Spot.tag k ok) b q t e = contra false q refl
  wide_goes Spot.sigil b q t e = contra false q refl
  wide_goes Spot.name b q t e = contra false q refl
  wide_goes (Spot.word ok) b q t e = contra false q refl
  wide_goes Spot.due b q t e = contra false q refl
  wide_goes Spot.plain b q t e = let z = plain_goes b t in contra true refl (cc)
  wide_goes (Spot.quoted k x) b q t e = quote_goes k x b e
  wide_goes Spot.shut b q t e = contra false q refl

  bad_tail : (w : Want) (b : ℕ) → w.owed ≡ 0 → is_tail b ≡ true → after_of w b ≡ Follows.bad
  unfolding after_of
  bad_tail w b z t = rw z (tail_lead b t)

  -- a byte at which the walk stops goes on no character
  stop_solid : (st : Spot) (w : Want) (b : ℕ) → Owes st w → turn_of (is_blank m) st b ≡ Turn.stop → (after_of w b ≡ Follows.bad → ⊥) → is_tail b ≡ false
  stop_solid st w b o e g = go (is_tail b) refl (wide st) refl
    where
      go : (x : Bool) → is_tail b ≡ x → (y : Bool) → wide st ≡ y → x ≡ false
      go true t false q = absurd (g (bad_tail w b (o.none q) t))
      go true t true q = absurd (wide_goes st b q t e)
      go false t y q = refl

  good_next : (n : Follows) (s : List ℕ) → go_on_char n (octets_from s) ≡ true → (v : Want) × (n ≡ Follows.go v) × (octets_from s v ≡ true)
  good_next Follows.bad s e = contra false e refl
  good_next (Follows.go v) s e = (v, refl, e)

  walk_boundary : (s : List ℕ) {st : Spot} (w : Want) → Sane st → Owes st w → octets_from s w ≡ true → is_tail (get_or s (walk_passes (is_blank m) st s) 0) ≡ false
  unfolding walk_passes octets_from is_tail within
  walk_boundary [] w h o u = refl
  walk_boundary (b ∷ s) {st} w h o u = go (turn_of (is_blank m) st b) refl (good_next (after_of w b) s u) (λ v x y z. walk_boundary s x y z)
    where
      go : (t : Turn) → turn_of (is_blank m) st b ≡ t → (v : Want) × (after_of w b ≡ Follows.go v) × (octets_from s v ≡ true) → ((v : Spot) (x : Want) → Sane v → Owes v x → octets_from s x ≡ true → is_tail (get_or s (walk_passes (is_blank m) v s) 0) ≡ false)
          → is_tail (get_or (b ∷ s) (onward 0 (λ v. suc (walk_passes (is_blank m) v s)) t) 0) ≡ false
      go Turn.stop e n ih = stop_solid st w b o e (λ q. clash q n.1)
        where
          clash : after_of w b ≡ Follows.bad → after_of w b ≡ Follows.go n.0 → ⊥
          clash q r = contra true refl (cc)
      go (Turn.go v) e n ih = ih v n.0 (goes_sane m b v h e) (record { none = λ q. after_low w n.0 b o.high (leads b v h e q) n.1; high = after_high w n.0 b o.high n.1 }) n.2

  pub place_boundary : (s : List ℕ) → is_utf8 s ≡ true → is_boundary s (payload_place m s) ≡ true
  unfolding is_utf8 is_boundary payload_place
  place_boundary s u = rw (le-leb (walk_passes (is_blank m) (Spot.edge false) s) (length s) (place_longest m s).within, walk_boundary s {st = Spot.edge false} owes_none (Sane.out refl) (record { none = λ q. refl; high = omega arith }) u)
