-- What the walk accepts is a payload of the grammar.
-- Assumes nothing.
use mathlib.Core.Path.{◌≡◌, refl}
use mathlib.Core.Bool.{Bool, true, false, cond, ◌&&◌, ◌||◌}
use mathlib.Core.List.{List, [], ◌∷◌, ◌++◌, append-nil, append_assoc}
use Prim.Native.Nat.{ℕ, suc, ◌+◌, ◌≤◌}
use native.Mathlib.Omega.{arith}
use borrow.Author.Tests.{eqb-true, eqb-false, ltb-true, leb-true}
use lib.Dec.{eqb, leb, ltb}
use lib.ListN.{length, length-append}
use Rattle.base_lists.specs.Lists.{all, headed, is_in}
use Rattle.base_lists.proofs.Scan.{both, all_append}
use Rattle.base_lists.proofs.More.{contra}
use Rattle.base_bytes.specs.declared.Mode.{Mode}
use Rattle.base_bytes.specs.Bytes.{is_blank, is_letter, is_alnum, is_name_start, is_name_part, is_key_start, is_quote, is_plain}
use Rattle.text_names.specs.Names.{is_name, is_key, is_bare_name}
use Rattle.text_names.specs.Grammar.{Tag, Language}
use Rattle.block_grammar.specs.Grammar.{Item, Placed, IsToken, Inside, Blanks, is_value}
use Rattle.block_grammar.proofs.Chain.{Chain, no_blanks, blanks_cons}
use Rattle.block_places.specs.Rules.{HasToken}
use Rattle.block_places.specs.Computed.{Spot, Turn, may_end, go_if, opening_turn, quoted_turn, solid_turn, blank_turn, turn_of, onward, walk_takes, nothing_parts}

-- ---- what the bytes of a token so far are, by the spot
abbrev So : ℕ → Bool → List ℕ → Type 0
So q false v = Inside q v
So q true v = (w : List ℕ) × Inside q w × (v ≡ w ++ (92 ∷ []))

pub data Holds : Spot → List ℕ → Type 0 where
  edge : {some : Bool} → Holds (Spot.edge some) []
  tag : {k : ℕ} {ok : Bool} (pre cur : List ℕ) → ((u : List ℕ) → Tag u → Tag (pre ++ u)) → all is_alnum cur ≡ true → length cur ≡ k → k ≤ 8 → (ok ≡ true → Language (pre ++ cur)) → Holds (Spot.tag k ok) (58 ∷ (pre ++ cur))
  sigil : {b : ℕ} → is_in (35 ∷ 46 ∷ []) b ≡ true → Holds Spot.sigil (b ∷ [])
  name : {b : ℕ} {n : List ℕ} → is_in (35 ∷ 46 ∷ []) b ≡ true → is_name n ≡ true → Holds Spot.name (b ∷ n)
  word : {ok : Bool} {k : List ℕ} → is_key k ≡ true → (ok ≡ true → is_bare_name k ≡ true) → Holds (Spot.word ok) k
  equals : (k : List ℕ) → is_key k ≡ true → Holds Spot.due (k ++ (61 ∷ []))
  plain : (k v : List ℕ) → is_key k ≡ true → is_value v ≡ true → Holds Spot.plain (k ++ (61 ∷ v))
  quoted : (k v : List ℕ) {q : ℕ} {e : Bool} → is_key k ≡ true → is_quote q ≡ true → So q e v → Holds (Spot.quoted q e) (k ++ (61 ∷ (q ∷ v)))
  shut : (k v : List ℕ) (q : ℕ) → is_key k ≡ true → is_quote q ≡ true → Inside q v → Holds Spot.shut (k ++ (61 ∷ (q ∷ (v ++ (q ∷ [])))))

-- ---- one byte more behind
headed_snoc : (f g : ℕ → Bool) (s : List ℕ) (b : ℕ) → headed f g s ≡ true → g b ≡ true → headed f g (s ++ (b ∷ [])) ≡ true
unfolding headed all
headed_snoc f g [] b h e = contra false h refl
headed_snoc f g (a ∷ s) b h e = let p = both (f a) (all g s) h in rw p.0 (all_append g s (b ∷ []) p.1 (rw e))

one_byte : (f g : ℕ → Bool) (b : ℕ) → f b ≡ true → headed f g (b ∷ []) ≡ true
unfolding headed all
one_byte f g b e = rw e

inside_byte : {q : ℕ} {v : List ℕ} (b : ℕ) → Inside q v → (b ≡ q → ⊥) → (b ≡ 92 → ⊥) → Inside q (v ++ (b ∷ []))
inside_byte b Inside.end h g = Inside.byte h g Inside.end
inside_byte b (Inside.byte x y i) h g = Inside.byte x y (inside_byte b i h g)
inside_byte b (Inside.pair i) h g = Inside.pair (inside_byte b i h g)

inside_pair : {q : ℕ} {v : List ℕ} (b : ℕ) → Inside q v → Inside q (v ++ (92 ∷ (b ∷ [])))
inside_pair b Inside.end = Inside.pair Inside.end
inside_pair b (Inside.byte x y i) = Inside.byte x y (inside_pair b i)
inside_pair b (Inside.pair i) = Inside.pair (inside_pair b i)

pub goes_if : (b : Bool) {st v : Spot} → go_if b st ≡ Turn.go v → (b ≡ true) × (st ≡ v)
goes_if true e = (refl, cc)
goes_if false e = contra true refl (cc)

-- a subtag that may end makes a tag of what stands before it
ended : (pre cur : List ℕ) → ((u : List ℕ) → Tag u → Tag (pre ++ u)) → all is_alnum cur ≡ true → 1 ≤ length cur → length cur ≤ 8 → Language (pre ++ cur)
ended pre cur wrap h l g = Language.tag (wrap cur (Tag.one (record { chars = h; some = l; few = g })))

begun : (b : ℕ) (v : Spot) → opening_turn b ≡ Turn.go v → Holds v (b ∷ [])
unfolding all is_key is_bare_name
begun b v e = go (eqb b 58) refl (is_in (35 ∷ 46 ∷ []) b) refl e
  where
    go : (x : Bool) → eqb b 58 ≡ x → (y : Bool) → is_in (35 ∷ 46 ∷ []) b ≡ y → cond x (Turn.go (Spot.tag 0 true)) (cond y (Turn.go Spot.sigil) (go_if (is_key_start b) (Spot.word (is_letter b)))) ≡ Turn.go v → Holds v (b ∷ [])
    go true p y r f = let z : Spot.tag 0 true ≡ v = cc in rw (← z, eqb-true b 58 p) (Holds.tag [] [] (λ u t. t) refl refl (omega arith) (λ h. Language.nothing))
    go false p true r f = let z : Spot.sigil ≡ v = cc in rw (← z) (Holds.sigil r)
    go false p false r f =
        let z = goes_if (is_key_start b) f in
        rw (← z.1) (Holds.word (one_byte is_key_start is_name_part b z.0) (λ l. one_byte is_letter is_name_part b l))

quoted_on : (k : List ℕ) (q : ℕ) (v : List ℕ) (e : Bool) → is_key k ≡ true → is_quote q ≡ true → So q e v → (b : ℕ) (w : Spot) → quoted_turn q e b ≡ Turn.go w → Holds w ((k ++ (61 ∷ (q ∷ v))) ++ (b ∷ []))
quoted_on k q v true h g i b w f =
    let z : Spot.quoted q false ≡ w = cc in
    rw (← z, append_assoc k (61 ∷ (q ∷ v)) (b ∷ []), i.2, append_assoc i.0 (92 ∷ []) (b ∷ [])) (Holds.quoted k (i.0 ++ (92 ∷ (b ∷ []))) {e = false} h g (inside_pair b i.1))
quoted_on k q v false h g i b w f = go (eqb b q) refl (eqb b 92) refl f
  where
    go : (x : Bool) → eqb b q ≡ x → (y : Bool) → eqb b 92 ≡ y → cond x (Turn.go Spot.shut) (Turn.go (Spot.quoted q y)) ≡ Turn.go w → Holds w ((k ++ (61 ∷ (q ∷ v))) ++ (b ∷ []))
    go true p y r f = let z : Spot.shut ≡ w = cc in rw (← z, append_assoc k (61 ∷ (q ∷ v)) (b ∷ []), eqb-true b q p) (Holds.shut k v q h g i)
    go false p true r f = let z : Spot.quoted q true ≡ w = cc in rw (← z, append_assoc k (61 ∷ (q ∷ v)) (b ∷ []), eqb-true b 92 r) (Holds.quoted k (v ++ (92 ∷ [])) {e = true} h g (v, i, refl))
    go false p false r f = let z : Spot.quoted q false ≡ w = cc in rw (← z, append_assoc k (61 ∷ (q ∷ v)) (b ∷ [])) (Holds.quoted k (v ++ (b ∷ [])) {e = false} h g (inside_byte b i (eqb-false b q p) (eqb-false b 92 r)))

-- a byte that is no blank, or that stands in a quote
step : {st : Spot} {p : List ℕ} → Holds st p → (b : ℕ) (v : Spot) → solid_turn st b ≡ Turn.go v → Holds v (p ++ (b ∷ []))
unfolding all is_key is_bare_name is_value is_name
step Holds.edge b v e = begun b v e
step (Holds.tag {k = k} pre cur wrap h l g o) b v e = go (is_alnum b) refl e
  where
    go : (x : Bool) → is_alnum b ≡ x → cond x (go_if (ltb k 8) (Spot.tag (suc k) true)) (go_if (eqb b 45 && leb 1 k) (Spot.tag 0 false)) ≡ Turn.go v → Holds v (58 ∷ ((pre ++ cur) ++ (b ∷ [])))
    go true p f =
        let z = goes_if (ltb k 8) f in
        let n : length (cur ++ (b ∷ [])) ≡ suc k = omega (arith, length-append cur (b ∷ [])) in
        let few : suc k ≤ 8 = omega (arith, ltb-true k 8 z.0) in
        let a : all is_alnum (cur ++ (b ∷ [])) ≡ true = all_append is_alnum cur (b ∷ []) h (rw p) in
        rw (← z.1, append_assoc pre cur (b ∷ [])) (Holds.tag {ok = true} pre (cur ++ (b ∷ [])) wrap a n few (λ x. ended pre (cur ++ (b ∷ [])) wrap a (omega arith) (omega arith)))
    go false p f =
        let z = goes_if (eqb b 45 && leb 1 k) f in
        let y = both (eqb b 45) (leb 1 k) z.0 in
        let more : (u : List ℕ) → Tag u → Tag (((pre ++ cur) ++ (45 ∷ [])) ++ u) = λ u t. rw (append_assoc (pre ++ cur) (45 ∷ []) u, append_assoc pre cur (45 ∷ u)) (wrap (cur ++ (45 ∷ u)) (Tag.more {s = cur} (record { chars = h; some = omega (arith, leb-true 1 k y.1); few = omega arith }) t)) in
        rw (← z.1, eqb-true b 45 y.0, ← append-nil ((pre ++ cur) ++ (45 ∷ []))) (Holds.tag {ok = false} ((pre ++ cur) ++ (45 ∷ [])) [] more refl refl (omega arith) (λ x. contra false x refl))
step (Holds.sigil h) b v e = let z = goes_if (is_name_start b) e in rw (← z.1) (Holds.name h (one_byte is_name_start is_name_part b z.0))
step (Holds.name {n = n} h g) b v e = let z = goes_if (is_name_part b) e in rw (← z.1) (Holds.name h (headed_snoc is_name_start is_name_part n b g z.0))
step (Holds.word {ok = ok} {k = k} h g) b v e = go (is_name_part b) refl e
  where
    go : (x : Bool) → is_name_part b ≡ x → cond x (Turn.go (Spot.word ok)) (go_if (eqb b 61) Spot.due) ≡ Turn.go v → Holds v (k ++ (b ∷ []))
    go true p f = let z : Spot.word ok ≡ v = cc in rw (← z) (Holds.word (headed_snoc is_key_start is_name_part k b h p) (λ l. headed_snoc is_letter is_name_part k b (g l) p))
    go false p f = let z = goes_if (eqb b 61) f in rw (← z.1, eqb-true b 61 z.0) (Holds.equals k h)
step (Holds.equals k h) b v e = go (is_quote b) refl e
  where
    go : (x : Bool) → is_quote b ≡ x → cond x (Turn.go (Spot.quoted b false)) (go_if (is_plain b) Spot.plain) ≡ Turn.go v → Holds v ((k ++ (61 ∷ [])) ++ (b ∷ []))
    go true p f = let z : Spot.quoted b false ≡ v = cc in rw (← z, append_assoc k (61 ∷ []) (b ∷ [])) (Holds.quoted k [] {e = false} h p Inside.end)
    go false p f = let z = goes_if (is_plain b) f in rw (← z.1, append_assoc k (61 ∷ []) (b ∷ [])) (Holds.plain k (b ∷ []) h (one_byte is_plain is_plain b z.0))
step (Holds.plain k w h g) b v e = let z = goes_if (is_plain b) e in rw (← z.1, append_assoc k (61 ∷ w) (b ∷ [])) (Holds.plain k (w ++ (b ∷ [])) h (more z.0))
  where
    more : is_plain b ≡ true → is_value (w ++ (b ∷ [])) ≡ true
    more p = headed_snoc is_plain is_plain w b g p
step (Holds.quoted k w {q = q} {e = e} h g i) b v f = quoted_on k q w e h g i b v f
step (Holds.shut k w q h g i) b v e = contra true refl (cc)

-- ---- where a token may end, it is one
abbrev pub in_token : Spot → Bool
in_token (Spot.edge some) = false
in_token (Spot.tag k ok) = true
in_token Spot.sigil = true
in_token Spot.name = true
in_token (Spot.word ok) = true
in_token Spot.due = true
in_token Spot.plain = true
in_token (Spot.quoted q e) = true
in_token Spot.shut = true

sigils : (b : ℕ) (n : List ℕ) → is_in (35 ∷ 46 ∷ []) b ≡ true → is_name n ≡ true → HasToken (b ∷ n)
unfolding is_in
sigils b n h g = go (eqb b 35) refl (eqb b 46) refl (both_of h)
  where
    both_of : is_in (35 ∷ 46 ∷ []) b ≡ true → cond (eqb b 35) true (eqb b 46) ≡ true
    both_of h = go2 (eqb b 35) (eqb b 46) h
      where
        go2 : (x y : Bool) → (x || (y || false)) ≡ true → cond x true y ≡ true
        go2 true y e = refl
        go2 false true e = refl
        go2 false false e = e

    go : (x : Bool) → eqb b 35 ≡ x → (y : Bool) → eqb b 46 ≡ y → cond x true y ≡ true → HasToken (b ∷ n)
    go true p y r e = rw (eqb-true b 35 p) (record { item = Item.id n; token = IsToken.id g })
    go false p true r e = rw (eqb-true b 46 r) (record { item = Item.class n; token = IsToken.class g })
    go false p false r e = contra false e refl

pub whole : {st : Spot} {p : List ℕ} → Holds st p → in_token st ≡ true → may_end st ≡ true → HasToken p
unfolding may_end
whole Holds.edge t e = contra false t refl
whole (Holds.tag pre cur w h l g o) t e = record { item = Item.tag (pre ++ cur); token = IsToken.tag (o e) }
whole (Holds.sigil h) t e = contra false e refl
whole (Holds.name {b = b} {n = n} h g) t e = sigils b n h g
whole (Holds.word {k = k} h g) t e = record { item = Item.bare k; token = IsToken.bare (g e) }
whole (Holds.equals k h) t e = contra false e refl
whole (Holds.plain k v h g) t e = record { item = Item.plain k v; token = IsToken.plain h g }
whole (Holds.quoted k v h g i) t e = contra false e refl
whole (Holds.shut k v q h g i) t e = record { item = Item.quoted k q v; token = IsToken.quoted h g i }

-- bytes that were begun are in a token
holds_in : {st : Spot} {p : List ℕ} → Holds st p → (p ≡ [] → ⊥) → in_token st ≡ true
holds_in Holds.edge n = absurd (n refl)
holds_in (Holds.tag pre cur w h e g o) n = refl
holds_in (Holds.sigil h) n = refl
holds_in (Holds.name h g) n = refl
holds_in (Holds.word h g) n = refl
holds_in (Holds.equals k h) n = refl
holds_in (Holds.plain k v h g) n = refl
holds_in (Holds.quoted k v h g i) n = refl
holds_in (Holds.shut k v q h g i) n = refl

snoc_some : (p : List ℕ) (b : ℕ) → p ++ (b ∷ []) ≡ [] → ⊥
snoc_some [] b e = contra true refl (cc)
snoc_some (a ∷ p) b e = contra true refl (cc)

-- a byte that is no blank, with where it leads
pub record Stepped (v : Spot) (q : List ℕ) : Type 0 where
  pub holds : Holds v q
  pub within : in_token v ≡ true

pub stepped : {st : Spot} {p : List ℕ} → Holds st p → (b : ℕ) (v : Spot) → solid_turn st b ≡ Turn.go v → Stepped v (p ++ (b ∷ []))
stepped {p = p} h b v e = let g = step h b v e in record { holds = g; within = holds_in g (snoc_some p b) }

-- ======== what is accepted where nothing parts is a token
pub sound_token : (s : List ℕ) {st : Spot} {p : List ℕ} → Holds st p → (may_end st ≡ true → in_token st ≡ true) → walk_takes nothing_parts st s ≡ true → HasToken (p ++ s)
unfolding walk_takes turn_of
sound_token [] {p = p} h n e = rw append-nil (whole h (n e) e)
sound_token (b ∷ s) {st} {p} h n e = go (solid_turn st b) refl e (λ v g f. sound_token s g.holds (λ x. g.within) f)
  where
    go : (t : Turn) → solid_turn st b ≡ t → onward false (λ v. walk_takes nothing_parts v s) t ≡ true → ((v : Spot) → Stepped v (p ++ (b ∷ [])) → walk_takes nothing_parts v s ≡ true → HasToken ((p ++ (b ∷ [])) ++ s)) → HasToken (p ++ (b ∷ s))
    go Turn.stop q f ih = contra false f refl
    go (Turn.go v) q f ih = rw (append_assoc p (b ∷ []) s) at (ih v (stepped h b v q) f)

-- ======== what is accepted is read

-- the rest of a payload: blanks alone, where a token was read before, or tokens
pub data Left (m : Mode) (at : ℕ) : Bool → List ℕ → Type 0 where
  blanks : {s : List ℕ} → Blanks m s → Left m at true s
  full : {some : Bool} {s : List ℕ} {is : List Placed} → Chain m at s is → Left m at some s

abbrev some_of : Spot → Bool
some_of (Spot.edge some) = some
some_of (Spot.tag k ok) = false
some_of Spot.sigil = false
some_of Spot.name = false
some_of (Spot.word ok) = false
some_of Spot.due = false
some_of Spot.plain = false
some_of (Spot.quoted q e) = false
some_of Spot.shut = false

left_blank : {m : Mode} {at : ℕ} {some : Bool} {s : List ℕ} (b : ℕ) → is_blank m b ≡ true → Left m (suc at) some s → Left m at some (b ∷ s)
left_blank b h (Left.blanks e) = Left.blanks (blanks_cons b h e)
left_blank b h (Left.full c) = Left.full (Chain.blank h c)

left_token : {m : Mode} {at : ℕ} {some : Bool} {p s : List ℕ} (b : ℕ) → HasToken p → is_blank m b ≡ true → Left m (suc (at + length p)) true s → Left m at some (p ++ (b ∷ s))
left_token b w h (Left.blanks e) = Left.full (Chain.last w.token (blanks_cons b h e))
left_token b w h (Left.full c) = Left.full (Chain.more b w.token h c)

left_last : {m : Mode} {at : ℕ} {some : Bool} {p : List ℕ} → HasToken p → Left m at some (p ++ [])
left_last {m} w = Left.full (Chain.last w.token (no_blanks m))

-- how a blank is taken: between tokens, in a quote, or behind a token, which it ends where it may end
pub data Taken : Spot → Type 0 where
  between : (some : Bool) → Taken (Spot.edge some)
  within : (q : ℕ) (e : Bool) → Taken (Spot.quoted q e)
  behind : {st : Spot} → in_token st ≡ true → ((b : ℕ) → blank_turn st b ≡ go_if (may_end st) (Spot.edge true)) → Taken st

pub taken : (st : Spot) → Taken st
unfolding may_end
taken (Spot.edge some) = Taken.between some
taken (Spot.tag k ok) = Taken.behind refl (λ b. refl)
taken Spot.sigil = Taken.behind refl (λ b. refl)
taken Spot.name = Taken.behind refl (λ b. refl)
taken (Spot.word ok) = Taken.behind refl (λ b. refl)
taken Spot.due = Taken.behind refl (λ b. refl)
taken Spot.plain = Taken.behind refl (λ b. refl)
taken (Spot.quoted q e) = Taken.within q e
taken Spot.shut = Taken.behind refl (λ b. refl)

edge_empty : {some : Bool} {p : List ℕ} → Holds (Spot.edge some) p → p ≡ []
edge_empty Holds.edge = refl

full_left : {m : Mode} {at : ℕ} {some : Bool} {x : List ℕ} → Left m at false x → Left m at some x
full_left (Left.full c) = Left.full c

-- a token that was begun is whole in what is left
begun_left : {m : Mode} {at : ℕ} {some : Bool} {v : Spot} {p x : List ℕ} → Holds v p → (p ≡ [] → ⊥) → Left m at (some_of v) x → Left m at some x
begun_left Holds.edge n l = absurd (n refl)
begun_left (Holds.tag pre cur w h e g o) n l = full_left l
begun_left (Holds.sigil h) n l = full_left l
begun_left (Holds.name h g) n l = full_left l
begun_left (Holds.word h g) n l = full_left l
begun_left (Holds.equals k h) n l = full_left l
begun_left (Holds.plain k v h g) n l = full_left l
begun_left (Holds.quoted k v h g i) n l = full_left l
begun_left (Holds.shut k v q h g i) n l = full_left l

module _ (m : Mode) where
  -- what is accepted behind a turn
  ahead : (t : Turn) (s : List ℕ) → onward false (λ v. walk_takes (is_blank m) v s) t ≡ true → (v : Spot) × (t ≡ Turn.go v) × (walk_takes (is_blank m) v s ≡ true)
  ahead Turn.stop s e = contra false e refl
  ahead (Turn.go v) s e = (v, refl, e)

  at_end : {st : Spot} {p : List ℕ} (at : ℕ) → Holds st p → may_end st ≡ true → Left m at (some_of st) (p ++ [])
  unfolding may_end
  at_end {st} at h e = go (taken st) h e
    where
      go : {st : Spot} {p : List ℕ} → Taken st → Holds st p → may_end st ≡ true → Left m at (some_of st) (p ++ [])
      go (Taken.between some) h e = rw (edge_empty h, e) (Left.blanks (no_blanks m))
      go (Taken.within q e') h e = contra false e refl
      go (Taken.behind t f) h e = left_last (whole h t e)

  pub sound_from : (s : List ℕ) {st : Spot} {p : List ℕ} (at : ℕ) → Holds st p → walk_takes (is_blank m) st s ≡ true → Left m at (some_of st) (p ++ s)
  unfolding walk_takes turn_of
  sound_from [] at h e = at_end at h e
  sound_from (b ∷ s) {st} {p} at h e = go (is_blank m b) refl (taken st) h e (λ v q at h e. sound_from s at h e)
    where
      go : {st : Spot} {p : List ℕ} (x : Bool) → is_blank m b ≡ x → Taken st → Holds st p → onward false (λ v. walk_takes (is_blank m) v s) (cond x (blank_turn st b) (solid_turn st b)) ≡ true → ((v : Spot) (q : List ℕ) (at : ℕ) → Holds v q → walk_takes (is_blank m) v s ≡ true → Left m at (some_of v) (q ++ s)) → Left m at (some_of st) (p ++ (b ∷ s))
      go {st} {p} false r t h e ih =
          let z = ahead (solid_turn st b) s e in
          let g = step h b z.0 z.1 in
          rw (append_assoc p (b ∷ []) s) at (begun_left {some = some_of st} g (snoc_some p b) (ih z.0 (p ++ (b ∷ [])) at g z.2))
      go {p = p} true r (Taken.within q e') h e ih =
          let z = ahead (quoted_turn q e' b) s e in
          let g = step h b z.0 z.1 in
          rw (append_assoc p (b ∷ []) s) at (begun_left {some = false} g (snoc_some p b) (ih z.0 (p ++ (b ∷ [])) at g z.2))
      go true r (Taken.between some) h e ih = rw (edge_empty h) (left_blank b r (ih (Spot.edge some) [] (suc at) Holds.edge e))
      go {st} {p} true r (Taken.behind t f) h e ih =
          let z = ahead (go_if (may_end st) (Spot.edge true)) s (rw (f b) at e) in
          let y = goes_if (may_end st) z.1 in
          left_token b (whole h t y.0) r (ih (Spot.edge true) [] (suc (at + length p)) Holds.edge (rw (← y.1) at z.2))
