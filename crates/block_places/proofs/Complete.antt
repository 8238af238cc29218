-- Every payload of the grammar is accepted by the walk.
-- Assumes nothing.
use mathlib.Core.Path.{◌≡◌, refl, ◌∙◌}
use mathlib.Core.Bool.{Bool, true, false, cond, not}
use mathlib.Core.List.{List, [], ◌∷◌, ◌++◌, append_assoc}
use Prim.Native.Nat.{ℕ, suc, ◌+◌, ◌≤◌, ◌<◌}
use native.Mathlib.Omega.{arith}
use native.Mathlib.Nat.{add-zero, add-suc, suc-add}
use borrow.Author.Tests.{ne_eqb, eq-eqb, lt-ltb, le-leb}
use lib.Dec.{eqb}
use lib.ListN.{length}
use Rattle.base_lists.specs.Lists.{all, headed, is_in}
use Rattle.base_lists.proofs.Scan.{both}
use Rattle.base_lists.proofs.More.{contra, apart, not_in}
use Rattle.base_bytes.specs.declared.Mode.{Mode}
use Rattle.base_bytes.specs.Bytes.{is_blank, within, is_letter, is_digit, is_alnum, is_name_start, is_name_part, is_key_start, is_quote, is_plain}
use Rattle.text_names.specs.Names.{is_name, is_key, is_bare_name}
use Rattle.text_names.specs.Grammar.{Tag, Language}
use Rattle.block_grammar.specs.Grammar.{Item, Placed, IsToken, Inside, is_value}
use Rattle.block_grammar.specs.Computed.{ends}
use Rattle.block_grammar.proofs.Bytes.{blanks, not_blank, alnum_part}
use Rattle.block_grammar.proofs.Chain.{Chain}
use Rattle.block_places.specs.Computed.{Spot, Turn, may_end, opening_turn, quoted_turn, solid_turn, blank_turn, turn_of, walk_takes}

-- in a quote blanks are bytes like any other
pub quote-turn : (parts : ℕ → Bool) (q : ℕ) (e : Bool) (b : ℕ) → turn_of parts (Spot.quoted q e) b ≡ quoted_turn q e b
unfolding turn_of
quote-turn parts q e b = go (parts b)
  where
    go : (x : Bool) → cond x (quoted_turn q e b) (quoted_turn q e b) ≡ quoted_turn q e b
    go true = refl
    go false = refl

-- a token may end here: nothing follows, or a byte that parts
abbrev pub parts_here : (ℕ → Bool) → List ℕ → Bool
parts_here parts [] = true
parts_here parts (b ∷ s) = parts b

module _ (parts : ℕ → Bool) (apart_from : (f : ℕ → Bool) (b : ℕ) → all (λ x. not (f x)) blanks ≡ true → f b ≡ true → parts b ≡ false) where
  -- a byte that is no blank
  solid_turn_lem : (f : ℕ → Bool) (st : Spot) (b : ℕ) → all (λ x. not (f x)) blanks ≡ true → f b ≡ true → turn_of parts st b ≡ solid_turn st b
  unfolding turn_of
  solid_turn_lem f st b h e = rw (apart_from f b h e)

  on : (st v : Spot) (b : ℕ) (s : List ℕ) → turn_of parts st b ≡ Turn.go v → walk_takes parts st (b ∷ s) ≡ walk_takes parts v s
  unfolding walk_takes
  on st v b s e = rw e

  -- ---- runs of bytes that leave the spot
  run_on : (f : ℕ → Bool) (st : Spot) → ((b : ℕ) → f b ≡ true → turn_of parts st b ≡ Turn.go st) → (n s : List ℕ) → all f n ≡ true → walk_takes parts st (n ++ s) ≡ walk_takes parts st s
  unfolding all
  run_on f st h [] s e = refl
  run_on f st h (b ∷ n) s e = let g = both (f b) (all f n) e in on st st b (n ++ s) (h b g.0) ∙ run_on f st h n s g.1

  part-turn : (st : Spot) (b : ℕ) → is_name_part b ≡ true → turn_of parts st b ≡ solid_turn st b
  unfolding all is_name_part is_alnum is_letter is_digit within
  part-turn st b e = solid_turn_lem is_name_part st b refl e

  name_turn : (b : ℕ) → is_name_part b ≡ true → turn_of parts Spot.name b ≡ Turn.go Spot.name
  name_turn b e = part-turn Spot.name b e ∙ (rw e)

  word_turn : (ok : Bool) (b : ℕ) → is_name_part b ≡ true → turn_of parts (Spot.word ok) b ≡ Turn.go (Spot.word ok)
  word_turn ok b e = part-turn (Spot.word ok) b e ∙ (rw e)

  plain_any : (st : Spot) (b : ℕ) → is_plain b ≡ true → turn_of parts st b ≡ solid_turn st b
  unfolding all is_plain is_in
  plain_any st b e = solid_turn_lem is_plain st b refl e

  plain_turn : (b : ℕ) → is_plain b ≡ true → turn_of parts Spot.plain b ≡ Turn.go Spot.plain
  plain_turn b e = plain_any Spot.plain b e ∙ (rw e)

  -- ---- where a token may end, and does
  last : (st : Spot) (rest : List ℕ) → may_end st ≡ true → ((b : ℕ) → blank_turn st b ≡ Turn.go (Spot.edge true)) → parts_here parts rest ≡ true → walk_takes parts st rest ≡ walk_takes parts (Spot.edge true) rest
  unfolding walk_takes turn_of may_end
  last st [] e f h = e
  last st (b ∷ r) e f h = rw (h, f b)

  -- ---- tags
  alnum_turn : (k : ℕ) (ok : Bool) (b : ℕ) → is_alnum b ≡ true → k < 8 → turn_of parts (Spot.tag k ok) b ≡ Turn.go (Spot.tag (suc k) true)
  alnum_turn k ok b e l = part-turn (Spot.tag k ok) b (alnum_part b e) ∙ (rw (e, lt-ltb k 8 l))

  subtag_on : (cur : List ℕ) (k : ℕ) (s : List ℕ) → all is_alnum cur ≡ true → k + length cur ≤ 8 → walk_takes parts (Spot.tag k true) (cur ++ s) ≡ walk_takes parts (Spot.tag (k + length cur) true) s
  unfolding all
  subtag_on [] k s h l = rw add-zero
  subtag_on (b ∷ cur) k s h l =
      let g = both (is_alnum b) (all is_alnum cur) h in
      on (Spot.tag k true) (Spot.tag (suc k) true) b (cur ++ s) (alnum_turn k true b g.0 (omega arith)) ∙ (rw (add-suc, ← suc-add k (length cur)) (subtag_on cur (suc k) s g.1 (omega arith)))

  subtag_read : (ok : Bool) (cur s : List ℕ) → all is_alnum cur ≡ true → 1 ≤ length cur → length cur ≤ 8 → walk_takes parts (Spot.tag 0 ok) (cur ++ s) ≡ walk_takes parts (Spot.tag (length cur) true) s
  unfolding all
  subtag_read ok [] s h l g = absurd (omega arith)
  subtag_read ok (b ∷ cur) s h l g =
      let p = both (is_alnum b) (all is_alnum cur) h in
      let z : 1 + length cur ≡ suc (length cur) = omega arith in
      on (Spot.tag 0 ok) (Spot.tag 1 true) b (cur ++ s) (alnum_turn 0 ok b p.0 (omega arith)) ∙ (rw z at (subtag_on cur 1 s p.1 (omega arith)))

  hyphen-turn : (k : ℕ) → 1 ≤ k → turn_of parts (Spot.tag k true) 45 ≡ Turn.go (Spot.tag 0 false)
  unfolding is_name_part is_alnum is_letter is_digit within
  hyphen-turn k l = part-turn (Spot.tag k true) 45 refl ∙ (rw (le-leb 1 k l))

  tag_read : {t : List ℕ} (ok : Bool) (rest : List ℕ) → Tag t → parts_here parts rest ≡ true → walk_takes parts (Spot.tag 0 ok) (t ++ rest) ≡ walk_takes parts (Spot.edge true) rest
  unfolding may_end
  tag_read ok rest (Tag.one {s = s} h) e = subtag_read ok s rest h.chars h.some h.few ∙ last (Spot.tag (length s) true) rest refl (λ b. refl) e
  tag_read ok rest (Tag.more {s = s} {t = t} h r) e =
      rw (append_assoc s (45 ∷ t) rest)
      (subtag_read ok s (45 ∷ (t ++ rest)) h.chars h.some h.few ∙ on (Spot.tag (length s) true) (Spot.tag 0 false) 45 (t ++ rest) (hyphen-turn (length s) h.some) ∙ tag_read false rest r e)

  language_read : {t : List ℕ} (rest : List ℕ) → Language t → parts_here parts rest ≡ true → walk_takes parts (Spot.tag 0 true) (t ++ rest) ≡ walk_takes parts (Spot.edge true) rest
  unfolding may_end
  language_read rest Language.nothing e = last (Spot.tag 0 true) rest refl (λ b. refl) e
  language_read rest (Language.tag h) e = tag_read true rest h e

  -- ---- names
  start-turn : (b : ℕ) → is_name_start b ≡ true → turn_of parts Spot.sigil b ≡ Turn.go Spot.name
  unfolding all is_name_start is_alnum is_letter is_digit within
  start-turn b e = solid_turn_lem is_name_start Spot.sigil b refl e ∙ (rw e)

  name_read : (n rest : List ℕ) → is_name n ≡ true → parts_here parts rest ≡ true → walk_takes parts Spot.sigil (n ++ rest) ≡ walk_takes parts (Spot.edge true) rest
  unfolding is_name headed may_end
  name_read [] rest h e = contra false h refl
  name_read (b ∷ n) rest h e =
      let p = both (is_name_start b) (all is_name_part n) h in
      on Spot.sigil Spot.name b (n ++ rest) (start-turn b p.0) ∙ run_on is_name_part Spot.name name_turn n rest p.1 ∙ last Spot.name rest refl (λ b. refl) e

  begin_turn : (some : Bool) (f : ℕ → Bool) (b : ℕ) → all (λ x. not (f x)) blanks ≡ true → f b ≡ true → turn_of parts (Spot.edge some) b ≡ opening_turn b
  begin_turn some f b h e = solid_turn_lem f (Spot.edge some) b h e

  key_turn : (some : Bool) (b : ℕ) → is_key_start b ≡ true → turn_of parts (Spot.edge some) b ≡ Turn.go (Spot.word (is_letter b))
  unfolding all is_key_start is_letter within is_in
  key_turn some b e = begin_turn some is_key_start b refl e ∙ (rw (apart is_key_start b 58 e refl, apart is_key_start b 35 e refl, apart is_key_start b 46 e refl, e))

  word_read : (some : Bool) (b : ℕ) (k s : List ℕ) → is_key_start b ≡ true → all is_name_part k ≡ true → walk_takes parts (Spot.edge some) (b ∷ (k ++ s)) ≡ walk_takes parts (Spot.word (is_letter b)) s
  word_read some b k s h g = on (Spot.edge some) (Spot.word (is_letter b)) b (k ++ s) (key_turn some b h) ∙ run_on is_name_part (Spot.word (is_letter b)) (word_turn (is_letter b)) k s g

  equals-turn : (ok : Bool) → turn_of parts (Spot.word ok) 61 ≡ Turn.go Spot.due
  unfolding all is_name_part is_alnum is_letter is_digit within
  equals-turn ok = solid_turn_lem (λ x. eqb x 61) (Spot.word ok) 61 refl refl

  key_read : (some : Bool) (k s : List ℕ) → is_key k ≡ true → walk_takes parts (Spot.edge some) (k ++ (61 ∷ s)) ≡ walk_takes parts Spot.due s
  unfolding is_key headed
  key_read some [] s h = contra false h refl
  key_read some (b ∷ k) s h =
      let p = both (is_key_start b) (all is_name_part k) h in
      word_read some b k (61 ∷ s) p.0 p.1 ∙ on (Spot.word (is_letter b)) Spot.due 61 s (equals-turn (is_letter b))

  bare_read : (some : Bool) (n rest : List ℕ) → is_bare_name n ≡ true → parts_here parts rest ≡ true → walk_takes parts (Spot.edge some) (n ++ rest) ≡ walk_takes parts (Spot.edge true) rest
  unfolding is_bare_name headed may_end is_key_start
  bare_read some [] rest h e = contra false h refl
  bare_read some (b ∷ n) rest h e =
      let p = both (is_letter b) (all is_name_part n) h in
      word_read some b n rest (rw p.0) p.1 ∙ (rw p.0 (last (Spot.word true) rest refl (λ b. refl) e))

  -- ---- values
  plain_not_quote : (b : ℕ) → is_plain b ≡ true → is_quote b ≡ false
  unfolding is_quote all is_plain is_in
  plain_not_quote b e = not_in is_plain (34 ∷ 39 ∷ []) b refl e

  plain_read : (v rest : List ℕ) → is_value v ≡ true → parts_here parts rest ≡ true → walk_takes parts Spot.due (v ++ rest) ≡ walk_takes parts (Spot.edge true) rest
  unfolding is_value headed may_end
  plain_read [] rest h e = contra false h refl
  plain_read (b ∷ v) rest h e =
      let p = both (is_plain b) (all is_plain v) h in
      on Spot.due Spot.plain b (v ++ rest) (plain_any Spot.due b p.0 ∙ (rw (plain_not_quote b p.0, p.0))) ∙ run_on is_plain Spot.plain plain_turn v rest p.1 ∙ last Spot.plain rest refl (λ b. refl) e

  inside_read : (q : ℕ) {v : List ℕ} (s : List ℕ) → (92 ≡ q → ⊥) → Inside q v → walk_takes parts (Spot.quoted q false) (v ++ (q ∷ s)) ≡ walk_takes parts Spot.shut s
  inside_read q s n Inside.end = on (Spot.quoted q false) Spot.shut q s (quote-turn parts q false q ∙ (rw (eq-eqb q q refl)))
  inside_read q s n (Inside.byte {b = b} {s = v} h g i) = on (Spot.quoted q false) (Spot.quoted q false) b (v ++ (q ∷ s)) (quote-turn parts q false b ∙ (rw (ne_eqb b q h, ne_eqb b 92 g))) ∙ inside_read q s n i
  inside_read q s n (Inside.pair {b = b} {s = v} i) =
      on (Spot.quoted q false) (Spot.quoted q true) 92 (b ∷ (v ++ (q ∷ s))) (quote-turn parts q false 92 ∙ (rw (ne_eqb 92 q n)))
      ∙ on (Spot.quoted q true) (Spot.quoted q false) b (v ++ (q ∷ s)) (quote-turn parts q true b)
      ∙ inside_read q s n i

  quote-begins : (q : ℕ) → is_quote q ≡ true → turn_of parts Spot.due q ≡ Turn.go (Spot.quoted q false)
  unfolding all is_quote is_in
  quote-begins q h = solid_turn_lem is_quote Spot.due q refl h ∙ (rw h)

  no_backslash : (q : ℕ) → is_quote q ≡ true → 92 ≡ q → ⊥
  unfolding is_quote is_in
  no_backslash q h e = contra false (rw (← e) at h) refl

  quoted_read : (q : ℕ) (v rest : List ℕ) → is_quote q ≡ true → Inside q v → parts_here parts rest ≡ true → walk_takes parts Spot.due ((q ∷ (v ++ (q ∷ []))) ++ rest) ≡ walk_takes parts (Spot.edge true) rest
  unfolding may_end
  quoted_read q v rest h i e =
      rw (append_assoc v (q ∷ []) rest)
      (on Spot.due (Spot.quoted q false) q (v ++ (q ∷ rest)) (quote-begins q h) ∙ inside_read q rest (no_backslash q h) i ∙ last Spot.shut rest refl (λ b. refl) e)

  -- ---- tokens, and then a payload
  byte_turn : (some : Bool) (b : ℕ) (v : Spot) → all (λ x. not (eqb x b)) blanks ≡ true → eqb b b ≡ true → opening_turn b ≡ Turn.go v → turn_of parts (Spot.edge some) b ≡ Turn.go v
  byte_turn some b v h e g = begin_turn some (λ x. eqb x b) b h e ∙ g

  pub token_read : {t : List ℕ} {i : Item} (some : Bool) (rest : List ℕ) → IsToken t i → parts_here parts rest ≡ true → walk_takes parts (Spot.edge some) (t ++ rest) ≡ walk_takes parts (Spot.edge true) rest
  unfolding all is_in
  token_read some rest (IsToken.tag {t = t} h) e = on (Spot.edge some) (Spot.tag 0 true) 58 (t ++ rest) (byte_turn some 58 (Spot.tag 0 true) refl refl refl) ∙ language_read rest h e
  token_read some rest (IsToken.id {n = n} h) e = on (Spot.edge some) Spot.sigil 35 (n ++ rest) (byte_turn some 35 Spot.sigil refl refl refl) ∙ name_read n rest h e
  token_read some rest (IsToken.class {n = n} h) e = on (Spot.edge some) Spot.sigil 46 (n ++ rest) (byte_turn some 46 Spot.sigil refl refl refl) ∙ name_read n rest h e
  token_read some rest (IsToken.plain {k = k} {v = v} h g) e = rw (append_assoc k (61 ∷ v) rest) (key_read some k (v ++ rest) h ∙ plain_read v rest g e)
  token_read some rest (IsToken.quoted {k = k} {q = q} {v = v} h g i) e = rw (append_assoc k (61 ∷ (q ∷ (v ++ (q ∷ [])))) rest) (key_read some k ((q ∷ (v ++ (q ∷ []))) ++ rest) h ∙ quoted_read q v rest g i e)
  token_read some rest (IsToken.bare {n = n} h) e = bare_read some n rest h e

module _ (m : Mode) where
  blank_on : (some : Bool) (b : ℕ) (s : List ℕ) → is_blank m b ≡ true → walk_takes (is_blank m) (Spot.edge some) (b ∷ s) ≡ walk_takes (is_blank m) (Spot.edge some) s
  unfolding walk_takes turn_of
  blank_on some b s h = rw h

  blanks_read : (s : List ℕ) → all (is_blank m) s ≡ true → walk_takes (is_blank m) (Spot.edge true) s ≡ true
  unfolding all walk_takes may_end
  blanks_read [] h = refl
  blanks_read (b ∷ s) h = let g = both (is_blank m b) (all (is_blank m) s) h in blank_on true b s g.0 ∙ blanks_read s g.1

  blanks_end : (s : List ℕ) → all (is_blank m) s ≡ true → ends m s ≡ true
  unfolding all ends
  blanks_end [] h = refl
  blanks_end (b ∷ s) h = (both (is_blank m b) (all (is_blank m) s) h).0

  -- a token, with a blank or the end behind it
  pub read : {t : List ℕ} {i : Item} (some : Bool) (rest : List ℕ) → IsToken t i → ends m rest ≡ true → walk_takes (is_blank m) (Spot.edge some) (t ++ rest) ≡ walk_takes (is_blank m) (Spot.edge true) rest
  unfolding ends
  read some rest t e = token_read (is_blank m) (λ f b. not_blank f m b) some rest t (parts_here_lem rest e)
    where
      parts_here_lem : (rest : List ℕ) → ends m rest ≡ true → parts_here (is_blank m) rest ≡ true
      parts_here_lem [] e = refl
      parts_here_lem (b ∷ s) e = e

  pub complete_from : {at : ℕ} {s : List ℕ} {is : List Placed} (some : Bool) → Chain m at s is → walk_takes (is_blank m) (Spot.edge some) s ≡ true
  unfolding ends
  complete_from some (Chain.blank {b = b} {s = s} h c) = blank_on some b s h ∙ complete_from some c
  complete_from some (Chain.last {t = t} {e = e} t' b) = read some e t' (blanks_end e b.each) ∙ blanks_read e b.each
  complete_from some (Chain.more {s = s} b t h c) = read some (b ∷ s) t h ∙ blank_on true b s h ∙ complete_from true c
