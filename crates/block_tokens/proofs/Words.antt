-- From the places that the code finds to a token by ranges.
-- Assumes nothing.
use Rattle.std.specs.Prelude.{None}
use mathlib.Core.Path.{◌≡◌, refl, sym, ◌∙◌, ap}
use mathlib.Core.Bool.{Bool, true, false, ◌&&◌, cond}
use mathlib.Core.List.{List, [], ◌∷◌}
use Prim.Native.Nat.{ℕ, suc, ◌+◌, ◌-◌, ◌<◌, ◌≤◌}
use native.Mathlib.Nat.{add-zero, add-suc, suc-add}
use native.Mathlib.Omega.{arith}
use native.Mathlib.Numerals.{add-one}
use lib.Dec.{eqb, ltb, leb}
use lib.ListN.{length, get_or, take, drop, drop_of_length-le, length-drop, length-take}
use lib.Seq.{drop-cons, drop-drop, length-take-le}
use borrow.Author.Tests.{ne_eqb, lt-ltb, le-ltb, leb-true, leb-false, ltb-true, ltb-false}
use Rattle.base_lists.specs.Lists.{headed, run, first_is, is_in}
use Rattle.base_lists.proofs.Runs as runs
use Rattle.base_lists.proofs.Scan.{run_le, run-all, first_none}
use Rattle.base_lists.proofs.More.{contra}
use Rattle.base_bytes.specs.declared.Mode.{Mode}
use Rattle.base_bytes.specs.Bytes.{is_letter, is_alnum, is_name_start, is_name_part, is_key_start, is_quote, is_plain}
use Rattle.base_letters.specs.Classes.{front_run}
use Rattle.base_letters.proofs.Fronts as fronts
use Rattle.text_names.specs.Names.{is_name, is_key, is_bare_name}
use Rattle.text_names.specs.Computed.{language_by, is_language, tag_passes}
use Rattle.text_names.proofs.Told.{whole_language}
use Rattle.block_grammar.specs.Grammar.{Item, is_value}
use Rattle.block_grammar.specs.Computed.{First, Shut, ends, finish, front_token, shut_of, quoted_token, plain_token, value_token, after_name, name_token, token_of}
use Rattle.block_grammar.proofs.Bytes.{start-part, key_part, letter_key}
use Rattle.block_places.specs.Computed.{Spot, Turn, solid_turn, turn_of, walk_passes, token_place}
use Rattle.block_places.proofs.Ways as ways
use Rattle.block_tokens.specs.declared.Token.{Token}
use Rattle.block_tokens.specs.declared.Token.TheVariants.{Bad, Tag, Plain, Quoted, Bare}
use Rattle.block_tokens.specs.Shown.{shown_item, shown, token_at}
use Rattle.block_tokens.specs.Lent.{Tests, tag_by, name_by, after_by, word_by, tag_place_by, name_place_by, value_place, word_place_by}
use Rattle.block_tokens.specs.Inner.{tag_token, id_token, class_token, quoted_from, part, starts_eq, shut_at, spot_place, word_place}
use Rattle.block_tokens.proofs.Quotes.{Closed}

-- the bytes' own tests
abbrev pub bytes : Tests
bytes = record { letter = is_letter; alnum = is_alnum; key = is_key_start; name = is_name_start; part = is_name_part }

shown-finish : (i n : ℕ) (m : Mode) (good : Bool) (it : Item) (rest : List ℕ) → shown i n (finish m good it rest) ≡ cond (good && ends m rest) (shown_item i it) (Bad n)
unfolding finish shown
shown-finish i n m good it rest = go (good && ends m rest)
  where
    go : (x : Bool) → shown i n (cond x (First.token it) First.none) ≡ cond x (shown_item i it) (Bad n)
    go true = refl
    go false = refl

part_length : (a e : ℕ) (s : List ℕ) → a ≤ e → e ≤ length s → a + length (part a e s) ≡ e
part_length a e s h l = omega (arith, length-take (e - a) (drop a s), length-drop a s)

-- a token whose last part is the run from a to e; it goes wrong at w
pub word : (i w : ℕ) (m : Mode) (f : ℕ → Bool) (test : List ℕ → Bool) (item : List ℕ → Item) (s : List ℕ) {a e : ℕ} → e ≡ a + run f (drop a s) → a ≤ length s
    → {good : Bool} → good ≡ test (part a e s) → {t r : Token} → ((n : List ℕ) → a + length n ≡ e → shown_item i (item n) ≡ t) → r ≡ cond (good && ends m (drop e s)) t (Bad w)
    → r ≡ shown i w (front_token m (run f (drop a s)) test item (drop a s))
word i w m f test item s {a} {e} is h good shows q =
    let z : run f (drop a s) ≡ e - a = omega arith in
    let y : a + (e - a) ≡ e = omega (arith, is) in
    let l : e ≤ length s = omega (arith, run_le f (drop a s), length-drop a s) in
    rw (z, shown-finish i w m (test (part a e s)) (item (part a e s)) (drop (e - a) (drop a s)), drop-drop (e - a) a s, y, ← good, shows (part a e s) (part_length a e s (omega arith) l)) q

run-headed : (f g : ℕ → Bool) → ((b : ℕ) → f b ≡ true → g b ≡ true) → (s : List ℕ) → first_is f s ≡ headed f g (take (run g s) s)
unfolding run headed
run-headed f g of [] = refl
run-headed f g of (b ∷ s) = go (f b) (g b) refl refl
  where
    go : (x y : Bool) → f b ≡ x → g b ≡ y → x ≡ headed f g (take (cond y (suc (run g s)) 0) (b ∷ s))
    go true true p q = rw (p, run-all g s)
    go true false p q = contra (g b) (of b p) q
    go false true p q = rw p
    go false false p q = refl

first_not : (f g : ℕ → Bool) → ((b : ℕ) → f b ≡ true → g b ≡ true) → (s : List ℕ) → first_is g s ≡ false → first_is f s ≡ false
first_not f g of [] e = refl
first_not f g of (b ∷ s) e = go (f b) refl
  where
    go : (x : Bool) → f b ≡ x → x ≡ false
    go true p = contra (g b) (of b p) e
    go false p = refl

-- a run from a to e is a name if its first byte begins one: each byte that does is one of the run
module _ (f g : ℕ → Bool) (of : (b : ℕ) → f b ≡ true → g b ≡ true) (s : List ℕ) {e : ℕ} where
  pub headed-run : (a : ℕ) → e ≡ a + run g (drop a s) → {r : Bool} → r ≡ first_is f (drop a s) → r ≡ headed f g (part a e s)
  headed-run a is q = let z : e - a ≡ run g (drop a s) = omega arith in rw z (q ∙ run-headed f g of (drop a s))

  pub headed_word : (i w : ℕ) (m : Mode) (item : List ℕ → Item) {a : ℕ} → e ≡ a + run g (drop a s) → a ≤ length s → {good : Bool} → good ≡ first_is f (drop a s)
      → {t r : Token} → ((n : List ℕ) → a + length n ≡ e → shown_item i (item n) ≡ t) → r ≡ cond (good && ends m (drop e s)) t (Bad w)
      → r ≡ shown i w (front_token m (run g (drop a s)) (headed f g) item (drop a s))
  headed_word i w m item {a} is h good shows q = word i w m g (headed f g) item s is h (headed-run a is good) shows q

-- the same by the end that is found with the first byte asked
module _ (f g : ℕ → Bool) (of : (b : ℕ) → f b ≡ true → g b ≡ true) (s : List ℕ) {a e : ℕ} (is : e ≡ a + front_run f g (drop a s)) (h : a ≤ length s) where
  pub headed_front : (i : ℕ) (m : Mode) (item : List ℕ → Item) (tok : ℕ → Token) → ((n : List ℕ) → shown_item i (item n) ≡ tok (a + length n)) → {r : Token} → r ≡ cond (ltb a e && ends m (drop e s)) (tok e) (Bad e)
      → r ≡ shown i e (front_token m (run g (drop a s)) (headed f g) item (drop a s))
  headed_front i m item tok shows {r} q = go (ltb a e) refl q
    where
      go : (x : Bool) → ltb a e ≡ x → r ≡ cond (x && ends m (drop e s)) (tok e) (Bad e) → r ≡ shown i e (front_token m (run g (drop a s)) (headed f g) item (drop a s))
      go true p q =
          let b = fronts.begun f g of s is (λ z. omega (arith, ltb-true a e p, z)) in
          headed_word f g of s i e m item b.1 h (sym b.0) (λ n k. shows n ∙ ap tok k) q
      go false p q =
          headed_word f g of s i e m item {a = a} refl h {good = false} (sym (fronts.nothing f g of s is (omega (arith, ltb-false a e p, is)))) {t = tok (a + run g (drop a s))} (λ n k. shows n ∙ ap tok k) q

-- behind `#` or `.`, by any tests where a byte that may begin a name may follow in it too; and by the bytes' own
pub sigil_by : (t : Tests) → ((b : ℕ) → t.name b ≡ true → t.part b ≡ true) → (s : List ℕ) {a e : ℕ} → e ≡ a + name_place_by t (drop a s) → a ≤ length s → (i : ℕ) (m : Mode) (item : List ℕ → Item) (tok : ℕ → Token) → ((n : List ℕ) → shown_item i (item n) ≡ tok (a + length n)) → {r : Token} → r ≡ cond (ltb a e && ends m (drop e s)) (tok e) (Bad e)
    → r ≡ shown i (a + name_place_by t (drop a s)) (name_by t m item (drop a s))
sigil_by t of s {a} is h i m item tok shows q = headed_front t.name t.part of s is h i m item tok shows q ∙ ap (λ x. shown i x (name_by t m item (drop a s))) is

pub sigil_front : (s : List ℕ) {a e : ℕ} → e ≡ a + front_run is_name_start is_name_part (drop a s) → a ≤ length s → (i : ℕ) (m : Mode) (item : List ℕ → Item) (tok : ℕ → Token) → ((n : List ℕ) → shown_item i (item n) ≡ tok (a + length n)) → {r : Token} → r ≡ cond (ltb a e && ends m (drop e s)) (tok e) (Bad e)
    → r ≡ shown i (spot_place Spot.sigil a s) (front_token m (run is_name_part (drop a s)) is_name item (drop a s))
unfolding is_name
sigil_front s {a} is h i m item tok shows q = sigil_by bytes start-part s is h i m item tok shows q ∙ ap (λ x. shown i (a + x) (name_by bytes m item (drop a s))) (sym (ways.sigil_way (drop a s)))

-- ---- the value behind `=` at k
run_value : (v : ℕ) (s : List ℕ) → ltb v (v + run is_plain s) ≡ is_value (take (run is_plain s) s)
unfolding run is_value headed
run_value v [] = le-ltb v (v + 0) (omega arith)
run_value v (b ∷ s) = go (is_plain b) refl
  where
    go : (x : Bool) → is_plain b ≡ x → ltb v (v + cond x (suc (run is_plain s)) 0) ≡ headed is_plain is_plain (take (cond x (suc (run is_plain s)) 0) (b ∷ s))
    go true p = rw (p, run-all is_plain s) (lt-ltb v (v + suc (run is_plain s)) (omega arith))
    go false p = le-ltb v (v + 0) (omega arith)

-- a run of plain bytes is a value if it is not empty
pub some_value : (s : List ℕ) (v : ℕ) {e : ℕ} → e ≡ v + run is_plain (drop v s) → ltb v e ≡ is_value (part v e s)
some_value s v {e} is = let z : e - v ≡ run is_plain (drop v s) = omega arith in rw (z, is) (run_value v (drop v s))

pub plain_word : (i : ℕ) (m : Mode) (item : List ℕ → Item) (s : List ℕ) {a e : ℕ} → e ≡ a + run is_plain (drop a s) → a ≤ length s → {t r : Token} → ((n : List ℕ) → a + length n ≡ e → shown_item i (item n) ≡ t) → r ≡ cond (ltb a e && ends m (drop e s)) t (Bad e)
    → r ≡ shown i (a + run is_plain (drop a s)) (front_token m (run is_plain (drop a s)) is_value item (drop a s))
plain_word i m item s {a} is h shows q = rw (← is) (word i _ m is_plain is_value item s is h (some_value s a is) shows q)

module _ (m : Mode) (i k : ℕ) (s : List ℕ) where
  pub value_none : k + 1 ≡ length s → Bad (k + 1) ≡ shown i (spot_place Spot.due (k + 1) s) (value_token m (part i k s) (drop (k + 1) s))
  unfolding value_token shown walk_passes
  value_none e = rw (drop_of_length-le s {i = k + 1} (omega arith), add-zero)

  pub value_quoted : k + 1 < length s → is_quote (get_or s (k + 1) 0) ≡ true → {r : Token} → r ≡ shown i (spot_place (Spot.quoted (get_or s (k + 1) 0) false) (k + 2) s) (quoted_from m (part i k s) (get_or s (k + 1) 0) (drop (k + 2) s)) → r ≡ shown i (spot_place Spot.due (k + 1) s) (value_token m (part i k s) (drop (k + 1) s))
  unfolding value_token
  value_quoted e q h =
      let z : k + 2 ≡ suc (k + 1) = omega arith in
      let y : spot_place Spot.due (k + 1) s ≡ spot_place (Spot.quoted (get_or s (k + 1) 0) false) (k + 2) s = rw (drop-cons s (k + 1) 0 e, ways.due_quote (get_or s (k + 1) 0) (drop (suc (k + 1)) s) q, z, add-suc, suc-add) in
      rw (y, drop-cons s (k + 1) 0 e, q, ← z) h

  pub value_plain : k + 1 < length s → is_quote (get_or s (k + 1) 0) ≡ false → {r : Token} → r ≡ shown i (k + 1 + run is_plain (drop (k + 1) s)) (plain_token m (part i k s) (drop (k + 1) s)) → r ≡ shown i (spot_place Spot.due (k + 1) s) (value_token m (part i k s) (drop (k + 1) s))
  unfolding value_token
  value_plain e q h =
      let y : k + 1 + run is_plain (drop (k + 1) s) ≡ spot_place Spot.due (k + 1) s = ap (λ x. k + 1 + x) (rw (drop-cons s (k + 1) 0 e) (sym (ways.due_plain (get_or s (k + 1) 0) (drop (suc (k + 1)) s) q))) in
      h ∙ (ap (λ x. shown i x (plain_token m (part i k s) (drop (k + 1) s))) y ∙ ap (λ x. shown i (spot_place Spot.due (k + 1) s) x) (rw (drop-cons s (k + 1) 0 e, q)))

  -- a key's bytes end where it ends
  pub key_shown : (v : List ℕ) {e : ℕ} → i ≤ k → k ≤ length s → k + 1 + length v ≡ e → shown_item i (Item.plain (part i k s) v) ≡ Plain i k e
  unfolding shown_item
  key_shown v h l e = rw (part_length i k s h l, e)

  -- ---- in quotes
  pub quoted_none : (q : ℕ) → k + 2 ≤ length s → None ≡ shut_at (k + 2) (shut_of q (drop (k + 2) s) false) → Bad (length s) ≡ shown i (spot_place (Spot.quoted q false) (k + 2) s) (quoted_from m (part i k s) q (drop (k + 2) s))
  unfolding shown
  quoted_none q l e = rw (ways.quote_way q (drop (k + 2) s) false) (go (shut_of q (drop (k + 2) s) false) e)
    where
      go : (c : Shut) → None ≡ shut_at (k + 2) c → Bad (length s) ≡ shown i (k + 2 + ways.shut_place (drop (k + 2) s) c) (quoted_token m (part i k s) q (drop (k + 2) s) c)
      go Shut.never e = ap (λ x. Bad x) (omega (arith, length-drop (k + 2) s))
      go (Shut.after n) e = contra true refl (cc)

  pub quoted_some : (q : ℕ) {e : ℕ} {r : Token} → i ≤ k → k + 2 ≤ length s → Closed q s (k + 2) e → r ≡ cond (ends m (drop (e + 1) s)) (Quoted i k (e + 1)) (Bad (e + 1)) → r ≡ shown i (spot_place (Spot.quoted q false) (k + 2) s) (quoted_from m (part i k s) q (drop (k + 2) s))
  unfolding shown_item
  quoted_some q {e} h l c p =
      let n = c.count in
      let y : k + 2 + suc n ≡ e + 1 = omega (arith, c.place) in
      let z : k + 3 + n ≡ e + 1 = omega (arith, c.place) in
      rw (ways.quote_way q (drop (k + 2) s) false, c.found, shown-finish i (k + 2 + suc n) m true (Item.quoted (part i k s) q (take n (drop (k + 2) s))) (drop (suc n) (drop (k + 2) s)), drop-drop (suc n) (k + 2) s, y, part_length i k s h (omega arith), length-take-le n (drop (k + 2) s) (omega (arith, c.place, c.within, length-drop (k + 2) s)), z) p

-- ---- behind `:`, by any tests: what is whole is passed whole, and what isn't, no further than in the run of name bytes
module _ (t : Tests) (m : Mode) (i : ℕ) (s : List ℕ) {e : ℕ} (is : e ≡ i + 1 + run t.part (drop (i + 1) s)) (h : i + 1 ≤ length s) where
  tag_run : i + 1 + tag_passes t.alnum (part (i + 1) e s) 0 ≡ i + 1 + tag_place_by t (drop (i + 1) s)
  tag_run = let z : e - (i + 1) ≡ run t.part (drop (i + 1) s) = omega arith in rw z

  pub tag_whole_by : language_by t.alnum (part (i + 1) e s) ≡ true → {r : Token} → r ≡ cond (ends m (drop e s)) (Tag (i + 1) e) (Bad e) → r ≡ shown i (i + 1 + tag_place_by t (drop (i + 1) s)) (tag_by t m (drop (i + 1) s))
  unfolding shown_item
  tag_whole_by g q =
      let l = runs.inside t.part s is h in
      let z : e ≡ i + 1 + tag_place_by t (drop (i + 1) s) = sym (part_length (i + 1) e s l.0 l.1) ∙ (ap (λ x. i + 1 + x) (sym (whole_language t.alnum (part (i + 1) e s) g)) ∙ tag_run) in
      rw (← z) (word i e m t.part (language_by t.alnum) (λ n. Item.tag n) s is h {good = true} (sym g) {t = Tag (i + 1) e} (λ n k. rw k) q)

  pub tag_stops_by : language_by t.alnum (part (i + 1) e s) ≡ false → {n : ℕ} → n ≡ tag_passes t.alnum (part (i + 1) e s) 0 → Bad (i + 1 + n) ≡ shown i (i + 1 + tag_place_by t (drop (i + 1) s)) (tag_by t m (drop (i + 1) s))
  unfolding shown_item
  tag_stops_by g {n} q =
      let z : i + 1 + n ≡ i + 1 + tag_place_by t (drop (i + 1) s) = ap (λ x. i + 1 + x) q ∙ tag_run in
      rw (← z) (word i (i + 1 + n) m t.part (language_by t.alnum) (λ n. Item.tag n) s is h {good = false} (sym g) {t = Tag (i + 1) (i + 1 + (e - (i + 1)))} (λ v k. (let x : length v ≡ e - (i + 1) = omega arith in rw x)) refl)

-- .. and by the bytes' own
pub tag_place : (s : List ℕ) → tag_place_by bytes s ≡ ways.along (Spot.tag 0 true) s
tag_place s = ways.tag_front s 0 ∙ sym (ways.tag_way s 0 true)

module _ (m : Mode) (i : ℕ) (s : List ℕ) {e : ℕ} (is : e ≡ i + 1 + run is_name_part (drop (i + 1) s)) (h : i + 1 ≤ length s) where
  as_tag : {r : Token} → r ≡ shown i (i + 1 + tag_place_by bytes (drop (i + 1) s)) (tag_by bytes m (drop (i + 1) s)) → r ≡ shown i (spot_place (Spot.tag 0 true) (i + 1) s) (tag_token m (drop (i + 1) s))
  unfolding is_language
  as_tag q = q ∙ ap (λ x. shown i (i + 1 + x) (tag_token m (drop (i + 1) s))) (tag_place (drop (i + 1) s))

  pub tag_whole : is_language (part (i + 1) e s) ≡ true → {r : Token} → r ≡ cond (ends m (drop e s)) (Tag (i + 1) e) (Bad e) → r ≡ shown i (spot_place (Spot.tag 0 true) (i + 1) s) (tag_token m (drop (i + 1) s))
  unfolding is_language
  tag_whole g q = as_tag (tag_whole_by bytes m i s is h g q)

  pub tag_stops : is_language (part (i + 1) e s) ≡ false → {n : ℕ} → n ≡ tag_passes is_alnum (part (i + 1) e s) 0 → Bad (i + 1 + n) ≡ shown i (spot_place (Spot.tag 0 true) (i + 1) s) (tag_token m (drop (i + 1) s))
  unfolding is_language
  tag_stops g q = as_tag (tag_stops_by bytes m i s is h g q)

-- ---- behind a name
pub starts_within : (s : List ℕ) (i : ℕ) → starts_eq (drop i s) ≡ true → i < length s
starts_within s i e = go (leb (length s) i) refl
  where
    go : (x : Bool) → leb (length s) i ≡ x → i < length s
    go true p = contra (starts_eq (drop i s)) e (sym (first_none (λ b. eqb b 61) s i (leb-true (length s) i p)))
    go false p = leb-false (length s) i p

-- by any tests where a byte that may begin a name may follow in it too
module _ (t : Tests) (of : (b : ℕ) → t.key b ≡ true → t.part b ≡ true) (within : (b : ℕ) → t.letter b ≡ true → t.key b ≡ true) (m : Mode) (i : ℕ) (s : List ℕ) {e : ℕ} (is : e ≡ i + run t.part (drop i s)) where
  rest : drop (run t.part (drop i s)) (drop i s) ≡ drop e s
  rest = rw (drop-drop (run t.part (drop i s)) i s, ← is)

  front : take (run t.part (drop i s)) (drop i s) ≡ part i e s
  front = let z : e - i ≡ run t.part (drop i s) = omega arith in rw z

  is_key_lem : headed t.key t.part (part i e s) ≡ first_is t.key (drop i s)
  is_key_lem = sym (headed-run t.key t.part of s i is refl)

  -- the place, where a key begins
  word_place_lem : first_is t.key (drop i s) ≡ true → i + word_place_by t (drop i s) ≡ e + value_place (drop e s)
  word_place_lem k = rw (k, rest) (omega (arith, is))

  name_bare : (w : ℕ) → starts_eq (drop e s) ≡ false → {r : Token} → r ≡ shown i w (front_token m (run t.part (drop i s)) (headed t.letter t.part) (λ n. Item.bare n) (drop i s)) → r ≡ shown i w (word_by t m (drop i s))
  name_bare w h q = q ∙ ap (λ x. shown i w x) (rw (rest, h))

  pub name_word_by : starts_eq (drop e s) ≡ false → first_is t.key (drop i s) ≡ true → {r : Token} → r ≡ shown i e (front_token m (run t.part (drop i s)) (headed t.letter t.part) (λ n. Item.bare n) (drop i s)) → r ≡ shown i (i + word_place_by t (drop i s)) (word_by t m (drop i s))
  name_word_by h k q =
      let z : i + word_place_by t (drop i s) ≡ e = word_place_lem k ∙ (rw (h, add-zero)) in
      name_bare e h q ∙ ap (λ x. shown i x (word_by t m (drop i s))) (sym z)

  name_bad : starts_eq (drop e s) ≡ true → first_is t.key (drop i s) ≡ false → (w : ℕ) → Bad w ≡ shown i w (word_by t m (drop i s))
  unfolding shown
  name_bad h k w = rw (front, rest, h, is_key_lem, k)

  -- neither a key nor a bare name begins so
  pub name_none_by : first_is t.key (drop i s) ≡ false → i ≤ length s → Bad i ≡ shown i (i + word_place_by t (drop i s)) (word_by t m (drop i s))
  unfolding shown_item
  name_none_by k h = let z : i + word_place_by t (drop i s) ≡ i = rw (k, add-zero) in rw z (go (starts_eq (drop e s)) refl)
    where
      go : (x : Bool) → starts_eq (drop e s) ≡ x → Bad i ≡ shown i i (word_by t m (drop i s))
      go true p = name_bad p k i
      go false p = name_bare i p (headed_word t.letter t.part (λ b h. of b (within b h)) s i i m (λ n. Item.bare n) is h {good = false} (sym (first_not t.letter t.key within (drop i s) k)) {t = Bare i e} (λ n k. rw k) refl)

  pub name_key_by : starts_eq (drop e s) ≡ true → first_is t.key (drop i s) ≡ true → {r : Token} → r ≡ shown i (spot_place Spot.due (e + 1) s) (value_token m (part i e s) (drop (e + 1) s)) → r ≡ shown i (i + word_place_by t (drop i s)) (word_by t m (drop i s))
  name_key_by h k q =
      let z : i + word_place_by t (drop i s) ≡ spot_place Spot.due (e + 1) s = word_place_lem k ∙ (rw (h, drop-drop 1 e s) (omega arith)) in
      rw (z, front, rest, h, is_key_lem, k, drop-drop 1 e s) q

-- .. and by the bytes' own
after_same : (m : Mode) (k s : List ℕ) → after_by bytes m k s ≡ after_name m k s
unfolding after_name is_key is_bare_name
after_same m k [] = refl
after_same m k (b ∷ s) = refl

pub word_same : (m : Mode) (s : List ℕ) → word_by bytes m s ≡ name_token m s
word_same m s = after_same m (take (run is_name_part s) s) (drop (run is_name_part s) s)

value_place_lem : (s : List ℕ) → value_place s ≡ ways.after_word s
value_place_lem [] = refl
value_place_lem (b ∷ s) = refl

pub same_place : (s : List ℕ) → word_place_by bytes s ≡ word_place s
unfolding run
same_place [] = refl
same_place (b ∷ s) = go (is_key_start b) refl
  where
    go : (x : Bool) → is_key_start b ≡ x → word_place_by bytes (b ∷ s) ≡ word_place (b ∷ s)
    go true k = rw (k, key_part b k, ways.word_way s (is_letter b), suc-add, value_place_lem (drop (run is_name_part s) s))
    go false k = rw k

module _ (m : Mode) (i : ℕ) (s : List ℕ) {e : ℕ} (is : e ≡ i + run is_name_part (drop i s)) where
  as_name : {r : Token} → r ≡ shown i (i + word_place_by bytes (drop i s)) (word_by bytes m (drop i s)) → r ≡ shown i (i + word_place (drop i s)) (name_token m (drop i s))
  as_name q = q ∙ (λ k. shown i (i + same_place (drop i s) k) (word_same m (drop i s) k))

  pub name_word : starts_eq (drop e s) ≡ false → first_is is_key_start (drop i s) ≡ true → {r : Token} → r ≡ shown i e (front_token m (run is_name_part (drop i s)) is_bare_name (λ n. Item.bare n) (drop i s)) → r ≡ shown i (i + word_place (drop i s)) (name_token m (drop i s))
  unfolding is_bare_name
  name_word h k q = as_name (name_word_by bytes key_part letter_key m i s is h k q)

  pub name_none : first_is is_key_start (drop i s) ≡ false → i ≤ length s → Bad i ≡ shown i (i + word_place (drop i s)) (name_token m (drop i s))
  name_none k h = as_name (name_none_by bytes key_part letter_key m i s is k h)

  pub name_key : starts_eq (drop e s) ≡ true → first_is is_key_start (drop i s) ≡ true → {r : Token} → r ≡ shown i (spot_place Spot.due (e + 1) s) (value_token m (part i e s) (drop (e + 1) s)) → r ≡ shown i (i + word_place (drop i s)) (name_token m (drop i s))
  name_key h k q = as_name (name_key_by bytes key_part letter_key m i s is h k q)

-- ---- by the first byte
module _ (m : Mode) (s : List ℕ) (i : ℕ) where
  pub past_end : length s ≤ i → Bad i ≡ token_at m s i
  unfolding token_of shown token_place walk_passes
  past_end h = rw (drop_of_length-le s h, add-zero)

  module _ (l : i < length s) where
    -- the place, by where the first byte leads
    led : (v : Spot) → solid_turn (Spot.edge false) (get_or s i 0) ≡ Turn.go v → spot_place v (i + 1) s ≡ i + token_place (drop i s)
    unfolding token_place walk_passes turn_of
    led v e = rw (drop-cons s i 0 l, e, add-one i, add-suc, suc-add)

    pub at_colon : get_or s i 0 ≡ 58 → shown i (spot_place (Spot.tag 0 true) (i + 1) s) (tag_token m (drop (i + 1) s)) ≡ token_at m s i
    unfolding token_of
    at_colon e = rw (led (Spot.tag 0 true) (rw e), drop-cons s i 0 l, e, add-one i)

    pub at_hash : get_or s i 0 ≡ 35 → shown i (spot_place Spot.sigil (i + 1) s) (id_token m (drop (i + 1) s)) ≡ token_at m s i
    unfolding token_of is_in
    at_hash e = rw (led Spot.sigil (rw e), drop-cons s i 0 l, e, add-one i)

    pub at_dot : get_or s i 0 ≡ 46 → shown i (spot_place Spot.sigil (i + 1) s) (class_token m (drop (i + 1) s)) ≡ token_at m s i
    unfolding token_of is_in
    at_dot e = rw (led Spot.sigil (rw e), drop-cons s i 0 l, e, add-one i)

    pub at_other : (get_or s i 0 ≡ 58 → ⊥) → (get_or s i 0 ≡ 35 → ⊥) → (get_or s i 0 ≡ 46 → ⊥) → shown i (i + word_place (drop i s)) (name_token m (drop i s)) ≡ token_at m s i
    unfolding token_of token_place walk_passes turn_of is_in
    at_other p q r = rw (drop-cons s i 0 l, ne_eqb (get_or s i 0) 58 p, ne_eqb (get_or s i 0) 35 q, ne_eqb (get_or s i 0) 46 r)
