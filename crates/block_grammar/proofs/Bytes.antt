-- Blanks fail the tests of tokens, and one class of bytes lies within another.
-- Assumes nothing.
use mathlib.Core.Path.{◌≡◌, refl}
use mathlib.Core.Bool.{Bool, true, false, not, ◌&&◌, ◌||◌}
use mathlib.Core.List.{List, [], ◌∷◌}
use Prim.Native.Nat.{ℕ}
use lib.Dec.{eqb}
use Rattle.base_lists.specs.Lists.{all}
use Rattle.base_lists.proofs.Scan.{both, all_append}
use Rattle.base_lists.proofs.More.{contra, or_left, among_not, all_weaker, headed-all, headed_weaker, stops}
use Rattle.base_bytes.specs.declared.Mode.{Mode}
use Rattle.base_bytes.specs.declared.Mode.TheVariants.{Strict, Loose}
use Rattle.base_bytes.specs.Bytes.{is_blank, within, is_letter, is_digit, is_alnum, is_name_start, is_name_part, is_key_start}
use Rattle.text_names.specs.Names.{is_name, is_key, is_bare_name}
use Rattle.text_names.specs.Grammar.{Tag, Language}
use Rattle.block_grammar.specs.Computed.{ends}

-- ---- a blank fails every test that space, CR and LF fail
abbrev pub blanks : List ℕ
blanks = 32 ∷ 13 ∷ 10 ∷ []

pub blank_not : (f : ℕ → Bool) (m : Mode) (b : ℕ) → all (λ x. not (f x)) blanks ≡ true → is_blank m b ≡ true → f b ≡ false
unfolding is_blank all
blank_not f Strict b h e = among_not f (32 ∷ []) b (rw (both (not (f 32)) (not (f 13) && (not (f 10) && true)) h).0) e
blank_not f Loose b h e = among_not f (32 ∷ 13 ∷ 10 ∷ []) b h e

pub not_blank : (f : ℕ → Bool) (m : Mode) (b : ℕ) → all (λ x. not (f x)) blanks ≡ true → f b ≡ true → is_blank m b ≡ false
not_blank f m b h e = go (is_blank m b) refl
  where
    go : (c : Bool) → is_blank m b ≡ c → c ≡ false
    go true q = contra (f b) e (blank_not f m b h q)
    go false q = refl

-- a token's end stops every run that no blank is part of
pub ends_stop : (f : ℕ → Bool) (m : Mode) (t : List ℕ) → all (λ x. not (f x)) blanks ≡ true → ends m t ≡ true → stops f t ≡ true
unfolding ends
ends_stop f m [] h e = refl
ends_stop f m (b ∷ t) h e = rw (blank_not f m b h e)

pub part-ends : (m : Mode) (t : List ℕ) → ends m t ≡ true → stops is_name_part t ≡ true
unfolding all is_name_part is_alnum is_letter is_digit within
part-ends m t e = ends_stop is_name_part m t refl e

-- ---- one class within another
pub alnum_part : (b : ℕ) → is_alnum b ≡ true → is_name_part b ≡ true
unfolding is_name_part
alnum_part b e = or_left (is_alnum b || eqb b 95) (eqb b 45) (or_left (is_alnum b) (eqb b 95) e)

pub start-part : (b : ℕ) → is_name_start b ≡ true → is_name_part b ≡ true
unfolding is_name_start is_name_part
start-part b e = or_left (is_alnum b || eqb b 95) (eqb b 45) e

pub letter_key : (b : ℕ) → is_letter b ≡ true → is_key_start b ≡ true
unfolding is_key_start
letter_key b e = or_left (is_letter b) (eqb b 95) e

pub key_part : (b : ℕ) → is_key_start b ≡ true → is_name_part b ≡ true
unfolding is_key_start is_name_part is_alnum
key_part b e = go (is_letter b) (is_digit b) (eqb b 95) (eqb b 45) e
  where
    go : (l d u h : Bool) → (l || u) ≡ true → (l || d || u || h) ≡ true
    go true d u h e = refl
    go false true u h e = refl
    go false false true h e = refl
    go false false false h e = contra false e refl

-- ---- names, keys, bare names and tags are made of name bytes
pub name_parts : (n : List ℕ) → is_name n ≡ true → all is_name_part n ≡ true
unfolding is_name
name_parts n h = headed-all is_name_start is_name_part start-part n h

pub key_parts : (k : List ℕ) → is_key k ≡ true → all is_name_part k ≡ true
unfolding is_key
key_parts k h = headed-all is_key_start is_name_part key_part k h

pub bare_key : (n : List ℕ) → is_bare_name n ≡ true → is_key n ≡ true
unfolding is_key is_bare_name
bare_key n h = headed_weaker is_letter is_key_start is_name_part letter_key n h

tag_parts : {s : List ℕ} → Tag s → all is_name_part s ≡ true
unfolding all is_name_part is_alnum is_letter is_digit within
tag_parts (Tag.one {s = s} h) = all_weaker is_alnum is_name_part alnum_part s h.chars
tag_parts (Tag.more {s = s} {t = t} h r) = all_append is_name_part s (45 ∷ t) (all_weaker is_alnum is_name_part alnum_part s h.chars) (tag_parts r)

pub language_parts : {s : List ℕ} → Language s → all is_name_part s ≡ true
unfolding all
language_parts Language.nothing = refl
language_parts (Language.tag h) = tag_parts h
