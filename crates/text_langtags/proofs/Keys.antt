-- How a `match` goes: a number that is one of some, and the variants by their numbers.
-- Assumes nothing.
use mathlib.Core.Path.{◌≡◌, refl, sym, ◌∙◌}
use mathlib.Core.Bool.{Bool, true, false, cond, not, ◌||◌}
use mathlib.Core.List.{List, [], ◌∷◌, map}
use mathlib.Core.Logic.{◌⊎◌, inl, inr}
use Prim.Native.Nat.{ℕ, ◌≤◌}
use types.Run.{OneOf}
use denote.Enum.Declared
use lib.Dec.{eqb}
use borrow.Author.Tests.{eqb-true, not-false}
use Rattle.base_lists.specs.Lists.{all, is_in}
use Rattle.base_lists.proofs.More.{contra, among}
use Rattle.base_bytes.specs.Bytes.{within, is_letter, is_digit, is_alnum}
use Rattle.text_langtags.specs.Letters.{small, irregulars}
use Rattle.text_langtags.specs.Computed.{kind_by, is_subtag, next_stage, may_end}
use Rattle.text_langtags.specs.Inner.{word_of, spelled, is_word}
use Rattle.text_langtags.specs.declared.SubtagKind.{SubtagKind as K}
use Rattle.text_langtags.specs.contracts.SubtagKind
use Rattle.text_langtags.specs.declared.SubtagKind.TheVariants as k
use Rattle.text_langtags.specs.declared.Stage.{Stage as S}
use Rattle.text_langtags.specs.contracts.Stage
use Rattle.text_langtags.specs.declared.Stage.TheVariants as at
use Rattle.text_langtags.proofs.Subtags.{long_by}

-- two functions agree at each of some numbers
pub alike : {A : Type 0} (f g : ℕ → A) (ks : List ℕ) (b : ℕ) → OneOf ks b → map f ks ≡ map g ks → f b ≡ g b
alike f g [] b h e = absurd h
alike f g (j ∷ []) b h e = rw h (cc)
alike {A} f g (j ∷ (i ∷ ks)) b h e = go h (alike f g (i ∷ ks) b)
  where
    go : (b ≡ j) ⊎ OneOf (i ∷ ks) b → (OneOf (i ∷ ks) b → map f (i ∷ ks) ≡ map g (i ∷ ks) → f b ≡ g b) → f b ≡ g b
    go (inl q) more = rw q (cc)
    go (inr q) more = more q (cc)

-- a number that is none of some
pub apart : (ks : List ℕ) (b : ℕ) → (OneOf ks b → ⊥) → is_in ks b ≡ false
unfolding is_in
apart [] b h = refl
apart (j ∷ []) b h = go (eqb b j) refl
  where
    go : (t : Bool) → eqb b j ≡ t → (t || false) ≡ false
    go true e = absurd (h (eqb-true b j e))
    go false e = refl
apart (j ∷ (i ∷ ks)) b h = go (eqb b j) refl (apart (i ∷ ks) b (λ q. h (inr q)))
  where
    go : (t : Bool) → eqb b j ≡ t → is_in (i ∷ ks) b ≡ false → (t || is_in (i ∷ ks) b) ≡ false
    go true e more = absurd (h (inl (eqb-true b j e)))
    go false e more = more

-- ---- kinds
abbrev pub kind_at : ℕ → K
kind_at n =
    cond (eqb n 0) k.Other (cond (eqb n 1) k.X (cond (eqb n 2) k.Single (cond (eqb n 3) k.Two (cond (eqb n 4) k.Three
    (cond (eqb n 5) k.Four (cond (eqb n 6) k.Long (cond (eqb n 7) k.Number (cond (eqb n 8) k.Variant k.Plain))))))))

abbrev kind_key : K → ℕ
kind_key c = Declared.tag_of SubtagKind.the_type c

kind_key_lem : (c : K) → kind_at (kind_key c) ≡ c
kind_key_lem k.Other = refl
kind_key_lem k.X = refl
kind_key_lem k.Single = refl
kind_key_lem k.Two = refl
kind_key_lem k.Three = refl
kind_key_lem k.Four = refl
kind_key_lem k.Long = refl
kind_key_lem k.Number = refl
kind_key_lem k.Variant = refl
kind_key_lem k.Plain = refl

-- two functions agree at each of some kinds
pub by_kind : {A : Type 0} (f g : K → A) (ks : List ℕ) (c : K) → OneOf ks (Declared.tag_of SubtagKind.the_type c)
    → map (λ n. f (kind_at n)) ks ≡ map (λ n. g (kind_at n)) ks → f c ≡ g c
by_kind f g ks c h e = rw (kind_key_lem c) at (alike (λ n. f (kind_at n)) (λ n. g (kind_at n)) ks (kind_key c) h e)

-- ---- stages
abbrev pub stage_at : ℕ → S
stage_at n =
    cond (eqb n 0) at.Bad (cond (eqb n 1) at.Start (cond (eqb n 2) (at.Body 0) (cond (eqb n 3) at.Single (cond (eqb n 4) at.Extension
    (cond (eqb n 5) at.Private at.Own)))))

abbrev stage_key : S → ℕ
stage_key st = Declared.tag_of Stage.the_type st

pub kept : (f : S → Bool) → ((n : ℕ) → f (at.Body 0) ≡ f (at.Body n)) → (st : S) → f (stage_at (stage_key st)) ≡ f st
kept f h at.Bad = refl
kept f h at.Start = refl
kept f h (at.Body n) = h n
kept f h at.Single = refl
kept f h at.Extension = refl
kept f h at.Private = refl
kept f h at.Own = refl

pub ends_by : (v : Bool) (ks : List ℕ) (st : S) → OneOf ks (Declared.tag_of Stage.the_type st) → map (λ n. v) ks ≡ map (λ n. may_end (stage_at n)) ks → v ≡ may_end st
ends_by v ks st h e = alike (λ n. v) (λ n. may_end (stage_at n)) ks (stage_key st) h e ∙ kept may_end (λ n. refl) st

none_of : {A : Type 0} (n : ℕ) → is_in (5 ∷ 6 ∷ []) n ≡ false → OneOf (5 ∷ 6 ∷ []) n → A
unfolding is_in
none_of n e h = contra (is_in (5 ∷ 6 ∷ []) n) (sym (alike (λ n. true) (is_in (5 ∷ 6 ∷ [])) (5 ∷ 6 ∷ []) n h refl)) e

pub own_next : (st : S) (c : K) → OneOf (5 ∷ 6 ∷ []) (Declared.tag_of Stage.the_type st) → cond (is_subtag c) at.Own at.Bad ≡ next_stage st c
unfolding is_in
own_next at.Bad c h = none_of 0 refl h
own_next at.Start c h = none_of 1 refl h
own_next (at.Body n) c h = none_of 2 refl h
own_next at.Single c h = none_of 3 refl h
own_next at.Extension c h = none_of 4 refl h
own_next at.Private c h = refl
own_next at.Own c h = refl

-- ---- a subtag's kind, by its size
module _ (n : ℕ) (x d l g a : Bool) where
  pub kind_none : not a ≡ true → k.Other ≡ kind_by n x d l g a
  unfolding kind_by
  kind_none e = rw e

  module _ (e : not a ≡ false) where
    pub kind_1 : n ≡ 1 → cond x k.X k.Single ≡ kind_by n x d l g a
    unfolding kind_by
    kind_1 q = rw (e, q)

    pub kind_2 : n ≡ 2 → cond l k.Two k.Plain ≡ kind_by n x d l g a
    unfolding kind_by
    kind_2 q = rw (e, q)

    pub kind_3 : n ≡ 3 → cond l k.Three (cond g k.Number k.Plain) ≡ kind_by n x d l g a
    unfolding kind_by
    kind_3 q = rw (e, q)

    pub kind_4 : n ≡ 4 → cond l k.Four (cond d k.Variant k.Plain) ≡ kind_by n x d l g a
    unfolding kind_by
    kind_4 q = rw (e, q)

    pub kind_5 : 5 ≤ n → n ≤ 8 → cond l k.Long k.Variant ≡ kind_by n x d l g a
    kind_5 p q = rw (not-false a e) (sym (long_by n x d l g p q))

    pub kind_0 : n ≡ 0 → k.Other ≡ kind_by n x d l g a
    unfolding kind_by within
    kind_0 q = rw (e, q)

-- ---- the numbers of the irregular tags, the least first, as a `match` asks for them
abbrev pub words : List ℕ
words =
    3289922394 ∷ 3289929539 ∷ 3289970780 ∷ 3290000697 ∷ 3290029079 ∷ 3290055456 ∷ 3290055466 ∷ 3290056974 ∷ 23214287527608 ∷ 1950003940840356 ∷ 155780572333015957 ∷ 163796833982234705 ∷ 163799322500260007 ∷ 190299225687434967 ∷ 190299225687435633 ∷ 190299225739000034 ∷ 13758966762955576751 ∷ []

-- each of them is a tag's, and each tag's is one of them
words_are : (all (is_in (map word_of irregulars)) words ≡ true) × (all (is_in words) (map word_of irregulars) ≡ true)
unfolding all is_in word_of spelled irregulars small within is_alnum is_letter is_digit
words_are = (refl, refl)

in_words : (w : ℕ) → OneOf words w → is_in words w ≡ true
unfolding is_in
in_words w h = sym (alike (λ n. true) (is_in words) words w h refl)

pub word_in : (w : ℕ) → OneOf words w → true ≡ is_word w
unfolding is_word
word_in w h = sym (among (is_in (map word_of irregulars)) words w words_are.0 (in_words w h))

pub word_out : (w : ℕ) → (OneOf words w → ⊥) → false ≡ is_word w
unfolding is_word
word_out w h = go (is_in (map word_of irregulars) w) refl
  where
    go : (t : Bool) → is_in (map word_of irregulars) w ≡ t → false ≡ t
    go true e = contra (is_in words w) (among (is_in words) (map word_of irregulars) w words_are.1 e) (apart words w h)
    go false e = refl
