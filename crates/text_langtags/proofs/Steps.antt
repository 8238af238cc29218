-- The walk a byte at a time gives the answer of the definition; and what loops over a slice and over a raw text ask of it.
-- Assumes nothing.
use mathlib.Core.Path.{◌≡◌, refl, sym, ◌∙◌, ap}
use mathlib.Core.Bool.{Bool, true, false, cond, not, ◌&&◌}
use mathlib.Core.List.{List, [], ◌∷◌, ◌++◌, foldl}
use Prim.Native.Nat.{ℕ, ◌+◌, ◌<◌, ◌≤◌, zero-le}
use native.Mathlib.Omega.{arith}
use native.Mathlib.Numerals.{add-one}
use lib.Dec.{eqb, leb}
use lib.ListN.{length, get_or, drop, length-append, drop_of_length-le}
use lib.Seq.{drop-cons}
use borrow.Author.Tests.{ne_eqb, leb-true, leb-false, le-leb, lt-leb}
use Rattle.base_lists.specs.Lists.{all, first_is}
use Rattle.base_lists.proofs.Scan.{all_snoc}
use Rattle.base_bytes.specs.Bytes.{within, is_letter, is_digit, is_alnum}
use Rattle.text_escapes.specs.Unescape.{unescape}
use Rattle.text_langtags.specs.Letters.{is_x}
use Rattle.text_langtags.specs.Computed.{kind_by, subtag_kind, next_stage, stage_from, is_unlisted, is_well_formed, is_allowed}
use Rattle.text_langtags.specs.Inner.{no_byte_yet, longer, subtag_with, shape_kind, spelled, word_of, tag_start, behind, stepped, well_formed_so_far, allowed_so_far, walked}
use Rattle.text_langtags.specs.declared.SubtagKind.TheVariants as k
use Rattle.text_langtags.specs.declared.Shape.{Shape}
use Rattle.text_langtags.specs.declared.TagWalk.{TagWalk}
use Rattle.text_langtags.proofs.Words.{word_listed, word_some}

-- 9 stands for every size above 8
abbrev capped : ℕ → ℕ
capped n = cond (leb 9 n) 9 n

-- the shape h is that of the bytes t
record Shows (t : List ℕ) (h : Shape) : Type 0 where
  size : h.size ≡ capped (length t)
  x : h.x ≡ first_is is_x t
  digit : h.digit ≡ first_is is_digit t
  letters : h.letters ≡ all is_letter t
  digits : h.digits ≡ all is_digit t
  alnum : h.alnum ≡ all is_alnum t

shows_fresh : Shows [] no_byte_yet
unfolding all
shows_fresh = record { size = refl; x = refl; digit = refl; letters = refl; digits = refl; alnum = refl }

capped-longer : (n : ℕ) → longer (capped n) ≡ capped (n + 1)
capped-longer n = go (leb 9 n) refl
  where
    go : (c : Bool) → leb 9 n ≡ c → longer (cond c 9 n) ≡ capped (n + 1)
    go true e = rw (le-leb 9 (n + 1) (omega (arith, leb-true 9 n e)))
    go false e = rw e (last (leb 9 (n + 1)) refl)
      where
        last : (d : Bool) → leb 9 (n + 1) ≡ d → n + 1 ≡ cond d 9 (n + 1)
        last true q = omega (arith, leb-true 9 (n + 1) q, leb-false 9 n e)
        last false q = refl

all_more : (f : ℕ → Bool) (t : List ℕ) (b : ℕ) → (all f t && f b) ≡ all f (t ++ (b ∷ []))
all_more f t b = sym (all_snoc f t b (f b) refl ∙ go (f b) (all f t))
  where
    go : (c d : Bool) → cond c d false ≡ (d && c)
    go true true = refl
    go true false = refl
    go false true = refl
    go false false = refl

first_more : (f : ℕ → Bool) (t : List ℕ) (b : ℕ) → cond (eqb (capped (length t)) 0) (f b) (first_is f t) ≡ first_is f (t ++ (b ∷ []))
first_more f [] b = refl
first_more f (a ∷ t) b = go (leb 9 (length (a ∷ t)))
  where
    go : (c : Bool) → cond (eqb (cond c 9 (length (a ∷ t))) 0) (f b) (f a) ≡ f a
    go true = refl
    go false = rw (ne_eqb (length (a ∷ t)) 0 (λ e. omega arith))

shows_grown : (t : List ℕ) (h : Shape) (b : ℕ) → Shows t h → Shows (t ++ (b ∷ [])) (subtag_with h b)
unfolding subtag_with
shows_grown t h b s =
    record {
      size = rw (s.size, length-append t (b ∷ [])) (capped-longer (length t));
      x = rw (s.size, s.x) (first_more is_x t b);
      digit = rw (s.size, s.digit) (first_more is_digit t b);
      letters = rw s.letters (all_more is_letter t b);
      digits = rw s.digits (all_more is_digit t b);
      alnum = rw s.alnum (all_more is_alnum t b);
    }

pub too_long_lem : (n : ℕ) (x d l g a : Bool) → 9 ≤ n → kind_by n x d l g a ≡ k.Other
unfolding kind_by within
too_long_lem n x d l g a h =
    rw (ne_eqb n 1 (λ e. omega arith), ne_eqb n 2 (λ e. omega arith), ne_eqb n 3 (λ e. omega arith), ne_eqb n 4 (λ e. omega arith), le-leb 5 n (omega arith), lt-leb n 8 (omega arith)) (go a)
  where
    go : (a : Bool) → cond (not a) k.Other k.Other ≡ k.Other
    go true = refl
    go false = refl

kind_capped : (n : ℕ) (x d l g a : Bool) → kind_by (capped n) x d l g a ≡ kind_by n x d l g a
kind_capped n x d l g a = go (leb 9 n) refl
  where
    go : (c : Bool) → leb 9 n ≡ c → kind_by (cond c 9 n) x d l g a ≡ kind_by n x d l g a
    go true e = too_long_lem 9 x d l g a (omega arith) ∙ sym (too_long_lem n x d l g a (leb-true 9 n e))
    go false e = refl

kind_shows : (t : List ℕ) (h : Shape) → Shows t h → shape_kind h ≡ subtag_kind t
unfolding subtag_kind
kind_shows t h s = rw (s.size, s.x, s.digit, s.letters, s.digits, s.alnum) (kind_capped (length t) (first_is is_x t) (first_is is_digit t) (all is_letter t) (all is_digit t) (all is_alnum t))

behind_walk : (s t : List ℕ) (w : TagWalk) → Shows t w.shape → behind (walked w s) ≡ stage_from w.stage t s
unfolding walked stage_from stepped
behind_walk [] t w h = rw (kind_shows t w.shape h)
behind_walk (b ∷ s) t w h = go (eqb b 45) refl (behind_walk s [] (stepped w b)) (behind_walk s (t ++ (b ∷ [])) (stepped w b))
  where
    go : (c : Bool) → eqb b 45 ≡ c
        → (Shows [] (stepped w b).shape → behind (walked (stepped w b) s) ≡ stage_from (stepped w b).stage [] s)
        → (Shows (t ++ (b ∷ [])) (stepped w b).shape → behind (walked (stepped w b) s) ≡ stage_from (stepped w b).stage (t ++ (b ∷ [])) s)
        → behind (walked (stepped w b) s) ≡ cond c (stage_from (next_stage w.stage (subtag_kind t)) [] s) (stage_from w.stage (t ++ (b ∷ [])) s)
    go true e new more = new (rw e shows_fresh) ∙ rw (e, kind_shows t w.shape h)
    go false e new more = more (rw e (shows_grown t w.shape b h)) ∙ rw e

word_walk : (s : List ℕ) (w : TagWalk) → (walked w s).word ≡ foldl spelled w.word s
unfolding walked stepped
word_walk [] w = refl
word_walk (b ∷ s) w = word_walk s (stepped w b)

-- the bytes that were stepped over are well-formed where the walk says so
pub walk_is : (s : List ℕ) → well_formed_so_far (walked tag_start s) ≡ is_well_formed s
unfolding well_formed_so_far is_well_formed is_unlisted word_of
walk_is s = rw (behind_walk s [] tag_start shows_fresh, word_walk s tag_start, word_listed s)

pub allowed_is : (s : List ℕ) → allowed_so_far (walked tag_start s) ≡ is_allowed s
unfolding allowed_so_far is_allowed walked
allowed_is [] = refl
allowed_is (b ∷ s) = rw (ne_eqb (walked tag_start (b ∷ s)).word 0 (λ e. word_some b s (sym (word_walk (b ∷ s) tag_start) ∙ e))) (walk_is (b ∷ s))

-- a byte at a time
pub walked_none : (w : TagWalk) → walked w [] ≡ w
unfolding walked
walked_none w = refl

pub walked_more : (w : TagWalk) (b : ℕ) (s : List ℕ) → walked w (b ∷ s) ≡ walked (stepped w b) s
unfolding walked
walked_more w b s = refl

-- ---- a loop over a slice, before byte i
pub record Steps (s : List ℕ) (i : ℕ) (w : TagWalk) : Type 0 where
  pub within : i ≤ length s
  pub rest : walked w (drop i s) ≡ walked tag_start s

pub steps_start : (s : List ℕ) → Steps s 0 tag_start
steps_start s = record { within = zero-le; rest = refl }

module _ {s : List ℕ} {i : ℕ} {w : TagWalk} (inv : Steps s i w) where
  pub steps_go : i < length s → Steps s (i + 1) (stepped w (get_or s i 0))
  unfolding walked
  steps_go h = record { within = omega arith; rest = rw add-one (rw (drop-cons s i 0 h) at inv.rest) }

  pub steps_end : length s ≤ i → well_formed_so_far w ≡ is_well_formed s
  unfolding walked
  steps_end h = ap well_formed_so_far (rw (drop_of_length-le s {i = i} h) at inv.rest) ∙ walk_is s

-- ---- nothing, or a well-formed tag
pub allowed_none : (s : List ℕ) → length s ≡ 0 → true ≡ is_allowed s
unfolding is_allowed
allowed_none [] h = refl
allowed_none (b ∷ s) h = absurd (omega arith)

pub allowed_some : (s : List ℕ) → (length s ≡ 0 → ⊥) → is_well_formed s ≡ is_allowed s
unfolding is_allowed
allowed_some [] h = absurd (h refl)
allowed_some (b ∷ s) h = refl

-- ---- a loop over what a raw text stands for, before what stands at i
pub record Pieces (s : List ℕ) (i : ℕ) (w : TagWalk) : Type 0 where
  pub within : i ≤ length s
  pub rest : walked w (unescape (drop i s)) ≡ walked tag_start (unescape s)

pub pieces_start : (s : List ℕ) → Pieces s 0 tag_start
pieces_start s = record { within = zero-le; rest = refl }

module _ {s : List ℕ} {i : ℕ} {w : TagWalk} (inv : Pieces s i w) where
  pub pieces_go : {b next : ℕ} → next ≤ length s → unescape (drop i s) ≡ b ∷ unescape (drop next s) → Pieces s next (stepped w b)
  pieces_go h e = record { within = h; rest = rw (e, walked_more) at inv.rest }

  pub pieces_end : unescape (drop i s) ≡ [] → allowed_so_far w ≡ is_allowed (unescape s)
  pieces_end e = ap allowed_so_far (rw (e, walked_none) at inv.rest) ∙ allowed_is (unescape s)
