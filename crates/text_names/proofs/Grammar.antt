-- The grammar and the computing definition agree: `is_tag` accepts what `Tag` derives, `is_language` what `Language` does, and nothing else.
-- Assumes nothing.
use mathlib.Core.Path.{◌≡◌, refl}
use mathlib.Core.Bool.{Bool, true, false, ◌&&◌, cond}
use mathlib.Core.List.{List, [], ◌∷◌, ◌++◌, append-nil, append_assoc}
use Prim.Native.Nat.{ℕ, suc, ◌+◌}
use native.Mathlib.Numerals.{add-one}
use native.Mathlib.Nat.{add-zero, add-suc, suc-add, zero-add}
use borrow.Author.Tests.{le-leb, leb-true, eqb-true}
use lib.Dec.{eqb, leb}
use lib.ListN.{length, length-append}
use Rattle.base_lists.specs.Lists.{all}
use Rattle.base_lists.proofs.Scan.{both, all_append}
use Rattle.base_bytes.specs.Bytes.{is_alnum, is_letter, is_digit, within}
use Rattle.text_names.specs.Computed.{is_size, tag_from, is_tag, language_by, is_language}
use Rattle.text_names.specs.Grammar.{Subtag, Tag, Language}

-- letters and digits are passed over, and counted
passed : (s t : List ℕ) (k : ℕ) → all is_alnum s ≡ true → tag_from is_alnum (s ++ t) k ≡ tag_from is_alnum t (k + length s)
unfolding tag_from all
passed [] t k e = rw add-zero
passed (a ∷ s) t k e =
    let h = both (is_alnum a) (all is_alnum s) e in
    rw (h.0, passed s t (suc k) h.1, add-suc, suc-add)

sized : {s : List ℕ} → Subtag s → is_size (length s) ≡ true
unfolding is_size within
sized {s} h = rw (le-leb 1 (length s) h.some, le-leb (length s) 8 h.few)

pub complete : {s : List ℕ} → Tag s → is_tag s ≡ true
unfolding is_tag tag_from is_alnum is_letter is_digit within
complete (Tag.one {s = s} h) = rw (← append-nil s, passed s [] 0 h.chars, zero-add) (sized h)
complete (Tag.more {s = s} {t = t} h r) = rw (passed s (45 ∷ t) 0 h.chars, zero-add, sized h) (complete r)

subtag : (p : List ℕ) → all is_alnum p ≡ true → is_size (length p) ≡ true → Subtag p
unfolding is_size within
subtag p e f =
    let h = both (leb 1 (length p)) (leb (length p) 8) f in
    record { chars = e; some = leb-true 1 (length p) h.0; few = leb-true (length p) 8 h.1 }

-- with the letters and digits p read of the present subtag
from : (s p : List ℕ) → all is_alnum p ≡ true → tag_from is_alnum s (length p) ≡ true → Tag (p ++ s)
unfolding tag_from all
from [] p e f = rw append-nil (Tag.one (subtag p e f))
from (a ∷ s) p e f = go (is_alnum a) refl f (from s (p ++ (a ∷ []))) (from s [])
  where
    go : (b : Bool) → is_alnum a ≡ b → cond b (tag_from is_alnum s (suc (length p))) (is_size (length p) && (eqb a 45 && tag_from is_alnum s 0)) ≡ true → (all is_alnum (p ++ (a ∷ [])) ≡ true → tag_from is_alnum s (length (p ++ (a ∷ []))) ≡ true → Tag ((p ++ (a ∷ [])) ++ s)) → (all is_alnum [] ≡ true → tag_from is_alnum s 0 ≡ true → Tag s) → Tag (p ++ a ∷ s)
    go true q g more rest = rw append_assoc at (more (all_append is_alnum p (a ∷ []) e (rw q)) (rw (length-append p (a ∷ []), add-one (length p)) g))
    go false q g more rest =
        let h = both (is_size (length p)) (eqb a 45 && tag_from is_alnum s 0) g in
        let k = both (eqb a 45) (tag_from is_alnum s 0) h.1 in
        rw (eqb-true a 45 k.0) (Tag.more (subtag p e h.0) (rest refl k.1))

pub sound : (s : List ℕ) → is_tag s ≡ true → Tag s
unfolding is_tag all
sound s e = from s [] refl e

pub language_complete : {s : List ℕ} → Language s → is_language s ≡ true
unfolding is_language language_by is_tag
language_complete Language.nothing = refl
language_complete (Language.tag {s = s} h) = go s h
  where
    go : (s : List ℕ) → Tag s → is_language s ≡ true
    go [] h = refl
    go (a ∷ s) h = complete h

pub language_sound : (s : List ℕ) → is_language s ≡ true → Language s
unfolding is_language language_by is_tag
language_sound [] e = Language.nothing
language_sound (a ∷ s) e = Language.tag (sound (a ∷ s) e)
