-- What the computing definition reads is derived by the grammar.
-- Assumes nothing.
use mathlib.Core.Path.{◌≡◌, refl}
use mathlib.Core.Bool.{Bool, true, false, cond, ◌||◌}
use mathlib.Core.List.{List, [], ◌∷◌, ◌++◌, append_assoc}
use Prim.Native.Nat.{ℕ, zero, suc, ◌-◌}
use native.Mathlib.Omega.{arith}
use lib.Dec.{eqb, leb}
use borrow.Author.Tests.{eqb-true, le-leb}
use Rattle.base_lists.proofs.More.{contra}
use Rattle.base_bytes.specs.Bytes.{is_letter, is_alnum}
use Rattle.text_langtags.specs.Letters.{smalls, is_listed, irregulars}
use Rattle.text_langtags.specs.Grammar.{Of, Opt, Many, Some, UpTo, Extlang, LanguagePart, Script, Region, Variant, Singleton, Extension, Privateuse, Langtag, Grandfathered, LanguageTag, Allowed}
use Rattle.text_langtags.specs.Computed.{subtag_kind, is_part, is_subtag, opened, began, continued, next_stage, may_end, stage_from, is_unlisted, is_well_formed, is_allowed}
use Rattle.text_langtags.specs.declared.SubtagKind.{SubtagKind}
use Rattle.text_langtags.specs.declared.SubtagKind.TheVariants as k
use Rattle.text_langtags.specs.declared.Stage.{Stage}
use Rattle.text_langtags.specs.declared.Stage.TheVariants as at
use Rattle.text_langtags.proofs.Subtags.{Xed, Fits, fits, part_of, subtag_of}

-- one behind the other
pub data Then (P Q : List ℕ → Type 0) : List ℕ → Type 0 where
  pair : {s t : List ℕ} → P s → Q t → Then P Q (s ++ t)

-- langtag or private use, behind a hyphen
pub data Read : List ℕ → Type 0 where
  langtag : {s : List ℕ} → Langtag s → Read (45 ∷ s)
  private : {s : List ℕ} → Privateuse s → Read (45 ∷ s)

abbrev pub Ends : List ℕ → Type 0
Ends = Then (Many Extension) (Opt Privateuse)

abbrev pub Variants : List ℕ → Type 0
Variants = Then (Many Variant) Ends

abbrev pub Regions : List ℕ → Type 0
Regions = Then (Opt Region) Variants

abbrev pub Scripts : List ℕ → Type 0
Scripts = Then (Opt Script) Regions

abbrev pub Body : ℕ → List ℕ → Type 0
Body zero = Variants
Body (suc zero) = Regions
Body (suc (suc n)) = Then (UpTo (Of is_letter 3 3) n) Scripts

-- what the grammar allows from a stage on
abbrev pub Rest : Stage → List ℕ → Type 0
Rest at.Bad = λ s. ⊥
Rest at.Start = Read
Rest (at.Body n) = Body n
Rest at.Single = Then (Some (Of is_alnum 2 8)) Ends
Rest at.Extension = Then (Many (Of is_alnum 2 8)) Ends
Rest at.Private = Some (Of is_alnum 1 8)
Rest at.Own = Many (Of is_alnum 1 8)

-- ---- one subtag more in front
many_then : {P Q : List ℕ → Type 0} (t : List ℕ) {r : List ℕ} → P t → Then (Many P) Q r → Then (Many P) Q (45 ∷ (t ++ r))
many_then t p (Then.pair {s = s} {t = u} m q) = rw (← append_assoc t s u) (Then.pair (Many.more p m) q)

some_then : {P Q : List ℕ → Type 0} (t : List ℕ) {r : List ℕ} → P t → Then (Many P) Q r → Then (Some P) Q (45 ∷ (t ++ r))
some_then t p (Then.pair {s = s} {t = u} m q) = rw (← append_assoc t s u) (Then.pair (Some.some p m) q)

opt_then : {P Q : List ℕ → Type 0} (t r : List ℕ) → P t → Q r → Then (Opt P) Q (45 ∷ (t ++ r))
opt_then t r p q = Then.pair (Opt.some p) q

skip : {P Q : List ℕ → Type 0} (r : List ℕ) → Q r → Then (Opt P) Q r
skip r q = Then.pair Opt.none q

skip_many : {P Q : List ℕ → Type 0} (r : List ℕ) → Q r → Then (Many P) Q r
skip_many r q = Then.pair Many.none q

skip_upto : {P Q : List ℕ → Type 0} (n : ℕ) (r : List ℕ) → Q r → Then (UpTo P n) Q r
skip_upto n r q = Then.pair UpTo.none q

upto_then : {P Q : List ℕ → Type 0} {n : ℕ} (t : List ℕ) {r : List ℕ} → P t → Then (UpTo P n) Q r → Then (UpTo P (suc n)) Q (45 ∷ (t ++ r))
upto_then t p (Then.pair {s = s} {t = u} m q) = rw (← append_assoc t s u) (Then.pair (UpTo.more p m) q)

extension_then : {t r : List ℕ} → Singleton t → Then (Some (Of is_alnum 2 8)) Ends r → Ends (45 ∷ (t ++ r))
extension_then {t} c (Then.pair {s = m} m' (Then.pair {s = e} {t = p} e' p')) =
    rw (← append_assoc t m (e ++ p), ← append_assoc (t ++ m) e p) (Then.pair (Many.more (Extension.extension c m') e') p')

private_of : {t r : List ℕ} → Xed t → Some (Of is_alnum 1 8) r → Privateuse (t ++ r)
private_of (Xed.xed e) m = Privateuse.privateuse e m

private_then : {t r : List ℕ} → Xed t → Some (Of is_alnum 1 8) r → Ends (45 ∷ (t ++ r))
private_then x m = Then.pair Many.none (Opt.some (private_of x m))

-- what may stand late may stand early
from_variants : (n : ℕ) (r : List ℕ) → Variants r → Body n r
from_variants zero r v = v
from_variants (suc zero) r v = skip r v
from_variants (suc (suc n)) r v = skip_upto n r (skip r (skip r v))

from_ends : (n : ℕ) (r : List ℕ) → Ends r → Body n r
from_ends n r e = from_variants n r (skip_many r e)

from_regions : (n : ℕ) (r : List ℕ) → Regions r → Body (suc n) r
from_regions zero r v = v
from_regions (suc n) r v = skip_upto n r (skip r v)

-- the language's own extlangs
extlangs : {e : List ℕ} → UpTo (Of is_letter 3 3) 3 e → Opt Extlang e
extlangs UpTo.none = Opt.none
extlangs (UpTo.more p r) = Opt.some (Extlang.extlang p r)

no_extlangs : {e : List ℕ} → UpTo (Of is_letter 3 3) 0 e → [] ≡ e
no_extlangs UpTo.none = refl

whole : {l : List ℕ} (r : List ℕ) → LanguagePart l → Scripts r → Langtag (l ++ r)
whole r l (Then.pair s (Then.pair g (Then.pair v (Then.pair e p)))) = Langtag.langtag l s g v e p

short_tag : (t : List ℕ) {r : List ℕ} → Of is_letter 2 3 t → Body 5 r → Langtag (t ++ r)
short_tag t l (Then.pair {s = e} {t = u} x s) = rw (← append_assoc t e u) (whole u (LanguagePart.short l (extlangs x)) s)

other_tag : (t : List ℕ) {r : List ℕ} → LanguagePart t → Body 2 r → Langtag (t ++ r)
other_tag t l (Then.pair {s = e} {t = u} x s) = rw (← no_extlangs x) (whole u l s)

module _ (t r : List ℕ) where
  regional : (n : ℕ) → Region t → Rest (cond (leb 1 n) (at.Body 0) at.Bad) r → Body n (45 ∷ (t ++ r))
  regional zero g h = absurd h
  regional (suc n) g h = from_regions n (45 ∷ (t ++ r)) (opt_then t r g (rw (le-leb 1 (suc n) (omega arith)) at h))

  scripted : (n : ℕ) → Of is_letter 4 4 t → Rest (cond (leb 2 n) (at.Body 1) at.Bad) r → Body n (45 ∷ (t ++ r))
  scripted zero g h = absurd h
  scripted (suc zero) g h = absurd h
  scripted (suc (suc n)) g h = skip_upto n (45 ∷ (t ++ r)) (opt_then t r (Script.script g) (rw (le-leb 2 (suc (suc n)) (omega arith)) at h))

  longer : (n : ℕ) → Of is_letter 3 3 t → Rest (continued n k.Three) r → Body n (45 ∷ (t ++ r))
  longer zero g h = absurd h
  longer (suc zero) g h = absurd h
  longer (suc (suc zero)) g h = absurd h
  longer (suc (suc (suc n))) g h =
      let q : suc (suc (suc n)) - 1 ≡ suc (suc n) = omega arith in
      upto_then t g (rw (le-leb 3 (suc (suc (suc n))) (omega arith), q) at h)

  body : (n : ℕ) (c : SubtagKind) → Fits c t → Rest (continued n c) r → Body n (45 ∷ (t ++ r))
  body n k.Other f h = absurd h
  body n k.X f h = from_ends n (45 ∷ (t ++ r)) (private_then f h)
  body n k.Single f h = from_ends n (45 ∷ (t ++ r)) (extension_then f h)
  body n k.Two f h = regional n (Region.letters f) h
  body n k.Three f h = longer n f h
  body n k.Four f h = scripted n f h
  body n k.Long f h = from_variants n (45 ∷ (t ++ r)) (many_then t (Variant.long (record { chars = (part_of t k.Long f refl).chars; least = f.least; most = f.most })) h)
  body n k.Number f h = regional n (Region.digits f) h
  body n k.Variant f h = from_variants n (45 ∷ (t ++ r)) (many_then t f h)
  body n k.Plain f h = absurd h

  start : (c : SubtagKind) → Fits c t → Rest (began c) r → Read (45 ∷ (t ++ r))
  start k.Other f h = absurd h
  start k.X f h = Read.private (private_of f h)
  start k.Single f h = absurd h
  start k.Two f h = Read.langtag (short_tag t (record { chars = f.chars; least = f.least; most = omega (arith, f.most) }) h)
  start k.Three f h = Read.langtag (short_tag t (record { chars = f.chars; least = omega (arith, f.least); most = f.most }) h)
  start k.Four f h = Read.langtag (other_tag t (LanguagePart.four f) h)
  start k.Long f h = Read.langtag (other_tag t (LanguagePart.long f) h)
  start k.Number f h = absurd h
  start k.Variant f h = absurd h
  start k.Plain f h = absurd h

  open_ends : (c : SubtagKind) → Fits c t → Rest (opened c) r → Ends (45 ∷ (t ++ r))
  open_ends k.Other f h = absurd h
  open_ends k.X f h = private_then f h
  open_ends k.Single f h = extension_then f h
  open_ends k.Two f h = absurd h
  open_ends k.Three f h = absurd h
  open_ends k.Four f h = absurd h
  open_ends k.Long f h = absurd h
  open_ends k.Number f h = absurd h
  open_ends k.Variant f h = absurd h
  open_ends k.Plain f h = absurd h

  -- a subtag that leads from one stage to another
  step : (st : Stage) (c : SubtagKind) → Fits c t → Rest (next_stage st c) r → Rest st (45 ∷ (t ++ r))
  step at.Bad c f h = h
  step at.Start c f h = start c f h
  step (at.Body n) c f h = body n c f h
  step at.Single c f h = go (is_part c) refl h
    where
      go : (b : Bool) → is_part c ≡ b → Rest (cond b at.Extension at.Bad) r → Rest at.Single (45 ∷ (t ++ r))
      go true e h = some_then t (part_of t c f e) h
      go false e h = absurd h
  step at.Extension c f h = go (is_part c) refl h
    where
      go : (b : Bool) → is_part c ≡ b → Rest (cond b at.Extension (opened c)) r → Rest at.Extension (45 ∷ (t ++ r))
      go true e h = many_then t (part_of t c f e) h
      go false e h = skip_many (45 ∷ (t ++ r)) (open_ends c f h)
  step at.Private c f h = go (is_subtag c) refl h
    where
      go : (b : Bool) → is_subtag c ≡ b → Rest (cond b at.Own at.Bad) r → Some (Of is_alnum 1 8) (45 ∷ (t ++ r))
      go true e h = Some.some (subtag_of t c f e) h
      go false e h = absurd h
  step at.Own c f h = go (is_subtag c) refl h
    where
      go : (b : Bool) → is_subtag c ≡ b → Rest (cond b at.Own at.Bad) r → Many (Of is_alnum 1 8) (45 ∷ (t ++ r))
      go true e h = Many.more (subtag_of t c f e) h
      go false e h = absurd h

-- a tag may end where nothing more is asked for
stop : (st : Stage) → may_end st ≡ true → Rest st []
stop at.Bad e = contra false e refl
stop at.Start e = contra false e refl
stop (at.Body n) e = from_ends n [] (Then.pair Many.none Opt.none)
stop at.Single e = contra false e refl
stop at.Extension e = skip_many [] (Then.pair Many.none Opt.none)
stop at.Private e = contra false e refl
stop at.Own e = Many.none

from : (s t : List ℕ) (st : Stage) → may_end (stage_from st t s) ≡ true → Rest st (45 ∷ (t ++ s))
unfolding stage_from
from [] t st e = step t [] st (subtag_kind t) (fits t) (stop (next_stage st (subtag_kind t)) e)
from (b ∷ s) t st e = go (eqb b 45) refl e (from s (t ++ (b ∷ [])) st) (from s [] (next_stage st (subtag_kind t)))
  where
    go : (c : Bool) → eqb b 45 ≡ c → may_end (cond c (stage_from (next_stage st (subtag_kind t)) [] s) (stage_from st (t ++ (b ∷ [])) s)) ≡ true
        → (may_end (stage_from st (t ++ (b ∷ [])) s) ≡ true → Rest st (45 ∷ ((t ++ (b ∷ [])) ++ s)))
        → (may_end (stage_from (next_stage st (subtag_kind t)) [] s) ≡ true → Rest (next_stage st (subtag_kind t)) (45 ∷ s))
        → Rest st (45 ∷ (t ++ (b ∷ s)))
    go true q e more rest = rw (eqb-true b 45 q) (step t (45 ∷ s) st (subtag_kind t) (fits t) (rest e))
    go false q e more rest = rw append_assoc at (more e)

pub read_sound : (s : List ℕ) → is_unlisted s ≡ true → Read (45 ∷ s)
unfolding is_unlisted
read_sound s e = from s [] at.Start e

read_tag : {s : List ℕ} → Read (45 ∷ s) → LanguageTag s
read_tag (Read.langtag h) = LanguageTag.langtag h
read_tag (Read.private h) = LanguageTag.privateuse h

pub sound : (s : List ℕ) → is_well_formed s ≡ true → LanguageTag s
unfolding is_well_formed
sound s e = go (is_unlisted s) refl e
  where
    go : (c : Bool) → is_unlisted s ≡ c → (c || is_listed irregulars (smalls s)) ≡ true → LanguageTag s
    go true q e = read_tag (read_sound s q)
    go false q e = LanguageTag.grandfathered (Grandfathered.irregular e)

pub allowed_sound : (s : List ℕ) → is_allowed s ≡ true → Allowed s
unfolding is_allowed
allowed_sound [] e = Allowed.unknown
allowed_sound (b ∷ s) e = Allowed.known (sound (b ∷ s) e)
