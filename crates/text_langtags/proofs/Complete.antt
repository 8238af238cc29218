-- What the grammar derives, the computing definition reads.
-- Assumes nothing.
use mathlib.Core.Path.{◌≡◌, refl, sym, ◌∙◌}
use mathlib.Core.Bool.{Bool, true, false, cond}
use mathlib.Core.List.{List, [], ◌∷◌, ◌++◌, append-nil, append_assoc}
use Prim.Native.Nat.{ℕ, ◌+◌, ◌-◌, ◌≤◌}
use native.Mathlib.Omega.{arith}
use lib.Dec.{eqb}
use borrow.Author.Tests.{le-leb}
use Rattle.base_lists.specs.Lists.{all}
use Rattle.base_lists.proofs.Scan.{both}
use Rattle.base_lists.proofs.More.{contra, apart, or_left, or_right}
use Rattle.base_bytes.specs.Bytes.{is_letter, is_digit, is_alnum, within}
use Rattle.text_langtags.specs.Letters.{smalls, is_listed, irregulars, regulars}
use Rattle.text_langtags.specs.Grammar.{Of, Opt, Many, Some, UpTo, Extlang, LanguagePart, Script, Region, Variant, Extension, Privateuse, Langtag, Grandfathered, LanguageTag, Allowed}
use Rattle.text_langtags.specs.Computed.{subtag_kind, next_stage, may_end, stage_from, is_unlisted, is_well_formed, is_allowed}
use Rattle.text_langtags.specs.declared.SubtagKind.TheVariants as k
use Rattle.text_langtags.specs.declared.Stage.{Stage}
use Rattle.text_langtags.specs.declared.Stage.TheVariants as at
use Rattle.text_langtags.proofs.Subtags as sub
use Rattle.text_langtags.proofs.Tables.{regular_read}
use Rattle.text_langtags.proofs.Cases.{read_cased, listed-all}

-- what is read from a stage on: nothing, or a hyphen and what follows
stage_behind : Stage → List ℕ → Stage
stage_behind st [] = st
stage_behind st (b ∷ s) = cond (eqb b 45) (stage_from st [] s) at.Bad

abbrev Takes : Stage → List ℕ → Type 0
Takes st s = may_end (stage_behind st s) ≡ true

-- letters and digits are passed over
passed : (t s u : List ℕ) (st : Stage) → all is_alnum t ≡ true → stage_from st u (t ++ s) ≡ stage_from st (u ++ t) s
unfolding stage_from all is_alnum is_letter is_digit within
passed [] s u st e = rw append-nil
passed (b ∷ t) s u st e =
    let h = both (is_alnum b) (all is_alnum t) e in
    rw (apart is_alnum b 45 h.0 refl, passed t s (u ++ (b ∷ [])) st h.1, append_assoc u (b ∷ []) t)

-- one subtag more in front
module _ (st : Stage) (t : List ℕ) (a : all is_alnum t ≡ true) where
  on : (r : List ℕ) → Takes (next_stage st (subtag_kind t)) r → Takes st (45 ∷ (t ++ r))
  unfolding stage_behind stage_from
  on [] h = rw (passed t [] [] st a) h
  on (b ∷ s) h = go (eqb b 45) refl h
    where
      go : (c : Bool) → eqb b 45 ≡ c → may_end (cond c (stage_from (next_stage st (subtag_kind t)) [] s) at.Bad) ≡ true → Takes st (45 ∷ (t ++ (b ∷ s)))
      go true e h = rw (passed t (b ∷ s) [] st a, e) h
      go false e h = contra false h refl

  to : (st' : Stage) → next_stage st (subtag_kind t) ≡ st' → (r : List ℕ) → Takes st' r → Takes st (45 ∷ (t ++ r))
  to st' e r h = on r (rw e h)

-- ---- private use

owns : {s : List ℕ} → Many (Of is_alnum 1 8) s → Takes at.Own s
unfolding stage_behind
owns Many.none = refl
owns (Many.more {s = t} {t = r} p m) = to at.Own t p.chars at.Own (rw (sub.is_subtag_lem p)) r (owns m)

privates : {s : List ℕ} → Some (Of is_alnum 1 8) s → Takes at.Private s
privates (Some.some {s = t} {t = r} p m) = to at.Private t p.chars at.Own (rw (sub.is_subtag_lem p)) r (owns m)

private_use : (st : Stage) → next_stage st k.X ≡ at.Private → {p : List ℕ} → Privateuse p → Takes st (45 ∷ p)
unfolding all
private_use st c (Privateuse.privateuse {b = b} {t = t} e m) = to st (b ∷ []) (rw (sub.x_alnum b e)) at.Private (rw (sub.one_x b e) c) t (privates m)

-- ---- extensions

parts : (q : List ℕ) → Takes at.Extension q → {m : List ℕ} → Many (Of is_alnum 2 8) m → Takes at.Extension (m ++ q)
parts q h Many.none = h
parts q h (Many.more {s = t} {t = r} p m) = rw (append_assoc t r q) (to at.Extension t p.chars at.Extension (rw (sub.is_part_lem p)) (r ++ q) (parts q h m))

some_parts : (q : List ℕ) → Takes at.Extension q → {m : List ℕ} → Some (Of is_alnum 2 8) m → Takes at.Single (m ++ q)
some_parts q h (Some.some {s = t} {t = r} p m) = rw (append_assoc t r q) (to at.Single t p.chars at.Extension (rw (sub.is_part_lem p)) (r ++ q) (parts q h m))

-- a stage that a tag may end at, and behind which an extension or private use may follow
record Closes (st : Stage) : Type 0 where
  x : next_stage st k.X ≡ at.Private
  single : next_stage st k.Single ≡ at.Single
  end : may_end st ≡ true

last : (st : Stage) → Closes st → {p : List ℕ} → Opt Privateuse p → Takes st p
unfolding stage_behind
last st c Opt.none = c.end
last st c (Opt.some h) = private_use st c.x h

ends : {e : List ℕ} → Many Extension e → (st : Stage) → Closes st → {p : List ℕ} → Opt Privateuse p → Takes st (e ++ p)
ends Many.none st c p = last st c p
ends (Many.more {t = e} (Extension.extension {s = t} {t = m} g m') e') st c {p} p' =
    let q : Takes at.Extension (e ++ p) = ends e' at.Extension (record { x = refl; single = refl; end = refl }) p' in
    rw (append_assoc (t ++ m) e p, append_assoc t m (e ++ p)) (to st t (sub.single_of g).chars at.Single (rw (sub.single g) c.single) (m ++ (e ++ p)) (some_parts (e ++ p) q m'))

-- ---- behind the language

module _ (q : List ℕ) where
  variants : {v : List ℕ} → Many Variant v → ((n : ℕ) → Takes (at.Body n) q) → (n : ℕ) → Takes (at.Body n) (v ++ q)
  variants Many.none h n = h n
  variants (Many.more {s = t} {t = r} p m) h n = rw (append_assoc t r q) (to (at.Body n) t (sub.variant_of p).chars (at.Body 0) (sub.variant_on p n) (r ++ q) (variants m h 0))

  regions : {g : List ℕ} → Opt Region g → ((n : ℕ) → Takes (at.Body n) q) → (n : ℕ) → 1 ≤ n → Takes (at.Body n) (g ++ q)
  regions Opt.none h n l = h n
  regions (Opt.some (Region.letters {s = t} f)) h n l = to (at.Body n) t (sub.letters_alnum f) (at.Body 0) (rw (sub.two f, le-leb 1 n l)) q (h 0)
  regions (Opt.some (Region.digits {s = t} f)) h n l = to (at.Body n) t (sub.digits_alnum f) (at.Body 0) (rw (sub.number f, le-leb 1 n l)) q (h 0)

  scripts : {c : List ℕ} → Opt Script c → ((n : ℕ) → 1 ≤ n → Takes (at.Body n) q) → (n : ℕ) → 2 ≤ n → Takes (at.Body n) (c ++ q)
  scripts Opt.none h n l = h n (omega arith)
  scripts (Opt.some (Script.script {s = t} f)) h n l = to (at.Body n) t (sub.letters_alnum f) (at.Body 1) (rw (sub.four f, le-leb 2 n l)) q (h 1 (omega arith))

  extlangs : {i : ℕ} {e : List ℕ} → UpTo (Of is_letter 3 3) i e → ((n : ℕ) → 2 ≤ n → Takes (at.Body n) q) → (n : ℕ) → i + 2 ≤ n → Takes (at.Body n) (e ++ q)
  extlangs UpTo.none h n l = h n (omega arith)
  extlangs (UpTo.more {n = i} {s = t} {t = r} f m) h n l =
      let l3 : 3 ≤ n = omega arith in
      rw (append_assoc t r q) (to (at.Body n) t (sub.letters_alnum f) (at.Body (n - 1)) (rw (sub.three f, le-leb 3 n l3)) (r ++ q) (extlangs m h (n - 1) (omega arith)))

  language : {l : List ℕ} → LanguagePart l → ((n : ℕ) → 2 ≤ n → Takes (at.Body n) q) → Takes at.Start (45 ∷ (l ++ q))
  language (LanguagePart.short {s = t} {t = e} f x) h = rw (append_assoc t e q) (to at.Start t (sub.letters_alnum f) (at.Body 5) (sub.short_on f) (e ++ q) (go x))
    where
      go : {e : List ℕ} → Opt Extlang e → Takes (at.Body 5) (e ++ q)
      go Opt.none = h 5 (omega arith)
      go (Opt.some (Extlang.extlang p m)) = extlangs (UpTo.more p m) h 5 (omega arith)
  language (LanguagePart.four {s = t} f) h = to at.Start t (sub.letters_alnum f) (at.Body 2) (rw (sub.four f)) q (h 2 (omega arith))
  language (LanguagePart.long {s = t} f) h = to at.Start t (sub.letters_alnum f) (at.Body 2) (rw (sub.long f)) q (h 2 (omega arith))

-- ---- the whole

reads : (s : List ℕ) → Takes at.Start (45 ∷ s) → is_unlisted s ≡ true
unfolding is_unlisted stage_behind
reads s h = h

pub langtag_complete : {s : List ℕ} → Langtag s → is_unlisted s ≡ true
langtag_complete (Langtag.langtag {l = l} {s = s} {r = r} {v = v} {e = e} {p = p} l' s' r' v' e' p') =
    let a : (n : ℕ) → Takes (at.Body n) (e ++ p) = λ n. ends e' (at.Body n) (record { x = refl; single = refl; end = refl }) p' in
    let b = variants (e ++ p) v' a in
    let c = regions (v ++ (e ++ p)) r' b in
    let d = scripts (r ++ (v ++ (e ++ p))) s' c in
    reads (l ++ (s ++ (r ++ (v ++ (e ++ p))))) (language (s ++ (r ++ (v ++ (e ++ p)))) l' d)

pub private_complete : {s : List ℕ} → Privateuse s → is_unlisted s ≡ true
private_complete {s} h = reads s (private_use at.Start refl h)

-- the nine regular tags are read without the list
pub regular_complete : (s : List ℕ) → is_listed regulars (smalls s) ≡ true → is_unlisted s ≡ true
regular_complete s e = sym (read_cased s) ∙ listed-all is_unlisted regulars (smalls s) regular_read e

pub complete : {s : List ℕ} → LanguageTag s → is_well_formed s ≡ true
unfolding is_well_formed
complete (LanguageTag.langtag {s = s} h) = or_left (is_unlisted s) (is_listed irregulars (smalls s)) (langtag_complete h)
complete (LanguageTag.privateuse {s = s} h) = or_left (is_unlisted s) (is_listed irregulars (smalls s)) (private_complete h)
complete (LanguageTag.grandfathered (Grandfathered.irregular {s = s} e)) = or_right (is_unlisted s) (is_listed irregulars (smalls s)) e
complete (LanguageTag.grandfathered (Grandfathered.regular {s = s} e)) = or_left (is_unlisted s) (is_listed irregulars (smalls s)) (regular_complete s e)

pub allowed_complete : {s : List ℕ} → Allowed s → is_allowed s ≡ true
unfolding is_allowed
allowed_complete Allowed.unknown = refl
allowed_complete (Allowed.known {s = s} h) = go s (complete h)
  where
    go : (s : List ℕ) → is_well_formed s ≡ true → is_allowed s ≡ true
    go [] e = refl
    go (b ∷ s) e = e
