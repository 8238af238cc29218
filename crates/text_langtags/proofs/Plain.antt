-- Every well-formed tag is a tag of document 01, and none is empty.
-- Assumes nothing.
use mathlib.Core.Path.{◌≡◌, refl, sym, ◌∙◌}
use mathlib.Core.Bool.{Bool, true, false}
use mathlib.Core.List.{List, [], ◌∷◌, ◌++◌, append-nil, append_assoc}
use Prim.Native.Nat.{ℕ, suc, ◌≤◌}
use native.Mathlib.Omega.{arith}
use Rattle.base_lists.specs.Lists.{all}
use Rattle.base_bytes.specs.Bytes.{is_letter, is_digit, is_alnum, within}
use Rattle.text_names.specs.Grammar.{Tag}
use Rattle.text_names.specs.Computed.{is_size, tag_from, is_tag}
use Rattle.text_names.proofs.Grammar as names
use Rattle.text_langtags.specs.Letters.{smalls, is_listed, irregulars, regulars}
use Rattle.text_langtags.specs.Grammar.{Of, Opt, Many, Some, UpTo, Extlang, LanguagePart, Script, Region, Variant, Extension, Privateuse, Langtag, Grandfathered, LanguageTag}
use Rattle.text_langtags.specs.Computed.{is_well_formed}
use Rattle.text_langtags.proofs.Subtags as sub
use Rattle.text_langtags.proofs.Cases.{alnum_cased, hyphen_cased, listed-all}
use Rattle.text_langtags.proofs.Sound.{sound}

-- nothing, or a hyphen and a tag
data Tail : List ℕ → Type 0 where
  none : Tail []
  some : {s : List ℕ} → Tag s → Tail (45 ∷ s)

join : {s t : List ℕ} → Tag s → Tail t → Tag (s ++ t)
join {s} h Tail.none = rw append-nil h
join (Tag.one h) (Tail.some r) = Tag.more h r
join (Tag.more {s = a} {t = b} h r) (Tail.some {s = t} u) = rw (append_assoc a (45 ∷ b) (45 ∷ t)) (Tag.more h (join r (Tail.some u)))

joins : {s t : List ℕ} → Tail s → Tail t → Tail (s ++ t)
joins Tail.none r = r
joins (Tail.some h) r = Tail.some (join h r)

subtag : {t : List ℕ} → Of is_alnum 1 8 t → Tag t
subtag h = Tag.one (record { chars = h.chars; some = h.least; few = h.most })

letters : {lo hi : ℕ} {t : List ℕ} → Of is_letter lo hi t → 1 ≤ lo → hi ≤ 8 → Tag t
letters h p q = subtag (record { chars = sub.letters_alnum h; least = omega (arith, h.least); most = omega (arith, h.most) })

digits : {lo hi : ℕ} {t : List ℕ} → Of is_digit lo hi t → 1 ≤ lo → hi ≤ 8 → Tag t
digits h p q = subtag (record { chars = sub.digits_alnum h; least = omega (arith, h.least); most = omega (arith, h.most) })

part : {t : List ℕ} → Of is_alnum 2 8 t → Tag t
part h = subtag (record { chars = h.chars; least = omega (arith, h.least); most = h.most })

module _ {P : List ℕ → Type 0} (p : (s : List ℕ) → P s → Tag s) where
  opt : {s : List ℕ} → Opt P s → Tail s
  opt Opt.none = Tail.none
  opt (Opt.some {s = s} h) = Tail.some (p s h)

  many : {s : List ℕ} → Many P s → Tail s
  many Many.none = Tail.none
  many (Many.more {s = s} h m) = Tail.some (join (p s h) (many m))

  atleast : {s : List ℕ} → Some P s → Tail s
  atleast (Some.some {s = s} h m) = Tail.some (join (p s h) (many m))

  upto : {n : ℕ} {s : List ℕ} → UpTo P n s → Tail s
  upto UpTo.none = Tail.none
  upto (UpTo.more {s = s} h m) = Tail.some (join (p s h) (upto m))

three : (s : List ℕ) → Of is_letter 3 3 s → Tag s
three s h = letters h (omega arith) (omega arith)

extlang : (s : List ℕ) → Extlang s → Tag s
extlang s (Extlang.extlang h m) = join (letters h (omega arith) (omega arith)) (upto three m)

language : {s : List ℕ} → LanguagePart s → Tag s
language (LanguagePart.short h e) = join (letters h (omega arith) (omega arith)) (opt extlang e)
language (LanguagePart.four h) = letters h (omega arith) (omega arith)
language (LanguagePart.long h) = letters h (omega arith) (omega arith)

script : (s : List ℕ) → Script s → Tag s
script s (Script.script h) = letters h (omega arith) (omega arith)

region : (s : List ℕ) → Region s → Tag s
region s (Region.letters h) = letters h (omega arith) (omega arith)
region s (Region.digits h) = digits h (omega arith) (omega arith)

variant : (s : List ℕ) → Variant s → Tag s
variant s h = part (sub.variant_of h)

extension : (s : List ℕ) → Extension s → Tag s
extension s (Extension.extension g m) = join (subtag (sub.single_of g)) (atleast (λ s h. part h) m)

private : (s : List ℕ) → Privateuse s → Tag s
private s (Privateuse.privateuse {b = b} {t = t} e m) = join (subtag (sub.x_of (sub.Xed.xed e))) (atleast (λ s h. subtag h) m)

langtag : {s : List ℕ} → Langtag s → Tag s
langtag (Langtag.langtag l s r v e p) = join (language l) (joins (opt script s) (joins (opt region r) (joins (many variant v) (joins (many extension e) (opt private p)))))

-- document 01's tags are the same in small letters
tag_cased : (s : List ℕ) (n : ℕ) → tag_from is_alnum (smalls s) n ≡ tag_from is_alnum s n
unfolding tag_from smalls
tag_cased [] n = refl
tag_cased (b ∷ s) n = rw (alnum_cased b, hyphen_cased b, tag_cased s (suc n), tag_cased s 0)

irregular_tags : all is_tag irregulars ≡ true
unfolding all is_tag tag_from is_size irregulars is_alnum is_letter is_digit within
irregular_tags = refl

regular_tags : all is_tag regulars ≡ true
unfolding all is_tag tag_from is_size regulars is_alnum is_letter is_digit within
regular_tags = refl

listed_tag : (ts : List (List ℕ)) (s : List ℕ) → all is_tag ts ≡ true → is_listed ts (smalls s) ≡ true → Tag s
unfolding is_tag
listed_tag ts s a e = names.sound s (sym (tag_cased s 0) ∙ listed-all is_tag ts (smalls s) a e)

pub plain : {s : List ℕ} → LanguageTag s → Tag s
plain (LanguageTag.langtag h) = langtag h
plain (LanguageTag.privateuse {s = s} h) = private s h
plain (LanguageTag.grandfathered (Grandfathered.irregular {s = s} e)) = listed_tag irregulars s irregular_tags e
plain (LanguageTag.grandfathered (Grandfathered.regular {s = s} e)) = listed_tag regulars s regular_tags e

-- each is a tag of document 01
pub well_formed_tag : (s : List ℕ) → is_well_formed s ≡ true → is_tag s ≡ true
well_formed_tag s e = names.complete (plain (sound s e))

empty : is_tag [] ≡ false
unfolding is_tag tag_from is_size within
empty = refl

-- none is empty
pub not_empty : is_well_formed [] ≡ false
not_empty = go (is_well_formed []) refl
  where
    go : (c : Bool) → is_well_formed [] ≡ c → c ≡ false
    go true e = Rattle.base_lists.proofs.More.contra (is_tag []) (well_formed_tag [] e) empty
    go false e = refl
