-- The grammar of language tags: RFC 5646 section 2.1, a type for each production, under its line. The lines were written without a copy of the RFC at
-- hand. A literal, and a letter in it, stands for both cases.
use Rattle.std.specs.Prelude.{◌≡◌, Bool, true, ◌||◌, List, [], ◌∷◌, ◌++◌, ℕ, suc, ◌≤◌, length}
use Rattle.base_lists.specs.Lists.{all}
use Rattle.base_bytes.specs.Bytes.{within, is_letter, is_digit, is_alnum, hyphen}
use Rattle.text_langtags.specs.Letters.{smalls, is_x, is_listed, irregulars, regulars}

-- `lo*hiF`: lo to hi bytes of the class f
pub record Of (f : ℕ → Bool) (lo hi : ℕ) (s : List ℕ) : Type 0 where
  pub chars : all f s ≡ true
  pub least : lo ≤ length s
  pub most : length s ≤ hi

-- `["-" P]`
pub data Opt (P : List ℕ → Type 0) : List ℕ → Type 0 where
  none : Opt P []
  some : {s : List ℕ} → P s → Opt P (hyphen ∷ s)

-- `*("-" P)`
pub data Many (P : List ℕ → Type 0) : List ℕ → Type 0 where
  none : Many P []
  more : {s t : List ℕ} → P s → Many P t → Many P (hyphen ∷ (s ++ t))

-- `1*("-" P)`
pub data Some (P : List ℕ → Type 0) : List ℕ → Type 0 where
  some : {s t : List ℕ} → P s → Many P t → Some P (hyphen ∷ (s ++ t))

-- `*n("-" P)`
pub data UpTo (P : List ℕ → Type 0) : ℕ → List ℕ → Type 0 where
  none : {n : ℕ} → UpTo P n []
  more : {n : ℕ} {s t : List ℕ} → P s → UpTo P n t → UpTo P (suc n) (hyphen ∷ (s ++ t))

-- extlang = 3ALPHA *2("-" 3ALPHA)
pub data Extlang : List ℕ → Type 0 where
  extlang : {s t : List ℕ} → Of is_letter 3 3 s → UpTo (Of is_letter 3 3) 2 t → Extlang (s ++ t)

-- language = 2*3ALPHA ["-" extlang] / 4ALPHA / 5*8ALPHA
pub data LanguagePart : List ℕ → Type 0 where
  short : {s t : List ℕ} → Of is_letter 2 3 s → Opt Extlang t → LanguagePart (s ++ t)
  four : {s : List ℕ} → Of is_letter 4 4 s → LanguagePart s
  long : {s : List ℕ} → Of is_letter 5 8 s → LanguagePart s

-- script = 4ALPHA
pub data Script : List ℕ → Type 0 where
  script : {s : List ℕ} → Of is_letter 4 4 s → Script s

-- region = 2ALPHA / 3DIGIT
pub data Region : List ℕ → Type 0 where
  letters : {s : List ℕ} → Of is_letter 2 2 s → Region s
  digits : {s : List ℕ} → Of is_digit 3 3 s → Region s

-- variant = 5*8alphanum / (DIGIT 3alphanum)
pub data Variant : List ℕ → Type 0 where
  long : {s : List ℕ} → Of is_alnum 5 8 s → Variant s
  digit : {b : ℕ} {s : List ℕ} → is_digit b ≡ true → Of is_alnum 3 3 s → Variant (b ∷ s)

-- singleton = DIGIT / %x41-57 / %x59-5A / %x61-77 / %x79-7A
unfoldable pub is_singleton : ℕ → Bool
is_singleton b = is_digit b || within 0x41 0x57 b || within 0x59 0x5A b || within 0x61 0x77 b || within 0x79 0x7A b

pub data Singleton : List ℕ → Type 0 where
  singleton : {b : ℕ} → is_singleton b ≡ true → Singleton (b ∷ [])

-- extension = singleton 1*("-" (2*8alphanum))
pub data Extension : List ℕ → Type 0 where
  extension : {s t : List ℕ} → Singleton s → Some (Of is_alnum 2 8) t → Extension (s ++ t)

-- privateuse = "x" 1*("-" (1*8alphanum))
pub data Privateuse : List ℕ → Type 0 where
  privateuse : {b : ℕ} {t : List ℕ} → is_x b ≡ true → Some (Of is_alnum 1 8) t → Privateuse (b ∷ t)

-- langtag = language ["-" script] ["-" region] *("-" variant) *("-" extension) ["-" privateuse]
pub data Langtag : List ℕ → Type 0 where
  langtag : {l s r v e p : List ℕ} → LanguagePart l → Opt Script s → Opt Region r → Many Variant v → Many Extension e → Opt Privateuse p
      → Langtag (l ++ (s ++ (r ++ (v ++ (e ++ p)))))

-- grandfathered = irregular / regular
pub data Grandfathered : List ℕ → Type 0 where
  irregular : {s : List ℕ} → is_listed irregulars (smalls s) ≡ true → Grandfathered s
  regular : {s : List ℕ} → is_listed regulars (smalls s) ≡ true → Grandfathered s

-- Language-Tag = langtag / privateuse / grandfathered
pub data LanguageTag : List ℕ → Type 0 where
  langtag : {s : List ℕ} → Langtag s → LanguageTag s
  privateuse : {s : List ℕ} → Privateuse s → LanguageTag s
  grandfathered : {s : List ℕ} → Grandfathered s → LanguageTag s

-- "The empty tag stays allowed, since it means unknown."
pub data Allowed : List ℕ → Type 0 where
  unknown : Allowed []
  known : {s : List ℕ} → LanguageTag s → Allowed s
