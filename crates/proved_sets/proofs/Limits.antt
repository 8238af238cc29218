-- What the rules for texts and limits give is answered, and nothing else: of a text that is checked, and of rows within the limits or not.
-- Assumes nothing.
use Rattle.std.specs.Prelude.{Err, Ok, Result}
use mathlib.Core.Path.{◌≡◌, refl, sym, ◌∙◌}
use mathlib.Core.Bool.{Bool, true, false, cond}
use mathlib.Core.List.{List, []}
use Prim.Native.Nat.{ℕ, ◌≤◌}
use native.Mathlib.Omega.{arith}
use borrow.Author.Tests.{ltb-true, ltb-false, lt-ltb, le-ltb}
use lib.Dec.{ltb}
use lib.ListN.{length}
use Rattle.base_lists.proofs.More.{contra}
use Rattle.base_refusals.specs.Numbers.{max_text}
use Rattle.base_refusals.specs.declared.Refusal.{Refusal}
use Rattle.base_refusals.specs.declared.Refusal.TheVariants.{TextTooLong, NotUtf8}
use Rattle.text_utf8.specs.Computed.{is_utf8}
use Rattle.proved_texts.specs.Utf8Rules.{WellFormed}
use Rattle.text_checks.specs.Check.{check_of}
use Rattle.proved_texts.proofs.Utf8Grammar as utf8
use Rattle.block_grammar.specs.Meaning.{Entry, classes_once}
use Rattle.set_table.specs.Types.{Texts, max_classes, max_keys}
use Rattle.set_table.specs.Rows.{Rows, meant, meaning_of}
use Rattle.set_table.specs.Shape.{Shaped}
use Rattle.set_table.specs.Filled.{limited}
use Rattle.proved_sets.specs.Limits.{class_count, key_count, Exactly, SizeGiven, Utf8Given, LimitGiven}
use Rattle.proved_sets.proofs.Limited.{over_classes, over_keys, fits}
use Rattle.proved_sets.proofs.TableWhole.{table_means, empty_means}

-- ---- rules
-- the answer o and s is all that the rules G give
abbrev pub Only : {A : Type 0} → (A → List Entry → Type 0) → A → List Entry → Type 0
Only {A} G o s = (p : A) (u : List Entry) → G p u → (o ≡ p) × (s ≡ u)

-- and where they give something, it is that
pub exactly : {A : Type 0} {G : A → List Entry → Type 0} {o p : A} {s u : List Entry} → Only G o s → G p u → Exactly G o s
exactly {p = p} {u = u} h g =
    let z = h p u g in
    record { given = rw (z.0, z.1) g; only = h; single = λ p q u v x y. (sym (h p u x).0 ∙ (h q v y).0, sym (h p u x).1 ∙ (h q v y).1) }

pub not_utf8 : (s : List ℕ) → (WellFormed s → ⊥) → is_utf8 s ≡ false
not_utf8 s n = go (is_utf8 s) refl
  where
    go : (x : Bool) → is_utf8 s ≡ x → x ≡ false
    go true e = absurd (n (utf8.sound s e))
    go false e = refl

-- ---- 1: f and g are what is answered once the length is known
module _ (t : List ℕ) {G : Result (Unit {0}) Refusal → List Entry → Type 0} (f : Bool → Result (Unit {0}) Refusal) (g : Bool → List Entry) (e : (f true ≡ Err TextTooLong) × (g true ≡ []))
    (h : length t ≤ max_text → Exactly G (f false) (g false)) where
  size_only : Only (SizeGiven t G) (f (ltb max_text (length t))) (g (ltb max_text (length t)))
  size_only p u (SizeGiven.long l) = rw (lt-ltb max_text (length t) l) e
  size_only p u (SizeGiven.short l x) = rw (le-ltb max_text (length t) l) ((h l).only p u x)

  pub size_exactly : Exactly (SizeGiven t G) (f (ltb max_text (length t))) (g (ltb max_text (length t)))
  size_exactly = go (ltb max_text (length t)) refl
    where
      go : (x : Bool) → ltb max_text (length t) ≡ x → Exactly (SizeGiven t G) (f (ltb max_text (length t))) (g (ltb max_text (length t)))
      go true a = exactly size_only (SizeGiven.long (ltb-true max_text (length t) a))
      go false a = let l = ltb-false max_text (length t) a in exactly size_only (SizeGiven.short l (h l).given)

-- ---- 1 and 2: f and g are what is answered once the text is checked
module _ (t : List ℕ) {G : Result (Unit {0}) Refusal → List Entry → Type 0} (f : Result (Unit {0}) Refusal → Result (Unit {0}) Refusal) (g : Result (Unit {0}) Refusal → List Entry) (e : (r : Refusal) → (f (Err r) ≡ Err r) × (g (Err r) ≡ []))
    (h : length t ≤ max_text → WellFormed t → Exactly G (f (Ok tt)) (g (Ok tt))) where
  abbrev coded : Bool → Result (Unit {0}) Refusal
  coded b = cond b (Ok tt) (Err NotUtf8)

  utf8_only : length t ≤ max_text → Only (Utf8Given t G) (f (coded (is_utf8 t))) (g (coded (is_utf8 t)))
  utf8_only l p u (Utf8Given.garbled n) = rw (not_utf8 t n) (e NotUtf8)
  utf8_only l p u (Utf8Given.text w x) = rw (utf8.complete w) ((h l w).only p u x)

  utf8_exactly : length t ≤ max_text → Exactly (Utf8Given t G) (f (coded (is_utf8 t))) (g (coded (is_utf8 t)))
  utf8_exactly l = go (is_utf8 t) refl
    where
      go : (y : Bool) → is_utf8 t ≡ y → Exactly (Utf8Given t G) (f (coded (is_utf8 t))) (g (coded (is_utf8 t)))
      go false b = exactly (utf8_only l) (Utf8Given.garbled (λ w. contra (is_utf8 t) (utf8.complete w) b))
      go true b = let w = utf8.sound t b in exactly (utf8_only l) (Utf8Given.text w (h l w).given)

  pub text_exactly : Exactly (SizeGiven t (Utf8Given t G)) (f (check_of t)) (g (check_of t))
  unfolding check_of
  text_exactly = size_exactly t (λ b. f (cond b (Err TextTooLong) (coded (is_utf8 t)))) (λ b. g (cond b (Err TextTooLong) (coded (is_utf8 t)))) (e TextTooLong) utf8_exactly

-- ---- 6 and 7: rows that have as many classes and keys as es says
module _ {t : Texts} {s : Rows} (h : Shaped t s) (es : List Entry) (c : length s.classes ≡ class_count es) (k : length s.keys ≡ key_count es) {m : List Entry} (e : classes_once (meant t s) ≡ m) where
  limit_only : Only (LimitGiven es m) (limited s).outcome (meaning_of t (limited s).set)
  limit_only p u (LimitGiven.classes l) = rw (over_classes s (omega (arith, c, l))) (refl, empty_means t)
  limit_only p u (LimitGiven.keys l j) = rw (over_keys s (omega (arith, c, l)) (omega (arith, k, j))) (refl, empty_means t)
  limit_only p u (LimitGiven.within l j) = rw (fits s (omega (arith, c, l)) (omega (arith, k, j))) (refl, table_means s t ∙ e)

  pub limit_exactly : Exactly (LimitGiven es m) (limited s).outcome (meaning_of t (limited s).set)
  limit_exactly = go (ltb max_classes (class_count es)) refl (ltb max_keys (key_count es)) refl
    where
      go : (x : Bool) → ltb max_classes (class_count es) ≡ x → (y : Bool) → ltb max_keys (key_count es) ≡ y → Exactly (LimitGiven es m) (limited s).outcome (meaning_of t (limited s).set)
      go true a y b = exactly limit_only (LimitGiven.classes (ltb-true max_classes (class_count es) a))
      go false a true b = exactly limit_only (LimitGiven.keys (ltb-false max_classes (class_count es) a) (ltb-true max_keys (key_count es) b))
      go false a false b = exactly limit_only (LimitGiven.within (ltb-false max_classes (class_count es) a) (ltb-false max_keys (key_count es) b))
