-- Ranges that stay as they are while one of the two texts becomes another: those of the text that stays, and in a well-formed table those of an empty one.
-- Assumes nothing.
use mathlib.Core.Path.{◌≡◌, refl, sym, ◌∙◌, ap}
use mathlib.Core.Bool.{Bool, true, false, not, ◌&&◌}
use mathlib.Core.List.{List, [], ◌∷◌}
use Prim.Native.Nat.{ℕ}
use native.Mathlib.Omega.{arith}
use lib.Dec.{leb}
use lib.ListN.{length, get_or}
use lib.Seq.{slice}
use borrow.Author.Tests.{le-leb, lt-leb, leb-true}
use Rattle.base_lists.proofs.Scan.{both}
use Rattle.base_lists.proofs.More.{contra}
use Rattle.base_bytes.specs.Bytes.{is_tail, within}
use Rattle.text_utf8.specs.Utf8.{is_boundary}
use Rattle.text_utf8.specs.Computed.{is_utf8, octets_from, lead_of, after_of}
use Rattle.text_checks.specs.Check.{is_text}
use Rattle.text_checks.proofs.Texts.{text_utf8}
use Rattle.set_table.specs.Types.{Texts, text_at, range_bytes, name_bytes, text_bytes, value_bytes}
use Rattle.set_table.specs.declared.Origin.{Origin}
use Rattle.set_table.specs.declared.Origin.TheVariants.{First, Second}
use Rattle.set_table.specs.declared.Text.{Text}
use Rattle.set_table.specs.declared.Text.TheVariants.{Plain, Quoted, Empty}
use Rattle.set_table.specs.declared.Value.{Value}
use Rattle.set_table.specs.declared.Name.{Name}
use Rattle.set_table.specs.declared.Name.TheVariants.{Range, Lang}
use Rattle.set_values.specs.Values.{range_ok, text_ok, name_ok}
use Rattle.proved_origins.specs.OneText.{is_origin, text_is, name_is, lent, EmptyText, ZeroRange}
use Rattle.proved_origins.proofs.Alike.{Keeps}

-- ---- an empty text
pub empty_range : EmptyText
unfolding range_ok is_boundary
empty_range t o e from to h =
    let a = both (leb from to) (is_boundary (text_at t o) from && is_boundary (text_at t o) to) h in
    let b = both (is_boundary (text_at t o) from) (is_boundary (text_at t o) to) a.1 in
    let l = ap length e in
    let f = leb-true from (length (text_at t o)) (both (leb from (length (text_at t o))) (not (is_tail (get_or (text_at t o) from 0))) b.0).0 in
    let g = leb-true to (length (text_at t o)) (both (leb to (length (text_at t o))) (not (is_tail (get_or (text_at t o) to 0))) b.1).0 in
    (omega arith, omega arith)

-- no text begins inside a character
begins-one : (s : List ℕ) → is_utf8 s ≡ true → not (is_tail (get_or s 0 0)) ≡ true
unfolding is_utf8 octets_from after_of lead_of is_tail within
begins-one [] h = refl
begins-one (a ∷ s) h = go (is_tail a) refl
  where
    go : (b : Bool) → is_tail a ≡ b → not b ≡ true
    go false q = refl
    go true q =
        let z = both (leb 0x80 a) (leb a 0xBF) q in
        let l = leb-true 0x80 a z.0 in
        let m = leb-true a 0xBF z.1 in
        contra false (rw (lt-leb a 0x7F (omega arith), le-leb a 0xC1 (omega arith)) at h) refl

pub zero_range : ZeroRange
unfolding range_ok is_boundary
zero_range t o h = rw (le-leb 0 (length (text_at t o)) (omega arith), begins-one (text_at t o) (text_utf8 (text_at t o) h))

-- ---- steady from the texts t to the texts t'
module _ (t t' : Texts) where
  pub record SteadyRange (o : Origin) (from to : ℕ) : Type 0 where
    pub bytes : range_bytes t' o from to ≡ range_bytes t o from to
    pub ok : range_ok t' o from to ≡ range_ok t o from to

  pub record SteadyText (x : Text) : Type 0 where
    pub bytes : text_bytes t' x ≡ text_bytes t x
    pub ok : text_ok t' x ≡ text_ok t x

  pub record SteadyName (n : Name) : Type 0 where
    pub bytes : name_bytes t' n ≡ name_bytes t n
    pub ok : name_ok t' n ≡ name_ok t n

  -- ---- as it was, and steady
  pub record Stays (v w : Value) : Type 0 where
    pub is : w ≡ v
    pub steady : SteadyText v.text

  pub record NameStays (n m : Name) : Type 0 where
    pub is : m ≡ n
    pub steady : SteadyName n

module _ {t t' : Texts} where
  pub steady_keeps : Keeps (Stays t t') (NameStays t t') t t'
  unfolding value_bytes
  steady_keeps =
      record {
        bytes = λ v w e. rw e.is e.steady.bytes;
        ok = λ v w e. rw e.is e.steady.ok;
        name = λ n m e. rw e.is e.steady.bytes;
        named = λ n m e. rw e.is e.steady.ok;
      }

  module _ {o : Origin} {from to : ℕ} (r : SteadyRange t t' o from to) where
    plain : SteadyText t t' (Plain o from to)
    unfolding text_ok
    plain = record { bytes = r.bytes; ok = r.ok }

    quoted : SteadyText t t' (Quoted o from to)
    unfolding text_ok
    quoted = record { bytes = rw r.bytes; ok = r.ok }

    range : SteadyName t t' (Range o from to)
    unfolding name_bytes name_ok
    range = record { bytes = r.bytes; ok = r.ok }

  empty : SteadyText t t' Empty
  unfolding text_ok
  empty = record { bytes = refl; ok = refl }

  lang : SteadyName t t' Lang
  unfolding name_bytes name_ok
  lang = record { bytes = refl; ok = refl }

-- ---- the text t at o, and u as the other, which was empty
module _ (o : Origin) (t u : List ℕ) where
  same_text : (o p : Origin) → is_origin o p ≡ true → text_at (lent o t u) p ≡ text_at (lent o t []) p
  same_text First First e = refl
  same_text First Second e = contra false e refl
  same_text Second First e = contra false e refl
  same_text Second Second e = refl

  -- what is of t
  of_range : (p : Origin) (from to : ℕ) → is_origin o p ≡ true → SteadyRange (lent o t []) (lent o t u) p from to
  unfolding range_bytes range_ok
  of_range p from to e = let z = same_text o p e in record { bytes = ap (slice from to) z; ok = rw z }

  pub of_text : (x : Text) → text_is o x ≡ true → SteadyText (lent o t []) (lent o t u) x
  of_text (Plain p from to) e = plain (of_range p from to e)
  of_text (Quoted p from to) e = quoted (of_range p from to e)
  of_text Empty e = empty

  pub of_name : (n : Name) → name_is o n ≡ true → SteadyName (lent o t []) (lent o t u) n
  of_name (Range p from to) e = range (of_range p from to e)
  of_name Lang e = lang

  -- what was well-formed
  module _ (h : is_text u ≡ true) where
    other_lent : (o p : Origin) → is_origin o p ≡ false → (text_at (lent o t []) p ≡ []) × (text_at (lent o t u) p ≡ u)
    other_lent First First e = contra true refl e
    other_lent First Second e = (refl, refl)
    other_lent Second First e = (refl, refl)
    other_lent Second Second e = contra true refl e

    ok_range : (p : Origin) (from to : ℕ) → range_ok (lent o t []) p from to ≡ true → SteadyRange (lent o t []) (lent o t u) p from to
    unfolding range_bytes
    ok_range p from to k = go (is_origin o p) refl
      where
        go : (b : Bool) → is_origin o p ≡ b → SteadyRange (lent o t []) (lent o t u) p from to
        go true e = of_range p from to e
        go false e =
            let z = other_lent o p e in
            let w = empty_range (lent o t []) p z.0 from to k in
            let l = zero_range (lent o t u) p (rw z.1 h) in
            record { bytes = rw (w.0, w.1); ok = rw (w.0, w.1) (l ∙ sym (rw (w.0, w.1) at k)) }

    pub ok_text : (x : Text) → text_ok (lent o t []) x ≡ true → SteadyText (lent o t []) (lent o t u) x
    unfolding text_ok
    ok_text (Plain p from to) e = plain (ok_range p from to e)
    ok_text (Quoted p from to) e = quoted (ok_range p from to e)
    ok_text Empty e = empty

    pub ok_name : (n : Name) → name_ok (lent o t []) n ≡ true → SteadyName (lent o t []) (lent o t u) n
    unfolding name_ok
    ok_name (Range p from to) e = range (ok_range p from to e)
    ok_name Lang e = lang
