-- Demand 3: canonical texts and meanings, of sets, and of the bytes that the writer leaves and the reader reads back.
-- Assumes nothing.
use Rattle.std.specs.Prelude.{Err, Ok, Result}
use mathlib.Core.Path.{◌≡◌, refl, sym, ◌∙◌, ap}
use mathlib.Core.Bool.{Bool, true, false, cond}
use mathlib.Core.List.{List, [], ◌∷◌, ◌++◌, flat_map}
use Prim.Native.Nat.{ℕ, ◌≤◌}
use native.Mathlib.Omega.{arith}
use borrow.Author.Tests.{leb-true, le-leb}
use lib.Dec.{leb}
use lib.ListN.{length, drop, length-take}
use lib.Seq.{take_at, drop_at}
use Rattle.base_lists.specs.Lists.{all, headed, same, is_some}
use Rattle.base_lists.proofs.Scan.{both}
use Rattle.base_lists.proofs.More.{contra}
use Rattle.base_lists.proofs.Each.{some_not, not_some}
use Rattle.base_bytes.specs.Bytes.{within, is_letter, is_digit, is_alnum, is_key_start, is_name_part, is_marked}
use Rattle.base_bytes.specs.declared.Mode.TheVariants.{Strict}
use Rattle.text_utf8.specs.Computed.{is_utf8}
use Rattle.proved_texts.proofs.Utf8Boundaries.{ascii}
use Rattle.base_refusals.specs.Numbers.{max_text}
use Rattle.base_refusals.specs.declared.Refusal.TheVariants.{CanonTooLong, NotWellFormed, EmptySet}
use Rattle.text_checks.specs.Check.{both_of}
use Rattle.text_checks.proofs.Texts.{is_text_lem}
use Rattle.text_checks.specs.Outcomes.{unless, or_else}
use Rattle.text_names.specs.Names.{is_key}
use Rattle.block_grammar.specs.Close.{no_lf}
use Rattle.block_grammar.specs.Meaning.{Entry, is_class, once_in, classes_once}
use Rattle.proved_grammar.specs.Meaning.{absent, distinct}
use Rattle.set_canon.specs.Canon.{marked, escape, more_text, pairs_text, pairs_of, pairs, canon}
use Rattle.proved_sets.specs.Formed.{values_ok, entry_ok, wf}
use Rattle.proved_sets.proofs.CanonBack.{back, same_text, same-meaning}
use Rattle.set_table.specs.Types.{Texts, max_classes, max_keys, max_slots}
use Rattle.set_table.specs.Rows.{rows_in, meaning_of, listed_of}
use Rattle.set_table.specs.Shape.{is_free}
use Rattle.set_table.specs.declared.Attrs.{Attrs}
use Rattle.set_wellformed.specs.WellFormed.{counts_ok, rows_ok, table_ok, well_formed}
use Rattle.set_wellformed.proofs.Shape.{shaped}
use Rattle.proved_sets.proofs.MeansUtf8.{written_utf8}
use Rattle.proved_sets.proofs.WellFormedMeans.{means_wf, lists_wf}
use Rattle.proved_sets.proofs.WellFormedShape.{formed_parts, both_pass, both_texts}
use Rattle.set_writer.specs.Write.{has_room, wrote_of, content_after, writable, or_refused, attrs_wrote, attrs_content}
use Rattle.proved_sets.specs.Limits.{class_count, key_count}
use Rattle.proved_sets.proofs.Counts.{class_rows, key_rows, once_classes, once_keys}
use Rattle.proved_reading.proofs.Agrees.{reads_as, lists_as}
use Rattle.proved_reading.proofs.HandedOut.{handed_out_ok}
use Rattle.proved_demands.specs.Demands.{canon_of, CanonFits, EqualTexts, ReadsBack, CanonReadsBack}
use Rattle.proved_demands.specs.Canonical.{WritesCanon, FitsIsWritten, BytesEqual, BytesDiffer, BytesBack, NoConstant}
use Rattle.block_grammar.proofs.Once.{once_twice}
use Rattle.base_refusals.specs.declared.Refusal.{Refusal}

well_wf : (t : Texts) (a : Attrs) → well_formed t a ≡ true → wf (meaning_of t a) ≡ true
well_wf t a h = means_wf t a (formed_parts t a h).2

-- ======== "have equal canonical texts exactly when they mean the same"
pub texts_equal : EqualTexts
texts_equal t t' a a' f f' =
    (same_text (meaning_of t a) (meaning_of t' a') (well_wf t a f.well) (well_wf t' a' f'.well), same-meaning (meaning_of t a) (meaning_of t' a'))

-- ======== what the writer leaves in the buffer
all-passed : (c : Result (Unit {0}) Refusal) (o s : Bool) → or_else c (or_else (unless NotWellFormed o) (unless EmptySet s)) ≡ Ok tt → (c ≡ Ok tt) × ((o ≡ true) × (s ≡ true))
all-passed (Err r) o s e = contra true refl (cc)
all-passed (Ok _) false s e = contra true refl (cc)
all-passed (Ok _) true false e = contra true refl (cc)
all-passed (Ok _) true true e = (refl, (refl, refl))

was_counted : (c : Result (Unit {0}) Refusal) (r : Bool) {k n : ℕ} → or_refused c (cond r (Ok k) (Err CanonTooLong)) ≡ Ok n → (c ≡ Ok tt) × ((r ≡ true) × (n ≡ k))
was_counted (Err r) b e = contra true refl (cc)
was_counted (Ok _) false e = contra true refl (cc)
was_counted (Ok _) true e = (refl, (refl, cc))

pub wrote : WritesCanon
unfolding attrs_wrote attrs_content writable wrote_of content_after has_room well_formed
wrote t a buf n e =
    let x = was_counted (writable t a) (has_room (length buf) (length (canon_of t a))) e in
    let y = all-passed (both_of t.first t.second) (table_ok t a) (is_some (meaning_of t a)) x.0 in
    let z = both (leb (length (canon_of t a)) max_text) (leb (length (canon_of t a)) (length buf)) x.1.0 in
    let c : attrs_content t a buf ≡ canon_of t a ++ drop (length (canon_of t a)) buf = rw (x.0, x.1.0) in
    record {
      fits = record {
        well = let b = both_texts t y.0 in rw (b.0, b.1, y.1.0);
        some = some_not (meaning_of t a) y.1.1;
        short = leb-true (length (canon_of t a)) max_text z.0;
      };
      count = x.1.1;
      front = rw c (take_at (canon_of t a) _ n (sym x.1.1));
      rest = rw (c, x.1.1) (drop_at (canon_of t a) _ (length (canon_of t a)) refl);
    }

-- what fits is written
pub writes : FitsIsWritten
unfolding attrs_wrote writable wrote_of has_room well_formed
writes t a buf f l =
    let w = formed_parts t a f.well in
    rw (both_pass t w.0 w.1, w.2, not_some (meaning_of t a) f.some, le-leb (length (canon_of t a)) max_text f.short, le-leb (length (canon_of t a)) (length buf) l)

pub bytes_equal : BytesEqual
bytes_equal t t' a a' buf buf' n n' e e' =
    let w = wrote t a buf n e in
    let w' = wrote t' a' buf' n' e' in
    let q = texts_equal t t' a a' w.fits w'.fits in
    (λ p. q.0 (sym w.front ∙ p ∙ w'.front), λ p. w.front ∙ q.1 p ∙ sym w'.front)

pub stores : BytesDiffer
stores t t' a a' buf buf' n n' e e' d p = d ((bytes_equal t t' a a' buf buf' n n' e e').0 p)

-- ======== "a canonical text reads back, to its last byte, with that meaning"
-- of a meaning that may be that of a set
module _ (m : List Entry) where
  record May : Type 0 where
    pub well : wf m ≡ true
    pub some : m ≡ [] → ⊥
    pub short : length (canon m) ≤ max_text
    pub utf8 : is_utf8 (canon m) ≡ true
    pub classes : class_count m ≤ max_classes
    pub keys : key_count m ≤ max_keys

  -- and has each class once already
  meaning_back : May → classes_once m ≡ m → ReadsBack (canon m) m
  meaning_back h o =
      let b = back m h.well h.some in
      let g = rw o at (reads_as b h.short h.utf8 h.classes h.keys) in
      let i = ap canon g.means in
      record {
        answer = g.answer;
        means = g.means;
        lists = lists_as Strict (canon m) 0 b g.answer;
        fits = record { well = handed_out_ok Strict (canon m) 0 (is_text_lem (canon m) h.short h.utf8); some = λ q. h.some (sym g.means ∙ q); short = rw i h.short };
        again = i;
      }

module _ {t : Texts} {a : Attrs} (f : CanonFits t a) where
  may : May (meaning_of t a)
  unfolding table_ok counts_ok meaning_of listed_of rows_in wf
  may =
      let k = (formed_parts t a f.well).2 in
      let w = means_wf t a k in
      let m = listed_of t a in
      let c = (both (counts_ok a) (rows_ok t (rows_in a)) k).0 in
      let x = both (leb a.nclass max_classes) _ c in
      let y = both (leb a.nkey max_keys) (leb a.norder max_slots) x.1 in
      let s = shaped t a k in
      let d = (both (all entry_ok m) (distinct m) (lists_wf t a k)).1 in
      record {
        well = w;
        some = f.some;
        short = f.short;
        utf8 = written_utf8 t a f.well;
        classes = omega (arith, once_classes m, class_rows s, length-take a.nclass a.classes, leb-true a.nclass max_classes x.0);
        keys = omega (arith, once_keys m, key_rows s d, length-take a.nkey a.keys, leb-true a.nkey max_keys y.0);
      }

pub reads_back : CanonReadsBack
unfolding meaning_of
reads_back t a f = meaning_back (meaning_of t a) (may f) (once_twice (listed_of t a))

pub bytes_back : BytesBack
bytes_back t a buf n e = let w = wrote t a buf n e in rw w.front (reads_back t a w.fits)

-- ======== "a writer that stores nothing or a constant" is shut out by reading back: no bytes read back with the meaning of every set
-- what `{a}` and `{b}` mean
abbrev bare : ℕ → List Entry
bare b = record { name = b ∷ []; values = [] ∷ [] } ∷ []

bare_may : (x : Bool) → May (bare (cond x 97 98))
unfolding wf entry_ok all values_ok is_class same is_key headed is_key_start is_name_part is_alnum is_letter is_digit within no_lf distinct absent canon pairs flat_map pairs_of
    pairs_text more_text marked is_marked escape class_count key_count is_free
bare_may true = record { well = refl; some = λ q. contra true refl (cc); short = omega arith; utf8 = ascii (canon (bare 97)) refl; classes = omega arith; keys = omega arith }
bare_may false = record { well = refl; some = λ q. contra true refl (cc); short = omega arith; utf8 = ascii (canon (bare 98)) refl; classes = omega arith; keys = omega arith }

pub no_constant : NoConstant
unfolding absent all same classes_once once_in is_class
no_constant c h =
    let x = meaning_back (bare 97) (bare_may true) refl in
    let y = meaning_back (bare 98) (bare_may false) refl in
    let p : bare 98 ≡ bare 97 = sym ((h _ _ y.fits).means ∙ y.means) ∙ (h _ _ x.fits).means ∙ x.means in
    contra true refl (ap (absent (97 ∷ [])) p)
