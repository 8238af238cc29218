-- Reading at a brace and its definition without sizes, limits and UTF-8 (proved_sets/proofs/CanonAtBrace): so what was read, written and read again is the same.
-- Assumes nothing.
use Rattle.std.specs.Prelude.{Err, Ok, Result}
use mathlib.Core.Path.{◌≡◌, refl, ◌∙◌, ap, sym}
use mathlib.Core.Bool.{Bool, true, false}
use mathlib.Core.List.{List, [], ◌∷◌}
use Prim.Native.Nat.{ℕ, suc, ◌<◌, ◌≤◌}
use native.Mathlib.Omega.{arith}
use native.Mathlib.Numerals.{add-one}
use lib.Dec.{leb}
use borrow.Author.Tests.{leb-true, leb-false}
use lib.ListN.{length, get_or, get_or-eq_default}
use Rattle.base_lists.specs.Lists.{is_in}
use Rattle.base_lists.proofs.More.{contra}
use Rattle.base_bytes.specs.declared.Mode.{Mode}
use Rattle.text_utf8.specs.Computed.{is_utf8}
use Rattle.proved_texts.specs.Utf8Rules.{WellFormed}
use Rattle.proved_texts.proofs.Utf8Grammar as utf8
use Rattle.proved_texts.proofs.Utf8Boundaries.{before_ascii, after_ascii, part_utf8}
use Rattle.base_refusals.specs.Numbers.{max_text, number_of}
use Rattle.base_refusals.specs.declared.Refusal.TheVariants.{NoReading}
use Rattle.block_grammar.specs.Meaning.{Entry, classes_once}
use Rattle.proved_grammar.specs.Meaning.{meaning, listed}
use Rattle.block_grammar.specs.ComputedClose.{find_close}
use Rattle.block_grammar.proofs.Close.{found, payload_is}
use Rattle.proved_sets.proofs.CanonAtBrace as rules
use Rattle.proved_sets.proofs.CanonAtBrace.{AtBrace, read_at}
use Rattle.proved_sets.proofs.CanonAgain.{well_formed_lem}
use Rattle.set_table.specs.Types.{one, max_classes, max_keys}
use Rattle.set_table.specs.Rows.{meaning_of, listed_of}
use Rattle.read_brace.specs.declared.NotRead.{NotRead}
use Rattle.read_brace.specs.declared.NotRead.TheVariants.{Refused, Unread}
use Rattle.read_brace.specs.declared.Read.{Read}
use Rattle.read_brace.specs.Brace.{read_attrs_at}
use Rattle.proved_reading.specs.Table.{BlockAt, Given}
use Rattle.proved_sets.specs.Limits.{class_count, key_count}
use Rattle.proved_sets.proofs.Counts.{class_listed, key_listed, once_classes, once_keys}
use Rattle.proved_reading.specs.AtBraces.{meant_at, AnswersSo, ReadIsWell, ReadsBackAgain, BraceLists}
use Rattle.proved_reading.proofs.Meaning.{given, only, read_means, set_lists}
use Rattle.proved_grammar.proofs.Close.{close_complete}
use Rattle.block_grammar.proofs.Once.{once_twice, once_empty}
use Rattle.proved_sets.proofs.CanonOnce.{once_wf}
use Rattle.proved_sets.proofs.CanonBack.{back}

-- what was read, by the refusal's number, or by the set's meaning and the place behind the close
abbrev seen_as : Result ℕ NotRead → List Entry → rules.Answer
seen_as (Err (Refused r)) s = rules.Answer.refused (number_of r)
seen_as (Err (Unread n)) s = rules.Answer.refused (number_of NoReading)
seen_as (Ok n) s = rules.Answer.read s n

abbrev seen : List ℕ → Read → rules.Answer
seen t r = seen_as r.answer (meaning_of (one t) r.set)

-- a brace stands in the text
inside : (t : List ℕ) (i : ℕ) → get_or t i 0 ≡ 123 → i < length t
inside t i b = go (leb (length t) i) refl
  where
    go : (x : Bool) → leb (length t) i ≡ x → i < length t
    go true e = absurd (omega (arith, get_or-eq_default t 0 (leb-true (length t) i e)))
    go false e = leb-false (length t) i e

-- the answers that have nothing to do with sizes, limits and UTF-8: 3, 4, 5 and a set
abbrev is_shared : Result ℕ NotRead → Bool
is_shared (Err (Refused r)) = is_in (3 ∷ 4 ∷ []) (number_of r)
is_shared (Err (Unread n)) = true
is_shared (Ok n) = true

-- what the items list, each class once
abbrev once_by : rules.Answer → rules.Answer
once_by (rules.Answer.refused n) = rules.Answer.refused n
once_by (rules.Answer.read s n) = rules.Answer.read (classes_once s) n

agrees : (m : Mode) (t : List ℕ) (i : ℕ) → is_shared (read_attrs_at m t i).answer ≡ true → once_by (read_at m t i) ≡ seen t (read_attrs_at m t i)
unfolding is_in number_of meaning
agrees m t i e = go (given m t i) e
  where
    go : {a : Result ℕ NotRead} {s : List Entry} → Given m t i a s → is_shared a ≡ true → once_by (read_at m t i) ≡ seen_as a s
    go (Given.long l) q = contra false q refl
    go (Given.none l n) q = ap once_by (rules.only (AtBrace.none (λ b. n (record { there = inside t i b; brace = b }))))
    go (Given.unclosed l o n) q = ap once_by (rules.only (AtBrace.unclosed o.brace n))
    go (Given.garbled b n) q = contra false q refl
    go (Given.unread b w n p) q = ap once_by (rules.only (AtBrace.unread b.opens.brace b.closes n))
    go (Given.classes h l) q = contra false q refl
    go (Given.keys h l k) q = contra false q refl
    go (Given.read h l k) q = ap once_by (rules.only (AtBrace.read h.block.opens.brace h.block.closes h.payload))

-- ======== "2 .. the payload at a brace": never of a text that is UTF-8
block_utf8 : {t : List ℕ} {i e : ℕ} → is_utf8 t ≡ true → (b : BlockAt t i e) → WellFormed b.closes.inside
unfolding find_close
block_utf8 {t} {i} {e} u b =
    let f = found t (suc i) e (close_complete b.closes) in
    let x = after_ascii t i b.opens.there (omega (arith, b.opens.brace)) u in
    let y = before_ascii t e f.to (omega (arith, f.brace)) in
    utf8.sound b.closes.inside (rw (payload_is t (suc i) b.closes) at (part_utf8 t (suc i) e u (rw add-one at x) y f.from))

-- ======== what is read there within sizes and limits is read here
module _ {m : Mode} {t : List ℕ} {i : ℕ} {s : List Entry} {n : ℕ} where
  pub reads_as : read_at m t i ≡ rules.Answer.read s n → length t ≤ max_text → is_utf8 t ≡ true → class_count s ≤ max_classes → key_count s ≤ max_keys → AnswersSo m t i (Ok n) (classes_once s)
  unfolding meaning
  reads_as e l u c k = go (rules.by_rules m t i) e
    where
      go : {r : rules.Answer} → AtBrace m t i r → r ≡ rules.Answer.read s n → AnswersSo m t i (Ok n) (classes_once s)
      go (AtBrace.none x) q = contra true refl (cc)
      go (AtBrace.unclosed b x) q = contra true refl (cc)
      go (AtBrace.unread b x y) q = contra true refl (cc)
      go (AtBrace.read {e = e} {is = is} b x p) q =
          let y : s ≡ listed is = cc in
          let z : n ≡ suc e = cc in
          let w : BlockAt t i e = record { short = l; opens = record { there = inside t i b; brace = b }; closes = x } in
          rw (y, z) (only (Given.read (record { block = w; utf8 = block_utf8 u w; payload = p }) (omega (arith, class_listed is, ap class_count y)) (omega (arith, key_listed is, ap key_count y))))

-- the set lists what is read
pub lists_as : (m : Mode) (t : List ℕ) (i : ℕ) {s : List Entry} {n k : ℕ} → read_at m t i ≡ rules.Answer.read s n → (read_attrs_at m t i).answer ≡ Ok k → listed_of (one t) (read_attrs_at m t i).set ≡ s
lists_as m t i e q =
    let r = read_means q in
    let z = sym (rules.only (AtBrace.read r.reads.block.opens.brace r.reads.block.closes r.reads.payload)) ∙ e in
    set_lists m t i q ∙ (cc)

pub brace_lists : BraceLists
brace_lists m t i n e is q r = lists_as m t i (rules.only (AtBrace.read r.block.opens.brace r.block.closes r.payload)) q

-- ======== what was read has a canonical text, which reads back
listed_by : (r : rules.Answer) {x : List Entry} {n : ℕ} → once_by r ≡ rules.Answer.read x n → (l : List Entry) × (r ≡ rules.Answer.read l n) × (classes_once l ≡ x)
listed_by (rules.Answer.refused k) e = contra true refl (cc)
listed_by (rules.Answer.read s k) e = (s, cc, cc)

module _ (m : Mode) (t : List ℕ) (i : ℕ) {n : ℕ} where
  was_read : (read_attrs_at m t i).answer ≡ Ok n → (l : List Entry) × (read_at m t i ≡ rules.Answer.read l n) × (classes_once l ≡ meant_at m t i)
  was_read e = listed_by (read_at m t i) (agrees m t i (rw e) ∙ (rw e))

  pub read_well : ReadIsWell m t i n
  read_well e =
      let w = was_read e in
      let g = well_formed_lem m t i w.0 n w.1 in
      (rw w.2 at (once_wf w.0 g.0), λ q. g.1 (once_empty w.0 (w.2 ∙ q)))

  -- each class once already
  own : (read_attrs_at m t i).answer ≡ Ok n → classes_once (meant_at m t i) ≡ meant_at m t i
  own e = let w = was_read e in (rw w.2 at (once_twice w.0))

  pub read_again : ReadsBackAgain m t i n
  unfolding meaning
  read_again e l u =
      let r = read_means e in
      let y = listed r.items in
      let w = read_well e in
      rw (own e) at (reads_as (back (meant_at m t i) w.0 w.1) l u
      (omega (arith, class_listed r.items, once_classes y, ap class_count r.meant, r.classes))
      (omega (arith, key_listed r.items, once_keys y, ap key_count r.meant, r.keys)))
