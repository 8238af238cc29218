-- What was read at a brace is well-formed and isn't empty; written and read again it lists each class once.
-- Assumes nothing.
use mathlib.Core.Path.{◌≡◌, refl, sym, ◌∙◌, ap}
use mathlib.Core.Bool.{true}
use mathlib.Core.List.{List, []}
use Prim.Native.Nat.{ℕ, suc}
use native.Mathlib.Omega.{arith}
use lib.ListN.{length}
use Rattle.base_lists.proofs.More.{contra}
use Rattle.base_bytes.specs.declared.Mode.{Mode}
use Rattle.base_bytes.specs.declared.Mode.TheVariants.{Strict}
use Rattle.block_grammar.specs.Meaning.{Entry, classes_once}
use Rattle.block_grammar.proofs.Once.{once_empty, once_repeat}
use Rattle.block_grammar.specs.Close.{Closes}
use Rattle.set_canon.specs.Canon.{canon}
use Rattle.proved_sets.specs.Formed.{wf}
use Rattle.proved_sets.proofs.CanonWellFormed.{read_wf, read_some}
use Rattle.proved_sets.proofs.CanonOnce.{once_wf}
use Rattle.proved_sets.proofs.CanonBack.{back}
use Rattle.proved_sets.proofs.CanonAtBrace.{Answer, AtBrace, read_at, by_rules, only}
use Rattle.proved_sets.specs.Canonical.{ReadAs, ReadOnce, CanonReads, ReadFormed, ReadAgain, RepeatedUnwritten}
use Rattle.set_table.specs.Rows.{meaning_of}

pub read_rests : (m : Mode) (s : List ℕ) (i : ℕ) (a : List Entry) (next : ℕ) → read_at m s i ≡ Answer.read a next → ReadAs m s i a next
read_rests m s i a next e = go (by_rules m s i) e
  where
    go : {r : Answer} → AtBrace m s i r → r ≡ Answer.read a next → ReadAs m s i a next
    go (AtBrace.none n) e = contra true refl (cc)
    go (AtBrace.unclosed b n) e = contra true refl (cc)
    go (AtBrace.unread b c n) e = contra true refl (cc)
    go (AtBrace.read {e = k} {is = is} b c p) e =
        let z : next ≡ suc k = cc in
        record {
          brace = b;
          inside = c.inside;
          rest = c.rest;
          whole = c.whole;
          covered = c.covered;
          flat = c.flat;
          items = is;
          reading = p;
          lists = cc;
          after = omega (arith, c.place);
        }

module _ (m : Mode) (s : List ℕ) (i : ℕ) (a : List Entry) (next : ℕ) (e : read_at m s i ≡ Answer.read a next) where
  -- what was read is well-formed and not empty
  pub well_formed_lem : (wf a ≡ true) × (a ≡ [] → ⊥)
  well_formed_lem =
      let r = read_rests m s i a next e in
      (rw r.lists at (read_wf r.reading r.flat), λ q. read_some r.reading (r.lists ∙ q))

-- ======== by the rules alone
-- what a block is read as is what reading at its brace answers
as_read : {m : Mode} {s : List ℕ} {i : ℕ} {a : List Entry} {next : ℕ} → ReadAs m s i a next → read_at m s i ≡ Answer.read a next
as_read {i = i} r =
    let c : Closes _ (suc i) _ = record { inside = r.inside; rest = r.rest; whole = r.whole; place = refl; covered = r.covered; flat = r.flat } in
    only (AtBrace.read r.brace c r.reading) ∙ (rw (r.lists, r.after))

pub read_once : ReadOnce
read_once m s i a b j k r q = let e = sym (as_read r) ∙ as_read q in (cc, cc)

pub canon_reads : CanonReads
canon_reads m h n = read_rests Strict (canon m) 0 m (length (canon m)) (back m h n)

pub read_formed : ReadFormed
read_formed m s i a next r = well_formed_lem m s i a next (as_read r)

pub read_again : ReadAgain
read_again m s i a next r = let w = read_formed m s i a next r in canon_reads (classes_once a) (once_wf a w.0) (λ q. w.1 (once_empty a q))

pub repeated_unwritten : RepeatedUnwritten
unfolding meaning_of
repeated_unwritten t t' a a' m us v ws n h e e' = ap canon (ap classes_once e ∙ once_repeat m us v ws n h ∙ sym (ap classes_once e'))
