-- A strict reading gives what the rules say, and they give nothing else.
-- Assumes nothing.
use Rattle.std.specs.Prelude.{None, Option, Some, Result}
use mathlib.Core.Path.{◌≡◌, refl, ◌∙◌, ap}
use mathlib.Core.Bool.{Bool, true, false, cond}
use mathlib.Core.List.{List}
use Prim.Native.Nat.{ℕ, suc}
use borrow.Author.Tests.{ltb-false, le-ltb}
use lib.Dec.{ltb}
use lib.ListN.{length}
use Rattle.base_lists.proofs.More.{contra}
use Rattle.base_bytes.specs.declared.Mode.{Mode}
use Rattle.base_refusals.specs.Numbers.{max_text}
use Rattle.base_refusals.specs.declared.Refusal.TheVariants.{BadTag}
use Rattle.text_utf8.specs.Computed.{is_utf8}
use Rattle.proved_texts.proofs.Utf8Grammar as utf8
use Rattle.block_grammar.specs.Grammar.{Placed, Reading}
use Rattle.block_grammar.specs.Computed.{read_payload}
use Rattle.block_grammar.specs.ComputedClose.{find_close}
use Rattle.block_grammar.specs.Meaning.{Entry}
use Rattle.block_grammar.proofs.Payload.{sound, complete}
use Rattle.block_grammar.proofs.Close.{found}
use Rattle.set_table.specs.Types.{one}
use Rattle.set_table.specs.Rows.{meaning_of}
use Rattle.proved_sets.proofs.TableWhole.{empty_means}
use Rattle.proved_sets.proofs.Limits.{exactly}
use Rattle.read_brace.specs.declared.NotRead.{NotRead}
use Rattle.read_brace.specs.declared.Read.{Read}
use Rattle.read_brace.specs.Brace.{refusing_read, brace_at, payload_of, at_brace, read_attrs_at}
use Rattle.proved_reading.specs.Table.{BlockAt, Reads}
use Rattle.proved_reading.proofs.Meaning.{opens, opened, inside_is, close_is, given, only}
use Rattle.read_tags.specs.Tagged.{tag_passes, passed_by, tag_to, tag_at, read_tagged}
use Rattle.read_tags.specs.declared.Tags.TheVariants.{WellFormed}
use Rattle.proved_tags.specs.Rules.{StrictGiven, StrictByRules}
use Rattle.proved_tags.proofs.Langs.{passes_allowed, allowed_passes, fails_malformed, malformed_fails}

-- ---- the reading of the payload at a brace, if there is one

abbrev reading_to : Mode → List ℕ → ℕ → Option ℕ → Reading
reading_to m t i None = Reading.refused
reading_to m t i (Some e) = cond (is_utf8 (payload_of t i e)) (read_payload m (suc i) (payload_of t i e)) Reading.refused

unfoldable reading_at : Mode → List ℕ → ℕ → Reading
reading_at m t i = at_brace Reading.refused Reading.refused (reading_to m t i) t i

module _ (m : Mode) (t : List ℕ) (i : ℕ) where
  tag_reading : tag_at m t i ≡ passed_by (reading_at m t i)
  unfolding tag_at reading_at at_brace
  tag_reading = go (ltb max_text (length t)) (brace_at t i) (find_close t (suc i))
    where
      cut : (b : Bool) (r : Reading) → cond b (passed_by r) true ≡ passed_by (cond b r Reading.refused)
      cut true r = refl
      cut false r = refl

      closed : (p : Option ℕ) → tag_to m t i p ≡ passed_by (reading_to m t i p)
      closed None = refl
      closed (Some e) = cut (is_utf8 (payload_of t i e)) (read_payload m (suc i) (payload_of t i e))

      go : (a b : Bool) (p : Option ℕ) → cond a true (cond b (tag_to m t i p) true) ≡ passed_by (cond a Reading.refused (cond b (reading_to m t i p) Reading.refused))
      go true b p = refl
      go false true p = closed p
      go false false p = refl

  reads_at : {e : ℕ} {is : List Placed} → Reads m t i e is → reading_at m t i ≡ Reading.items is
  unfolding reading_at at_brace
  reads_at h = let b = h.block in rw (le-ltb max_text (length t) b.short, opened b.opens, close_is b, inside_is b, utf8.complete h.utf8) (complete h.payload)

  -- and it is the grammar's
  record ReadSo (is : List Placed) : Type 0 where
    close : ℕ
    reads : Reads m t i close is

  at_reads : {is : List Placed} → reading_at m t i ≡ Reading.items is → ReadSo is
  unfolding reading_at at_brace
  at_reads {is} q = go (ltb max_text (length t)) refl (brace_at t i) refl (find_close t (suc i)) refl q
    where
      cut : (e : ℕ) → BlockAt t i e → (u : Bool) → is_utf8 (payload_of t i e) ≡ u → cond u (read_payload m (suc i) (payload_of t i e)) Reading.refused ≡ Reading.items is → ReadSo is
      cut e b true u r =
          let w = inside_is b in
          record { close = e; reads = record { block = b; utf8 = utf8.sound b.closes.inside (rw w at u); payload = sound m (suc i) b.closes.inside is (rw w at r) } }
      cut e b false u r = contra true refl (cc)

      go : (x : Bool) → ltb max_text (length t) ≡ x → (y : Bool) → brace_at t i ≡ y → (p : Option ℕ) → find_close t (suc i) ≡ p
          → cond x Reading.refused (cond y (reading_to m t i p) Reading.refused) ≡ Reading.items is → ReadSo is
      go true a y b p c r = contra true refl (cc)
      go false a false b p c r = contra true refl (cc)
      go false a true b None c r = contra true refl (cc)
      go false a true b (Some e) c r =
          cut e (record { short = ltb-false max_text (length t) a; opens = opens t i b; closes = (found t (suc i) e c).closes }) (is_utf8 (payload_of t i e)) refl r

  -- ---- by whether it passes
  pub strict_passes : tag_at m t i ≡ true → read_tagged WellFormed m t i ≡ read_attrs_at m t i
  unfolding read_tagged
  strict_passes e = rw e

  strict_fails : tag_at m t i ≡ false → read_tagged WellFormed m t i ≡ refusing_read BadTag
  unfolding read_tagged
  strict_fails e = rw e

  pub reads_tag : {e : ℕ} {is : List Placed} → Reads m t i e is → tag_at m t i ≡ tag_passes is
  reads_tag h = tag_reading ∙ ap passed_by (reads_at h)

  -- ---- what is given is by the rules
  abbrev Strictly : Read → Type 0
  Strictly r = StrictGiven m t i r.answer (meaning_of (one t) r.set)

  given_strictly : Strictly (read_tagged WellFormed m t i)
  given_strictly = go (reading_at m t i) refl
    where
      items : {is : List Placed} → ReadSo is → (b : Bool) → tag_passes is ≡ b → Strictly (read_tagged WellFormed m t i)
      items {is} h true p = rw (strict_passes (reads_tag h.reads ∙ p)) (StrictGiven.passed h.reads (passes_allowed is p) (given m t i))
      items {is} h false p =
          let z = fails_malformed is p in
          rw (strict_fails (reads_tag h.reads ∙ p), empty_means (one t)) (StrictGiven.malformed h.reads z.there z.bad)

      go : (r : Reading) → reading_at m t i ≡ r → Strictly (read_tagged WellFormed m t i)
      go Reading.refused q = rw (strict_passes (tag_reading ∙ ap passed_by q)) (StrictGiven.unread (λ e is h. contra true refl (cc (reads_at h))) (given m t i))
      go (Reading.items is) q = items (at_reads q) (tag_passes is) refl

  -- ---- and the rules give nothing else
  abbrev Answers : Result ℕ NotRead → List Entry → Read → Type 0
  Answers a s r = (r.answer ≡ a) × (meaning_of (one t) r.set ≡ s)

  pub unread_tag : ((e : ℕ) (is : List Placed) → Reads m t i e is → ⊥) → tag_at m t i ≡ true
  unread_tag n = go (reading_at m t i) refl
    where
      go : (r : Reading) → reading_at m t i ≡ r → tag_at m t i ≡ true
      go Reading.refused q = tag_reading ∙ ap passed_by q
      go (Reading.items is) q = let h = at_reads q in absurd (n h.close is h.reads)

  only_strictly : (a : Result ℕ NotRead) (s : List Entry) → StrictGiven m t i a s → Answers a s (read_tagged WellFormed m t i)
  only_strictly a s (StrictGiven.unread n g) = let z = only g in rw (strict_passes (unread_tag n)) (z.answer, z.means)
  only_strictly _ _ (StrictGiven.malformed {is = is} {v = v} h e n) = rw (strict_fails (reads_tag h ∙ malformed_fails is v e n)) (refl, empty_means (one t))
  only_strictly a s (StrictGiven.passed {is = is} h l g) = let z = only g in rw (strict_passes (reads_tag h ∙ allowed_passes is l)) (z.answer, z.means)

pub strict_by_rules : StrictByRules
strict_by_rules m t i = exactly (only_strictly m t i) (given_strictly m t i)
