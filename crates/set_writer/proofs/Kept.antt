-- A set whose classes are each listed once lists what the set means, and what is written of the one is written of the other.
-- Assumes nothing.
use Rattle.std.specs.Prelude.{Result}
use mathlib.Core.Path.{◌≡◌, sym}
use mathlib.Core.List.{List, map}
use Prim.Native.Nat.{ℕ, ◌<◌}
use native.Mathlib.Omega.{arith}
use lib.ListN.{length, take, length-take, length-map}
use Rattle.block_grammar.specs.Meaning.{Entry, once_in, classes_once}
use Rattle.set_table.specs.Types.{Texts, value_bytes}
use Rattle.set_table.specs.Rows.{listed_of, meaning_of}
use Rattle.set_table.specs.declared.Attrs.{Attrs}
use Rattle.set_canon.specs.Canon.{canon}
use Rattle.set_once.proofs.Kept.{few_once, lists_once}
use Rattle.set_writer.specs.Write.{wrote_of, content_after}
use Rattle.base_refusals.specs.declared.Refusal.{Refusal}

module _ (t : Texts) (a : Attrs) where
  -- fewer than two are each there once
  pub few_listed : a.nclass < 2 → listed_of t a ≡ meaning_of t a
  unfolding meaning_of
  few_listed h = lists_once t a a.nclass a.classes (sym (few_once (map (value_bytes t) (take a.nclass a.classes)) (simp length-map (omega (arith, length-take a.nclass a.classes)))))

  pub means_length : length (meaning_of t a) ≡ length (listed_of t a)
  unfolding meaning_of classes_once
  means_length = length-map (listed_of t a) once_in

  pub once_listed : {m : List Entry} → m ≡ classes_once (listed_of t a) → m ≡ meaning_of t a
  unfolding meaning_of
  once_listed e = e

  -- what is written of a list that is the set's meaning is written of the set
  pub by_listed : (buf : List ℕ) {m : List Entry} → m ≡ meaning_of t a → {w : Result ℕ Refusal} {b : List ℕ} → w ≡ wrote_of (canon m) (length buf) → b ≡ content_after buf (canon m)
      → (w ≡ wrote_of (canon (meaning_of t a)) (length buf)) × (b ≡ content_after buf (canon (meaning_of t a)))
  by_listed buf e f g = rw (sym e) (f, g)

  pub by_measured : (size : ℕ) {m : List Entry} → m ≡ meaning_of t a → {w : Result ℕ Refusal} → w ≡ wrote_of (canon m) size → w ≡ wrote_of (canon (meaning_of t a)) size
  by_measured size e f = rw (sym e) f
