-- A set of the first text alone, exchanged and lent that text as the second, behaves as before.
-- Assumes nothing.
use Rattle.std.specs.Prelude.{Err, Ok, Result}
use mathlib.Core.Path.{◌≡◌, refl, ◌∙◌, ap}
use mathlib.Core.Bool.{true}
use mathlib.Core.List.{List, []}
use Prim.Native.Nat.{ℕ}
use Rattle.text_checks.specs.Check.{is_text, both_of}
use Rattle.text_checks.specs.Outcomes.{or_else}
use Rattle.set_table.specs.Types.{two, one}
use Rattle.set_table.specs.declared.Origin.TheVariants.{First}
use Rattle.set_table.specs.declared.Attrs.{Attrs}
use Rattle.set_exchange.specs.Exchange.{exchanged}
use Rattle.set_writer.specs.Write.{or_refused, writable, attrs_wrote}
use Rattle.set_merge.specs.Merge.{merged_by, merge_of}
use Rattle.proved_origins.specs.OneText.{is_all_of, MergesMirrored, Mirrored, MirrorsAsBefore}
use Rattle.proved_origins.proofs.Checks.{changed_lent}
use Rattle.proved_origins.proofs.Exchanged.{exchange_keeps, exchange_merges, exchange_writes}
use Rattle.proved_origins.proofs.OneText.{exchanged_of, behaves_as_before}
use Rattle.base_refusals.specs.declared.Refusal.{Refusal}

module _ (t u : List ℕ) where
  -- the checks of the two texts, asked again before the answer
  module _ (h : is_text u ≡ true) where
    wrote_again : (a : Attrs) (size : ℕ) → or_refused (both_of u t) (attrs_wrote (one t) a size) ≡ attrs_wrote (one t) a size
    unfolding attrs_wrote writable
    wrote_again a size = rw (changed_lent t u h) (go (both_of t []) _ _)
      where
        go : (o q : Result (Unit {0}) Refusal) (w : Result ℕ Refusal) → or_refused o (or_refused (or_else o q) w) ≡ or_refused (or_else o q) w
        go (Ok _) q w = refl
        go (Err r) q w = refl

    merged_again : (a b : Attrs) → or_else (both_of u t) (merge_of (one t) a b).outcome ≡ (merge_of (one t) a b).outcome
    unfolding merge_of
    merged_again a b = rw (changed_lent t u h) (go (both_of t []))
      where
        go : (o : Result (Unit {0}) Refusal) → or_else o (merged_by o (one t) a b).outcome ≡ (merged_by o (one t) a b).outcome
        go (Ok _) = refl
        go (Err r) = refl

  mirrored : (a : Attrs) → is_all_of First a ≡ true → Mirrored t u a
  mirrored a e =
      let b = (behaves_as_before First t u).one a e in
      let k = exchange_keeps (two t u) a in
      let w = exchange_writes (two t u) a in
      record {
        means = k.means ∙ b.means;
        table = k.table ∙ b.table;
        formed = λ h. k.formed ∙ b.formed h;
        wrote = λ h size. w.wrote size ∙ (ap (or_refused (both_of u t)) (b.wrote h size) ∙ wrote_again h a size);
        content = λ h buf. w.content buf ∙ b.content h buf;
      }

  merges : (a b : Attrs) → is_all_of First a ≡ true → is_all_of First b ≡ true → MergesMirrored t u a b
  merges a b e f h =
      let k = (behaves_as_before First t u).merge a b e f h in
      let m = exchange_merges (two t u) a b in
      let o : (merge_of (two u t) (exchanged a) (exchanged b)).outcome ≡ (merge_of (one t) a b).outcome = m.outcome ∙ (ap (λ x. or_else (both_of u t) x.outcome) k ∙ merged_again h a b) in
      let s : (merge_of (two u t) (exchanged a) (exchanged b)).set ≡ exchanged (merge_of (one t) a b).set = m.set ∙ ap (λ x. exchanged x.set) k in
      rw (← o, ← s)

pub mirrors_as_before : MirrorsAsBefore
mirrors_as_before t u = record { of = λ a e. exchanged_of First a ∙ e; one = mirrored t u; merge = merges t u }
