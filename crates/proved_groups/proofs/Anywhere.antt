-- What is read strictly is read in both modes and at any place, and says the same; so a canonical text is a block anywhere.
-- Assumes nothing.
use mathlib.Core.Path.{◌≡◌, refl, ◌∙◌, ap}
use mathlib.Core.Bool.{Bool, true, false, ◌||◌}
use mathlib.Core.List.{List, [], ◌∷◌, ◌++◌}
use Prim.Native.Nat.{ℕ, suc, ◌+◌}
use native.Mathlib.Omega.{arith}
use lib.Dec.{eqb}
use lib.ListN.{length, length-append}
use Rattle.base_lists.specs.Lists.{is_in}
use Rattle.base_lists.proofs.More.{contra, all_weaker}
use Rattle.base_bytes.specs.declared.Mode.{Mode}
use Rattle.base_bytes.specs.declared.Mode.TheVariants.{Strict, Loose}
use Rattle.base_bytes.specs.Bytes.{is_blank}
use Rattle.block_grammar.specs.Grammar.{Placed, Blanks}
use Rattle.block_grammar.specs.Meaning.{Entry}
use Rattle.block_grammar.proofs.Chain.{Chain, payload_chain, chain_payload}
use Rattle.block_chain.specs.Chain.{OneBlock}
use Rattle.proved_grammar.specs.Meaning.{said, puts, entries_of, listed}
use Rattle.set_canon.specs.Canon.{canon}
use Rattle.proved_sets.specs.Formed.{wf}
use Rattle.proved_sets.specs.Canonical.{ReadAs}
use Rattle.proved_sets.proofs.CanonAgain.{canon_reads}

-- ======== a strict blank is one in both modes
blank_both : (m : Mode) (b : ℕ) → is_blank Strict b ≡ true → is_blank m b ≡ true
unfolding is_blank is_in
blank_both Strict b h = h
blank_both Loose b h = go (eqb b 32) h
  where
    go : (x : Bool) → (x || false) ≡ true → (x || (eqb b 13 || (eqb b 10 || false))) ≡ true
    go true h = refl
    go false h = contra false h refl

blanks_both : (m : Mode) {s : List ℕ} → Blanks Strict s → Blanks m s
blanks_both m {s} e = record { each = all_weaker (is_blank Strict) (is_blank m) (blank_both m) s e.each }

-- ======== the same items, at another place
record Moved (m : Mode) (at : ℕ) (s : List ℕ) (is : List Placed) : Type 0 where
  items : List Placed
  chain : Chain m at s items
  says : entries_of items ≡ entries_of is

moved : (m : Mode) (at : ℕ) {from : ℕ} {s : List ℕ} {is : List Placed} → Chain Strict from s is → Moved m at s is
unfolding entries_of
moved m at (Chain.blank {b = b} h p) = let r = moved m (suc at) p in record { items = r.items; chain = Chain.blank (blank_both m b h) r.chain; says = r.says }
moved m at (Chain.last {i = i} t e) = record { items = record { at = at; item = i } ∷ []; chain = Chain.last t (blanks_both m e); says = refl }
moved m at (Chain.more {t = u} {i = i} b t h p) =
    let r = moved m (suc (at + length u)) p in
    record { items = record { at = at; item = i } ∷ r.items; chain = Chain.more b t (blank_both m b h) r.chain; says = ap (λ es. said i ∷ es) r.says }

-- ======== a canonical text is a block anywhere
pub record Stands (m : Mode) (at : ℕ) (x : List Entry) : Type 0 where
  pub items : List Placed
  pub block : OneBlock m at (canon x) items
  pub lists : listed items ≡ x

none_left : (s : List ℕ) → length s ≡ 0 → s ≡ []
none_left [] h = refl
none_left (b ∷ s) h = absurd (omega (arith, h))

pub canon_stands : (m : Mode) (at : ℕ) (x : List Entry) → wf x ≡ true → (x ≡ [] → ⊥) → Stands m at x
unfolding canon listed
canon_stands m at x h n = go (canon_reads x h n)
  where
    go : ReadAs Strict (canon x) 0 x (length (canon x)) → Stands m at x
    go r =
        let w : canon x ≡ 123 ∷ (r.inside ++ (125 ∷ r.rest)) = ap (λ s. 123 ∷ s) r.whole in
        let z = none_left r.rest (omega (arith, ap length w, r.after, length-append r.inside (125 ∷ r.rest))) in
        let k = moved m (suc at) (payload_chain r.reading) in
        let b : OneBlock m at (123 ∷ (r.inside ++ (125 ∷ []))) k.items = OneBlock.block r.covered r.flat (chain_payload k.chain) in
        record { items = k.items; block = rw (w, z) b; lists = ap (puts []) k.says ∙ r.lists }
