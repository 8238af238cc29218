-- The set of a line of blocks is well-formed if its text gives neither 1 nor 2.
-- Assumes nothing.
use mathlib.Core.Path.{◌≡◌, refl, sym, ◌∙◌, ap}
use mathlib.Core.Bool.{Bool, true, false, cond}
use mathlib.Core.List.{List, [], ◌∷◌, ◌++◌, append_assoc}
use Prim.Native.Nat.{ℕ}
use native.Mathlib.Omega.{arith}
use lib.Dec.{ltb}
use lib.ListN.{length}
use lib.Seq.{slice}
use Rattle.text_checks.proofs.Texts.{text_utf8}
use Rattle.base_lists.specs.Lists.{all}
use Rattle.base_bytes.specs.declared.Mode.{Mode}
use Rattle.text_utf8.specs.Computed.{is_utf8}
use Rattle.text_checks.specs.Check.{is_text}
use Rattle.base_refusals.specs.Numbers.{max_text}
use Rattle.base_refusals.specs.declared.Refusal.TheVariants.{TextTooLong}
use Rattle.block_grammar.specs.Grammar.{Placed, Reading}
use Rattle.block_chain.specs.Chain.{OneBlock, Blocks}
use Rattle.block_chain.specs.Computed.{read_blocks}
use Rattle.block_chain.proofs.Blocks.{sound}
use Rattle.set_table.specs.Types.{one}
use Rattle.set_table.specs.Puts.{puts_in}
use Rattle.set_table.specs.Filled.{refusing}
use Rattle.proved_origins.proofs.Checks.{empty_text}
use Rattle.set_wellformed.specs.WellFormed.{table_ok, well_formed}
use Rattle.proved_sets.proofs.PutsKept.{put_ok}
use Rattle.proved_sets.proofs.PutsParts.{Part, low_ends}
use Rattle.proved_sets.proofs.PutsItems.{items_ok, more_ok}
use Rattle.proved_sets.proofs.PutsRead.{block_inside, block_behind}
use Rattle.set_fill.specs.Fill as fills
use Rattle.proved_reading.proofs.HandedOut.{empty_ok, filled_ok}

-- blocks begin with `{` and end with `}`
first : {m : Mode} {at : ℕ} {s : List ℕ} {is : List Placed} → Blocks m at s is → (x : List ℕ) × (s ≡ 123 ∷ x)
first (Blocks.one (OneBlock.block {inside = a} c f p)) = (a ++ (125 ∷ []), refl)
first (Blocks.more {s = s} (OneBlock.block {inside = a} c f p) r) = ((a ++ (125 ∷ [])) ++ s, refl)

last : {m : Mode} {at : ℕ} {s : List ℕ} {is : List Placed} → Blocks m at s is → (y : List ℕ) × (s ≡ y ++ (125 ∷ []))
last (Blocks.one (OneBlock.block {inside = a} c f p)) = (123 ∷ a, refl)
last (Blocks.more {b = b} x r) = let z = last r in (b ++ z.0, ap (λ s. b ++ s) z.1 ∙ sym (append_assoc b z.0 (125 ∷ [])))

module _ (w : List ℕ) where
  -- what they put, where they stand in w
  blocks_ok : {m : Mode} {at : ℕ} {s : List ℕ} {is : List Placed} → Blocks m at s is → {rest : List ℕ} → Part w at s rest → all (put_ok (one w)) (puts_in is) ≡ true
  blocks_ok (Blocks.one (OneBlock.block {inside = a} c f h)) p = items_ok w h (block_inside w a [] p) f
  blocks_ok {at = at} (Blocks.more {s = s} {is = is} {js = js} (OneBlock.block {inside = a} c f h) r) {rest} p =
      let q : Part w at (123 ∷ (a ++ (125 ∷ s))) rest = rw (append_assoc a (125 ∷ []) s) at p in
      more_ok w is js (items_ok w h (block_inside w a s q) f) (blocks_ok r (block_behind w a s q))

  pub line_ok : (m : Mode) (from to : ℕ) (is : List Placed) → is_utf8 w ≡ true → read_blocks m from (slice from to w) ≡ Reading.items is → all (put_ok (one w)) (puts_in is) ≡ true
  line_ok m from to is u e =
      let b = sound m from (slice from to w) is e in
      blocks_ok b (low_ends w from to u (first b).1 (last b).0 (last b).1 (omega arith) (omega arith))

pub chain_out_ok : (m : Mode) (t : List ℕ) (from to : ℕ) → is_text t ≡ true → well_formed (one t) (fills.chain_at m t from to).set ≡ true
unfolding well_formed fills.chain_at
chain_out_ok m t from to h = rw (h, empty_text) (go (ltb max_text (length t)))
  where
    go : (a : Bool) → table_ok (one t) (cond a (refusing TextTooLong) (fills.filled_by (one t) (read_blocks m from (slice from to t)))).set ≡ true
    go true = empty_ok (one t)
    go false = filled_ok (one t) (read_blocks m from (slice from to t)) (λ is e. line_ok t m from to is (text_utf8 t h) e)
