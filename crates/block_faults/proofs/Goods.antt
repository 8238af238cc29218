-- Nothing is wrong exactly where the blocks are good.
-- Assumes nothing.
use Rattle.std.specs.Prelude.{None, Option, Some}
use mathlib.Core.Path.{◌≡◌, refl, sym, ◌∙◌, ap}
use mathlib.Core.Bool.{Bool, true, false, cond, ◌&&◌}
use mathlib.Core.List.{List, [], ◌∷◌}
use Prim.Native.Nat.{ℕ, zero, suc, ◌-◌, ◌<◌}
use lib.Dec.{eqb}
use lib.ListN.{length, take, drop}
use lib.Seq.{slice}
use Rattle.base_bytes.specs.declared.Mode.TheVariants.{Loose}
use Rattle.block_grammar.specs.Grammar.{Reading}
use Rattle.block_grammar.specs.Close.{fresh}
use Rattle.block_grammar.specs.Computed.{read_payload}
use Rattle.block_grammar.specs.ComputedClose.{close_from}
use Rattle.block_places.specs.Computed.{payload_place}
use Rattle.block_tokens.specs.Shown.{accepted, payload_tested}
use Rattle.block_chain.specs.Chain.{good_line}
use Rattle.block_chain.specs.Computed.{joined, block_to, blocks_from, read_blocks}
use Rattle.block_chain.proofs.Blocks.{some_read}
use Rattle.block_chain.proofs.Good.{anywhere}
use Rattle.block_faults.specs.declared.Fault.TheVariants.{Behind}
use Rattle.block_faults.specs.Faults.{is_good, block_fault, fault_from}

both : (r q : Reading) → accepted (joined r q) ≡ accepted r && accepted q
both Reading.refused q = refl
both (Reading.items is) Reading.refused = refl
both (Reading.items is) (Reading.items js) = refl

pub good_from : (s : List ℕ) (k at : ℕ) → is_good (fault_from s k at) ≡ accepted (blocks_from Loose s k at)
unfolding fault_from blocks_from
good_from [] k at = refl
good_from (b ∷ s) (suc k) at = good_from s k (suc at)
good_from (b ∷ s) zero at = go (eqb b 123) (close_from s fresh (suc at)) (λ k. good_from s k (suc at))
  where
    payload : (e : ℕ) (x : Bool) → accepted (read_payload Loose 0 (take (e - suc at) s)) ≡ x → is_good (fault_from s (suc (e - suc at)) (suc at)) ≡ accepted (blocks_from Loose s (suc (e - suc at)) (suc at))
        → is_good (block_fault s at (Some e) (λ n. fault_from s n (suc at))) ≡ x && accepted (blocks_from Loose s (suc (e - suc at)) (suc at))
    payload e true q ih = rw q ih
    payload e false q ih = rw q

    go : (x : Bool) (p : Option ℕ) → ((k : ℕ) → is_good (fault_from s k (suc at)) ≡ accepted (blocks_from Loose s k (suc at)))
        → is_good (cond x (block_fault s at p (λ n. fault_from s n (suc at))) (Some (Behind at))) ≡ accepted (cond x (block_to Loose s (suc at) p (λ n. blocks_from Loose s n (suc at))) Reading.refused)
    go false p ih = refl
    go true None ih = refl
    go true (Some e) ih =
        payload e (accepted (read_payload Loose 0 (take (e - suc at) s))) refl (ih (suc (e - suc at)))
        ∙ sym (both (read_payload Loose (suc at) (take (e - suc at) s)) (blocks_from Loose s (suc (e - suc at)) (suc at)) ∙ ap (λ x. x && accepted (blocks_from Loose s (suc (e - suc at)) (suc at))) (anywhere Loose (take (e - suc at) s) (suc at) 0))

-- a line in which a byte stands
pub good_line_lem : (t : List ℕ) (from to : ℕ) → from < length (take to t) → is_good (fault_from (drop from (take to t)) 0 from) ≡ good_line t from to
unfolding good_line read_blocks
good_line_lem t from to h = good_from (drop from (take to t)) 0 from ∙ sym (ap accepted (some_read Loose (take to t) from h))
