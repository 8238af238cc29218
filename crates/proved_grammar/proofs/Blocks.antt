-- `read_blocks` reads what the rules' `Blocks` derive, and nothing else; so there is at most one reading.
-- Assumes nothing.
use Rattle.std.specs.Prelude.{Some}
use mathlib.Core.Path.{◌≡◌, refl, ◌∙◌}
use mathlib.Core.Bool.{true}
use mathlib.Core.List.{List, [], ◌∷◌, ◌++◌, append_assoc, append-nil}
use Prim.Native.Nat.{ℕ, suc, ◌+◌, ◌-◌}
use native.Mathlib.Omega.{arith}
use lib.ListN.{length, length-append}
use lib.Seq.{take_at}
use Rattle.base_lists.proofs.More.{contra}
use Rattle.base_lists.proofs.Parts.{drop-behind}
use Rattle.base_bytes.specs.declared.Mode.{Mode}
use Rattle.block_grammar.specs.Grammar.{Placed, Reading}
use Rattle.block_grammar.specs.Computed.{one_or_more}
use Rattle.block_grammar.specs.Close.{fresh}
use Rattle.block_grammar.specs.ComputedClose.{close_from}
use Rattle.block_grammar.proofs.Payload as payload
use Rattle.block_chain.specs.Chain.{OneBlock, Blocks}
use Rattle.block_chain.specs.Computed.{joined, blocks_from, read_blocks}
use Rattle.block_chain.proofs.Blocks.{block_at, block_some}
use Rattle.block_chain.proofs.Blocks as laws
use Rattle.proved_grammar.specs.Blocks.{ReadIsBlocks, BlocksAreRead, OneReadingOfBlocks, RefusedIsNoBlocks}
use Rattle.proved_grammar.proofs.Close.{close_complete}

-- ======== what is read is blocks
pub sound : ReadIsBlocks
sound = laws.sound

-- ======== every line of blocks is read
read_block : {m : Mode} {at : ℕ} {b : List ℕ} {is : List Placed} → OneBlock m at b is → (rest : List ℕ)
    → blocks_from m (b ++ rest) 0 at ≡ joined (Reading.items is) (blocks_from m rest 0 (at + length b))
read_block {m} {at} {is = is} (OneBlock.block {inside = a} c f p) rest =
    let e = suc at + length a in
    let w : (a ++ (125 ∷ [])) ++ rest ≡ a ++ (125 ∷ rest) = append_assoc a (125 ∷ []) rest in
    let h : close_from (a ++ (125 ∷ rest)) fresh (suc at) ≡ Some e = close_complete (record { inside = a; rest = rest; whole = refl; place = refl; covered = c; flat = f }) in
    let n : e - suc at ≡ length a = omega arith in
    let l : suc e ≡ at + suc (length (a ++ (125 ∷ []))) = omega (arith, length-append a (125 ∷ [])) in
    rw (w, block_at m (a ++ (125 ∷ rest)) at h, n, take_at a (125 ∷ rest) (length a) refl, payload.complete p, drop-behind a 125 rest, l)

no_more : (m : Mode) (at : ℕ) → blocks_from m [] 0 at ≡ Reading.items []
unfolding blocks_from
no_more m at = refl

complete_from : {m : Mode} {at : ℕ} {s : List ℕ} {is : List Placed} → Blocks m at s is → blocks_from m s 0 at ≡ Reading.items is
complete_from {m} {at} (Blocks.one {b = b} {is = is} x) = (rw append-nil at (read_block x [])) ∙ (rw (no_more m (at + length b), append-nil))
complete_from (Blocks.more {s = s} x y) = read_block x s ∙ (rw (complete_from y))

some : {m : Mode} {at : ℕ} {s : List ℕ} {is : List Placed} → Blocks m at s is → one_or_more (Reading.items is) ≡ Reading.items is
some (Blocks.one x) = rw append-nil at (block_some x [])
some (Blocks.more {js = js} x y) = block_some x js

pub complete : {m : Mode} {at : ℕ} {s : List ℕ} {is : List Placed} → BlocksAreRead m at s is
unfolding read_blocks
complete p = rw (complete_from p) (some p)

-- at most one reading
pub one_reading : {m : Mode} {at : ℕ} {s : List ℕ} {is js : List Placed} → OneReadingOfBlocks m at s is js
one_reading p q = let e = complete p in let f = complete q in cc

-- refused only where the rules have no reading
pub no_reading : RefusedIsNoBlocks
no_reading m at s e is p = let f = complete p in contra true refl (cc)
