-- Each item's text of a line of blocks stands at its place in the text that the line is a part of.
-- Assumes nothing.
use mathlib.Core.Path.{◌≡◌, sym, ◌∙◌, ap}
use mathlib.Core.List.{List, [], ◌∷◌, ◌++◌, append_assoc}
use Prim.Native.Nat.{ℕ, suc, ◌+◌, ◌<◌, ◌≤◌}
use native.Mathlib.Omega.{arith}
use lib.ListN.{length, take, drop, length-append, length-take, length-drop, take-append-drop}
use lib.Seq.{slice, take-take, length-take-le}
use Rattle.base_bytes.specs.declared.Mode.{Mode}
use Rattle.block_grammar.specs.Grammar.{Placed}
use Rattle.block_chain.specs.Chain.{OneBlock, Blocks}
use Rattle.block_chain.proofs.Blocks.{sound}
use Rattle.proved_grammar.specs.Places.{Standing, BlocksStand, LineStands}
use Rattle.proved_grammar.proofs.Places.{standing}

both_stand : {w : List ℕ} {is js : List Placed} → Standing w is → Standing w js → Standing w (is ++ js)
both_stand Standing.none y = y
both_stand (Standing.and rest d x) y = Standing.and rest d (both_stand x y)

block_stands : {m : Mode} {at : ℕ} {b : List ℕ} {is : List Placed} → OneBlock m at b is → (pre post : List ℕ) → length pre ≡ at → Standing (pre ++ (b ++ post)) is
block_stands {at = at} (OneBlock.block {inside = a} c f p) pre post e =
    let z : length (pre ++ (123 ∷ [])) ≡ suc at = omega (arith, length-append pre (123 ∷ [])) in
    let w : (pre ++ (123 ∷ [])) ++ (a ++ ((125 ∷ []) ++ post)) ≡ pre ++ ((123 ∷ (a ++ (125 ∷ []))) ++ post) = simp append_assoc in
    rw w at (standing p (pre ++ (123 ∷ [])) ((125 ∷ []) ++ post) z)

pub line_stands : {m : Mode} {at : ℕ} {s : List ℕ} {is : List Placed} → BlocksStand m at s is
line_stands (Blocks.one b) pre post e = block_stands b pre post e
line_stands {at = at} (Blocks.more {b = b} {s = s} x p) pre post e =
    let z : length (pre ++ b) ≡ at + length b = omega (arith, length-append pre b) in
    let w : (pre ++ b) ++ (s ++ post) ≡ pre ++ ((b ++ s) ++ post) = simp append_assoc in
    let v : pre ++ (b ++ (s ++ post)) ≡ pre ++ ((b ++ s) ++ post) = simp append_assoc in
    both_stand (rw v at (block_stands x pre (s ++ post) e)) (rw w at (line_stands p (pre ++ b) post z))

-- a line has a byte
line_long : {m : Mode} {at : ℕ} {s : List ℕ} {is : List Placed} → Blocks m at s is → 0 < length s
line_long (Blocks.one (OneBlock.block {inside = a} c f p)) = omega arith
line_long (Blocks.more {s = s} (OneBlock.block {inside = a} c f p) q) = omega arith

pub read_stands : LineStands
read_stands m t from to is e =
    let p = sound m from (slice from to t) is e in
    let h : (from < to) × (from ≤ length t) = omega (arith, line_long p, length-drop from (take to t), length-take to t) in
    let w : take from t ++ (slice from to t ++ drop to t) ≡ t = sym (append_assoc (take from t) (slice from to t) (drop to t)) ∙ ap (λ l. (l ++ slice from to t) ++ drop to t) (sym (take-take from to t (omega arith))) ∙ (rw (take-append-drop from (take to t), take-append-drop to t)) in
    rw w at (line_stands p (take from t) (drop to t) (length-take-le from t h.1))
