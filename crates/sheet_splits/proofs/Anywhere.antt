-- A line of blocks is read alike wherever it stands: d places farther on its items stand d places farther on.
-- Assumes nothing.
use Rattle.std.specs.Prelude.{None, Option, Some}
use mathlib.Core.Path.{◌≡◌, refl, sym, ◌∙◌, ap}
use mathlib.Core.Bool.{Bool, true, false, cond}
use mathlib.Core.List.{List, [], ◌∷◌, map, map-append}
use Prim.Native.Nat.{ℕ, zero, suc, ◌+◌, ◌-◌}
use native.Mathlib.Nat.{add-zero}
use native.Mathlib.Omega.{arith}
use lib.Dec.{eqb}
use lib.ListN.{length, take}
use lib.Seq.{slice, take_all}
use Rattle.base_lists.proofs.Parts.{slice_part}
use Rattle.base_bytes.specs.declared.Mode.{Mode}
use Rattle.base_bytes.specs.declared.Mode.TheVariants.{Loose}
use Rattle.base_bytes.specs.Bytes.{is_blank}
use Rattle.block_grammar.specs.Grammar.{Placed, Reading}
use Rattle.block_grammar.specs.Computed.{First, text, tail_of, token_of, also, turn, read_from, one_or_more, read_payload}
use Rattle.block_grammar.specs.Close.{fresh}
use Rattle.block_grammar.specs.ComputedClose.{Scanned, scan_step, go_on, close_from}
use Rattle.block_grammar.specs.declared.Scan.{Scan}
use Rattle.block_tokens.specs.Shown.{accepted}
use Rattle.block_chain.specs.Chain.{good_line}
use Rattle.block_chain.specs.Computed.{joined, block_to, blocks_from, read_blocks}

-- a place d farther on, an item, and a reading
abbrev place_on : ℕ → Option ℕ → Option ℕ
place_on d None = None
place_on d (Some e) = Some (d + e)

abbrev pub item_on : ℕ → Placed → Placed
item_on d p = record { at = d + p.at; item = p.item }

abbrev pub reading_on : ℕ → Reading → Reading
reading_on d Reading.refused = Reading.refused
reading_on d (Reading.items is) = Reading.items (map (item_on d) is)

-- ---- the close

close_on : (d : ℕ) (s : List ℕ) (st : Scan) (i : ℕ) → close_from s st (d + i) ≡ place_on d (close_from s st i)
unfolding close_from
close_on d [] st i = refl
close_on d (b ∷ s) st i = go (scan_step st b) (λ v. close_on d s v (suc i))
  where
    go : (x : Scanned) → ((v : Scan) → close_from s v (d + suc i) ≡ place_on d (close_from s v (suc i)))
        → go_on x (d + i) (λ v. close_from s v (suc (d + i))) ≡ place_on d (go_on x i (λ v. close_from s v (suc i)))
    go Scanned.closed ih = refl
    go Scanned.broken ih = refl
    go (Scanned.on v) ih = let z : d + suc i ≡ suc (d + i) = omega arith in rw z at (ih v)

-- ---- a payload

also_on : (d : ℕ) (p : Placed) (r : Reading) → reading_on d (also p r) ≡ also (item_on d p) (reading_on d r)
also_on d p Reading.refused = refl
also_on d p (Reading.items is) = refl

some_on : (d : ℕ) (r : Reading) → reading_on d (one_or_more r) ≡ one_or_more (reading_on d r)
some_on d Reading.refused = refl
some_on d (Reading.items []) = refl
some_on d (Reading.items (p ∷ is)) = refl

joined_on : (d : ℕ) (r q : Reading) → reading_on d (joined r q) ≡ joined (reading_on d r) (reading_on d q)
joined_on d Reading.refused q = refl
joined_on d (Reading.items is) Reading.refused = refl
joined_on d (Reading.items is) (Reading.items js) = ap Reading.items (map-append (item_on d) is js)

tokens_on : (m : Mode) (d : ℕ) (s : List ℕ) (k a : ℕ) → read_from m s k (d + a) ≡ reading_on d (read_from m s k a)
unfolding read_from
tokens_on m d [] k a = refl
tokens_on m d (c ∷ s) (suc k) a = let z : d + suc a ≡ suc (d + a) = omega arith in rw z at (tokens_on m d s k (suc a))
tokens_on m d (c ∷ s) zero a = go (is_blank m c) (token_of m (c ∷ s)) (λ k. tokens_on m d s k (suc a))
  where
    go : (x : Bool) (t : First) → ((k : ℕ) → read_from m s k (d + suc a) ≡ reading_on d (read_from m s k (suc a)))
        → turn x (d + a) t (λ n. read_from m s n (suc (d + a))) ≡ reading_on d (turn x a t (λ n. read_from m s n (suc a)))
    go true t ih = let z : d + suc a ≡ suc (d + a) = omega arith in rw z at (ih 0)
    go false First.none ih = refl
    go false (First.token i) ih =
        let z : d + suc a ≡ suc (d + a) = omega arith in
        rw (also_on d (record { at = a; item = i }) (read_from m s (tail_of (text i)) (suc a)), ← ih (tail_of (text i)), z)

payload_on : (m : Mode) (d : ℕ) (s : List ℕ) (a : ℕ) → read_payload m (d + a) s ≡ reading_on d (read_payload m a s)
unfolding read_payload
payload_on m d s a = ap one_or_more (tokens_on m d s 0 a) ∙ sym (some_on d (read_from m s 0 a))

-- ---- blocks back to back

blocks_on : (m : Mode) (d : ℕ) (s : List ℕ) (k a : ℕ) → blocks_from m s k (d + a) ≡ reading_on d (blocks_from m s k a)
unfolding blocks_from
blocks_on m d [] k a = refl
blocks_on m d (c ∷ s) (suc k) a = let z : d + suc a ≡ suc (d + a) = omega arith in rw z at (blocks_on m d s k (suc a))
blocks_on m d (c ∷ s) zero a =
    let z : d + suc a ≡ suc (d + a) = omega arith in
    rw (← z, close_on d s fresh (suc a)) (go (eqb c 123) (close_from s fresh (suc a)) (λ k. blocks_on m d s k (suc a)))
  where
    here : (e : ℕ) → ((k : ℕ) → blocks_from m s k (d + suc a) ≡ reading_on d (blocks_from m s k (suc a)))
        → block_to m s (d + suc a) (Some (d + e)) (λ n. blocks_from m s n (d + suc a)) ≡ reading_on d (block_to m s (suc a) (Some e) (λ n. blocks_from m s n (suc a)))
    here e ih =
        let y : d + e - (d + suc a) ≡ e - suc a = omega arith in
        rw (y, payload_on m d (take (e - suc a) s) (suc a), ih (suc (e - suc a)))
        (sym (joined_on d (read_payload m (suc a) (take (e - suc a) s)) (blocks_from m s (suc (e - suc a)) (suc a))))

    go : (x : Bool) (p : Option ℕ) → ((k : ℕ) → blocks_from m s k (d + suc a) ≡ reading_on d (blocks_from m s k (suc a)))
        → cond x (block_to m s (d + suc a) (place_on d p) (λ n. blocks_from m s n (d + suc a))) Reading.refused
        ≡ reading_on d (cond x (block_to m s (suc a) p (λ n. blocks_from m s n (suc a))) Reading.refused)
    go false p ih = refl
    go true None ih = refl
    go true (Some e) ih = here e ih

pub line_on : (m : Mode) (d : ℕ) (s : List ℕ) → read_blocks m d s ≡ reading_on d (read_blocks m 0 s)
unfolding read_blocks
line_on m d s = ap one_or_more (rw (add-zero d) at (blocks_on m d s 0 0)) ∙ sym (some_on d (blocks_from m s 0 0))

-- ---- a good line

accepted_on : (d : ℕ) (r : Reading) → accepted (reading_on d r) ≡ accepted r
accepted_on d Reading.refused = refl
accepted_on d (Reading.items is) = refl

pub slice_all : (s : List ℕ) → slice 0 (length s) s ≡ s
slice_all s = rw (slice_part 0 (length s) s) (take_all (length s - 0) s (omega arith))

pub good_anywhere : (t : List ℕ) (from to : ℕ) → good_line t from to ≡ good_line (slice from to t) 0 (length (slice from to t))
unfolding good_line
good_anywhere t from to =
    rw (slice_all (slice from to t))
    (ap accepted (line_on Loose from (slice from to t)) ∙ accepted_on from (read_blocks Loose 0 (slice from to t)))
