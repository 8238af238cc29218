-- A block that is found as a run has more than one line: so the block of one line that `indented_wrapped_attrs_block_len` refuses is the good line.
-- Assumes nothing.
use Rattle.std.specs.Prelude.{Err, Ok, Result}
use mathlib.Core.Path.{◌≡◌, refl, sym, ◌∙◌, ap}
use mathlib.Core.Bool.{Bool, true, false, not, cond, ◌&&◌}
use mathlib.Core.List.{List, [], ◌∷◌, ◌++◌, map, append_assoc}
use Prim.Native.Nat.{ℕ, ◌+◌, ◌<◌, ◌≤◌}
use native.Mathlib.Omega.{arith}
use borrow.Author.Tests.{ltb-true, ltb-false, ne_eqb}
use lib.Dec.{eqb, ltb}
use lib.ListN.{length, drop}
use lib.Seq.{slice, take-length}
use Rattle.base_lists.specs.Lists.{is_in}
use Rattle.base_lists.proofs.More.{contra}
use Rattle.base_bytes.specs.declared.Mode.{Mode}
use Rattle.base_bytes.specs.declared.Mode.TheVariants.{Loose}
use Rattle.base_refusals.specs.declared.Refusal.TheVariants.{NoReading, JoinFull}
use Rattle.block_grammar.specs.Grammar.{Placed, Reading}
use Rattle.block_tokens.specs.Shown.{accepted}
use Rattle.text_lines.specs.Lines.{lines, first_of, line_at}
use Rattle.text_lines.specs.Trim.{trim}
use Rattle.block_payloads.specs.Payloads.{ends_in_close}
use Rattle.block_chain.specs.Chain.{OneBlock, Blocks, good_line}
use Rattle.block_chain.specs.Computed.{read_blocks}
use Rattle.block_chain.proofs.Blocks.{sound}
use Rattle.run_scanners.specs.Scanners.{holds_open}
use Rattle.run_joins.specs.Joins.{Lined, So, may_join, after}
use Rattle.run_lines.specs.Runs as runs
use Rattle.run_lines.proofs.Bounds.{run_by_lem}
use Rattle.block_trimmed_line.specs.Fronts.{front_of, opens_at}
use Rattle.block_trimmed_line.specs.declared.Front.{Front}
use Rattle.block_trimmed_line.proofs.Trimmed.{front_slice}
use Rattle.read_blocks.specs.Blocks.{closed_run, ended_run, run_found, found, lines_of}
use Rattle.read_blocks.proofs.Finds.{found-run}
use Rattle.base_refusals.specs.declared.Refusal.{Refusal}

-- ---- a good line ends in `}`

last_close : (a : ℕ) (y : List ℕ) → ends_in_close (a ∷ (y ++ (125 ∷ []))) ≡ true
unfolding ends_in_close
last_close a [] = refl
last_close a (b ∷ y) = last_close b y

ends_close : (y : List ℕ) → ends_in_close (y ++ (125 ∷ [])) ≡ true
unfolding ends_in_close
ends_close [] = refl
ends_close (b ∷ y) = last_close b y

blocks_end : {m : Mode} {at : ℕ} {s : List ℕ} {is : List Placed} → Blocks m at s is → (y : List ℕ) × (s ≡ y ++ (125 ∷ []))
blocks_end (Blocks.one (OneBlock.block {inside = a} c f p)) = (123 ∷ a, refl)
blocks_end (Blocks.more {b = b} x r) = let z = blocks_end r in (b ++ z.0, ap (λ s. b ++ s) z.1 ∙ sym (append_assoc b z.0 (125 ∷ [])))

good_ends : (t : List ℕ) (from to : ℕ) → good_line t from to ≡ true → ends_in_close (slice from to t) ≡ true
unfolding good_line
good_ends t from to g = go (read_blocks Loose from (slice from to t)) refl g
  where
    go : (r : Reading) → read_blocks Loose from (slice from to t) ≡ r → accepted r ≡ true → ends_in_close (slice from to t) ≡ true
    go Reading.refused e g = let z : ◌≡◌ {A = ℕ} 0 1 = cc in absurd (omega arith)
    go (Reading.items is) e g = let z = blocks_end (sound Loose from (slice from to t) is e) in rw z.1 (ends_close z.0)

-- so a line that opens and doesn't end in `}` goes to the run at once
pub open_run : (t : List ℕ) (at base cap : ℕ) {f : Front} → f ≡ front_of t at → opens_at t at ≡ true → (front_of t at).closes ≡ false → found t at base cap ≡ run_found t at base cap
unfolding front_of
open_run t at base cap {f} p o e = go (good_line t f.from f.to) refl
  where
    go : (g : Bool) → good_line t f.from f.to ≡ g → found t at base cap ≡ run_found t at base cap
    go true g = contra (front_of t at).closes (rw (front_slice t at o) at (rw p at (good_ends t f.from f.to g))) e
    go false g = found-run t at base cap p o g e

-- ---- the text of a run that closes at its first line

abbrev Kept : So → List Lined → runs.Run → Type 0
Kept so ls R = (so.lines ≤ R.lines) × (R.lines ≤ so.lines → R.text ≡ so.text)

kept : (cap : ℕ) (so : So) (ls : List Lined) → Kept so ls (runs.run_from cap so ls)
kept cap =
    run_by_lem cap Kept (λ so ls. (omega arith, λ h. refl)) (λ so l ls h. (omega arith, λ k. refl)) (λ so ls. (omega arith, λ h. refl))
    (λ so l ls R p h ih. (omega (arith, ih.0), λ k. absurd (omega (arith, k, ih.0))))

abbrev First : List Lined → runs.Run → Type 0
First [] R = ⊥
First (l ∷ ls) R = (0 < R.lines) × (R.lines ≤ 1 → R.text ≡ trim l.line)

first_text : (cap base : ℕ) (ls : List Lined) → (runs.run_of cap base ls).stop ≡ Ok tt → First ls (runs.run_of cap base ls)
unfolding runs.run_from
first_text cap base [] e = let z : ◌≡◌ {A = ℕ} 0 1 = cc in absurd (omega arith)
first_text cap base (l ∷ ls) e =
    go (may_join so l) (ltb cap (length (after so l).text)) (is_in l.line 125 && not (holds_open (after so l).text)) (kept cap (after so l) ls) e
  where
    so : So
    so = runs.start base

    R : Bool → Bool → Bool → runs.Run
    R x y z =
        cond x (cond y (runs.ended (Err JoinFull) so) (cond z (runs.ended (Ok tt) (after so l)) (runs.run_from cap (after so l) ls)))
        (runs.ended (Err NoReading) so)

    go : (x y z : Bool) → Kept (after so l) ls (runs.run_from cap (after so l) ls) → (R x y z).stop ≡ Ok tt → First (l ∷ ls) (R x y z)
    go false y z k e = let z : ◌≡◌ {A = ℕ} 0 1 = cc in absurd (omega arith)
    go true true z k e = let z : ◌≡◌ {A = ℕ} 0 1 = cc in absurd (omega arith)
    go true false true k e = (omega arith, λ h. refl)
    go true false false k e = (omega (arith, k.0), λ h. k.1 h)

-- ---- a run that is found

module _ (t : List ℕ) (at base cap : ℕ) where
  abbrev r : runs.Run
  r = runs.run_at cap base t at

  run_first : r.stop ≡ Ok tt → (0 < r.lines) × (r.lines ≤ 1 → r.text ≡ trim (line_at t at))
  unfolding runs.run_at
  run_first = go (lines (drop at t))
    where
      go : (ls : List (List ℕ)) → (runs.run_of cap base (map runs.as_is ls)).stop ≡ Ok tt
          → (0 < (runs.run_of cap base (map runs.as_is ls)).lines) × ((runs.run_of cap base (map runs.as_is ls)).lines ≤ 1 → (runs.run_of cap base (map runs.as_is ls)).text ≡ trim (first_of ls))
      go [] e = absurd (first_text cap base [] e)
      go (l ∷ ls) e = first_text cap base (runs.as_is l ∷ map runs.as_is ls) e

  run_wraps : (front_of t at).closes ≡ false → r.stop ≡ Ok tt → good_line r.text 0 (length r.text) ≡ true → 1 < r.lines
  unfolding front_of
  run_wraps c e g = go (ltb 1 r.lines) refl
    where
      go : (x : Bool) → ltb 1 r.lines ≡ x → 1 < r.lines
      go true x = ltb-true 1 r.lines x
      go false x =
          let z = (run_first e).1 (ltb-false 1 r.lines x) in
          contra (ends_in_close r.text) (rw (take-length r.text) at (good_ends r.text 0 (length r.text) g)) (rw z c)

  pub run_more : (front_of t at).closes ≡ false → eqb (lines_of (run_found t at base cap)) 1 ≡ false
  unfolding run_found
  run_more c = go r.stop refl
    where
      closed : (b : Bool) → good_line r.text 0 (length r.text) ≡ b → r.stop ≡ Ok tt → eqb (lines_of (closed_run r b)) 1 ≡ false
      closed true g e = ne_eqb r.lines 1 (λ q. omega (arith, q, run_wraps c e g))
      closed false g e = refl

      go : (x : Result (Unit {0}) Refusal) → r.stop ≡ x → eqb (lines_of (ended_run r x)) 1 ≡ false
      go (Ok _) e = closed (good_line r.text 0 (length r.text)) refl e
      go (Err q) e = refl
