-- Blocks that are a whole text: one line, which is its own trimmed front, and one block to whatever reads it.
-- Assumes nothing.
use Rattle.std.specs.Prelude.{Ok, Some}
use mathlib.Core.Path.{◌≡◌, refl, sym, ◌∙◌, ap}
use mathlib.Core.Bool.{Bool, true, false, cond, not}
use mathlib.Core.List.{List, [], ◌∷◌, ◌++◌, append_assoc}
use Prim.Native.Nat.{ℕ, ◌+◌, ◌-◌, ◌≤◌, ◌<◌}
use native.Mathlib.Omega.{arith}
use borrow.Author.Tests.{not-true, le-ltb}
use lib.Dec.{eqb}
use lib.ListN.{length, length-append, get_or, take}
use lib.Seq.{slice, get_or_at, take-length}
use Rattle.base_lists.specs.Lists.{all, is_in}
use Rattle.base_lists.proofs.Scan.{both, all_append}
use Rattle.base_bytes.specs.declared.Mode.{Mode}
use Rattle.base_bytes.specs.declared.Mode.TheVariants.{Loose}
use Rattle.base_bytes.specs.Bytes.{is_space, is_indent}
use Rattle.base_refusals.specs.Numbers.{max_text}
use Rattle.base_refusals.specs.declared.Refusal.TheVariants.{NothingThere}
use Rattle.text_utf8.specs.Computed.{is_utf8}
use Rattle.text_checks.specs.Check.{check_of}
use Rattle.text_lines.specs.Lines.{eol, line_at, line_from, ranges, pick, line_of}
use Rattle.text_lines.specs.Trim.{trim_start, trim_end, trim}
use Rattle.text_lines.proofs.First.{first_whole}
use Rattle.text_lines.proofs.Lines.{ranges_at, ranges_end}
use Rattle.text_lines.proofs.Trim.{trim_end-take, trims_start, trims_stop}
use Rattle.text_line_start.specs.Starts.{start_at, place_of}
use Rattle.block_grammar.specs.Grammar.{Placed}
use Rattle.block_grammar.specs.Close.{no_lf}
use Rattle.block_chain.specs.Chain.{OneBlock, Blocks, good_line}
use Rattle.block_trimmed_line.specs.Fronts.{opens_at, front_of, begins_indented}
use Rattle.block_trimmed_line.proofs.Trimmed.{front_slice}
use Rattle.proved_grammar.proofs.Blocks.{complete}
use Rattle.read_blocks.specs.Blocks.{Found, nothing, found, block_of}
use Rattle.read_blocks.specs.ByLine.{block_found}
use Rattle.read_blocks.proofs.Finds.{found_line}
use Rattle.read_lengths.specs.Lengths.{flush_left}
use Rattle.read_by_line.specs.Entries.{line_read, parse_standalone}
use Rattle.sheet_blocks.specs.Sheets.{tries_from, only_blocks, blocks_of}

abbrev not_lf : ℕ → Bool
not_lf b = not (eqb b 10)

-- ---- what blocks begin and end with, and that they have no LF
record Whole (s : List ℕ) : Type 0 where
  rest : List ℕ
  opens : s ≡ 123 ∷ rest
  front : List ℕ
  shuts : s ≡ front ++ (125 ∷ [])
  flat : no_lf s ≡ true

block_whole : {m : Mode} {at : ℕ} {s : List ℕ} {is : List Placed} → OneBlock m at s is → Whole s
unfolding no_lf all
block_whole (OneBlock.block {inside = a} c f p) = record { rest = a ++ (125 ∷ []); opens = refl; front = 123 ∷ a; shuts = refl; flat = all_append not_lf a (125 ∷ []) f refl }

blocks_whole : {m : Mode} {at : ℕ} {s : List ℕ} {is : List Placed} → Blocks m at s is → Whole s
unfolding no_lf
blocks_whole (Blocks.one b) = block_whole b
blocks_whole (Blocks.more {b = b} {s = s} x p) =
    let w = block_whole x in
    let v = blocks_whole p in
    record {
      rest = w.rest ++ s;
      opens = ap (λ l. l ++ s) w.opens;
      front = b ++ v.front;
      shuts = ap (λ l. b ++ l) v.shuts ∙ sym (append_assoc b v.front (125 ∷ []));
      flat = all_append not_lf b s w.flat v.flat;
    }

-- ---- nothing is trimmed
end_stays : (s front : List ℕ) → s ≡ front ++ (125 ∷ []) → trim_end s ≡ s
unfolding is_space is_in
end_stays s front e =
    let n : length s ≡ length front + 1 = ap length e ∙ length-append front (125 ∷ []) in
    let l : get_or s (length s - 1) 0 ≡ 125 = rw e (get_or_at front 125 [] 0 (length (front ++ (125 ∷ [])) - 1) (omega (arith, length-append front (125 ∷ [])))) in
    let k = trims_stop (trims_start s) (omega (arith, n)) (rw l) in
    trim_end-take s ∙ ap (λ i. take i s) (sym k) ∙ take-length s

start_other : (b : ℕ) (s : List ℕ) → is_space b ≡ false → trim_start (b ∷ s) ≡ b ∷ s
unfolding trim_start
start_other b s e = rw e

no_lf_end : (s : List ℕ) → no_lf s ≡ true → length s ≤ eol s
unfolding no_lf all eol
no_lf_end [] h = omega arith
no_lf_end (b ∷ s) h = let g = both (not_lf b) (all not_lf s) h in rw (not-true (eqb b 10) g.0) (omega (arith, no_lf_end s g.1))

module _ {m : Mode} {k : ℕ} {s : List ℕ} {is : List Placed} (p : Blocks m k s is) where
  start_is : trim_start s ≡ s
  unfolding is_space is_in
  start_is = let w = blocks_whole p in rw w.opens (start_other 123 w.rest refl)

  trim_is : trim s ≡ s
  unfolding trim
  trim_is = let w = blocks_whole p in ap trim_end start_is ∙ end_stays s w.front w.shuts

  line_is : line_at s 0 ≡ s
  line_is = first_whole s (no_lf_end s (blocks_whole p).flat)

  long : 0 < length s
  long = omega (arith, ap length (blocks_whole p).opens)

  pub opens_is : opens_at s 0 ≡ true
  unfolding opens_at
  opens_is = rw (line_is, start_is) (rw (blocks_whole p).opens)

  -- the trimmed front is the whole
  pub front_is : slice (front_of s 0).from (front_of s 0).to s ≡ s
  front_is = front_slice s 0 opens_is ∙ ap trim line_is ∙ trim_is

  -- "A line number counts from 1."
  pub line_of_lem : line_of 1 s ≡ Some (record { from = 0; to = (line_from s 0).to })
  unfolding line_of ranges pick
  line_of_lem = rw (ranges_at s 0 long)

  pub starts_is : length s ≤ max_text → is_utf8 s ≡ true → start_at s 1 ≡ Ok 0
  unfolding start_at check_of
  starts_is l u = rw (le-ltb max_text (length s) l, u, line_of_lem)

-- ======== as one block of one line, with nothing joined
module _ {s : List ℕ} {is : List Placed} (p : Blocks Loose (front_of s 0).from s is) where
  good_is : good_line s (front_of s 0).from (front_of s 0).to ≡ true
  unfolding good_line
  good_is = rw (front_is p, complete p)

  found_is : (base cap : ℕ) → found s 0 base cap ≡ Found.line
  found_is base cap = found_line s 0 base cap refl (opens_is p) good_is

  -- `parse_standalone_attrs_block`
  pub block_is : length s ≤ max_text → is_utf8 s ≡ true → (base cap : ℕ) → block_found s 1 base cap ≡ Found.line
  unfolding block_found
  block_is l u base cap = rw (starts_is p l u) (found_is base cap)

  pub same_set : length s ≤ max_text → is_utf8 s ≡ true → (block_of s (place_of s 1) Found.line).set ≡ (parse_standalone s 1).set
  unfolding block_of parse_standalone line_read
  same_set l u = rw (starts_is p l u, opens_is p)

  -- the sheet's first try, which is its only one
  flush_is : (cap : ℕ) → flush_left s cap 0 ≡ Found.line
  unfolding flush_left is_indent is_in
  flush_is cap = rw (line_is p) (go (blocks_whole p).opens)
    where
      go : s ≡ 123 ∷ (blocks_whole p).rest → cond (begins_indented s) (nothing NothingThere) (found s 0 0 cap) ≡ Found.line
      go e = rw (ap begins_indented e) (found_is 0 cap)

  ranges_is : ranges s ≡ record { from = 0; to = (line_from s 0).to } ∷ []
  unfolding ranges line_from
  ranges_is =
      let z = no_lf_end s (blocks_whole p).flat in
      ranges_at s 0 (long p) ∙ ap (λ l. record { from = 0; to = (line_from s 0).to } ∷ l) (ranges_end s (line_from s 0).next (omega arith))

  pub sheet_is : blocks_of s ≡ record { line = 1; at = 0; found = Found.line } ∷ []
  unfolding blocks_of tries_from only_blocks
  sheet_is = rw (ranges_is, flush_is max_text)
