-- The longest block of a sheet has few lines, so `longest` always fits; and where a sheet that is fed is refused by 17, one of the twelve sums is too large.
-- Assumes nothing.
use Rattle.std.specs.Prelude.{Err, Ok, Result}
use mathlib.Core.Path.{◌≡◌, refl, sym}
use mathlib.Core.Bool.{Bool, true, false, cond, ◌||◌}
use mathlib.Core.List.{List, [], ◌∷◌, map}
use Prim.Native.Nat.{ℕ, zero, suc, ◌-◌, ◌<◌, ◌≤◌, zero-le}
use native.Mathlib.Omega.{arith}
use borrow.Author.Tests.{ltb-true, ltb-false, eqb-true, eqb-false}
use lib.Dec.{eqb, ltb}
use lib.ListN.{length, get_or, drop, length-map, length-drop}
use Rattle.base_lists.proofs.More.{contra}
use Rattle.base_refusals.specs.Numbers.{max_text, outcome_no}
use Rattle.text_checks.specs.Check.{check_of}
use Rattle.text_checks.proofs.Texts.{text_short, passed}
use Rattle.text_lines.specs.Lines.{lines, ranges}
use Rattle.text_lines.specs.declared.Range.{Range}
use Rattle.run_lines.specs.Runs.{as_is, run_at}
use Rattle.run_lines.proofs.Bounds.{lines_le}
use Rattle.read_blocks.specs.Blocks.{Found, lines_of}
use Rattle.read_lengths.specs.Lengths.{flush_left}
use Rattle.sheet_blocks.specs.Sheets.{Try, tries_from, is_block, only_blocks}
use Rattle.sheet_blocks.proofs.Tries.{found_by, run-found_by, flush_by}
use Rattle.sheet_verdicts.specs.Verdicts.{verdict_at}
use Rattle.sheet_totals.specs.Totals.{total_places, longest_place, max_total, added_at, numbers_added, overflows, TooLarge}
use Rattle.sheet_totals.proofs.Adding.{at_longest, at_other, larger_le}
use Rattle.sheet_totals.proofs.Sums.{added_at_lem, added_long, split_or}
use Rattle.sheet_tally.specs.Lists.{greatest_of, keep}
use Rattle.sheet_tally.specs.Counts.{tries_by, tries_in, blocks_by, longest_block}
use Rattle.sheet_tally.proofs.Counting.{lines_few}
use Rattle.base_refusals.specs.declared.Refusal.{Refusal}

-- ---- a block has at most a line for each byte, and one more

lines_short : (t : List ℕ) (cap at : ℕ) → (run_at cap 0 t at).lines ≤ suc (length t)
unfolding run_at
lines_short t cap at = omega (arith, lines_le cap 0 (map as_is (lines (drop at t))), length-map (lines (drop at t)) as_is, lines_few (drop at t), length-drop at t)

block_short : (t : List ℕ) (cap at : ℕ) → lines_of (flush_left t cap at) ≤ suc (length t)
block_short t cap at =
    flush_by Short t at cap zero-le (found_by Short t at 0 cap (λ g. omega arith) zero-le zero-le (run-found_by Short t at 0 cap (λ r e g. rw e (lines_short t cap at)) (λ r e q. zero-le)))
  where
    Short : Found → Type 0
    Short f = lines_of f ≤ suc (length t)

-- ---- so has the longest

-- every one of the list is within m
Within : ℕ → List Try → Type 0
Within m [] = Unit {0}
Within m (x ∷ xs) = (lines_of x.found ≤ m) × Within m xs

within-tries : (t : List ℕ) (cap n k : ℕ) (rs : List Range) → Within (suc (length t)) (tries_from t cap n k rs)
unfolding tries_from Within
within-tries t cap n k [] = tt
within-tries t cap n (suc k) (r ∷ rs) = within-tries t cap (suc n) k rs
within-tries t cap n zero (r ∷ rs) = (block_short t cap r.from, within-tries t cap (suc n) (lines_of (flush_left t cap r.from) - 1) rs)

within_blocks : (m : ℕ) (xs : List Try) → Within m xs → Within m (only_blocks xs)
unfolding only_blocks Within
within_blocks m [] h = tt
within_blocks m (x ∷ xs) (h, k) = go (is_block x.found) (within_blocks m xs k)
  where
    go : (b : Bool) → Within m (only_blocks xs) → Within m (cond b (x ∷ only_blocks xs) (only_blocks xs))
    go true r = (h, r)
    go false r = r

within_kept : (m : ℕ) (p : Try → Bool) (xs : List Try) → Within m xs → Within m (keep p xs)
unfolding keep Within
within_kept m p [] h = tt
within_kept m p (x ∷ xs) (h, k) = go (p x) (within_kept m p xs k)
  where
    go : (b : Bool) → Within m (keep p xs) → Within m (cond b (x ∷ keep p xs) (keep p xs))
    go true r = (h, r)
    go false r = r

within_longest : (m : ℕ) (xs : List Try) → Within m xs → greatest_of (λ x. lines_of x.found) xs ≤ m
unfolding greatest_of Within
within_longest m [] h = omega arith
within_longest m (x ∷ xs) (h, k) = larger_le (lines_of x.found) (greatest_of (λ x. lines_of x.found) xs) m h (within_longest m xs k)

-- of a sheet that is refused it is 0, any other has at most 65,535 bytes
within_sheet : (t : List ℕ) → Within (suc max_text) (tries_in t)
unfolding tries_in Within
within_sheet t = go (check_of t) refl
  where
    wider : (n : ℕ) (xs : List Try) → Within (suc n) xs → n ≤ max_text → Within (suc max_text) xs
    wider n [] h l = tt
    wider n (x ∷ xs) (h, k) l = (omega arith, wider n xs k l)

    go : (o : Result (Unit {0}) Refusal) → check_of t ≡ o → Within (suc max_text) (tries_by t o)
    go (Err r) e = tt
    go (Ok _) e = wider (length t) (tries_from t max_text 1 0 (ranges t)) (within-tries t max_text 1 0 (ranges t)) (text_short t (sym (passed t refl e)))

is_printed : List ℕ → Try → Bool
is_printed t x = eqb (outcome_no (verdict_at t x)) 0

few_lines : (t : List ℕ) → greatest_of (λ x. lines_of x.found) (keep (is_printed t) (only_blocks (tries_in t))) ≤ suc max_text
few_lines t =
    within_longest (suc max_text) (keep (is_printed t) (only_blocks (tries_in t)))
    (within_kept (suc max_text) (is_printed t) (only_blocks (tries_in t)) (within_blocks (suc max_text) (tries_in t) (within_sheet t)))

pub longest_fits : (t : List ℕ) → longest_block (t ∷ []) ≤ max_total
unfolding greatest_of blocks_by is_printed
longest_fits t = larger_le _ 0 max_total (omega (arith, few_lines t)) (omega arith)

-- ---- which number doesn't fit

over_at : (xs : List ℕ) → overflows xs ≡ true → (k : ℕ) × ((k < length xs) × (max_total < get_or xs k 0))
unfolding overflows
over_at [] e = contra false e refl
over_at (x ∷ xs) e = go (ltb max_total x) refl e (over_at xs)
  where
    go : (b : Bool) → ltb max_total x ≡ b → (b || overflows xs) ≡ true
        → (overflows xs ≡ true → (k : ℕ) × ((k < length xs) × (max_total < get_or xs k 0)))
        → (k : ℕ) × ((k < length (x ∷ xs)) × (max_total < get_or (x ∷ xs) k 0))
    go true q f ih = (0, (omega arith, ltb-true max_total x q))
    go false q f ih = let z = ih f in (suc z.0, (omega (arith, z.1.0), z.1.1))

pub under_at : (xs : List ℕ) → overflows xs ≡ false → (k : ℕ) → get_or xs k 0 ≤ max_total
unfolding overflows
under_at [] e k = omega arith
under_at (x ∷ xs) e zero = ltb-false max_total x (split_or (ltb max_total x) (overflows xs) e).0
under_at (x ∷ xs) e (suc k) = under_at xs (split_or (ltb max_total x) (overflows xs) e).1 k

-- of two lists of thirteen whose longest fits: one of the twelve sums
pub one_too_large : (xs ys : List ℕ) → length xs ≡ total_places → length ys ≡ total_places → get_or xs longest_place 0 ≤ max_total → get_or ys longest_place 0 ≤ max_total
    → overflows (numbers_added xs ys) ≡ true → TooLarge xs ys
one_too_large xs ys lx ly mx my o =
    let z = over_at (numbers_added xs ys) o in
    let l : length (numbers_added xs ys) ≡ total_places = added_long xs ys lx ly in
    let k : ℕ = z.0 in
    let h : k < total_places = omega (arith, z.1.0, l) in
    go k (eqb k longest_place) refl h (rw (added_at_lem k xs ys lx ly h) at z.1.1)
  where
    go : (k : ℕ) (x : Bool) → eqb k longest_place ≡ x → k < total_places → max_total < added_at k (get_or xs k 0) (get_or ys k 0) → TooLarge xs ys
    go k true q h m =
        let e = eqb-true k longest_place q in
        let f : get_or xs k 0 ≤ max_total = rw e mx in
        let g : get_or ys k 0 ≤ max_total = rw e my in
        absurd (omega (arith, m, at_longest (get_or xs k 0) (get_or ys k 0) e, larger_le (get_or xs k 0) (get_or ys k 0) max_total f g))
    go k false q h m = let n = eqb-false k longest_place q in record { place = k; summed = omega (arith, n); above = rw (at_other (get_or xs k 0) (get_or ys k 0) n) at m }

-- and where one is, a number doesn't fit
pub too_large_over : (xs ys : List ℕ) → length xs ≡ total_places → length ys ≡ total_places → TooLarge xs ys → overflows (numbers_added xs ys) ≡ true
too_large_over xs ys lx ly z = go (overflows (numbers_added xs ys)) refl
  where
    k : ℕ
    k = z.place

    go : (x : Bool) → overflows (numbers_added xs ys) ≡ x → x ≡ true
    go true e = refl
    go false e =
        let h : k < longest_place = z.summed in
        let g = added_at_lem k xs ys lx ly (omega (arith, h)) in
        let o = at_other {i = k} (get_or xs k 0) (get_or ys k 0) (λ q. omega (arith, h)) in
        absurd (omega (arith, z.above, under_at (numbers_added xs ys) e k, g, o))
