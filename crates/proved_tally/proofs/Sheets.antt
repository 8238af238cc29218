-- Every block is printed or refused by 6, 7 or 10; wrapped ones are among the printed; and the longest is 0 exactly where none is printed.
-- Assumes nothing.
use Rattle.std.specs.Prelude.{Err, Ok, Result}
use mathlib.Core.Path.{◌≡◌, refl, sym, ◌∙◌, ap}
use mathlib.Core.Bool.{Bool, true, false, cond, ◌||◌}
use mathlib.Core.List.{List, [], ◌∷◌}
use Prim.Native.Nat.{ℕ, zero, suc, ◌+◌, ◌-◌, ◌≤◌, ◌<◌}
use native.Mathlib.Omega.{arith}
use borrow.Author.Tests.{eqb-true}
use lib.Dec.{eqb, ltb}
use lib.ListN.{length}
use Rattle.base_lists.specs.Lists.{is_in}
use Rattle.base_lists.proofs.More.{contra}
use Rattle.base_refusals.specs.Numbers.{max_text, number_of, outcome_no}
use Rattle.base_refusals.specs.declared.Refusal.TheVariants.{CanonTooLong}
use Rattle.text_checks.specs.Check.{check_of}
use Rattle.text_checks.proofs.Texts.{text_short, passed}
use Rattle.text_lines.specs.Lines.{ranges}
use Rattle.text_lines.specs.declared.Range.{Range}
use Rattle.set_canon.specs.Canon.{canon}
use Rattle.set_table.specs.Types.{Texts}
use Rattle.set_table.specs.Rows.{meaning_of}
use Rattle.set_table.specs.declared.Attrs.{Attrs}
use Rattle.read_blocks.specs.Blocks.{lines_of, texts_in, filled_found, block_of}
use Rattle.read_lengths.specs.Lengths.{flush_left}
use Rattle.sheet_blocks.specs.Sheets.{Try, tries_from, is_block, only_blocks, blocks_of}
use Rattle.sheet_blocks.proofs.Tries.{some_lines, prose, flush}
use Rattle.sheet_verdicts.specs.Verdicts.{printable, block_verdict, verdict_at}
use Rattle.sheet_totals.proofs.Sums.{larger_ge_left}
use Rattle.sheet_tally.specs.Lists.{greatest_of, keep}
use Rattle.sheet_tally.specs.Counts.{tries_by, tries_in, blocks_by, printed, is_wrapped}
use Rattle.proved_sheets.specs.Order.{Each}
use Rattle.proved_sheets.specs.Blocks.{is_limited}
use Rattle.proved_sheets.proofs.Answers.{block_limited}
use Rattle.proved_tally.specs.Sheets.{MayOpenTells, AllBlocks, WrappedPrinted, LongestSome}
use Rattle.base_refusals.specs.declared.Refusal.{Refusal}

-- ---- what is kept of a list

keep_le : {A : Type 0} (p : A → Bool) (xs : List A) → length (keep p xs) ≤ length xs
unfolding keep
keep_le p [] = omega arith
keep_le p (x ∷ xs) = go (p x) (keep_le p xs)
  where
    go : (b : Bool) → length (keep p xs) ≤ length xs → length (cond b (x ∷ keep p xs) (keep p xs)) ≤ suc (length xs)
    go true h = omega arith
    go false h = omega arith

keep-length : {A : Type 0} (p : A → Bool) (x : A) (xs : List A) → length (keep p (x ∷ xs)) ≡ cond (p x) 1 0 + length (keep p xs)
unfolding keep
keep-length p x xs = go (p x)
  where
    go : (b : Bool) → length (cond b (x ∷ keep p xs) (keep p xs)) ≡ cond b 1 0 + length (keep p xs)
    go true = omega arith
    go false = omega arith

each_keep : (P : Try → Type 0) (p : Try → Bool) (xs : List Try) → Each P xs → Each P (keep p xs)
unfolding keep Each
each_keep P p [] h = h
each_keep P p (x ∷ xs) (h, k) = go (p x) (each_keep P p xs k)
  where
    go : (b : Bool) → Each P (keep p xs) → Each P (cond b (x ∷ keep p xs) (keep p xs))
    go true r = (h, r)
    go false r = r

-- ---- what a block's verdict is

data Said : ℕ → Type 0 where
  nought : Said 0
  six : Said 6
  seven : Said 7
  ten : Said 10

said_limit : (n : ℕ) → is_in (6 ∷ 7 ∷ []) n ≡ true → Said n
unfolding is_in
said_limit n e = go (eqb n 6) refl (eqb n 7) refl e
  where
    go : (x : Bool) → eqb n 6 ≡ x → (y : Bool) → eqb n 7 ≡ y → (x || (y || false)) ≡ true → Said n
    go true p y q z = rw (eqb-true n 6 p) Said.six
    go false p true q z = rw (eqb-true n 7 q) Said.seven
    go false p false q z = contra false z refl

said_by_lem : (t : Texts) (a : Attrs) (o : Result (Unit {0}) Refusal) → is_limited o ≡ true → Said (outcome_no (block_verdict t a o))
unfolding block_verdict printable number_of
said_by_lem t a (Ok _) e = go (ltb max_text (length (canon (meaning_of t a))))
  where
    go : (b : Bool) → Said (outcome_no (cond b (Err CanonTooLong) (Ok tt)))
    go true = Said.ten
    go false = Said.nought
said_by_lem t a (Err r) e = said_limit (number_of r) e

-- what is known of a block: one of the four is said of it, and it has a line
record Known (t : List ℕ) (x : Try) : Type 0 where
  pub said : Said (outcome_no (verdict_at t x))
  pub some : 0 < lines_of x.found

known : (t : List ℕ) (x : Try) → length t ≤ max_text → x.found ≡ flush_left t max_text x.at → is_block x.found ≡ true → Known t x
unfolding verdict_at block_of
known t x l e b =
    let f : is_block (flush_left t max_text x.at) ≡ true = rw e at b in
    record {
      said = said_by_lem (texts_in t x.found) (filled_found t x.at x.found).set (filled_found t x.at x.found).outcome (rw e (block_limited t max_text x.at l f));
      some = rw e (some_lines t x.at max_text f);
    }

pub tries-found : (t : List ℕ) (cap n k : ℕ) (rs : List Range) → Each (λ x. x.found ≡ flush_left t cap x.at) (tries_from t cap n k rs)
unfolding tries_from Each
tries-found t cap n k [] = refl
tries-found t cap n (suc k) (r ∷ rs) = tries-found t cap (suc n) k rs
tries-found t cap n zero (r ∷ rs) = (refl, tries-found t cap (suc n) (lines_of (flush_left t cap r.from) - 1) rs)

blocks_known : (t : List ℕ) (xs : List Try) → length t ≤ max_text → Each (λ x. x.found ≡ flush_left t max_text x.at) xs → Each (Known t) (only_blocks xs)
unfolding only_blocks Each
blocks_known t [] l h = h
blocks_known t (x ∷ xs) l (h, k) = go (is_block x.found) refl (blocks_known t xs l k)
  where
    go : (b : Bool) → is_block x.found ≡ b → Each (Known t) (only_blocks xs) → Each (Known t) (cond b (x ∷ only_blocks xs) (only_blocks xs))
    go true e r = (known t x l h e, r)
    go false e r = r

sheet_known : (t : List ℕ) → Each (Known t) (only_blocks (tries_in t))
unfolding tries_in only_blocks Each
sheet_known t = go (check_of t) refl
  where
    go : (o : Result (Unit {0}) Refusal) → check_of t ≡ o → Each (Known t) (only_blocks (tries_by t o))
    go (Err r) e = refl
    go (Ok _) e = blocks_known t (tries_from t max_text 1 0 (ranges t)) (text_short t (sym (passed t refl e))) (tries-found t max_text 1 0 (ranges t))

-- ======== the laws

abbrev said_by : List ℕ → ℕ → List Try → ℕ
said_by t n xs = length (keep (λ x. eqb (outcome_no (verdict_at t x)) n) xs)

four_none : (t : List ℕ) → said_by t 0 [] + said_by t 6 [] + (said_by t 7 [] + said_by t 10 []) ≡ 0
unfolding keep
four_none t = refl

four : (t : List ℕ) (xs : List Try) → Each (Known t) xs → said_by t 0 xs + said_by t 6 xs + (said_by t 7 xs + said_by t 10 xs) ≡ length xs
unfolding Each
four t [] h = four_none t
four t (x ∷ xs) (h, k) =
    omega (
      arith,
      four t xs k,
      one h.said,
      keep-length (λ x. eqb (outcome_no (verdict_at t x)) 0) x xs,
      keep-length (λ x. eqb (outcome_no (verdict_at t x)) 6) x xs,
      keep-length (λ x. eqb (outcome_no (verdict_at t x)) 7) x xs,
      keep-length (λ x. eqb (outcome_no (verdict_at t x)) 10) x xs,
    )
  where
    one : {v : ℕ} → Said v → cond (eqb v 0) 1 0 + cond (eqb v 6) 1 0 + (cond (eqb v 7) 1 0 + cond (eqb v 10) 1 0) ≡ 1
    one Said.nought = refl
    one Said.six = refl
    one Said.seven = refl
    one Said.ten = refl

passed_blocks : (t : List ℕ) → check_of t ≡ Ok tt → only_blocks (tries_in t) ≡ blocks_of t
unfolding tries_in blocks_of
passed_blocks t e = rw e

pub all_blocks : AllBlocks
unfolding blocks_by
all_blocks t e = four t (only_blocks (tries_in t)) (sheet_known t) ∙ ap length (passed_blocks t e)

pub wrapped-printed : WrappedPrinted
wrapped-printed t = keep_le is_wrapped (printed t (tries_in t))

-- ---- the longest

none_longest : (xs : List Try) → length xs ≡ 0 → greatest_of (λ x. lines_of x.found) xs ≡ 0
unfolding greatest_of
none_longest [] e = refl
none_longest (x ∷ xs) e = absurd (omega arith)

longest_none : (t : List ℕ) (xs : List Try) → Each (Known t) xs → greatest_of (λ x. lines_of x.found) xs ≡ 0 → length xs ≡ 0
unfolding Each greatest_of
longest_none t [] h e = refl
longest_none t (x ∷ xs) (h, k) e = absurd (omega (arith, h.some, larger_ge_left (lines_of x.found) (greatest_of (λ x. lines_of x.found) xs), e))

printed_known : (t : List ℕ) → Each (Known t) (printed t (tries_in t))
unfolding blocks_by
printed_known t = each_keep (Known t) (λ x. eqb (outcome_no (verdict_at t x)) 0) (only_blocks (tries_in t)) (sheet_known t)

pub longest_some : LongestSome
longest_some t = record { none = none_longest (printed t (tries_in t)); only_none = longest_none t (printed t (tries_in t)) (printed_known t) }

-- ---- what the first byte of a line says

pub may_open_tells : MayOpenTells
may_open_tells t at cap h = record { shut = prose t at h cap; flush = flush t at h cap }
