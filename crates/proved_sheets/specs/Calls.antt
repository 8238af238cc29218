-- The report call by call: whatever memory is lent, the calls come to an end, and what they lay, one behind the other, is the report, all of it and nothing else.
use Rattle.std.specs.Prelude.{◌≡◌, true, cond, ◌||◌, List, [], ◌++◌, ℕ, suc, ◌+◌, ◌≤◌, ◌<◌, ltb, length, take, Err, Ok, Result}
use Rattle.base_lists.specs.Lists.{over}
use Rattle.base_refusals.specs.Numbers.{max_text}
use Rattle.base_refusals.specs.declared.Refusal.{Refusal}
use Rattle.text_checks.specs.Check.{is_text}
use Rattle.sheet_blocks.specs.Sheets.{tries_at, only_blocks}
use Rattle.sheet_report.specs.declared.Told.{Told}
use Rattle.sheet_report.specs.declared.Told.TheVariants.{More, Done}
use Rattle.sheet_report.specs.declared.Part.{Part}
use Rattle.sheet_report.specs.Report.{refused_line, report_of, report}
use Rattle.sheet_report.specs.Parts.{max_line, Laid, begins_line, part_of, start_of, shown_part}

-- what stands in the lent memory as far as a call counts
abbrev pub laid_in : List ℕ → Laid → List ℕ
laid_in out r = take (shown_part r).len (over r.text out)

-- ---- one call

-- an answer that ends the calls: any but More
abbrev pub NoMore : Result Told Refusal → Type 0
NoMore a = a ≡ Ok More → ⊥

-- What an answer leaves of the report: nothing where it is the last; else the report from the line on where the next call goes on. A line begins there that
-- can have its number.
pub data Leaves (t : List ℕ) (p : Part) : List ℕ → Type 0 where
  nothing : NoMore p.told → Leaves t p []
  more : p.told ≡ Ok More → length t ≤ max_text → 1 ≤ p.line → p.line ≤ p.at + 1 → p.at < length t → begins_line t p.at ≡ true
      → Leaves t p (report_of t (only_blocks (tries_at t max_text p.line p.at)))

-- what a call lays and what it leaves is `all`; where there is more, the next call begins farther on than the place `at`
pub record Goes_on (t : List ℕ) (at : ℕ) (out : List ℕ) (R : Laid) (all : List ℕ) : Type 0 where
  pub rest : List ℕ
  pub leaves : Leaves t (shown_part R) rest
  pub sum : laid_in out R ++ rest ≡ all
  pub farther : R.told ≡ Ok More → at < R.at

-- a call that goes on at the line of number n, which begins at `at`: of the report from there on
abbrev pub PartGoes : Type 0
PartGoes = (t : List ℕ) → length t ≤ max_text → (n at : ℕ) (join out : List ℕ)
    → 1 ≤ n → n ≤ at + 1 → at ≤ length t → begins_line t at ≡ true → max_text ≤ length join → max_line ≤ length out
    → Goes_on t at out (part_of t at n (length join) (length out)) (report_of t (only_blocks (tries_at t max_text n at)))

-- "A refusal touches no other lent memory": a call of `report_part` that refuses lays nothing; one of `report_start` only for 1 or 2, where the longest line
-- has room, and then "the only output is `refused`, 0, 0, number."
abbrev pub refused_lays : List ℕ → ℕ → Refusal → List ℕ
refused_lays t size r = cond (is_text t || ltb size max_line) [] (refused_line 0 0 r)

abbrev pub RefusedLaid : Type 0
RefusedLaid = (t out : List ℕ) (at n cap : ℕ) (r : Refusal)
    → ((part_of t at n cap (length out)).told ≡ Err r → over (part_of t at n cap (length out)).text out ≡ out)
    × ((start_of t cap (length out)).told ≡ Err r → over (start_of t cap (length out)).text out ≡ over (refused_lays t (length out) r) out)

-- ---- the calls for a sheet

-- memory lent to a call: room to join any text, and room for a line
pub record Lent : Type 0 where
  pub join : List ℕ
  pub out : List ℕ
  pub joins : max_text ≤ length join
  pub lines : max_line ≤ length out

-- call 0 is `report_start`, and each other is `report_part`: call k is lent `lend k`, and goes on where the answer before it said
abbrev pub first_call : List ℕ → (ℕ → Lent) → Laid
first_call t lend = start_of t (length (lend 0).join) (length (lend 0).out)

abbrev pub call_at : List ℕ → (ℕ → Lent) → ℕ → Part → Laid
call_at t lend k p = part_of t p.at p.line (length (lend k).join) (length (lend k).out)

-- behind the answer p the calls from number k on, up to the last, lay xs in all
pub data Calls (t : List ℕ) (lend : ℕ → Lent) : ℕ → Part → List ℕ → Type 0 where
  last : {k : ℕ} {p : Part} → NoMore p.told → Calls t lend k p []
  next : {k : ℕ} {p : Part} {xs : List ℕ} → p.told ≡ Ok More → Calls t lend (suc k) (shown_part (call_at t lend k p)) xs → Calls t lend k p (laid_in (lend k).out (call_at t lend k p) ++ xs)

-- they lay the report of the sheet, each byte once and nothing else
abbrev pub AllLaid : Type 0
AllLaid = (t : List ℕ) (lend : ℕ → Lent) (xs : List ℕ) → Calls t lend 1 (shown_part (first_call t lend)) xs → laid_in (lend 0).out (first_call t lend) ++ xs ≡ report t

-- and they end
abbrev pub AllEnd : Type 0
AllEnd = (t : List ℕ) (lend : ℕ → Lent) → (xs : List ℕ) × Calls t lend 1 (shown_part (first_call t lend)) xs

-- one call lays all of it, where there is room for the report and one line more; of a text that gives neither 1 nor 2 it says that this is all
pub record Whole (t : List ℕ) (R : Laid) : Type 0 where
  pub last : NoMore R.told
  pub text : R.text ≡ report t
  pub done : is_text t ≡ true → R.told ≡ Ok Done

abbrev pub AtOnce : Type 0
AtOnce = (t : List ℕ) (lent : Lent) → length (report t) + max_line ≤ length lent.out → Whole t (start_of t (length lent.join) (length lent.out))
