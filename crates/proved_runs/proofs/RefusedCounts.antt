-- The count of a run's answer: it is No to the end, or counts no more lines than there are.
-- Assumes nothing.
use Rattle.std.specs.Prelude.{Err, Ok, Result}
use mathlib.Core.Path.{◌≡◌, refl}
use mathlib.Core.Bool.{Bool, true, false, cond}
use mathlib.Core.List.{List, [], ◌∷◌, append-nil}
use Prim.Native.Nat.{ℕ, suc, ◌+◌, ◌≤◌, zero-le}
use native.Mathlib.Omega.{arith}
use lib.Dec.{eqb}
use lib.ListN.{length, get_or, length-map}
use Rattle.block_payloads.specs.Payloads.{opens}
use Rattle.base_lists.proofs.More.{contra}
use Rattle.base_refusals.specs.Numbers.{number_of}
use Rattle.base_refusals.specs.declared.Refusal.TheVariants.{JoinFull}
use Rattle.text_lines.specs.Trim.{is_blank_line}
use Rattle.text_tabs.specs.Columns.{indent_columns}
use Rattle.run_lines.specs.Runs.{as_is, run_of}
use Rattle.run_spots.specs.Spots.{shallow_or, closes_comment, opens_comment}
use Rattle.run_refused.specs.declared.RunReply.{RunReply}
use Rattle.run_refused.specs.declared.RunReply.TheVariants.{No, Lines, NoEnd}
use Rattle.run_refused.specs.Refused.{reply_paper, Stretch, walk_from, on_first, unjoined, run_answer, found_in, comment_by, comment_from, refused_of}
use Rattle.run_refused.specs.Inner.{lines_taken}
use Rattle.run_refused.proofs.Bounds.{walk_first, ends_last}
use Rattle.base_refusals.specs.declared.Refusal.{Refusal}

abbrev pub is_end : Result RunReply Refusal → Bool
is_end (Ok (No n)) = false
is_end (Ok (Lines n)) = false
is_end (Ok NoEnd) = true
is_end (Err r) = false

abbrev pub count_on : Result RunReply Refusal → ℕ
count_on a = get_or (reply_paper a).values 1 0

-- No to the end, or at most k lines
abbrev pub Counts : ℕ → Result RunReply Refusal → Type 0
Counts k a = is_end a ≡ false → count_on a ≤ k

stop_lines : (x : Result (Unit {0}) Refusal) (good : Bool) (count : ℕ) → count_on (run_answer x good count) ≤ count
stop_lines (Ok _) true count = omega arith
stop_lines (Ok _) false count = zero-le
stop_lines (Err r) good count = go (eqb (number_of r) (number_of JoinFull))
  where
    go : (b : Bool) → count_on (cond b (Err r) (Ok (No 0))) ≤ count
    go true = zero-le
    go false = zero-le

found-lines : (cap : ℕ) (f : Stretch) → count_on (found_in cap f).answer ≤ length (lines_taken f)
unfolding found_in
found-lines cap Stretch.none = zero-le
found-lines cap (Stretch.block true ls) = stop_lines (run_of cap 0 ls).stop _ (length ls)
found-lines cap (Stretch.block false ls) = zero-le

by_lines : (b : Bool) (n : ℕ) → count_on (comment_by b n) ≡ n
by_lines true n = refl
by_lines false n = refl

comment_lines : (opener n : ℕ) (shallow : Bool) (ls : List (List ℕ)) → Counts (n + length ls) (comment_from opener n shallow ls)
unfolding comment_from
comment_lines opener n shallow [] = λ e. contra true refl e
comment_lines opener n shallow (l ∷ ls) = go (is_blank_line l) (closes_comment l) (comment_lines opener (suc n) s ls)
  where
    s : Bool
    s = shallow_or shallow (eqb n 0) (indent_columns l) opener

    go : (x y : Bool) → Counts (suc n + length ls) (comment_from opener (suc n) s ls) → Counts (n + suc (length ls)) (cond x (Ok NoEnd) (cond y (comment_by s (suc n)) (comment_from opener (suc n) s ls)))
    go true y ih e = contra true refl e
    go false true ih e = omega (arith, by_lines s (suc n))
    go false false ih e = omega (arith, ih e)

pub run-lines : (cap : ℕ) (ls : List (List ℕ)) → Counts (length ls) (refused_of cap ls).answer
unfolding refused_of
run-lines cap [] = λ e. zero-le
run-lines cap (l ∷ ls) = go (opens l) (opens_comment l)
  where
    c : ℕ
    c = indent_columns l

    walked : length (lines_taken (walk_from c (on_first c) (l ∷ ls))) ≤ suc (length ls)
    walked =
        let z = walk_first length refl (λ opener w m ps ms h. omega arith) c [] (ends_last length refl (λ opener w m ps ms h. omega arith) c) ls l (on_first c) in
        omega (arith, (rw (append-nil ls) at z), length-map ls as_is)

    go : (x y : Bool) → Counts (suc (length ls)) (cond x (cond y (unjoined (comment_from c 0 false (l ∷ ls))) (found_in cap (walk_from c (on_first c) (l ∷ ls)))) (unjoined (Ok (No 0)))).answer
    go false y e = zero-le
    go true true e = omega (arith, comment_lines c 0 false (l ∷ ls) e)
    go true false e = omega (arith, walked, found-lines cap (walk_from c (on_first c) (l ∷ ls)))
