-- The two entries on paper. The numbers of `report_part`: 1, 9, 3, 10, else none; those of `report_start`: 1, 2, 9, 10, else none. Where there is none: whether the report goes on.
-- Assumes nothing.
use Rattle.std.specs.Prelude.{Err}
use mathlib.Core.Path.{◌≡◌, refl, sym, ◌∙◌, ap}
use mathlib.Core.Bool.{Bool, true, false, cond}
use mathlib.Core.List.{List, [], ◌∷◌}
use Prim.Native.Nat.{ℕ, suc, ◌-◌}
use native.Mathlib.Omega.{arith}
use borrow.Author.Tests.{lt-ltb, le-ltb, ltb-true, ltb-false}
use lib.Dec.{ltb}
use lib.ListN.{length}
use Rattle.text_utf8.specs.Computed.{is_utf8}
use Rattle.base_lists.specs.Lists.{over}
use Rattle.base_refusals.specs.Numbers.{max_text, Paper, passed_paper}
use Rattle.base_refusals.specs.Orders.{Ground, on_paper}
use Rattle.base_refusals.specs.declared.Refusal.TheVariants.{NotUtf8, JoinFull, CanonTooLong}
use Rattle.text_checks.specs.Check.{text_order, check_of}
use Rattle.base_refusals.proofs.Orders.{paper_by, paper_where, order_short}
use Rattle.sheet_blocks.specs.Sheets.{Try, tries_at, join_behind}
use Rattle.sheet_report.specs.declared.Part.{Part}
use Rattle.sheet_report.specs.Parts.{told_paper, max_line, Laid, laid_none, shown_part, stopped, laid_behind, try_line, lay_from, more_to_tell, part_of, start_by, start_of, part_order, start_order}
use Rattle.sheet_report.proofs.Lays.{Tells}
use Rattle.sheet_report.proofs.Entries.{begins_is}

one_more : (a b : ℕ) → ltb (suc a) (suc b) ≡ ltb a b
one_more a b = go (ltb a b) refl
  where
    go : (x : Bool) → ltb a b ≡ x → ltb (suc a) (suc b) ≡ x
    go true e = lt-ltb (suc a) (suc b) (omega (arith, ltb-true a b e))
    go false e = le-ltb (suc a) (suc b) (omega (arith, ltb-false a b e))

-- what is laid is no refusal, and it goes on where it stopped before a try
lay_paper : (t : List ℕ) (room : ℕ) (xs : List Try) → told_paper (lay_from t room xs).told ≡ passed_paper (more_to_tell t room xs)
unfolding lay_from
lay_paper t room [] = refl
lay_paper t room (x ∷ xs) = go (ltb room max_line) (lay_paper t (room - length (try_line t x)) xs)
  where
    R : Laid
    R = lay_from t (room - length (try_line t x)) xs

    S : Bool → Laid
    S b = cond b (stopped x) (laid_behind (x ∷ []) (try_line t x) R)

    go : (b : Bool) → told_paper R.told ≡ passed_paper (more_to_tell t (room - length (try_line t x)) xs) → told_paper (S b).told ≡ passed_paper (cond (ltb (length (S b).past) (suc (length xs))) 1 0 ∷ [])
    go true ih = ap (λ l. passed_paper (cond l 1 0 ∷ [])) (sym (lt-ltb 0 (suc (length xs)) (omega arith)))
    go false ih = ih ∙ ap (λ l. passed_paper (cond l 1 0 ∷ [])) (sym (one_more (length R.past) (length xs)))

pub part_paper : (t : List ℕ) (at n cap size : ℕ) → told_paper (part_of t at n cap size).told ≡ on_paper (part_order t at n cap size) (more_to_tell t size (tries_at t max_text n at))
unfolding part_of on_paper
part_paper t at n cap size =
    paper_by (λ x. told_paper x.told) (λ r. laid_none (Err r)) (more_to_tell t size (tries_at t max_text n at)) (λ r. refl) (part_order t at n cap size) [] (lay_paper t size (tries_at t max_text n at))

pub start_paper_lem : (t : List ℕ) (cap size : ℕ) → told_paper (start_of t cap size).told ≡ on_paper (start_order t cap size) (more_to_tell t size (tries_at t max_text 1 0))
unfolding start_of check_of on_paper
start_paper_lem t cap size =
    paper_where (λ o. told_paper (start_by t cap size o).told) Err (more_to_tell t size (tries_at t max_text 1 0)) (λ r. refl) (text_order t)
    (Ground.given JoinFull (ltb cap max_text) ∷ Ground.given CanonTooLong (ltb size max_line) ∷ [])
    (λ e. rw (le-ltb max_text (length t) (order_short t (Ground.lacking NotUtf8 (is_utf8 t) ∷ []) e), sym (begins_is t 0 1 {r = true} (omega arith) (λ z. omega arith) (omega arith) refl)) at (part_paper t 0 1 cap size))

-- what is answered, beside what lent memory then holds, is on paper as what it is equal to
module _ (join₀ out₀ : List ℕ) {p : Part} {join out : List ℕ} where
  said : (R : Laid) {n : Paper} → told_paper R.told ≡ n → Tells join₀ out₀ R p join out → record { value : p ≡ shown_part R; join_after : join ≡ join_behind join₀ R.past; out_after : out ≡ over R.text out₀; told_value : told_paper p.told ≡ n }
  said R k e = record { value = e.0; join_after = e.1.0; out_after = e.1.1; told_value = ap (λ x. told_paper x.told) e.0 ∙ k }

  module _ (t : List ℕ) where
    pub part-said : (at n : ℕ) → Tells join₀ out₀ (part_of t at n (length join₀) (length out₀)) p join out
        → record { value : p ≡ shown_part (part_of t at n (length join₀) (length out₀)); join_after : join ≡ join_behind join₀ (part_of t at n (length join₀) (length out₀)).past; out_after : out ≡ over (part_of t at n (length join₀) (length out₀)).text out₀; told_value : told_paper p.told ≡ on_paper (part_order t at n (length join₀) (length out₀)) (more_to_tell t (length out₀) (tries_at t max_text n at)) }
    part-said at n = said (part_of t at n (length join₀) (length out₀)) (part_paper t at n (length join₀) (length out₀))

    pub start-said : Tells join₀ out₀ (start_of t (length join₀) (length out₀)) p join out
        → record { value : p ≡ shown_part (start_of t (length join₀) (length out₀)); join_after : join ≡ join_behind join₀ (start_of t (length join₀) (length out₀)).past; out_after : out ≡ over (start_of t (length join₀) (length out₀)).text out₀; told_value : told_paper p.told ≡ on_paper (start_order t (length join₀) (length out₀)) (more_to_tell t (length out₀) (tries_at t max_text 1 0)) }
    start-said = said (start_of t (length join₀) (length out₀)) (start_paper_lem t (length join₀) (length out₀))
