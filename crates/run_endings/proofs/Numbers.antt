-- The number and value of the answer: 1 and 2 of the text, then 9 exactly where one of the runs tried is stopped by a full join buffer and none before it took all lines, else yes or no.
-- Assumes nothing.
use Rattle.std.specs.Prelude.{Err, Ok, Result}
use mathlib.Core.Path.{◌≡◌, refl, sym, ◌∙◌, ap}
use mathlib.Core.Bool.{Bool, true, false, cond, ◌&&◌, not}
use mathlib.Core.List.{List, [], ◌∷◌}
use Prim.Native.Nat.{ℕ}
use native.Mathlib.Omega.{arith}
use lib.Dec.{eqb}
use lib.ListN.{length}
use Rattle.base_lists.specs.Lists.{all, over}
use Rattle.base_lists.proofs.Sets.{over_long}
use Rattle.base_refusals.specs.Numbers.{refused_paper}
use Rattle.base_refusals.specs.Orders.{Ground, on_paper}
use Rattle.base_refusals.specs.declared.Refusal.{Refusal}
use Rattle.base_refusals.proofs.Numbers.{number_among}
use Rattle.base_refusals.proofs.Orders.{paper_by}
use Rattle.text_checks.specs.Check.{text_order, check_of}
use Rattle.text_lines.specs.Lines.{lines}
use Rattle.run_refused.specs.Refused.{RunTold, refused_of, lines_order}
use Rattle.run_refused.specs.declared.RunReply.{RunReply}
use Rattle.run_refused.specs.declared.RunReply.TheVariants.{No, Lines, NoEnd}
use Rattle.run_refused.proofs.Bounds.{told_fits}
use Rattle.run_refused.proofs.Numbers.{Replies, run_no}
use Rattle.run_endings.specs.declared.EndsRun.{EndsRun}
use Rattle.run_endings.specs.Endings.{ends_paper, Ended, settled, tries_of, told_by, tried_in, ends_of, ends_by, ends_in, ends_shown, or_next, tried_order, ends_order, takes_all, yes_no}

-- where an order refuses, its values say nothing
any_values : (gs : List Ground) (vs ws : List ℕ) (r : Refusal) → refused_paper r ≡ on_paper gs vs → refused_paper r ≡ on_paper gs ws
unfolding on_paper
any_values [] vs ws r e = absurd (omega (arith, ap (λ p. p.number) e, (number_among r).0))
any_values (Ground.given q true ∷ gs) vs ws r e = e
any_values (Ground.given q false ∷ gs) vs ws r e = any_values gs vs ws r e
any_values (Ground.lacking q true ∷ gs) vs ws r e = any_values gs vs ws r e
any_values (Ground.lacking q false ∷ gs) vs ws r e = e

by_answer : (a : Result RunReply Refusal) (count : ℕ) (buf : List ℕ) (next : Ended) (gs hs : List Ground) (rest : Bool) → Replies a gs → ends_paper next.answer ≡ on_paper hs (cond rest 0 1 ∷ [])
    → ends_paper (told_by a count buf next).answer ≡ on_paper (or_next a count gs hs) (cond (not (takes_all a count) && rest) 0 1 ∷ [])
unfolding on_paper
by_answer (Err r) count buf next gs hs rest e q = any_values gs [] (cond rest 0 1 ∷ []) r e
by_answer (Ok (No m)) count buf next gs hs rest e q = q
by_answer (Ok NoEnd) count buf next gs hs rest e q = q
by_answer (Ok (Lines m)) count buf next gs hs rest e q = go (eqb m count)
  where
    go : (b : Bool) → ends_paper (cond b (settled (Ok true) buf) next).answer ≡ on_paper (cond b [] hs) (cond (not b && rest) 0 1 ∷ [])
    go true = refl
    go false = q

tried_no : (buf : List ℕ) (rs : List (List (List ℕ))) → ends_paper (tried_in buf rs).answer ≡ on_paper (tried_order buf rs) (yes_no (length buf) rs)
unfolding tried_in tried_order on_paper all
tried_no buf [] = refl
tried_no buf (ls ∷ more) =
    by_answer r.answer (length ls) _ _ (lines_order (length buf) ls) (tried_order after more) (all (λ ms. not (takes_all (refused_of (length buf) ms).answer (length ms))) more)
    (run_no (length buf) ls) (tried_no after more ∙ ap (λ n. on_paper (tried_order after more) (yes_no n more)) (over_long r.text buf (told_fits (length buf) ls)))
  where
    r : RunTold
    r = refused_of (length buf) ls

    after : List ℕ
    after = over r.text buf

pub ends_no : (buf t : List ℕ) → ends_paper (ends_in buf t).answer ≡ on_paper (ends_order buf t) (yes_no (length buf) (tries_of (lines t)))
unfolding ends_in ends_of check_of
ends_no buf t =
    paper_by (λ o. ends_paper (ends_by buf t o).answer) Err (yes_no (length buf) (tries_of (lines t))) (λ r. refl) (text_order t)
    (tried_order buf (tries_of (lines t))) (tried_no buf (tries_of (lines t)))

-- what is promised
pub said-ends : (buf t : List ℕ) {g : EndsRun} {x : List ℕ} → (g ≡ ends_shown (ends_in buf t)) × (x ≡ (ends_in buf t).join)
    → record { value : g ≡ ends_shown (ends_in buf t); join_after : x ≡ (ends_in buf t).join; answer_value : ends_paper g.answer ≡ on_paper (ends_order buf t) (yes_no (length buf) (tries_of (lines t))) }
said-ends buf t w = record { value = w.0; join_after = w.1; answer_value = ap (λ g. ends_paper g.answer) w.0 ∙ ends_no buf t }
