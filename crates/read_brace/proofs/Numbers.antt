-- The numbers at a brace, with the place behind the close: "at a brace 1, 3, 4, 2, 5, 6, 7".
-- Assumes nothing.
use Rattle.std.specs.Prelude.{Err, None, Option, Some}
use mathlib.Core.Path.{◌≡◌, refl, ap, ◌∙◌}
use mathlib.Core.Bool.{Bool, true, false, cond}
use mathlib.Core.List.{List, [], ◌∷◌}
use borrow.Author.Tests.{eqb-true}
use lib.Dec.{eqb}
use Prim.Native.Nat.{ℕ, suc}
use Rattle.base_bytes.specs.declared.Mode.{Mode}
use Rattle.text_utf8.specs.Computed.{is_utf8}
use Rattle.base_refusals.specs.Numbers.{Paper, refused_paper, number_of, too_long}
use Rattle.base_refusals.specs.Orders.{Ground, in_order, on_paper}
use Rattle.base_refusals.specs.declared.Refusal.{Refusal}
use Rattle.base_refusals.specs.declared.Refusal.TheVariants.{TextTooLong, NotUtf8, NothingThere, NoReading}
use Rattle.base_refusals.proofs.Orders.{paper_by}
use Rattle.block_grammar.specs.Computed.{read_payload}
use Rattle.block_grammar.specs.Grammar.{Reading}
use Rattle.block_grammar.specs.ComputedClose.{find_close}
use Rattle.set_table.specs.Types.{Texts, one}
use Rattle.set_table.specs.Rows.{no_rows, with_puts}
use Rattle.set_table.specs.Puts.{puts_in}
use Rattle.set_table.specs.Filled.{refusing, limit_order, limited}
use Rattle.set_fill.specs.Fill.{filled_by, reading_order, filled_of}
use Rattle.block_places.specs.Computed.{payload_place}
use Rattle.read_brace.specs.declared.NotRead.TheVariants.{Refused, Unread}
use Rattle.read_brace.specs.declared.Read.{Read}
use Rattle.read_brace.specs.Brace.{brace_paper, place_said, refusing_read, brace_at, payload_of, answer_at, finished, read_to, at_brace, read_attrs_at, close_order, brace_order, behind_close}

-- a refusal's number stays its own where it says a place
refusal_no : (next n : ℕ) (r : Refusal) → brace_paper (answer_at (Err r) next n) ≡ refused_paper r
refusal_no next n r = go (eqb (number_of r) (number_of NoReading)) refl
  where
    go : (b : Bool) → eqb (number_of r) (number_of NoReading) ≡ b → brace_paper (cond b (Err (Unread n)) (Err (Refused r))) ≡ refused_paper r
    go true e = rw (eqb-true (number_of r) (number_of NoReading) e)
    go false e = refl

-- what is filled, with the place behind the block
filled_no : (t : Texts) (next n : ℕ) (r : Reading) → brace_paper (answer_at (filled_by t r).outcome next n) ≡ on_paper (reading_order t r) (next ∷ [])
unfolding limited in_order on_paper
filled_no t next n Reading.refused = refusal_no next n NoReading
filled_no t next n (Reading.items is) =
    paper_by (λ f. brace_paper (answer_at f.outcome next n)) refusing (next ∷ []) (refusal_no next n) (limit_order (with_puts t no_rows (puts_in is))) [] refl

module _ (m : Mode) (t : List ℕ) (i : ℕ) where
  close_no : (p : Option ℕ) → brace_paper (read_to m t i p).answer ≡ on_paper (close_order m t i p) (behind_close p)
  unfolding finished filled_of in_order on_paper
  close_no None = refl
  close_no (Some e) =
      paper_by (λ x. brace_paper x.answer) refusing_read (suc e ∷ []) (λ r. refl) (Ground.lacking NotUtf8 (is_utf8 (payload_of t i e)) ∷ [])
      (reading_order (one t) (read_payload m (suc i) (payload_of t i e))) (filled_no (one t) (suc e) (payload_place m (payload_of t i e)) (read_payload m (suc i) (payload_of t i e)))

  pub brace_no : brace_paper (read_attrs_at m t i).answer ≡ on_paper (brace_order m t i) (behind_close (find_close t (suc i)))
  unfolding read_attrs_at at_brace in_order
  brace_no =
      paper_by (λ x. brace_paper x.answer) refusing_read (behind_close (find_close t (suc i))) (λ r. refl) (Ground.given TextTooLong (too_long t) ∷ Ground.lacking NothingThere (brace_at t i) ∷ [])
      (close_order m t i (find_close t (suc i))) (close_no (find_close t (suc i)))

-- what is read has the number, the values and the place of what it is equal to
pub said : {r d : Read} {p : Paper} {n : ℕ} → brace_paper d.answer ≡ p → place_said d.answer ≡ n → r ≡ d → record { value : r ≡ d; answer_value : brace_paper r.answer ≡ p; answer_value_2 : place_said r.answer ≡ n }
said k l e = record { value = e; answer_value = ap (λ x. brace_paper x.answer) e ∙ k; answer_value_2 = ap (λ x. place_said x.answer) e ∙ l }
