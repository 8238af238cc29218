-- The place that is said with a 5.
-- Assumes nothing.
use Rattle.std.specs.Prelude.{Err, None, Ok, Option, Result, Some}
use mathlib.Core.Path.{◌≡◌, refl, sym, ◌∙◌, ap}
use mathlib.Core.Bool.{Bool, true, false, cond, not}
use mathlib.Core.List.{List}
use Prim.Native.Nat.{ℕ, suc}
use borrow.Author.Tests.{eq-eqb, ne_eqb, not-true}
use lib.Dec.{eqb, ltb}
use lib.ListN.{length}
use Rattle.base_lists.proofs.More.{contra}
use Rattle.base_bytes.specs.declared.Mode.{Mode}
use Rattle.base_refusals.specs.Numbers.{number_of, outcome_no, max_text, too_long}
use Rattle.base_refusals.specs.Orders.{in_order, order_no}
use Rattle.base_refusals.specs.declared.Refusal.{Refusal}
use Rattle.base_refusals.specs.declared.Refusal.TheVariants.{TextTooLong, NotUtf8, NothingThere, NoReading, TooManyClasses, TooManyKeys}
use Rattle.base_refusals.proofs.Orders.{paper_no}
use Rattle.text_utf8.specs.Computed.{is_utf8}
use Rattle.text_names.specs.Tested.{tested}
use Rattle.text_names.proofs.Told.{whole_is, stops_is}
use Rattle.block_grammar.specs.Grammar.{Reading}
use Rattle.block_grammar.specs.Computed.{read_payload}
use Rattle.block_grammar.specs.ComputedClose.{find_close}
use Rattle.block_places.specs.Computed.{payload_place}
use Rattle.block_tokens.specs.Shown.{accepted, payload_tested}
use Rattle.block_chain.proofs.Good.{anywhere}
use Rattle.set_table.specs.Types.{Texts, one, max_classes, max_keys}
use Rattle.set_table.specs.Rows.{Rows, no_rows, with_puts, table_of}
use Rattle.set_table.specs.Puts.{puts_in}
use Rattle.set_table.specs.Filled.{refusing, limited}
use Rattle.set_fill.specs.Fill.{filled_by, filled_of}
use Rattle.read_brace.specs.declared.NotRead.{NotRead}
use Rattle.read_brace.specs.declared.NotRead.TheVariants.{Refused, Unread}
use Rattle.read_brace.specs.Brace.{brace_paper, place_said, refusing_read, brace_at, payload_of, answer_at, finished, read_to, read_attrs_at, at_brace, brace_order, behind_close, place_to, place_at}
use Rattle.read_brace.proofs.Numbers.{brace_no}

-- ---- asked for only with a 5

abbrev pub is_five : Result (Unit {0}) Refusal → Bool
is_five o = eqb (outcome_no o) (number_of NoReading)

-- what is filled of a reading is no 5
limits_no_5 : (s : Rows) → is_five (limited s).outcome ≡ false
unfolding limited in_order number_of
limits_no_5 s = go (ltb max_classes (length s.classes)) (ltb max_keys (length s.keys))
  where
    go : (a b : Bool) → is_five (cond a (refusing TooManyClasses) (cond b (refusing TooManyKeys) (record { outcome = Ok tt; set = table_of s }))).outcome ≡ false
    go true b = refl
    go false true = refl
    go false false = refl

five_unread : (t : Texts) (r : Reading) → is_five (filled_by t r).outcome ≡ true → accepted r ≡ false
five_unread t Reading.refused e = refl
five_unread t (Reading.items is) e = contra (is_five (limited (with_puts t no_rows (puts_in is))).outcome) e (limits_no_5 (with_puts t no_rows (puts_in is)))

module _ (m : Mode) (t : Texts) (at : ℕ) (s : List ℕ) {o : Result (Unit {0}) Refusal} (given : o ≡ (filled_of m t at s).outcome) where
  none_read : is_five o ≡ true → accepted (read_payload m 0 s) ≡ false
  unfolding filled_of
  none_read e = anywhere m s 0 at ∙ five_unread t (read_payload m at s) (ap is_five (sym given) ∙ e)

  pub never_whole : {r : Result (Unit {0}) ℕ} → r ≡ payload_tested m s → is_five o ≡ true → r ≡ Ok tt → 0 ≡ cond (is_five o) (payload_place m s) 0
  never_whole f e g = contra (accepted (read_payload m 0 s)) (whole_is (accepted (read_payload m 0 s)) (payload_place m s) (sym g ∙ f)) (none_read e)

  pub stops_at_lem : {r : Result (Unit {0}) ℕ} {n : ℕ} → r ≡ payload_tested m s → is_five o ≡ true → r ≡ Err n → n ≡ cond (is_five o) (payload_place m s) 0
  stops_at_lem f e g = rw e (stops_is (accepted (read_payload m 0 s)) (payload_place m s) (sym g ∙ f)).1

-- with any other outcome the place isn't said
pub said_only : (o : Result (Unit {0}) Refusal) (next p : ℕ) → answer_at o next (cond (is_five o) p 0) ≡ answer_at o next p
said_only (Ok _) next p = refl
said_only (Err r) next p = go (eqb (number_of r) (number_of NoReading))
  where
    go : (b : Bool) → cond {A = Result ℕ NotRead} b (Err (Unread (cond b p 0))) (Err (Refused r)) ≡ cond b (Err (Unread p)) (Err (Refused r))
    go true = refl
    go false = refl

-- a refusal by its number
pub answer_five : {o : Result (Unit {0}) Refusal} (next n : ℕ) {r : Refusal} {a b : ℕ} → o ≡ Err r → a ≡ number_of r → b ≡ number_of NoReading → a ≡ b → Err (Unread n) ≡ answer_at o next n
answer_five next n {r} e f g h = rw (e, eq-eqb (number_of r) (number_of NoReading) (sym f ∙ h ∙ g))

pub answer_other : {o : Result (Unit {0}) Refusal} (next n : ℕ) {r : Refusal} {a b : ℕ} → o ≡ Err r → a ≡ number_of r → b ≡ number_of NoReading → (a ≡ b → ⊥) → Err (Refused r) ≡ answer_at o next n
answer_other next n {r} e f g h = rw (e, ne_eqb (number_of r) (number_of NoReading) (λ q. h (f ∙ q ∙ sym g)))

pub not_said : (o : Result (Unit {0}) Refusal) (p : ℕ) {b : Bool} → b ≡ is_five o → not b ≡ true → 0 ≡ cond (is_five o) p 0
not_said o p {b} e f = rw (sym e ∙ not-true b f)

-- ---- the place by the number that is given

place_no : (o : Result (Unit {0}) Refusal) (next n : ℕ) → place_said (answer_at o next n) ≡ cond (eqb (brace_paper (answer_at o next n)).number (number_of NoReading)) n 0
unfolding number_of
place_no (Ok _) next n = refl
place_no (Err r) next n = go (eqb (number_of r) 5) refl
  where
    go : (b : Bool) → eqb (number_of r) 5 ≡ b → place_said (cond b (Err (Unread n)) (Err (Refused r))) ≡ cond (eqb (brace_paper (cond b (Err (Unread n)) (Err (Refused r)))).number 5) n 0
    go true e = refl
    go false e = rw e

module _ (m : Mode) (t : List ℕ) (i : ℕ) where
  -- what an answer says where p is the close
  abbrev says_at : Option ℕ → Result ℕ NotRead → Type 0
  says_at p a = place_said a ≡ cond (eqb (brace_paper a).number (number_of NoReading)) (place_to m t i p) 0

  close_place : (p : Option ℕ) → says_at p (read_to m t i p).answer
  unfolding finished number_of
  close_place None = refl
  close_place (Some e) = go (is_utf8 (payload_of t i e))
    where
      go : (b : Bool) → says_at (Some e) (cond b (finished (filled_of m (one t) (suc i) (payload_of t i e)) (suc e) (payload_place m (payload_of t i e))) (refusing_read NotUtf8)).answer
      go true = place_no (filled_of m (one t) (suc i) (payload_of t i e)).outcome (suc e) (payload_place m (payload_of t i e))
      go false = refl

  says : says_at (find_close t (suc i)) (read_attrs_at m t i).answer
  unfolding read_attrs_at at_brace number_of
  says = go (too_long t) (brace_at t i)
    where
      go : (a b : Bool) → says_at (find_close t (suc i)) (cond a (refusing_read TextTooLong) (cond b (read_to m t i (find_close t (suc i))) (refusing_read NothingThere))).answer
      go true b = refl
      go false true = close_place (find_close t (suc i))
      go false false = refl

  pub brace_place : place_said (read_attrs_at m t i).answer ≡ place_at m t i
  unfolding place_at
  brace_place =
      says
      ∙ ap (λ k. cond (eqb k (number_of NoReading)) (place_to m t i (find_close t (suc i))) 0)
      (ap (λ p. p.number) (brace_no m t i) ∙ paper_no (brace_order m t i) (behind_close (find_close t (suc i))))
