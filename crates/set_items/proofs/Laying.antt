-- A name and a value laid one behind the other.
-- Assumes nothing.
use Rattle.std.specs.Prelude.{Err, Ok, Result}
use mathlib.Core.Path.{◌≡◌, refl, sym, ◌∙◌, ap}
use mathlib.Core.Bool.{Bool, true, false}
use mathlib.Core.List.{List, [], ◌∷◌, ◌++◌}
use Prim.Native.Nat.{ℕ, ◌+◌, ◌≤◌, ◌<◌}
use native.Mathlib.Nat.{zero-add}
use native.Mathlib.Omega.{arith}
use borrow.Author.Tests.{le-leb, lt-leb, leb-true}
use lib.Dec.{leb}
use lib.ListN.{length, length-append}
use lib.Seq.{sets, sets-eq}
use Rattle.base_lists.specs.Lists.{over}
use Rattle.base_lists.proofs.Sets.{sets-append}
use Rattle.base_refusals.specs.Orders.{in_order, order_no}
use Rattle.base_refusals.specs.declared.Refusal.{Refusal}
use Rattle.base_refusals.specs.declared.Refusal.TheVariants.{CanonTooLong}
use Rattle.text_checks.specs.Outcomes.{unless, or_else}
use Rattle.text_escapes.specs.Unescape.{fits, content_of}
use Rattle.block_grammar.specs.Meaning.{lang_name}
use Rattle.set_canon.specs.Canon.{Pair}
use Rattle.set_table.specs.Types.{Texts, range_bytes, name_bytes, value_bytes}
use Rattle.set_table.specs.declared.Origin.{Origin}
use Rattle.set_table.specs.declared.Name.{Name}
use Rattle.set_table.specs.declared.Name.TheVariants.{Range, Lang}
use Rattle.set_table.specs.declared.Value.{Value}
use Rattle.set_marks.specs.Marks.{raw_bytes, is_quoted, bytes_in}
use Rattle.set_marks.proofs.Values.{raw_value}
use Rattle.set_items.specs.declared.Laid.{Laid}
use Rattle.set_items.specs.Items.{named, laid_bytes, laid_of, laid_in, laid_paper, numbered_laid}

-- what has room is written
pub has_room : (buf : List ℕ) (at : ℕ) (xs : List ℕ) → at + length xs ≤ length buf → content_of buf at xs ≡ sets buf at xs
unfolding content_of fits
has_room buf at xs h = rw (le-leb (at + length xs) (length buf) h)

-- ---- whether there is room
pub no_room : (n v size : ℕ) → size < n + v → Err CanonTooLong ≡ unless CanonTooLong (leb (n + v) size)
no_room n v size h = rw (lt-leb (n + v) size h)

pub room : (n v size : ℕ) → n + v ≤ size → Ok tt ≡ unless CanonTooLong (leb (n + v) size)
room n v size h = rw (le-leb (n + v) size h)

pub room_in_lem : (c : Result (Unit {0}) Refusal) (n v size : ℕ) {o : Result (Unit {0}) Refusal} → o ≡ or_else c (unless CanonTooLong (leb (n + v) size)) → o ≡ Ok tt → n + v ≤ size
room_in_lem c n v size e r = go c (leb (n + v) size) refl (sym e ∙ r)
  where
    go : (d : Result (Unit {0}) Refusal) (b : Bool) → leb (n + v) size ≡ b → or_else d (unless CanonTooLong b) ≡ Ok tt → n + v ≤ size
    go (Ok _) true f z = leb-true (n + v) size f
    go (Ok _) false f z = let z : ◌≡◌ {A = ℕ} 0 1 = cc in absurd (omega arith)
    go (Err w) b f z = let z : ◌≡◌ {A = ℕ} 0 1 = cc in absurd (omega arith)

-- so a value of v bytes has room behind n
pub value_room : (c : Result (Unit {0}) Refusal) (n : ℕ) {v size : ℕ} {o : Result (Unit {0}) Refusal} → o ≡ or_else c (unless CanonTooLong (leb (n + v) size)) → o ≡ Ok tt → {k m : ℕ} → v ≡ k → m ≡ size → n + k ≤ m
value_room c n {v} {size} e r f l = omega (arith, room_in_lem c n v size e r)

-- ---- the bytes of a value, by its raw text
pub value_of : (t : Texts) (v : Value) {s : List ℕ} {q : Bool} → s ≡ raw_bytes t v → q ≡ is_quoted v → bytes_in q s ≡ value_bytes t v
value_of t v e f = rw (e, f) (raw_value t v)

-- ---- laid, or not

module _ (c : Result (Unit {0}) Refusal) (name value buf : List ℕ) {o : Result (Unit {0}) Refusal} {n v : ℕ} (p : n ≡ length name) (q : v ≡ length value) (e : o ≡ or_else c (unless CanonTooLong (leb (n + v) (length buf)))) where
  outcome : o ≡ (laid_of c (length buf) (named name value ∷ [])).outcome
  outcome = rw (length-append name value, ← p, ← q) e

  laid : record { outcome = o; name = n; value = v } ≡ laid_of c (length buf) (named name value ∷ [])
  laid = rw (← outcome, p, q)

  pub not_laid : {why : Refusal} → o ≡ Err why
      → (record { outcome = Err why; name = n; value = v } ≡ laid_of c (length buf) (named name value ∷ [])) × (buf ≡ laid_in c buf (named name value ∷ []))
  not_laid r = (rw r at laid, rw (← outcome, r))

  pub was_laid : o ≡ Ok tt → {b d : List ℕ} → b ≡ sets buf 0 name → d ≡ sets b n value
      → (record { outcome = Ok tt; name = n; value = v } ≡ laid_of c (length buf) (named name value ∷ [])) × (d ≡ laid_in c buf (named name value ∷ []))
  was_laid r {b} {d} f g = (rw r at laid, rw (← outcome, r) front)
    where
      both : d ≡ sets buf 0 (name ++ value)
      both = g ∙ rw (f, p) (sym (rw (zero-add (length name)) at (sets-append buf 0 name value)))

      front : d ≡ over (name ++ value) buf
      front = both ∙ (rw (zero-add (length (name ++ value))) at (sets-eq (name ++ value) buf 0 (omega (arith, length-append name value, room_in_lem c n v (length buf) e r))))

-- the same name by other words
pub by_name_lem : (c : Result (Unit {0}) Refusal) (buf value : List ℕ) {s m : List ℕ} → s ≡ m → {r : Laid} {d : List ℕ} → (r ≡ laid_of c (length buf) (named s value ∷ [])) × (d ≡ laid_in c buf (named s value ∷ []))
    → (r ≡ laid_of c (length buf) (named m value ∷ [])) × (d ≡ laid_in c buf (named m value ∷ []))
by_name_lem c buf value e p = rw (← e) p

pub range_name : (t : Texts) {m : Name} {o : Origin} {f g : ℕ} {s : List ℕ} → m ≡ Range o f g → s ≡ range_bytes t o f g → s ≡ name_bytes t m
unfolding name_bytes
range_name t e p = rw e p

pub lang_name_lem : (t : Texts) {m : Name} → m ≡ Lang → lang_name ≡ name_bytes t m
unfolding name_bytes
lang_name_lem t e = rw e

-- nothing is there to lay
pub none_laid : (c : Result (Unit {0}) Refusal) (buf : List ℕ) → (record { outcome = c; name = 0; value = 0 } ≡ laid_of c (length buf) []) × (buf ≡ laid_in c buf [])
none_laid (Ok _) buf = (rw (le-leb 0 (length buf) (omega arith)), rw (le-leb 0 (length buf) (omega arith)))
none_laid (Err r) buf = (refl, refl)

-- ---- on paper: what was refused before, else 10, and both lengths

laid_no : (c : Result (Unit {0}) Refusal) (size : ℕ) (ps : List Pair) → laid_paper (laid_of c size ps) ≡ numbered_laid c size ps
unfolding order_no in_order
laid_no (Err r) size ps = refl
laid_no (Ok _) size ps = go (leb (length (laid_bytes ps)) size) refl
  where
    go : (x : Bool) → leb (length (laid_bytes ps)) size ≡ x → laid_paper (laid_of (Ok tt) size ps) ≡ numbered_laid (Ok tt) size ps
    go true e = rw e
    go false e = rw e

module _ (c : Result (Unit {0}) Refusal) (buf : List ℕ) (ps : List Pair) {r : Laid} {d : List ℕ} where
  pub said : (r ≡ laid_of c (length buf) ps) × (d ≡ laid_in c buf ps) → record { value : r ≡ laid_of c (length buf) ps; out_after : d ≡ laid_in c buf ps; result_value : laid_paper r ≡ numbered_laid c (length buf) ps }
  said (e, f) = record { value = e; out_after = f; result_value = ap laid_paper e ∙ laid_no c (length buf) ps }

-- two clauses as a pair, and back
pub both : {A B : Type 0} → A × B → record { value : A; out_after : B }
both e = record { value = e.0; out_after = e.1 }

pub pair : {A B : Type 0} → record { value : A; out_after : B } → A × B
pair e = (e.value, e.out_after)
