use Rattle.std.specs.Prelude.{Result}
use mathlib.Core.Path.{◌≡◌, sym, ◌∙◌, ap}
use mathlib.Core.Bool.{Bool}
use mathlib.Core.List.{List}
use Prim.Native.Nat.{ℕ}
use borrow.Author.Tests.{not-true, not-false}
use Rattle.text_names.specs.Tested.{tested, says_whole}
use Rattle.text_names.specs.Names.{is_key, key_place}
use Rattle.text_names.proofs.Told.{says}
use Rattle.set_table.specs.Shape.{is_free}
use borrow.Author.Rules.{rules}
use Rattle.set_values.proofs.key_name.Goals as goal

-- the test of a key, without the place
key : (s : List ℕ) {t : Result (Unit {0}) ℕ} {w : Bool} → t ≡ tested (is_key s) (key_place s) → w ≡ says_whole t → is_key s ≡ w
key s e q = sym (q ∙ (ap says_whole e ∙ says (is_key s) (key_place s)))

pub returns-then-not-is_whole : goal.returns-then-not-is_whole
returns-then-not-is_whole c = rw (key _ c.is_identifier.ensures.value c.is_whole.ensures ∙ c.if-not-is_whole.true)

pub returns-then-same_bytes : goal.returns-then-same_bytes
unfolding is_free
returns-then-same_bytes c = rw (key _ c.is_identifier.ensures.value c.is_whole.ensures ∙ c.if-not-is_whole.false, sym c.same_bytes.ensures ∙ c.if-same_bytes.true)

pub returns : goal.returns
unfolding is_free
returns c =
    rw (key _ c.is_identifier.ensures.value c.is_whole.ensures ∙ c.if-not-is_whole.false, sym c.same_bytes.ensures ∙ c.if-same_bytes.false, ← c.same_bytes-2.ensures)
