-- What every entry but those at a brace asks of its text first: "1, 2, ..".
use Rattle.std.specs.Prelude.{ℕ, Bool, ◌&&◌, List, [], ◌∷◌, ◌++◌, leb, length, Err, Ok, Result}
use Rattle.text_utf8.specs.Computed.{is_utf8}
use Rattle.base_refusals.specs.Numbers.{max_text, too_long}
use Rattle.base_refusals.specs.Orders.{Ground, in_order}
use Rattle.base_refusals.specs.declared.Refusal.TheVariants.{TextTooLong, NotUtf8}
use Rattle.base_refusals.specs.declared.Refusal.{Refusal}

-- "text above 65,535 bytes", then "not UTF-8: .. the whole text elsewhere"
abbrev pub text_order : List ℕ → List Ground
text_order t = Ground.given TextTooLong (too_long t) ∷ Ground.lacking NotUtf8 (is_utf8 t) ∷ []

unfoldable pub check_of : List ℕ → Result (Unit {0}) Refusal
unfolding in_order
check_of t = in_order Err (text_order t) (Ok tt)

-- "1 and 2 are checked for the first text, then 1 and 2 for the second"
abbrev pub both_order : List ℕ → List ℕ → List Ground
both_order t u = text_order t ++ text_order u

unfoldable pub both_of : List ℕ → List ℕ → Result (Unit {0}) Refusal
unfolding in_order
both_of t u = in_order Err (both_order t u) (Ok tt)

-- the text gives neither 1 nor 2
unfoldable pub is_text : List ℕ → Bool
is_text t = leb (length t) max_text && is_utf8 t
