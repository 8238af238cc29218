-- What an answer is on paper, from the equation of the whole answer: every promise of a number or of values is met so.
-- Assumes nothing.
use mathlib.Core.Path.{◌≡◌, ◌∙◌, ap}

pub said : {A B : Type 0} (p : A → B) {x y : A} {z : B} → p y ≡ z → x ≡ y → record { value : x ≡ y; result_value : p x ≡ z }
said p law e = record { value = e; result_value = ap p e ∙ law }
