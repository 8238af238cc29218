-- The bytes of a character of the grammar: first one that is no tail, and then tails.
-- Assumes nothing.
use mathlib.Core.Path.{◌≡◌}
use mathlib.Core.Bool.{Bool, true, false, not}
use mathlib.Core.List.{List}
use Prim.Native.Nat.{ℕ, ◌≤◌}
use native.Mathlib.Omega.{arith}
use borrow.Author.Tests.{le-leb, lt-leb}
use Rattle.base_lists.specs.Lists.{all, headed}
use Rattle.base_bytes.specs.Bytes.{within, is_tail}
use Rattle.proved_texts.specs.Utf8Rules.{one, two, three_E0, three_E1, three_ED, three_EE, four_F0, four_F1, four_F4, Byte, Tail, Char}

abbrev pub starts : ℕ → Bool
starts b = not (is_tail b)

low : {b : ℕ} → Byte 0x00 0x7F b → is_tail b ≡ false
unfolding is_tail within
low {b} p = rw (lt-leb 0x80 b (omega arith))

high : {lo hi b : ℕ} → Byte lo hi b → 0xC0 ≤ lo → is_tail b ≡ false
unfolding is_tail within
high {lo} {hi} {b} p l = rw (le-leb 0x80 b (omega arith), lt-leb b 0xBF (omega arith))

-- a tail, also where only some of them are allowed
some : {lo hi b : ℕ} → Byte lo hi b → 0x80 ≤ lo → hi ≤ 0xBF → is_tail b ≡ true
unfolding is_tail within
some {lo} {hi} {b} p l h = rw (le-leb 0x80 b (omega arith), le-leb b 0xBF (omega arith))

tail : {b : ℕ} → Tail b → is_tail b ≡ true
tail p = some p (omega arith) (omega arith)

pub shape : {k : List ℕ} → Char k → headed starts is_tail k ≡ true
unfolding headed all
shape (one p) = rw (low p)
shape (two p q) = rw (high p (omega arith), tail q)
shape (three_E0 p q r) = rw (high p (omega arith), some q (omega arith) (omega arith), tail r)
shape (three_E1 p q r) = rw (high p (omega arith), tail q, tail r)
shape (three_ED p q r) = rw (high p (omega arith), some q (omega arith) (omega arith), tail r)
shape (three_EE p q r) = rw (high p (omega arith), tail q, tail r)
shape (four_F0 p q r t) = rw (high p (omega arith), some q (omega arith) (omega arith), tail r, tail t)
shape (four_F1 p q r t) = rw (high p (omega arith), tail q, tail r, tail t)
shape (four_F4 p q r t) = rw (high p (omega arith), some q (omega arith) (omega arith), tail r, tail t)
