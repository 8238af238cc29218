use mathlib.Core.Path.{◌≡◌, refl, sym, ◌∙◌, ap}
use mathlib.Core.List.{List}
use Prim.Native.Nat.{ℕ, ◌+◌}
use native.Mathlib.Omega.{arith}
use lib.ListN.{drop}
use Rattle.base_bytes.specs.Bytes.{is_key_start, is_name_part}
use Rattle.base_letters.specs.Classes.{is_of, front_run, TellsBytes}
use Rattle.base_letters.proofs.Fronts as fronts
use Rattle.block_tokens.proofs.Words as words
use Rattle.read_once.specs.Inner.{is_closing}
use Rattle.read_once.proofs.Names as laws
use borrow.Author.Rules.{rules}
use Rattle.read_once.proofs.name_seen.Goals as goal

-- what the table finds is a key
key : {t : List ℕ} → TellsBytes t → (i : ℕ) (s : List ℕ) {e : ℕ} → e ≡ i + front_run (is_of t 5) (is_of t 15) (drop i s) → e ≡ i + front_run is_key_start is_name_part (drop i s)
key tells i s is = is ∙ fronts.same_front tells.key tells.part i (drop i s)

pub returns-then-e-i : goal.returns-then-e-i
returns-then-e-i c =
    let a = c.args in
    laws.name_none a.text.now a.i a.mode (key c.requires.1 a.i a.text.now c.front_end-e.ensures) c.requires.0 c.if-e-i.true c.wrong_at.ensures

pub value_seen-requires : goal.value_seen-requires
value_seen-requires c =
    let a = c.args in let e = c.front_end-e in
    ((fronts.inside _ _ a.text.now e.ensures (omega (arith, c.requires.0))).0, words.starts_within a.text.now e.result (sym c.has_equals.ensures ∙ c.if-has_equals.true))

pub returns-then-has_equals : goal.returns-then-has_equals
returns-then-has_equals c =
    let a = c.args in
    laws.name_key a.text.now a.i a.mode (key c.requires.1 a.i a.text.now c.front_end-e.ensures) c.requires.0 c.if-e-i.false (sym c.has_equals.ensures ∙ c.if-has_equals.true) c.value_seen.ensures

pub finish-requires : goal.finish-requires
finish-requires c =
    let x = c.seen_as.ensures in
    ((fronts.inside _ _ c.args.text.now c.front_end-e.ensures (omega (arith, c.requires.0))).1, (ap (λ s. s.end) x, ap (λ s. is_closing s.sort) x))

pub returns : goal.returns
returns c =
    let a = c.args in
    let tells = c.requires.1 in let x = c.seen_as.ensures in
    laws.name_word a.text.now a.i a.mode (key tells a.i a.text.now c.front_end-e.ensures) c.requires.0 c.if-e-i.false (sym c.has_equals.ensures ∙ c.if-has_equals.false)
    (sym (fronts.asked tells.letter _ c.is_of-good.ensures)) (rw x at (c.finish.ensures a.i (rw x (refl, omega (arith, fronts.inside _ _ a.text.now c.front_end-e.ensures (omega (arith, c.requires.0)), c.if-e-i.false)))))
