use mathlib.Core.Path.{◌≡◌, refl, sym, ◌∙◌}
use mathlib.Core.Bool.{true}
use mathlib.Core.List.{List}
use Prim.Native.Nat.{ℕ, ◌+◌, ◌<◌}
use native.Mathlib.Omega.{arith}
use lib.ListN.{length, drop}
use Rattle.base_lists.specs.Lists.{run, first_is}
use Rattle.base_lists.proofs.Runs as runs
use Rattle.base_lists.proofs.Scan as scan
use Rattle.base_letters.specs.Classes.{is_of, front_run}
use Rattle.base_letters.proofs.Fronts as fronts
use Rattle.block_grammar.specs.Grammar.{Item}
use Rattle.block_tokens.specs.Shown.{shown_item}
use Rattle.block_tokens.specs.Lent.{tests_of}
use Rattle.block_tokens.proofs.Words as words
use Rattle.block_tokens.proofs.Lent as lent
use borrow.Author.Rules.{rules}
use Rattle.block_tokens.proofs.name_token.Goals as goal

-- where a key begins it goes as far as a name
begun : (t : List ℕ) (i : ℕ) (s : List ℕ) {e : ℕ} → e ≡ i + front_run (is_of t 5) (is_of t 15) (drop i s) → (e ≡ i → ⊥) → (first_is (is_of t 5) (drop i s) ≡ true) × (e ≡ i + run (is_of t 15) (drop i s))
begun t i s is n = fronts.begun (is_of t 5) (is_of t 15) (lent.key_part t) s is n

pub returns-then-e-i : goal.returns-then-e-i
returns-then-e-i c =
    let a = c.args in
    let t = a.table.now in
    words.name_none_by (tests_of t) (lent.key_part t) (lent.letter_key t) a.mode a.i a.s.now refl (fronts.nothing _ _ (lent.key_part t) a.s.now c.front_end-e.ensures c.if-e-i.true) c.requires

pub value_token-requires : goal.value_token-requires
value_token-requires c =
    let a = c.args in let e = c.front_end-e in
    omega (arith, fronts.inside _ _ a.s.now e.ensures c.requires, words.starts_within a.s.now e.result (sym c.has_equals.ensures ∙ c.if-has_equals.true))

pub returns-then-has_equals : goal.returns-then-has_equals
returns-then-has_equals c =
    let a = c.args in
    let t = a.table.now in
    let b = begun t a.i a.s.now c.front_end-e.ensures c.if-e-i.false in
    words.name_key_by (tests_of t) (lent.key_part t) (lent.letter_key t) a.mode a.i a.s.now b.1 (sym c.has_equals.ensures ∙ c.if-has_equals.true) b.0 c.value_token.ensures

pub bounds-s-i : goal.bounds-s-i
bounds-s-i c =
    omega (arith, fronts.inside _ _ c.args.s.now c.front_end-e.ensures c.requires, c.if-e-i.false)

pub returns : goal.returns
unfolding shown_item
returns c =
    let a = c.args in
    let t = a.table.now in
    let b = begun t a.i a.s.now c.front_end-e.ensures c.if-e-i.false in
    let l : a.i < length a.s.now = omega (arith, runs.inside (is_of t 15) a.s.now b.1 c.requires, c.if-e-i.false) in
    let first = c.is_of-good.ensures ∙ scan.first_some (is_of t 1) a.s.now a.i l in
    words.name_word_by (tests_of t) (lent.key_part t) (lent.letter_key t) a.mode a.i a.s.now b.1 (sym c.has_equals.ensures ∙ c.if-has_equals.false) b.0
    (words.headed_word (is_of t 1) (is_of t 15) (λ b h. lent.key_part t b (lent.letter_key t b h)) _ _ _ _ (λ n. Item.bare n) b.1 c.requires first (λ n h. rw h) c.finish.ensures)
