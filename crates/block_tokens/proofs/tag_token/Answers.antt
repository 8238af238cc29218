use Rattle.std.specs.Prelude.{Err}
use mathlib.Core.Path.{◌≡◌, sym, ◌∙◌}
use mathlib.Core.Bool.{Bool}
use mathlib.Core.List.{List}
use Prim.Native.Nat.{ℕ, ◌+◌, ◌≤◌}
use native.Mathlib.Omega.{arith}
use lib.ListN.{length}
use Rattle.base_lists.proofs.Runs as runs
use Rattle.text_names.specs.Tested.{tested}
use Rattle.text_names.specs.Computed.{language_by, tag_passes}
use Rattle.text_names.proofs.Tag.{pass_le}
use Rattle.text_names.proofs.Told.{whole_is, stops_is}
use Rattle.block_tokens.specs.Lent.{tests_of}
use Rattle.block_tokens.specs.Inner.{part}
use Rattle.block_tokens.proofs.Words as words
use borrow.Author.Rules.{rules}
use Rattle.block_tokens.proofs.tag_token.Goals as goal

-- a place that is answered lies in the bytes
within : (f : ℕ → Bool) (s : List ℕ) (a e : ℕ) {n : ℕ} → Err n ≡ tested (language_by f (part a e s)) (tag_passes f (part a e s) 0) → n ≤ length (part a e s)
within f s a e q = let z = stops_is (language_by f (part a e s)) (tag_passes f (part a e s) 0) q in omega (arith, z.1, pass_le f (part a e s) 0)

pub slice_bounds-language_by-end : goal.slice_bounds-language_by-end
slice_bounds-language_by-end c = omega (arith, runs.inside _ c.args.s.now c.run_end-e.ensures (omega (arith, c.requires)))

pub overflow_add-result : goal.overflow_add-result
overflow_add-result c =
    let a = c.args in
    omega (arith, c.requires, runs.inside _ a.s.now c.run_end-e.ensures (omega (arith, c.requires)), within _ a.s.now (a.i + 1) _ (sym c.in-Err.is ∙ c.language_by.ensures.value))

pub returns-in-Ok : goal.returns-in-Ok
returns-in-Ok c =
    let a = c.args in
    words.tag_whole_by (tests_of a.table.now) a.mode a.i a.s.now c.run_end-e.ensures (omega (arith, c.requires)) (whole_is _ _ (sym c.in-Ok.is ∙ c.language_by.ensures.value)) c.finish.ensures

pub returns-in-Err : goal.returns-in-Err
returns-in-Err c =
    let a = c.args in
    let z = stops_is _ _ (sym c.in-Err.is ∙ c.language_by.ensures.value) in
    words.tag_stops_by (tests_of a.table.now) a.mode a.i a.s.now c.run_end-e.ensures (omega (arith, c.requires)) z.0 z.1
