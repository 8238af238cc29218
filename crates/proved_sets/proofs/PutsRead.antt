-- What was read is good to put: of a payload that stands between boundaries, at a brace or in a block of a line.
-- Assumes nothing.
use Rattle.std.specs.Prelude.{Some}
use mathlib.Core.Path.{◌≡◌}
use mathlib.Core.Bool.{true}
use mathlib.Core.List.{List, [], ◌∷◌, ◌++◌}
use Prim.Native.Nat.{ℕ, suc, ◌+◌, ◌<◌}
use native.Mathlib.Numerals.{add-one}
use native.Mathlib.Omega.{arith}
use lib.ListN.{length, get_or, drop, length-append}
use lib.Seq.{slice}
use Rattle.base_lists.specs.Lists.{all}
use Rattle.base_lists.proofs.Parts.{slice_part}
use Rattle.base_bytes.specs.declared.Mode.{Mode}
use Rattle.text_utf8.specs.Computed.{is_utf8}
use Rattle.text_utf8.specs.Utf8.{is_boundary}
use Rattle.proved_texts.proofs.Utf8Boundaries.{before_ascii, after_ascii}
use Rattle.block_grammar.specs.Grammar.{Placed, Reading}
use Rattle.block_grammar.specs.Computed.{read_payload}
use Rattle.block_grammar.specs.Close.{no_lf}
use Rattle.block_grammar.specs.ComputedClose.{find_close}
use Rattle.block_grammar.proofs.Payload.{sound}
use Rattle.block_grammar.proofs.Close.{found}
use Rattle.set_table.specs.Types.{one}
use Rattle.set_table.specs.Puts.{puts_in}
use Rattle.proved_sets.proofs.PutsKept.{put_ok}
use Rattle.proved_sets.proofs.PutsParts.{Part, before, behind, cut_out}
use Rattle.proved_sets.proofs.PutsItems.{items_ok}

module _ (w : List ℕ) where
  -- a payload without LF that is read from a part of the text
  pub read_ok : (m : Mode) {at : ℕ} {s rest : List ℕ} (is : List Placed) → Part w at s rest → no_lf s ≡ true → read_payload m at s ≡ Reading.items is → all (put_ok (one w)) (puts_in is) ≡ true
  read_ok m {at} {s} is p f e = items_ok w (sound m at s is e) p f

  -- ---- where a block stands
  -- the payload between the brace at i and its close at e
  pub brace_part : (i e : ℕ) → is_utf8 w ≡ true → i < length w → get_or w i 0 ≡ 123 → find_close w (suc i) ≡ Some e → Part w (suc i) (slice (suc i) e w) (drop e w)
  brace_part i e u l b h =
      let z = found w (suc i) e h in
      let start : is_boundary w (suc i) ≡ true = rw add-one at (after_ascii w i l (omega arith) u) in
      let end : is_boundary w e ≡ true = before_ascii w e z.to (omega (arith, z.brace)) in
      cut_out w (suc i) e u z.from start end

  pub brace_flat : (i e : ℕ) → find_close w (suc i) ≡ Some e → no_lf (slice (suc i) e w) ≡ true
  brace_flat i e h = let z = found w (suc i) e h in rw (slice_part (suc i) e w, z.payload) z.closes.flat

  -- a block at `at`, with s behind it: its payload, and s
  module _ {at : ℕ} (inside s : List ℕ) {rest : List ℕ} (p : Part w at (123 ∷ (inside ++ (125 ∷ s))) rest) where
    pub block_inside : Part w (suc at) inside ((125 ∷ s) ++ rest)
    block_inside = before inside 125 s (omega arith) (behind [] 123 (inside ++ (125 ∷ s)) (omega arith) p (omega arith))

    pub block_behind : Part w (at + length (123 ∷ (inside ++ (125 ∷ [])))) s rest
    block_behind = behind inside 125 s (omega arith) (behind [] 123 (inside ++ (125 ∷ s)) (omega arith) p {next = suc at} (omega arith)) (omega (arith, length-append inside (125 ∷ [])))
