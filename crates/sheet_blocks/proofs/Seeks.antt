-- The loop of `next_block`: before the line at `from`, the first block among the tries to come is the one sought.
-- Assumes nothing.
use Rattle.std.specs.Prelude.{Err}
use mathlib.Core.Path.{◌≡◌, refl, sym, ◌∙◌, ap}
use mathlib.Core.Bool.{true, false, not}
use mathlib.Core.List.{List}
use Prim.Native.Nat.{ℕ, ◌+◌, ◌-◌, ◌<◌, ◌≤◌}
use native.Mathlib.Numerals.{add-one}
use native.Mathlib.Omega.{arith}
use borrow.Author.Tests.{le-ltb, lt-ltb, eq-eqb, ne_eqb}
use lib.Dec.{eqb}
use lib.ListN.{length, drop}
use Rattle.base_refusals.specs.Numbers.{max_text}
use Rattle.base_refusals.specs.declared.Refusal.{Refusal}
use Rattle.base_refusals.specs.declared.Refusal.TheVariants.{TextTooLong, NothingThere, JoinFull}
use Rattle.text_lines.specs.Lines.{line_from}
use Rattle.text_lines.specs.declared.LineEnd.{LineEnd}
use Rattle.text_lines.proofs.Lines.{next_beyond}
use Rattle.run_lines.specs.Runs.{past_lines}
use Rattle.read_blocks.specs.Blocks.{nothing, found, join_holds, block_by, block_of, sized, unread}
use Rattle.read_lengths.specs.Lengths.{flush_left}
use Rattle.read_blocks.specs.declared.Block.{Block}
use Rattle.read_blocks.proofs.Finds.{none_holds, sized_long, sized_is}
use Rattle.sheet_blocks.specs.declared.Next.{Next}
use Rattle.sheet_blocks.specs.Sheets.{may_open, tries_at, is_block, only_blocks, join_behind, up_to_block, first_block, next_of, next_tries}
use Rattle.sheet_blocks.proofs.Tries.{block_counted, holds_long, prose, flush, none_there, tries_end, tries_on, tries_past}

-- what `read_at` answers and leaves in the join buffer
abbrev Read : List ℕ → ℕ → List ℕ → Block → List ℕ → Type 0
Read t at buf x b = (x ≡ block_of t at (sized t (found t at 0 (length buf)))) × (b ≡ join_holds buf (sized t (found t at 0 (length buf))))

-- it finds nothing, for the reason q
nothing_read : (t : List ℕ) (at : ℕ) (buf : List ℕ) {x : Block} {b : List ℕ} (q : Refusal) → sized t (found t at 0 (length buf)) ≡ nothing q → Read t at buf x b → (x ≡ unread q 0 0 at) × (b ≡ buf)
unfolding block_of join_holds past_lines
nothing_read t at buf q e w = (rw e at w.0, rw e at w.1)

-- "text above 65,535 bytes"
pub too_long_lem : (t : List ℕ) (at : ℕ) (buf : List ℕ) {x : Block} {b : List ℕ} → max_text < length t → Read t at buf x b
    → (record { skipped = 0; at = at; block = x } ≡ next_of t (length buf) at) × (b ≡ join_behind buf (next_tries t (length buf) at))
unfolding next_of next_tries join_behind
too_long_lem t at buf h w = let z = nothing_read t at buf TextTooLong (sized_long t _ h) w in rw (lt-ltb max_text (length t) h, z.0) (refl, z.1)

-- "and answer 9, right after 2, for a shorter one"
pub too_short : (t : List ℕ) (at : ℕ) (buf : List ℕ) {x : Block} {b : List ℕ} {r : Next} → length t ≤ max_text → length buf < max_text → Read t (length t) buf x b
    → r ≡ record { skipped = 0; at = at; block = block_by (record { outcome = Err JoinFull; set = x.set }) 0 0 0 at }
    → (r ≡ next_of t (length buf) at) × (b ≡ join_behind buf (next_tries t (length buf) at))
unfolding next_of next_tries join_behind
too_short t at buf h j w e =
    let z = nothing_read t (length t) buf NothingThere (sized_is t _ h ∙ none_there t (length t) 0 (length buf) (omega arith)) w in
    rw (le-ltb max_text (length t) h, lt-ltb (length buf) max_text j) (e ∙ rw z.0, z.1)

pub record Seeks (t : List ℕ) (at : ℕ) (buf₀ buf : List ℕ) (skipped from : ℕ) : Type 0 where
  pub fits : length t ≤ max_text
  pub long : length buf ≡ length buf₀
  -- every line gone past has a byte
  pub few : skipped ≤ from
  pub next : first_block t at (only_blocks (tries_at t (length buf₀) skipped from)) ≡ next_of t (length buf₀) at
  pub join : join_behind buf (up_to_block (tries_at t (length buf₀) skipped from)) ≡ join_behind buf₀ (next_tries t (length buf₀) at)

pub seeks_start : (t : List ℕ) (at : ℕ) (buf : List ℕ) → length t ≤ max_text → max_text ≤ length buf → Seeks t at buf buf 0 at
unfolding next_of next_tries
seeks_start t at buf h j =
    let x = le-ltb max_text (length t) h in
    let y = le-ltb (length buf) max_text j in
    record { fits = h; long = refl; few = omega arith; next = rw (x, y); join = rw (x, y) }

module _ {t : List ℕ} {at : ℕ} {buf₀ buf : List ℕ} {skipped from : ℕ} (inv : Seeks t at buf₀ buf skipped from) where
  abbrev Answers : Next → List ℕ → Type 0
  Answers r b = (r ≡ next_of t (length buf₀) at) × (b ≡ join_behind buf₀ (next_tries t (length buf₀) at))

  pub seeks_end : {x : Block} {b : List ℕ} → length t ≤ from → Read t from buf x b
      → Answers (record { skipped = 0; at = at; block = record { outcome = x.outcome; set = x.set; lines = x.lines; lookahead = x.lookahead; joined = x.joined; next = at } }) b
  unfolding only_blocks up_to_block join_behind
  seeks_end h w =
      let z = tries_end t (length buf₀) skipped from h in
      let y = nothing_read t from buf NothingThere (sized_is t _ inv.fits ∙ none_there t from 0 (length buf) h) w in
      (rw y.0 (rw z at inv.next), y.1 ∙ (rw z at inv.join))

  module _ (h : from < length t) where
    pub seeks_less : {l : LineEnd} → l ≡ line_from t from → length t - l.next < length t - from
    seeks_less q = rw q (omega (arith, next_beyond t from h))

    long : {b : List ℕ} → b ≡ join_holds buf (flush_left t (length buf₀) from) → length b ≡ length buf₀
    long j = ap length j ∙ (rw inv.long at (holds_long t from buf))

    -- the line is no block, and the join buffer is what it leaves
    goes : {b : List ℕ} {l : LineEnd} → l ≡ line_from t from → is_block (flush_left t (length buf₀) from) ≡ false → b ≡ join_holds buf (flush_left t (length buf₀) from)
        → Seeks t at buf₀ b (skipped + 1) l.next
    unfolding only_blocks up_to_block join_behind
    goes q e j =
        let z = tries_on t (length buf₀) skipped from h e in
        rw (q, add-one) (record { fits = inv.fits; long = long j; few = omega (arith, inv.few, next_beyond t from h); next = rw (z, e) at inv.next; join = rw j (rw (z, e) at inv.join) })

    pub seeks_prose : {l : LineEnd} → l ≡ line_from t from → may_open (drop from t) ≡ false → Seeks t at buf₀ buf (skipped + 1) l.next
    seeks_prose q m = let z = prose t from h (length buf₀) m in goes q (ap is_block z) (rw z (none_holds NothingThere buf))

    -- a block was looked for
    module _ (m : may_open (drop from t) ≡ true) {x : Block} {b : List ℕ} (w : Read t from buf x b) where
      is : sized t (found t from 0 (length buf)) ≡ flush_left t (length buf₀) from
      is = rw inv.long (sized_is t (found t from 0 (length buf₀)) inv.fits ∙ sym (flush t from h (length buf₀) m))

      told : is_block (flush_left t (length buf₀) from) ≡ not (eqb x.lines 0)
      unfolding block_of
      told = rw (w.0, is) (block_counted t from (length buf₀))

      pub seeks_past : {l : LineEnd} → x.lines ≡ 0 → l ≡ line_from t from → Seeks t at buf₀ b (skipped + 1) l.next
      seeks_past e q = goes q (told ∙ ap not (eq-eqb x.lines 0 e)) (rw is at w.1)

      pub seeks_block : (x.lines ≡ 0 → ⊥) → Answers (record { skipped = skipped; at = from; block = x }) b
      unfolding only_blocks up_to_block join_behind
      seeks_block e =
          let y = told ∙ ap not (ne_eqb x.lines 0 e) in
          let z = tries_past t (length buf₀) skipped from h y in
          (rw (w.0, is) (rw (z, y) at inv.next), (rw is at w.1) ∙ (rw (z, y) at inv.join))
