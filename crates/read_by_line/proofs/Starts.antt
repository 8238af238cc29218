-- The entries by line number: what they come to where a line begins, and where none does.
-- Assumes nothing.
use Rattle.std.specs.Prelude.{Err, Ok}
use mathlib.Core.Path.{◌≡◌, sym, ◌∙◌}
use mathlib.Core.List.{List}
use Prim.Native.Nat.{ℕ}
use Rattle.base_refusals.specs.declared.Refusal.{Refusal}
use Rattle.set_table.specs.declared.Filled.{Filled}
use Rattle.set_table.specs.Filled.{refusing}
use Rattle.text_line_start.specs.Starts.{start_at, place_of}
use Rattle.text_line_start.proofs.Starts.{text-fits}
use Rattle.read_blocks.specs.declared.Block.{Block}
use Rattle.read_blocks.specs.Blocks.{Found, nothing, join_holds, unread, block_of, sized}
use Rattle.read_blocks.proofs.Finds.{none_holds, none_read, sized_is}
use Rattle.read_by_line.specs.Entries.{line_read, parse_standalone}

module _ (t : List ℕ) (n : ℕ) where
  -- ---- where there is no line

  module _ {r : Refusal} (e : start_at t n ≡ Err r) where
    pub alone_none : {x : Filled} → x ≡ refusing r → x ≡ parse_standalone t n
    unfolding parse_standalone
    alone_none p = rw e p

    pub read_none : (buf : List ℕ) {f : Found} {x : Block} → f ≡ nothing r → x ≡ unread r 0 0 0 → (x ≡ block_of t (place_of t n) f) × (buf ≡ join_holds buf f)
    read_none buf z p = rw (e, z) (none_read t 0 p, none_holds r buf)

  -- ---- where a line begins

  module _ {at : ℕ} (e : start_at t n ≡ Ok at) where
    pub alone_at : {x : Filled} → x ≡ line_read t at → x ≡ parse_standalone t n
    unfolding parse_standalone
    alone_at p = rw e p

    pub read_at : (buf : List ℕ) {b : List ℕ} {f g : Found} {x : Block} → f ≡ g → x ≡ block_of t at (sized t g) → b ≡ join_holds buf (sized t g)
        → (x ≡ block_of t (place_of t n) f) × (b ≡ join_holds buf f)
    read_at buf {g = g} z p h = let k = z ∙ sym (sized_is t g (text-fits t n e)) in rw (e, k) (p, h)
