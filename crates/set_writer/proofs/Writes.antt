-- The loop that writes a value with its backslashes.
-- Assumes nothing.
use mathlib.Core.Path.{◌≡◌, refl}
use mathlib.Core.Bool.{Bool, true}
use mathlib.Core.List.{List}
use Prim.Native.Nat.{ℕ, ◌+◌, ◌≤◌}
use lib.ListN.{length, drop}
use lib.Seq.{sets}
use Rattle.set_canon.specs.Canon.{marked, escape}
use Rattle.set_marks.specs.Marks.{bytes_in}
use Rattle.set_marks.proofs.Values.{Stands, Ends}
use Rattle.set_writer.specs.Inner.{put_if}
use Rattle.set_writer.proofs.Fills.{Fills, fills_start, fills_end, fills_room, fills_go}

-- ---- writing: the bytes with their backslashes
pub record Writes (buf₀ : List ℕ) (at : ℕ) (q : Bool) (s buf : List ℕ) (k i : ℕ) : Type 0 where
  pub fills : Fills true buf₀ at (escape (bytes_in q s)) buf k (escape (bytes_in q (drop i s)))

pub writes_start : (buf : List ℕ) (at : ℕ) (q : Bool) (s : List ℕ) → at + length (escape (bytes_in q s)) ≤ length buf → Writes buf at q s buf at 0
writes_start buf at q s h = record { fills = fills_start true buf at (escape (bytes_in q s)) (λ e. h) }

module _ {buf₀ : List ℕ} {at : ℕ} {q : Bool} {s buf : List ℕ} {k i : ℕ} (inv : Writes buf₀ at q s buf k i) where
  pub writes_end : Ends q s i → (k ≡ at + length (escape (bytes_in q s))) × (buf ≡ sets buf₀ at (escape (bytes_in q s)))
  unfolding put_if
  writes_end p = fills_end inv.fills p.rest

  module _ {b next : ℕ} (p : Stands q s i b next) where
    pub writes_room : k + length (marked b) ≤ length buf
    writes_room = fills_room inv.fills (marked b) (escape (bytes_in q (drop next s))) p.rest refl

    pub writes_go : {k' : ℕ} {buf' : List ℕ} → k' ≡ k + length (marked b) → buf' ≡ sets buf k (marked b) → Writes buf₀ at q s buf' k' next
    unfolding put_if
    writes_go e f = record { fills = fills_go inv.fills (marked b) (escape (bytes_in q (drop next s))) p.rest e f }
