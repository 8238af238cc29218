-- What measuring answers by each way through the tests, and by line number where a line begins and where none does.
-- Assumes nothing.
use Rattle.std.specs.Prelude.{Err, Ok}
use mathlib.Core.Path.{◌≡◌}
use mathlib.Core.Bool.{true, false}
use mathlib.Core.List.{List}
use Prim.Native.Nat.{ℕ}
use lib.ListN.{length, take}
use Rattle.text_lines.specs.Lines.{line_at}
use Rattle.base_lists.specs.Lists.{over}
use Rattle.base_refusals.specs.declared.Refusal.{Refusal}
use Rattle.base_refusals.specs.declared.Refusal.TheVariants.{NothingThere, NoReading}
use Rattle.block_chain.specs.Chain.{good_line}
use Rattle.run_lines.specs.Runs.{run_at, joined_of, past_lines}
use Rattle.run_lines.specs.declared.Joined.{Joined}
use Rattle.block_trimmed_line.specs.declared.Front.{Front}
use Rattle.block_trimmed_line.specs.Fronts.{front_of, begins_indented}
use Rattle.text_line_start.specs.Starts.{start_at, place_of}
use Rattle.read_blocks.specs.Blocks.{Found, nothing, run_found, found, join_holds}
use Rattle.read_blocks.proofs.Finds.{none_holds, refused_is, closed_is}
use Rattle.read_blocks.proofs.ByLine.{block_none, block_at}
use Rattle.read_blocks.proofs.Wraps.{run_more}
use Rattle.read_lengths.specs.declared.Measure.{Measure}
use Rattle.read_lengths.specs.Lengths.{measured, unless_line, flush_left, standalone_found, indented_found}
use Rattle.read_lengths.specs.Inner.{unmeasured}

-- ---- at a place

module _ (t : List ℕ) (at : ℕ) where
  pub none_measured : {r : Refusal} {m : Measure} → m ≡ unmeasured r at → m ≡ measured t at (nothing r)
  unfolding measured past_lines
  none_measured p = p

  pub line_measured : {f : Front} → f ≡ front_of t at → record { length = Ok 1; lookahead = 0; joined = 0; next = f.next } ≡ measured t at Found.line
  unfolding measured past_lines front_of
  line_measured p = rw p

  module _ (buf : List ℕ) {f : Found} where
    pub measured_by : {b : List ℕ} {g : Found} {m : Measure} → f ≡ g → m ≡ measured t at g → b ≡ join_holds buf g → (m ≡ measured t at f) × (b ≡ join_holds buf f)
    measured_by e p q = rw e (p, q)

    pub none_by : {r : Refusal} {m : Measure} → f ≡ nothing r → m ≡ unmeasured r at → (m ≡ measured t at f) × (buf ≡ join_holds buf f)
    none_by {r} e p = measured_by e (none_measured p) (none_holds r buf)

-- what the code has of a run: its numbers j, and the join buffer b, which was buf
module _ (t : List ℕ) (at base : ℕ) (buf : List ℕ) {j : Joined} {b : List ℕ}
    (e : j ≡ joined_of t at (run_at (length buf) base t at)) (o : b ≡ over (run_at (length buf) base t at).text buf) where
  abbrev f : Found
  f = run_found t at base (length buf)

  pub run-measured : {q : Refusal} → j.stop ≡ Err q → record { length = Err q; lookahead = j.lookahead; joined = j.len; next = at } ≡ measured t at f
  unfolding measured past_lines
  run-measured s = rw (refused_is t at base buf e o s, e)

  module _ (s : j.stop ≡ Ok tt) where
    pub good_measured : good_line (take j.len b) 0 j.len ≡ true
        → record { length = Ok j.lines; lookahead = j.lookahead; joined = j.len; next = j.next } ≡ measured t at f
    unfolding measured
    good_measured g = rw (closed_is t at base buf e o s true g, e)

    pub bad_measured : good_line (take j.len b) 0 j.len ≡ false
        → record { length = Err NoReading; lookahead = j.lookahead; joined = j.len; next = at } ≡ measured t at f
    unfolding measured past_lines
    bad_measured g = rw (closed_is t at base buf e o s false g, e)

-- a run that is found has more than one line
pub run_stays : (t : List ℕ) (at base cap : ℕ) → (front_of t at).closes ≡ false → unless_line (run_found t at base cap) ≡ run_found t at base cap
run_stays t at base cap c = rw (run_more t at base cap c)

-- ---- by line number

module _ (t : List ℕ) (n : ℕ) where
  module _ {r : Refusal} (e : start_at t n ≡ Err r) where
    pub standalone_none : (cap : ℕ) → standalone_found t n cap ≡ nothing r
    unfolding standalone_found
    standalone_none cap = rw e

    pub indented_none : (cap : ℕ) → indented_found t n cap ≡ nothing r
    unfolding indented_found
    indented_none cap = rw (block_none t n 0 cap e)

    pub missing_by : (buf : List ℕ) {f : Found} {m : Measure} → f ≡ nothing r → m ≡ unmeasured r 0 → (m ≡ measured t (place_of t n) f) × (buf ≡ join_holds buf f)
    missing_by buf z p = rw e (none_by t 0 buf z p)

  module _ {at : ℕ} (e : start_at t n ≡ Ok at) where
    pub standalone_in : (cap : ℕ) → begins_indented (line_at t at) ≡ true → standalone_found t n cap ≡ nothing NothingThere
    unfolding standalone_found flush_left
    standalone_in cap i = rw (e, i)

    pub standalone_at : (cap : ℕ) → begins_indented (line_at t at) ≡ false → standalone_found t n cap ≡ found t at 0 cap
    unfolding standalone_found flush_left
    standalone_at cap i = rw (e, i)

    pub indented_at : (cap : ℕ) → indented_found t n cap ≡ unless_line (found t at 0 cap)
    unfolding indented_found
    indented_at cap = rw (block_at t n 0 cap e)

    pub measured_at : (buf : List ℕ) {b : List ℕ} {f g : Found} {m : Measure} → f ≡ g → m ≡ measured t at g → b ≡ join_holds buf g
        → (m ≡ measured t (place_of t n) f) × (b ≡ join_holds buf f)
    measured_at buf z p h = rw e (measured_by t at buf z p h)
