-- Which lines a block takes, by each way through the tests, and what is read where the grammar has no reading.
-- Assumes nothing.
use Rattle.std.specs.Prelude.{Err, Ok}
use mathlib.Core.Path.{◌≡◌, refl, sym, ◌∙◌, ap}
use mathlib.Core.Bool.{Bool, true, false, not, cond}
use mathlib.Core.List.{List}
use Prim.Native.Nat.{ℕ, ◌-◌, ◌<◌, ◌≤◌}
use native.Mathlib.Omega.{arith}
use borrow.Author.Tests.{le-ltb, lt-ltb}
use lib.Dec.{ltb}
use lib.ListN.{length, take, drop, length-append}
use lib.Seq.{slice, take-append_seam}
use Rattle.base_lists.specs.Lists.{over}
use Rattle.base_bytes.specs.declared.Mode.TheVariants.{Loose}
use Rattle.base_refusals.specs.Numbers.{max_text, number_of}
use Rattle.base_refusals.specs.declared.Refusal.{Refusal}
use Rattle.base_refusals.specs.declared.Refusal.TheVariants.{TextTooLong, NothingThere, NoReading, TooManyClasses, TooManyKeys}
use Rattle.set_table.specs.Types.{one, max_classes, max_keys}
use Rattle.set_table.specs.Rows.{Rows, table_of}
use Rattle.block_grammar.specs.Grammar.{Reading}
use Rattle.block_tokens.specs.Shown.{accepted}
use Rattle.block_chain.specs.Chain.{good_line}
use Rattle.block_chain.specs.Computed.{read_blocks}
use Rattle.set_fill.specs.Fill.{filled_by, chain_at}
use Rattle.run_lines.specs.Runs.{Run, run_at, joined_of, past_lines}
use Rattle.run_lines.specs.declared.Joined.{Joined}
use Rattle.set_table.specs.declared.Filled.{Filled}
use Rattle.set_table.specs.Filled.{refusing, limited}
use Rattle.block_trimmed_line.specs.declared.Front.{Front}
use Rattle.read_blocks.specs.declared.Block.{Block}
use Rattle.run_lines.proofs.Bounds.{text_short}
use Rattle.block_trimmed_line.specs.Fronts.{front_of, opens_at}
use Rattle.read_blocks.specs.Blocks.{Found, nothing, closed_run, run_found, found, wrapped, join_holds, in_second, block_by, unread, block_of, sized}
use Rattle.read_blocks.specs.Inner.{is_unread}

-- ---- a good line is one that is read

-- a limit that is passed isn't 5
limited_read : (s : Rows) → is_unread (limited s).outcome ≡ false
unfolding limited number_of
limited_read s = go (ltb max_classes (length s.classes)) (ltb max_keys (length s.keys))
  where
    go : (a b : Bool) → is_unread (cond a (refusing TooManyClasses) (cond b (refusing TooManyKeys) (record { outcome = Ok tt; set = table_of s }))).outcome ≡ false
    go true b = refl
    go false true = refl
    go false false = refl

read_is : (t : List ℕ) (r : Reading) → is_unread (filled_by (one t) r).outcome ≡ not (accepted r)
unfolding number_of
read_is t Reading.refused = refl
read_is t (Reading.items is) = limited_read _

pub unread_is : (t : List ℕ) (from to : ℕ) → length t ≤ max_text → is_unread (chain_at Loose t from to).outcome ≡ not (good_line t from to)
unfolding chain_at good_line
unread_is t from to h = rw (le-ltb max_text (length t) h) (read_is t (read_blocks Loose from (slice from to t)))

-- what is filled from `from` up to `to` tells whether that part is a good line
pub good_by : (t : List ℕ) (from to : ℕ) {x : Filled} {u b : Bool} → length t ≤ max_text → x ≡ chain_at Loose t from to → u ≡ is_unread x.outcome → u ≡ b
    → good_line t from to ≡ not b
good_by t from to {x} {u} {b} h p q e =
    let z : not (good_line t from to) ≡ b = sym (unread_is t from to h) ∙ (rw p at (sym q ∙ e)) in
    sym (not_not (good_line t from to)) ∙ ap not z
  where
    not_not : (c : Bool) → not (not c) ≡ c
    not_not true = refl
    not_not false = refl

-- ---- the ways through the tests of the first line, whose range the code has as f

module _ (t : List ℕ) (at base cap : ℕ) where
  pub found_none : opens_at t at ≡ false → found t at base cap ≡ nothing NothingThere
  unfolding found
  found_none e = rw e

  pub wrapped_none : opens_at t at ≡ false → wrapped t at base cap ≡ nothing NothingThere
  unfolding wrapped
  wrapped_none e = rw e

  pub wrapped-run : opens_at t at ≡ true → wrapped t at base cap ≡ run_found t at base cap
  unfolding wrapped
  wrapped-run e = rw e

  module _ {f : Front} (p : f ≡ front_of t at) (o : opens_at t at ≡ true) where
    pub found_line : good_line t f.from f.to ≡ true → found t at base cap ≡ Found.line
    unfolding found
    found_line g = rw (o, rw p at g)

    module _ (g : good_line t f.from f.to ≡ false) where
      pub found_shut : (front_of t at).closes ≡ true → found t at base cap ≡ nothing NoReading
      unfolding found
      found_shut e = rw (o, rw p at g, e)

      pub found-run : (front_of t at).closes ≡ false → found t at base cap ≡ run_found t at base cap
      unfolding found
      found-run e = rw (o, rw p at g, e)

-- ---- what is handed out, and what the join buffer holds

module _ (t : List ℕ) (at : ℕ) (buf : List ℕ) {b : List ℕ} {f g : Found} (e : f ≡ g) where
  pub read_by : {x : Block} → x ≡ block_of t at g → b ≡ join_holds buf g → (x ≡ block_of t at f) × (b ≡ join_holds buf f)
  read_by p q = rw e (p, q)

pub none_holds : (r : Refusal) (buf : List ℕ) → buf ≡ join_holds buf (nothing r)
unfolding join_holds
none_holds r buf = refl

pub line_holds : (buf : List ℕ) → buf ≡ join_holds buf Found.line
unfolding join_holds
line_holds buf = refl

pub none_read : (t : List ℕ) (at : ℕ) {r : Refusal} {x : Block} → x ≡ unread r 0 0 at → x ≡ block_of t at (nothing r)
unfolding block_of past_lines
none_read t at e = e

module _ (t : List ℕ) (at : ℕ) {f : Front} (p : f ≡ front_of t at) where
  pub line_read : {y : Filled} {x : Block} → y ≡ chain_at Loose t f.from f.to → x ≡ block_by y 1 0 0 f.next → x ≡ block_of t at Found.line
  unfolding block_of past_lines front_of
  line_read e q = rw (q, e, p)

-- ---- how a run ends

-- what the code has of a run: its numbers j, and the join buffer b, which was buf
module _ (t : List ℕ) (at base : ℕ) (buf : List ℕ) {j : Joined} {b : List ℕ}
    (e : j ≡ joined_of t at (run_at (length buf) base t at)) (o : b ≡ over (run_at (length buf) base t at).text buf) where
  abbrev r : Run
  r = run_at (length buf) base t at

  abbrev f : Found
  f = run_found t at base (length buf)

  pub joined_is : take j.len b ≡ r.text
  joined_is = rw (e, o) (take-append_seam r.text (drop (length r.text) buf))

  pub joined_long : length (take j.len b) ≡ j.len
  joined_long = rw (joined_is, e)

  -- the joined text is no longer than the text
  pub joined_short : length t ≤ max_text → length (take j.len b) ≤ max_text
  joined_short h = rw joined_is (omega (arith, h, text_short (length buf) base t at))

  pub joined_in_lem : j.len ≤ length b
  joined_in_lem = rw (e, o, length-append) (omega arith)

  module _ {q : Refusal} (s : j.stop ≡ Err q) where
    pub refused_is : f ≡ Found.none q r.text r.lookahead
    unfolding run_found
    refused_is = let z : r.stop ≡ Err q = rw e at s in rw z

    pub run_holds : b ≡ join_holds buf f
    unfolding join_holds
    run_holds = rw (refused_is, o)

    pub run-unread : {x : Block} → x ≡ unread q j.lookahead j.len at → x ≡ block_of t at f
    unfolding block_of past_lines
    run-unread p = rw (refused_is, p, e)

  module _ (s : j.stop ≡ Ok tt) where
    pub closed_is : (x : Bool) → good_line (take j.len b) 0 j.len ≡ x → f ≡ closed_run r x
    unfolding run_found
    closed_is x g =
        let z : r.stop ≡ (Ok tt) = rw e at s in
        let n : j.len ≡ length r.text = rw e in
        let y : good_line r.text 0 (length r.text) ≡ x = rw (joined_is, n) at g in
        rw (z, y)

    module _ (g : good_line (take j.len b) 0 j.len ≡ true) where
      pub good_holds : b ≡ join_holds buf f
      unfolding join_holds
      good_holds = rw (closed_is true g, o)

      pub good_read : {y z : Filled} {x : Block} → y ≡ chain_at Loose (take j.len b) 0 j.len → z ≡ in_second y → x ≡ block_by z j.lines j.lookahead j.len j.next → x ≡ block_of t at f
      unfolding block_of
      good_read p r q = rw (closed_is true g, q, r, p, joined_is, e)

    module _ (g : good_line (take j.len b) 0 j.len ≡ false) where
      pub bad_holds : b ≡ join_holds buf f
      unfolding join_holds
      bad_holds = rw (closed_is false g, o)

      pub bad_read : {x : Block} → x ≡ unread NoReading j.lookahead j.len at → x ≡ block_of t at f
      unfolding block_of past_lines
      bad_read p = rw (closed_is false g, p, e)

-- ---- the size

pub sized_long : (t : List ℕ) (f : Found) → max_text < length t → sized t f ≡ nothing TextTooLong
unfolding sized
sized_long t f h = rw (lt-ltb max_text (length t) h)

pub sized_is : (t : List ℕ) (f : Found) → length t ≤ max_text → sized t f ≡ f
unfolding sized
sized_is t f h = rw (le-ltb max_text (length t) h)
