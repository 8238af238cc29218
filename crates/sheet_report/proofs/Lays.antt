-- The loop over the blocks of a sheet: what is laid so far, and what is still to be laid.
-- Assumes nothing.
use Rattle.std.specs.Prelude.{Err, Ok, Result}
use mathlib.Core.Path.{◌≡◌, refl, sym, ◌∙◌, ap}
use mathlib.Core.Bool.{Bool, true, false, cond}
use mathlib.Core.List.{List, [], ◌∷◌, ◌++◌, append_assoc, append-nil}
use Prim.Native.Nat.{ℕ, ◌+◌, ◌-◌, ◌≤◌, ◌<◌}
use native.Mathlib.Nat.{sub-zero}
use native.Mathlib.Omega.{arith}
use borrow.Author.Tests.{le-ltb, lt-ltb}
use lib.ListN.{length, drop, length-append}
use lib.Seq.{slice, take_at, drop_at, drop-drop, sets, sets-eq}
use Rattle.base_lists.specs.Lists.{over}
use Rattle.base_lists.proofs.Sets.{over_long}
use Rattle.base_refusals.specs.Numbers.{max_text}
use Rattle.base_refusals.specs.declared.Refusal.{Refusal}
use Rattle.set_canon.specs.Canon.{canon}
use Rattle.set_table.specs.Types.{two}
use Rattle.set_table.specs.Rows.{meaning_of}
use Rattle.set_table.specs.declared.Attrs.{Attrs}
use Rattle.read_lengths.specs.Lengths.{flush_left}
use Rattle.sheet_blocks.specs.declared.Next.{Next}
use Rattle.sheet_blocks.specs.Sheets.{Try, tries_at, is_block, only_blocks, join_behind, up_to_block}
use Rattle.sheet_blocks.proofs.Tries.{tries_end, try, tries_on, tries_past}
use Rattle.sheet_blocks.proofs.SheetWalk.{none_by, first_by, SheetWalk, walk_start, walk_tries, WalkEnds, WalkMeets}
use Rattle.sheet_report.specs.declared.Told.{Told}
use Rattle.sheet_report.specs.declared.Told.TheVariants.{More, Done}
use Rattle.sheet_report.specs.declared.Part.{Part}
use Rattle.sheet_report.specs.Report.{refused_line, canon_line, line_by, block_line}
use Rattle.sheet_report.specs.Parts.{max_line, Laid, laid_none, stopped, laid_behind, try_line, lay_from, shown_part}
use Rattle.sheet_report.specs.Puts.{PutAt}
use Rattle.sheet_report.proofs.Laying.{line_le}

-- ---- bytes laid behind those that stand at the front

over-sets : (xs ys buf : List ℕ) → length xs + length ys ≤ length buf → sets (over xs buf) (length xs) ys ≡ over (xs ++ ys) buf
over-sets xs ys buf h =
    sets-eq ys (over xs buf) (length xs) (omega (arith, over_long xs buf (omega arith)))
    ∙ rw (take_at xs (drop (length xs) buf) (length xs) refl, ← drop-drop (length ys) (length xs) (over xs buf), drop_at xs (drop (length xs) buf) (length xs) refl, drop-drop (length ys) (length xs) buf, length-append xs ys)

-- ---- tries gone past, where the longest line has room

module _ (t : List ℕ) {room : ℕ} (h : max_line ≤ room) where
  pub lay_on : (x : Try) (xs : List Try) → is_block x.found ≡ false → lay_from t room (x ∷ xs) ≡ laid_behind (x ∷ []) [] (lay_from t room xs)
  unfolding lay_from try_line
  lay_on x xs e = rw (le-ltb room max_line h, e, sub-zero room)

  pub lay_here : (x : Try) (xs : List Try) → is_block x.found ≡ true → lay_from t room (x ∷ xs) ≡ laid_behind (x ∷ []) (block_line t x) (lay_from t (room - length (block_line t x)) xs)
  unfolding lay_from try_line
  lay_here x xs e = rw (le-ltb room max_line h, e)

  lay_none : (xs : List Try) → only_blocks xs ≡ [] → lay_from t room xs ≡ laid_behind xs [] (laid_none (Ok Done))
  unfolding lay_from
  lay_none = none_by (λ us. lay_from t room us ≡ laid_behind us [] (laid_none (Ok Done))) (λ x us n e. lay_on x us n ∙ ap (laid_behind (x ∷ []) []) e) refl

  lay_first : (zs : List Try) {y : Try} {ys : List Try} (xs : List Try) → only_blocks xs ≡ y ∷ ys → lay_from t room (up_to_block xs ++ zs) ≡ laid_behind (up_to_block xs) (block_line t y) (lay_from t (room - length (block_line t y)) zs)
  lay_first zs {y} = first_by (λ us. lay_from t room (us ++ zs) ≡ laid_behind us (block_line t y) (lay_from t (room - length (block_line t y)) zs)) (λ x us n e. lay_on x (us ++ zs) n ∙ ap (laid_behind (x ∷ []) []) e) (λ b. lay_here y zs b)

-- where it has none, the next call goes on at the line that was to be tried
pub lay_stop : (t : List ℕ) (cap n at : ℕ) {room : ℕ} → at < length t → room < max_line → lay_from t room (tries_at t cap n at) ≡ stopped (try t cap n at)
unfolding lay_from
lay_stop t cap n at {room} h l = go (is_block (flush_left t cap at)) refl
  where
    go : (b : Bool) → is_block (flush_left t cap at) ≡ b → lay_from t room (tries_at t cap n at) ≡ stopped (try t cap n at)
    go true e = rw (tries_past t cap n at h e, lt-ltb room max_line l)
    go false e = rw (tries_on t cap n at h e, lt-ltb room max_line l)

-- ---- the line of a block, by its outcome and by the bytes that were joined

module _ (n k : ℕ) (t join : List ℕ) (joined : ℕ) (a : Attrs) {o : Result (Unit {0}) Refusal} {at end : ℕ} {out out' : List ℕ} where
  pub of_refused : {why : Refusal} → o ≡ Err why → PutAt out at (refused_line n k why) end out' → PutAt out at (line_by n k (two t (slice 0 joined join)) a o) end out'
  of_refused e p = rw e p

  pub of_done : {w : List ℕ} → o ≡ Ok tt → w ≡ slice 0 joined join → PutAt out at (canon_line n k (canon (meaning_of (two t w) a))) end out'
      → PutAt out at (line_by n k (two t (slice 0 joined join)) a o) end out'
  of_done e f p = rw (e, ← f) p

-- ---- the loop

-- so much is laid and gone past; `rest` is what is still to come of R, from the line at `at` on, whose number is `line`
pub record Lays (t join₀ out₀ : List ℕ) (R : Laid) (join out : List ℕ) (at line k : ℕ) : Type 0 where
  pub done : List ℕ
  pub past : List Try
  pub walk : SheetWalk t join₀ join at line past
  pub room : k ≤ length out₀
  pub counted : k ≡ length done
  pub content : out ≡ over done out₀
  pub rest : R ≡ laid_behind past done (lay_from t (length out₀ - k) (tries_at t (length join₀) line at))

module _ (t join out : List ℕ) (at line : ℕ) where
  pub lays_start : length t ≤ max_text → at ≤ length t → line ≤ at + 1 → max_text ≤ length join → Lays t join out (lay_from t (length out) (tries_at t max_text line at)) join out at line 0
  lays_start k w l j =
      record {
        done = [];
        past = [];
        walk = walk_start t join at line k j w l;
        room = omega arith;
        counted = refl;
        content = refl;
        rest = rw (sub-zero (length out), walk_tries t join at line k j);
      }

-- what is promised
abbrev pub Tells : List ℕ → List ℕ → Laid → Part → List ℕ → List ℕ → Type 0
Tells join₀ out₀ R p join out = (p ≡ shown_part R) × ((join ≡ join_behind join₀ R.past) × (out ≡ over R.text out₀))

module _ {t join₀ out₀ : List ℕ} {R : Laid} {join out : List ℕ} {at line k : ℕ} (inv : Lays t join₀ out₀ R join out at line k) where
  pub lays_long : length out ≡ length out₀
  lays_long = rw inv.content (over_long inv.done out₀ (omega (arith, inv.room, inv.counted)))

  -- nothing more is laid, and ys are gone past
  ends_so : (ys : List Try) (a : Result Told Refusal) (m n : ℕ) {join' : List ℕ} → R ≡ laid_behind inv.past inv.done (laid_behind ys [] (record { told = a; text = []; past = []; at = m; line = n }))
      → join' ≡ join_behind join₀ (inv.past ++ ys) → Tells join₀ out₀ R (record { told = a; len = k; at = m; line = n }) join' out
  ends_so ys a m n e j = rw (e, append-nil inv.done, append-nil ys) (rw (← inv.counted), (j, inv.content))

  gone_none : join ≡ join_behind join₀ (inv.past ++ [])
  gone_none = rw (append-nil inv.past) inv.walk.joins

  pub lays_end : {p : Part} → length t ≤ at → p ≡ record { told = Ok Done; len = k; at = 0; line = 0 } → Tells join₀ out₀ R p join out
  unfolding lay_from
  lays_end h e = rw e (ends_so [] (Ok Done) 0 0 (rw (tries_end t (length join₀) line at h) at inv.rest) gone_none)

  pub lays_stop : {p : Part} → at < length t → length out - k < max_line → p ≡ record { told = Ok More; len = k; at = at; line = line } → Tells join₀ out₀ R p join out
  lays_stop h l e = rw e (ends_so [] (Ok More) at line (rw (lay_stop t (length join₀) line at h (rw lays_long at l)) at inv.rest) gone_none)

  module _ (l : max_line ≤ length out - k) where
    has_room : max_line ≤ length out₀ - k
    has_room = rw lays_long at l

    pub lays_none : {join' : List ℕ} {p : Part} → WalkEnds t join₀ at line inv.past join' → p ≡ record { told = Ok Done; len = k; at = 0; line = 0 } → Tells join₀ out₀ R p join' out
    lays_none w q = rw q (ends_so (tries_at t (length join₀) line at) (Ok Done) 0 0 (rw (lay_none t has_room (tries_at t (length join₀) line at) w.blocks) at inv.rest) w.joins)

    module _ {r : Next} {join' : List ℕ} (m : WalkMeets t join₀ at line inv.past r join') where
      abbrev gone : List Try
      gone = up_to_block (tries_at t (length join₀) line at)

      abbrev L : List ℕ
      L = block_line t (try t (length join₀) (line + r.skipped) r.at)

      line_is : line_by (line + r.skipped) r.block.lines (two t (slice 0 r.block.joined join')) r.block.set r.block.outcome ≡ L
      unfolding block_line
      line_is = rw (m.joined, m.set, m.outcome, m.lines)

      pub lays_go : {k' : ℕ} {out' : List ℕ}
          → PutAt out k (line_by (line + r.skipped) r.block.lines (two t (slice 0 r.block.joined join')) r.block.set r.block.outcome) k' out'
          → Lays t join₀ out₀ R join' out' r.block.next (line + r.skipped + r.block.lines) k'
      lays_go {k'} {out'} p =
          record {
            done = inv.done ++ L;
            past = inv.past ++ gone;
            walk = m.walk;
            room = omega (arith, short, has_room, ends);
            counted = omega (arith, ends, inv.counted, length-append inv.done L);
            content = (rw line_is at p.content) ∙ rw (inv.content, inv.counted) (over-sets inv.done L out₀ (omega (arith, short, has_room, inv.counted)));
            rest = inv.rest ∙ ap (laid_behind inv.past inv.done) step ∙ rw (append_assoc inv.done, append_assoc inv.past);
          }
        where
          short : length L ≤ max_line
          short = rw line_is at (line_le (line + r.skipped) r.block.lines (two t (slice 0 r.block.joined join')) r.block.set r.block.outcome (omega (arith, m.few)) (omega (arith, m.few)))

          ends : k' ≡ k + length L
          ends = rw line_is at p.behind

          left : length out₀ - k - length L ≡ length out₀ - k'
          left = omega (arith, ends)

          step : lay_from t (length out₀ - k) (tries_at t (length join₀) line at) ≡ laid_behind gone L (lay_from t (length out₀ - k') (tries_at t (length join₀) (line + r.skipped + r.block.lines) r.block.next))
          step = ap (lay_from t (length out₀ - k)) m.tries ∙ lay_first t has_room _ (tries_at t (length join₀) line at) m.blocks ∙ rw left
