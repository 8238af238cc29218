-- From block to block: a caller who goes on behind each block that `next_block` hands out sees the sheet's tries and blocks, one after the other.
-- Assumes nothing.
use mathlib.Core.Path.{◌≡◌, refl, ◌∙◌, ap}
use mathlib.Core.Bool.{Bool, true, false, cond}
use mathlib.Core.List.{List, [], ◌∷◌, ◌++◌, map, foldl-append}
use Prim.Native.Nat.{ℕ, zero, suc, ◌+◌, ◌-◌, ◌<◌, ◌≤◌, zero-le}
use native.Mathlib.Nat.{add-zero, zero-add}
use native.Mathlib.Omega.{arith}
use borrow.Author.Tests.{ltb-true, ltb-false, le-ltb}
use lib.Dec.{ltb}
use lib.ListN.{length, take, drop, length-map}
use lib.Seq.{take-append_seam}
use Rattle.base_refusals.specs.Numbers.{max_text}
use Rattle.base_refusals.specs.declared.Refusal.TheVariants.{NothingThere}
use Rattle.text_lines.specs.Lines.{lines, line_from}
use Rattle.text_lines.specs.declared.Range.{Range}
use Rattle.text_lines.proofs.Lines.{lines_end, line_at_lem, next_beyond}
use Rattle.run_lines.specs.Runs.{as_is, past_lines, run_at}
use Rattle.run_lines.proofs.Bounds.{lines_le}
use Rattle.read_blocks.specs.Blocks.{Found, lines_of, joined_in, join_holds, block_of}
use Rattle.read_lengths.specs.Lengths.{flush_left}
use Rattle.read_blocks.proofs.Places.{past_in}
use Rattle.sheet_blocks.specs.declared.Next.{Next}
use Rattle.sheet_blocks.specs.Sheets.{Try, tries_from, tries_at, is_block, only_blocks, join_behind, up_to_block, nowhere, next_of, next_tries}
use Rattle.sheet_blocks.proofs.Tries.{found_by, run-found_by, flush_by, some_lines, holds_long, tries_end, try, tries_on, tries_past}

-- ---- every line has a byte

lines_bytes : (k : ℕ) (t : List ℕ) (at : ℕ) → k ≤ length (lines (drop at t)) → at + k ≤ past_lines k t at
unfolding past_lines
lines_bytes zero t at h = omega arith
lines_bytes (suc k) t at h = go (ltb at (length t)) refl (lines_bytes k t (line_from t at).next)
  where
    go : (x : Bool) → ltb at (length t) ≡ x → (k ≤ length (lines (drop (line_from t at).next t)) → (line_from t at).next + k ≤ past_lines k t (line_from t at).next)
        → at + suc k ≤ past_lines k t (line_from t at).next
    go true x ih =
        let l = ltb-true at (length t) x in
        omega (arith, ih (omega (arith, h, ap length (line_at_lem t at l))), next_beyond t at l)
    go false x ih = absurd (omega (arith, h, ap length (lines_end t at (ltb-false at (length t) x))))

abbrev Within : List ℕ → ℕ → Found → Type 0
Within t at f = lines_of f ≤ length (lines (drop at t))

block_within : (t : List ℕ) (cap at : ℕ) → at < length t → Within t at (flush_left t cap at)
unfolding run_at
block_within t cap at h = flush_by (Within t at) t at cap zero-le (found_by (Within t at) t at 0 cap (λ g. one) zero-le zero-le (run-found_by (Within t at) t at 0 cap (λ r e g. rw e more) (λ r e q. zero-le)))
  where
    one : 1 ≤ length (lines (drop at t))
    one = omega (arith, ap length (line_at_lem t at h))

    more : (run_at cap 0 t at).lines ≤ length (lines (drop at t))
    more = omega (arith, lines_le cap 0 (map as_is (lines (drop at t))), length-map (lines (drop at t)) as_is)

pub block_bytes : (t : List ℕ) (cap at : ℕ) → at < length t → at + lines_of (flush_left t cap at) ≤ past_lines (lines_of (flush_left t cap at)) t at
block_bytes t cap at h = lines_bytes (lines_of (flush_left t cap at)) t at (block_within t cap at h)

-- ---- the first block

-- none from the line at `at` on
pub record Ends (t : List ℕ) (cap at : ℕ) : Type 0 where
  pub blocks : (n : ℕ) → only_blocks (tries_at t cap n at) ≡ []
  pub tries : (n : ℕ) → tries_at t cap n at ≡ up_to_block (tries_at t cap n at)

-- one at `from`, s lines behind the line at `at`
pub record First (t : List ℕ) (cap at s from : ℕ) : Type 0 where
  pub is : is_block (flush_left t cap from) ≡ true
  pub within : from < length t
  pub order : at + s ≤ from
  pub place : from ≡ past_lines s t at
  pub blocks : (n : ℕ) → only_blocks (tries_at t cap n at) ≡ try t cap (n + s) from ∷ only_blocks (tries_at t cap (n + s + lines_of (flush_left t cap from)) (past_lines (lines_of (flush_left t cap from)) t from))
  pub tries : (n : ℕ) → tries_at t cap n at ≡ up_to_block (tries_at t cap n at) ++ tries_at t cap (n + s + lines_of (flush_left t cap from)) (past_lines (lines_of (flush_left t cap from)) t from)

pub data Leads (t : List ℕ) (cap at : ℕ) : Type 0 where
  ends : Ends t cap at → Leads t cap at
  first : (s from : ℕ) → First t cap at s from → Leads t cap at

module _ (t : List ℕ) (cap : ℕ) where
  leads_end : (at : ℕ) → length t ≤ at → Leads t cap at
  unfolding only_blocks up_to_block
  leads_end at h = Leads.ends (record { blocks = λ n. rw (tries_end t cap n at h); tries = λ n. rw (tries_end t cap n at h) })

  leads-here : (at : ℕ) → at < length t → is_block (flush_left t cap at) ≡ true → First t cap at 0 at
  unfolding only_blocks up_to_block past_lines
  leads-here at h e =
      record {
        is = e;
        within = h;
        order = omega arith;
        place = refl;
        blocks = λ n. rw (add-zero n, tries_past t cap n at h e, e);
        tries = λ n. rw (add-zero n, tries_past t cap n at h e, e);
      }

  leads_on : (at : ℕ) → at < length t → is_block (flush_left t cap at) ≡ false → Leads t cap (line_from t at).next → Leads t cap at
  unfolding only_blocks up_to_block past_lines
  leads_on at h e (Leads.ends w) =
      Leads.ends (record {
        blocks = λ n. rw (tries_on t cap n at h e, e) (w.blocks (suc n));
        tries = λ n. rw (tries_on t cap n at h e, e) (ap (λ xs. try t cap n at ∷ xs) (w.tries (suc n)));
      })
  leads_on at h e (Leads.first s from w) =
      Leads.first (suc s) from (record {
        is = w.is;
        within = w.within;
        order = omega (arith, w.order, next_beyond t at h);
        place = w.place;
        blocks = λ n. let z : n + suc s ≡ suc n + s = omega arith in rw (z, tries_on t cap n at h e, e) (w.blocks (suc n));
        tries = λ n. let z : n + suc s ≡ suc n + s = omega arith in rw (z, tries_on t cap n at h e, e) (ap (λ xs. try t cap n at ∷ xs) (w.tries (suc n)));
      })

  pub leads : (fuel at : ℕ) → length t ≤ at + fuel → Leads t cap at
  leads zero at h = leads_end at (omega arith)
  leads (suc fuel) at h = go (ltb at (length t)) refl (is_block (flush_left t cap at)) refl (leads fuel (line_from t at).next)
    where
      go : (x : Bool) → ltb at (length t) ≡ x → (y : Bool) → is_block (flush_left t cap at) ≡ y → (length t ≤ (line_from t at).next + fuel → Leads t cap (line_from t at).next) → Leads t cap at
      go false x y e ih = leads_end at (ltb-false at (length t) x)
      go true x true e ih = Leads.first 0 at (leads-here at (ltb-true at (length t) x) e)
      go true x false e ih = let l = ltb-true at (length t) x in leads_on at l e (ih (omega (arith, h, next_beyond t at l)))

-- ---- the join buffer behind tries

pub join_append : (buf : List ℕ) (xs ys : List Try) → join_behind buf (xs ++ ys) ≡ join_behind (join_behind buf xs) ys
unfolding join_behind
join_append = foldl-append (λ b x. join_holds b x.found)

-- the numbers of the lines don't count
numbers : (t : List ℕ) (cap n m k : ℕ) (rs : List Range) (buf : List ℕ) → join_behind buf (up_to_block (tries_from t cap n k rs)) ≡ join_behind buf (up_to_block (tries_from t cap m k rs))
unfolding tries_from up_to_block join_behind
numbers t cap n m k [] buf = refl
numbers t cap n m (suc k) (r ∷ rs) buf = numbers t cap (suc n) (suc m) k rs buf
numbers t cap n m zero (r ∷ rs) buf = go (is_block f) (numbers t cap (suc n) (suc m) (lines_of f - 1) rs (join_holds buf f))
  where
    f : Found
    f = flush_left t cap r.from

    go : (x : Bool) → join_behind (join_holds buf f) (up_to_block (tries_from t cap (suc n) (lines_of f - 1) rs)) ≡ join_behind (join_holds buf f) (up_to_block (tries_from t cap (suc m) (lines_of f - 1) rs))
        → join_behind (join_holds buf f) (cond x [] (up_to_block (tries_from t cap (suc n) (lines_of f - 1) rs))) ≡ join_behind (join_holds buf f) (cond x [] (up_to_block (tries_from t cap (suc m) (lines_of f - 1) rs)))
    go true ih = refl
    go false ih = ih

pub upto_join : (t : List ℕ) (cap n at : ℕ) (buf : List ℕ) → length t ≤ max_text → max_text ≤ cap → join_behind buf (up_to_block (tries_at t cap n at)) ≡ join_behind buf (next_tries t cap at)
unfolding tries_at next_tries
upto_join t cap n at buf k j = rw (le-ltb max_text (length t) k, le-ltb cap max_text j) (numbers t cap n 0 0 _ buf)

-- ---- the joined bytes of a block stand at the front of the join buffer

pub holds_front : (buf : List ℕ) (f : Found) → take (length (joined_in f)) (join_holds buf f) ≡ joined_in f
unfolding join_holds
holds_front buf f = take-append_seam (joined_in f) (drop (length (joined_in f)) buf)

-- ---- what is handed out

-- a block r: the tries and blocks from the line at `at` on, whose number is n, are those up to r and those behind it
pub record Goes (t : List ℕ) (cap at : ℕ) (r : Next) : Type 0 where
  pub place : r.at ≡ past_lines r.skipped t at
  pub is : is_block (flush_left t cap r.at) ≡ true
  pub read : r.block ≡ block_of t r.at (flush_left t cap r.at)
  -- every line has a byte, so the next try is farther on
  pub order : at + r.skipped ≤ r.at
  pub within : r.at < length t
  pub some : 0 < r.block.lines
  pub beyond : r.at + r.block.lines ≤ r.block.next
  pub inside : r.block.next ≤ length t
  pub blocks : (n : ℕ) → only_blocks (tries_at t cap n at) ≡ try t cap (n + r.skipped) r.at ∷ only_blocks (tries_at t cap (n + r.skipped + r.block.lines) r.block.next)
  pub tries : (n : ℕ) → tries_at t cap n at ≡ up_to_block (tries_at t cap n at) ++ tries_at t cap (n + r.skipped + r.block.lines) r.block.next
  pub joins : (n : ℕ) (buf : List ℕ) → join_behind buf (tries_at t cap n at) ≡ join_behind (join_behind buf (next_tries t cap at)) (tries_at t cap (n + r.skipped + r.block.lines) r.block.next)

-- no block
pub record Stops (t : List ℕ) (cap at : ℕ) (r : Next) : Type 0 where
  pub is : r ≡ nowhere NothingThere at
  pub blocks : (n : ℕ) → only_blocks (tries_at t cap n at) ≡ []
  pub joins : (n : ℕ) (buf : List ℕ) → join_behind buf (tries_at t cap n at) ≡ join_behind buf (next_tries t cap at)

module _ (t : List ℕ) (cap at : ℕ) (k : length t ≤ max_text) (j : max_text ≤ cap) where
  next_stops : Ends t cap at → Stops t cap at (next_of t cap at)
  unfolding next_of
  next_stops w =
      record {
        is = rw (le-ltb max_text (length t) k, le-ltb cap max_text j, w.blocks 0);
        blocks = w.blocks;
        joins = λ n buf. ap (join_behind buf) (w.tries n) ∙ upto_join t cap n at buf k j;
      }

  next_is : {s from : ℕ} → First t cap at s from → next_of t cap at ≡ record { skipped = s; at = from; block = block_of t from (flush_left t cap from) }
  unfolding next_of
  next_is {s} w = rw (le-ltb max_text (length t) k, le-ltb cap max_text j, w.blocks 0, zero-add s)

  next_goes : {s from : ℕ} → First t cap at s from → Goes t cap at (next_of t cap at)
  unfolding block_of
  next_goes {s} {from} w =
      rw (next_is w) (record {
        place = w.place;
        is = w.is;
        read = refl;
        order = w.order;
        within = w.within;
        some = some_lines t from cap w.is;
        beyond = block_bytes t cap from w.within;
        inside = past_in (lines_of (flush_left t cap from)) t from (omega (arith, w.within));
        blocks = w.blocks;
        tries = w.tries;
        joins = λ n buf. ap (join_behind buf) (w.tries n) ∙ join_append buf (up_to_block (tries_at t cap n at)) (rest n) ∙ ap (λ b. join_behind b (rest n)) (upto_join t cap n at buf k j);
      })
    where
      rest : ℕ → List Try
      rest n = tries_at t cap (n + s + lines_of (flush_left t cap from)) (past_lines (lines_of (flush_left t cap from)) t from)

  -- `block.lines` tells which
  pub goes_on_lem : ((next_of t cap at).block.lines ≡ 0 → ⊥) → Goes t cap at (next_of t cap at)
  goes_on_lem h = go (leads t cap (length t) at (omega arith))
    where
      go : Leads t cap at → Goes t cap at (next_of t cap at)
      go (Leads.ends w) = absurd (h (ap (λ r. r.block.lines) (next_stops w).is))
      go (Leads.first s from w) = next_goes w

  pub stops : (next_of t cap at).block.lines ≡ 0 → Stops t cap at (next_of t cap at)
  stops h = go (leads t cap (length t) at (omega arith))
    where
      go : Leads t cap at → Stops t cap at (next_of t cap at)
      go (Leads.ends w) = next_stops w
      go (Leads.first s from w) = absurd (omega (arith, h, (next_goes w).some))

-- ---- a join buffer stays as long as it is

fits_long : (t : List ℕ) (cap n k : ℕ) (rs : List Range) (buf : List ℕ) → length buf ≡ cap → length (join_behind buf (up_to_block (tries_from t cap n k rs))) ≡ cap
unfolding tries_from up_to_block join_behind
fits_long t cap n k [] buf e = e
fits_long t cap n (suc k) (r ∷ rs) buf e = fits_long t cap (suc n) k rs buf e
fits_long t cap n zero (r ∷ rs) buf e = go (is_block f) (fits_long t cap (suc n) (lines_of f - 1) rs (join_holds buf f))
  where
    f : Found
    f = flush_left t cap r.from

    held : length (join_holds buf f) ≡ cap
    held = rw e at (holds_long t r.from buf)

    go : (x : Bool) → (length (join_holds buf f) ≡ cap → length (join_behind (join_holds buf f) (up_to_block (tries_from t cap (suc n) (lines_of f - 1) rs))) ≡ cap)
        → length (join_behind (join_holds buf f) (cond x [] (up_to_block (tries_from t cap (suc n) (lines_of f - 1) rs)))) ≡ cap
    go true ih = held
    go false ih = ih held

pub join_long : (t : List ℕ) (at : ℕ) (buf : List ℕ) → length (join_behind buf (next_tries t (length buf) at)) ≡ length buf
unfolding next_tries tries_at join_behind
join_long t at buf = go (ltb max_text (length t)) (ltb (length buf) max_text)
  where
    go : (x y : Bool) → length (join_behind buf (cond x [] (cond y [] (up_to_block (tries_at t (length buf) 0 at))))) ≡ length buf
    go true y = refl
    go false true = refl
    go false false = fits_long t (length buf) 0 0 _ buf refl
