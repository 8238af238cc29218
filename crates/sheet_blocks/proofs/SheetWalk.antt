-- The walk over a sheet's blocks, as every loop makes it that asks `next_block` for one block after the other: what it knows before a call, and what an answer adds.
-- A loop's own invariant has a `SheetWalk` as a field, and beside it what the loop makes of the tries gone past and of those to come.
-- Assumes nothing.
use mathlib.Core.Path.{◌≡◌, refl, sym, ◌∙◌, ap}
use mathlib.Core.Bool.{Bool, true, false, cond}
use mathlib.Core.List.{List, [], ◌∷◌, ◌++◌}
use Prim.Native.Nat.{ℕ, ◌+◌, ◌-◌, ◌≤◌, ◌<◌}
use native.Mathlib.Omega.{arith}
use lib.ListN.{length, take}
use lib.Seq.{slice}
use Rattle.base_refusals.specs.Numbers.{max_text}
use Rattle.read_blocks.specs.Blocks.{Found, lines_of, joined_in, join_holds, filled_found, block_of}
use Rattle.read_lengths.specs.Lengths.{flush_left}
use Rattle.sheet_blocks.specs.declared.Next.{Next}
use Rattle.sheet_blocks.specs.Sheets.{Try, tries_at, is_block, only_blocks, join_behind, up_to_block, next_of, next_tries}
use Rattle.sheet_blocks.proofs.Tries.{try}
use Rattle.sheet_blocks.proofs.Goes.{Goes, goes_on_lem, stops, join_long, join_append, holds_front, upto_join}
use Rattle.sheet_blocks.proofs.Rooms.{tries-same}

-- ---- what holds of tries without a block, and of those up to the first block: by the tries before it, one after the other

module _ (P : List Try → Type 0) (on : (x : Try) (xs : List Try) → is_block x.found ≡ false → P xs → P (x ∷ xs)) where
  pub none_by : P [] → (xs : List Try) → only_blocks xs ≡ [] → P xs
  unfolding only_blocks
  none_by p [] e = p
  none_by p (x ∷ xs) e = go (is_block x.found) refl e (none_by p xs)
    where
      go : (b : Bool) → is_block x.found ≡ b → cond b (x ∷ only_blocks xs) (only_blocks xs) ≡ [] → (only_blocks xs ≡ [] → P xs) → P (x ∷ xs)
      go true b e ih = let z : ◌≡◌ {A = ℕ} 0 1 = cc in absurd (omega arith)
      go false b e ih = on x xs b (ih e)

  pub first_by : {y : Try} {ys : List Try} → (is_block y.found ≡ true → P (y ∷ [])) → (xs : List Try) → only_blocks xs ≡ y ∷ ys → P (up_to_block xs)
  unfolding only_blocks up_to_block
  first_by p [] e = let z : ◌≡◌ {A = ℕ} 0 1 = cc in absurd (omega arith)
  first_by {y} {ys} p (x ∷ xs) e = go (is_block x.found) refl e (first_by p xs)
    where
      go : (b : Bool) → is_block x.found ≡ b → cond b (x ∷ only_blocks xs) (only_blocks xs) ≡ y ∷ ys → (only_blocks xs ≡ y ∷ ys → P (up_to_block xs)) → P (x ∷ cond b [] (up_to_block xs))
      go true b e ih = let z : x ≡ y = cc in rw z (p (rw z at b))
      go false b e ih = on x (up_to_block xs) b (ih e)

-- the joined bytes of the first block stand at the front of the join buffer behind it
upto_front : (buf : List ℕ) (xs : List Try) {y : Try} {ys : List Try} → only_blocks xs ≡ y ∷ ys → take (length (joined_in y.found)) (join_behind buf (up_to_block xs)) ≡ joined_in y.found
unfolding join_behind
upto_front buf xs {y} e =
    first_by (λ us. (b : List ℕ) → take (length (joined_in y.found)) (join_behind b us) ≡ joined_in y.found) (λ x us n h b. h (join_holds b x.found)) (λ n b. holds_front b y.found) xs e buf

-- ---- before a call: `past` are the tries gone past, and the walk goes on at the line of number `line`, which begins at `at`

pub record SheetWalk (t join₀ join : List ℕ) (at line : ℕ) (past : List Try) : Type 0 where
  pub fits : length t ≤ max_text
  pub wide : max_text ≤ length join₀
  pub within : at ≤ length t
  pub low : line ≤ at + 1
  pub same : length join ≡ length join₀
  pub joins : join ≡ join_behind join₀ past

module _ (t join : List ℕ) (at line : ℕ) (k : length t ≤ max_text) (j : max_text ≤ length join) where
  pub walk_start : at ≤ length t → line ≤ at + 1 → SheetWalk t join join at line []
  unfolding join_behind
  walk_start w l = record { fits = k; wide = j; within = w; low = l; same = refl; joins = refl }

  -- a sheet's tries are said with the least buffer that whole sheets need
  pub walk_tries : tries_at t max_text line at ≡ tries_at t (length join) line at
  walk_tries = sym (tries-same t max_text k line at) ∙ tries-same t (length join) (omega arith) line at

-- ---- what an answer adds

-- there is no block any more
pub record WalkEnds (t join₀ : List ℕ) (at line : ℕ) (past : List Try) (join' : List ℕ) : Type 0 where
  pub blocks : only_blocks (tries_at t (length join₀) line at) ≡ []
  pub joins : join' ≡ join_behind join₀ (past ++ tries_at t (length join₀) line at)

-- a block: the walk goes on behind it, and nearer to the text's end
pub record WalkMeets (t join₀ : List ℕ) (at line : ℕ) (past : List Try) (r : Next) (join' : List ℕ) : Type 0 where
  pub walk : SheetWalk t join₀ join' r.block.next (line + r.skipped + r.block.lines) (past ++ up_to_block (tries_at t (length join₀) line at))
  pub less : length t - r.block.next < length t - at
  -- no number of a line is greater
  pub few : line + r.skipped + r.block.lines ≤ max_text + 1
  pub some : 0 < r.block.lines
  pub blocks : only_blocks (tries_at t (length join₀) line at)
      ≡ try t (length join₀) (line + r.skipped) r.at ∷ only_blocks (tries_at t (length join₀) (line + r.skipped + r.block.lines) r.block.next)
  pub tries : tries_at t (length join₀) line at
      ≡ up_to_block (tries_at t (length join₀) line at) ++ tries_at t (length join₀) (line + r.skipped + r.block.lines) r.block.next
  pub lines : r.block.lines ≡ lines_of (flush_left t (length join₀) r.at)
  pub set : r.block.set ≡ (filled_found t r.at (flush_left t (length join₀) r.at)).set
  pub outcome : r.block.outcome ≡ (filled_found t r.at (flush_left t (length join₀) r.at)).outcome
  pub joined : slice 0 r.block.joined join' ≡ joined_in (flush_left t (length join₀) r.at)

module _ {t join₀ join : List ℕ} {at line : ℕ} {past : List Try} (w : SheetWalk t join₀ join at line past) {r : Next} {join' : List ℕ} (e : r ≡ next_of t (length join) at)
    (j : join' ≡ join_behind join (next_tries t (length join) at)) where
  is : r ≡ next_of t (length join₀) at
  is = rw w.same at e

  join_is : join' ≡ join_behind join (next_tries t (length join₀) at)
  join_is = rw w.same at j

  pub walk_same : length join' ≡ length join₀
  walk_same = rw j (join_long t at join) ∙ w.same

  behind : (ys : List Try) → join' ≡ join_behind join ys → join' ≡ join_behind join₀ (past ++ ys)
  behind ys h = h ∙ rw w.joins (sym (join_append join₀ past ys))

  pub walk_ends : r.block.lines ≡ 0 → WalkEnds t join₀ at line past join'
  walk_ends z =
      let s = stops t (length join₀) at w.fits w.wide (rw is at z) in
      record { blocks = s.blocks line; joins = behind (tries_at t (length join₀) line at) (join_is ∙ sym (s.joins line join)) }

  pub walk_meets : (r.block.lines ≡ 0 → ⊥) → WalkMeets t join₀ at line past r join'
  unfolding block_of
  walk_meets z =
      record {
        walk = record {
          fits = w.fits;
          wide = w.wide;
          within = goes.inside;
          low = low;
          same = walk_same;
          joins = behind upto joined_so;
        };
        less = omega (arith, goes.within, goes.order, goes.beyond, goes.some, goes.inside);
        few = omega (arith, low, goes.inside, w.fits);
        some = goes.some;
        blocks = goes.blocks line;
        tries = goes.tries line;
        lines = rw goes.read;
        set = rw goes.read;
        outcome = rw goes.read;
        joined = rw goes.read front;
      }
    where
      goes : Goes t (length join₀) at r
      goes = rw is (goes_on_lem t (length join₀) at w.fits w.wide (λ y. z (rw is y)))

      upto : List Try
      upto = up_to_block (tries_at t (length join₀) line at)

      low : line + r.skipped + r.block.lines ≤ r.block.next + 1
      low = omega (arith, w.low, goes.order, goes.beyond)

      joined_so : join' ≡ join_behind join upto
      joined_so = join_is ∙ sym (upto_join t (length join₀) line at join w.fits w.wide)

      front : take (length (joined_in (flush_left t (length join₀) r.at))) join' ≡ joined_in (flush_left t (length join₀) r.at)
      front = rw joined_so (upto_front join (tries_at t (length join₀) line at) (goes.blocks line))
