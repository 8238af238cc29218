-- How far a refused run looks ahead, and how long its joined text grows.
-- Assumes nothing.
use Rattle.std.specs.Prelude.{Ok}
use mathlib.Core.Path.{◌≡◌, refl}
use mathlib.Core.Bool.{Bool, true, false, cond}
use mathlib.Core.List.{List, [], ◌∷◌, ◌++◌, map, append-nil}
use Prim.Native.Nat.{ℕ, suc, ◌-◌, ◌≤◌, zero-le}
use native.Mathlib.Omega.{arith}
use lib.Dec.{ltb}
use lib.ListN.{length, length-drop}
use Rattle.block_payloads.specs.Payloads.{opens}
use Rattle.text_lines.specs.Trim.{trim_start, is_blank_line}
use Rattle.text_lines.proofs.Trim.{trim_start_lem}
use Rattle.base_lists.specs.Lists.{run, begins_pair}
use Rattle.base_bytes.specs.Bytes.{is_space}
use Rattle.text_tabs.specs.Columns.{indent_columns}
use Rattle.run_joins.specs.Joins.{Lined}
use Rattle.run_lines.specs.Runs.{as_is, run_of, sizes, start}
use Rattle.run_lines.proofs.Bounds.{lookahead_sum, sizes-take, text_le, costs, grows}
use Rattle.run_spots.specs.declared.Spot.{Spot}
use Rattle.run_refused.specs.declared.RunReply.TheVariants.{No}
use Rattle.run_spots.specs.Spots.{is_stray, spot_after}
use Rattle.run_refused.specs.Refused.{Stretch, onto_stretch, walk_line, On, halts, padded_line, entered_at, on_after, behind_line, walk_from, on_first, RunTold, unjoined, found_in, comment_from, refused_of}
use Rattle.run_refused.specs.Inner.{lines_taken}
use Rattle.base_lists.proofs.More.{or_right}

opens-halts : (m : List ℕ) (opener : ℕ) (v : On) → v.first ≡ false → opens m ≡ true → halts v.first v.brace opener m ≡ true
opens-halts m opener v e o = rw (e, o) (or_right (is_blank_line m) _ (or_right (ltb (suc v.brace) opener) true refl))

-- ---- a measure of lines that padding doesn't raise: what is found is no more than what was walked

module _ (M : List Lined → ℕ) (none : M [] ≡ 0) (more : (opener : ℕ) (w : On) (l : List ℕ) (ls : List Lined) (ms : List (List ℕ)) → M ls ≤ M (map as_is ms) → M (padded_line opener w l ∷ ls) ≤ M (map as_is (l ∷ ms))) where
  empty_le : (n : ℕ) → M [] ≤ n
  empty_le n = rw none zero-le

  line_le : (p : Spot) (s : List ℕ) (K : Spot → Stretch) (n : ℕ) → ((v : Spot) → M (lines_taken (K v)) ≤ n) → M (lines_taken (walk_line p s K)) ≤ n
  unfolding walk_line
  line_le p [] K n h = h p
  line_le p (b ∷ s) K n h = go (is_stray p b) (line_le (spot_after p b) s K n h)
    where
      go : (x : Bool) → M (lines_taken (walk_line (spot_after p b) s K)) ≤ n → M (lines_taken (cond x Stretch.none (walk_line (spot_after p b) s K))) ≤ n
      go true q = empty_le n
      go false q = q

  module _ (opener : ℕ) where
    onto_le : (w : On) (l : List ℕ) (f : Stretch) (ms : List (List ℕ)) → M (lines_taken f) ≤ M (map as_is ms) → M (lines_taken (onto_stretch (padded_line opener w l) f)) ≤ M (map as_is (l ∷ ms))
    onto_le w l Stretch.none ms h = empty_le _
    onto_le w l (Stretch.block s ls) ms h = more opener w l ls ms h

    walk_step : (w : On) (l : List ℕ) (ls ms : List (List ℕ)) → ((v : On) → v.first ≡ false → M (lines_taken (walk_from opener v ls)) ≤ M (map as_is ms)) → M (lines_taken (walk_from opener w (l ∷ ls))) ≤ M (map as_is (l ∷ ms))
    unfolding walk_from
    walk_step w l ls ms h = go (halts w.first w.brace opener l)
      where
        K : Spot → Stretch
        K = behind_line (padded_line opener w l) (on_after w l) (λ v. walk_from opener v ls)

        next : (x : Bool) (v : On) → v.first ≡ false → M (lines_taken (cond x (walk_from opener v ls) (Stretch.block v.shallow []))) ≤ M (map as_is ms)
        next true v e = h v e
        next false v e = empty_le _

        go : (x : Bool) → M (lines_taken (cond x Stretch.none (walk_line (entered_at w.first w.brace l) (trim_start l) K))) ≤ M (map as_is (l ∷ ms))
        go true = empty_le _
        go false = line_le (entered_at w.first w.brace l) (trim_start l) K _ (λ v. onto_le w l (cond v.inside (walk_from opener (on_after w l v.brace) ls) (Stretch.block (on_after w l v.brace).shallow [])) ms (next v.inside (on_after w l v.brace) refl))

    -- no walk goes beyond the lines `rest`, if none that comes to them enters them
    pub walk_upto : (rest : List (List ℕ)) → ((v : On) → v.first ≡ false → M (lines_taken (walk_from opener v rest)) ≤ 0) → (pre : List (List ℕ)) (v : On) → v.first ≡ false → M (lines_taken (walk_from opener v (pre ++ rest))) ≤ M (map as_is pre)
    walk_upto rest h [] v e = rw none (h v e)
    walk_upto rest h (l ∷ pre) v e = walk_step v l (pre ++ rest) pre (walk_upto rest h pre)

    pub walk_first : (rest : List (List ℕ)) → ((v : On) → v.first ≡ false → M (lines_taken (walk_from opener v rest)) ≤ 0) → (pre : List (List ℕ)) (l : List ℕ) (w : On) → M (lines_taken (walk_from opener w (l ∷ (pre ++ rest)))) ≤ M (map as_is (l ∷ pre))
    walk_first rest h pre l w = walk_step w l (pre ++ rest) pre (walk_upto rest h pre)

  -- at a line that opens with a brace a walk ends, and behind the last line
  pub ends_at : (opener : ℕ) (m : List ℕ) (tail : List (List ℕ)) → opens m ≡ true → (v : On) → v.first ≡ false → M (lines_taken (walk_from opener v (m ∷ tail))) ≤ 0
  unfolding walk_from
  ends_at opener m tail o v e = rw (opens-halts m opener v e o) (empty_le 0)

  pub ends_last : (opener : ℕ) (v : On) → v.first ≡ false → M (lines_taken (walk_from opener v [])) ≤ 0
  unfolding walk_from
  ends_last opener v e = empty_le 0

-- ---- sizes, and lines with their LF

size_more : (opener : ℕ) (w : On) (l : List ℕ) (ls : List Lined) (ms : List (List ℕ)) → sizes ls ≤ sizes (map as_is ms) → sizes (padded_line opener w l ∷ ls) ≤ sizes (map as_is (l ∷ ms))
unfolding sizes
size_more opener w l ls ms h = omega arith

trim_le : (l : List ℕ) → length (trim_start l) ≤ length l
trim_le l = rw (trim_start_lem l) (omega (arith, length-drop (run is_space l) l))

cost_more : (opener : ℕ) (w : On) (l : List ℕ) (ls : List Lined) (ms : List (List ℕ)) → costs ls ≤ costs (map as_is ms) → costs (padded_line opener w l ∷ ls) ≤ costs (map as_is (l ∷ ms))
unfolding costs
cost_more opener w l ls ms h = omega (arith, trim_le l)

no_sizes : sizes [] ≡ 0
unfolding sizes
no_sizes = refl

no_costs : costs [] ≡ 0
unfolding costs
no_costs = refl

-- ---- what is told

found-ahead : (cap : ℕ) (f : Stretch) → (found_in cap f).lookahead ≤ sizes (lines_taken f)
unfolding found_in
found-ahead cap Stretch.none = zero-le
found-ahead cap (Stretch.block true ls) = omega (arith, lookahead_sum cap 0 ls, sizes-take (run_of cap 0 ls).lines ls)
found-ahead cap (Stretch.block false ls) = zero-le

found-text : (cap : ℕ) (f : Stretch) → length (found_in cap f).text ≤ costs (lines_taken f) - 1
unfolding found_in
found-text cap Stretch.none = zero-le
found-text cap (Stretch.block true ls) = omega (arith, grows cap (start 0) ls (λ e. refl))
found-text cap (Stretch.block false ls) = zero-le

found-fits : (cap : ℕ) (f : Stretch) → length (found_in cap f).text ≤ cap
unfolding found_in
found-fits cap Stretch.none = zero-le
found-fits cap (Stretch.block true ls) = text_le cap 0 ls
found-fits cap (Stretch.block false ls) = zero-le

module _ (cap : ℕ) (l : List ℕ) (ls : List (List ℕ)) (P : RunTold → Type 0) (none : (a : _) → P (unjoined a)) (found : P (found_in cap (walk_from (indent_columns l) (on_first (indent_columns l)) (l ∷ ls)))) where
  told_by : P (refused_of cap (l ∷ ls))
  unfolding refused_of
  told_by = go (opens l) (begins_pair 123 37 (trim_start l))
    where
      go : (x y : Bool) → P (cond x (cond y (unjoined (comment_from (indent_columns l) 0 false (l ∷ ls))) (found_in cap (walk_from (indent_columns l) (on_first (indent_columns l)) (l ∷ ls)))) (unjoined (Ok (No 0))))
      go false y = none _
      go true true = none _
      go true false = found

pub told_fits : (cap : ℕ) (ls : List (List ℕ)) → length (refused_of cap ls).text ≤ cap
unfolding refused_of
told_fits cap [] = zero-le
told_fits cap (l ∷ ls) = told_by cap l ls (λ r. length r.text ≤ cap) (λ a. zero-le) (found-fits cap (walk_from (indent_columns l) (on_first (indent_columns l)) (l ∷ ls)))

-- the run from l on, where the walk doesn't go beyond `pre`
module _ (cap : ℕ) (l : List ℕ) (pre rest : List (List ℕ)) where
  abbrev Stops : (List Lined → ℕ) → Type 0
  Stops M = (v : On) → v.first ≡ false → M (lines_taken (walk_from (indent_columns l) v rest)) ≤ 0

  ahead_upto : Stops sizes → (refused_of cap (l ∷ (pre ++ rest))).lookahead ≤ sizes (map as_is (l ∷ pre))
  ahead_upto h =
      let z = walk_first sizes no_sizes size_more (indent_columns l) rest h pre l (on_first (indent_columns l)) in
      told_by cap l (pre ++ rest) (λ r. r.lookahead ≤ sizes (map as_is (l ∷ pre))) (λ a. zero-le) (omega (arith, z, found-ahead cap (walk_from (indent_columns l) (on_first (indent_columns l)) (l ∷ (pre ++ rest)))))

  text_upto : Stops costs → length (refused_of cap (l ∷ (pre ++ rest))).text ≤ costs (map as_is (l ∷ pre)) - 1
  text_upto h =
      let z = walk_first costs no_costs cost_more (indent_columns l) rest h pre l (on_first (indent_columns l)) in
      told_by cap l (pre ++ rest) (λ r. length r.text ≤ costs (map as_is (l ∷ pre)) - 1) (λ a. zero-le) (omega (arith, z, found-text cap (walk_from (indent_columns l) (on_first (indent_columns l)) (l ∷ (pre ++ rest)))))

pub told_ahead : (cap : ℕ) (ls : List (List ℕ)) → (refused_of cap ls).lookahead ≤ sizes (map as_is ls)
unfolding refused_of
told_ahead cap [] = zero-le
told_ahead cap (l ∷ ls) = rw (append-nil ls) at (ahead_upto cap l ls [] (ends_last sizes no_sizes size_more (indent_columns l)))

pub told_text : (cap : ℕ) (ls : List (List ℕ)) → length (refused_of cap ls).text ≤ costs (map as_is ls) - 1
unfolding refused_of
told_text cap [] = zero-le
told_text cap (l ∷ ls) = rw (append-nil ls) at (text_upto cap l ls [] (ends_last costs no_costs cost_more (indent_columns l)))

-- a run looks no further than up to the next line that opens with a brace
pub ahead_before : (cap : ℕ) (l : List ℕ) (pre : List (List ℕ)) (m : List ℕ) (tail : List (List ℕ)) → opens m ≡ true → (refused_of cap (l ∷ (pre ++ (m ∷ tail)))).lookahead ≤ sizes (map as_is (l ∷ pre))
ahead_before cap l pre m tail o = ahead_upto cap l pre (m ∷ tail) (ends_at sizes no_sizes size_more (indent_columns l) m tail o)
