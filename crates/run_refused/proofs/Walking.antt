-- The two loops of the first walk.
-- Assumes nothing.
use mathlib.Core.Path.{◌≡◌, refl, sym, ◌∙◌, ap}
use mathlib.Core.Bool.{Bool, true, false, cond}
use mathlib.Core.List.{List, [], ◌∷◌}
use Prim.Native.Nat.{ℕ, suc, ◌+◌, ◌-◌, ◌*◌, ◌<◌, ◌≤◌}
use native.Mathlib.Numerals.{add-one}
use native.Mathlib.Omega.{arith}
use borrow.Author.Tests.{ne_eqb}
use lib.Dec.{eqb}
use lib.ListN.{length, get_or, take, drop}
use lib.Seq.{slice, slice-cons, slice_empty, length-slice, drop-drop}
use Rattle.base_lists.specs.Lists.{run}
use Rattle.base_lists.proofs.Parts.{slice_part}
use Rattle.base_lists.proofs.Scan.{run_le}
use Rattle.base_bytes.specs.Bytes.{is_space}
use Rattle.base_refusals.specs.Numbers.{max_text}
use Rattle.text_lines.specs.Trim.{trim_start}
use Rattle.text_lines.specs.Lines.{lines, line_from}
use Rattle.text_lines.specs.declared.LineEnd.{LineEnd}
use Rattle.text_lines.proofs.Lines.{lines_end, line_at_lem, to_from, to_next, next_beyond, next_le}
use Rattle.text_tabs.proofs.Laws.{indent_le}
use Rattle.run_joins.specs.Joins.{Lined}
use Rattle.run_spots.specs.declared.Spot.{Spot}
use Rattle.run_refused.specs.declared.RefusedWalk.{RefusedWalk}
use Rattle.run_refused.specs.declared.RefusedWalk.TheVariants.{No, Block}
use Rattle.run_spots.specs.Spots.{is_stray, opens_by, spot_after, shallow_or}
use Rattle.run_refused.specs.Refused.{Stretch, onto_stretch, walk_line, On, halts, padded_line, entered_at, on_after, behind_line, walk_from, on_first}
use Rattle.run_refused.specs.Inner.{walk_at, shown_walk, max_column}
use Rattle.run_spots.proofs.Leaves.{front}
use Rattle.run_refused.proofs.Leaves.{spot_column}

-- ---- the line that begins at `at`

module _ (t : List ℕ) (at : ℕ) (h : at < length t) {r : LineEnd} (e : r ≡ line_from t at) where
  abbrev pub line : List ℕ
  line = take (r.to - at) (drop at t)

  pub line_in : (at ≤ r.to) × ((r.to ≤ r.next) × ((at < r.next) × (r.next ≤ length t)))
  line_in = rw e (to_from t at, (to_next t at, (next_beyond t at h, next_le t at h)))

  pub line_first : lines (drop at t) ≡ line ∷ lines (drop r.next t)
  line_first = rw (e, ← slice_part at (line_from t at).to t, line_at_lem t at h)

  pub line_long : length line ≡ r.to - at
  line_long = rw (← slice_part at r.to t) (length-slice at r.to t (omega (arith, line_in)))

  module _ {i : ℕ} (q : i ≡ at + run is_space line) where
    pub line_rest : slice i r.to t ≡ trim_start line
    line_rest = rw (q, ← drop-drop (run is_space line) at (take r.to t), slice_part at r.to t) (front line refl)

    pub rest_in : (at ≤ i) × (i ≤ r.to)
    rest_in = omega (arith, run_le is_space line, line_long, line_in)

-- ---- what is shown of a walk behind n lines

abbrev count_from : ℕ → Stretch → RefusedWalk
count_from n Stretch.none = No 0
count_from n (Stretch.block s ls) = Block (n + length ls) s

counts : (f : Stretch) → count_from 0 f ≡ shown_walk f
counts Stretch.none = refl
counts (Stretch.block s ls) = ap (λ n. Block n s) (omega arith)

count_onto : (n : ℕ) (l : Lined) (f : Stretch) → count_from n (onto_stretch l f) ≡ count_from (suc n) f
count_onto n l Stretch.none = refl
count_onto n l (Stretch.block s ls) = ap (λ k. Block k s) (omega arith)

pub later : (n : ℕ) → eqb (suc n) 0 ≡ false
later n = ne_eqb (suc n) 0 (λ z. absurd (omega arith))

abbrev pub on : ℕ → Bool → ℕ → On
on n sh br = record { first = eqb n 0; shallow = sh; brace = br }

-- before the line that begins at `at`
pub record Outer (t : List ℕ) (r : RefusedWalk) (opener n at br : ℕ) (sh : Bool) : Type 0 where
  pub few : n ≤ at
  pub low : br ≤ 524280
  pub rest : count_from n (walk_from opener (on n sh br) (lines (drop at t))) ≡ r

-- in line n, which ends at e and has the next one behind it at `next`, before byte i: what comes after the line is K
pub record Inner (t : List ℕ) (r : RefusedWalk) (opener n e next : ℕ) (sh : Bool) (p : Spot) (i : ℕ) : Type 0 where
  pub upto : i ≤ e
  pub within : e ≤ length t
  pub column : p.column + 4 * (e - i) ≤ 524280
  pub low : p.brace ≤ 524280
  pub K : Spot → Stretch
  pub after : (v : Spot) → count_from n (K v) ≡ count_from (suc n) (cond v.inside (walk_from opener (on (suc n) sh v.brace) (lines (drop next t))) (Stretch.block sh []))
  pub rest : count_from n (walk_line p (slice i e t) K) ≡ r

pub start : (t : List ℕ) (at opener : ℕ) → opener ≤ max_column → Outer t (shown_walk (walk_at opener t at)) opener 0 at opener false
unfolding walk_at
start t at opener h = record { few = omega arith; low = omega arith; rest = counts (walk_from opener (on_first opener) (lines (drop at t))) }

module _ {t : List ℕ} {r : RefusedWalk} {opener n at br : ℕ} {sh : Bool} (inv : Outer t r opener n at br sh) where
  pub end : length t ≤ at → No 0 ≡ r
  unfolding walk_from
  end h = rw (lines_end t at h) at inv.rest

  module _ (h : at < length t) {l : LineEnd} (e : l ≡ line_from t at) where
    pub halt : true ≡ halts (eqb n 0) br opener (line t at h e) → No 0 ≡ r
    unfolding walk_from
    halt q = rw (line_first t at h e, ← q) at inv.rest

    module _ (few : length t ≤ max_text) (q : false ≡ halts (eqb n 0) br opener (line t at h e)) {p : Spot} (s : p ≡ entered_at (eqb n 0) br (line t at h e))
        {sh' : Bool} (x : sh' ≡ shallow_or sh (eqb n 0) p.column br) {i : ℕ} (f : i ≡ at + run is_space (line t at h e)) where
      pub into : Inner t r opener n l.to l.next sh' p i
      unfolding walk_from
      into =
          record {
            upto = (rest_in t at h e f).1;
            within = omega (arith, line_in t at h e);
            column = omega (arith, ap (λ z. z.column) s, indent_le (line t at h e), line_long t at h e, line_in t at h e, few);
            low = rw s inv.low;
            K = behind_line (padded_line opener (on n sh br) (line t at h e)) (on_after (on n sh br) (line t at h e)) (λ v. walk_from opener v (lines (drop l.next t)));
            after = λ v. rw (x, s, later n) (count_onto n (padded_line opener (on n sh br) (line t at h e)) (cond v.inside (walk_from opener (on_after (on n sh br) (line t at h e) v.brace) (lines (drop l.next t))) (Stretch.block (on_after (on n sh br) (line t at h e) v.brace).shallow [])));
            rest = rw (line_rest t at h e f, s) (rw (line_first t at h e, ← q) at inv.rest);
          }

module _ {t : List ℕ} {r : RefusedWalk} {opener n e next : ℕ} {sh : Bool} {p : Spot} {i : ℕ} (inv : Inner t r opener n e next sh p i) where
  module _ (h : i < e) where
    pub stray : true ≡ is_stray p (get_or t i 0) → No 0 ≡ r
    unfolding walk_line
    stray q = rw (slice-cons i e t 0 h inv.within, ← q) at inv.rest

    spot_low : (v : Spot) (x : Bool) → v.brace ≡ cond x p.column p.brace → length t ≤ max_text → v.brace ≤ 524280
    spot_low v true q k = omega (arith, q, inv.column, inv.within)
    spot_low v false q k = omega (arith, q, inv.low)

    pub go : length t ≤ max_text → false ≡ is_stray p (get_or t i 0) → {v : Spot} → v ≡ spot_after p (get_or t i 0) → Inner t r opener n e next sh v (i + 1)
    unfolding walk_line spot_after
    go k q {v} s =
        record {
          upto = omega arith;
          within = inv.within;
          column = omega (arith, ap (λ z. z.column) s, spot_column p (get_or t i 0), inv.column);
          low = spot_low v (opens_by p (get_or t i 0)) (ap (λ z. z.brace) s) k;
          K = inv.K;
          after = inv.after;
          rest = rw (s, add-one) (rw (slice-cons i e t 0 h inv.within, ← q) at inv.rest);
        }

  module _ (h : e ≤ i) where
    done : count_from (suc n) (cond p.inside (walk_from opener (on (suc n) sh p.brace) (lines (drop next t))) (Stretch.block sh [])) ≡ r
    unfolding walk_line
    done = let z : i ≡ e = omega (arith, inv.upto) in sym (inv.after p) ∙ (rw (z, slice_empty e t) at inv.rest)

    pub closed : p.inside ≡ false → Block (n + 1) sh ≡ r
    closed q = ap (λ k. Block k sh) (omega arith) ∙ (rw q at done)

    pub onward : {at : ℕ} → n ≤ at → at < next → p.inside ≡ true → Outer t r opener (n + 1) next p.brace sh
    onward k l q = record { few = omega arith; low = inv.low; rest = rw (add-one n) (rw q at done) }
