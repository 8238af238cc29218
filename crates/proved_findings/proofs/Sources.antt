-- Where a byte of the joined text is told.
-- Assumes nothing.
use mathlib.Core.Path.{◌≡◌, refl, sym, ◌∙◌, ap}
use mathlib.Core.Bool.{Bool, true, false, cond}
use mathlib.Core.List.{List, [], ◌∷◌, ◌++◌}
use Prim.Native.Nat.{ℕ, zero, suc, ◌+◌, ◌-◌, ◌<◌, ◌≤◌, zero-le}
use native.Mathlib.Nat.{add-zero, zero-add, add-suc}
use native.Mathlib.Omega.{arith}
use borrow.Author.Tests.{ltb-true, ltb-false, leb-true, leb-false}
use lib.Dec.{leb, ltb}
use lib.ListN.{length, take, drop, get_or, length-append, length-take, get_or-append}
use lib.Seq.{slice, get_or-take, get_or-drop, get_or-append-add, get_or-append_seam}
use Rattle.base_lists.proofs.Parts.{slice_part}
use Rattle.base_bytes.specs.Bytes.{space}
use Rattle.text_lines.specs.Lines.{lines, line_from, line_at}
use Rattle.text_lines.specs.Trim.{trim, trim_range}
use Rattle.text_lines.proofs.Lines.{lines_end, line_at_lem}
use Rattle.text_lines.proofs.Trim.{trim_slice, trim_to}
use Rattle.block_trimmed_line.specs.Fronts.{front_of}
use Rattle.block_trimmed_line.proofs.Trimmed.{line_is}
use Rattle.run_lines.specs.Runs.{run_at, past_lines}
use Rattle.run_stops.specs.declared.Source.{Source}
use Rattle.run_stops.specs.Stops.{source_from, source_of}
use Rattle.proved_runs.specs.Lookaheads.{each_spaced, one_spaced}
use Rattle.proved_runs.proofs.Joined.{run_joins}
use Rattle.proved_findings.specs.Sources.{taken, line_behind, Sourced, TrueSources, OnlySource}

part_byte : (a e : ℕ) (s : List ℕ) (k : ℕ) → k < e - a → get_or (slice a e s) k 0 ≡ get_or s (a + k) 0
part_byte a e s k h = rw (slice_part a e s) (get_or-take (e - a) (drop a s) k 0 h ∙ get_or-drop a s k 0)

part_short : (a e : ℕ) (s : List ℕ) → length (slice a e s) ≤ e - a
part_short a e s = rw (slice_part a e s) (omega (arith, length-take (e - a) (drop a s)))

each_one : (ls : List (List ℕ)) → 0 < length (each_spaced ls) → each_spaced ls ≡ space ∷ one_spaced ls
unfolding each_spaced one_spaced
each_one [] h = absurd (omega (arith, h))
each_one (l ∷ ls) h = refl

module _ (t : List ℕ) where
  abbrev joined_of : ℕ → ℕ → List ℕ
  joined_of n at = one_spaced (take n (lines (drop at t)))

  -- ---- a line

  front_end : (at : ℕ) → (front_of t at).to ≡ (front_of t at).from + length (trim (line_at t at))
  unfolding front_of trim_range
  front_end at = omega arith

  line_byte : (at j : ℕ) → j < length (line_at t at) → get_or (line_at t at) j 0 ≡ get_or t (at + j) 0
  line_byte at j = rw (line_is t at) (λ h. part_byte at (line_from t at).to t j (omega (arith, h, part_short at (line_from t at).to t)))

  core_size : (s : List ℕ) (k : ℕ) → k < length (trim s) → k < (trim_range s).to - (trim_range s).from
  unfolding trim_range
  core_size s k h = omega (arith, h)

  core_byte : (s : List ℕ) (k : ℕ) → k < length (trim s) → get_or (trim s) k 0 ≡ get_or s ((trim_range s).from + k) 0
  core_byte s k h = ap (λ w. get_or w k 0) (sym (trim_slice s)) ∙ part_byte (trim_range s).from (trim_range s).to s k (core_size s k h)

  core_in : (s : List ℕ) (k : ℕ) → k < length (trim s) → (trim_range s).from + k < length s
  unfolding trim_range
  core_in s k h = omega (arith, h, trim_to s)

  front_byte : (at k : ℕ) → k < length (trim (line_at t at)) → get_or t ((front_of t at).from + k) 0 ≡ get_or (trim (line_at t at)) k 0
  unfolding front_of
  front_byte at k h =
      let z : at + (trim_range (line_at t at)).from + k ≡ at + ((trim_range (line_at t at)).from + k) = omega arith in
      rw z (sym (core_byte (line_at t at) k h ∙ line_byte at ((trim_range (line_at t at)).from + k) (core_in (line_at t at) k h)))

  joined_on : (n at : ℕ) → at < length t → joined_of (suc n) at ≡ trim (line_at t at) ++ each_spaced (take n (lines (drop (front_of t at).next t)))
  unfolding one_spaced front_of
  joined_on n at h = rw (line_at_lem t at h, ← line_is t at) refl

  -- ---- so many lines

  -- the first of them counted by itself
  first_taken : (at r : ℕ) → taken t at (suc r) ≡ suc (length (trim (line_at t at))) + taken t (front_of t at).next r
  unfolding taken past_lines front_of
  first_taken at zero = omega arith
  first_taken at (suc r) = omega (arith, first_taken at r)

  record Goes (n row at k : ℕ) (s : Source) : Type 0 where
    r : ℕ
    counted : s.row ≡ row + r
    lies : Sourced t (joined_of n at) at k r s.place

  module _ (n row at k : ℕ) (b : at < length t) (h : k < length (joined_of (suc n) at)) where
    abbrev more : List (List ℕ)
    more = take n (lines (drop (front_of t at).next t))

    bytes : length (joined_of (suc n) at) ≡ length (trim (line_at t at)) + length (each_spaced more)
    bytes = rw (joined_on n at b) (length-append (trim (line_at t at)) (each_spaced more))

    in_line : k < length (trim (line_at t at)) → Goes (suc n) row at k (record { row = row; place = (front_of t at).from + k })
    unfolding past_lines taken
    in_line l =
        record {
          r = 0;
          counted = sym (add-zero row);
          lies =
              record {
                above = zero-le;
                place = omega arith;
                within = omega (arith, front_end at, l);
                byte = λ _. front_byte at k l ∙ sym (get_or-append (trim (line_at t at)) (each_spaced more) 0 k l) ∙ ap (λ s. get_or s k 0) (sym (joined_on n at b));
                joint = λ e. absurd (omega (arith, e, front_end at, l));
              };
        }

    at_joint : k ≡ length (trim (line_at t at)) → Goes (suc n) row at k (record { row = row; place = (front_of t at).from + k })
    unfolding past_lines taken
    at_joint l =
        record {
          r = 0;
          counted = sym (add-zero row);
          lies =
              record {
                above = zero-le;
                place = omega arith;
                within = omega (arith, front_end at, l);
                byte = λ e. absurd (omega (arith, e, front_end at, l));
                joint = λ _. rw (joined_on n at b, each_one more (omega (arith, h, bytes, l)), l) (get_or-append_seam (trim (line_at t at)) space (one_spaced more) 0);
              };
        }

    below : length (trim (line_at t at)) < k → k - suc (length (trim (line_at t at))) < length (joined_of n (front_of t at).next)
    below l =
        let e = each_one more (omega (arith, h, bytes, l)) in
        let c : length (each_spaced more) ≡ suc (length (one_spaced more)) = ap length e in
        omega (arith, h, bytes, l, c)

    on : (s : Source) → length (trim (line_at t at)) < k → Goes n (suc row) (front_of t at).next (k - suc (length (trim (line_at t at)))) s → Goes (suc n) row at k s
    unfolding past_lines front_of
    on s l g =
        record {
          r = suc g.r;
          counted = omega (arith, g.counted);
          lies =
              record {
                above = omega (arith, first_taken at g.r, g.lies.above, l);
                place = omega (arith, first_taken at g.r, g.lies.place, g.lies.above, l);
                within = g.lies.within;
                byte = λ e. g.lies.byte e ∙ same;
                joint = λ e. sym same ∙ g.lies.joint e;
              };
        }
      where
        same : get_or (joined_of n (front_of t at).next) (k - suc (length (trim (line_at t at)))) 0 ≡ get_or (joined_of (suc n) at) k 0
        same =
            let e = each_one more (omega (arith, h, bytes, l)) in
            let i : k ≡ length (trim (line_at t at)) + suc (k - suc (length (trim (line_at t at)))) = omega (arith, l) in
            sym (ap (λ j. get_or (joined_of (suc n) at) j 0) i ∙ rw (joined_on n at b, e) (get_or-append-add (trim (line_at t at)) (space ∷ one_spaced more) (suc (k - suc (length (trim (line_at t at))))) 0))

  -- the lines behind the one at `at`
  abbrev Rest : ℕ → ℕ → ℕ → ℕ → Type 0
  Rest n row at k =
      k - suc (length (trim (line_at t at))) < length (joined_of n (front_of t at).next)
      → Goes n (suc row) (front_of t at).next (k - suc (length (trim (line_at t at)))) (source_from t n (suc row) (front_of t at).next (k - suc (length (trim (line_at t at)))))

  goes : (n row at k : ℕ) → k < length (joined_of n at) → Goes n row at k (source_from t n row at k)
  unfolding source_from one_spaced
  goes zero row at k h = absurd (omega (arith, h))
  goes (suc n) row at k h = go (ltb at (length t)) refl (goes n (suc row) (front_of t at).next (k - suc (length (trim (line_at t at)))))
    where
      size : (front_of t at).to - (front_of t at).from ≡ length (trim (line_at t at))
      size = omega (arith, front_end at)

      by : at < length t → Rest n row at k → (x : Bool) → leb k (length (trim (line_at t at))) ≡ x → (y : Bool) → ltb k (length (trim (line_at t at))) ≡ y
          → Goes (suc n) row at k (cond x (record { row = row; place = (front_of t at).from + k }) (source_from t n (suc row) (front_of t at).next (k - suc (length (trim (line_at t at))))))
      by b ih true p true q = in_line n row at k b h (ltb-true k (length (trim (line_at t at))) q)
      by b ih true p false q = at_joint n row at k b h (omega (arith, leb-true k (length (trim (line_at t at))) p, ltb-false k (length (trim (line_at t at))) q))
      by b ih false p y q =
          let l = leb-false k (length (trim (line_at t at))) p in
          on n row at k b h (source_from t n (suc row) (front_of t at).next (k - suc (length (trim (line_at t at))))) l (ih (below n row at k b h l))

      go : (x : Bool) → ltb at (length t) ≡ x → Rest n row at k → Goes (suc n) row at k (source_from t (suc n) row at k)
      go true e ih = rw size (by (ltb-true at (length t) e) ih (leb k (length (trim (line_at t at)))) refl (ltb k (length (trim (line_at t at)))) refl)
      go false e ih = absurd (omega (arith, rw (lines_end t at (ltb-false at (length t) e)) at h))

pub true_sources : TrueSources
unfolding source_of
true_sources t cap at k h =
    let j = run_joins cap 0 t at in
    let g = goes t (run_at cap 0 t at).lines 0 at k (rw j.spaced at h) in
    rw (j.spaced, g.counted, zero-add) g.lies

-- ---- one line and place alone

module _ (t joined : List ℕ) (at k : ℕ) where
  more_taken : (r d : ℕ) → taken t at r ≤ taken t at (r + d)
  unfolding taken
  more_taken r zero = rw (add-zero r) (omega arith)
  more_taken r (suc d) = rw (add-suc r d) (omega (arith, more_taken r d))

  not_above : {r s p q : ℕ} → Sourced t joined at k r p → Sourced t joined at k s q → r < s → {A : Type 0} → A
  unfolding taken
  not_above {r} {s} a b h =
      let z : suc r + (s - suc r) ≡ s = omega (arith, h) in
      absurd (omega (arith, rw z at (more_taken (suc r) (s - suc r)), front_end t (past_lines r t at), a.place, a.within, a.above, b.above))

pub only_source : OnlySource
only_source t joined at k r p s q a b = go (ltb r s) refl (ltb s r) refl
  where
    same : r ≡ s → (r ≡ s) × (p ≡ q)
    same e = (e, a.place ∙ ap (λ i. (line_behind t at i).from + (k - taken t at i)) e ∙ sym b.place)

    go : (x : Bool) → ltb r s ≡ x → (y : Bool) → ltb s r ≡ y → (r ≡ s) × (p ≡ q)
    go true e y f = not_above t joined at k a b (ltb-true r s e)
    go false e true f = not_above t joined at k b a (ltb-true s r f)
    go false e false f = same (omega (arith, ltb-false r s e, ltb-false s r f))
