-- Trimming by places: what the code finds at both ends of s cuts out `trim s`, and nothing is left exactly where every byte is whitespace.
-- Assumes nothing.
use mathlib.Core.Path.{◌≡◌, refl, sym, ◌∙◌, ap}
use mathlib.Core.Bool.{Bool, true, false, cond}
use mathlib.Core.List.{List, [], ◌∷◌, ◌++◌, reverse}
use Prim.Native.Nat.{ℕ, suc, ◌+◌, ◌-◌, ◌<◌, ◌≤◌, zero-le}
use native.Mathlib.Omega.{arith}
use lib.Dec.{eqb, eqb-suc-zero}
use lib.ListN.{length, get_or, take, drop, length-drop}
use lib.Seq.{take-suc, take-length, take_all, length-take-le, slice}
use Rattle.std.specs.List.{prefix_len}
use Rattle.std.proofs.lemmas.Grind.{reverse_onto}
use Rattle.std.proofs.lemmas.List.{length-append, length-reverse, reverse-reverse}
use Rattle.std.proofs.lemmas.List.Folds.{length-prefix_len}
use Rattle.base_lists.specs.Lists.{all, run}
use Rattle.base_lists.proofs.Scan.{run_le, all_snoc, all-run}
use Rattle.base_bytes.specs.Bytes.{is_space}
use Rattle.text_lines.specs.declared.Range.{Range}
use Rattle.text_lines.specs.Trim.{trim_start, trim_end, trim, is_blank_line, trim_range}
use Rattle.base_lists.proofs.Parts.{slice_part, slice_add}

-- ---- the front

pub trim_start_lem : (s : List ℕ) → trim_start s ≡ drop (run is_space s) s
unfolding trim_start run
trim_start_lem [] = refl
trim_start_lem (b ∷ s) = go (is_space b) refl (trim_start_lem s)
  where
    go : (x : Bool) → is_space b ≡ x → trim_start s ≡ drop (run is_space s) s → trim_start (b ∷ s) ≡ drop (run is_space (b ∷ s)) (b ∷ s)
    go true e ih = rw e ih
    go false e ih = rw e

front : (s : List ℕ) → prefix_len is_space s ≡ run is_space s
unfolding run
front [] = refl
front (b ∷ s) = let z : 1 + run is_space s ≡ suc (run is_space s) = omega arith in rw (front s, z)

pub front_run : (s : List ℕ) → length (take (prefix_len is_space s) s) ≡ run is_space s
front_run s = length-prefix_len is_space s ∙ front s

-- ---- the end

pub trim_end_le : (s : List ℕ) → length (trim_end s) ≤ length s
unfolding trim_end
trim_end_le [] = zero-le
trim_end_le (b ∷ s) = go (all is_space (b ∷ s)) refl (trim_end_le s)
  where
    go : (x : Bool) → all is_space (b ∷ s) ≡ x → length (trim_end s) ≤ length s → length (trim_end (b ∷ s)) ≤ length (b ∷ s)
    go true e ih = rw e zero-le
    go false e ih = rw e (omega arith)

pub trim_end-take : (s : List ℕ) → trim_end s ≡ take (length (trim_end s)) s
unfolding trim_end
trim_end-take [] = refl
trim_end-take (b ∷ s) = go (all is_space (b ∷ s)) refl (trim_end-take s)
  where
    go : (x : Bool) → all is_space (b ∷ s) ≡ x → trim_end s ≡ take (length (trim_end s)) s → trim_end (b ∷ s) ≡ take (length (trim_end (b ∷ s))) (b ∷ s)
    go true e ih = rw e
    go false e ih = rw e (ap (λ (l : List ℕ). b ∷ l) ih)

-- whitespace behind s changes nothing
end_space : (s : List ℕ) (b : ℕ) → is_space b ≡ true → trim_end (s ++ (b ∷ [])) ≡ trim_end s
unfolding trim_end all
end_space [] b e = rw e
end_space (a ∷ s) b e = rw (all_snoc is_space (a ∷ s) b true e, end_space s b e)

-- another byte keeps all before it
end_other : (s : List ℕ) (b : ℕ) → is_space b ≡ false → trim_end (s ++ (b ∷ [])) ≡ s ++ (b ∷ [])
unfolding trim_end all
end_other [] b e = rw e
end_other (a ∷ s) b e = rw (all_snoc is_space (a ∷ s) b false e, end_other s b e)

-- a loop from the end stands behind byte i - 1: the bytes before i trim to what s trims to
pub record Trims (s : List ℕ) (i : ℕ) : Type 0 where
  pub within : i ≤ length s
  pub rest : trim_end (take i s) ≡ trim_end s

pub trims_start : (s : List ℕ) → Trims s (length s)
trims_start s = record { within = omega arith; rest = rw take-length }

pub trims_stop : {s : List ℕ} {i : ℕ} → Trims s i → 0 < i → is_space (get_or s (i - 1) 0) ≡ false → i ≡ length (trim_end s)
trims_stop {s} {i} inv h e =
    let z : i ≡ suc (i - 1) = omega arith in
    let last : take i s ≡ take (i - 1) s ++ (get_or s (i - 1) 0 ∷ []) = ap (λ (n : ℕ). take n s) z ∙ take-suc s (i - 1) 0 (omega (arith, inv.within)) in
    sym (length-take-le i s inv.within) ∙ ap length (last ∙ sym (end_other (take (i - 1) s) _ e) ∙ ap trim_end (sym last) ∙ inv.rest)

-- the whitespace at the end of s, which stands at the front of s reversed, and what is left make up s
back : (s : List ℕ) → run is_space s + length (trim_end (reverse s)) ≡ length s
unfolding run trim_end
back [] = refl
back (b ∷ s) = rw (reverse_onto s b []) (go (is_space b) refl (back s))
  where
    go : (x : Bool) → is_space b ≡ x → run is_space s + length (trim_end (reverse s)) ≡ length s → cond x (suc (run is_space s)) 0 + length (trim_end (reverse s ++ (b ∷ []))) ≡ suc (length s)
    go true e ih = rw (end_space (reverse s) b e) (omega arith)
    go false e ih = rw (end_other (reverse s) b e) (omega (arith, length-append (reverse s) (b ∷ []), length-reverse s))

pub back_run : (s : List ℕ) → length s - length (take (prefix_len is_space (reverse s)) (reverse s)) ≡ length (trim_end s)
back_run s = rw front_run (omega (arith, length-reverse s, rw reverse-reverse at (back (reverse s))))

-- ---- both ends

pub trim_rest : (s : List ℕ) → trim s ≡ trim_end (drop (run is_space s) s)
unfolding trim
trim_rest s = ap trim_end (trim_start_lem s)

trim-within : (s : List ℕ) → run is_space s + length (trim s) ≤ length s
trim-within s = rw trim_rest (omega (arith, trim_end_le (drop (run is_space s) s), length-drop (run is_space s) s, run_le is_space s))

-- what remains stands in s where `trim_range` says
module _ (s : List ℕ) where
  pub trim_slice : slice (trim_range s).from (trim_range s).to s ≡ trim s
  unfolding trim_range
  trim_slice = rw (slice_add, trim_rest) (sym (trim_end-take (drop (run is_space s) s)))

  pub trim_from : (trim_range s).from ≤ (trim_range s).to
  unfolding trim_range
  trim_from = omega arith

  pub trim_to : (trim_range s).to ≤ length s
  unfolding trim_range
  trim_to = trim-within s

-- what `trim_ascii` finds: how many bytes it passes at the front, and how many of the others it leaves
module _ (s : List ℕ) {from left : ℕ} (p : from ≡ run is_space s) (q : left ≡ length (trim_end (take (length s - from) (drop from s)))) where
  kept : left ≡ length (trim s)
  kept = rw (take_all (length s - from) (drop from s) (omega (arith, length-drop from s)), p, ← trim_rest) at q

  pub both_ends : record { from = from; to = from + left } ≡ trim_range s
  unfolding trim_range
  both_ends = rw (p, kept)

  pub both_within : from + left ≤ length s
  both_within = omega (arith, p, kept, trim-within s)

-- the trimmed bytes, as code cuts them out
module _ (s : List ℕ) {r : Range} (e : r ≡ trim_range s) where
  pub core_from : r.from ≤ r.to
  core_from = rw e (trim_from s)

  pub core_to : r.to ≤ length s
  core_to = rw e (trim_to s)

  pub core_is : take (r.to - r.from) (drop r.from s) ≡ trim s
  core_is = rw e (sym (slice_part (trim_range s).from (trim_range s).to s) ∙ trim_slice s)

-- ---- blank lines

pub blank_all : (s : List ℕ) → is_blank_line s ≡ all is_space s
unfolding is_blank_line trim trim_start trim_end all
blank_all [] = refl
blank_all (b ∷ s) = go (is_space b) refl (blank_all s)
  where
    go : (x : Bool) → is_space b ≡ x → is_blank_line s ≡ all is_space s → is_blank_line (b ∷ s) ≡ all is_space (b ∷ s)
    go true e ih = rw e ih
    go false e ih = rw (e, e, eqb-suc-zero (length (trim_end s)))

pub blank_run : (s : List ℕ) {n : ℕ} → n ≡ run is_space s → eqb n (length s) ≡ is_blank_line s
blank_run s e = rw e (all-run is_space s ∙ sym (blank_all s))
