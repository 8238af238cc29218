-- The joined text of UTF-8 lines is UTF-8 and holds no LF; and where the line of a number begins.
-- Assumes nothing.
use Rattle.std.specs.Prelude.{None, Option, Some}
use mathlib.Core.Path.{◌≡◌, refl, sym, ◌∙◌, ap}
use mathlib.Core.Bool.{Bool, true, false, cond, not}
use mathlib.Core.List.{List, [], ◌∷◌, ◌++◌, map}
use Prim.Native.Nat.{ℕ, zero, suc, ◌+◌, ◌-◌, ◌<◌, ◌≤◌}
use native.Mathlib.Numerals.{add-one}
use native.Mathlib.Omega.{arith}
use borrow.Author.Tests.{eqb-true, leb-true, leb-false, ltb-true, ltb-false, ne_eqb}
use lib.Dec.{eqb, leb, eqb-suc-zero, ltb}
use lib.ListN.{length, get_or, take, drop, length-drop, drop_of_length-le}
use lib.Seq.{drop-drop, take_all, drop-cons}
use Rattle.base_lists.specs.Lists.{all, run, is_in}
use Rattle.base_lists.proofs.Scan.{both, all_append, all_drop, all_take}
use Rattle.base_lists.proofs.More.{among, contra}
use Rattle.base_lists.proofs.Parts.{drop_min}
use Rattle.base_bytes.specs.Bytes.{is_space}
use Rattle.text_utf8.specs.Computed.{is_utf8, octets_from}
use Rattle.text_utf8.proofs.Laws.{past_ascii}
use Rattle.proved_texts.proofs.Utf8Grammar.{utf8_append}
use Rattle.proved_texts.proofs.Utf8Boundaries.{parts, before_ascii, after_ascii}
use Rattle.text_lines.specs.Trim.{trim, trim_start, trim_end}
use Rattle.text_lines.specs.Lines.{onto, is_dropped, lines, eol, first_of, line_from, ranges_from, ranges, pick, line_of}
use Rattle.text_lines.specs.declared.Range.{Range}
use Rattle.text_lines.proofs.Lines.{ranges_end, ranges_at, line_found, lines_end}
use Rattle.text_lines.proofs.Trim.{trim_start_lem, trim_end-take}
use Rattle.text_lines.proofs.First.{rest_of, first_le, first_take, first_whole, first_cut}
use Rattle.run_lines.specs.Runs.{as_is, start, Run, run_from, run_at, past_lines}
use Rattle.run_joins.specs.Joins.{Lined, So, is_first, added}
use Rattle.run_lines.proofs.Bounds.{run_by_lem}
use Rattle.block_payloads.specs.Payloads.{opens}
use Rattle.proved_runs.specs.JoinedTexts.{JoinedUtf8, LineUtf8, OpenUtf8, JoinedNoLf}

-- ---- what trimming and joining keep, the joined text has where the lines have it

unfoldable Each : (List ℕ → Type 0) → List Lined → Type 0
Each Q [] = ◌≡◌ {A = ℕ} 0 0
Each Q (l ∷ ls) = Q l.line × Each Q ls

module _ (cap : ℕ) (Q : List ℕ → Type 0) (joins : (t l : List ℕ) (first : Bool) → Q t → Q l → Q (t ++ added first l)) where
  abbrev Keeps : So → List Lined → Run → Type 0
  Keeps so ls R = Q so.text → Each Q ls → Q R.text

  keeps : (so : So) (ls : List Lined) → Keeps so ls (run_from cap so ls)
  unfolding Each
  keeps =
      run_by_lem cap Keeps (λ so ls t e. t) (λ so l ls f t e. t) (λ so ls t e. t)
      (λ so l ls R p f ih t e. ih (joins so.text l.line (is_first so) t e.0) e.1)

-- ---- no LF

abbrev NoLf : List ℕ → Type 0
NoLf s = all (λ b. not (eqb b 10)) s ≡ true

all-trim : (f : ℕ → Bool) (s : List ℕ) → all f s ≡ true → all f (trim s) ≡ true
unfolding trim
all-trim f s e = rw (trim_end-take (trim_start s)) (all_take f (length (trim_end (trim_start s))) (trim_start s) (rw (trim_start_lem s) (all_drop f (run is_space s) s e)))

no_lf_join : (t l : List ℕ) (first : Bool) → NoLf t → NoLf l → NoLf (t ++ added first l)
unfolding all
no_lf_join t l true p q = all_append (λ b. not (eqb b 10)) t (trim l) p (all-trim (λ b. not (eqb b 10)) l q)
no_lf_join t l false p q = all_append (λ b. not (eqb b 10)) t (32 ∷ trim l) p (all-trim (λ b. not (eqb b 10)) l q)

no_lf-lines : (s : List ℕ) → Each NoLf (map as_is (lines s))
unfolding Each lines all
no_lf-lines [] = refl
no_lf-lines (b ∷ s) = go (eqb b 10) refl (is_dropped b s) (lines s) (no_lf-lines s)
  where
    go : (x : Bool) → eqb b 10 ≡ x → (y : Bool) (ls : List (List ℕ)) → Each NoLf (map as_is ls) → Each NoLf (map as_is (cond x ([] ∷ ls) (cond y ls (onto b ls))))
    go true e y ls h = (refl, h)
    go false e true ls h = h
    go false e false [] h = (rw e, h)
    go false e false (l ∷ ls) h = (rw e h.0, h.1)

pub text-no_lf : JoinedNoLf
unfolding run_at all
text-no_lf cap base t at = keeps cap NoLf no_lf_join (start base) (map as_is (lines (drop at t))) refl (no_lf-lines (drop at t))

-- ---- UTF-8: a text is parted before and behind an ASCII byte

abbrev Well : List ℕ → Type 0
Well s = is_utf8 s ≡ true

none_well : Well []
unfolding is_utf8 octets_from
none_well = refl

lines_none : lines [] ≡ []
unfolding lines
lines_none = refl

module _ (s : List ℕ) (i : ℕ) (h : i < length s) (low : get_or s i 0 ≤ 0x7F) (e : Well s) where
  before_well : Well (take i s)
  before_well = (parts s i e (before_ascii s i h low)).0

  behind_well : Well (drop (suc i) s)
  behind_well = rw (← add-one i) (parts s (i + 1) e (after_ascii s i h low e)).1

space_low : (b : ℕ) → is_space b ≡ true → b ≤ 0x7F
unfolding is_space all
space_low b e = leb-true b 0x7F (among (λ x. leb x 0x7F) _ b refl e)

start_well : (s : List ℕ) → Well s → Well (trim_start s)
unfolding trim_start is_utf8
start_well [] e = e
start_well (b ∷ s) e = go (is_space b) refl (start_well s)
  where
    go : (x : Bool) → is_space b ≡ x → (Well s → Well (trim_start s)) → Well (cond x (trim_start s) (b ∷ s))
    go true p ih = ih (sym (past_ascii b s (space_low b p)) ∙ e)
    go false p ih = e

-- the byte behind what remains is whitespace
end_space : (s : List ℕ) → length (trim_end s) < length s → is_space (get_or s (length (trim_end s)) 0) ≡ true
unfolding trim_end all
end_space [] h = absurd (omega arith)
end_space (b ∷ s) h = go (all is_space (b ∷ s)) refl h (end_space s)
  where
    go : (x : Bool) → all is_space (b ∷ s) ≡ x → length (cond x [] (b ∷ trim_end s)) < suc (length s)
        → (length (trim_end s) < length s → is_space (get_or s (length (trim_end s)) 0) ≡ true) → is_space (get_or (b ∷ s) (length (cond x [] (b ∷ trim_end s))) 0) ≡ true
    go true p h ih = (both (is_space b) (all is_space s) p).0
    go false p h ih = ih (omega arith)

end_well : (s : List ℕ) → Well s → Well (trim_end s)
end_well s e = rw (trim_end-take s) (go (leb (length s) (length (trim_end s))) refl)
  where
    go : (x : Bool) → leb (length s) (length (trim_end s)) ≡ x → Well (take (length (trim_end s)) s)
    go true p = rw (take_all (length (trim_end s)) s (leb-true (length s) (length (trim_end s)) p)) e
    go false p = let h = leb-false (length s) (length (trim_end s)) p in before_well s (length (trim_end s)) h (space_low _ (end_space s h)) e

trim_well : (s : List ℕ) → is_utf8 s ≡ true → is_utf8 (trim s) ≡ true
unfolding trim
trim_well s e = end_well (trim_start s) (start_well s e)

well_join : (t l : List ℕ) (first : Bool) → Well t → Well l → Well (t ++ added first l)
unfolding is_utf8
well_join t l true p q = utf8_append t (trim l) p ∙ trim_well l q
well_join t l false p q = utf8_append t (32 ∷ trim l) p ∙ past_ascii 32 (trim l) (omega arith) ∙ trim_well l q

-- ---- the lines of a UTF-8 text

eol-lf : (s : List ℕ) → eol s < length s → get_or s (eol s) 0 ≡ 10
unfolding eol
eol-lf [] h = absurd (omega arith)
eol-lf (b ∷ s) h = go (eqb b 10) refl h (eol-lf s)
  where
    go : (x : Bool) → eqb b 10 ≡ x → cond x 0 (suc (eol s)) < suc (length s) → (eol s < length s → get_or s (eol s) 0 ≡ 10) → get_or (b ∷ s) (cond x 0 (suc (eol s))) 0 ≡ 10
    go true p h ih = eqb-true b 10 p
    go false p h ih = ih (omega arith)

first_well : (s : List ℕ) → is_utf8 s ≡ true → is_utf8 (first_of (lines s)) ≡ true
first_well s e = go (leb (length s) (eol s)) refl
  where
    cut : (x : Bool) → eqb (get_or s (eol s - 1) 0) 13 ≡ x → 0 < eol s → eol s < length s → length (first_of (lines s)) ≡ cond x (eol s - 1) (eol s) → Well (take (length (first_of (lines s))) s)
    cut true p k h q = rw q (before_well s (eol s - 1) (omega arith) (rw (eqb-true (get_or s (eol s - 1) 0) 13 p) (omega arith)) e)
    cut false p k h q = rw q (before_well s (eol s) h (rw (eol-lf s h) (omega arith)) e)

    some : (x : Bool) → leb (eol s) 0 ≡ x → eol s < length s → Well (take (length (first_of (lines s))) s)
    some true p h = let z : length (first_of (lines s)) ≡ 0 = omega (arith, first_le s, leb-true (eol s) 0 p) in rw z (none_well)
    some false p h = let k = leb-false (eol s) 0 p in cut (eqb (get_or s (eol s - 1) 0) 13) refl k h (first_cut s k h)

    go : (x : Bool) → leb (length s) (eol s) ≡ x → Well (first_of (lines s))
    go true p = rw (first_whole s (leb-true (length s) (eol s) p)) e
    go false p = rw (first_take s) (some (leb (eol s) 0) refl (leb-false (length s) (eol s) p))

rest_well : (s : List ℕ) → Well s → Well (drop (suc (eol s)) s)
rest_well s e = go (leb (length s) (eol s)) refl
  where
    go : (x : Bool) → leb (length s) (eol s) ≡ x → Well (drop (suc (eol s)) s)
    go true p = let h = leb-true (length s) (eol s) p in (let z : length s ≤ suc (eol s) = omega arith in rw (drop_of_length-le s z) none_well)
    go false p = let h = leb-false (length s) (eol s) p in behind_well s (eol s) h (rw (eol-lf s h) (omega arith)) e

-- n: more than the text's length
lines_well : (n : ℕ) (s : List ℕ) → length s < n → Well s → Each Well (map as_is (lines s))
unfolding Each
lines_well zero s h e = absurd (omega arith)
lines_well (suc n) [] h e = rw lines_none refl
lines_well (suc n) (b ∷ s) h e =
    rw (rest_of (b ∷ s) (omega arith), drop_min (suc (eol (b ∷ s))) (b ∷ s))
    (first_well (b ∷ s) e, lines_well n (drop (suc (eol (b ∷ s))) (b ∷ s)) (omega (arith, length-drop (suc (eol (b ∷ s))) (b ∷ s))) (rest_well (b ∷ s) e))

pub text_well : JoinedUtf8
unfolding run_at
text_well cap base t at e = keeps cap Well well_join (start base) (map as_is (lines (drop at t))) none_well (lines_well (suc (length (drop at t))) (drop at t) (omega arith) e)

-- where a line of a UTF-8 text begins, the rest is UTF-8
next_well : (t : List ℕ) (at : ℕ) → is_utf8 (drop at t) ≡ true → is_utf8 (drop (line_from t at).next t) ≡ true
unfolding line_from
next_well t at e = rw (← drop-drop, drop_min (suc (eol (drop at t))) (drop at t)) (rest_well (drop at t) e)

pub past_well : (n : ℕ) (t : List ℕ) (at : ℕ) → is_utf8 (drop at t) ≡ true → is_utf8 (drop (past_lines n t at) t) ≡ true
unfolding past_lines
past_well zero t at e = e
past_well (suc n) t at e = past_well n t (line_from t at).next (next_well t at e)

-- ---- a line by its number

abbrev start_of : Option Range → ℕ
start_of None = 0
start_of (Some r) = r.from

some_left : (n : ℕ) (t : List ℕ) (at : ℕ) (r : Range) → pick (suc n) (ranges_from at false at (drop at t)) ≡ Some r → at < length t
unfolding pick
some_left n t at r q = go (leb (length t) at) refl
  where
    go : (x : Bool) → leb (length t) at ≡ x → at < length t
    go true e =
        let m : None ≡ Some r = rw (ranges_end t at (leb-true (length t) at e)) at q in
        let z : ◌≡◌ {A = ℕ} 0 1 = cc in
        absurd (omega arith)
    go false e = leb-false (length t) at e

line_behind : (n : ℕ) (t : List ℕ) (at : ℕ) (r : Range) → pick (suc n) (ranges_from at false at (drop at t)) ≡ Some r → r.from ≡ past_lines n t at
unfolding pick past_lines
line_behind zero t at r q = ap start_of (sym (rw (ranges_at t at (some_left 0 t at r q)) at q))
line_behind (suc n) t at r q = line_behind n t (line_from t at).next r (rw (ranges_at t at (some_left (suc n) t at r q), eqb-suc-zero n) at q)

-- line n begins behind n - 1 lines
pub line_start : (n : ℕ) (t : List ℕ) (r : Range) → line_of n t ≡ Some r → r.from ≡ past_lines (n - 1) t 0
unfolding line_of ranges
line_start n t r q =
    let m : suc (n - 1) ≡ n = omega (arith, (line_found n t r q).some) in
    line_behind (n - 1) t 0 r (rw m q)

pub line_well : LineUtf8
line_well n t r e q = rw (line_start n t r q) (past_well (n - 1) t 0 e)

-- ---- a line by its first byte

-- a line that opens with a brace begins with an ASCII byte, so what stands from there on is UTF-8 where the text is
not_space : (b : ℕ) → 128 ≤ b → is_space b ≡ false
unfolding is_space is_in
not_space b l = rw (ne_eqb b 32 (λ e. omega arith), ne_eqb b 9 (λ e. omega arith), ne_eqb b 10 (λ e. omega arith), ne_eqb b 12 (λ e. omega arith), ne_eqb b 13 (λ e. omega arith))

front_low : (b : ℕ) (s : List ℕ) → opens (first_of (lines (b ∷ s))) ≡ true → b ≤ 0x7F
unfolding lines trim_start
front_low b s o = go (leb b 0x7F) refl
  where
    high : 128 ≤ b → (ls : List (List ℕ)) → opens (first_of (cond (eqb b 10) ([] ∷ ls) (cond (is_dropped b s) ls (onto b ls)))) ≡ false
    high l [] = rw (ne_eqb b 10 (λ e. omega arith), ne_eqb b 13 (λ e. omega arith), not_space b l, ne_eqb b 123 (λ e. omega arith))
    high l (m ∷ ms) = rw (ne_eqb b 10 (λ e. omega arith), ne_eqb b 13 (λ e. omega arith), not_space b l, ne_eqb b 123 (λ e. omega arith))

    go : (x : Bool) → leb b 0x7F ≡ x → b ≤ 0x7F
    go true p = leb-true b 0x7F p
    go false p = contra (opens (first_of (lines (b ∷ s)))) o (high (omega (arith, leb-false b 0x7F p)) (lines s))

pub opens_well : OpenUtf8
unfolding trim_start
opens_well t at u o = go (ltb at (length t)) refl
  where
    go : (x : Bool) → ltb at (length t) ≡ x → is_utf8 (drop at t) ≡ true
    go true x = let k = ltb-true at (length t) x in (parts t at u (before_ascii t at k (front_low (get_or t at 0) _ (rw (drop-cons t at 0 k) at o)))).1
    go false x = contra false (rw (lines_end t at (ltb-false at (length t) x)) at o) refl
