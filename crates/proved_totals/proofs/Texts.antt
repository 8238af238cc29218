-- What is read is exactly what is written.
-- Assumes nothing.
use Rattle.std.specs.Prelude.{None, Option, Some}
use mathlib.Core.Path.{◌≡◌, refl, sym, ◌∙◌, ap}
use mathlib.Core.Bool.{Bool, true, false, cond}
use mathlib.Core.List.{List, [], ◌∷◌, ◌++◌, append_assoc, append-nil}
use Prim.Native.Nat.{ℕ, zero, suc, ◌+◌, ◌*◌, ◌/◌, ◌%◌, ◌≤◌}
use native.Mathlib.Nat.{div-add-mod}
use native.Mathlib.Omega.{arith}
use borrow.Author.Tests.{ltb-true, ltb-false, le-ltb, eqb-true, eqb-false, eq-eqb, ne_eqb}
use lib.Dec.{eqb, ltb}
use lib.ListN.{length, length-append}
use Rattle.base_lists.proofs.More.{contra}
use Rattle.base_bytes.specs.Bytes.{tab, lf}
use Rattle.text_digits.specs.Decimal.{decimal}
use Rattle.text_digits.specs.Digits.{number_in}
use Rattle.text_digits.proofs.Decimals.{decimal_le}
use Rattle.proved_valves.specs.Numbers.{IsNumber}
use Rattle.text_numbers.proofs.Numbers.{decimal-one, decimal_more}
use Rattle.proved_valves.proofs.Numbers.{read_is, is_read}
use Rattle.sheet_totals.specs.Totals.{total_places, max_total, overflows}
use Rattle.sheet_totals.proofs.Sums.{split_or}
use Rattle.sheet_numbers.specs.Text.{IsTotalsText}
use Rattle.sheet_numbers.specs.Computed.{names_row, LfSplit, onto_line, at_lf, Numbers, number_before, on_number, on_part, numbers_along, numbers_read}
use Rattle.sheet_numbers.specs.Inner.{number_end}
use Rattle.sheet_numbers.proofs.Along.{at_tab, filled, tabs_in, row_filled, row_long, row_tabs}
use Rattle.proved_totals.specs.Texts.{TextReadExactly, TextFits}

-- ---- what is written is read

digit_part : (d : ℕ) (s : List ℕ) → at_lf ((48 + d) ∷ s) ≡ onto_line (48 + d) (at_lf s)
unfolding at_lf
digit_part d s = rw (ne_eqb (48 + d) 10 (λ e. omega arith))

-- bytes in front of what stands before the LF
abbrev ahead : List ℕ → LfSplit → LfSplit
ahead f LfSplit.whole = LfSplit.whole
ahead f (LfSplit.parted g s) = LfSplit.parted (f ++ g) s

ahead-onto : (f : List ℕ) (b : ℕ) (c : LfSplit) → ahead f (onto_line b c) ≡ ahead (f ++ (b ∷ [])) c
ahead-onto f b LfSplit.whole = refl
ahead-onto f b (LfSplit.parted g s) = ap (λ (l : List ℕ). LfSplit.parted l s) (sym (append_assoc f (b ∷ []) g))

ahead-one : (b : ℕ) (c : LfSplit) → onto_line b c ≡ ahead (b ∷ []) c
ahead-one b LfSplit.whole = refl
ahead-one b (LfSplit.parted g s) = refl

decimal-part : (left n : ℕ) (s : List ℕ) → n ≤ left → at_lf (decimal n ++ s) ≡ ahead (decimal n) (at_lf s)
decimal-part zero n s h = rw (decimal-one n (omega arith)) (digit_part n s ∙ ahead-one (48 + n) (at_lf s))
decimal-part (suc left) n s h = go (ltb n 10) refl (decimal-part left (n / 10))
  where
    go : (x : Bool) → ltb n 10 ≡ x → ((s : List ℕ) → n / 10 ≤ left → at_lf (decimal (n / 10) ++ s) ≡ ahead (decimal (n / 10)) (at_lf s))
        → at_lf (decimal n ++ s) ≡ ahead (decimal n) (at_lf s)
    go true q ih = rw (decimal-one n (ltb-true n 10 q)) (digit_part n s ∙ ahead-one (48 + n) (at_lf s))
    go false q ih =
        let f : 10 ≤ n = ltb-false n 10 q in
        let d : ℕ = n % 10 in
        rw (decimal_more n f, append_assoc)
        (ih ((48 + d) ∷ s) (omega (arith, div-add-mod n 10))
        ∙ (ap (ahead (decimal (n / 10))) (digit_part d s) ∙ ahead-onto (decimal (n / 10)) (48 + d) (at_lf s)))

lf-part : (s : List ℕ) → at_lf (lf ∷ s) ≡ LfSplit.parted [] s
unfolding at_lf
lf-part s = refl

number_part : (n : ℕ) (s : List ℕ) → at_lf (decimal n ++ (lf ∷ s)) ≡ LfSplit.parted (decimal n) s
number_part n s = decimal-part n n (lf ∷ s) (omega arith) ∙ (ap (ahead (decimal n)) (lf-part s) ∙ ap (λ (l : List ℕ). LfSplit.parted l s) (append-nil (decimal n)))

end_append : (n : ℕ) (s : List ℕ) → number_end n ++ s ≡ tab ∷ (decimal n ++ (lf ∷ s))
end_append n s = ap (λ (l : List ℕ). tab ∷ l) (append_assoc (decimal n) (lf ∷ []) s)

-- a number that fits is read behind its tab
along_number : (w : List ℕ) (n : ℕ) (s : List ℕ) → n ≤ max_total → numbers_along (tab ∷ w) (tab ∷ (decimal n ++ (lf ∷ s))) ≡ number_before n (numbers_along w s)
unfolding numbers_along
along_number w n s h =
    let i : number_in max_total (decimal n) ≡ Some n = is_read (record { written = refl; within = h }) in
    rw (number_part n s, i)

tab_read : (w : List ℕ) (n : ℕ) (s : List ℕ) → n ≤ max_total → numbers_along (tab ∷ w) (number_end n ++ s) ≡ number_before n (numbers_along w s)
tab_read w n s h = ap (numbers_along (tab ∷ w)) (end_append n s) ∙ along_number w n s h

along_byte : (c : ℕ) (w s : List ℕ) → (c ≡ tab → ⊥) → numbers_along (c ∷ w) (c ∷ s) ≡ numbers_along w s
unfolding numbers_along
along_byte c w s n = rw (eq-eqb c c refl, ne_eqb c tab n)

fits_parts : (n : ℕ) (ns : List ℕ) → overflows (n ∷ ns) ≡ false → (n ≤ max_total) × (overflows ns ≡ false)
unfolding overflows
fits_parts n ns o = let z = split_or (ltb max_total n) (overflows ns) o in (ltb-false max_total n z.0, z.1)

written_read : (w ns : List ℕ) → tabs_in w ≡ length ns → overflows ns ≡ false → numbers_along w (filled w ns) ≡ Numbers.are ns
unfolding filled tabs_in numbers_along
written_read [] [] l o = refl
written_read [] (n ∷ ns) l o = absurd (omega arith)
written_read (c ∷ w) ns l o = go (eqb c tab) refl ns l o (written_read w)
  where
    tabbed : c ≡ tab → (n : ℕ) (ns : List ℕ) → tabs_in w ≡ length ns → overflows (n ∷ ns) ≡ false
        → ((ns : List ℕ) → tabs_in w ≡ length ns → overflows ns ≡ false → numbers_along w (filled w ns) ≡ Numbers.are ns)
        → numbers_along (c ∷ w) (number_end n ++ filled w ns) ≡ Numbers.are (n ∷ ns)
    tabbed e n ns l o ih =
        let z = fits_parts n ns o in
        ap (λ (k : ℕ). numbers_along (k ∷ w) (number_end n ++ filled w ns)) e ∙ (tab_read w n (filled w ns) z.0 ∙ ap (number_before n) (ih ns l z.1))

    go : (x : Bool) → eqb c tab ≡ x → (ns : List ℕ) → cond x (suc (tabs_in w)) (tabs_in w) ≡ length ns → overflows ns ≡ false
        → ((ns : List ℕ) → tabs_in w ≡ length ns → overflows ns ≡ false → numbers_along w (filled w ns) ≡ Numbers.are ns)
        → numbers_along (c ∷ w) (cond x (at_tab ns (λ r. filled w r)) (c ∷ filled w ns)) ≡ Numbers.are ns
    go true q [] l o ih = absurd (omega arith)
    go true q (n ∷ ns) l o ih = tabbed (eqb-true c tab q) n ns (omega arith) o ih
    go false q ns l o ih = along_byte c w (filled w ns) (eqb-false c tab q) ∙ ih ns l o

-- ---- what is read was written

the_numbers : Numbers → List ℕ
the_numbers Numbers.bad = []
the_numbers (Numbers.are ns) = ns

is_bad : Numbers → Bool
is_bad Numbers.bad = true
is_bad (Numbers.are ns) = false

not_bad : {A : Type 0} {ns : List ℕ} → Numbers.bad ≡ Numbers.are ns → A
unfolding is_bad
not_bad e = contra true refl (ap is_bad e)

-- what stood there where it was parted
Was : List ℕ → LfSplit → Type 0
Was s LfSplit.whole = Unit {0}
Was s (LfSplit.parted f r) = s ≡ f ++ (lf ∷ r)

was : (s : List ℕ) → Was s (at_lf s)
unfolding at_lf Was
was [] = tt
was (b ∷ s) = go (eqb b lf) refl (at_lf s) (was s)
  where
    go : (x : Bool) → eqb b lf ≡ x → (c : LfSplit) → Was s c → Was (b ∷ s) (cond x (LfSplit.parted [] s) (onto_line b c))
    go true q c h = ap (λ (k : ℕ). k ∷ s) (eqb-true b lf q)
    go false q LfSplit.whole h = tt
    go false q (LfSplit.parted f r) h = ap (λ (l : List ℕ). b ∷ l) h

-- what is known of numbers that were read along w
record Along (w s ns : List ℕ) : Type 0 where
  pub written : s ≡ filled w ns
  pub long : tabs_in w ≡ length ns
  pub fits : overflows ns ≡ false

along_none : (s ns : List ℕ) → numbers_along [] s ≡ Numbers.are ns → Along [] s ns
unfolding numbers_along the_numbers filled tabs_in overflows
along_none [] ns e = let n : [] ≡ ns = ap the_numbers e in rw (← n) (record { written = refl; long = refl; fits = refl })
along_none (b ∷ s) ns e = not_bad e

along_same : (c : ℕ) (w s ns : List ℕ) → (c ≡ tab → ⊥) → Along w s ns → Along (c ∷ w) (c ∷ s) ns
unfolding filled tabs_in
along_same c w s ns n a = record {
  written = rw (ne_eqb c tab n) (ap (λ (l : List ℕ). c ∷ l) a.written);
  long = rw (ne_eqb c tab n) a.long;
  fits = a.fits;
}

along_field : (w f r : List ℕ) (n : ℕ) (ns : List ℕ) → IsNumber max_total f n → Along w r ns → Along (tab ∷ w) (tab ∷ (f ++ (lf ∷ r))) (n ∷ ns)
unfolding filled tabs_in overflows
along_field w f r n ns i a = record {
  written =
      ap (λ (l : List ℕ). tab ∷ (l ++ (lf ∷ r))) i.written
      ∙ (ap (λ (l : List ℕ). tab ∷ (decimal n ++ (lf ∷ l))) a.written ∙ sym (end_append n (filled w ns)));
  long = omega (arith, a.long);
  fits = rw (le-ltb max_total n i.within) a.fits;
}

read_written : (w s ns : List ℕ) → numbers_along w s ≡ Numbers.are ns → Along w s ns
unfolding numbers_along the_numbers Was
read_written [] s ns e = along_none s ns e
read_written (c ∷ w) [] ns e = not_bad e
read_written (c ∷ w) (b ∷ s) ns e = first (eqb b c) refl (eqb c tab) refl (read_written w) e
  where
    number : (f r : List ℕ) (d : Option ℕ) → number_in max_total f ≡ d → (x : Numbers) → numbers_along w r ≡ x
        → ((q ms : List ℕ) → numbers_along w q ≡ Numbers.are ms → Along w q ms)
        → on_number d x ≡ Numbers.are ns → Along (tab ∷ w) (tab ∷ (f ++ (lf ∷ r))) ns
    number f r None g x h ih e = not_bad e
    number f r (Some n) g Numbers.bad h ih e = not_bad e
    number f r (Some n) g (Numbers.are ms) h ih e =
        let m : n ∷ ms ≡ ns = ap the_numbers e in
        rw (← m) (along_field w f r n ms (read_is g) (ih r ms h))

    part : (p : LfSplit) → Was s p → ((q ms : List ℕ) → numbers_along w q ≡ Numbers.are ms → Along w q ms)
        → on_part p (λ r. numbers_along w r) ≡ Numbers.are ns → Along (tab ∷ w) (tab ∷ s) ns
    part LfSplit.whole h ih e = not_bad e
    part (LfSplit.parted f r) h ih e = rw h (number f r (number_in max_total f) refl (numbers_along w r) refl ih e)

    first : (x : Bool) → eqb b c ≡ x → (y : Bool) → eqb c tab ≡ y → ((q ms : List ℕ) → numbers_along w q ≡ Numbers.are ms → Along w q ms)
        → cond x (cond y (on_part (at_lf s) (λ r. numbers_along w r)) (numbers_along w s)) Numbers.bad ≡ Numbers.are ns → Along (c ∷ w) (b ∷ s) ns
    first true p true q ih e = rw (eqb-true b c p, eqb-true c tab q) (part (at_lf s) (was s) ih e)
    first true p false q ih e = rw (eqb-true b c p) (along_same c w s ns (eqb-false c tab q) (ih s ns e))
    first false p y q ih e = not_bad e

-- ---- how long it is

filled_le : (w ns : List ℕ) → overflows ns ≡ false → length (filled w ns) ≤ length w + 21 * tabs_in w
unfolding filled tabs_in
filled_le [] ns o = omega arith
filled_le (c ∷ w) ns o = go (eqb c tab) ns o (filled_le w)
  where
    go : (x : Bool) (ns : List ℕ) → overflows ns ≡ false → ((ns : List ℕ) → overflows ns ≡ false → length (filled w ns) ≤ length w + 21 * tabs_in w)
        → length (cond x (at_tab ns (λ r. filled w r)) (c ∷ filled w ns)) ≤ suc (length w) + 21 * cond x (suc (tabs_in w)) (tabs_in w)
    go true [] o ih = omega arith
    go true (n ∷ ns) o ih =
        let z = fits_parts n ns o in
        let d : length (decimal n) ≤ 20 = decimal_le n 20 (omega (arith, z.0)) (omega arith) in
        let r : List ℕ = filled w ns in
        omega (arith, d, ih ns z.1, ap length (end_append n r), length-append (decimal n) (lf ∷ r))
    go false ns o ih = omega (arith, ih ns o)

-- ======== the theorems

pub text_read_exactly : TextReadExactly
unfolding numbers_read
text_read_exactly s ns = (there, back)
  where
    there : numbers_along names_row s ≡ Numbers.are ns → IsTotalsText s ns
    there e =
        let a = read_written names_row s ns e in
        let l : length ns ≡ total_places = sym a.long ∙ row_tabs in
        record { written = a.written ∙ row_filled ns l; report = record { long = l; fits = a.fits } }

    back : IsTotalsText s ns → numbers_along names_row s ≡ Numbers.are ns
    back h =
        ap (numbers_along names_row) (h.written ∙ sym (row_filled ns h.report.long))
        ∙ written_read names_row ns (row_tabs ∙ sym h.report.long) h.report.fits

pub text-fits : TextFits
text-fits ns r = omega (arith, filled_le names_row ns r.fits, ap length (row_filled ns r.long), row_long, row_tabs)
