-- The thirteen lines laid along the row of names, and the whole text put into lent memory.
-- Assumes nothing.
use Rattle.std.specs.Prelude.{Err, Ok}
use mathlib.Core.Path.{◌≡◌, refl, sym, ◌∙◌, ap}
use mathlib.Core.Bool.{Bool, true, false, cond, ◌&&◌}
use mathlib.Core.List.{List, [], ◌∷◌, ◌++◌, append_assoc, append-nil}
use Prim.Native.Nat.{ℕ, zero, suc, ◌+◌, ◌*◌, ◌^◌, ◌≤◌, ◌<◌}
use native.Mathlib.Nat.{zero-add}
use native.Mathlib.Numerals.{add-one}
use native.Mathlib.Omega.{arith}
use borrow.Author.Tests.{le-leb, lt-leb}
use lib.Dec.{leb}
use lib.ListN.{length, get_or, drop, take, set}
use lib.Seq.{sets, sets-eq, take_at}
use Rattle.base_lists.specs.Lists.{over}
use Rattle.base_bytes.specs.Bytes.{tab}
use Rattle.base_refusals.specs.Numbers.{max_text}
use Rattle.base_refusals.specs.Orders.{on_paper}
use Rattle.base_refusals.specs.declared.Refusal.TheVariants.{CanonTooLong}
use Rattle.text_digits.specs.Decimal.{decimal}
use Rattle.text_digits.proofs.Decimals.{decimal_le}
use Rattle.set_writer.specs.Write.{wrote_paper, has_room, room_order, wrote_of, content_after}
use Rattle.set_writer.proofs.Numbers.{said, set_no}
use Rattle.sheet_report.specs.Puts.{PutAt}
use Rattle.sheet_report.proofs.Laying.{put_so, put_then, put_byte, put_long}
use Rattle.sheet_totals.specs.Totals.{total_places}
use Rattle.sheet_numbers.specs.Text.{totals_text, max_report}
use Rattle.sheet_numbers.specs.Computed.{names_row}
use Rattle.sheet_numbers.specs.Inner.{number_end}
use Rattle.sheet_numbers.proofs.Along.{filled, tabs_in, row_filled, row_long, row_tabs, tab_left, name_left, tab_filled, byte_filled, filled_end}

pub field_le : {n k : ℕ} → k ≡ length (9 ∷ decimal n) → n < 2 ^ 64 → k ≤ 21
field_le {n} e h = omega (arith, e, decimal_le n 20 (omega arith) (omega arith))

-- ---- j bytes of the row are gone along, and i numbers written

pub record Lays (row ns out₀ out : List ℕ) (at i j : ℕ) : Type 0 where
  pub done : List ℕ
  pub put : PutAt out₀ 0 done at out
  pub is_row : row ≡ names_row
  pub long : length ns ≡ total_places
  pub within : j ≤ 111
  pub bound : at ≤ j + 21 * i
  pub count : i + tabs_in (drop j row) ≡ total_places
  pub rest : totals_text ns ≡ done ++ filled (drop j row) (drop i ns)

pub lays_start : {row ns out : List ℕ} → row ≡ names_row → length ns ≡ total_places → Lays row ns out out 0 0 0
lays_start {row} {ns} {out} e h = record {
  done = [];
  put = record { behind = refl; content = refl };
  is_row = e;
  long = h;
  within = omega arith;
  bound = omega arith;
  count = rw e (omega (arith, row_tabs));
  rest = rw e (sym (row_filled ns h));
}

module _ {row ns out₀ out : List ℕ} {at i j : ℕ} (inv : Lays row ns out₀ out at i j) where
  row_is_long : length row ≡ 111
  row_is_long = rw inv.is_row row_long

  inside : j < 111 → j < length row
  inside h = omega (arith, row_is_long)

  -- at a tab there is a number left, and room for it
  pub lays_left : j < 111 → get_or row j 0 ≡ tab → i < total_places
  lays_left h e = omega (arith, inv.count, tab_left row (inside h) e)

  pub lays_room : j < 111 → get_or row j 0 ≡ tab → max_report ≤ length out₀ → at + 22 ≤ length out
  lays_room h e l = omega (arith, inv.bound, lays_left h e, put_long inv.put)

  pub lays_number : {r : ℕ} {out' : List ℕ} → j < 111 → get_or row j 0 ≡ tab → r ≤ at + 22 → PutAt out at (number_end (get_or ns i 0)) r out' → Lays row ns out₀ out' r (i + 1) (j + 1)
  lays_number {r} {out'} h e l p = record {
    done = inv.done ++ number_end (get_or ns i 0);
    put = put_then inv.put p;
    is_row = inv.is_row;
    long = inv.long;
    within = omega arith;
    bound = omega (arith, inv.bound);
    count = rw (add-one, add-one) (omega (arith, inv.count, tab_left row (inside h) e));
    rest =
        rw (add-one, add-one)
        (inv.rest
        ∙ (ap (λ (l : List ℕ). inv.done ++ l) (tab_filled row (inside h) ns i e (omega (arith, inv.long, lays_left h e)))
        ∙ sym (append_assoc inv.done (number_end (get_or ns i 0)) (filled (drop (suc j) row) (drop (suc i) ns)))));
  }

  pub lays_byte : j < 111 → (get_or row j 0 ≡ tab → ⊥) → Lays row ns out₀ (set out at (get_or row j 0)) (at + 1) i (j + 1)
  lays_byte h n = record {
    done = inv.done ++ (get_or row j 0 ∷ []);
    put = put_byte inv.put (get_or row j 0);
    is_row = inv.is_row;
    long = inv.long;
    within = omega arith;
    bound = omega (arith, inv.bound);
    count = rw add-one (omega (arith, inv.count, name_left row (inside h) n));
    rest =
        rw add-one
        (inv.rest
        ∙ (ap (λ (l : List ℕ). inv.done ++ l) (byte_filled row (inside h) (drop i ns) n)
        ∙ sym (append_assoc inv.done (get_or row j 0 ∷ []) (filled (drop (suc j) row) (drop i ns)))));
  }

  pub lays_at : max_report ≤ length out₀ → j < 111 → at < length out
  lays_at l h = omega (arith, inv.bound, inv.count, put_long inv.put)

  pub lays_end : 111 ≤ j → PutAt out₀ 0 (totals_text ns) at out × (at ≤ max_report)
  lays_end h = (rw (inv.rest ∙ (ap (λ (l : List ℕ). inv.done ++ l) (filled_end row (drop i ns) {j = j} (omega (arith, row_is_long))) ∙ append-nil inv.done)) inv.put, omega (arith, inv.bound, inv.count, inv.within))

-- ---- a tab, a number and an LF

pub number_put : (n : ℕ) {k at : ℕ} {buf b : List ℕ} → k ≡ length (9 ∷ decimal n) → b ≡ sets buf at (9 ∷ decimal n) → PutAt buf at (number_end n) (at + k + 1) (set b (at + k) 10)
number_put n {k} {at} {buf} e f = put_byte (put_so buf at (9 ∷ decimal n) e f) 10

-- ---- the whole

module _ (xs : List ℕ) {n : ℕ} {buf b : List ℕ} (p : PutAt buf 0 xs n b) (h : n ≤ max_report) where
  ends : n ≡ length xs
  ends = p.behind ∙ zero-add (length xs)

  -- the text that was laid
  pub laid_is : max_report ≤ length buf → take n b ≡ xs
  laid_is l = rw (p.content, sets-eq xs buf 0 (omega (arith, ends))) (take_at xs (drop (0 + length xs) buf) n (sym ends))

  pub laid_long : max_report ≤ length buf → n ≡ length (take n b)
  laid_long l = ends ∙ ap length (sym (laid_is l))

  module _ (out : List ℕ) where
    pub wrote_none : length out < n → record { value : Err CanonTooLong ≡ wrote_of xs (length out); out_after : out ≡ content_after out xs; result_value : wrote_paper (Err CanonTooLong) ≡ on_paper (room_order xs (length out)) (length xs ∷ []) }
    unfolding wrote_of content_after has_room
    wrote_none l = said (set_no xs (length out)) (rw (lt-leb (length xs) (length out) (omega (arith, ends)), le-leb (length xs) max_text (omega (arith, ends))) (refl, refl))

    pub wrote_whole : {out' : List ℕ} → n ≤ length out → out' ≡ sets out 0 xs
        → record { value : Ok n ≡ wrote_of xs (length out); out_after : out' ≡ content_after out xs; result_value : wrote_paper (Ok n) ≡ on_paper (room_order xs (length out)) (length xs ∷ []) }
    unfolding wrote_of content_after has_room
    wrote_whole {out'} l e =
        said (set_no xs (length out))
        (rw (le-leb (length xs) (length out) (omega (arith, ends)), le-leb (length xs) max_text (omega (arith, ends)))
        (ap (λ z. Ok z) ends, e ∙ (rw (zero-add (length xs)) at (sets-eq xs out 0 (omega (arith, ends))))))
