-- The parts of a mended index put together.
-- Assumes nothing.
use mathlib.Core.Path.{◌≡◌, refl, sym, ◌∙◌, ap}
use mathlib.Core.Bool.{Bool, true, false, cond, not, ◌&&◌}
use mathlib.Core.List.{List, [], ◌∷◌, ◌++◌, map}
use Prim.Native.Nat.{ℕ, suc, ◌+◌, ◌*◌, ◌≤◌}
use native.Mathlib.Omega.{arith}
use borrow.Author.Tests.{eqb-true, eq-eqb, not-false}
use lib.Dec.{eqb}
use lib.ListN.{length, take, drop, length-append, length-drop, take-append-drop}
use lib.Seq.{slice, sets, length-sets, take_all, take-length, take-append_seam, drop-append_seam, drop-drop, length-take-le}
use Rattle.base_lists.specs.Lists.{over, same}
use Rattle.base_lists.proofs.Scan.{both}
use Rattle.base_lists.proofs.Same.{same_refl, same_true, same_of}
use Rattle.base_lists.proofs.Parts.{slice_add, part_end}
use Rattle.base_lists.proofs.Flat.{flat_append}
use Rattle.base_refusals.specs.Numbers.{max_text}
use Rattle.text_lines.specs.Lines.{lines, onto, is_dropped}
use Rattle.sheet_blocks.specs.Sheets.{tries_at, join_behind}
use Rattle.sheet_records.specs.Records.{Record, AllIn, record_line, index_header, index_text, rows_at, index_rows, table_numbers}
use Rattle.sheet_records.specs.Listed.{records_of}
use Rattle.sheet_records.specs.Computed.{is_headed}
use Rattle.sheet_records.specs.Writing.{table_size}
use Rattle.sheet_records.proofs.Lines.{header_long}
use Rattle.sheet_index.specs.Inner.{lines_text}
use Rattle.sheet_index.proofs.Builds.{index_long, text_whole, table_whole}
use Rattle.sheet_splits.specs.Parting.{moved_on}
use Rattle.sheet_splits.proofs.Parted.{later_none}
use Rattle.sheet_stands.specs.Stands.{is_front, stands_at}
use Rattle.sheet_stands.proofs.Fronts.{front_same}
use Rattle.sheet_edits.proofs.Cuts.{Cuts, again_cuts}
use Rattle.sheet_edits.proofs.Mended.{parts_records, parts_join}
use Rattle.sheet_mends.specs.Inner.{Telling, tell_all, at_most, most_text, most_index}
use Rattle.sheet_mends.specs.Assembled.{AreAgain, OldParts, MayMend, lines_to, lines_past, again_records, seen_of, so_far, text_and_rest}
use Rattle.sheet_mends.specs.declared.Seen.{Seen}
use Rattle.sheet_mends.proofs.Tales.{tell_append, tell_good, tell_count, tell_next, tell_table, tell_out}

-- ---- how long the parts are

pub lines_few : (t : List ℕ) → length (lines t) ≤ length t
unfolding lines
lines_few [] = omega arith
lines_few (b ∷ s) = go (eqb b 10) (is_dropped b s) (lines s) (lines_few s)
  where
    go : (x y : Bool) (ls : List (List ℕ)) → length ls ≤ length s → length (cond x ([] ∷ ls) (cond y ls (onto b ls))) ≤ suc (length s)
    go true y ls h = omega arith
    go false true ls h = omega arith
    go false false [] h = omega arith
    go false false (l ∷ ls) h = omega arith

lines-append : (rs qs : List Record) → length (lines_text (rs ++ qs)) ≡ length (lines_text rs) + length (lines_text qs)
lines-append rs qs = ap length (flat_append record_line rs qs) ∙ length-append (lines_text rs) (lines_text qs)

-- ---- whether an index is a text's own: its first line stands in it, then the lines of the records, and nothing behind them

iff : (p q : Bool) → (p ≡ true → q ≡ true) → (q ≡ true → p ≡ true) → p ≡ q
iff true q f g = sym (f refl)
iff false true f g = g refl
iff false false f g = refl

front_all : (xs t : List ℕ) → length xs ≡ length t → is_front xs t ≡ true → t ≡ xs
front_all xs t l e = sym (take_all (length xs) t (omega (arith, l))) ∙ same_true (take (length xs) t) xs (front_same xs t (omega (arith, l)) ∙ e)

front_self : (xs : List ℕ) → is_front xs xs ≡ true
front_self xs = sym (front_same xs xs (omega arith)) ∙ (rw (take-length xs) (same_refl xs))

pub own_is : (index : List ℕ) (rs : List Record) → ((is_headed index && stands_at index 19 (lines_text rs)) && eqb (19 + length (lines_text rs)) (length index)) ≡ same index (index_text rs)
unfolding index_text
own_is index rs = iff ((is_headed index && stands_at index 19 (lines_text rs)) && eqb (19 + length (lines_text rs)) (length index)) (same index (index_header ++ lines_text rs)) so back
  where
    so : ((is_headed index && stands_at index 19 (lines_text rs)) && eqb (19 + length (lines_text rs)) (length index)) ≡ true → same index (index_header ++ lines_text rs) ≡ true
    so h =
        let a = both (is_headed index && stands_at index 19 (lines_text rs)) (eqb (19 + length (lines_text rs)) (length index)) h in
        let b = both (is_headed index) (stands_at index 19 (lines_text rs)) a.0 in
        let l : 19 + length (lines_text rs) ≡ length index = eqb-true (19 + length (lines_text rs)) (length index) a.1 in
        let f : take 19 index ≡ index_header = rw header_long at (same_true (take (length index_header) index) index_header b.0) in
        let d : drop 19 index ≡ lines_text rs = front_all (lines_text rs) (drop 19 index) (omega (arith, l, length-drop 19 index)) b.1 in
        same_of (sym (take-append-drop 19 index) ∙ rw (f, d))

    back : same index (index_header ++ lines_text rs) ≡ true → ((is_headed index && stands_at index 19 (lines_text rs)) && eqb (19 + length (lines_text rs)) (length index)) ≡ true
    back h =
        let e : index ≡ index_header ++ lines_text rs = same_true index (index_header ++ lines_text rs) h in
        let d : drop 19 (index_header ++ lines_text rs) ≡ lines_text rs = rw header_long at (drop-append_seam index_header (lines_text rs)) in
        let l : 19 + length (lines_text rs) ≡ length (index_header ++ lines_text rs) = omega (arith, header_long, length-append index_header (lines_text rs)) in
        rw (e, take-append_seam index_header (lines_text rs), same_refl index_header, d, front_self (lines_text rs), eq-eqb (19 + length (lines_text rs)) (length (index_header ++ lines_text rs)) l)

-- ---- telling one list behind another

pub told_on : (index : List ℕ) (t : Telling) (xs ys : List Record) {u v : Telling} → u ≡ tell_all index t xs → v ≡ tell_all index u ys → v ≡ tell_all index t (xs ++ ys)
told_on index t xs ys a b = b ∙ (ap (λ (x : Telling). tell_all index x ys) a ∙ sym (tell_append index t xs ys))

pub rest_told : (index text rest : List ℕ) (line offset : ℕ) (t : Telling) {u v : Telling} {n : ℕ} → n ≡ length (lines text)
    → u ≡ tell_all index t (map (moved_on line offset) (records_of text)) → v ≡ tell_all index u (map (moved_on (line + n) (offset + length text)) (records_of rest))
    → v ≡ tell_all index t (text_and_rest line offset text rest)
rest_told index text rest line offset t {n = n} h a b = rw (← h) (told_on index t (map (moved_on line offset) (records_of text)) (map (moved_on (line + n) (offset + length text)) (records_of rest)) a b)

-- ---- comparing the old text

module _ (old x y z : List ℕ) (p e : ℕ) (k : length old ≤ max_text) (q : OldParts old p e) (ex : x ≡ slice 0 p old) (ey : y ≡ slice p e old) (ez : z ≡ slice e (length old) old) where
  pub part-sizes : (length x ≡ p) × ((p + length y ≡ e) × (e + length z ≡ length old))
  part-sizes = (
    ap length ex ∙ length-take-le p old (omega (arith, q.0, q.1.0)),
    (rw ey (part_end old p e q.0 q.1.0), rw ez (part_end old e (length old) q.1.0 (omega arith))),
  )

  parts_are : records_of old ≡ map (moved_on 0 0) (records_of x) ++ (map (moved_on (length (lines x)) p) (records_of y) ++ map (moved_on (length (lines x) + length (lines y)) e) (records_of z))
  parts_are =
      rw (ex, ey, ez, take-length old, later_none (records_of (take p old)))
      (parts_records old p e q.0 q.1.0 q.1.1.0 q.1.1.1 k)

  pub seen_join : (j₀ : List ℕ) {j₁ j₂ j₃ : List ℕ} → j₁ ≡ join_behind j₀ (tries_at x max_text 1 0) → j₂ ≡ join_behind j₁ (tries_at y max_text 1 0) → j₃ ≡ join_behind j₂ (tries_at z max_text 1 0)
      → j₃ ≡ join_behind j₀ (tries_at old max_text 1 0)
  seen_join j₀ a b c =
      c ∙ (rw (b, a, ex, ey, ez, take-length old) (sym (parts_join old p e q.0 q.1.0 q.1.1.0 q.1.1.1 j₀)))

  module _ (index t₀ o₀ : List ℕ) {g : Bool} (h : g ≡ is_headed index) {l m : ℕ} (el : l ≡ length (lines x)) (em : m ≡ length (lines y)) {first second third : Telling}
      (a : first ≡ tell_all index (record { so = record { good = g; records = 0; next = 19 }; table = t₀; out = o₀ }) (map (moved_on 0 0) (records_of x)))
      (b : second ≡ tell_all index first (map (moved_on l p) (records_of y)))
      (c : third ≡ tell_all index second (map (moved_on (l + m) e) (records_of z))) where
    abbrev start : Telling
    start = record { so = record { good = g; records = 0; next = 19 }; table = t₀; out = o₀ }

    whole : third ≡ tell_all index start (records_of old)
    whole =
        rw (parts_are, ← el, ← em)
        (told_on index start (map (moved_on 0 0) (records_of x)) (map (moved_on l p) (records_of y) ++ map (moved_on (l + m) e) (records_of z)) a
        (told_on index first (map (moved_on l p) (records_of y)) (map (moved_on (l + m) e) (records_of z)) b c))

    third_good : third.so.good ≡ (is_headed index && stands_at index 19 (lines_text (records_of old)))
    third_good = ap (λ (t : Telling). t.so.good) whole ∙ (tell_good index start (records_of old) ∙ rw h)

    third_next : third.so.next ≡ 19 + length (lines_text (records_of old))
    third_next = ap (λ (t : Telling). t.so.next) whole ∙ tell_next index start (records_of old)

    first_is : (first.so.records ≡ length (records_of (take p old))) × (first.so.next ≡ length (index_text (records_of (take p old))))
    first_is =
        let f : map (moved_on 0 0) (records_of x) ≡ records_of (take p old) = later_none (records_of x) ∙ ap records_of ex in
        let n = ap (λ (t : Telling). t.so.records) a ∙ tell_count index start (map (moved_on 0 0) (records_of x)) in
        let v = ap (λ (t : Telling). t.so.next) a ∙ tell_next index start (map (moved_on 0 0) (records_of x)) in
        (omega (arith, rw f at n), omega (arith, rw f at v, index_long (records_of (take p old))))

    second_is : second.so.next ≡ length (index_text (records_of (take p old))) + length (lines_text (again_records old p e))
    second_is =
        let f : map (moved_on l p) (records_of y) ≡ again_records old p e = rw (el, ex, ey) in
        let v = ap (λ (t : Telling). t.so.next) b ∙ tell_next index first (map (moved_on l p) (records_of y)) in
        omega (arith, rw f at v, first_is.1)

    pub seen_is : {v : Bool} → v ≡ (third.so.good && eqb third.so.next (length index))
        → record { good = v; line = l; less = l + m; records = first.so.records; from = first.so.next; to = second.so.next } ≡ seen_of old p e index
    seen_is {v} d =
        let f : v ≡ same index (index_text (records_of old)) = d ∙ (rw (third_good, third_next) (own_is index (records_of old))) in
        let u : l ≡ lines_to old p = el ∙ ap (λ (s : List ℕ). length (lines s)) ex in
        let w : m ≡ length (lines (slice p e old)) = em ∙ ap (λ (s : List ℕ). length (lines s)) ey in
        rw (f, u, w, first_is.0, first_is.1, second_is)

    pub seen_short : at_most max_text most_text start.so first.so → at_most max_text most_text first.so second.so → at_most max_text most_text second.so third.so
        → (first.so.records ≤ max_text) × (length (index_text (records_of old)) ≤ most_index)
    seen_short u v w = (omega (arith, u.0), omega (arith, third_next, index_long (records_of old), u.1, v.1, w.1))

-- ---- records in range

in_parts : (rs qs : List Record) → AllIn (rs ++ qs) → AllIn rs × AllIn qs
unfolding AllIn
in_parts [] qs h = (tt, h)
in_parts (r ∷ rs) qs h = let w = in_parts rs qs h.1 in ((h.0, w.0), w.1)

-- ---- mending where the checks are passed and the index is the old text's own

module _ (old new : List ℕ) (p e n : ℕ) (index join : List ℕ) (seen : Seen) (w : MayMend old new p e n index join seen) where
  pub cuts : Cuts old new p e n
  cuts = again_cuts old new w.again.0 w.again.1.0 w.again.1.1

  abbrev front : List Record
  front = records_of (take p old)

  abbrev behind : List Record
  behind = map (moved_on (lines_past old p e) e) (records_of (drop e old))

  abbrev fresh : List Record
  fresh = map (moved_on (lines_to old p) p) (records_of (slice p n new)) ++ map (moved_on (lines_to old p + length (lines (slice p n new))) n) (records_of (drop e old))

  old_is : records_of old ≡ front ++ (again_records old p e ++ behind)
  old_is = parts_records old p e cuts.ordered cuts.within cuts.old_front cuts.old_end w.old_short

  new_is : records_of new ≡ front ++ fresh
  new_is = rw (cuts.front, cuts.end) at (parts_records new p n cuts.new_ordered cuts.new_within cuts.new_front cuts.new_end w.new_short)

  index_is : index ≡ index_header ++ (lines_text front ++ (lines_text (again_records old p e) ++ lines_text behind))
  unfolding index_text
  index_is =
      w.own
      ∙ ap (λ (s : List ℕ). index_header ++ s)
      (ap lines_text old_is
      ∙ (flat_append record_line front (again_records old p e ++ behind) ∙ ap (λ (s : List ℕ). lines_text front ++ s) (flat_append record_line (again_records old p e) behind)))

  from_is : seen.from ≡ 19 + length (lines_text front)
  from_is = ap (λ (s : Seen). s.from) w.is ∙ index_long front

  to_is : seen.to ≡ 19 + length (lines_text front) + length (lines_text (again_records old p e))
  to_is = omega (arith, ap (λ (s : Seen). s.to) w.is, index_long front)

  past_header : drop 19 index ≡ lines_text front ++ (lines_text (again_records old p e) ++ lines_text behind)
  past_header = rw (index_is, ← header_long) (drop-append_seam index_header (lines_text front ++ (lines_text (again_records old p e) ++ lines_text behind)))

  past_again : drop seen.to index ≡ lines_text behind
  past_again =
      let a : List ℕ = lines_text front in
      let b : List ℕ = lines_text (again_records old p e) in
      let c : List ℕ = lines_text behind in
      let d : drop (19 + length a) index ≡ b ++ c = sym (drop-drop (length a) 19 index) ∙ (rw past_header (drop-append_seam a (b ++ c))) in
      rw (to_is, ← drop-drop (length b) (19 + length a) index, d) (drop-append_seam b c)

  pub index_room : (19 ≤ seen.from) × ((seen.from ≤ seen.to) × (seen.to ≤ length index))
  index_room =
      let a : List ℕ = lines_text front in
      let b : List ℕ = lines_text (again_records old p e) in
      let c : List ℕ = lines_text behind in
      (omega (arith, from_is), (omega (arith, from_is, to_is), omega (arith, to_is, ap length index_is, length-append index_header (a ++ (b ++ c)), length-append a (b ++ c), header_long, length-append b c)))

  pub front_stands : slice 19 seen.from index ≡ lines_text (map (moved_on 0 0) (records_of (slice 0 p old)))
  front_stands =
      rw (from_is, later_none front, slice_add 19 (length (lines_text front)) index, past_header)
      (take-append_seam (lines_text front) (lines_text (again_records old p e) ++ lines_text behind))

  rest_moved : map (moved_on seen.less e) (records_of (slice e (length old) old)) ≡ behind
  rest_moved = rw (take-length old, ap (λ (s : Seen). s.less) w.is)

  pub rest_stands : slice seen.to (length index) index ≡ lines_text (map (moved_on seen.less e) (records_of (slice e (length old) old)))
  rest_stands = rw (rest_moved, take-length index) past_again

  in_all : AllIn (front ++ (again_records old p e ++ behind))
  in_all = rw old_is at w.old_in

  pub front_in : AllIn (map (moved_on 0 0) (records_of (slice 0 p old)))
  front_in = rw (later_none front) (in_parts front (again_records old p e ++ behind) in_all).0

  pub rest_in : AllIn (map (moved_on seen.less e) (records_of (slice e (length old) old)))
  rest_in = rw rest_moved (in_parts (again_records old p e) behind (in_parts front (again_records old p e ++ behind) in_all).1).1

  -- the first lines stand in the index behind its first line
  module _ {first : List ℕ} (ef : first ≡ slice 0 p old) where
    pub front_asks : ((19 ≤ seen.from) × ((seen.from ≤ length index) × (length index ≤ most_index)))
        × ((slice 19 seen.from index ≡ lines_text (map (moved_on 0 0) (records_of first))) × AllIn (map (moved_on 0 0) (records_of first)))
    front_asks = rw ef ((index_room.0, (omega (arith, index_room.1), w.short)), (front_stands, front_in))

  -- the lines that are read again end where they end in the new text, and the lines of the rest stand behind theirs in the index
  module _ {text rest : List ℕ} (et : text ≡ slice p n new) (er : rest ≡ slice e (length old) old) where
    text_end : p + length text ≡ n
    text_end = rw et (part_end new p n cuts.new_ordered cuts.new_within)

    line_is : seen.line ≡ lines_to old p
    line_is = ap (λ (s : Seen). s.line) w.is

    pub rest_asks : ((length text ≤ max_text) × (max_text ≤ length join)) × (((seen.line + length (lines text) ≤ max_text) × (p + length text ≤ max_text))
        × (((seen.to ≤ length index) × (length index ≤ most_index))
        × ((slice seen.to (length index) index ≡ lines_text (map (moved_on seen.less e) (records_of rest))) × AllIn (map (moved_on seen.less e) (records_of rest)))))
    rest_asks =
        let a : length text ≤ max_text = omega (arith, text_end, cuts.new_within, w.new_short) in
        let b : p + length text ≤ max_text = omega (arith, text_end, cuts.new_within, w.new_short) in
        let d : length (take p old) ≡ p = length-take-le p old (omega (arith, cuts.ordered, cuts.within)) in
        let c : seen.line + length (lines text) ≤ max_text = omega (arith, b, d, lines_few text, lines_few (take p old), line_is) in
        ((a, w.wide), ((c, b), ((index_room.1.1, w.short), (rw er rest_stands, rw er rest_in))))

    fresh_is : text_and_rest seen.line p text rest ≡ fresh
    fresh_is = let z : p + length (slice p n new) ≡ n = rw et at text_end in rw (et, er, take-length old, line_is, z)

    pub again_join : (j₀ : List ℕ) {j : List ℕ} → j ≡ join_behind j₀ (tries_at text max_text 1 0) → j ≡ join_behind j₀ (tries_at (slice p n new) max_text 1 0)
    again_join j₀ h = h ∙ ap (λ (s : List ℕ). join_behind j₀ (tries_at s max_text 1 0)) et

    pub measured : (t₀ o₀ : List ℕ) {u : Telling}
        → u ≡ tell_all index (record { so = record { good = false; records = seen.records; next = seen.from }; table = t₀; out = o₀ }) (text_and_rest seen.line p text rest)
        → (u.so.records ≡ length (records_of new)) × (u.so.next ≡ length (index_text (records_of new)))
    measured t₀ o₀ {u} h =
        let s : Telling = record { so = record { good = false; records = seen.records; next = seen.from }; table = t₀; out = o₀ } in
        let f : u ≡ tell_all index s fresh = rw fresh_is at h in
        let a : u.so.records ≡ seen.records + length fresh = ap (λ (x : Telling). x.so.records) f ∙ tell_count index s fresh in
        let b : u.so.next ≡ seen.from + length (lines_text fresh) = ap (λ (x : Telling). x.so.next) f ∙ tell_next index s fresh in
        let c : length (records_of new) ≡ length front + length fresh = ap length new_is ∙ length-append front fresh in
        let d : length (lines_text (records_of new)) ≡ length (lines_text front) + length (lines_text fresh) = ap (λ (rs : List Record). length (lines_text rs)) new_is ∙ lines-append front fresh in
        (omega (arith, a, ap (λ (x : Seen). x.records) w.is, c), omega (arith, b, from_is, index_long (records_of new), d))

    module _ (table out : List ℕ) {head first : List ℕ} (ef : first ≡ slice 0 p old) (seats : length (records_of new) ≤ table_size (length table)) (room : length (index_text (records_of new)) ≤ length out) (h : head ≡ sets out 0 index_header)
        {u v : Telling} (a : u ≡ tell_all index (record { so = record { good = false; records = 0; next = 19 }; table = table; out = head }) (map (moved_on 0 0) (records_of first)))
        (b : v ≡ tell_all index u (text_and_rest seen.line p text rest)) where
      abbrev begin : Telling
      begin = record { so = record { good = false; records = 0; next = 19 }; table = table; out = head }

      laid : v ≡ tell_all index begin (records_of new)
      laid = rw new_is (told_on index begin front fresh (rw (ef, later_none front) at a) (rw fresh_is at b))

      pub laid_table : v.table ≡ over (table_numbers (index_rows (records_of new))) table
      unfolding index_rows
      laid_table =
          let f : v.table ≡ sets table (0 * 5) (table_numbers (rows_at 19 (records_of new))) = ap (λ (x : Telling). x.table) laid ∙ tell_table index begin (records_of new) (omega (arith, seats)) in
          table_whole new table seats (f ∙ rw header_long)

      pub laid_text : v.out ≡ over (index_text (records_of new)) out
      laid_text =
          let l : length head ≡ length out = ap length h ∙ length-sets out 0 index_header in
          text_whole new out room h (ap (λ (x : Telling). x.out) laid ∙ tell_out index begin (records_of new) (omega (arith, l, room, index_long (records_of new))))

  -- the join buffer keeps its length
  pub still : {join' : List ℕ} → max_text ≤ length join' → MayMend old new p e n index join' seen
  still h = record { old_short = w.old_short; old_in = w.old_in; new_short = w.new_short; wide = h; again = w.again; own = w.own; short = w.short; few = w.few; is = w.is }

  pub so_far_lem : so_far (record { good = false; records = seen.records; next = seen.from })
  so_far_lem = (omega (arith, w.few), omega (arith, index_room.1, w.short))

-- ---- the old text was compared

pub parts_of : (old new : List ℕ) (p e n : ℕ) → AreAgain old new p e n → OldParts old p e
parts_of old new p e n a = let c = again_cuts old new a.0 a.1.0 a.1.1 in (c.ordered, (c.within, (c.old_front, c.old_end)))

module _ (old new : List ℕ) (p e n : ℕ) (index : List ℕ) where
  pub good_is : {seen : Seen} → seen ≡ seen_of old p e index → seen.good ≡ same index (index_text (records_of old))
  good_is s = ap (λ (x : Seen). x.good) s

  pub may_mend : {seen : Seen} {join : List ℕ} → length old ≤ max_text → AllIn (records_of old) → length new ≤ max_text → AreAgain old new p e n → seen ≡ seen_of old p e index → (seen.records ≤ max_text) × (length (index_text (records_of old)) ≤ most_index) → not seen.good ≡ false → max_text ≤ length join → MayMend old new p e n index join seen
  may_mend {seen} k i m a s f g h =
      let o : index ≡ index_text (records_of old) = same_true index (index_text (records_of old)) (sym (good_is s) ∙ not-false seen.good g) in
      record { old_short = k; old_in = i; new_short = m; wide = h; again = a; own = o; short = rw (← o) at f.1; few = f.0; is = s }
