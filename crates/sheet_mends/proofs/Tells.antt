-- Records told one after the other: one, those of a part of a sheet, and those that are kept.
-- Assumes nothing.
use Rattle.std.specs.Prelude.{Err, None, Ok, Option, Result, Some}
use mathlib.Core.Path.{◌≡◌, refl, sym, ◌∙◌, ap}
use mathlib.Core.Bool.{Bool, true, false, cond, ◌&&◌}
use mathlib.Core.List.{List, [], ◌∷◌, ◌++◌, map, map-append, append_assoc, flat_map}
use Prim.Native.Nat.{ℕ, zero, suc, ◌+◌, ◌-◌, ◌*◌, ◌^◌, ◌≤◌, ◌<◌}
use native.Mathlib.Numerals.{add-one}
use native.Mathlib.Omega.{arith}
use borrow.Author.Tests.{lt-ltb}
use lib.Dec.{ltb}
use lib.ListN.{length, take, drop, length-append, length-take, length-drop}
use lib.Seq.{slice, sets, length-slice, length-sets}
use Rattle.base_lists.proofs.Parts.{drop_past, seam}
use Rattle.base_refusals.specs.Numbers.{max_text}
use Rattle.base_refusals.specs.declared.Refusal.{Refusal}
use Rattle.set_marks.specs.Marks.{bytes_in, raw_bytes, is_quoted}
use Rattle.set_marks.proofs.Values.{bytes_short}
use Rattle.set_table.specs.Types.{Texts, two}
use Rattle.set_table.specs.declared.Attrs.{Attrs}
use Rattle.sheet_blocks.specs.declared.Next.{Next}
use Rattle.sheet_blocks.specs.Sheets.{tries_at, join_behind, next_of, next_tries}
use Rattle.sheet_blocks.proofs.Goes.{goes_on_lem}
use Rattle.sheet_verdicts.specs.Verdicts.{block_verdict}
use Rattle.sheet_records.specs.Records.{RecordId, Record, InBounds, AllIn, numbers_text, record_line, row_at, row_numbers}
use Rattle.sheet_records.specs.Listed.{listed_if, records_of}
use Rattle.sheet_records.specs.Computed.{record_at, id_in, record_in}
use Rattle.sheet_records.specs.Writing.{raw_id, line_fits, line_over, table_size, row_over}
use Rattle.sheet_records.specs.Inner.{line_size, end_text}
use Rattle.sheet_records.specs.declared.IndexRow.{IndexRow}
use Rattle.sheet_records.proofs.Lines.{end_long, line_size_lem, numbers_short, row_next}
use Rattle.sheet_records.proofs.Written.{row_reads}
use Rattle.sheet_index.specs.Inner.{set_record, block_adds, lines_text, most_line}
use Rattle.sheet_index.proofs.Builds.{id_is}
use Rattle.sheet_index.proofs.Rounds as round
use Rattle.sheet_splits.specs.Parting.{moved_on}
use Rattle.sheet_stands.specs.Stands.{stands_at}
use Rattle.sheet_mends.specs.Inner.{Telling, tell_one, tell_all, at_most, most_text, most_index, most_kept}
use Rattle.sheet_mends.specs.declared.Progress.{Progress}
use Rattle.sheet_mends.proofs.Tales.{tell_append}

-- ---- one record

module _ (at l c o : ℕ) (given quoted : Bool) (s : List ℕ) {n : ℕ} (e : n ≡ length (numbers_text l c o)) where
  pub row_given : {m : ℕ} → m ≡ length (bytes_in quoted s) → given ≡ true
      → ◌≡◌ {A = IndexRow} (record { line = l; count = c; offset = o; from = at + n + 1; to = at + n + 1 + m; next = at + n + 1 + m + 1 }) (row_at at (record { line = l; count = c; offset = o; id = raw_id given quoted s }))
  unfolding row_at
  row_given f g = rw (g, f, e, add-one (at + length (numbers_text l c o)), add-one (suc (at + length (numbers_text l c o)) + length (bytes_in quoted s)))

  pub row_none : given ≡ false
      → ◌≡◌ {A = IndexRow} (record { line = l; count = c; offset = o; from = 0; to = 0; next = at + n + 1 }) (row_at at (record { line = l; count = c; offset = o; id = raw_id given quoted s }))
  unfolding row_at
  row_none g = rw (g, e, add-one (at + length (numbers_text l c o)))

pub told : (index : List ℕ) (t : Telling) (r : Record) {row : IndexRow} {g : Bool} {table out : List ℕ} → row ≡ row_at t.so.next r → g ≡ (t.so.good && stands_at index t.so.next (record_line r))
    → table ≡ row_over t.table t.so.records row → out ≡ line_over t.out t.so.next r
    → ◌≡◌ {A = Telling} (record { so = record { good = g; records = t.so.records + 1; next = row.next }; table = table; out = out }) (tell_one index t r)
told index t r e f g h = rw (g, h, f, e, row_next t.so.next r)

-- table and buffer keep their lengths
module _ (index : List ℕ) where
  one_long : (t : Telling) (r : Record) → (length (tell_one index t r).table ≡ length t.table) × (length (tell_one index t r).out ≡ length t.out)
  unfolding row_over line_over
  one_long t r = (over_row (ltb t.so.records (table_size (length t.table))), over_line (line_fits (length t.out) t.so.next r))
    where
      over_row : (x : Bool) → length (cond x (sets t.table (t.so.records * 5) (row_numbers (row_at t.so.next r))) t.table) ≡ length t.table
      over_row true = length-sets t.table (t.so.records * 5) (row_numbers (row_at t.so.next r))
      over_row false = refl

      over_line : (x : Bool) → length (cond x (sets t.out t.so.next (record_line r)) t.out) ≡ length t.out
      over_line true = length-sets t.out t.so.next (record_line r)
      over_line false = refl

  all_long : (t : Telling) (rs : List Record) → (length (tell_all index t rs).table ≡ length t.table) × (length (tell_all index t rs).out ≡ length t.out)
  unfolding tell_all
  all_long t [] = (refl, refl)
  all_long t (r ∷ rs) = let x = one_long t r in let y = all_long (tell_one index t r) rs in (y.0 ∙ x.0, y.1 ∙ x.1)

-- ---- the record of a block

size_le : (n : ℕ) (g : Bool) (m : ℕ) → line_size n g m ≤ n + m + 2
size_le n true m = omega arith
size_le n false m = omega arith

module _ (index : List ℕ) (t : Telling) where
  pub set_told : {u : Telling} (ts : Texts) (n k at : ℕ) (a : Attrs) → n < 2 ^ 64 → k < 2 ^ 64 → at < 2 ^ 64 → {raw : List ℕ} {q : Bool} → (raw ≡ raw_bytes ts a.id) × (length raw ≤ max_text) → q ≡ is_quoted a.id
      → u ≡ tell_one index t (record { line = n; count = k; offset = at; id = raw_id a.given q raw }) → (u ≡ tell_one index t (set_record ts n k at a)) × at_most 1 most_line t.so u.so
  set_told {u} ts n k at a hn hk ha {raw} {q} r y e =
      let x = ap (λ (v : Telling). v.so.next) e in
      let z = ap (λ (v : Telling). v.so.records) e in
      let l = line_size_lem n k at a.given q raw in
      let s = size_le (length (numbers_text n k at)) a.given (length (bytes_in q raw)) in
      (rw (← id_is ts a, ← r.0, ← y) e, (omega (arith, z), omega (arith, x, l, s, numbers_short n k at hn hk ha, bytes_short q raw, r.1)))

  module _ (r : Record) {v o : Result (Unit {0}) Refusal} (e : v ≡ o) where
    pub block_none : {q : Refusal} → v ≡ Err q → (t ≡ tell_all index t (listed_if r o)) × at_most 1 most_line t.so t.so
    unfolding tell_all
    block_none f = rw (← e, f) (refl, (omega arith, omega arith))

    pub block_some : {u : Telling} → v ≡ Ok tt → (u ≡ tell_one index t r) × at_most 1 most_line t.so u.so → (u ≡ tell_all index t (listed_if r o)) × at_most 1 most_line t.so u.so
    unfolding tell_all
    block_some f g = rw (← e, f) g

-- ---- the records of a part of a sheet

moved_if : (d o : ℕ) (r : Record) (q : Result (Unit {0}) Refusal) → map (moved_on d o) (listed_if r q) ≡ listed_if (moved_on d o r) q
moved_if d o r (Ok _) = refl
moved_if d o r (Err w) = refl

pub record Tells (t index join₀ table₀ out₀ join table out : List ℕ) (line offset : ℕ) (so told : Progress) (at own : ℕ) : Type 0 where
  pub left : List Record
  pub rounds : round.Rounds t join₀ join at own left
  pub rest : tell_all index (record { so = told; table = table; out = out }) (map (moved_on line offset) left)
      ≡ tell_all index (record { so = so; table = table₀; out = out₀ }) (map (moved_on line offset) (records_of t))
  pub table_long : length table ≡ length table₀
  pub out_long : length out ≡ length out₀
  pub few : told.records ≤ so.records + at
  pub short : told.next ≤ so.next + 65599 * at

pub tells_start : (t index join table out : List ℕ) (line offset : ℕ) (so : Progress) → length t ≤ max_text → max_text ≤ length join → Tells t index join table out join table out line offset so so 0 1
tells_start t index join table out line offset so k j = record { left = records_of t; rounds = round.rounds_start t join k j; rest = refl; table_long = refl; out_long = refl; few = omega arith; short = omega arith }

module _ {t index join₀ table₀ out₀ join table out : List ℕ} {line offset : ℕ} {so told : Progress} {at own : ℕ} (inv : Tells t index join₀ table₀ out₀ join table out line offset so told at own)
    {r : Next} {join' : List ℕ} (e : r ≡ next_of t (length join) at) (j : join' ≡ join_behind join (next_tries t (length join) at)) where
  pub tells_none : r.block.lines ≡ 0
      → (◌≡◌ {A = Telling} (record { so = told; table = table; out = out }) (tell_all index (record { so = so; table = table₀; out = out₀ }) (map (moved_on line offset) (records_of t))))
      × ((join' ≡ join_behind join₀ (tries_at t max_text 1 0)) × at_most max_text most_text so told)
  unfolding tell_all
  tells_none z =
      let w = round.rounds_none inv.rounds e j z in
      (rw w.0 at inv.rest, (w.1, (omega (arith, inv.few, inv.rounds.within, inv.rounds.fits), omega (arith, inv.short, inv.rounds.within, inv.rounds.fits))))

  pub at_before : (r.block.lines ≡ 0 → ⊥) → r.at ≤ max_text
  at_before z =
      let g = goes_on_lem t (length join) at inv.rounds.fits (omega (arith, inv.rounds.same, inv.rounds.wide)) (λ y. z (rw e y)) in
      omega (arith, ap (λ (x : Next). x.at) e, g.within, inv.rounds.fits)

  module _ (z : r.block.lines ≡ 0 → ⊥) {told' : Progress} {table' out' : List ℕ}
      (q : ◌≡◌ {A = Telling} (record { so = told'; table = table'; out = out' }) (tell_all index (record { so = told; table = table; out = out }) (block_adds (two t (slice 0 r.block.joined join')) (line + (own + r.skipped)) r.block.lines (offset + r.at) r.block.set r.block.outcome)))
      (b : at_most 1 most_line told told') where
    abbrev adds : List Record
    adds = block_adds (two t (slice 0 r.block.joined join')) (own + r.skipped) r.block.lines r.at r.block.set r.block.outcome

    adds_moved : map (moved_on line offset) adds ≡ block_adds (two t (slice 0 r.block.joined join')) (line + (own + r.skipped)) r.block.lines (offset + r.at) r.block.set r.block.outcome
    adds_moved = moved_if line offset (set_record (two t (slice 0 r.block.joined join')) (own + r.skipped) r.block.lines r.at r.block.set) (block_verdict (two t (slice 0 r.block.joined join')) r.block.set r.block.outcome)

    pub tells_go : Tells t index join₀ table₀ out₀ join' table' out' line offset so told' r.block.next (own + r.skipped + r.block.lines)
    tells_go =
        let w = round.rounds_go inv.rounds e j z in
        let n = all_long index (record { so = told; table = table; out = out }) (block_adds (two t (slice 0 r.block.joined join')) (line + (own + r.skipped)) r.block.lines (offset + r.at) r.block.set r.block.outcome) in
        let m : map (moved_on line offset) inv.left ≡ map (moved_on line offset) adds ++ map (moved_on line offset) w.more = ap (map (moved_on line offset)) w.is ∙ map-append (moved_on line offset) adds w.more in
        record {
          left = w.more;
          rounds = w.rounds;
          rest = rw (q, ← adds_moved, ← tell_append index (record { so = told; table = table; out = out }) (map (moved_on line offset) adds) (map (moved_on line offset) w.more), ← m) inv.rest;
          table_long = ap (λ (v : Telling). length v.table) q ∙ (n.0 ∙ inv.table_long);
          out_long = ap (λ (v : Telling). length v.out) q ∙ (n.1 ∙ inv.out_long);
          few = omega (arith, inv.few, b.0, round.next_past inv.rounds e j z);
          short = omega (arith, inv.short, b.1, round.next_past inv.rounds e j z);
        }

-- ---- the record of a row

pub row_id : (t : List ℕ) (from to : ℕ) {g : Bool} {raw : List ℕ} → g ≡ ltb 0 from → raw ≡ slice from to t → raw_id g false raw ≡ id_in t from to
row_id t zero to e f = rw e
row_id t (suc from) to e f = rw (e, lt-ltb 0 (suc from) (omega arith), f)

pub row_short : (t : List ℕ) (from to : ℕ) {raw : List ℕ} → raw ≡ slice from to t → length raw ≤ length t
row_short t from to e = omega (arith, ap length e, length-drop from (take to t), length-take to t)

-- ---- the records that are kept

long : (r : Record) → length (record_line r) ≡ length (numbers_text r.line r.count r.offset) + length (end_text r.id)
unfolding record_line
long r = length-append (numbers_text r.line r.count r.offset) (end_text r.id)

end_some : (i : RecordId) → 1 ≤ length (end_text i)
end_some i = omega (arith, end_long i)

pub record Keeps (t index table₀ out₀ table out : List ℕ) (from to ll ml lo mo : ℕ) (so told : Progress) (at : ℕ) : Type 0 where
  pub left : List Record
  pub ordered : from ≤ at
  pub within : at ≤ to
  pub inside : to ≤ length index
  pub size : length index ≤ most_index
  pub few_lines : ml ≤ max_text
  pub few_bytes : mo ≤ max_text
  pub text : slice at to index ≡ lines_text (map (moved_on ll lo) left)
  pub in_range : AllIn (map (moved_on ll lo) left)
  pub rest : tell_all index (record { so = told; table = table; out = out }) (map (moved_on ml mo) left)
      ≡ tell_all index (record { so = so; table = table₀; out = out₀ }) (map (moved_on ml mo) (records_of t))
  pub table_long : length table ≡ length table₀
  pub out_long : length out ≡ length out₀
  pub few : told.records ≤ so.records + (at - from)
  pub short : told.next ≤ so.next + 63 * (at - from)

pub keeps-start : (t index table out : List ℕ) (from to ll ml lo mo : ℕ) (so : Progress) → (from ≤ to) × ((to ≤ length index) × (length index ≤ most_index)) → slice from to index ≡ lines_text (map (moved_on ll lo) (records_of t))
    → AllIn (map (moved_on ll lo) (records_of t)) → (ml ≤ max_text) × (mo ≤ max_text) → Keeps t index table out table out from to ll ml lo mo so so from
keeps-start t index table out from to ll ml lo mo so h e i m =
    record {
      left = records_of t;
      ordered = omega arith;
      within = h.0;
      inside = h.1.0;
      size = h.1.1;
      few_lines = m.0;
      few_bytes = m.1;
      text = e;
      in_range = i;
      rest = refl;
      table_long = refl;
      out_long = refl;
      few = omega arith;
      short = omega arith;
    }

-- the first of the records that are left, r, whose line stands at `at`, and those behind it
pub record First (index : List ℕ) (to ll lo at : ℕ) (left : List Record) : Type 0 where
  pub one : Record
  pub more : List Record
  pub is : left ≡ one ∷ more
  pub reads : record_at index at ≡ Some (row_at at (moved_on ll lo one))
  pub says : record_in index (row_at at (moved_on ll lo one)) ≡ moved_on ll lo one
  pub bounds : InBounds (moved_on ll lo one)
  pub on : slice (row_at at (moved_on ll lo one)).next to index ≡ lines_text (map (moved_on ll lo) more)
  pub on_in : AllIn (map (moved_on ll lo) more)
  pub past : (row_at at (moved_on ll lo one)).next ≤ to

module _ {t index table₀ out₀ table out : List ℕ} {from to ll ml lo mo : ℕ} {so told : Progress} {at : ℕ} (inv : Keeps t index table₀ out₀ table out from to ll ml lo mo so told at) where
  part_long : length (slice at to index) ≡ to - at
  part_long = length-slice at to index inv.inside

  none_left : to ≤ at → inv.left ≡ []
  unfolding flat_map
  none_left h = go inv.left inv.text
    where
      go : (rs : List Record) → slice at to index ≡ lines_text (map (moved_on ll lo) rs) → rs ≡ []
      go [] e = refl
      go (r ∷ rs) e = absurd (omega (arith, part_long, ap length e, length-append (record_line (moved_on ll lo r)) (lines_text (map (moved_on ll lo) rs)), long (moved_on ll lo r), end_some r.id))

  pub keeps_end : to ≤ at
      → (◌≡◌ {A = Telling} (record { so = told; table = table; out = out }) (tell_all index (record { so = so; table = table₀; out = out₀ }) (map (moved_on ml mo) (records_of t)))) × at_most most_index most_kept so told
  unfolding tell_all
  keeps_end h = (rw (none_left h) at inv.rest, (omega (arith, inv.few, inv.within, inv.inside, inv.size), omega (arith, inv.short, inv.within, inv.inside, inv.size)))

  module _ {got : Option IndexRow} (g : got ≡ record_at index at) (h : at < to) where
    pub first : First index to ll lo at inv.left
    unfolding flat_map AllIn
    first = go inv.left inv.text inv.in_range
      where
        go : (rs : List Record) → slice at to index ≡ lines_text (map (moved_on ll lo) rs) → AllIn (map (moved_on ll lo) rs) → First index to ll lo at rs
        go [] e i = absurd (omega (arith, part_long, ap length e))
        go (r ∷ rs) e i =
            let R : Record = moved_on ll lo r in
            let ls : List ℕ = lines_text (map (moved_on ll lo) rs) in
            let d : drop at index ≡ record_line R ++ (ls ++ drop to index) = seam index at to inv.within ∙ (ap (λ (x : List ℕ). x ++ drop to index) e ∙ append_assoc (record_line R) ls (drop to index)) in
            let x = row_reads index at R (ls ++ drop to index) i.0 d in
            let n : (row_at at R).next ≡ at + length (record_line R) = row_next at R in
            record {
              one = r;
              more = rs;
              is = refl;
              reads = x.0;
              says = x.1.0;
              bounds = i.0;
              on = drop_past (take to index) (record_line R) ls at (row_at at R).next e n;
              on_in = i.1;
              past = omega (arith, n, part_long, ap length e ∙ length-append (record_line R) ls);
            }

    pub keeps_bad : {A : Type 0} → got ≡ None → A
    keeps_bad b = let y : None ≡ Some (row_at at (moved_on ll lo first.one)) = sym b ∙ (g ∙ first.reads) in let z : ◌≡◌ {A = ℕ} 0 1 = cc in absurd (omega arith)

    module _ {e : IndexRow} (b : got ≡ Some e) where
      abbrev R : Record
      R = moved_on ll lo first.one

      row_is_lem : e ≡ row_at at (moved_on ll lo first.one)
      row_is_lem = let y : Some e ≡ Some (row_at at (moved_on ll lo first.one)) = sym b ∙ (g ∙ first.reads) in cc

      says_is : record_in index e ≡ moved_on ll lo first.one
      says_is = ap (record_in index) row_is_lem ∙ first.says

      pub line_is : (e.line ≡ ll + first.one.line) × (e.line ≤ max_text)
      line_is = let y = ap (λ (r : Record). r.line) says_is in (y, omega (arith, y, first.bounds.line_to))

      pub offset_is : (e.offset ≡ lo + first.one.offset) × (e.offset ≤ max_text)
      offset_is = let y = ap (λ (r : Record). r.offset) says_is in (y, omega (arith, y, first.bounds.offset_to))

      next_is : e.next ≡ at + length (record_line (moved_on ll lo first.one))
      next_is = ap (λ (x : IndexRow). x.next) row_is_lem ∙ row_next at (moved_on ll lo first.one)

      line_some : 1 ≤ length (record_line (moved_on ll lo first.one))
      line_some = omega (arith, long (moved_on ll lo first.one), end_some first.one.id)

      pub keeps_less : to - e.next < to - at
      keeps_less = omega (arith, next_is, line_some)

      moved_is : ◌≡◌ {A = Record} (record { line = e.line - ll + ml; count = e.count; offset = e.offset - lo + mo; id = id_in index e.from e.to }) (moved_on ml mo first.one)
      moved_is =
          let a : e.line - ll + ml ≡ ml + first.one.line = omega (arith, line_is.0) in
          let c : e.offset - lo + mo ≡ mo + first.one.offset = omega (arith, offset_is.0) in
          rw (a, c, ap (λ (r : Record). r.count) says_is, ap (λ (r : Record). r.id) says_is)

      pub keeps_go : {told' : Progress} {table' out' : List ℕ}
          → ◌≡◌ {A = Telling} (record { so = told'; table = table'; out = out' }) (tell_one index (record { so = told; table = table; out = out }) (record { line = e.line - ll + ml; count = e.count; offset = e.offset - lo + mo; id = id_in index e.from e.to }))
          → Keeps t index table₀ out₀ table' out' from to ll ml lo mo so told' e.next
      unfolding tell_all
      keeps_go {told'} q =
          let f = first in
          let u : ◌≡◌ {A = Telling} (record { so = told'; table = _; out = _ }) (tell_one index (record { so = told; table = table; out = out }) (moved_on ml mo f.one)) = rw moved_is at q in
          let a = ap (λ (v : Telling). v.so.records) u in
          let c = ap (λ (v : Telling). v.so.next) u in
          let o = one_long index (record { so = told; table = table; out = out }) (moved_on ml mo f.one) in
          let n = numbers_short (ml + f.one.line) f.one.count (mo + f.one.offset) (omega (arith, f.bounds.line_to, inv.few_lines)) (omega (arith, f.bounds.count_to)) (omega (arith, f.bounds.offset_to, inv.few_bytes)) in
          record {
            left = f.more;
            ordered = omega (arith, inv.ordered, next_is);
            within = omega (arith, ap (λ (x : IndexRow). x.next) row_is_lem, f.past);
            inside = inv.inside;
            size = inv.size;
            few_lines = inv.few_lines;
            few_bytes = inv.few_bytes;
            text = rw row_is_lem f.on;
            in_range = f.on_in;
            rest = rw u (rw f.is at inv.rest);
            table_long = ap (λ (v : Telling). length v.table) u ∙ (o.0 ∙ inv.table_long);
            out_long = ap (λ (v : Telling). length v.out) u ∙ (o.1 ∙ inv.out_long);
            few = omega (arith, inv.few, a, next_is, line_some, inv.ordered);
            short = omega (arith, inv.short, c, next_is, line_some, inv.ordered, long (moved_on ml mo f.one), long (moved_on ll lo f.one), n);
          }
