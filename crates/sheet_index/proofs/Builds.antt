-- Building: measuring the records of a sheet, then laying them.
-- Assumes nothing.
use Rattle.std.specs.Prelude.{Err, None, Ok, Option, Result, Some}
use mathlib.Core.Path.{◌≡◌, refl, sym, ◌∙◌, ap}
use mathlib.Core.Bool.{Bool, true, false}
use mathlib.Core.List.{List, [], ◌∷◌, ◌++◌, append-nil, flat_map}
use Prim.Native.Nat.{ℕ, suc, ◌+◌, ◌*◌, ◌/◌, ◌^◌, ◌≤◌, ◌<◌}
use native.Mathlib.Nat.{div-add-mod}
use native.Mathlib.Omega.{arith}
use borrow.Author.Tests.{le-leb, lt-ltb, le-ltb}
use lib.ListN.{length, length-append}
use lib.Seq.{slice, sets, length-sets}
use Rattle.base_lists.specs.Lists.{over}
use Rattle.base_lists.proofs.Sets.{sets-append}
use Rattle.base_lists.proofs.Flat.{flat_append}
use Rattle.base_refusals.specs.Numbers.{max_text}
use Rattle.base_refusals.specs.Orders.{in_order, on_paper}
use Rattle.base_refusals.specs.declared.Refusal.{Refusal}
use Rattle.base_refusals.specs.declared.Refusal.TheVariants.{JoinFull, TableFull, IndexTooLong}
use Rattle.base_refusals.proofs.Orders.{paper_by}
use Rattle.text_checks.specs.Check.{text_order, check_of}
use Rattle.set_marks.specs.Marks.{bytes_in, raw_text, raw_bytes, is_quoted_text, is_quoted}
use Rattle.set_table.specs.Types.{Texts, two, text_bytes, value_bytes}
use Rattle.set_table.specs.declared.Text as texts
use Rattle.set_table.specs.declared.Text.TheVariants as text
use Rattle.set_table.specs.declared.Attrs.{Attrs}
use Rattle.set_table.specs.declared.Value.{Value}
use Rattle.sheet_blocks.specs.declared.Next.{Next}
use Rattle.sheet_blocks.specs.Sheets.{tries_at, join_behind, next_of, next_tries}
use Rattle.sheet_verdicts.specs.Verdicts.{block_verdict}
use Rattle.sheet_records.specs.Records.{Record, numbers_text, record_line, index_header, index_text, row_at, rows_at, index_rows, row_numbers, table_numbers}
use Rattle.sheet_records.specs.Listed.{id_of, listed_if, records_of}
use Rattle.sheet_records.specs.Writing.{raw_id, line_fits, put_of, line_over, table_size, row_over}
use Rattle.sheet_records.specs.Inner.{line_size}
use Rattle.sheet_records.specs.declared.IndexRow.{IndexRow}
use Rattle.set_marks.proofs.Values.{bytes_short}
use Rattle.sheet_records.proofs.Lines.{header_long, front_laid, line_size_lem, row_next, numbers_short}
use Rattle.sheet_index.specs.Building.{sheet_order, room_for, laid_by, build_order, built_of, built_text, built_table, built_tries, built_paper}
use Rattle.sheet_index.specs.Inner.{set_record, block_adds, lines_text, most_line, adds_sizes, sizes_of, put_added, added_over, room_to_join, checked_order, checked_built}
use Rattle.sheet_index.specs.declared.Sizes.{Sizes}
use Rattle.sheet_index.proofs.Steps.{order_met, order_past, join_twice}
use Rattle.sheet_index.proofs.Rounds as round

-- ---- measuring

pub record Measures (t join₀ join : List ℕ) (at line records bytes : ℕ) : Type 0 where
  pub left : List Record
  pub rounds : round.Rounds t join₀ join at line left
  pub count : records + length left ≡ length (records_of t)
  pub size : bytes + length (lines_text left) ≡ length (index_text (records_of t))
  pub few : records ≤ at
  pub short : bytes ≤ 19 + 65599 * at

pub index_long : (rs : List Record) → length (index_text rs) ≡ 19 + length (lines_text rs)
unfolding index_text
index_long rs = length-append index_header (lines_text rs) ∙ omega (arith, header_long)

pub measures_start : (t join : List ℕ) → length t ≤ max_text → max_text ≤ length join → Measures t join join 0 1 0 19
measures_start t join k j = record { left = records_of t; rounds = round.rounds_start t join k j; count = omega arith; size = sym (index_long (records_of t)); few = omega arith; short = omega arith }

-- a block adds one record at most
adds_one : (r : Record) (o : Result (Unit {0}) Refusal) → length (listed_if r o) ≤ 1
adds_one r (Ok _) = omega arith
adds_one r (Err q) = omega arith

module _ {t join₀ join : List ℕ} {at line records bytes : ℕ} (inv : Measures t join₀ join at line records bytes)
    {r : Next} {join' : List ℕ} (e : r ≡ next_of t (length join) at) (j : join' ≡ join_behind join (next_tries t (length join) at)) where
  pub measures_none : r.block.lines ≡ 0 → (record { records = records; bytes = bytes } ≡ sizes_of (records_of t)) × (join' ≡ join_behind join₀ (tries_at t max_text 1 0))
  unfolding flat_map
  measures_none z =
      let w = round.rounds_none inv.rounds e j z in
      let a : records ≡ length (records_of t) = omega (arith, ap length w.0, inv.count) in
      let b : bytes ≡ length (index_text (records_of t)) = omega (arith, rw w.0 at inv.size) in
      (rw (a, b), w.1)

  module _ (z : r.block.lines ≡ 0 → ⊥) {m : Sizes}
      (q : (m ≡ adds_sizes (block_adds (two t (slice 0 r.block.joined join')) (line + r.skipped) r.block.lines r.at r.block.set r.block.outcome)) × (m.bytes ≤ most_line)) where
    abbrev adds : List Record
    adds = block_adds (two t (slice 0 r.block.joined join')) (line + r.skipped) r.block.lines r.at r.block.set r.block.outcome

    pub adds_few : m.records ≤ 1
    adds_few =
        let h : length adds ≤ 1 = adds_one (set_record (two t (slice 0 r.block.joined join')) (line + r.skipped) r.block.lines r.at r.block.set) (block_verdict (two t (slice 0 r.block.joined join')) r.block.set r.block.outcome) in
        omega (arith, h, ap (λ (s : Sizes). s.records) q.0)

    pub measures_go : Measures t join₀ join' r.block.next (line + r.skipped + r.block.lines) (records + m.records) (bytes + m.bytes)
    unfolding flat_map
    measures_go =
        let w = round.rounds_go inv.rounds e j z in
        let a = ap (λ (s : Sizes). s.records) q.0 in
        let b = ap (λ (s : Sizes). s.bytes) q.0 in
        let c : length inv.left ≡ length adds + length w.more = ap length w.is ∙ length-append adds w.more in
        let d : length (lines_text inv.left) ≡ length (lines_text adds) + length (lines_text w.more) = ap (λ (rs : List Record). length (lines_text rs)) w.is ∙ (ap length (flat_append record_line adds w.more) ∙ length-append (lines_text adds) (lines_text w.more)) in
        record {
          left = w.more;
          rounds = w.rounds;
          count = omega (arith, a, c, inv.count);
          size = omega (arith, b, d, inv.size);
          few = omega (arith, inv.few, adds_few, round.next_past inv.rounds e j z);
          short = omega (arith, inv.short, q.1, round.next_past inv.rounds e j z);
        }

-- ---- laying

pub record Lays (t join₀ table₀ out₀ join table out : List ℕ) (at line i k : ℕ) : Type 0 where
  pub left : List Record
  pub rounds : round.Rounds t join₀ join at line left
  pub text : sets out k (lines_text left) ≡ sets out₀ 19 (lines_text (records_of t))
  pub room : k + length (lines_text left) ≤ length out
  pub out_long : length out ≡ length out₀
  pub rows : sets table (i * 5) (table_numbers (rows_at k left)) ≡ sets table₀ 0 (table_numbers (index_rows (records_of t)))
  pub seats : i + length left ≤ length table / 5
  pub table_long : length table ≡ length table₀
  pub few : i ≤ at

-- out₀ is the buffer with the first line in it
pub lays_start : (t join table buf : List ℕ) → length t ≤ max_text → max_text ≤ length join → length (records_of t) ≤ table_size (length table) → length (index_text (records_of t)) ≤ length buf
    → {out : List ℕ} → out ≡ sets buf 0 index_header → Lays t join table out join table out 0 1 0 19
unfolding index_rows
lays_start t join table buf k j seats room {out} e =
    record {
      left = records_of t;
      rounds = round.rounds_start t join k j;
      text = refl;
      room = omega (arith, ap length e ∙ length-sets buf 0 index_header, index_long (records_of t), room);
      out_long = refl;
      rows = rw header_long;
      seats = omega (arith, seats);
      table_long = refl;
      few = omega arith;
    }

-- the whole text, once the lines are laid behind the first
pub text_whole : (t buf : List ℕ) {head out : List ℕ} → length (index_text (records_of t)) ≤ length buf → head ≡ sets buf 0 index_header → out ≡ sets head 19 (lines_text (records_of t)) → out ≡ over (index_text (records_of t)) buf
unfolding index_text
text_whole t buf room e f =
    let z : 0 + length index_header ≡ 19 = omega (arith, header_long) in
    f ∙ (rw e (sym (rw z at (sets-append buf 0 index_header (lines_text (records_of t))))) ∙ front_laid buf (index_header ++ lines_text (records_of t)) room)

-- the numbers of rows that have their seats have room
row_numbers_lem : (at : ℕ) (rs : List Record) → length (table_numbers (rows_at at rs)) ≡ length rs * 5
unfolding rows_at table_numbers flat_map
row_numbers_lem at [] = refl
row_numbers_lem at (r ∷ rs) = let z = row_numbers_lem (row_at at r).next rs in omega arith

pub table_whole : (t buf : List ℕ) {table : List ℕ} → length (records_of t) ≤ table_size (length buf) → table ≡ sets buf 0 (table_numbers (index_rows (records_of t))) → table ≡ over (table_numbers (index_rows (records_of t))) buf
unfolding index_rows
table_whole t buf h e = e ∙ front_laid buf (table_numbers (index_rows (records_of t))) (omega (arith, row_numbers_lem (length index_header) (records_of t), div-add-mod (length buf) 5))

-- what is written for a record whose verdict is o, where it has room
module _ (buf : List ℕ) (k : ℕ) (r : Record) (more : List Record) where
  fits_so : (o : Result (Unit {0}) Refusal) → k + length (lines_text (listed_if r o ++ more)) ≤ length buf → o ≡ Ok tt → line_fits (length buf) k r ≡ true
  unfolding flat_map
  fits_so o h e = le-leb (k + length (record_line r)) (length buf) (omega (arith, length-append (record_line r) (lines_text more), ap (λ x. length (lines_text (listed_if r x ++ more))) e))

  pub none_added : (o : Result (Unit {0}) Refusal) {p : Option IndexRow} → k + length (lines_text (listed_if r o ++ more)) ≤ length buf → p ≡ put_added (length buf) k (listed_if r o) → p ≡ None → listed_if r o ≡ []
  unfolding put_added put_of
  none_added (Err q) h e f = refl
  none_added (Ok _) h e f = let z : Some (row_at k r) ≡ None = sym (rw (fits_so (Ok tt) h refl) at (sym f ∙ e)) in let g : ◌≡◌ {A = ℕ} 0 1 = cc in absurd (omega arith)

  pub one-added : (o : Result (Unit {0}) Refusal) {p : Option IndexRow} {e : IndexRow} → k + length (lines_text (listed_if r o ++ more)) ≤ length buf → p ≡ put_added (length buf) k (listed_if r o) → p ≡ Some e
      → (listed_if r o ≡ r ∷ []) × ((e ≡ row_at k r) × (added_over buf k (listed_if r o) ≡ sets buf k (record_line r)))
  unfolding put_added put_of added_over line_over
  one-added (Err q) h e f = let z : ◌≡◌ {A = ℕ} 0 1 = cc in absurd (omega arith)
  one-added (Ok _) {p} {e = x} h e f =
      let w = fits_so (Ok tt) h refl in
      let z : Some x ≡ Some (row_at k r) = rw w at (sym f ∙ e) in
      let g : x ≡ row_at k r = cc in
      (refl, (g, rw w))

  pub none_over : (o : Result (Unit {0}) Refusal) → listed_if r o ≡ [] → added_over buf k (listed_if r o) ≡ buf
  unfolding added_over
  none_over o e = rw e

module _ {t join₀ table₀ out₀ join table out : List ℕ} {at line i k : ℕ} (inv : Lays t join₀ table₀ out₀ join table out at line i k)
    {r : Next} {join' : List ℕ} (e : r ≡ next_of t (length join) at) (j : join' ≡ join_behind join (next_tries t (length join) at)) where
  pub lays_none : r.block.lines ≡ 0
      → (join' ≡ join_behind join₀ (tries_at t max_text 1 0)) × ((table ≡ sets table₀ 0 (table_numbers (index_rows (records_of t)))) × (out ≡ sets out₀ 19 (lines_text (records_of t))))
  unfolding rows_at table_numbers flat_map
  lays_none z =
      let w = round.rounds_none inv.rounds e j z in
      (w.1, (rw w.0 at inv.rows, rw w.0 at inv.text))

  module _ (z : r.block.lines ≡ 0 → ⊥) {p : Option IndexRow} {out' : List ℕ}
      (q : p ≡ put_added (length out) k (block_adds (two t (slice 0 r.block.joined join')) (line + r.skipped) r.block.lines r.at r.block.set r.block.outcome))
      (o : out' ≡ added_over out k (block_adds (two t (slice 0 r.block.joined join')) (line + r.skipped) r.block.lines r.at r.block.set r.block.outcome)) where
    abbrev rec : Record
    rec = set_record (two t (slice 0 r.block.joined join')) (line + r.skipped) r.block.lines r.at r.block.set

    abbrev verdict : Result (Unit {0}) Refusal
    verdict = block_verdict (two t (slice 0 r.block.joined join')) r.block.set r.block.outcome

    abbrev w : round.Next-round t join₀ join' r.block.next (line + r.skipped + r.block.lines) inv.left (block_adds (two t (slice 0 r.block.joined join')) (line + r.skipped) r.block.lines r.at r.block.set r.block.outcome)
    w = round.rounds_go inv.rounds e j z

    room_is : k + length (lines_text (block_adds (two t (slice 0 r.block.joined join')) (line + r.skipped) r.block.lines r.at r.block.set r.block.outcome ++ w.more)) ≤ length out
    room_is = rw w.is at inv.room

    pub lays_pass : p ≡ None → Lays t join₀ table₀ out₀ join' table out' r.block.next (line + r.skipped + r.block.lines) i k
    lays_pass y =
        let a = none_added out k rec w.more verdict room_is q y in
        let b : out' ≡ out = o ∙ none_over out k rec w.more verdict a in
        let c : inv.left ≡ w.more = w.is ∙ ap (λ (xs : List Record). xs ++ w.more) a in
        record {
          left = w.more;
          rounds = w.rounds;
          text = rw (b, ← c) inv.text;
          room = rw (b, ← c) inv.room;
          out_long = rw b inv.out_long;
          rows = rw (← c) inv.rows;
          seats = rw (← c) inv.seats;
          table_long = inv.table_long;
          few = omega (arith, inv.few, round.next_past inv.rounds e j z);
        }

    module _ {row : IndexRow} (y : p ≡ Some row) where
      one : (listed_if rec verdict ≡ rec ∷ []) × ((row ≡ row_at k rec) × (added_over out k (listed_if rec verdict) ≡ sets out k (record_line rec)))
      one = one-added out k rec w.more verdict room_is q y

      left_is : inv.left ≡ set_record (two t (slice 0 r.block.joined join')) (line + r.skipped) r.block.lines r.at r.block.set ∷ w.more
      left_is = w.is ∙ ap (λ (xs : List Record). xs ++ w.more) one.0

      pub seat : i < length table / 5
      seat = omega (arith, inv.seats, ap length left_is)

      pub lays_go : {table' : List ℕ} → table' ≡ row_over table i row → Lays t join₀ table₀ out₀ join' table' out' r.block.next (line + r.skipped + r.block.lines) (i + 1) row.next
      unfolding row_over rows_at table_numbers flat_map
      lays_go {table'} g =
          let R : Record = rec in
          let b : out' ≡ sets out k (record_line R) = o ∙ one.1.1 in
          let bl : length out' ≡ length out = ap length b ∙ length-sets out k (record_line R) in
          let d : table' ≡ sets table (i * 5) (row_numbers row) = g ∙ rw (lt-ltb i (length table / 5) seat) in
          let dl : length table' ≡ length table = ap length d ∙ length-sets table (i * 5) (row_numbers row) in
          let n : row.next ≡ k + length (record_line R) = ap (λ (x : IndexRow). x.next) one.1.0 ∙ row_next k R in
          let i5 : (i + 1) * 5 ≡ i * 5 + 5 = omega arith in
          record {
            left = w.more;
            rounds = w.rounds;
            text = rw (b, n) (sym (sets-append out k (record_line R) (lines_text w.more)) ∙ (rw left_is at inv.text));
            room = omega (arith, n, bl, rw left_is at inv.room, length-append (record_line R) (lines_text w.more));
            out_long = bl ∙ inv.out_long;
            rows = rw (d, i5) (sym (sets-append table (i * 5) (row_numbers row) (table_numbers (rows_at row.next w.more))) ∙ rw one.1.0 (rw left_is at inv.rows));
            seats = omega (arith, dl, inv.seats, ap length left_is);
            table_long = dl ∙ inv.table_long;
            few = omega (arith, inv.few, round.next_past inv.rounds e j z);
          }

-- ---- the line of a set

-- the value of the id, raw or unescaped
value_is : (t : Texts) (v : Value) → bytes_in (is_quoted v) (raw_bytes t v) ≡ value_bytes t v
unfolding raw_bytes is_quoted value_bytes
value_is t v = go v.text
  where
    go : (x : texts.Text) → bytes_in (is_quoted_text x) (raw_text t x) ≡ text_bytes t x
    go (text.Plain o a b) = refl
    go (text.Quoted o a b) = refl
    go text.Empty = refl

pub id_is : (t : Texts) (a : Attrs) → raw_id a.given (is_quoted a.id) (raw_bytes t a.id) ≡ id_of t a
unfolding id_of
id_is t a = rw (value_is t a.id)

sized_yes : (g : Bool) → g ≡ true → (n m : ℕ) → line_size n g m ≡ suc (suc (n + m))
sized_yes g y n m = rw y

sized_no : (g : Bool) → g ≡ false → (n m : ℕ) → line_size n g m ≡ suc n
sized_no g y n m = rw y

module _ (t : Texts) (n k at : ℕ) (a : Attrs) (hn : n < 2 ^ 64) (hk : k < 2 ^ 64) (ha : at < 2 ^ 64) where
  size_is : length (record_line (set_record t n k at a)) ≡ line_size (length (numbers_text n k at)) a.given (length (bytes_in (is_quoted a.id) (raw_bytes t a.id)))
  size_is = rw (← id_is t a) (line_size_lem n k at a.given (is_quoted a.id) (raw_bytes t a.id))

  module _ {raw : List ℕ} {m : ℕ} (r : (raw ≡ raw_bytes t a.id) × (length raw ≤ max_text)) (e : m ≡ length (numbers_text n k at)) where
    pub numbers_few : m ≤ 62
    numbers_few = omega (arith, e, numbers_short n k at hn hk ha)

    pub id_few : (q : Bool) {x : ℕ} → x ≡ length (bytes_in q raw) → x ≤ max_text
    id_few q h = omega (arith, h, bytes_short q raw, r.1)

    pub set_given : (q : Bool) {x : ℕ} → a.given ≡ true → q ≡ is_quoted a.id → x ≡ length (bytes_in q raw) → (m + 2 + x ≡ length (record_line (set_record t n k at a))) × (m + 2 + x ≤ most_line)
    set_given q {x} y f h =
        let z : x ≡ length (bytes_in (is_quoted a.id) (raw_bytes t a.id)) = h ∙ rw (f, r.0) in
        (omega (arith, e, z, size_is, sized_yes a.given y (length (numbers_text n k at)) (length (bytes_in (is_quoted a.id) (raw_bytes t a.id)))), omega (arith, numbers_few, id_few q h))

    pub set_none : a.given ≡ false → (m + 1 ≡ length (record_line (set_record t n k at a))) × (m + 1 ≤ most_line)
    set_none y = (omega (arith, e, size_is, sized_no a.given y (length (numbers_text n k at)) (length (bytes_in (is_quoted a.id) (raw_bytes t a.id)))), omega (arith, numbers_few))

-- ---- by the verdict

module _ (r : Record) {v o : Result (Unit {0}) Refusal} (e : v ≡ o) where
  pub adds_none : {q : Refusal} → v ≡ Err q → (record { records = 0; bytes = 0 } ≡ adds_sizes (listed_if r o)) × (◌≤◌ 0 most_line)
  unfolding flat_map
  adds_none f = rw (← e, f) (refl, omega arith)

  pub adds_some : {b : ℕ} → v ≡ Ok tt → (b ≡ length (record_line r)) × (b ≤ most_line) → (record { records = 1; bytes = b } ≡ adds_sizes (listed_if r o)) × (b ≤ most_line)
  unfolding flat_map
  adds_some f q = rw (← e, f) (rw (q.0, append-nil (record_line r)), q.1)

  module _ (buf : List ℕ) (k : ℕ) where
    pub puts_none : {q : Refusal} → v ≡ Err q → (None ≡ put_added (length buf) k (listed_if r o)) × (buf ≡ added_over buf k (listed_if r o))
    unfolding put_added added_over
    puts_none f = rw (← e, f) (refl, refl)

    pub puts_some : {p : Option IndexRow} {b : List ℕ} → v ≡ Ok tt → p ≡ put_of (length buf) k r → b ≡ line_over buf k r → (p ≡ put_added (length buf) k (listed_if r o)) × (b ≡ added_over buf k (listed_if r o))
    unfolding put_added added_over
    puts_some f g h = rw (← e, f) (g, h)

-- ---- the whole

module _ (t join₀ table₀ out₀ : List ℕ) where
  abbrev cap : ℕ
  cap = length join₀

  abbrev n : ℕ
  n = length table₀

  abbrev size : ℕ
  size = length out₀

  -- what is promised behind 1 and 2
  abbrev pub Checked : Result (ℕ × ℕ) Refusal → List ℕ → List ℕ → List ℕ → Type 0
  Checked r join table out =
      (r ≡ checked_built t cap n size)
      × ((join ≡ join_behind join₀ (laid_by (room_to_join cap) (tries_at t max_text 1 0)))
      × ((table ≡ over (laid_by (checked_order t cap n size) (table_numbers (index_rows (records_of t)))) table₀)
      × (out ≡ over (laid_by (checked_order t cap n size) (index_text (records_of t))) out₀)))

  pub checked_join : cap < max_text → Checked (Err JoinFull) join₀ table₀ out₀
  unfolding checked_built in_order join_behind
  checked_join h = rw (lt-ltb cap max_text h) (refl, (refl, (refl, refl)))

  module _ (wide : max_text ≤ cap) {s : Sizes} (e : s ≡ sizes_of (records_of t)) {join : List ℕ} (j : join ≡ join_behind join₀ (tries_at t max_text 1 0)) where
    pub checked_table : table_size n < s.records → Checked (Err TableFull) join table₀ out₀
    unfolding checked_built in_order room_for
    checked_table h = let k : table_size n < length (records_of t) = rw e at h in rw (le-ltb cap max_text wide, lt-ltb (table_size n) (length (records_of t)) k) (refl, (j, (refl, refl)))

    module _ (fits : s.records ≤ table_size n) where
      seats : length (records_of t) ≤ table_size n
      seats = rw e at fits

      pub checked_text : size < s.bytes → Checked (Err IndexTooLong) join table₀ out₀
      unfolding checked_built in_order room_for
      checked_text h =
          let k : size < length (index_text (records_of t)) = rw e at h in
          rw (le-ltb cap max_text wide, le-ltb (table_size n) (length (records_of t)) seats, lt-ltb size (length (index_text (records_of t))) k) (refl, (j, (refl, refl)))

      module _ (room : s.bytes ≤ size) where
        pub lay_room : (length (records_of t) ≤ table_size n) × (length (index_text (records_of t)) ≤ size)
        lay_room = (seats, rw e at room)

        pub checked_whole : {join' table out : List ℕ} → join' ≡ join_behind join (tries_at t max_text 1 0) → table ≡ over (table_numbers (index_rows (records_of t))) table₀ → out ≡ over (index_text (records_of t)) out₀
            → Checked (Ok (s.records, s.bytes)) join' table out
        unfolding checked_built in_order room_for
        checked_whole a b c =
            rw (le-ltb cap max_text wide, le-ltb (table_size n) (length (records_of t)) seats, le-ltb size (length (index_text (records_of t))) lay_room.1, e)
            (refl, (a ∙ rw j (join_twice join₀ (tries_at t max_text 1 0)), (b, c)))

  -- what is promised
  abbrev pub Builds : Result (ℕ × ℕ) Refusal → List ℕ → List ℕ → List ℕ → Type 0
  Builds r join table out =
      (r ≡ built_of t cap n size)
      × ((join ≡ join_behind join₀ (built_tries t cap))
      × ((table ≡ over (built_table t cap n size) table₀)
      × ((out ≡ over (built_text t cap n size) out₀)
      × (built_paper r ≡ on_paper (build_order t cap n size) (length (records_of t) ∷ length (index_text (records_of t)) ∷ [])))))

  paper : built_paper (built_of t cap n size) ≡ on_paper (build_order t cap n size) (length (records_of t) ∷ length (index_text (records_of t)) ∷ [])
  unfolding built_of on_paper in_order
  paper =
      paper_by built_paper Err (length (records_of t) ∷ length (index_text (records_of t)) ∷ []) (λ r. refl) (build_order t cap n size) [] {next = Ok (length (records_of t), length (index_text (records_of t)))} refl
      ∙ ap (λ gs. on_paper gs (length (records_of t) ∷ length (index_text (records_of t)) ∷ [])) (append-nil (build_order t cap n size))

  module _ {c : Result (Unit {0}) Refusal} (e : c ≡ check_of t) where
    pub builds_refused : {why : Refusal} → c ≡ Err why → Builds (Err why) join₀ table₀ out₀
    unfolding built_of built_tries built_table built_text build_order sheet_order check_of join_behind
    builds_refused {why} f =
        let m : in_order Err (text_order t) (Ok tt) ≡ Err why = sym e ∙ f in
        let r : Err why ≡ built_of t cap n size = sym (order_met Err (Ok (length (records_of t), length (index_text (records_of t)))) (text_order t) (checked_order t cap n size) m) in (
          r,
          (
            ap (join_behind join₀) (sym (order_met (λ q. []) (tries_at t max_text 1 0) (text_order t) (room_to_join cap) m)),
            (
              ap (λ xs. over xs table₀) (sym (order_met (λ q. []) (table_numbers (index_rows (records_of t))) (text_order t) (checked_order t cap n size) m)),
              (
                ap (λ xs. over xs out₀) (sym (order_met (λ q. []) (index_text (records_of t)) (text_order t) (checked_order t cap n size) m)),
                ap built_paper r ∙ paper,
              ),
            ),
          ),
        )

    pub builds_passed : {b : Result (ℕ × ℕ) Refusal} {join table out : List ℕ} → c ≡ Ok tt → Checked b join table out → Builds b join table out
    unfolding built_of built_tries built_table built_text build_order sheet_order check_of checked_built
    builds_passed {b} f h =
        let m : in_order Err (text_order t) (Ok tt) ≡ (Ok tt) = sym e ∙ f in
        let r : b ≡ built_of t cap n size = h.0 ∙ sym (order_past Err (Ok (length (records_of t), length (index_text (records_of t)))) (text_order t) (checked_order t cap n size) m) in (
          r,
          (
            h.1.0 ∙ ap (join_behind join₀) (sym (order_past (λ q. []) (tries_at t max_text 1 0) (text_order t) (room_to_join cap) m)),
            (
              h.1.1.0 ∙ ap (λ xs. over xs table₀) (sym (order_past (λ q. []) (table_numbers (index_rows (records_of t))) (text_order t) (checked_order t cap n size) m)),
              (
                h.1.1.1 ∙ ap (λ xs. over xs out₀) (sym (order_past (λ q. []) (index_text (records_of t)) (text_order t) (checked_order t cap n size) m)),
                ap built_paper r ∙ paper,
              ),
            ),
          ),
        )
