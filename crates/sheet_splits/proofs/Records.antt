-- The records of a sheet that is parted: those of the first part, and then those of the second, their lines and places counted on. So a mended list of records is
-- the fresh one.
-- Assumes nothing.
use Rattle.std.specs.Prelude.{Err, Ok, Result}
use mathlib.Core.Path.{◌≡◌, refl, sym, ◌∙◌, ap}
use mathlib.Core.Bool.{Bool, true, false, cond}
use mathlib.Core.List.{List, [], ◌∷◌, ◌++◌, map, flat_map, map-append}
use Prim.Native.Nat.{ℕ, zero, suc, ◌+◌, ◌<◌, ◌≤◌}
use native.Mathlib.Omega.{arith}
use borrow.Author.Tests.{ltb-true, ltb-false}
use lib.Dec.{ltb}
use lib.ListN.{length, length-append}
use Rattle.base_lists.proofs.Flat.{flat_append}
use Rattle.base_bytes.specs.declared.Mode.TheVariants.{Loose}
use Rattle.base_refusals.specs.Numbers.{max_text}
use Rattle.base_refusals.specs.declared.Refusal.TheVariants.{NoReading, NothingThere}
use Rattle.text_lines.specs.Lines.{lines, line_from, line_at}
use Rattle.text_lines.specs.Trim.{trim}
use Rattle.text_lines.proofs.Lines.{line_at_lem, next_beyond}
use Rattle.block_chain.specs.Chain.{good_line}
use Rattle.block_trimmed_line.specs.Fronts.{front_of, opens_at, begins_indented}
use Rattle.block_trimmed_line.proofs.Trimmed.{front_slice}
use Rattle.set_table.specs.Types.{Texts, one, value_bytes}
use Rattle.set_table.specs.Rows.{Ident, id_values, rows_in}
use Rattle.set_table.specs.declared.Attrs.{Attrs}
use Rattle.set_table.specs.declared.Filled.{Filled}
use Rattle.set_fill.specs.Fill.{chain_at}
use Rattle.run_lines.specs.Runs.{past_lines}
use Rattle.read_blocks.specs.Blocks.{Found, nothing, run_found, found, lines_of}
use Rattle.read_lengths.specs.Lengths.{flush_left}
use Rattle.sheet_blocks.specs.Sheets.{Try, tries_at, is_block, only_blocks}
use Rattle.sheet_blocks.proofs.Tries.{tries_end, tries_on, tries_past, some_lines}
use Rattle.sheet_blocks.proofs.Goes.{block_bytes}
use Rattle.sheet_blocks.proofs.Rooms.{blocks_are}
use Rattle.sheet_records.specs.Records.{RecordId, no_id, an_id, Record}
use Rattle.sheet_verdicts.specs.Verdicts.{block_verdict, verdict_at}
use Rattle.sheet_records.specs.Listed.{id_of, record_of, listed_if, added_of, records_of}
use Rattle.sheet_splits.specs.Parting.{is_whole, farther, moved_on}
use Rattle.sheet_splits.proofs.Lines.{lines_front, drop-behind}
use Rattle.sheet_splits.proofs.Finds.{Flat}
use Rattle.sheet_splits.proofs.Bytes.{id_bytes, Alike}
use Rattle.sheet_splits.proofs.Alike.{line_alike, run_alike}
use Rattle.sheet_splits.proofs.Split.{split, flush_front, flush-behind}
use Rattle.base_refusals.specs.declared.Refusal.{Refusal}

-- ---- the record of a try, by what its set comes to

abbrev id_by : List (List ℕ) → RecordId
id_by [] = no_id
id_by (v ∷ vs) = an_id v

id_by_lem : (t : Texts) (a : Attrs) → id_of t a ≡ id_by (id_bytes t a)
unfolding id_of rows_in
id_by_lem t a = go a.given
  where
    go : (b : Bool) → cond b (an_id (value_bytes t a.id)) no_id ≡ id_by (id_values t (cond b (Ident.given a.id) Ident.missing))
    go true = refl
    go false = refl

-- what a block adds that is of the line n and so many lines, begins at `at`, and came to f over the texts t
abbrev added_in : ℕ → ℕ → ℕ → Texts → Filled → List Record
added_in n k at t f = listed_if (record { line = n; count = k; offset = at; id = id_of t f.set }) (block_verdict t f.set f.outcome)

added_alike : (n k at : ℕ) {t t' : Texts} {f f' : Filled} → Alike t t' f f' → added_in n k at t f ≡ added_in n k at t' f'
unfolding block_verdict
added_alike n k at {t} {t'} {f} {f'} a = rw (id_by_lem t f.set, id_by_lem t' f'.set, a.ids, a.outcome) (go f'.outcome)
  where
    go : (o : Result (Unit {0}) Refusal) → listed_if (record { line = n; count = k; offset = at; id = id_by (id_bytes t' f'.set) }) (block_verdict t f.set o) ≡ listed_if (record { line = n; count = k; offset = at; id = id_by (id_bytes t' f'.set) }) (block_verdict t' f'.set o)
    go (Err r) = refl
    go (Ok _) = rw a.meaning

added-later : (d o n k at : ℕ) (t : Texts) (f : Filled) → added_in (d + n) k (o + at) t f ≡ map (moved_on d o) (added_in n k at t f)
added-later d o n k at t f = go (block_verdict t f.set f.outcome)
  where
    go : (v : Result (Unit {0}) Refusal) → listed_if (record { line = d + n; count = k; offset = o + at; id = id_of t f.set }) v ≡ map (moved_on d o) (listed_if (record { line = n; count = k; offset = at; id = id_of t f.set }) v)
    go (Err r) = refl
    go (Ok _) = refl

-- ---- what a try adds, by its own bytes

abbrev pub records_at : List ℕ → Try → List Record
records_at t x = cond (is_block x.found) (added_of t x) []

-- the bytes that a try reads
abbrev own : List ℕ → ℕ → Found → List ℕ
own t at Found.line = trim (line_at t at)
own t at (Found.run r) = r.text
own t at (Found.none q x n) = []

abbrev added_own : ℕ → ℕ → Found → List ℕ → List Record
added_own n at f s = cond (is_block f) (added_in n (lines_of f) at (one s) (chain_at Loose s 0 (length s))) []

own_later : (d o n at : ℕ) (f : Found) (s : List ℕ) → added_own (d + n) (o + at) f s ≡ map (moved_on d o) (added_own n at f s)
own_later d o n at f s = go (is_block f)
  where
    go : (b : Bool) → cond b (added_in (d + n) (lines_of f) (o + at) (one s) (chain_at Loose s 0 (length s))) [] ≡ map (moved_on d o) (cond b (added_in n (lines_of f) at (one s) (chain_at Loose s 0 (length s))) [])
    go true = added-later d o n (lines_of f) at (one s) (chain_at Loose s 0 (length s))
    go false = refl

own_read : (t : List ℕ) (n at : ℕ) (f : Found) → length t ≤ max_text → (f ≡ Found.line → opens_at t at ≡ true)
    → records_at t (record { line = n; at = at; found = f }) ≡ added_own n at f (own t at f)
unfolding front_of added_of record_of verdict_at
own_read t n at Found.line k o =
    rw (← front_slice t at (o refl)) (added_alike n 1 at (line_alike t (front_of t at).from (front_of t at).to k))
own_read t n at (Found.run r) k o = added_alike n r.lines at (run_alike t r.text)
own_read t n at (Found.none q y m) k o = refl

-- ---- each try stands at a line of its text

line_opens : (t : List ℕ) (cap at : ℕ) → flush_left t cap at ≡ Found.line → opens_at t at ≡ true
unfolding flush_left found
line_opens t cap at e = go (begins_indented (line_at t at)) (opens_at t at) e
  where
    rest : Found
    rest = cond (good_line t (front_of t at).from (front_of t at).to) Found.line (cond (front_of t at).closes (nothing NoReading) (run_found t at 0 cap))

    go : (i o : Bool) → cond i (nothing NothingThere) (cond o rest (nothing NothingThere)) ≡ Found.line → o ≡ true
    go true o e = let z : ◌≡◌ {A = ℕ} 0 1 = ap lines_of e in absurd (omega arith)
    go false true e = refl
    go false false e = let z : ◌≡◌ {A = ℕ} 0 1 = ap lines_of e in absurd (omega arith)

record Stands (t : List ℕ) (x : Try) : Type 0 where
  pub within : x.at < length t
  pub found : x.found ≡ flush_left t max_text x.at

stands_read : (t : List ℕ) (x : Try) → length t ≤ max_text → Stands t x → records_at t x ≡ added_own x.line x.at x.found (own t x.at x.found)
stands_read t x k a = own_read t x.line x.at x.found k (λ e. line_opens t max_text x.at (sym a.found ∙ e))

unfoldable Each : (Try → Type 0) → List Try → Type 0
Each P [] = Unit {0}
Each P (x ∷ xs) = P x × Each P xs

each_stands : (t : List ℕ) (fuel n at : ℕ) → length t ≤ at + fuel → Each (Stands t) (tries_at t max_text n at)
unfolding Each
each_stands t zero n at h = rw (tries_end t max_text n at (omega arith)) tt
each_stands t (suc fuel) n at h = go (ltb at (length t)) refl (is_block (flush_left t max_text at)) refl (each_stands t fuel)
  where
    go : (p : Bool) → ltb at (length t) ≡ p → (q : Bool) → is_block (flush_left t max_text at) ≡ q → ((m k : ℕ) → length t ≤ k + fuel → Each (Stands t) (tries_at t max_text m k)) → Each (Stands t) (tries_at t max_text n at)
    go false p q e ih = rw (tries_end t max_text n at (ltb-false at (length t) p)) tt
    go true p false e ih =
        let l = ltb-true at (length t) p in
        rw (tries_on t max_text n at l e) (record { within = l; found = refl }, ih (suc n) (line_from t at).next (omega (arith, h, next_beyond t at l)))
    go true p true e ih =
        let l = ltb-true at (length t) p in
        let k = lines_of (flush_left t max_text at) in
        rw (tries_past t max_text n at l e) (record { within = l; found = refl }, ih (n + k) (past_lines k t at) (omega (arith, h, block_bytes t max_text at l, some_lines t at max_text e)))

flat_each : (P : Try → Type 0) (f g : Try → List Record) → ((x : Try) → P x → f x ≡ g x) → (xs : List Try) → Each P xs → flat_map f xs ≡ flat_map g xs
unfolding Each flat_map
flat_each P f g h [] e = refl
flat_each P f g h (x ∷ xs) e = rw (h x e.0, flat_each P f g h xs e.1)

flat_map_lem : (f : Try → List Record) (h : Try → Try) (xs : List Try) → flat_map f (map h xs) ≡ flat_map (λ x. f (h x)) xs
unfolding flat_map
flat_map_lem f h [] = refl
flat_map_lem f h (x ∷ xs) = ap (λ (ys : List Record). f (h x) ++ ys) (flat_map_lem f h xs)

map_flat : (h : Record → Record) (f : Try → List Record) (xs : List Try) → map h (flat_map f xs) ≡ flat_map (λ x. map h (f x)) xs
unfolding flat_map
map_flat h f [] = refl
map_flat h f (x ∷ xs) = map-append h (f x) (flat_map f xs) ∙ ap (λ (ys : List Record). map h (f x) ++ ys) (map_flat h f xs)

-- the records of a sheet, try by try
flat_only : (f : Try → List Record) (xs : List Try) → flat_map f (only_blocks xs) ≡ flat_map (λ x. cond (is_block x.found) (f x) []) xs
unfolding flat_map only_blocks
flat_only f [] = refl
flat_only f (x ∷ xs) = go (is_block x.found) (flat_only f xs)
  where
    go : (b : Bool) → flat_map f (only_blocks xs) ≡ flat_map (λ x. cond (is_block x.found) (f x) []) xs
        → flat_map f (cond b (x ∷ only_blocks xs) (only_blocks xs)) ≡ cond b (f x) [] ++ flat_map (λ x. cond (is_block x.found) (f x) []) xs
    go true ih = ap (λ (ys : List Record). f x ++ ys) ih
    go false ih = ih

pub records_are : (t : List ℕ) → length t ≤ max_text → records_of t ≡ flat_map (records_at t) (tries_at t max_text 1 0)
unfolding records_of
records_are t k = ap (flat_map (added_of t)) (blocks_are t max_text k k) ∙ flat_only (added_of t) (tries_at t max_text 1 0)

-- ---- the two parts

module _ (x y : List ℕ) (w : is_whole x ≡ true) (f : Flat (lines y)) (k : length (x ++ y) ≤ max_text) where
  k_x : length x ≤ max_text
  k_x = omega (arith, k, length-append x y)

  k_y : length y ≤ max_text
  k_y = omega (arith, k, length-append x y)

  front_own : (r : Try) → Stands x r → records_at (x ++ y) r ≡ records_at x r
  front_own r a =
      let p : Stands (x ++ y) r = record { within = omega (arith, a.within, length-append x y); found = a.found ∙ sym (flush_front x y w f max_text r.at a.within) } in
      stands_read (x ++ y) r k p ∙ ap (added_own r.line r.at r.found) (go r.found) ∙ sym (stands_read x r k_x a)
    where
      line : line_at (x ++ y) r.at ≡ line_at x r.at
      line = rw (lines_front x y w r.at a.within, line_at_lem x r.at a.within)

      go : (g : Found) → own (x ++ y) r.at g ≡ own x r.at g
      go Found.line = ap trim line
      go (Found.run q) = refl
      go (Found.none q z n) = refl

  behind_own : (d : ℕ) (r : Try) → Stands y r → records_at (x ++ y) (farther d (length x) r) ≡ map (moved_on d (length x)) (records_at y r)
  behind_own d r a =
      let p : Stands (x ++ y) (farther d (length x) r) = record { within = omega (arith, a.within, length-append x y); found = a.found ∙ sym (flush-behind x y max_text d r.at) } in
      stands_read (x ++ y) (farther d (length x) r) k p
      ∙ ap (added_own (d + r.line) (length x + r.at) r.found) (go r.found)
      ∙ own_later d (length x) r.line r.at r.found (own y r.at r.found)
      ∙ ap (map (moved_on d (length x))) (sym (stands_read y r k_y a))
    where
      go : (g : Found) → own (x ++ y) (length x + r.at) g ≡ own y r.at g
      go Found.line = rw (drop-behind x y r.at)
      go (Found.run q) = refl
      go (Found.none q z n) = refl

  pub records_split : records_of (x ++ y) ≡ records_of x ++ map (moved_on (length (lines x)) (length x)) (records_of y)
  records_split =
      let d = length (lines x) in
      let o = length x in
      records_are (x ++ y) k
      ∙ ap (flat_map (records_at (x ++ y))) (split x y w f max_text 1)
      ∙ flat_append (records_at (x ++ y)) (tries_at x max_text 1 0) (map (farther d o) (tries_at y max_text 1 0))
      ∙ (rw (
        flat_each (Stands x) (records_at (x ++ y)) (records_at x) front_own (tries_at x max_text 1 0) (each_stands x (length x) 1 0 (omega arith)),
        flat_map_lem (records_at (x ++ y)) (farther d o) (tries_at y max_text 1 0),
        flat_each (Stands y) (λ r. records_at (x ++ y) (farther d o r)) (λ r. map (moved_on d o) (records_at y r)) (behind_own d) (tries_at y max_text 1 0) (each_stands y (length y) 1 0 (omega arith)),
        ← map_flat (moved_on d o) (records_at y) (tries_at y max_text 1 0),
        ← records_are x k_x,
        ← records_are y k_y,
      ))
