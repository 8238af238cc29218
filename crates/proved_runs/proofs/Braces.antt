-- The last open brace: what is found is what the rules say and nothing else, and its column counts characters.
-- Assumes nothing.
use Rattle.std.specs.Prelude.{None, Option, Some}
use mathlib.Core.Path.{◌≡◌, refl, sym, ◌∙◌, ap}
use mathlib.Core.Bool.{Bool, true, false, cond, not, ◌&&◌}
use mathlib.Core.List.{List, [], ◌∷◌}
use Prim.Native.Nat.{ℕ, suc, ◌+◌, ◌*◌, ◌<◌}
use native.Mathlib.Omega.{arith}
use lib.Dec.{eqb}
use lib.ListN.{length, length-append}
use borrow.Author.Tests.{not-true}
use Rattle.base_lists.proofs.Scan.{both}
use Rattle.base_lists.proofs.More.{contra}
use Rattle.text_tabs.specs.Columns.{column_after, columns_from}
use Rattle.text_tabs.proofs.Laws.{capped_id, columns_le}
use Rattle.proved_texts.proofs.Tabs.{columns_count}
use Rattle.block_grammar.specs.Close.{uncovered, fresh}
use Rattle.block_grammar.specs.declared.Scan.{Scan}
use Rattle.run_scanners.specs.declared.Seek.{Seek}
use Rattle.run_scanners.specs.Scanners.{passed, ignored, scan_from, is_bare, seek_step, seek_from, seek_start, last_open_brace, capped_at}
use Rattle.proved_runs.specs.Rules.{none_bare, tabs_spaced, LastBrace}
use Rattle.run_scanners.proofs.Laws.{seek_append}
use Rattle.run_lines.proofs.Bounds as bounds
use Rattle.proved_runs.specs.Scanning.{BraceSound, BraceComplete, NoneFound, NoneStands, BraceCount, BraceWhole, LaterLine, FarBrace}
use Rattle.proved_runs.proofs.Quotes.{bare_is, brace_stays}

-- ---- the search's three parts

seek_scan : (k : Seek) (s : List ℕ) → (seek_from k s).scan ≡ scan_from ignored k.scan s
unfolding seek_from scan_from seek_step
seek_scan k [] = refl
seek_scan k (b ∷ s) = seek_scan (seek_step k b) s

seek_column : (k : Seek) (s : List ℕ) → (seek_from k s).column ≡ columns_from k.column (tabs_spaced k.scan s)
unfolding seek_from columns_from tabs_spaced seek_step
seek_column k [] = refl
seek_column k (b ∷ s) = seek_column (seek_step k b) s

-- where no brace stands outside quotes, what was found before stays
seek_none : (k : Seek) (s : List ℕ) → none_bare 123 k.scan s ≡ true → (seek_from k s).found ≡ k.found
unfolding seek_from none_bare seek_step
seek_none k [] e = refl
seek_none k (b ∷ s) e =
    let h = both (not (is_bare k.scan b 123)) (none_bare 123 (passed ignored k.scan b) s) e in
    seek_none (seek_step k b) s h.1 ∙ rw (not-true (is_bare k.scan b 123) h.0)

-- ---- found by computing, found by the rules

-- nothing is there, or the last brace
data Seen (st : Scan) (c : ℕ) (s : List ℕ) : Type 0 where
  none : none_bare 123 st s ≡ true → Seen st c s
  some : (n : ℕ) → LastBrace st c s n → Seen st c s

-- one byte more in front
longer : {st : Scan} {c : ℕ} {s : List ℕ} {n : ℕ} (b : ℕ) → LastBrace (passed ignored st b) (column_after c (cond (st.escaped && eqb b 9) 32 b)) s n → LastBrace st c (b ∷ s) n
unfolding scan_from tabs_spaced columns_from
longer b l = record { before = b ∷ l.before; behind = l.behind; whole = ap (λ t. b ∷ t) l.whole; outside = l.outside; last = l.last; column = l.column }

at_front : (st : Scan) (c b : ℕ) (s : List ℕ) → is_bare st b 123 ≡ true → none_bare 123 (passed ignored st b) s ≡ true → LastBrace st c (b ∷ s) c
unfolding scan_from tabs_spaced columns_from
at_front st c b s e h =
    let w = bare_is st b 123 e in
    record { before = []; behind = s; whole = ap (λ x. x ∷ s) w.0; outside = rw w.0 at e; last = rw (brace_stays st b e, w.1) at h; column = refl }

seen : (st : Scan) (c : ℕ) (s : List ℕ) → Seen st c s
unfolding none_bare
seen st c [] = Seen.none refl
seen st c (b ∷ s) = go (seen (passed ignored st b) (column_after c (cond (st.escaped && eqb b 9) 32 b)) s)
  where
    here : (x : Bool) → is_bare st b 123 ≡ x → none_bare 123 (passed ignored st b) s ≡ true → Seen st c (b ∷ s)
    here true e h = Seen.some c (at_front st c b s e h)
    here false e h = Seen.none (rw (e, h))

    go : Seen (passed ignored st b) (column_after c (cond (st.escaped && eqb b 9) 32 b)) s → Seen st c (b ∷ s)
    go (Seen.some n l) = Seen.some n (longer b l)
    go (Seen.none h) = here (is_bare st b 123) refl h

seek_cons : (k : Seek) (b : ℕ) (s : List ℕ) → seek_from k (b ∷ s) ≡ seek_from (seek_step k b) s
unfolding seek_from
seek_cons k b s = refl

-- the step over a brace outside quotes
module _ (k : Seek) (o : is_bare k.scan 123 123 ≡ true) where
  found_of : (seek_step k 123).found ≡ Some k.column
  unfolding seek_step
  found_of = rw o

  last_of : (s : List ℕ) → none_bare 123 fresh s ≡ true → none_bare 123 (seek_step k 123).scan s ≡ true
  unfolding seek_step
  last_of s e = rw (brace_stays k.scan 123 o, (bare_is k.scan 123 123 o).1) e

-- what the rules say is found
brace_found : (k : Seek) (s : List ℕ) {n : ℕ} → LastBrace k.scan k.column s n → (seek_from k s).found ≡ Some n
brace_found k s {n} l =
    let j = seek_from k l.before in
    let sc : j.scan ≡ scan_from ignored k.scan l.before = seek_scan k l.before in
    let o : is_bare j.scan 123 123 ≡ true = ap (λ st. is_bare st 123 123) sc ∙ l.outside in
    let co : j.column ≡ n = seek_column k l.before ∙ sym l.column in
    rw (l.whole, seek_append k l.before (123 ∷ l.behind), seek_cons, seek_none (seek_step j 123) l.behind (last_of j o l.behind l.last)) (found_of j o ∙ ap (λ c. Some c) co)

abbrev value_of : Option ℕ → ℕ
value_of None = 0
value_of (Some n) = n

abbrev is_at : Option ℕ → Bool
is_at None = false
is_at (Some n) = true

moved : {st : Scan} {c : ℕ} {s : List ℕ} {m n : ℕ} → m ≡ n → LastBrace st c s m → LastBrace st c s n
moved e l = record { before = l.before; behind = l.behind; whole = l.whole; outside = l.outside; last = l.last; column = sym e ∙ l.column }

-- the computed answer is the rules' answer, and there is one only
module _ (q : Option ℕ) (c : ℕ) (s : List ℕ) where
  pub brace_complete : {n : ℕ} → BraceComplete q c s n
  unfolding last_open_brace
  brace_complete l = brace_found (seek_start q c) s l

  pub brace_sound : {n : ℕ} → BraceSound q c s n
  unfolding last_open_brace
  brace_sound {n} e = go (seen (uncovered q) c s)
    where
      go : Seen (uncovered q) c s → LastBrace (uncovered q) c s n
      go (Seen.none h) = contra (is_at (Some n)) refl (ap is_at (sym e ∙ seek_none (seek_start q c) s h))
      go (Seen.some m l) = moved (ap value_of (sym (brace_found (seek_start q c) s l) ∙ e)) l

  pub no_brace : NoneFound q c s
  unfolding last_open_brace
  no_brace h = seek_none (seek_start q c) s h

  pub none_there : NoneStands q c s
  unfolding last_open_brace
  none_there e = go (seen (uncovered q) c s)
    where
      go : Seen (uncovered q) c s → none_bare 123 (uncovered q) s ≡ true
      go (Seen.none h) = h
      go (Seen.some m l) = contra (is_at (Some m)) refl (ap is_at (sym (brace_found (seek_start q c) s l) ∙ e))

-- ---- columns

length-spaced : (st : Scan) (s : List ℕ) → length (tabs_spaced st s) ≡ length s
unfolding tabs_spaced
length-spaced st [] = refl
length-spaced st (b ∷ s) = ap suc (length-spaced (passed ignored st b) s)

module _ {st : Scan} {c : ℕ} {s : List ℕ} {n : ℕ} (l : LastBrace st c s n) where
  pub brace_count : BraceCount l
  brace_count = l.column ∙ columns_count c (tabs_spaced st l.before)

  brace_lt : n < c + 4 * length s
  brace_lt =
      omega (arith, l.column, columns_le c (tabs_spaced st l.before), length-spaced st l.before, ap length l.whole ∙ length-append l.before (123 ∷ l.behind))

-- nothing is cut of the column in a line that a number can count four times over
pub brace_whole : BraceWhole
brace_whole q c s h = go (last_open_brace q c s) refl
  where
    go : (p : Option ℕ) → last_open_brace q c s ≡ p → capped_at p ≡ p
    go None e = refl
    go (Some n) e = ap (λ m. Some m) (capped_id n (omega (arith, brace_lt (brace_sound q c s e))))

-- ---- keeping a column as a 64-bit number changes no answer

pub goes_true : LaterLine
goes_true = bounds.goes_true

pub far_refuses : FarBrace
far_refuses = bounds.far_refuses
