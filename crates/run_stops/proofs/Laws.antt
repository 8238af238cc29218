-- The loops of run_stops, and what its tests say.
-- Assumes nothing.
use Rattle.std.specs.Prelude.{Err, None, Ok, Option, Result, Some}
use mathlib.Core.Path.{◌≡◌, refl, sym, ◌∙◌, ap}
use mathlib.Core.Bool.{Bool, true, false, cond}
use mathlib.Core.List.{List}
use Prim.Native.Nat.{ℕ, zero, suc, ◌+◌, ◌-◌, ◌<◌, ◌≤◌}
use native.Mathlib.Numerals.{add-one}
use native.Mathlib.Omega.{arith}
use borrow.Author.Tests.{leb-true, leb-false, le-leb, lt-leb, eq-eqb, ne_eqb}
use lib.Dec.{leb}
use lib.ListN.{length, get_or, take, drop, drop_of_length-le, length-take, length-drop, get_or-eq_default}
use lib.Seq.{drop-cons, take_all}
use Rattle.base_lists.proofs.More.{contra}
use Rattle.base_lists.proofs.Parts.{slice_part}
use Rattle.base_bytes.specs.declared.Mode.TheVariants.{Loose}
use Rattle.text_lines.specs.Lines.{line_from, line_at}
use Rattle.text_lines.specs.Trim.{trim_range, is_blank_line}
use Rattle.text_lines.specs.declared.LineEnd.{LineEnd}
use Rattle.text_lines.specs.declared.Range.{Range}
use Rattle.text_lines.proofs.Trim.{trim_from, core_from, core_to}
use Rattle.text_tabs.specs.Columns.{indent_columns, capped}
use Rattle.block_grammar.specs.Computed.{read_payload}
use Rattle.block_grammar.specs.declared.Scan.{Scan}
use Rattle.block_places.specs.Computed.{payload_place}
use Rattle.block_places.proofs.Place.{place_longest}
use Rattle.block_tokens.specs.Shown.{accepted, payload_tested}
use Rattle.block_payloads.specs.Payloads.{behind_last}
use Rattle.block_trimmed_line.specs.Fronts.{front_of}
use Rattle.block_trimmed_line.specs.declared.Front.{Front}
use Rattle.block_trimmed_line.proofs.Trimmed.{line_is, line_none, front_to}
use Rattle.run_scanners.specs.Scanners.{honoured, passed}
use Rattle.run_stops.specs.declared.Edge.{Edge}
use Rattle.run_stops.specs.declared.Source.{Source}
use Rattle.run_stops.specs.declared.Why as whys
use Rattle.run_stops.specs.declared.Why.TheVariants as why
use Rattle.run_stops.specs.Stops.{kept_at, quote_from, edge_after, edge_past, edge_of, why_of, stops_at, last_from, closes_at, past_close, entries_in, stop_by, stop_at, source_from, source_of}

-- ---- the loop of `quote_left`: the bytes from i on lead to the answer r
pub record Quotes (s : List ℕ) (r : Option ℕ) (st : Scan) (at i : ℕ) : Type 0 where
  pub rest : quote_from st at i (drop i s) ≡ r

module _ {s : List ℕ} {r : Option ℕ} {st : Scan} {at i : ℕ} (inv : Quotes s r st at i) where
  pub quotes_go : {v : Scan} {p : ℕ} → i < length s → p ≡ kept_at st.quote at i → v ≡ passed honoured st (get_or s i 0) → Quotes s r v p (i + 1)
  unfolding quote_from
  quotes_go h k e = record { rest = rw (k, e, add-one) (rw (drop-cons s i 0 h) at inv.rest) }

  pub quotes_none : length s ≤ i → st.quote ≡ None → None ≡ r
  unfolding quote_from
  quotes_none h e = rw (drop_of_length-le s h, e) at inv.rest

  pub quotes_some : length s ≤ i → {q : ℕ} → st.quote ≡ Some q → Some at ≡ r
  unfolding quote_from
  quotes_some h e = rw (drop_of_length-le s h, e) at inv.rest

-- ---- the line at a place
pub line_long : (t : List ℕ) (at : ℕ) → at < length t → at + length (line_at t at) ≤ length t
unfolding line_from
line_long t at h = (front_to t at refl h).1

pub line_room : (t : List ℕ) (at most : ℕ) → at ≤ most → length t ≤ most → at + length (line_at t at) ≤ most
line_room t at most h k = go (leb (length t) at) refl
  where
    go : (b : Bool) → leb (length t) at ≡ b → at + length (line_at t at) ≤ most
    go true e = rw (line_none t at (leb-true (length t) at e)) (omega (arith, h))
    go false e = omega (arith, k, line_long t at (leb-false (length t) at e))

pub line_part : (t : List ℕ) (at : ℕ) {l : LineEnd} → l ≡ line_from t at → take (l.to - at) (drop at t) ≡ line_at t at
line_part t at e = rw e (sym (slice_part at (line_from t at).to t) ∙ sym (line_is t at))

-- ---- the loop of `edge_of`
pub record Edges (t : List ℕ) (r : Edge) (n : ℕ) (e : Edge) : Type 0 where
  pub rest : edge_past t n e ≡ r

module _ {t : List ℕ} {r : Edge} {n : ℕ} {e : Edge} (inv : Edges t r n e) where
  pub edges_go : {v : Edge} → 0 < n → v ≡ edge_after t e → Edges t r (n - 1) v
  unfolding edge_past
  edges_go h q = record { rest = rw q (go n h inv.rest) }
    where
      go : (m : ℕ) → 0 < m → edge_past t m e ≡ r → edge_past t (m - 1) (edge_after t e) ≡ r
      go zero h w = absurd (omega arith)
      go (suc m) h w = let z : suc m - 1 ≡ m = omega arith in rw z w

  pub edges_end : n ≤ 0 → e ≡ r
  unfolding edge_past
  edges_end h = go n h inv.rest
    where
      go : (m : ℕ) → m ≤ 0 → edge_past t m e ≡ r → e ≡ r
      go zero h w = w
      go (suc m) h w = absurd (omega arith)

-- ---- why a line isn't joined
module _ (t : List ℕ) (e : Edge) where
  pub why_quoted : {k : ℕ} → e.quote ≡ Some k → why.Quoted ≡ why_of t e
  unfolding why_of
  why_quoted z = rw z

  module _ (z : e.quote ≡ None) where
    pub why_end : length t ≤ e.at → why.End ≡ why_of t e
    unfolding why_of
    why_end h = rw (z, le-leb (length t) e.at h)

    module _ (h : e.at < length t) {l : List ℕ} (q : l ≡ line_at t e.at) where
      pub why_blank : {b : Bool} → b ≡ is_blank_line l → b ≡ true → why.Blank ≡ why_of t e
      unfolding why_of
      why_blank x y = rw (z, lt-leb (length t) e.at h, ← q, ← x, y)

      module _ {b : Bool} (x : b ≡ is_blank_line l) (y : b ≡ false) {n : ℕ} (w : n ≡ capped (indent_columns l)) where
        pub why_left : n ≤ e.brace → why.Left ≡ why_of t e
        unfolding why_of
        why_left k = rw (z, lt-leb (length t) e.at h, ← q, ← x, y, ← w, le-leb n e.brace k)

        pub why_entries : e.brace < n → why.Entries ≡ why_of t e
        unfolding why_of
        why_entries k = rw (z, lt-leb (length t) e.at h, ← q, ← x, y, ← w, lt-leb n e.brace k)

-- ---- where a line stops being entries

pub last_is : (s : List ℕ) {from : ℕ} → from ≤ length s → drop from s ≡ behind_last s → from ≡ last_from s
last_is s {from} h e = omega (arith, length-drop from s, ap length e)

pub stops_whole : (s : List ℕ) {u : Result (Unit {0}) ℕ} → u ≡ payload_tested Loose s → u ≡ Ok tt → 0 ≡ stops_at (payload_tested Loose s)
stops_whole s e z = rw (← e, z)

pub stops_stop : (s : List ℕ) {u : Result (Unit {0}) ℕ} → u ≡ payload_tested Loose s → {n : ℕ} → u ≡ Err n → n ≡ stops_at (payload_tested Loose s)
stops_stop s e z = rw (← e, z)

pub stops_within : (s : List ℕ) → stops_at (payload_tested Loose s) ≤ length s
stops_within s = go (accepted (read_payload Loose 0 s))
  where
    go : (y : Bool) → stops_at (cond y (Ok tt) (Err (payload_place Loose s))) ≤ length s
    go true = omega arith
    go false = (place_longest Loose s).within

module _ (s : List ℕ) (from n : ℕ) where
  pub closes_beyond : length s ≤ n → false ≡ closes_at s from n
  unfolding closes_at
  closes_beyond h = rw (get_or-eq_default s 0 h)

  pub closes_not : (get_or s n 0 ≡ 125 → ⊥) → false ≡ closes_at s from n
  unfolding closes_at
  closes_not h = rw (ne_eqb (get_or s n 0) 125 h)

  pub closes_front : get_or s n 0 ≡ 125 → n ≡ 0 → true ≡ closes_at s from n
  unfolding closes_at
  closes_front h z = rw (eq-eqb (get_or s n 0) 125 h, eq-eqb n 0 z)

  pub closes_whole : get_or s n 0 ≡ 125 → (n ≡ 0 → ⊥) → {w : Bool} → w ≡ accepted (read_payload Loose 0 (take (n - from) (drop from s))) → w ≡ closes_at s from n
  unfolding closes_at
  closes_whole h z e = rw (eq-eqb (get_or s n 0) 125 h, ne_eqb n 0 z, slice_part from n s) e

  pub closes_in : closes_at s from n ≡ true → n < length s
  closes_in e = go (leb (length s) n) refl
    where
      go : (b : Bool) → leb (length s) n ≡ b → n < length s
      go true x = contra false (closes_beyond (leb-true (length s) n x) ∙ e) refl
      go false x = leb-false (length s) n x

pub past_within : (s : List ℕ) (from n : ℕ) → n ≤ length s → past_close s from n ≤ length s
past_within s from n h = go (closes_at s from n) refl
  where
    go : (b : Bool) → closes_at s from n ≡ b → cond b (suc n) n ≤ length s
    go true e = omega (arith, closes_in s from n e)
    go false e = h

pub entries_within : (s : List ℕ) → entries_in s ≤ length s
unfolding entries_in
entries_within s = past_within s (last_from s) (last_from s + stops_at (payload_tested Loose (drop (last_from s) s))) (omega (arith, stops_within (drop (last_from s) s), length-drop (last_from s) s))

module _ (s : List ℕ) {from k : ℕ} (e : from ≡ last_from s) (q : k ≡ stops_at (payload_tested Loose (take (length s - from) (drop from s)))) where
  stop_is_at : k ≡ stops_at (payload_tested Loose (drop from s))
  stop_is_at = rw (take_all (length s - from) (drop from s) (omega (arith, length-drop from s))) at q

  pub stop_in : from + k ≤ length s
  stop_in = omega (arith, e, stop_is_at, stops_within (drop from s), length-drop from s)

  pub entries_past : {b : Bool} → b ≡ closes_at s from (from + k) → b ≡ true → from + k + 1 ≡ entries_in s
  unfolding entries_in
  entries_past x y = rw (← e, ← stop_is_at, ← x, y, add-one)

  pub entries_there : {b : Bool} → b ≡ closes_at s from (from + k) → b ≡ false → from + k ≡ entries_in s
  unfolding entries_in
  entries_there x y = rw (← e, ← stop_is_at, ← x, y)

-- in a trimmed line
pub entries_short : (s : List ℕ) {r : Range} → r ≡ trim_range s → {n : ℕ} → n ≡ entries_in (take (r.to - r.from) (drop r.from s)) → r.from + n ≤ length s
entries_short s {r} e q = omega (arith, core_from s e, core_to s e, q, entries_within (take (r.to - r.from) (drop r.from s)), length-take (r.to - r.from) (drop r.from s))

-- ---- the loop of `source_place`
pub record Sources (t : List ℕ) (r : Source) (n row from k : ℕ) : Type 0 where
  pub few : row ≤ n
  pub rest : source_from t (n - row) row from k ≡ r

pub front_order : (t : List ℕ) (at : ℕ) → (front_of t at).from ≤ (front_of t at).to
unfolding front_of
front_order t at = omega (arith, trim_from (line_at t at))

module _ {t : List ℕ} {r : Source} {n row from k : ℕ} (inv : Sources t r n row from k) where
  pub sources_end : n ≤ row → record { row = n; place = from } ≡ r
  unfolding source_from
  sources_end h =
      let y : n - row ≡ 0 = omega arith in
      let z : row ≡ n = omega (arith, inv.few) in
      rw (← z) (rw y at inv.rest)

  module _ (some : row < n) {f : Front} (e : f ≡ front_of t from) where
    there : cond (leb k (f.to - f.from)) (record { row = row; place = f.from + k }) (source_from t (n - suc row) (suc row) f.next (k - suc (f.to - f.from))) ≡ r
    unfolding source_from
    there = let z : n - row ≡ suc (n - suc row) = omega arith in rw e (rw z at inv.rest)

    pub sources_here : k ≤ f.to - f.from → record { row = row; place = f.from + k } ≡ r
    sources_here h = rw (le-leb k (f.to - f.from) h) at there

    pub sources_on : f.to - f.from < k → Sources t r n (row + 1) f.next (k - (f.to - f.from) - 1)
    sources_on h =
        let y : k - (f.to - f.from) - 1 ≡ k - suc (f.to - f.from) = omega arith in
        record { few = omega arith; rest = rw (add-one, y) (rw (lt-leb k (f.to - f.from) h) at there) }

    pub sources_order : f.from ≤ f.to
    sources_order = rw e (front_order t from)

pub sources_start : (t : List ℕ) (at n k : ℕ) → Sources t (source_of t at n k) n 0 at k
unfolding source_of
sources_start t at n k = let z : n - 0 ≡ n = omega arith in record { few = omega arith; rest = rw z }

-- ---- what is promised of a stop
pub stop_is : (t : List ℕ) (at n : ℕ) {e : Edge} {w v : whys.Why} → e ≡ edge_of t at n → w ≡ why_of t e → w ≡ v → stop_by t at n e v ≡ stop_at t at n
unfolding stop_at
stop_is t at n p q h = rw (← p, ← q, h)
