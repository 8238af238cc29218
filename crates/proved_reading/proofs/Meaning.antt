-- Reading at a brace gives what the table's rules say and nothing else, for every text and place: the numbers, the place behind the close, the meaning.
-- Assumes nothing.
use Rattle.std.specs.Prelude.{None, Option, Some, Err, Ok, Result}
use mathlib.Core.Path.{◌≡◌, refl, sym, ◌∙◌, ap}
use mathlib.Core.Bool.{Bool, true, false, cond}
use mathlib.Core.List.{List, [], ◌∷◌, ◌++◌, map}
use Prim.Native.Nat.{ℕ, suc, ◌<◌, ◌≤◌}
use native.Mathlib.Omega.{arith}
use borrow.Author.Tests.{eqb-true, eq-eqb, ltb-true, ltb-false, lt-ltb, le-ltb}
use lib.Dec.{ltb, eqb}
use lib.ListN.{length, get_or, take, drop, take-append-drop, length-take, length-map}
use Rattle.base_lists.proofs.Scan.{both}
use Rattle.base_lists.proofs.Parts.{slice_part}
use Rattle.base_lists.proofs.More.{contra}
use Rattle.base_bytes.specs.declared.Mode.{Mode}
use Rattle.text_utf8.specs.Utf8.{is_boundary}
use Rattle.text_utf8.specs.Computed.{is_utf8}
use Rattle.text_names.specs.Longest.{Longest}
use Rattle.proved_texts.specs.Utf8Rules.{WellFormed}
use Rattle.proved_texts.proofs.Utf8Grammar as utf8
use Rattle.base_refusals.specs.Numbers.{max_text, number_of}
use Rattle.base_refusals.specs.declared.Refusal.TheVariants.{NothingThere, NoClose, NoReading, TooManyClasses, TooManyKeys}
use Rattle.block_grammar.specs.Grammar.{Placed, Payload, Reading}
use Rattle.block_grammar.specs.Computed.{read_payload}
use Rattle.block_grammar.specs.Meaning.{Entry, classes_once}
use Rattle.proved_grammar.specs.Meaning.{entries_of, meaning, listed}
use Rattle.block_grammar.specs.Close.{Closes}
use Rattle.block_grammar.specs.ComputedClose.{find_close}
use Rattle.block_grammar.proofs.Payload.{sound, complete}
use Rattle.block_grammar.proofs.Close.{found, payload_is}
use Rattle.block_places.specs.Rules.{HasReading}
use Rattle.block_places.specs.Computed.{payload_place}
use Rattle.block_places.proofs.Place.{place_longest}
use Rattle.set_table.specs.Types.{one, empty_set, max_classes, max_keys, max_slots, zero_value, zero_row, zero_slot}
use Rattle.set_table.specs.Rows.{Rows, no_rows, with_puts, held, table_of, meaning_of, listed_of}
use Rattle.set_table.specs.Puts.{puts_in}
use Rattle.proved_sets.proofs.TableMeant.{shaped_none}
use Rattle.proved_sets.proofs.Items.{rows_list, rows_shaped}
use Rattle.set_table.proofs.Table.{padded-length}
use Rattle.set_table.specs.Filled.{limited}
use Rattle.set_fill.specs.Fill as fills
use Rattle.proved_sets.proofs.Zeroed.{table_zeroed}
use Rattle.proved_sets.proofs.Limited.{over_classes, over_keys, fits}
use Rattle.proved_sets.proofs.Limits.{exactly, not_utf8}
use Rattle.proved_sets.proofs.Slots.{slots_fit}
use Rattle.proved_sets.proofs.TableWhole.{table_means, empty_table, empty_means, table_lists}
use Rattle.read_brace.specs.declared.NotRead.{NotRead}
use Rattle.read_brace.specs.declared.NotRead.TheVariants.{Refused, Unread}
use Rattle.read_brace.specs.declared.Read.{Read}
use Rattle.read_brace.specs.Brace.{brace_paper, refusing_read, brace_at, payload_of, finished, read_to, at_brace, read_attrs_at}
use Rattle.proved_reading.specs.Table.{BraceAt, BlockAt, Reads, Given}
use Rattle.proved_sets.specs.Limits.{class_count, key_count}
use Rattle.proved_reading.specs.AtBraces.{AnswersSo, BraceByRules, UpToSeven, FiveHasPlace, PlaceOnBoundary, ThirdDropped}
use Rattle.proved_reading.specs.HandedSets.{BraceRefused, Tidy, BraceTidy}
use Rattle.proved_sets.proofs.Counts.{class_fill, key_fill}
use Rattle.proved_grammar.proofs.Close.{close_complete, one_close, no_close, third_changes_nothing}
use Rattle.proved_grammar.proofs.Payload.{no_reading}
use Rattle.proved_grammar.proofs.Places.{Standing, standing}
use Rattle.proved_places.proofs.Places.{one_place, on_boundary}

-- ======== the parts

pub opens : (t : List ℕ) (i : ℕ) → brace_at t i ≡ true → BraceAt t i
unfolding brace_at
opens t i e =
    let z = both (ltb i (length t)) (eqb (get_or t i 0) 123) e in
    record { there = ltb-true i (length t) z.0; brace = eqb-true (get_or t i 0) 123 z.1 }

pub opened : {t : List ℕ} {i : ℕ} → BraceAt t i → brace_at t i ≡ true
unfolding brace_at
opened {t} {i} o = rw (lt-ltb i (length t) o.there, eq-eqb (get_or t i 0) 123 o.brace)

never_closes : (t : List ℕ) (i : ℕ) → find_close t (suc i) ≡ None → (e : ℕ) → Closes (drop (suc i) t) (suc i) e → ⊥
unfolding find_close
never_closes t i h e c = no_close (drop (suc i) t) (suc i) h c

module _ {t : List ℕ} {i e : ℕ} (b : BlockAt t i e) where
  pub inside_is : payload_of t i e ≡ b.closes.inside
  inside_is = slice_part (suc i) e t ∙ payload_is t (suc i) b.closes

  pub close_is : find_close t (suc i) ≡ Some e
  unfolding find_close
  close_is = close_complete b.closes

  -- the code's way to the payload
  reads_to : (m : Mode) {r : Read} → read_to m t i (Some e) ≡ r → read_attrs_at m t i ≡ r
  unfolding read_attrs_at at_brace
  reads_to m h = rw (le-ltb max_text (length t) b.short, opened b.opens, close_is) h

  stands : {m : Mode} {is : List Placed} → Payload m (suc i) b.closes.inside is → Standing t is
  stands {is = is} p =
      let z : length (take (suc i) t) ≡ suc i = omega (arith, length-take (suc i) t, b.opens.there) in
      let w : take (suc i) t ++ (b.closes.inside ++ (125 ∷ b.closes.rest)) ≡ t = ap (λ u. take (suc i) t ++ u) (sym b.closes.whole) ∙ take-append-drop (suc i) t in
      rw w at (standing p (take (suc i) t) (125 ∷ b.closes.rest) z)

-- ======== a payload that the grammar reads: 6, 7, or its set
module _ {m : Mode} {t : List ℕ} {i e : ℕ} {is : List Placed} (h : Reads m t i e is) where
  st : Standing t is
  st = stands h.block h.payload

  abbrev rows : Rows
  rows = with_puts (one t) no_rows (puts_in is)

  reads_filled : {f : Read} → finished (limited rows) (suc e) (payload_place m h.block.closes.inside) ≡ f → read_attrs_at m t i ≡ f
  unfolding fills.filled_of
  reads_filled k = reads_to h.block m (rw (inside_is h.block, utf8.complete h.utf8, complete h.payload) k)

  reads_classes : max_classes < class_count (entries_of is) → read_attrs_at m t i ≡ refusing_read TooManyClasses
  unfolding finished number_of
  reads_classes l = reads_filled (rw (over_classes rows (omega (arith, class_fill st, l))))

  module _ (l : class_count (entries_of is) ≤ max_classes) where
    few : length rows.classes ≤ max_classes
    few = omega (arith, class_fill st)

    reads_keys : max_keys < key_count (entries_of is) → read_attrs_at m t i ≡ refusing_read TooManyKeys
    unfolding finished number_of
    reads_keys k = reads_filled (rw (over_keys rows few (omega (arith, key_fill st, k))))

    reads_set : key_count (entries_of is) ≤ max_keys → read_attrs_at m t i ≡ record { answer = Ok (suc e); set = table_of rows }
    unfolding finished
    reads_set k = reads_filled (rw (fits rows few (omega (arith, key_fill st, k))))

-- ======== what is given is by the rules
-- an answer with the empty set
abbrev no_set : Result ℕ NotRead → Read
no_set a = record { answer = a; set = empty_set }

abbrev Right : Mode → List ℕ → ℕ → Read → Type 0
Right m t i r = Given m t i r.answer (meaning_of (one t) r.set)

module _ (m : Mode) (t : List ℕ) (i : ℕ) where
  -- a refusal's set means nothing
  without : {a : Result ℕ NotRead} → Given m t i a [] → read_attrs_at m t i ≡ no_set a → Right m t i (read_attrs_at m t i)
  without g e = rw (e, empty_means (one t)) g

  with_items : {e : ℕ} {is : List Placed} → Reads m t i e is → Right m t i (read_attrs_at m t i)
  unfolding meaning
  with_items {e} {is} h = go (ltb max_classes (class_count (entries_of is))) refl (ltb max_keys (key_count (entries_of is))) refl
    where
      go : (x : Bool) → ltb max_classes (class_count (entries_of is)) ≡ x → (y : Bool) → ltb max_keys (key_count (entries_of is)) ≡ y → Right m t i (read_attrs_at m t i)
      go true p y q = let l = ltb-true max_classes (class_count (entries_of is)) p in without (Given.classes h l) (reads_classes h l)
      go false p true q =
          let l = ltb-false max_classes (class_count (entries_of is)) p in
          let k = ltb-true max_keys (key_count (entries_of is)) q in
          without (Given.keys h (omega (arith, l)) k) (reads_keys h l k)
      go false p false q =
          let l = ltb-false max_classes (class_count (entries_of is)) p in
          let k = ltb-false max_keys (key_count (entries_of is)) q in
          rw (reads_set h l k, table_means (with_puts (one t) no_rows (puts_in is)) (one t), rows_list (st h)) (Given.read h l k)

  with_block : {e : ℕ} → BlockAt t i e → Right m t i (read_attrs_at m t i)
  unfolding finished fills.filled_of number_of
  with_block {e} b = go (is_utf8 b.closes.inside) refl (read_payload m (suc i) b.closes.inside) refl
    where
      go : (x : Bool) → is_utf8 b.closes.inside ≡ x → (r : Reading) → read_payload m (suc i) b.closes.inside ≡ r → Right m t i (read_attrs_at m t i)
      go false p r q = without (Given.garbled b (λ w. contra (is_utf8 b.closes.inside) (utf8.complete w) p)) (reads_to b m (rw (inside_is b, p)))
      go true p Reading.refused q =
          without (Given.unread b (utf8.sound b.closes.inside p) (no_reading m (suc i) b.closes.inside q) (place_longest m b.closes.inside)) (reads_to b m (rw (inside_is b, p, q)))
      go true p (Reading.items is) q = with_items (record { block = b; utf8 = utf8.sound b.closes.inside p; payload = sound m (suc i) b.closes.inside is q })

  pub given : Right m t i (read_attrs_at m t i)
  unfolding read_attrs_at at_brace
  given = go (ltb max_text (length t)) refl (brace_at t i) refl (find_close t (suc i)) refl
    where
      go : (x : Bool) → ltb max_text (length t) ≡ x → (y : Bool) → brace_at t i ≡ y → (p : Option ℕ) → find_close t (suc i) ≡ p → Right m t i (read_attrs_at m t i)
      go true a y b p c = without (Given.long (omega (arith, ltb-true max_text (length t) a))) (rw a)
      go false a false b p c = without (Given.none (ltb-false max_text (length t) a) (λ o. contra (brace_at t i) (opened o) b)) (rw (a, b))
      go false a true b None c = without (Given.unclosed (ltb-false max_text (length t) a) (opens t i b) (never_closes t i c)) (rw (a, b, c))
      go false a true b (Some e) c = with_block (record { short = ltb-false max_text (length t) a; opens = opens t i b; closes = (found t (suc i) e c).closes })

-- ======== and the rules give nothing else
-- what is handed out, by the answer and the meaning: the empty set, or the rows that the items fill
data Out (m : Mode) (t : List ℕ) (i : ℕ) : Result ℕ NotRead → List Entry → Read → Type 0 where
  no : (a : Result ℕ NotRead) → Out m t i a [] (no_set a)
  yes : {e : ℕ} {is : List Placed} → Reads m t i e is → class_count (entries_of is) ≤ max_classes → key_count (entries_of is) ≤ max_keys
      → Out m t i (Ok (suc e)) (meaning is) (record { answer = Ok (suc e); set = table_of (with_puts (one t) no_rows (puts_in is)) })

module _ {m : Mode} {t : List ℕ} {i : ℕ} where
  nothing : {a : Result ℕ NotRead} → read_attrs_at m t i ≡ no_set a → Out m t i a [] (read_attrs_at m t i)
  nothing {a} e = rw e (Out.no a)

  exact : {a : Result ℕ NotRead} {s : List Entry} → Given m t i a s → Out m t i a s (read_attrs_at m t i)
  unfolding read_attrs_at at_brace finished fills.filled_of number_of
  exact (Given.long l) = nothing (rw (lt-ltb max_text (length t) (omega (arith, l))))
  exact (Given.none l n) = nothing (rw (le-ltb max_text (length t) l) (go (brace_at t i) refl))
    where
      go : (x : Bool) → brace_at t i ≡ x → cond x (read_to m t i (find_close t (suc i))) (refusing_read NothingThere) ≡ refusing_read NothingThere
      go true e = absurd (n (opens t i e))
      go false e = refl
  exact (Given.unclosed l o n) = nothing (rw (le-ltb max_text (length t) l, opened o) (go (find_close t (suc i)) refl))
    where
      go : (p : Option ℕ) → find_close t (suc i) ≡ p → read_to m t i p ≡ refusing_read NoClose
      go None e = refl
      go (Some k) e = absurd (n k (found t (suc i) k e).closes)
  exact (Given.garbled b n) = nothing (reads_to b m (rw (inside_is b, not_utf8 b.closes.inside n)))
  exact (Given.unread {e = e} {n = k} b w n l) = nothing (reads_to b m (rw (inside_is b, utf8.complete w) (go (read_payload m (suc i) b.closes.inside) refl)))
    where
      go : (r : Reading) → read_payload m (suc i) b.closes.inside ≡ r → finished (fills.filled_by (one t) r) (suc e) (payload_place m b.closes.inside) ≡ no_set (Err (Unread k))
      go Reading.refused q = ap (λ x. no_set (Err (Unread x))) (one_place (HasReading m) b.closes.inside (payload_place m b.closes.inside) k (place_longest m b.closes.inside) l)
      go (Reading.items is) q = absurd (n is (sound m (suc i) b.closes.inside is q))
  exact (Given.classes h l) = nothing (reads_classes h l)
  exact (Given.keys h l k) = nothing (reads_keys h (omega (arith, l)) k)
  exact (Given.read h l k) = rw (reads_set h l k) (Out.yes h l k)

module _ {m : Mode} {t : List ℕ} {i : ℕ} where
  pub only : {a : Result ℕ NotRead} {s : List Entry} → Given m t i a s → AnswersSo m t i a s
  unfolding meaning
  only g = let z = exact g in record { answer = answers z; means = meant z }
    where
      answers : {a : Result ℕ NotRead} {s : List Entry} {r : Read} → Out m t i a s r → r.answer ≡ a
      answers (Out.no r) = refl
      answers (Out.yes h l k) = refl

      meant : {a : Result ℕ NotRead} {s : List Entry} {r : Read} → Out m t i a s r → meaning_of (one t) r.set ≡ s
      meant (Out.no r) = empty_means (one t)
      meant (Out.yes {is = is} h l k) = table_means (with_puts (one t) no_rows (puts_in is)) (one t) ∙ ap classes_once (rows_list (st h))

pub brace_by_rules : BraceByRules
brace_by_rules m t i = exactly (λ a s g. let z = only g in (z.answer, z.means)) (given m t i)

-- ======== what a set says

-- with the place n behind it, it is that of a block whose payload the grammar reads up to its close, and it means the payload's items
pub record Means (m : Mode) (t : List ℕ) (i n : ℕ) (s : List Entry) : Type 0 where
  pub close : ℕ
  pub items : List Placed
  pub reads : Reads m t i close items
  pub next : n ≡ suc close
  pub meant : s ≡ meaning items
  pub classes : class_count (entries_of items) ≤ max_classes
  pub keys : key_count (entries_of items) ≤ max_keys

module _ {m : Mode} {t : List ℕ} {i : ℕ} where
  by_next : {a : Result ℕ NotRead} {s : List Entry} → Given m t i a s → (n : ℕ) → a ≡ Ok n → Means m t i n s
  by_next (Given.long l) n e = contra true refl (cc)
  by_next (Given.none l o) n e = contra true refl (cc)
  by_next (Given.unclosed l o c) n e = contra true refl (cc)
  by_next (Given.garbled b w) n e = contra true refl (cc)
  by_next (Given.unread b w p l) n e = contra true refl (cc)
  by_next (Given.classes h l) n e = contra true refl (cc)
  by_next (Given.keys h l k) n e = contra true refl (cc)
  by_next (Given.read {e = c} {is = is} h l k) n e = record { close = c; items = is; reads = h; next = cc; meant = refl; classes = l; keys = k }

  pub read_means : {n : ℕ} → (read_attrs_at m t i).answer ≡ Ok n → Means m t i n (meaning_of (one t) (read_attrs_at m t i).set)
  read_means {n} e = by_next (given m t i) n e

-- the set lists what they list
pub set_lists : (m : Mode) (t : List ℕ) (i : ℕ) {n : ℕ} (e : (read_attrs_at m t i).answer ≡ Ok n) → listed_of (one t) (read_attrs_at m t i).set ≡ listed (read_means e).items
set_lists m t i e =
    let r = read_means e in
    ap (λ x. listed_of (one t) x.set) (reads_set r.reads r.classes r.keys) ∙ table_lists (with_puts (one t) no_rows (puts_in r.items)) (one t) ∙ rows_list (st r.reads)

-- ======== what a 5 says

-- its place n is that of a block whose payload has no reading
pub record Wrong (m : Mode) (t : List ℕ) (i n : ℕ) : Type 0 where
  pub close : ℕ
  pub block : BlockAt t i close
  pub utf8 : WellFormed block.closes.inside
  pub none : (is : List Placed) → Payload m (suc i) block.closes.inside is → ⊥
  pub longest : Longest (HasReading m) block.closes.inside n

-- there is one payload
one_inside : {t : List ℕ} {i e k : ℕ} (b : BlockAt t i e) (c : BlockAt t i k) → b.closes.inside ≡ c.closes.inside
one_inside {t} {i} b c = sym (inside_is b) ∙ ap (payload_of t i) (one_close b.closes c.closes) ∙ inside_is c

module _ {m : Mode} {t : List ℕ} {i : ℕ} where
  by_unread : {a : Result ℕ NotRead} {s : List Entry} → Given m t i a s → (n : ℕ) → a ≡ Err (Unread n) → Wrong m t i n
  by_unread (Given.long l) n e = contra true refl (cc)
  by_unread (Given.none l o) n e = contra true refl (cc)
  by_unread (Given.unclosed l o c) n e = contra true refl (cc)
  by_unread (Given.garbled b w) n e = contra true refl (cc)
  by_unread (Given.unread {e = c} {n = k} b w p l) n e = let z : k ≡ n = cc in record { close = c; block = b; utf8 = w; none = p; longest = rw z at l }
  by_unread (Given.classes h l) n e = contra true refl (cc)
  by_unread (Given.keys h l k) n e = contra true refl (cc)
  by_unread (Given.read h l k) n e = contra true refl (cc)

  pub read_wrong : {n : ℕ} → (read_attrs_at m t i).answer ≡ Err (Unread n) → Wrong m t i n
  read_wrong {n} e = by_unread (given m t i) n e

  -- then nothing is read there
  pub none_reads : {n e : ℕ} {is : List Placed} → (read_attrs_at m t i).answer ≡ Err (Unread n) → Reads m t i e is → ⊥
  none_reads {is = is} q h = let w = read_wrong q in w.none is (rw (one_inside h.block w.block) at h.payload)

pub place_on_boundary : PlaceOnBoundary
place_on_boundary m t i e n b q =
    let w = read_wrong q in
    let s = w.block.closes.inside in
    let at : n ≡ payload_place m s = one_place (HasReading m) s n (payload_place m s) w.longest (place_longest m s) in
    ap (λ x. is_boundary x n) (one_inside b w.block) ∙ ap (is_boundary s) at ∙ on_boundary m s (utf8.complete w.utf8)

pub five_has_place : (m : Mode) (t : List ℕ) (i : ℕ) → FiveHasPlace m t i
unfolding number_of
five_has_place m t i e = go (given m t i) e
  where
    told : {a b : Result ℕ NotRead} → a ≡ b → (brace_paper a).number ≡ (brace_paper b).number
    told q = ap (λ x. (brace_paper x).number) q

    go : {a : Result ℕ NotRead} {s : List Entry} → Given m t i a s → a ≡ Err (Refused NoReading) → ⊥
    go (Given.long l) q = absurd (omega (arith, told q))
    go (Given.none l n) q = absurd (omega (arith, told q))
    go (Given.unclosed l o n) q = absurd (omega (arith, told q))
    go (Given.garbled b n) q = absurd (omega (arith, told q))
    go (Given.unread b w n l) q = contra true refl (cc)
    go (Given.classes h l) q = absurd (omega (arith, told q))
    go (Given.keys h l k) q = absurd (omega (arith, told q))
    go (Given.read h l k) q = contra true refl (cc)

-- ======== the set as it is handed out

tidy_table : (s : Rows) → length s.classes ≤ max_classes → length s.keys ≤ max_keys → length s.order ≤ max_slots → Tidy (table_of s)
unfolding table_of
tidy_table s c k o =
    record {
      classes = (c, padded-length max_classes zero_value s.classes c);
      keys = (k, padded-length max_keys zero_row s.keys k);
      slots = (o, padded-length max_slots zero_slot (map held s.order) (rw length-map o));
      past = table_zeroed s;
    }

module _ (m : Mode) (t : List ℕ) (i : ℕ) where
  pub tidy : BraceTidy m t i
  tidy = go (exact (given m t i))
    where
      go : {a : Result ℕ NotRead} {s : List Entry} {r : Read} → Out m t i a s r → Tidy r.set
      go (Out.no r) = rw empty_table at (tidy_table no_rows (omega arith) (omega arith) (omega arith))
      go (Out.yes {is = is} h l k) =
          let o = slots_fit (rows_shaped (st h) (shaped_none (one t))) (omega (arith, key_fill (st h))) in
          tidy_table (with_puts (one t) no_rows (puts_in is)) (omega (arith, class_fill (st h))) (omega (arith, key_fill (st h))) o

  pub refused_empty : BraceRefused m t i
  refused_empty e = go (exact (given m t i)) e
    where
      go : {a : Result ℕ NotRead} {s : List Entry} {f : Read} → Out m t i a s f → 0 < (brace_paper f.answer).number → f.set ≡ empty_set
      go (Out.no x) q = refl
      go (Out.yes h l k) q = absurd (omega (arith, q))

  pub up_to_seven : UpToSeven m t i
  unfolding number_of
  up_to_seven = go (given m t i)
    where
      go : {a : Result ℕ NotRead} {s : List Entry} → Given m t i a s → (brace_paper a).number ≤ 7
      go (Given.long l) = omega arith
      go (Given.none l n) = omega arith
      go (Given.unclosed l o n) = omega arith
      go (Given.garbled b n) = omega arith
      go (Given.unread b w n l) = omega arith
      go (Given.classes h l) = omega arith
      go (Given.keys h l k) = omega arith
      go (Given.read h l k) = omega arith

-- ======== the dropped argument

pub third_dropped : ThirdDropped
unfolding read_attrs_at at_brace
third_dropped m t i = rw (third_changes_nothing t i)
