-- The whole sheet: its table is that of its settings, 21 is told exactly where a pair is in it, and a block for one variant changes no other row.
-- Assumes nothing.
use Rattle.std.specs.Prelude.{Err, None, Ok, Result, Some, Option}
use mathlib.Core.Path.{◌≡◌, refl, sym, ◌∙◌, ap}
use mathlib.Core.Bool.{Bool, true, false, cond, not, ◌&&◌}
use mathlib.Core.List.{List, [], ◌∷◌, ◌++◌, map, foldl, flat_map}
use Prim.Native.Nat.{ℕ, zero, suc, ◌≤◌}
use native.Mathlib.Omega.{arith}
use borrow.Author.Tests.{le-ltb, ltb-false, le-leb, leb-true}
use lib.Dec.{leb, ltb}
use lib.ListN.{length}
use Rattle.base_lists.specs.Lists.{all, is_in}
use Rattle.base_lists.proofs.Flat.{flat_append}
use Rattle.base_lists.proofs.More.{contra, all_parts}
use Rattle.base_lists.proofs.Scan.{both, all_append}
use Rattle.base_refusals.specs.Numbers.{max_text, too_long, number_of, refused}
use Rattle.base_refusals.specs.Orders.{in_order}
use Rattle.base_refusals.specs.declared.Refusal.{Refusal}
use Rattle.base_refusals.specs.declared.Refusal.TheVariants.{TextTooLong, NotUtf8, JoinFull, BadSetting, SharedValve}
use Rattle.text_utf8.specs.Computed.{is_utf8}
use Rattle.text_checks.specs.Check.{check_of}
use Rattle.text_checks.proofs.Texts.{text_short, passed}
use Rattle.set_table.specs.Types.{Texts}
use Rattle.set_table.specs.Rows.{meaning_of}
use Rattle.set_table.specs.declared.Attrs.{Attrs}
use Rattle.read_blocks.specs.Blocks.{texts_in, filled_found, block_of}
use Rattle.read_lengths.specs.Lengths.{flush_left}
use Rattle.sheet_blocks.specs.Sheets.{Try, is_block, blocks_of}
use Rattle.sheet_valves.specs.Tables.{max_valve, empty_table, valve_at, with_setting, filled_with}
use Rattle.sheet_valves.specs.Settings.{setting_of}
use Rattle.sheet_valves.specs.Pairs.{first_pair}
use Rattle.sheet_valves.specs.declared.Table.{Table}
use Rattle.sheet_valves.specs.declared.Setting.{Setting}
use Rattle.sheet_valves.proofs.Settings.{only_bad}
use Rattle.sheet_variants.specs.Variants.{heard_by, heard, whole_by, whole_table, heard_then, variants_from, is_stop, variants_in, variants_by, variants_of, setting_in, settings_of, sheet_table}
use Rattle.proved_sheets.specs.Order.{InOrder}
use Rattle.proved_sheets.specs.Blocks.{is_limited}
use Rattle.proved_sheets.proofs.Order.{sheet_in_order}
use Rattle.proved_sheets.proofs.Answers.{block_limited}
use Rattle.proved_valves.specs.Sheets.{NothingElse, PairExactly, FirstNamed, HandedWhole, NoneRefused, LastBlock, LastBlockCounts, NoBlockUnfilled, InRange, OtherRowsStay, PassedChangesNone}
use Rattle.proved_valves.specs.Cells.{is_for, any_for, LastFor}
use Rattle.proved_valves.proofs.Cells.{for_both, cell_last, cell_none, last_counts, unfilled_else, row_without}
use Rattle.proved_valves.proofs.Pairs.{first_is, pair_found_exactly}
use Rattle.proved_valves.proofs.Settings.{set_counts}

-- ---- where no block is refused

from : (t : List ℕ) (xs : List Try) (u : Table) → all (λ x. not (is_stop (heard t x))) xs ≡ true → variants_from t u xs ≡ whole_table (foldl with_setting u (settings_of t xs))
unfolding variants_from settings_of flat_map all
from t [] u e = refl
from t (x ∷ xs) u e = go (heard t x) e (from t xs)
  where
    go : (h : Result (Option Setting) Refusal) → (not (is_stop h) && all (λ x. not (is_stop (heard t x))) xs) ≡ true
        → ((y : Table) → all (λ x. not (is_stop (heard t x))) xs ≡ true → variants_from t y xs ≡ whole_table (foldl with_setting y (settings_of t xs)))
        → heard_then x h u (λ y. variants_from t y xs) ≡ whole_table (foldl with_setting u (setting_in h ++ settings_of t xs))
    go (Err r) f ih = contra false f refl
    go (Ok None) f ih = ih u f
    go (Ok (Some s)) f ih = ih (with_setting u s) f

whole : {t : List ℕ} {cap : ℕ} → NothingElse t cap → variants_of t cap ≡ whole_table (sheet_table t)
unfolding variants_of variants_in sheet_table filled_with
whole {t} {cap} n = rw (n.text, le-ltb cap max_text n.join) (from t (blocks_of t) empty_table n.blocks)

-- ---- what is told at the end

pair_told : (u : Table) (v : ℕ) → (whole_by u v).outcome ≡ Err SharedValve → v ≡ 0 → ⊥
pair_told u zero e z = let y : ◌≡◌ {A = ℕ} 0 1 = cc in omega arith
pair_told u (suc v) e z = omega arith

told_pair : (u : Table) (v : ℕ) → (v ≡ 0 → ⊥) → (whole_by u v).outcome ≡ Err SharedValve
told_pair u zero n = absurd (n refl)
told_pair u (suc v) n = refl

variant_told : (u : Table) (v : ℕ) → (whole_by u v).variant ≡ v
variant_told u zero = refl
variant_told u (suc v) = refl

pub first_named : FirstNamed
unfolding whole_table
first_named t cap n = let u : Table = sheet_table t in rw (ap (λ r. r.variant) (whole n) ∙ variant_told u (first_pair u)) (first_is u)

-- ---- 21 is told of no block: a block is refused by 6, 7 or 20

limited_not : is_limited (Err SharedValve) ≡ false
unfolding is_in number_of
limited_not = refl

module _ (t : List ℕ) (k : length t ≤ max_text) where
  limited_at : (x : Try) → x.found ≡ flush_left t max_text x.at → is_block x.found ≡ true → is_limited (filled_found t x.at x.found).outcome ≡ true
  unfolding block_of
  limited_at x f b = ap (λ g. is_limited (filled_found t x.at g).outcome) f ∙ block_limited t max_text x.at k (ap is_block (sym f) ∙ b)

  not_shared : (x : Try) → x.found ≡ flush_left t max_text x.at → is_block x.found ≡ true → heard t x ≡ Err SharedValve → ⊥
  unfolding heard
  not_shared x f b = by_outcome (filled_found t x.at x.found).outcome refl
    where
      T : Texts
      T = texts_in t x.found

      a : Attrs
      a = (filled_found t x.at x.found).set

      by_outcome : (o : Result (Unit {0}) Refusal) → (filled_found t x.at x.found).outcome ≡ o → heard_by T a o ≡ Err SharedValve → ⊥
      by_outcome (Err r) q e = let z : r ≡ SharedValve = cc in contra (is_limited (filled_found t x.at x.found).outcome) (limited_at x f b) (ap is_limited (q ∙ ap (λ z. Err z) z) ∙ limited_not)
      by_outcome (Ok _) q e = let y : SharedValve ≡ BadSetting = only_bad (meaning_of T a) e in let z : ◌≡◌ {A = ℕ} 0 1 = cc in omega arith

  from_shared : (xs : List Try) (n at : ℕ) → InOrder t max_text n at xs → (u : Table) → (variants_from t u xs).outcome ≡ Err SharedValve → all (λ x. not (is_stop (heard t x))) xs ≡ true
  unfolding variants_from all InOrder
  from_shared [] n at i u e = refl
  from_shared (x ∷ xs) n at i u e = go (heard t x) refl e (from_shared xs _ _ i.1)
    where
      go : (h : Result (Option Setting) Refusal) → heard t x ≡ h → (heard_then x h u (λ y. variants_from t y xs)).outcome ≡ Err SharedValve
          → ((y : Table) → (variants_from t y xs).outcome ≡ Err SharedValve → all (λ x. not (is_stop (heard t x))) xs ≡ true)
          → (not (is_stop h) && all (λ x. not (is_stop (heard t x))) xs) ≡ true
      go (Err r) q f ih = let z : r ≡ SharedValve = cc in absurd (not_shared x i.0.found i.0.is (q ∙ ap (λ z. Err z) z))
      go (Ok None) q f ih = ih u f
      go (Ok (Some s)) q f ih = ih (with_setting u s) f

-- ---- nothing else is refused where a table is handed out, or 21 is told

from_passed : (t : List ℕ) (xs : List Try) (u : Table) → (variants_from t u xs).outcome ≡ Ok tt → all (λ x. not (is_stop (heard t x))) xs ≡ true
unfolding variants_from all
from_passed t [] u e = refl
from_passed t (x ∷ xs) u e = go (heard t x) e (from_passed t xs)
  where
    go : (h : Result (Option Setting) Refusal) → (heard_then x h u (λ y. variants_from t y xs)).outcome ≡ Ok tt → ((y : Table) → (variants_from t y xs).outcome ≡ Ok tt → all (λ x. not (is_stop (heard t x))) xs ≡ true)
        → (not (is_stop h) && all (λ x. not (is_stop (heard t x))) xs) ≡ true
    go (Err r) f ih = let z : ◌≡◌ {A = ℕ} 0 1 = cc in absurd (omega arith)
    go (Ok None) f ih = ih u f
    go (Ok (Some s)) f ih = ih (with_setting u s) f

nothing_else : (t : List ℕ) (cap : ℕ) (o : Result (Unit {0}) Refusal) → (o ≡ Err JoinFull → ⊥) → ((r : Refusal) → check_of t ≡ Err r → o ≡ Err r → ⊥)
    → (length t ≤ max_text → (variants_from t empty_table (blocks_of t)).outcome ≡ o → all (λ x. not (is_stop (heard t x))) (blocks_of t) ≡ true) → (variants_of t cap).outcome ≡ o → NothingElse t cap
unfolding variants_of variants_in
nothing_else t cap o j c w e = go (check_of t) refl (ltb cap max_text) refl e
  where
    go : (d : Result (Unit {0}) Refusal) → check_of t ≡ d → (b : Bool) → ltb cap max_text ≡ b → (variants_by t cap d).outcome ≡ o → NothingElse t cap
    go (Err r) p b q f = absurd (c r p (sym f))
    go (Ok _) p true q f = absurd (j (sym (rw q at f)))
    go (Ok _) p false q f = record { text = p; join = ltb-false cap max_text q; blocks = w (text_short t (sym (passed t (sym p) refl))) (rw q at f) }

check_shared : (t : List ℕ) (r : Refusal) → check_of t ≡ Err r → refused SharedValve ≡ Err r → ⊥
unfolding check_of in_order
check_shared t r e f = go (too_long t) (is_utf8 t) (e ∙ sym f)
  where
    go : (x y : Bool) → cond {A = Result (Unit {0}) Refusal} x (Err TextTooLong) (cond y (Ok tt) (Err NotUtf8)) ≡ Err SharedValve → ⊥
    go true y e = let z : ◌≡◌ {A = ℕ} 0 1 = cc in omega arith
    go false true e = let z : ◌≡◌ {A = ℕ} 0 1 = cc in omega arith
    go false false e = let z : ◌≡◌ {A = ℕ} 0 1 = cc in omega arith

shared_else : (t : List ℕ) (cap : ℕ) → (variants_of t cap).outcome ≡ Err SharedValve → NothingElse t cap
shared_else t cap =
    nothing_else t cap (Err SharedValve) (λ f. let z : ◌≡◌ {A = ℕ} 0 1 = cc in omega arith) (λ r. check_shared t r)
    (λ k. from_shared t k (blocks_of t) 1 0 (sheet_in_order t k) empty_table)

pub pair_exactly : PairExactly
unfolding whole_table
pair_exactly t cap =
    let u : Table = sheet_table t in (
      λ e. let n = shared_else t cap e in (n, (pair_found_exactly u).1 (pair_told u (first_pair u) (ap (λ r. r.outcome) (sym (whole n)) ∙ e))),
      λ n p. ap (λ r. r.outcome) (whole n) ∙ told_pair u (first_pair u) ((pair_found_exactly u).0 p),
    )

passed_told : (u : Table) (v : ℕ) → (whole_by u v).outcome ≡ Ok tt → (v ≡ 0) × ((whole_by u v).table ≡ u)
passed_told u zero e = (refl, refl)
passed_told u (suc v) e = let z : ◌≡◌ {A = ℕ} 0 1 = cc in absurd (omega arith)

told_passed : (u : Table) (v : ℕ) → ((v ≡ 0 → ⊥) → ⊥) → (whole_by u v).outcome ≡ Ok tt
told_passed u zero n = refl
told_passed u (suc v) n = absurd (n (λ z. omega arith))

pub handed_whole : HandedWhole
unfolding whole_table
handed_whole t cap =
    let u : Table = sheet_table t in (
      λ e. let n = nothing_else t cap (Ok tt) (λ f. let z : ◌≡◌ {A = ℕ} 0 1 = cc in omega arith) (λ r f g. let z : ◌≡◌ {A = ℕ} 0 1 = cc in omega arith) (λ k. from_passed t (blocks_of t) empty_table) e in let z = passed_told u (first_pair u) (ap (λ r. r.outcome) (sym (whole n)) ∙ e) in
          record { else = n; is = ap (λ r. r.table) (whole n) ∙ z.1; none = λ p. (pair_found_exactly u).0 p z.0 },
      λ n h. ap (λ r. r.outcome) (whole n) ∙ told_passed u (first_pair u) (λ f. h ((pair_found_exactly u).1 f)),
    )

-- ---- "A refusal hands out no table."

from_none : (t : List ℕ) (xs : List Try) (u : Table) (r : Refusal) → (variants_from t u xs).outcome ≡ Err r → (variants_from t u xs).table ≡ empty_table
unfolding variants_from whole_table
from_none t [] u r e = go (first_pair u) e
  where
    go : (v : ℕ) → (whole_by u v).outcome ≡ Err r → (whole_by u v).table ≡ empty_table
    go zero f = let z : ◌≡◌ {A = ℕ} 0 1 = cc in absurd (omega arith)
    go (suc v) f = refl
from_none t (x ∷ xs) u r e = go (heard t x) e (from_none t xs)
  where
    go : (h : Result (Option Setting) Refusal) → (heard_then x h u (λ y. variants_from t y xs)).outcome ≡ Err r
        → ((y : Table) (q : Refusal) → (variants_from t y xs).outcome ≡ Err q → (variants_from t y xs).table ≡ empty_table)
        → (heard_then x h u (λ y. variants_from t y xs)).table ≡ empty_table
    go (Err q) f ih = refl
    go (Ok None) f ih = ih u r f
    go (Ok (Some s)) f ih = ih (with_setting u s) r f

pub none_refused : NoneRefused
unfolding variants_of variants_in
none_refused t cap r e = go (check_of t) (ltb cap max_text) refl e
  where
    go : (c : Result (Unit {0}) Refusal) (b : Bool) → ltb cap max_text ≡ b → (variants_by t cap c).outcome ≡ Err r → (variants_by t cap c).table ≡ empty_table
    go (Err q) b p f = refl
    go (Ok _) true p f = rw p
    go (Ok _) false p f = rw p (from_none t (blocks_of t) empty_table r (rw p at f))

-- ---- the last block counts

module _ (t : List ℕ) (v w : ℕ) where
  last_of : (xs : List Try) {x : ℕ} → LastBlock t xs v w x → LastFor v w x (settings_of t xs)
  unfolding settings_of flat_map
  last_of xs l =
      record {
        before = settings_of t l.before;
        behind = settings_of t l.behind;
        split = rw (l.split, flat_append (λ x. setting_in (heard t x)) l.before (l.block ∷ l.behind), l.says);
        none = l.none;
      }

  last_there : (xs : List Try) → any_for v w (settings_of t xs) ≡ true → (x : ℕ) × LastBlock t xs v w x
  unfolding settings_of flat_map any_for
  last_there [] e = contra false e refl
  last_there (y ∷ ys) e = go (any_for v w (settings_of t ys)) refl (last_there ys)
    where
      is : (s : Setting) (b : Bool) → is_for v w s ≡ b → cond b true (any_for v w (settings_of t ys)) ≡ true → any_for v w (settings_of t ys) ≡ false → s ≡ record { variant = v; wheel = w; valve = s.valve }
      is s true r f q = let z = for_both v w s r in rw (← z.0, ← z.1)
      is s false r f q = contra _ f q

      here : (h : Result (Option Setting) Refusal) → heard t y ≡ h → any_for v w (setting_in h ++ settings_of t ys) ≡ true → any_for v w (settings_of t ys) ≡ false → (x : ℕ) × LastBlock t (y ∷ ys) v w x
      here (Err r) k f q = contra _ f q
      here (Ok None) k f q = contra _ f q
      here (Ok (Some s)) k f q = (s.valve, record { before = []; block = y; behind = ys; split = refl; says = k ∙ ap (λ z. Ok (Some z)) (is s (is_for v w s) refl f q); none = q })

      go : (b : Bool) → any_for v w (settings_of t ys) ≡ b → (any_for v w (settings_of t ys) ≡ true → (x : ℕ) × LastBlock t ys v w x) → (x : ℕ) × LastBlock t (y ∷ ys) v w x
      go true q ih =
          let z = ih q in
          (z.0, record { before = y ∷ z.1.before; block = z.1.block; behind = z.1.behind; split = ap (λ (l : List Try). y ∷ l) z.1.split; says = z.1.says; none = z.1.none })
      go false q ih = here (heard t y) refl e q

pub last_block_counts : LastBlockCounts
unfolding sheet_table
last_block_counts t v w p x = (λ l. cell_last p (last_of t v w (blocks_of t) l), λ e. go (any_for v w (settings_of t (blocks_of t))) refl e)
  where
    go : (b : Bool) → any_for v w (settings_of t (blocks_of t)) ≡ b → valve_at (filled_with (settings_of t (blocks_of t))) v w ≡ Some x → LastBlock t (blocks_of t) v w x
    go true q e =
        let z = last_there t v w (blocks_of t) q in
        let f : Some z.0 ≡ Some x = sym (cell_last p (last_of t v w (blocks_of t) z.1)) ∙ e in
        let g : z.0 ≡ x = cc in
        rw g at z.1
    go false q e = let f : None ≡ Some x = sym (cell_none p (settings_of t (blocks_of t)) q) ∙ e in let g : ◌≡◌ {A = ℕ} 0 1 = cc in absurd (omega arith)

pub no_block_unfilled : NoBlockUnfilled
unfolding sheet_table
no_block_unfilled t v w p = unfilled_else v w p (settings_of t (blocks_of t))

-- ---- a cell that is filled is in its range

by_heard : (t : List ℕ) (xs : List Try) → settings_of t xs ≡ flat_map setting_in (map (heard t) xs)
unfolding settings_of flat_map
by_heard t [] = refl
by_heard t (x ∷ xs) = rw (by_heard t xs)

ranged : (t : List ℕ) (xs : List Try) → all (λ s. leb s.valve max_valve) (settings_of t xs) ≡ true
unfolding settings_of flat_map all heard
ranged t [] = refl
ranged t (x ∷ xs) = all_append (λ s. leb s.valve max_valve) (setting_in (heard t x)) (settings_of t xs) (by_outcome (filled_found t x.at x.found).outcome) (ranged t xs)
  where
    T : Texts
    T = texts_in t x.found

    a : Attrs
    a = (filled_found t x.at x.found).set

    by_setting : (h : Result (Option Setting) Refusal) → setting_of (meaning_of T a) ≡ h → all (λ s. leb s.valve max_valve) (setting_in h) ≡ true
    by_setting (Err r) e = refl
    by_setting (Ok None) e = refl
    by_setting (Ok (Some s)) e = rw (le-leb s.valve max_valve (set_counts T a e).valve_range)

    by_outcome : (o : Result (Unit {0}) Refusal) → all (λ s. leb s.valve max_valve) (setting_in (heard_by T a o)) ≡ true
    by_outcome (Err r) = refl
    by_outcome (Ok _) = by_setting (setting_of (meaning_of T a)) refl

pub in_range : InRange
unfolding sheet_table all
in_range t v w x p e =
    let l = (last_counts v w p x (settings_of t (blocks_of t))).1 e in
    let z = all_parts (λ s. leb s.valve max_valve) l.before (record { variant = v; wheel = w; valve = x } ∷ l.behind) (rw l.split at (ranged t (blocks_of t))) in
    leb-true x max_valve (both (leb x max_valve) (all (λ s. leb s.valve max_valve) l.behind) z.1).0

-- ---- one block more

pub other_rows_stay : OtherRowsStay
unfolding sheet_table flat_map
other_rows_stay t u s m v w p n =
    rw (by_heard t (blocks_of t), by_heard u (blocks_of u), m.with, m.without, flat_append setting_in m.before (Ok (Some s) ∷ m.behind), flat_append setting_in m.before m.behind)
    (row_without v w p s n (flat_map setting_in m.before) (flat_map setting_in m.behind))

pub passed_changes_none : PassedChangesNone
unfolding sheet_table flat_map
passed_changes_none t u m =
    rw (by_heard t (blocks_of t), by_heard u (blocks_of u), m.with, m.without, flat_append setting_in m.before (Ok None ∷ m.behind), flat_append setting_in m.before m.behind)
