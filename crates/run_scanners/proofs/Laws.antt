-- The scanners on joined texts, what the greatest number leaves of a column, and the three loops.
-- Assumes nothing.
use Rattle.std.specs.Prelude.{None, Option, Some}
use mathlib.Core.Path.{◌≡◌, refl, sym, ◌∙◌, ap}
use mathlib.Core.Bool.{Bool, true, false, cond, ◌&&◌}
use mathlib.Core.List.{List, [], ◌∷◌, ◌++◌, foldl-append}
use Prim.Native.Nat.{ℕ, suc, ◌+◌, ◌<◌, ◌≤◌}
use native.Mathlib.Numerals.{add-one}
use lib.Dec.{eqb}
use lib.ListN.{length, get_or, drop, drop_of_length-le}
use lib.Seq.{drop-cons}
use Rattle.std.specs.List.{list_any}
use Rattle.base_lists.specs.Lists.{is_in}
use Rattle.base_lists.proofs.More.{eqb_sym}
use Rattle.text_tabs.specs.Columns.{capped}
use Rattle.text_tabs.proofs.Laws.{capped_id, capped_le, capped-after}
use Rattle.block_grammar.specs.declared.Scan.{Scan}
use Rattle.run_scanners.specs.declared.Seek.{Seek}
use Rattle.run_scanners.specs.declared.Held.{Held}
use Rattle.run_scanners.specs.Scanners.{honoured, passed, scan_from, is_bare, seek_step, seek_from, capped_at, held_step, hold_step, hold_from, hold_start, is_held, holds_open}
use Rattle.run_scanners.specs.Inner.{capped_seek}

-- ---- joined texts: a scanner goes on from where the part before left it

pub seek_append : (k : Seek) (a b : List ℕ) → seek_from k (a ++ b) ≡ seek_from (seek_from k a) b
unfolding seek_from
seek_append = foldl-append seek_step

pub hold_append : (h : Option Held) (a b : List ℕ) → hold_from h (a ++ b) ≡ hold_from (hold_from h a) b
unfolding hold_from
hold_append = foldl-append hold_step

pub holds_append : (a b : List ℕ) → holds_open (a ++ b) ≡ is_held (hold_from (hold_from hold_start a) b)
unfolding holds_open
holds_append a b = ap is_held (hold_append hold_start a b)

-- a dead scan stays dead
pub dead_stays : (s : List ℕ) → hold_from None s ≡ None
unfolding hold_from
dead_stays [] = refl
dead_stays (b ∷ s) = dead_stays s

pub hold_cons : (h : Held) (b : ℕ) (s : List ℕ) → hold_from (Some h) (b ∷ s) ≡ hold_from (held_step h b) s
unfolding hold_from
hold_cons h b s = refl

-- ---- the greatest number: a column that was cut to it leads to no other cut column

pub capped_twice : (n : ℕ) → capped (capped n) ≡ capped n
capped_twice n = capped_id (capped n) (capped_le n)

capped-found : (p : Option ℕ) → capped_at (capped_at p) ≡ capped_at p
capped-found None = refl
capped-found (Some c) = ap (λ n. Some n) (capped_twice c)

pub capped_seek_lem : (k : Seek) → capped_seek (capped_seek k) ≡ capped_seek k
capped_seek_lem k = rw (capped_twice k.column, capped-found k.found)

found_step : (x : Bool) (c : ℕ) (p : Option ℕ) → capped_at (cond x (Some (capped c)) (capped_at p)) ≡ capped_at (cond x (Some c) p)
found_step true c p = ap (λ n. Some n) (capped_twice c)
found_step false c p = capped-found p

capped_step : (k : Seek) (b : ℕ) → capped_seek (seek_step (capped_seek k) b) ≡ capped_seek (seek_step k b)
unfolding seek_step
capped_step k b = rw (capped-after k.column (cond (k.scan.escaped && eqb b 9) 32 b), found_step (is_bare k.scan b 123) k.column k.found)

pub capped_rest : (k : Seek) (s : List ℕ) → capped_seek (seek_from (capped_seek k) s) ≡ capped_seek (seek_from k s)
unfolding seek_from
capped_rest k [] = capped_seek_lem k
capped_rest k (b ∷ s) = sym (capped_rest (seek_step (capped_seek k) b) s) ∙ ap (λ j. capped_seek (seek_from j s)) (capped_step k b) ∙ capped_rest (seek_step k b) s

-- ---- the loop of `open_quote_at_end`: the bytes from i on lead from the state st to the answer r
pub record Opens (s : List ℕ) (r : Option ℕ) (i : ℕ) (st : Scan) : Type 0 where
  pub rest : (scan_from honoured st (drop i s)).quote ≡ r

module _ {s : List ℕ} {r : Option ℕ} {i : ℕ} {st : Scan} (inv : Opens s r i st) where
  pub opens_go : {v : Scan} → i < length s → v ≡ passed honoured st (get_or s i 0) → Opens s r (i + 1) v
  unfolding scan_from
  opens_go h e = record { rest = rw (e, add-one) (rw (drop-cons s i 0 h) at inv.rest) }

  pub opens_end : length s ≤ i → st.quote ≡ r
  unfolding scan_from
  opens_end h = rw (drop_of_length-le s h) at inv.rest

-- ---- the loop of `last_open_brace_column`
pub record Seeks (s : List ℕ) (r : Option ℕ) (i : ℕ) (k : Seek) : Type 0 where
  pub small : capped_seek k ≡ k
  pub rest : capped_at (seek_from k (drop i s)).found ≡ r

pub seeks_start : (s : List ℕ) (k : Seek) → capped_seek k ≡ k → Seeks s (capped_at (seek_from k s).found) 0 k
seeks_start s k h = record { small = h; rest = refl }

module _ {s : List ℕ} {r : Option ℕ} {i : ℕ} {k : Seek} (inv : Seeks s r i k) where
  pub seeks_go : {v : Seek} → i < length s → v ≡ capped_seek (seek_step k (get_or s i 0)) → Seeks s r (i + 1) v
  unfolding seek_from
  seeks_go h e =
      record {
        small = rw e (capped_seek_lem (seek_step k (get_or s i 0)));
        rest = rw (e, add-one) (ap (λ j. j.found) (capped_rest (seek_step k (get_or s i 0)) (drop (suc i) s)) ∙ (rw (drop-cons s i 0 h) at inv.rest));
      }

  pub seeks_end : length s ≤ i → k.found ≡ r
  unfolding seek_from
  seeks_end h = ap (λ j. j.found) (sym inv.small) ∙ (rw (drop_of_length-le s h) at inv.rest)

-- ---- the loop of `hold_on`
pub record Holds (s : List ℕ) (r : Option Held) (i : ℕ) (h : Held) : Type 0 where
  pub rest : hold_from (Some h) (drop i s) ≡ r

module _ {s : List ℕ} {r : Option Held} {i : ℕ} {h : Held} (inv : Holds s r i h) where
  pub holds_dead : i < length s → None ≡ held_step h (get_or s i 0) → None ≡ r
  holds_dead l q = sym (dead_stays (drop (suc i) s)) ∙ (rw (drop-cons s i 0 l, hold_cons, ← q) at inv.rest)

  pub holds_go : {v : Held} → i < length s → Some v ≡ held_step h (get_or s i 0) → Holds s r (i + 1) v
  holds_go l q = record { rest = rw add-one (rw (drop-cons s i 0 l, hold_cons, ← q) at inv.rest) }

  pub holds_end : length s ≤ i → Some h ≡ r
  unfolding hold_from
  holds_end l = rw (drop_of_length-le s l) at inv.rest

-- ---- what `contains_close` asks the library
pub any_in : (b : ℕ) (s : List ℕ) → list_any (λ y. eqb y b) s ≡ is_in s b
unfolding is_in
any_in b [] = refl
any_in b (a ∷ s) = rw (eqb_sym b a, any_in b s)
