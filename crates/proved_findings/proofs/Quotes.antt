-- The quote that is told as left open.
-- Assumes nothing.
use Rattle.std.specs.Prelude.{None, Option, Some}
use mathlib.Core.Path.{◌≡◌, refl, sym, ◌∙◌, ap}
use mathlib.Core.Bool.{Bool, true, false, cond}
use mathlib.Core.List.{List, [], ◌∷◌}
use Prim.Native.Nat.{ℕ, zero, suc, ◌+◌, ◌-◌, ◌≤◌, ◌<◌}
use native.Mathlib.Nat.{add-zero, add-suc, suc-add}
use native.Mathlib.Omega.{arith}
use borrow.Author.Tests.{ltb-true, ltb-false}
use lib.Dec.{eqb, ltb}
use lib.ListN.{length, take, drop, get_or, length-drop}
use lib.Seq.{get_or-drop, take-length}
use Rattle.base_lists.proofs.More.{contra}
use Rattle.base_lists.proofs.Parts.{slice_add}
use Rattle.base_bytes.specs.Bytes.{is_quote}
use Rattle.block_grammar.specs.Close.{fresh, turned, uncovered}
use Rattle.block_grammar.specs.declared.Scan.{Scan}
use Rattle.run_scanners.specs.Scanners.{in_quote, honoured, takes, passed, scan_from, open_quote_at_end}
use Rattle.run_stops.specs.Stops.{kept_at, quote_from, quote_left}
use Rattle.proved_findings.specs.Quotes.{open_up_to, LeftOpen, StandsAt, TrueQuotes, OnlyQuote}

-- ---- one byte: the quote that is open behind it is the one that was open before it, or else that byte

abbrev kept_by : Option ℕ → ℕ → Option ℕ
kept_by None b = Some b
kept_by (Some k) b = Some k

same_open : (q : Option ℕ) (b : ℕ) → in_quote q ≡ true → q ≡ kept_by q b
same_open None b e = contra false e refl
same_open (Some k) b e = refl

turned_open : (q : Option ℕ) (b : ℕ) → in_quote (turned q b) ≡ true → turned q b ≡ kept_by q b
unfolding turned
turned_open None b = go (is_quote b)
  where
    go : (x : Bool) → in_quote (cond x (Some b) None) ≡ true → cond x (Some b) None ≡ Some b
    go true e = refl
    go false e = contra false e refl
turned_open (Some k) b = go (eqb b k)
  where
    go : (x : Bool) → in_quote (cond x None (Some k)) ≡ true → cond x None (Some k) ≡ Some k
    go true e = contra false e refl
    go false e = refl

passed_open : (st : Scan) (b : ℕ) → in_quote (passed honoured st b).quote ≡ true → (passed honoured st b).quote ≡ kept_by st.quote b
unfolding passed
passed_open st b = go st.escaped (takes honoured st.quote b)
  where
    behind : Bool → Bool → Option ℕ
    behind x y = (cond x (uncovered st.quote) (cond y (record { quote = st.quote; escaped = true }) (uncovered (turned st.quote b)))).quote

    go : (x y : Bool) → in_quote (behind x y) ≡ true → behind x y ≡ kept_by st.quote b
    go true y = same_open st.quote b
    go false true = same_open st.quote b
    go false false = turned_open st.quote b

-- ---- a list, from a state on

-- what is open behind its first k bytes
abbrev after : Scan → List ℕ → ℕ → Option ℕ
after st u k = (scan_from honoured st (take k u)).quote

record Opens (st : Scan) (u : List ℕ) (j : ℕ) : Type 0 where
  within : j < length u
  before : after st u j ≡ None
  stays : (k : ℕ) → j < k → k ≤ length u → after st u k ≡ Some (get_or u j 0)

data Ends (st : Scan) (at i : ℕ) (u : List ℕ) : Option ℕ → Type 0 where
  none : (scan_from honoured st u).quote ≡ None → Ends st at i u None
  held : {p : ℕ} → p ≡ at → in_quote st.quote ≡ true → ((k : ℕ) → k ≤ length u → after st u k ≡ st.quote) → Ends st at i u (Some p)
  opened : {p : ℕ} (j : ℕ) → p ≡ i + j → Opens st u j → Ends st at i u (Some p)

ends_nil : (st : Scan) (at i : ℕ) → Ends st at i [] (quote_from st at i [])
unfolding scan_from quote_from
ends_nil st at i = go st.quote refl
  where
    stays : (k : ℕ) → k ≤ 0 → after st [] k ≡ st.quote
    stays zero h = refl
    stays (suc k) h = absurd (omega arith)

    go : (q : Option ℕ) → st.quote ≡ q → Ends st at i [] (cond (in_quote q) (Some at) None)
    go None e = Ends.none e
    go (Some k) e = Ends.held refl (ap in_quote e) stays

module _ (st : Scan) (at i b : ℕ) (u : List ℕ) where
  abbrev next : Scan
  next = passed honoured st b

  opens_on : (j : ℕ) → Opens next u j → Opens st (b ∷ u) (suc j)
  unfolding scan_from
  opens_on j o = record { within = omega (arith, o.within); before = o.before; stays = later }
    where
      later : (k : ℕ) → suc j < k → k ≤ length (b ∷ u) → after st (b ∷ u) k ≡ Some (get_or u j 0)
      later zero h l = absurd (omega arith)
      later (suc k) h l = o.stays k (omega arith) (omega arith)

  -- a quote that is open from the next byte on is that byte, or was open before
  held_on : {p : ℕ} (q : Option ℕ) → st.quote ≡ q → p ≡ kept_at q at i → in_quote next.quote ≡ true → ((k : ℕ) → k ≤ length u → after next u k ≡ next.quote) → Ends st at i (b ∷ u) (Some p)
  unfolding scan_from
  held_on None e p o f = Ends.opened 0 (p ∙ sym (add-zero i)) (record { within = omega arith; before = e; stays = later })
    where
      here : next.quote ≡ Some b
      here = passed_open st b o ∙ ap (λ q. kept_by q b) e

      later : (k : ℕ) → 0 < k → k ≤ length (b ∷ u) → after st (b ∷ u) k ≡ Some b
      later zero h l = absurd (omega arith)
      later (suc k) h l = f k (omega arith) ∙ here
  held_on (Some q) e p o f = Ends.held p (ap in_quote e) later
    where
      here : next.quote ≡ st.quote
      here = passed_open st b o ∙ ap (λ q. kept_by q b) e ∙ sym e

      later : (k : ℕ) → k ≤ length (b ∷ u) → after st (b ∷ u) k ≡ st.quote
      later zero l = refl
      later (suc k) l = f k (omega arith) ∙ here

  ends_on : {x : Option ℕ} → Ends next (kept_at st.quote at i) (suc i) u x → Ends st at i (b ∷ u) x
  unfolding scan_from
  ends_on (Ends.none e) = Ends.none e
  ends_on (Ends.held p o f) = held_on st.quote refl p o f
  ends_on (Ends.opened j p o) = Ends.opened (suc j) (p ∙ suc-add i j ∙ sym (add-suc i j)) (opens_on j o)

ends : (u : List ℕ) (st : Scan) (at i : ℕ) → Ends st at i u (quote_from st at i u)
unfolding quote_from
ends [] st at i = ends_nil st at i
ends (b ∷ u) st at i = ends_on st at i b u (ends u (passed honoured st b) (kept_at st.quote at i) (suc i))

-- ---- the bytes of a text from a place on

module _ (s : List ℕ) (from : ℕ) where
  up_to : (k : ℕ) → open_up_to s from (from + k) ≡ after fresh (drop from s) k
  unfolding open_quote_at_end
  up_to k = rw (slice_add from k s)

  left_open : (j p : ℕ) → p ≡ from + j → Opens fresh (drop from s) j → LeftOpen s from p
  left_open j p e o =
      record {
        behind = omega (arith, e);
        within = omega (arith, e, o.within, length-drop from s);
        before = rw e (up_to j ∙ o.before);
        stays = later;
      }
    where
      later : (to : ℕ) → p < to → to ≤ length s → open_up_to s from to ≡ Some (get_or s p 0)
      later to h l =
          let z : to ≡ from + (to - from) = omega (arith, e) in
          rw (z, e) (up_to (to - from) ∙ o.stays (to - from) (omega (arith, e)) (omega (arith, e, length-drop from s)) ∙ ap (λ z. Some z) (get_or-drop from s j 0))

  by_ends : {x : Option ℕ} → Ends fresh from from (drop from s) x → StandsAt s from x
  unfolding open_quote_at_end
  by_ends (Ends.none e) = e
  by_ends (Ends.held p o f) = contra false o refl
  by_ends (Ends.opened j p o) = left_open j _ p o

pub true_quotes : TrueQuotes
unfolding quote_left
true_quotes s from = by_ends s from (ends (drop from s) fresh from from)

-- ---- one place alone

module _ (s : List ℕ) (from : ℕ) where
  none_left : {p : ℕ} → open_quote_at_end (drop from s) ≡ None → LeftOpen s from p → {A : Type 0} → A
  none_left e o =
      let z = rw (take-length s) at (o.stays (length s) o.within (omega arith)) in
      contra true refl (ap in_quote (sym z ∙ e))

  not_before : {p q : ℕ} → LeftOpen s from p → LeftOpen s from q → p < q → {A : Type 0} → A
  not_before {p} {q} a b h = contra true refl (ap in_quote (sym (a.stays q h (omega (arith, b.within))) ∙ b.before))

  same_place : (p q : ℕ) → LeftOpen s from p → LeftOpen s from q → p ≡ q
  same_place p q a b = go (ltb p q) refl (ltb q p) refl
    where
      go : (x : Bool) → ltb p q ≡ x → (y : Bool) → ltb q p ≡ y → p ≡ q
      go true e y f = not_before a b (ltb-true p q e)
      go false e true f = not_before b a (ltb-true q p f)
      go false e false f = omega (arith, ltb-false p q e, ltb-false q p f)

pub only_quote : OnlyQuote
only_quote s from None None a b = refl
only_quote s from None (Some q) a b = none_left s from a b
only_quote s from (Some p) None a b = none_left s from b a
only_quote s from (Some p) (Some q) a b = ap (λ z. Some z) (same_place s from p q a b)
