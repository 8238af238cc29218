-- Where a scan can be told without going byte by byte: no quote is there, or no open brace.
-- Assumes nothing.
use mathlib.Core.Path.{◌≡◌, refl, sym, ◌∙◌, ap}
use mathlib.Core.Bool.{Bool, true, false, cond, not, ◌&&◌, ◌||◌}
use mathlib.Core.List.{List, [], ◌∷◌, ◌++◌}
use Prim.Native.Nat.{ℕ, suc, ◌+◌, ◌-◌, ◌<◌, ◌≤◌}
use native.Mathlib.Numerals.{add-one}
use native.Mathlib.Omega.{arith}
use lib.Dec.{eqb}
use lib.ListN.{length, get_or, take, drop, length-drop, drop_of_length-le}
use lib.Seq.{drop-cons, get_or-drop, split_at}
use borrow.Author.Tests.{ne_eqb}
use Rattle.std.proofs.Common.{Option, None, Some, MatchOption, ◌≢◌}
use Rattle.base_lists.specs.Lists.{all, is_in}
use Rattle.base_lists.proofs.More.{contra, eqb_sym}
use Rattle.base_bytes.specs.Bytes.{is_quote, open_brace}
use Rattle.text_tabs.specs.Columns.{columns_from}
use Rattle.block_grammar.specs.Close.{fresh, turned}
use Rattle.block_grammar.specs.declared.Scan.{Scan}
use Rattle.run_scanners.specs.declared.Seek.{Seek}
use Rattle.run_scanners.specs.Scanners.{honoured, in_quote, passed, scan_from, open_quote_at_end, is_bare, seek_step, seek_from, seek_start, last_open_brace}
use Rattle.run_scanners.specs.Inner.{LastBrace}
use Rattle.run_scanners.proofs.Laws.{seek_append}

abbrev no_quote : ℕ → Bool
no_quote b = not (is_quote b)

both : (a b : Bool) → (a && b) ≡ true → (a ≡ true) × (b ≡ true)
both true b h = (refl, h)
both false b h = contra false h refl

neither : (a b : Bool) → (a || b) ≡ false → (a ≡ false) × (b ≡ false)
neither false b h = (refl, h)
neither true b h = contra true refl h

no : (a : Bool) → not a ≡ true → a ≡ false
no false h = refl
no true h = contra false h refl

-- ---- the loop over all bytes: `met`, whether a quote stood before byte i
pub record Meets (s : List ℕ) (i : ℕ) (met : Bool) : Type 0 where
  pub rest : (not met && all no_quote (drop i s)) ≡ all no_quote s

module _ {s : List ℕ} {i : ℕ} {met : Bool} (inv : Meets s i met) where
  pub meets_go : {v : Bool} → i < length s → v ≡ (met || is_quote (get_or s i 0)) → Meets s (i + 1) v
  unfolding all
  meets_go h e = record { rest = rw (e, add-one) (go met (is_quote (get_or s i 0)) ∙ (rw (drop-cons s i 0 h) at inv.rest)) }
    where
      go : (m q : Bool) → (not (m || q) && all no_quote (drop (suc i) s)) ≡ (not m && (not q && all no_quote (drop (suc i) s)))
      go true q = refl
      go false q = refl

  pub meets_end : length s ≤ i → not met ≡ all no_quote s
  unfolding all
  meets_end h = go met ∙ (rw (drop_of_length-le s h) at inv.rest)
    where
      go : (m : Bool) → not m ≡ (not m && true)
      go true = refl
      go false = refl

-- ---- without a quote none is left open
out_step : (st : Scan) (b : ℕ) → st.quote ≡ None → is_quote b ≡ false → (passed honoured st b).quote ≡ None
unfolding passed turned
out_step st b e q = rw (e, q) (go st.escaped (eqb b 92))
  where
    go : (x y : Bool) → (cond {A = Scan} x (record { quote = None; escaped = false }) (cond y (record { quote = None; escaped = true }) (record { quote = None; escaped = false }))).quote ≡ None
    go true y = refl
    go false true = refl
    go false false = refl

stays : (st : Scan) (s : List ℕ) → st.quote ≡ None → all no_quote s ≡ true → (scan_from honoured st s).quote ≡ None
unfolding scan_from all
stays st [] e h = e
stays st (b ∷ s) e h = let z = both (no_quote b) _ h in stays (passed honoured st b) s (out_step st b e (no _ z.0)) z.1

pub none_open : (s : List ℕ) → all no_quote s ≡ true → None ≡ open_quote_at_end s
unfolding open_quote_at_end
none_open s h = sym (stays fresh s refl h)

-- ---- without an open brace none is found
bare_not : (st : Scan) (b c : ℕ) → eqb b c ≡ false → is_bare st b c ≡ false
bare_not st b c h = rw h (go st.escaped (in_quote st.quote))
  where
    go : (x y : Bool) → cond x false (not y && false) ≡ false
    go true y = refl
    go false true = refl
    go false false = refl

found_stays : (k : Seek) (b : ℕ) → eqb b open_brace ≡ false → (seek_step k b).found ≡ k.found
unfolding seek_step
found_stays k b q = rw (bare_not k.scan b open_brace q)

pub none_found : (k : Seek) (s : List ℕ) → is_in s open_brace ≡ false → (seek_from k s).found ≡ k.found
unfolding seek_from is_in
none_found k [] h = refl
none_found k (b ∷ s) h =
    let z = neither _ _ h in
    none_found (seek_step k b) s z.1 ∙ found_stays k b (sym (eqb_sym open_brace b) ∙ z.0)

-- ---- without a quote the search stays outside, and its column is that of the text
calm_scan : (k : Seek) (b : ℕ) → k.scan ≡ fresh → is_quote b ≡ false → (seek_step k b).scan ≡ fresh
unfolding seek_step passed turned
calm_scan k b e q = rw (e, q)

calm_column : (k : Seek) (b : ℕ) → k.scan ≡ fresh → (seek_step k b).column ≡ columns_from k.column (b ∷ [])
unfolding seek_step columns_from
calm_column k b e = rw e

calm : (k : Seek) (s : List ℕ) → k.scan ≡ fresh → all no_quote s ≡ true → ((seek_from k s).scan ≡ fresh) × ((seek_from k s).column ≡ columns_from k.column s)
unfolding seek_from columns_from all
calm k [] e h = (e, refl)
calm k (b ∷ s) e h =
    let z = both (no_quote b) _ h in
    let r = calm (seek_step k b) s (calm_scan k b e (no _ z.0)) z.1 in
    (r.0, r.1 ∙ ap (λ c. columns_from c s) (calm_column k b e))

at_brace : (k : Seek) → k.scan ≡ fresh → (seek_step k open_brace).found ≡ Some k.column
unfolding seek_step
at_brace k e = rw e

-- ---- `behind_brace` asks the library for the last brace
not_in : (b : ℕ) (s : List ℕ) → ((k : ℕ) → k < length s → get_or s k 0 ≢ b) → is_in s b ≡ false
unfolding is_in
not_in b [] h = refl
not_in b (a ∷ s) h = rw (ne_eqb b a (λ e. h 0 (omega arith) (sym e)), not_in b s (λ k l. h (suc k) (omega arith)))

-- b stands at the place, and nowhere behind it; where there is none, nowhere
abbrev pub IsLast : ℕ → List ℕ → Option ℕ → Type 0
IsLast b s r = MatchOption r ((k : ℕ) → k < length s → get_or s k 0 ≢ b) (λ i. (i < length s) × ((get_or s i 0 ≡ b) × ((k : ℕ) → i < k → k < length s → get_or s k 0 ≢ b)))

pub brace_found : (s : List ℕ) (r : Option ℕ) {n : ℕ} → IsLast open_brace s r → MatchOption r (n ≡ 0) (λ i. n ≡ i + 1) → LastBrace s n
brace_found s None h e = rw e (record { within = omega arith; none = not_in open_brace s h; there = λ l. absurd (omega arith) })
brace_found s (Some i) {n} (w, (at, h)) e =
    let z : n - 1 ≡ i = omega arith in
    record {
      within = omega arith;
      none = not_in open_brace (drop n s) (λ k l. rw (get_or-drop n s k 0) (h (n + k) (omega arith) (omega (arith, length-drop n s))));
      there = λ l. rw z at;
    }

module _ {line : List ℕ} {e : ℕ} (b : LastBrace line e) (q : Option ℕ) (start : ℕ) where
  pub no_brace : e ≡ 0 → None ≡ last_open_brace q start line
  unfolding last_open_brace
  no_brace z = sym (none_found (seek_start q start) line (rw z at b.none))

  pub last_brace : 0 < e → (not (in_quote q) && all no_quote (take (e - 1) line)) ≡ true → Some (columns_from start (take (e - 1) line)) ≡ last_open_brace q start line
  unfolding last_open_brace seek_from
  last_brace h o = let a = both (not (in_quote q)) (all no_quote (take (e - 1) line)) o in outside q a.0 a.1
    where
      whole : line ≡ take (e - 1) line ++ (open_brace ∷ drop e line)
      whole = let z : suc (e - 1) ≡ e = omega arith in rw (b.there h, z) at (split_at line (e - 1) 0 (omega (arith, b.within)))

      found : (k : Seek) → k.scan ≡ fresh → all no_quote (take (e - 1) line) ≡ true → (seek_from k (take (e - 1) line ++ (open_brace ∷ drop e line))).found ≡ Some (columns_from k.column (take (e - 1) line))
      found k f a =
          let m = calm k (take (e - 1) line) f a in
          ap (λ j. j.found) (seek_append k (take (e - 1) line) (open_brace ∷ drop e line))
          ∙ none_found (seek_step (seek_from k (take (e - 1) line)) open_brace) (drop e line) b.none
          ∙ at_brace (seek_from k (take (e - 1) line)) m.0
          ∙ ap (λ c. Some c) m.1

      outside : (q : Option ℕ) → not (in_quote q) ≡ true → all no_quote (take (e - 1) line) ≡ true → Some (columns_from start (take (e - 1) line)) ≡ last_open_brace q start line
      outside None o a = sym (ap (λ l. (seek_from (seek_start None start) l).found) whole ∙ found (seek_start None start) refl a)
      outside (Some k) o a = contra false o refl
