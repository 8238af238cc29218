-- On UTF-8 text the scanners go by characters: each character does what its first byte does, and takes one column.
-- Assumes nothing.
use Rattle.std.specs.Prelude.{None, Option, Some}
use mathlib.Core.Path.{◌≡◌, refl, sym, ◌∙◌, ap}
use mathlib.Core.Bool.{Bool, true, false, cond, not, ◌&&◌, ◌||◌, and-false}
use mathlib.Core.List.{List, [], ◌∷◌, ◌++◌}
use Prim.Native.Nat.{ℕ, ◌≤◌, ◌<◌}
use native.Mathlib.Omega.{arith}
use lib.Dec.{eqb, leb}
use borrow.Author.Tests.{leb-true, ne_eqb, not-true}
use Rattle.base_lists.specs.Lists.{all, headed, is_in}
use Rattle.base_lists.proofs.Scan.{both}
use Rattle.base_lists.proofs.More.{apart, among_not}
use Rattle.base_bytes.specs.Bytes.{within, is_quote, is_tail}
use Rattle.text_tabs.specs.Columns.{column_after}
use Rattle.proved_texts.specs.Utf8Rules.{one, two, three_E0, three_E1, three_ED, three_EE, four_F0, four_F1, four_F4, none, more, Char, Octets}
use Rattle.proved_texts.proofs.Utf8Shape.{starts, shape}
use Rattle.block_grammar.specs.Close.{uncovered, fresh, turned}
use Rattle.block_grammar.specs.declared.Scan.{Scan}
use Rattle.run_scanners.specs.declared.Seek.{Seek}
use Rattle.run_scanners.specs.declared.Held.{Held}
use Rattle.run_scanners.specs.Scanners.{in_quote, takes, passed, honoured, ignored, scan_from, is_bare, open_quote_at_end, seek_step, seek_from, seek_start, last_open_brace, live, held_step, hold_step, hold_from, hold_start, is_held, holds_open}
use Rattle.proved_runs.specs.Rules.{leads, is_sound}
use Rattle.proved_runs.specs.Scanning.{ScansByCharacters}

-- ---- a byte above 127 is no byte that the scanners look for
module _ (b : ℕ) (h : 128 ≤ b) where
  high_quote : is_quote b ≡ false
  unfolding is_quote is_in
  high_quote = rw (ne_eqb b 34 (λ e. omega arith), ne_eqb b 39 (λ e. omega arith))

  high_takes : (o : Bool) (q : Option ℕ) → takes o q b ≡ false
  high_takes o q = go (in_quote q || o)
    where
      go : (x : Bool) → (x && eqb b 92) ≡ false
      go true = ne_eqb b 92 (λ e. omega arith)
      go false = refl

  high_bare : (st : Scan) (c : ℕ) → c < 128 → is_bare st b c ≡ false
  high_bare st c l = go st.escaped (not (in_quote st.quote))
    where
      go : (x y : Bool) → cond x false (y && eqb b c) ≡ false
      go true y = refl
      go false true = ne_eqb b c (λ e. omega arith)
      go false false = refl

tail_high : (t : ℕ) → is_tail t ≡ true → 128 ≤ t
unfolding is_tail within
tail_high t e = leb-true 128 t (both (leb 128 t) (leb t 191) e).0

-- ---- characters

data Lead : List ℕ → Type 0 where
  single : (b : ℕ) → Lead (b ∷ [])
  many : (b : ℕ) (k : List ℕ) → 128 ≤ b → all is_tail k ≡ true → Lead (b ∷ k)

tails_of : (b : ℕ) (k : List ℕ) → headed starts is_tail (b ∷ k) ≡ true → all is_tail k ≡ true
unfolding headed
tails_of b k e = (both (starts b) (all is_tail k) e).1

lead : {k : List ℕ} → Char k → Lead k
lead (one {a} p) = Lead.single a
lead (two {a} {b} p q) = Lead.many a (b ∷ []) (omega (arith, p.low)) (tails_of a (b ∷ []) (shape (two p q)))
lead (three_E0 {a} {b} {c} p q r) = Lead.many a (b ∷ c ∷ []) (omega (arith, p.low)) (tails_of a (b ∷ c ∷ []) (shape (three_E0 p q r)))
lead (three_E1 {a} {b} {c} p q r) = Lead.many a (b ∷ c ∷ []) (omega (arith, p.low)) (tails_of a (b ∷ c ∷ []) (shape (three_E1 p q r)))
lead (three_ED {a} {b} {c} p q r) = Lead.many a (b ∷ c ∷ []) (omega (arith, p.low)) (tails_of a (b ∷ c ∷ []) (shape (three_ED p q r)))
lead (three_EE {a} {b} {c} p q r) = Lead.many a (b ∷ c ∷ []) (omega (arith, p.low)) (tails_of a (b ∷ c ∷ []) (shape (three_EE p q r)))
lead (four_F0 {a} {b} {c} {d} p q r t) = Lead.many a (b ∷ c ∷ d ∷ []) (omega (arith, p.low)) (tails_of a (b ∷ c ∷ d ∷ []) (shape (four_F0 p q r t)))
lead (four_F1 {a} {b} {c} {d} p q r t) = Lead.many a (b ∷ c ∷ d ∷ []) (omega (arith, p.low)) (tails_of a (b ∷ c ∷ d ∷ []) (shape (four_F1 p q r t)))
lead (four_F4 {a} {b} {c} {d} p q r t) = Lead.many a (b ∷ c ∷ d ∷ []) (omega (arith, p.low)) (tails_of a (b ∷ c ∷ d ∷ []) (shape (four_F4 p q r t)))

-- ---- any scanner: what a byte does and what a text does. In a fit state, behind a byte above 127, a tail does nothing.
record Scanner (X : Type 0) : Type 0 where
  step : X → ℕ → X
  scan : X → List ℕ → X
  cons : (x : X) (b : ℕ) (s : List ℕ) → scan x (b ∷ s) ≡ scan (step x b) s
  fit : X → Bool
  keeps : (x : X) (b : ℕ) → fit x ≡ true → fit (step x b) ≡ true
  idle : (x : X) (b t : ℕ) → fit x ≡ true → 128 ≤ b → is_tail t ≡ true → step (step x b) t ≡ step x b

module _ {X : Type 0} (r : Scanner X) where
  tails : (x : X) (b : ℕ) (k s : List ℕ) → r.fit x ≡ true → 128 ≤ b → all is_tail k ≡ true → r.scan (r.step x b) (k ++ s) ≡ r.scan (r.step x b) s
  unfolding all
  tails x b [] s f h e = refl
  tails x b (t ∷ k) s f h e =
      let g = both (is_tail t) (all is_tail k) e in
      r.cons (r.step x b) t (k ++ s) ∙ ap (λ y. r.scan y (k ++ s)) (r.idle x b t f h g.0) ∙ tails x b k s f h g.1

  character : (x : X) (k s : List ℕ) (ks : List (List ℕ)) → r.fit x ≡ true → Lead k → ((y : X) → r.fit y ≡ true → r.scan y s ≡ r.scan y (leads ks)) → r.scan x (k ++ s) ≡ r.scan x (leads (k ∷ ks))
  unfolding leads
  character x k s ks f (Lead.single b) ih = r.cons x b s ∙ ih (r.step x b) (r.keeps x b f) ∙ sym (r.cons x b (leads ks))
  character x k s ks f (Lead.many b t h e) ih = r.cons x b (t ++ s) ∙ tails x b t s f h e ∙ ih (r.step x b) (r.keeps x b f) ∙ sym (r.cons x b (leads ks))

  by_chars : {ks : List (List ℕ)} {s : List ℕ} → Octets ks s → (x : X) → r.fit x ≡ true → r.scan x s ≡ r.scan x (leads ks)
  unfolding leads
  by_chars none x f = refl
  by_chars (more {k} {s} {ks} c o) x f = character x k s ks f (lead c) (λ y g. by_chars o y g)

-- ---- quotes

quote_starts : (b : ℕ) → is_quote b ≡ true → is_tail b ≡ false
unfolding is_quote is_in all is_tail within
quote_starts b e = among_not is_tail (34 ∷ 39 ∷ []) b refl e

sound_turned : (q : Option ℕ) (b : ℕ) → is_sound q ≡ true → is_sound (turned q b) ≡ true
unfolding turned
sound_turned None b f = go (is_quote b) refl
  where
    go : (x : Bool) → is_quote b ≡ x → is_sound (cond x (Some b) None) ≡ true
    go true e = rw (quote_starts b e)
    go false e = refl
sound_turned (Some k) b f = go (eqb b k)
  where
    go : (x : Bool) → is_sound (cond x None (Some k)) ≡ true
    go true = refl
    go false = f

module _ (o : Bool) where
  sound_passed : (st : Scan) (b : ℕ) → is_sound st.quote ≡ true → is_sound (passed o st b).quote ≡ true
  unfolding passed
  sound_passed st b f = go st.escaped (takes o st.quote b)
    where
      go : (x y : Bool) → is_sound (cond x (uncovered st.quote) (cond y (record { quote = st.quote; escaped = true }) (uncovered (turned st.quote b)))).quote ≡ true
      go true y = f
      go false true = f
      go false false = sound_turned st.quote b f

  -- behind a byte above 127 no byte is covered
  high_passed : (st : Scan) (b : ℕ) → 128 ≤ b → passed o st b ≡ uncovered (passed o st b).quote
  unfolding passed
  high_passed st b h = rw (high_takes b h o st.quote) (go st.escaped)
    where
      go : (x : Bool) → cond x (uncovered st.quote) (uncovered (turned st.quote b)) ≡ uncovered (cond x (uncovered st.quote) (uncovered (turned st.quote b))).quote
      go true = refl
      go false = refl

  quiet : (q : Option ℕ) (t : ℕ) → is_sound q ≡ true → is_tail t ≡ true → passed o (uncovered q) t ≡ uncovered q
  unfolding passed turned
  quiet None t f e = rw (high_takes t (tail_high t e) o None, high_quote t (tail_high t e))
  quiet (Some k) t f e = rw (high_takes t (tail_high t e) o (Some k), apart is_tail t k e (not-true (is_tail k) f))

  scan_idle : (st : Scan) (b t : ℕ) → is_sound st.quote ≡ true → 128 ≤ b → is_tail t ≡ true → passed o (passed o st b) t ≡ passed o st b
  scan_idle st b t f h e =
      let p = high_passed st b h in
      ap (λ v. passed o v t) p ∙ quiet (passed o st b).quote t (sound_passed st b f) e ∙ sym p

  unfoldable scans : Scanner Scan
  unfolding scan_from
  scans =
      record { step = passed o; scan = scan_from o; cons = λ st b s. refl; fit = λ st. is_sound st.quote; keeps = sound_passed; idle = scan_idle }

-- ---- the last open brace

seek_idle : (k : Seek) (b t : ℕ) → is_sound k.scan.quote ≡ true → 128 ≤ b → is_tail t ≡ true → seek_step (seek_step k b) t ≡ seek_step k b
unfolding seek_step column_after
seek_idle k b t f h e =
    let j = seek_step k b in
    let l = tail_high t e in
    let p : passed ignored j.scan t ≡ j.scan = scan_idle ignored k.scan b t f h e in
    let n : eqb t 9 ≡ false = ne_eqb t 9 (λ e. omega arith) in
    rw (high_bare t l j.scan 123 (omega arith), p, n, and-false j.scan.escaped, n, e)

unfoldable seeks : Scanner Seek
unfolding seek_from seek_step
seeks =
    record { step = seek_step; scan = seek_from; cons = λ k b s. refl; fit = λ k. is_sound k.scan.quote; keeps = λ k b f. sound_passed ignored k.scan b f; idle = seek_idle }

-- ---- the open block

abbrev is_fit : Option Held → Bool
is_fit None = true
is_fit (Some h) = is_sound h.scan.quote

hold_keeps : (h : Option Held) (b : ℕ) → is_fit h ≡ true → is_fit (hold_step h b) ≡ true
unfolding held_step
hold_keeps None b f = refl
hold_keeps (Some h) b f = go (is_bare h.scan b 123) (is_bare h.scan b 125) h.inside
  where
    go : (x y i : Bool) → is_fit (cond x (cond i None (live h.scan true)) (cond y (cond i (live h.scan false) None) (live (passed ignored h.scan b) i))) ≡ true
    go true y true = refl
    go true y false = f
    go false true true = f
    go false true false = refl
    go false false i = sound_passed ignored h.scan b f

high_held : (h : Held) (b : ℕ) → 128 ≤ b → held_step h b ≡ live (passed ignored h.scan b) h.inside
unfolding held_step
high_held h b l = rw (high_bare b l h.scan 123 (omega arith), high_bare b l h.scan 125 (omega arith))

hold_idle : (h : Option Held) (b t : ℕ) → is_fit h ≡ true → 128 ≤ b → is_tail t ≡ true → hold_step (hold_step h b) t ≡ hold_step h b
hold_idle None b t f l e = refl
hold_idle (Some h) b t f l e =
    let p = high_held h b l in
    let j : Held = record { scan = passed ignored h.scan b; inside = h.inside } in
    ap (λ v. hold_step v t) p ∙ high_held j t (tail_high t e) ∙ ap (λ st. live st h.inside) (scan_idle ignored h.scan b t f l e) ∙ sym p

unfoldable holds : Scanner (Option Held)
unfolding hold_from
holds = record { step = hold_step; scan = hold_from; cons = λ h b s. refl; fit = is_fit; keeps = hold_keeps; idle = hold_idle }

-- ---- the three answers depend on the first bytes of the characters alone
module _ {ks : List (List ℕ)} {s : List ℕ} (o : Octets ks s) where
  open_chars : open_quote_at_end s ≡ open_quote_at_end (leads ks)
  unfolding open_quote_at_end scans
  open_chars = ap (λ st. st.quote) (by_chars (scans honoured) o fresh refl)

  brace_chars : (q : Option ℕ) (c : ℕ) → is_sound q ≡ true → last_open_brace q c s ≡ last_open_brace q c (leads ks)
  unfolding last_open_brace seeks
  brace_chars q c f = ap (λ k. k.found) (by_chars seeks o (seek_start q c) f)

  hold_chars : (h : Option Held) → is_fit h ≡ true → hold_from h s ≡ hold_from h (leads ks)
  unfolding holds
  hold_chars h f = by_chars holds o h f

  holds_chars : holds_open s ≡ holds_open (leads ks)
  unfolding holds_open
  holds_chars = ap is_held (hold_chars hold_start refl)

pub by_characters : ScansByCharacters
by_characters ks s o = record { quote = open_chars o; brace = brace_chars o; hold = holds_chars o }
