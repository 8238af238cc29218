-- One line of a report, laid part by part: where it ends, what then stands there, and that it is short enough.
-- Assumes nothing.
use Rattle.std.specs.Prelude.{Err, Ok, Result}
use mathlib.Core.Path.{◌≡◌, refl, sym, ◌∙◌, ap}
use mathlib.Core.Bool.{Bool, true, false, cond, ◌&&◌}
use mathlib.Core.List.{List, [], ◌∷◌, ◌++◌, append_assoc, append-nil}
use Prim.Native.Nat.{ℕ, suc, ◌+◌, ◌-◌, ◌^◌, ◌≤◌, ◌<◌}
use native.Mathlib.Omega.{arith}
use borrow.Author.Tests.{le-leb, leb-true, leb-false, le-ltb, lt-ltb, ltb-false}
use lib.Dec.{leb, ltb}
use lib.ListN.{length, take, drop, set, length-append, length-drop, drop_of_length-le}
use lib.Seq.{sets, length-sets, sets-eq, take_all, drop-drop}
use borrow.Rule.Slice.PartMut.{put_mid, post_of, put_same}
use Rattle.base_refusals.specs.Numbers.{max_text, number_of}
use Rattle.base_refusals.specs.declared.Refusal.{Refusal}
use Rattle.base_refusals.specs.declared.Refusal.TheVariants.{CanonTooLong}
use Rattle.base_refusals.proofs.Numbers.{number_le}
use Rattle.set_canon.specs.Canon.{canon}
use Rattle.set_table.specs.Types.{Texts}
use Rattle.set_table.specs.Rows.{meaning_of}
use Rattle.set_table.specs.declared.Attrs.{Attrs}
use Rattle.set_writer.specs.Write.{has_room, wrote_of, content_after}
use Rattle.set_writer.specs.Inner.{put_if, wrote_to}
use Rattle.base_lists.proofs.Sets.{sets-append, take-sets, drop-sets}
use Rattle.text_digits.specs.Decimal.{decimal}
use Rattle.sheet_report.specs.Report.{block_word, refused_word, report_line, refused_line, canon_line, line_by}
use Rattle.sheet_report.specs.Parts.{max_line}
use Rattle.sheet_report.specs.Puts.{PutAt, line_front}
use Rattle.sheet_report.specs.Inner.{put_short}
use Rattle.text_digits.proofs.Decimals.{decimal_le}

-- ---- one part behind the other

pub put_so : (buf : List ℕ) (at : ℕ) (xs : List ℕ) {k : ℕ} {b : List ℕ} → k ≡ length xs → b ≡ sets buf at xs → PutAt buf at xs (at + k) b
put_so buf at xs h e = record { behind = ap (λ (i : ℕ). at + i) h; content = e }

pub put_is : (buf : List ℕ) (at : ℕ) (xs : List ℕ) {b : List ℕ} → b ≡ sets buf at xs → PutAt buf at xs (at + length xs) b
put_is buf at xs e = put_so buf at xs refl e

module _ {buf : List ℕ} {at : ℕ} {xs : List ℕ} {r : ℕ} {b : List ℕ} (p : PutAt buf at xs r b) where
  pub put_then : {ys : List ℕ} {r' : ℕ} {b' : List ℕ} → PutAt b r ys r' b' → PutAt buf at (xs ++ ys) r' b'
  put_then {ys} q = record {
    behind = omega (arith, p.behind, q.behind, length-append xs ys);
    content = q.content ∙ rw (p.behind, p.content) (sym (sets-append buf at xs ys));
  }

  -- a byte behind a part
  pub put_byte : (x : ℕ) → PutAt buf at (xs ++ (x ∷ [])) (r + 1) (set b r x)
  put_byte x = put_then (record { behind = refl; content = refl })

  pub put_long : length b ≡ length buf
  put_long = rw p.content (length-sets buf at xs)

-- ---- the lengths

module _ (word : List ℕ) (n k : ℕ) where
  pub front_length : length (line_front word n k) ≡ length word + (suc (length (decimal n)) + suc (length (decimal k)))
  unfolding line_front
  front_length = length-append word ((9 ∷ decimal n) ++ (9 ∷ decimal k)) ∙ omega (arith, length-append (9 ∷ decimal n) (9 ∷ decimal k))

  pub line_is : (last : List ℕ) → report_line word n k last ≡ line_front word n k ++ ((9 ∷ last) ++ (10 ∷ []))
  unfolding report_line line_front
  line_is last = sym (append_assoc word ((9 ∷ decimal n) ++ (9 ∷ decimal k)) ((9 ∷ last) ++ (10 ∷ [])) ∙ ap (λ (l : List ℕ). word ++ (9 ∷ l)) (append_assoc (decimal n) (9 ∷ decimal k) ((9 ∷ last) ++ (10 ∷ []))))

  pub line_length : (last : List ℕ) → length (report_line word n k last) ≡ length (line_front word n k) + (length last + 2)
  line_length last = rw (line_is last, length-append) (omega (arith, length-append (9 ∷ last) (10 ∷ [])))

  module _ (hn : n < 2 ^ 64) (hk : k < 2 ^ 64) where
    pub front_le : length (line_front word n k) ≤ length word + 42
    front_le = omega (arith, front_length, decimal_le n 20 (omega arith) (omega arith), decimal_le k 20 (omega arith) (omega arith))

    -- behind it there is room for a text, and more
    pub front_room : length word ≤ 7 → {buf : List ℕ} {at r : ℕ} {b : List ℕ} → at + max_line ≤ length buf → PutAt buf at (line_front word n k) r b → r + 65551 ≤ length b
    front_room w h p = omega (arith, front_le, p.behind, put_long p)

-- ---- the line of a refusal

pub number_short : {m : ℕ} (why : Refusal) → m ≡ number_of why → length (decimal m) ≤ 2
number_short {m} why e = decimal_le m 2 (omega (arith, e, number_le why)) (omega arith)

module _ (n k : ℕ) (why : Refusal) where
  pub refused_length : length (refused_line n k why) ≡ length (line_front refused_word n k) + (length (decimal (number_of why)) + 2)
  unfolding refused_line
  refused_length = line_length refused_word n k (decimal (number_of why))

  pub refused_le : n < 2 ^ 64 → k < 2 ^ 64 → length (refused_line n k why) ≤ 73
  refused_le hn hk = omega (arith, refused_length, front_le refused_word n k hn hk, number_short why refl)

  -- its parts one behind the other
  pub refused_put : {buf : List ℕ} {at r e m : ℕ} {b c : List ℕ} → PutAt buf at (line_front refused_word n k) r b → m ≡ number_of why → PutAt b r (9 ∷ decimal m) e c
      → PutAt buf at (refused_line n k why) (e + 1) (set c e 10)
  unfolding refused_line
  refused_put {buf} {at} {r} {e} {m} {b} {c} p f q =
      rw (← f, line_is refused_word n k (decimal m) ∙ sym (append_assoc (line_front refused_word n k) (9 ∷ decimal m) (10 ∷ [])))
      (put_byte (put_then p q) 10)

-- ---- a part that is written over

sets_over : (l : List ℕ) (i : ℕ) (xs ys : List ℕ) → length xs ≤ length ys → i + length ys ≤ length l → sets (sets l i xs) i ys ≡ sets l i ys
sets_over l i xs ys h m =
    sets-eq ys (sets l i xs) i (omega (arith, length-sets l i xs))
    ∙ rw (take-sets xs l i i (omega arith), drop-sets xs l (i + length ys) i (omega arith)) (sym (sets-eq ys l i m))

-- ---- a canonical text

module _ (xs : List ℕ) where
  room_is : {size : ℕ} → max_text ≤ size → has_room size (length xs) ≡ leb (length xs) max_text
  unfolding has_room
  room_is {size} h = go (leb (length xs) max_text) refl
    where
      go : (x : Bool) → leb (length xs) max_text ≡ x → (x && leb (length xs) size) ≡ x
      go true e = le-leb (length xs) size (omega (arith, leb-true (length xs) max_text e))
      go false e = refl

  -- written into what is left of a buffer
  module _ (buf : List ℕ) (at : ℕ) (h : at + max_text ≤ length buf) where
    abbrev part : List ℕ
    part = take (length buf - at) (drop at buf)

    part_is : part ≡ drop at buf
    part_is = take_all (length buf - at) (drop at buf) (omega (arith, length-drop at buf))

    part_long : max_text ≤ length part
    part_long = rw part_is (omega (arith, length-drop at buf))

    pub set-put : {w : Result ℕ Refusal} {b : List ℕ} → w ≡ wrote_of xs (length part) → b ≡ content_after part xs
        → (w ≡ wrote_to max_text (length xs)) × (put_mid at (length buf - at) buf b ≡ put_short buf at xs)
    unfolding wrote_of wrote_to content_after put_short put_if
    set-put {w} {b} p q = (p ∙ rw (room_is part_long), go (leb (length xs) max_text) refl (q ∙ rw (room_is part_long)))
      where
        end : post_of at (length buf - at) buf ≡ []
        end = drop-drop (length buf - at) at buf ∙ drop_of_length-le buf {i = at + (length buf - at)} (omega arith)

        go : (x : Bool) → leb (length xs) max_text ≡ x → b ≡ cond x (xs ++ drop (length xs) part) part → put_mid at (length buf - at) buf b ≡ cond x (sets buf at xs) buf
        go true e f =
            rw (f, end, append-nil, part_is, drop-drop (length xs) at buf)
            (sym (sets-eq xs buf at (omega (arith, leb-true (length xs) max_text e)) ∙ append_assoc (take at buf) xs (drop (at + length xs) buf)))
        go false e f = rw f (put_same at (length buf - at) buf)

-- ---- the line of a block

module _ (n k : ℕ) (xs : List ℕ) where
  -- no line is longer
  pub canon_le : n < 2 ^ 64 → k < 2 ^ 64 → length (canon_line n k xs) ≤ max_line
  unfolding canon_line
  canon_le hn hk = go (ltb max_text (length xs)) refl
    where
      go : (x : Bool) → ltb max_text (length xs) ≡ x → length (cond x (refused_line n k CanonTooLong) (report_line block_word n k xs)) ≤ max_line
      go true e = omega (arith, refused_le n k CanonTooLong hn hk)
      go false e = omega (arith, line_length block_word n k xs, front_le block_word n k hn hk, ltb-false max_text (length xs) e)

  module _ {buf : List ℕ} {at r : ℕ} {b : List ℕ} (p : PutAt buf at (line_front block_word n k) r b) {w : Result ℕ Refusal} {c : List ℕ} (f : w ≡ wrote_to max_text (length xs)) (g : c ≡ put_short (set b r 9) (r + 1) xs) where
    -- it fits
    module _ {m : ℕ} (q : w ≡ Ok m) where
      fits : (m ≡ length xs) × ((length xs ≤ max_text) × (c ≡ sets (set b r 9) (r + 1) xs))
      unfolding wrote_to put_short put_if
      fits = go (leb (length xs) max_text) refl (sym f ∙ q) g
        where
          go : (x : Bool) → leb (length xs) max_text ≡ x → cond x (Ok (length xs)) (Err CanonTooLong) ≡ Ok m → c ≡ cond x (sets (set b r 9) (r + 1) xs) (set b r 9)
              → (m ≡ length xs) × ((length xs ≤ max_text) × (c ≡ sets (set b r 9) (r + 1) xs))
          go true e z y = (cc, (leb-true (length xs) max_text e, y))
          go false e z y = let z : ◌≡◌ {A = ℕ} 0 1 = cc in absurd (omega arith)

      behind_it : PutAt buf at ((line_front block_word n k ++ (9 ∷ [])) ++ xs) (r + 1 + m) c
      behind_it = put_then (put_byte p 9) (record { behind = rw fits.0; content = fits.1.1 })

      pub canon_room : at + max_line ≤ length buf → n < 2 ^ 64 → k < 2 ^ 64 → (r + 1 + m < length c) × (length c ≡ length buf)
      canon_room h hn hk = (omega (arith, front_room block_word n k hn hk (omega arith) h p, put_long p, put_long behind_it, fits.0, fits.1.0), put_long behind_it)

      pub canon-put : PutAt buf at (canon_line n k xs) (r + 1 + m + 1) (set c (r + 1 + m) 10)
      unfolding canon_line
      canon-put =
          rw (le-ltb max_text (length xs) fits.1.0, line_is block_word n k xs)
          (rw (sym (append_assoc (line_front block_word n k) (9 ∷ []) (xs ++ (10 ∷ []))) ∙ sym (append_assoc (line_front block_word n k ++ (9 ∷ [])) xs (10 ∷ [])))
          (put_byte behind_it 10))

    -- it doesn't: what was put is written over
    module _ {why : Refusal} (q : w ≡ Err why) where
      over : (why ≡ CanonTooLong) × ((max_text < length xs) × (c ≡ set b r 9))
      unfolding wrote_to put_short put_if
      over = go (leb (length xs) max_text) refl (sym f ∙ q) g
        where
          go : (x : Bool) → leb (length xs) max_text ≡ x → cond x (Ok (length xs)) (Err CanonTooLong) ≡ Err why → c ≡ cond x (sets (set b r 9) (r + 1) xs) (set b r 9)
              → (why ≡ CanonTooLong) × ((max_text < length xs) × (c ≡ set b r 9))
          go true e z y = let z : ◌≡◌ {A = ℕ} 0 1 = cc in absurd (omega arith)
          go false e z y = (cc, (leb-false (length xs) max_text e, y))

      -- it has room again
      pub over_room : at + max_line ≤ length buf → at + max_line ≤ length c
      over_room h = rw over.1.1 (omega (arith, put_long (put_byte p 9)))

      pub over-put : at + max_line ≤ length buf → n < 2 ^ 64 → k < 2 ^ 64 → {e : ℕ} {d : List ℕ} → PutAt c at (refused_line n k why) e d → PutAt buf at (canon_line n k xs) e d
      unfolding canon_line
      over-put h hn hk {e} {d} z =
          rw (lt-ltb max_text (length xs) over.1.0, ← over.0)
          (record {
            behind = z.behind;
            content = z.content ∙ rw (over.1.1 ∙ (put_byte p 9).content) (sets_over buf at (line_front block_word n k ++ (9 ∷ [])) (refused_line n k why) longer (omega (arith, refused_le n k why hn hk)));
          })
        where
          longer : length (line_front block_word n k ++ (9 ∷ [])) ≤ length (refused_line n k why)
          longer = omega (arith, length-append (line_front block_word n k) (9 ∷ []), refused_length n k why, front_length block_word n k, front_length refused_word n k)

-- ---- the line of a block, read or refused

pub line_le : (n k : ℕ) (t : Texts) (a : Attrs) (o : Result (Unit {0}) Refusal) → n < 2 ^ 64 → k < 2 ^ 64 → length (line_by n k t a o) ≤ max_line
line_le n k t a (Ok _) hn hk = canon_le n k (canon (meaning_of t a)) hn hk
line_le n k t a (Err r) hn hk = omega (arith, refused_le n k r hn hk)
