-- How the old and the new text fall into the part that stays before, the lines that are read again, and the part that stays behind; and what may be replaced by
-- rule and by computing.
-- Assumes nothing.
use Rattle.std.proofs.lemmas.Option.{some_pair_parts}
use Rattle.std.specs.Prelude.{None, Option, Some}
use mathlib.Core.Path.{◌≡◌, refl, sym, ◌∙◌, ap}
use mathlib.Core.Bool.{Bool, true, false, cond, not}
use mathlib.Core.List.{List, [], ◌∷◌, ◌++◌, append-nil, append_assoc}
use mathlib.Core.Logic.{◌⊎◌, inl, inr}
use Prim.Native.Nat.{ℕ, zero, suc, ◌+◌, ◌-◌, ◌<◌, ◌≤◌, min}
use native.Mathlib.Omega.{arith}
use borrow.Author.Tests.{ltb-true, ltb-false, leb-true, le-leb}
use lib.Dec.{eqb, ltb, leb}
use lib.ListN.{length, get_or, take, drop, length-append, length-take, length-drop, take-append-drop, drop_of_length-le}
use lib.Seq.{slice, take-take, take-append_seam, drop-append_seam, take-append-le, drop-append-le, take-append-add, drop-append-add, take-add, take_at, drop_at, drop-drop, length-take-le}
use Rattle.base_lists.specs.Lists.{same}
use Rattle.base_lists.proofs.More.{contra}
use Rattle.base_lists.proofs.Scan.{both}
use Rattle.base_lists.proofs.Same.{same_true, same_of}
use Rattle.base_lists.proofs.Parts.{seam}
use Rattle.base_bytes.specs.Bytes.{is_indent}
use Rattle.base_refusals.specs.Numbers.{number_of, refused_paper, passed_paper}
use Rattle.base_refusals.specs.Orders.{in_order, on_paper}
use Rattle.base_refusals.specs.declared.Refusal.TheVariants.{NothingThere}
use Rattle.text_lines.specs.Lines.{eol, lines, line_from, line_of, behind_lfs, line_start, is_no_line}
use Rattle.text_lines.specs.declared.Range.{Range}
use Rattle.text_lines.proofs.Lines.{line_found, next_le, next_beyond}
use Rattle.text_lines.proofs.Counted.{line_paper_lem}
use Rattle.block_trimmed_line.specs.Fronts.{begins_indented}
use Rattle.sheet_splits.specs.Parting.{is_whole, MayPart}
use Rattle.sheet_splits.proofs.Lines.{whole_drop}
use Rattle.sheet_edits.specs.Edits.{is_flat, flat_from, last_flat, till_flat, keeps, more_again, span_by, span_to, span_from, span_of, again_in, again_by, again_of, is_again, Replaced}
use Rattle.sheet_edits.specs.Rules.{FlatLine}
use Rattle.sheet_edits.proofs.Walks.{till_le}

-- ---- texts that are empty or end in LF

pub whole_snoc : (x : List ℕ) (b : ℕ) → is_whole (x ++ (b ∷ [])) ≡ eqb b 10
unfolding is_whole
whole_snoc [] b = refl
whole_snoc (a ∷ []) b = refl
whole_snoc (a ∷ c ∷ x) b = whole_snoc (c ∷ x) b

pub snoc_append : (x : List ℕ) (b : ℕ) (s : List ℕ) → x ++ (b ∷ s) ≡ (x ++ (b ∷ [])) ++ s
snoc_append x b s = sym (append_assoc x (b ∷ []) s)

-- so does what goes up to the first LF, if there is one
eol_whole : (x s : List ℕ) → eol s < length s → is_whole (x ++ take (suc (eol s)) s) ≡ true
unfolding eol
eol_whole x [] h = absurd (omega arith)
eol_whole x (b ∷ s) h = go (eqb b 10) refl h (eol_whole (x ++ (b ∷ [])) s)
  where
    go : (p : Bool) → eqb b 10 ≡ p → cond p 0 (suc (eol s)) < suc (length s) → (eol s < length s → is_whole ((x ++ (b ∷ [])) ++ take (suc (eol s)) s) ≡ true)
        → is_whole (x ++ (b ∷ take (cond p 0 (suc (eol s))) s)) ≡ true
    go true e h ih = whole_snoc x b ∙ e
    go false e h ih = rw (snoc_append x b (take (suc (eol s)) s)) (ih (omega arith))

-- where a line follows another, that one ends in LF
next_whole : (t : List ℕ) (at : ℕ) → at < length t → (line_from t at).next < length t → is_whole (take (line_from t at).next t) ≡ true
unfolding line_from
next_whole t at h l =
    let d = length-drop at t in
    let k : min (suc (eol (drop at t))) (length (drop at t)) ≡ suc (eol (drop at t)) = omega arith in
    let z : take (at + suc (eol (drop at t))) t ≡ take at t ++ take (suc (eol (drop at t))) (drop at t) = take-add at (suc (eol (drop at t))) t in
    rw (k, z) (eol_whole (take at t) (drop at t) (omega arith))

-- ---- up to the first line that begins with neither space nor tab

flat_both : (fresh : Bool) (b : ℕ) → is_flat fresh b ≡ true → (fresh ≡ true) × (is_indent b ≡ false)
flat_both fresh b e = go (is_indent b) (both fresh (not (is_indent b)) e)
  where
    go : (i : Bool) → (fresh ≡ true) × (not i ≡ true) → (fresh ≡ true) × (i ≡ false)
    go true h = contra false h.1 refl
    go false h = (h.0, refl)

pub record FlatStop (x s : List ℕ) (k : ℕ) : Type 0 where
  pub whole : is_whole (x ++ take k s) ≡ true
  pub flat : begins_indented (drop k s) ≡ false

pub till_stops : (fresh : Bool) (x s : List ℕ) → (fresh ≡ true → is_whole x ≡ true) → till_flat fresh s < length s → FlatStop x s (till_flat fresh s)
unfolding till_flat
till_stops fresh x [] w h = absurd (omega arith)
till_stops fresh x (b ∷ s) w h = go (is_flat fresh b) refl h (till_stops (eqb b 10) (x ++ (b ∷ [])) s (λ e. whole_snoc x b ∙ e))
  where
    go : (p : Bool) → is_flat fresh b ≡ p → cond p 0 (suc (till_flat (eqb b 10) s)) < suc (length s) → (till_flat (eqb b 10) s < length s → FlatStop (x ++ (b ∷ [])) s (till_flat (eqb b 10) s))
        → FlatStop x (b ∷ s) (cond p 0 (suc (till_flat (eqb b 10) s)))
    go true e h ih = let f = flat_both fresh b e in record { whole = rw (append-nil x) (w f.0); flat = f.1 }
    go false e h ih = let r = ih (omega arith) in record { whole = rw (snoc_append x b (take (till_flat (eqb b 10) s) s)) r.whole; flat = r.flat }

-- ---- the last such line

abbrev Lastly : List ℕ → ℕ → Type 0
Lastly t p = (p ≡ 0) ⊎ FlatLine t p

flat_from_lem : (fresh : Bool) (x s : List ℕ) (last : ℕ) → (fresh ≡ true → is_whole x ≡ true) → Lastly (x ++ s) last → Lastly (x ++ s) (flat_from fresh (length x) last s)
unfolding flat_from
flat_from_lem fresh x [] last w h = h
flat_from_lem fresh x (b ∷ s) last w h =
    let l : length (x ++ (b ∷ [])) ≡ suc (length x) = omega (arith, length-append x (b ∷ [])) in
    rw (snoc_append x b s, ← l) (flat_from_lem (eqb b 10) (x ++ (b ∷ [])) s (cond (is_flat fresh b) (length x) last) (λ e. whole_snoc x b ∙ e) (rw (← snoc_append x b s) (here (is_flat fresh b) refl)))
  where
    here : (p : Bool) → is_flat fresh b ≡ p → Lastly (x ++ (b ∷ s)) (cond p (length x) last)
    here true e =
        let f = flat_both fresh b e in
        inr (record { within = omega (arith, length-append x (b ∷ s)); whole = rw (take-append_seam x (b ∷ s)) (w f.0); flat = rw (drop-append_seam x (b ∷ s)) f.1 })
    here false e = h

pub last_flat_lem : (t : List ℕ) → Lastly t (last_flat t)
unfolding is_whole
last_flat_lem t = flat_from_lem true [] t 0 (λ e. refl) (inl refl)

-- a text may be parted there, whatever follows
indent_append : (u v : List ℕ) → 0 < length u → begins_indented (u ++ v) ≡ begins_indented u
indent_append [] v h = absurd (omega arith)
indent_append (b ∷ u) v h = refl

front_parts : (a b : List ℕ) (p : ℕ) → Lastly a p → MayPart (take p (a ++ b)) (drop p (a ++ b))
front_parts a b p (inl e) = MayPart.nothing-before (rw e)
front_parts a b p (inr f) =
    let l : p ≤ length a = omega (arith, f.within) in
    MayPart.at_line (rw (take-append-le p a b l) f.whole) (rw (drop-append-le p a b l) (indent_append (drop p a) b (omega (arith, f.within, length-drop p a)) ∙ f.flat))

front_within : (a : List ℕ) (p : ℕ) → Lastly a p → p ≤ length a
front_within a p (inl e) = omega arith
front_within a p (inr f) = omega (arith, f.within)

-- ---- the two texts in parts

pub record Cuts (old new : List ℕ) (p e n : ℕ) : Type 0 where
  pub ordered : p ≤ e
  pub within : e ≤ length old
  pub new_ordered : p ≤ n
  pub new_within : n ≤ length new
  pub front : take p new ≡ take p old
  pub end : drop n new ≡ drop e old
  pub old_front : MayPart (take p old) (drop p old)
  pub new_front : MayPart (take p new) (drop p new)
  pub old_end : MayPart (slice p e old) (drop e old)
  pub new_end : MayPart (slice p n new) (drop n new)

-- x and then s, parted in s
end_parts : (x s : List ℕ) (k p : ℕ) → k ≤ length s → (k < length s → FlatStop x s k) → MayPart (slice p (length x + k) (x ++ s)) (drop (length x + k) (x ++ s))
end_parts x s k p l f = rw (take-append-add x s k, drop-append-add x s k) (go (ltb k (length s)) refl)
  where
    go : (b : Bool) → ltb k (length s) ≡ b → MayPart (drop p (x ++ take k s)) (drop k s)
    go true e = let r = f (ltb-true k (length s) e) in MayPart.at_line (whole_drop (x ++ take k s) p r.whole) r.flat
    go false e = MayPart.nothing-behind (drop_of_length-le s {i = k} (ltb-false k (length s) e))

-- ---- lines a to b of a text

lfs_grow : (t : List ℕ) (m n : ℕ) → m ≤ n → behind_lfs t m ≤ behind_lfs t n
unfolding behind_lfs
lfs_grow [] m n h = omega arith
lfs_grow (b ∷ s) zero n h = omega arith
lfs_grow (b ∷ s) (suc m) zero h = absurd (omega arith)
lfs_grow (b ∷ s) (suc m) (suc n) h = go (eqb b 10) (lfs_grow s m n (omega arith)) (lfs_grow s (suc m) (suc n) h)
  where
    go : (p : Bool) → behind_lfs s m ≤ behind_lfs s n → behind_lfs s (suc m) ≤ behind_lfs s (suc n) → suc (behind_lfs s (cond p m (suc m))) ≤ suc (behind_lfs s (cond p n (suc n)))
    go true h k = omega arith
    go false h k = omega arith

start_is : (n : ℕ) (t : List ℕ) (r : Range) → line_of n t ≡ Some r → r.from ≡ line_start n t
unfolding on_paper in_order number_of
start_is n t r e = go (is_no_line n t) (rw e at (line_paper_lem n t))
  where
    go : (x : Bool) → passed_paper (r.from ∷ r.to ∷ []) ≡ cond x (refused_paper NothingThere) (passed_paper (line_start n t ∷ (line_start n t + length (get_or (lines t) (n - 1) [])) ∷ [])) → r.from ≡ line_start n t
    go true h = let z : ◌≡◌ {A = ℕ} 0 3 = ap (λ x. x.number) h in absurd (omega arith)
    go false h = ap (λ x. get_or x.values 0 0) h

-- what two answers of three numbers share
pub some_parts : {a b c x y z : ℕ} → ◌≡◌ {A = Option (ℕ × ℕ × ℕ)} (Some (a, b, c)) (Some (x, y, z)) → (a ≡ x) × (b ≡ y) × (c ≡ z)
some_parts {a} {b} {c} e = (
  ap (λ (o : Option (ℕ × ℕ × ℕ)). elim o [ None ↦ a | Some u ↦ u.0 ]) e,
  ap (λ (o : Option (ℕ × ℕ × ℕ)). elim o [ None ↦ b | Some u ↦ u.1 ]) e,
  ap (λ (o : Option (ℕ × ℕ × ℕ)). elim o [ None ↦ c | Some u ↦ u.2 ]) e,
)

module _ (t : List ℕ) (a b : ℕ) {from to : ℕ} (e : span_of t a b ≡ Some (from, to)) where
  record Spans : Type 0 where
    pub order : a ≤ b
    pub first : Range
    pub last : Range
    pub is_first : line_of a t ≡ Some first
    pub is_last : line_of b t ≡ Some last
    pub starts : from ≡ first.from
    pub ends : to ≡ (line_from t last.from).next

  spans_are : Spans
  unfolding span_of span_to
  spans_are = go (ltb b a) refl (line_of a t) refl (line_of b t) refl e
    where
      go : (x : Bool) → ltb b a ≡ x → (l : Option Range) → line_of a t ≡ l → (k : Option Range) → line_of b t ≡ k → cond x None (span_from t b l) ≡ Some (from, to) → Spans
      go true x l p k q h = let z : ◌≡◌ {A = ℕ} 0 1 = cc in absurd (omega arith)
      go false x None p k q h = let z : ◌≡◌ {A = ℕ} 0 1 = cc in absurd (omega arith)
      go false x (Some r) p None q h = let y = rw q at h in let z : ◌≡◌ {A = ℕ} 0 1 = cc in absurd (omega arith)
      go false x (Some r) p (Some s) q h =
          let y : span_by t r.from (Some s) ≡ Some (from, to) = rw q at h in
          record { order = ltb-false b a x; first = r; last = s; is_first = p; is_last = q; starts = sym (some_pair_parts _ _ _ _ y).0; ends = sym (some_pair_parts _ _ _ _ y).1 }

  pub span_within : (from ≤ to) × (to ≤ length t)
  span_within =
      let s = spans_are in
      let f = line_found a t s.first s.is_first in
      let l = line_found b t s.last s.is_last in
      let m = lfs_grow t (a - 1) (b - 1) (omega (arith, s.order)) in
      (omega (arith, s.starts, s.ends, start_is a t s.first s.is_first, start_is b t s.last s.is_last, m, next_beyond t s.last.from l.start), omega (arith, s.ends, next_le t s.last.from l.start))

  span_whole : to < length t → is_whole (take to t) ≡ true
  span_whole h =
      let s = spans_are in
      let l = line_found b t s.last s.is_last in
      rw s.ends (next_whole t s.last.from l.start (omega (arith, s.ends)))

-- ---- what is kept

record Kept (old new : List ℕ) (from to : ℕ) : Type 0 where
  pub room : from + (length old - to) ≤ length new
  pub front : take from new ≡ take from old
  pub end : drop (length new - (length old - to)) new ≡ drop to old

kept : (old new : List ℕ) (from to : ℕ) → keeps old new from to ≡ true → Kept old new from to
unfolding keeps
kept old new from to e =
    let x = both (leb (from + (length old - to)) (length new)) _ e in
    let y = both (same (take from new) (take from old)) _ x.1 in
    record { room = leb-true (from + (length old - to)) (length new) x.0; front = same_true (take from new) (take from old) y.0; end = same_true (drop (length new - (length old - to)) new) (drop to old) y.1 }

module _ (old new : List ℕ) (a b : ℕ) where
  module _ {from to : ℕ} (q : span_of old a b ≡ Some (from, to)) where
    module _ (k : keeps old new from to ≡ true) where
      abbrev new_to : ℕ
      new_to = length new - (length old - to)

      abbrev m : ℕ
      m = more_again old new to

      p_within : last_flat (take from old) ≤ length (take from old)
      p_within = front_within (take from old) (last_flat (take from old)) (last_flat_lem (take from old))

      m_within : m ≤ length old - to
      m_within = omega (arith, till_le (is_whole (take new_to new)) (drop to old), length-drop to old)

      new_is : take new_to new ++ drop to old ≡ new
      new_is = rw (← (kept old new from to k).end) (take-append-drop new_to new)

      front_is : take from old ++ drop from new ≡ new
      front_is = rw (← (kept old new from to k).front) (take-append-drop from new)

      cuts : Cuts old new (last_flat (take from old)) (to + m) (new_to + m)
      cuts =
          let w = span_within old a b q in
          let h = kept old new from to k in
          let r = h.room in
          let p = last_flat (take from old) in
          let l = length-take from old in
          let i : p ≤ from = omega (arith, p_within, l) in
          let lo : length (take to old) ≡ to = length-take-le to old w.1 in
          let ln : length (take new_to new) ≡ new_to = length-take-le new_to new (omega arith) in
          let d = length-drop to old in
          let oe = end_parts (take to old) (drop to old) m p (omega (arith, m_within, d)) (λ g. till_stops (is_whole (take new_to new)) (take to old) (drop to old) (λ f. span_whole old a b q (omega (arith, d, g))) g) in
          let ne = end_parts (take new_to new) (drop to old) m p (omega (arith, m_within, d)) (λ g. till_stops (is_whole (take new_to new)) (take new_to new) (drop to old) (λ f. f) g) in
          record {
            ordered = omega (arith, i, w.0);
            within = omega (arith, m_within, w.1);
            new_ordered = omega (arith, i, r);
            new_within = omega (arith, m_within, r);
            front = sym (take-take p from new i) ∙ ap (take p) h.front ∙ take-take p from old i;
            end = sym (drop-drop m new_to new) ∙ ap (drop m) h.end ∙ drop-drop m to old;
            old_front = rw (take-append-drop from old) at (front_parts (take from old) (drop from old) p (last_flat_lem (take from old)));
            new_front = rw front_is at (front_parts (take from old) (drop from new) p (last_flat_lem (take from old)));
            old_end = rw (lo, take-append-drop to old) at oe;
            new_end = rw (ln, new_is) at ne;
          }

      replaced : Replaced old new a b
      replaced =
          let h = kept old new from to k in
          let r = h.room in
          record {
            from = from;
            to = to;
            lines = q;
            middle = slice from new_to new;
            text = rw (← h.end, ← seam new from new_to (omega arith)) (sym front_is);
          }

    -- and the other way
    pub keeps-all : (x : List ℕ) → new ≡ take from old ++ (x ++ drop to old) → keeps old new from to ≡ true
    unfolding keeps
    keeps-all x e =
        let w = span_within old a b q in
        let l : length (take from old) ≡ from = length-take-le from old (omega (arith, w.0, w.1)) in
        let n : length new ≡ from + (length x + (length old - to)) = ap length e ∙ omega (arith, l, length-append (take from old) (x ++ drop to old), length-append x (drop to old), length-drop to old) in
        let f : take from new ≡ take from old = rw e (take_at (take from old) (x ++ drop to old) from l) in
        let z : length (take from old ++ x) ≡ length new - (length old - to) = omega (arith, n, l, length-append (take from old) x, w.1) in
        let g : drop (length new - (length old - to)) new ≡ drop to old = ap (drop (length new - (length old - to))) (e ∙ sym (append_assoc (take from old) x (drop to old))) ∙ drop_at (take from old ++ x) (drop to old) (length new - (length old - to)) z in
        rw (le-leb (from + (length old - to)) (length new) (omega (arith, n)), same_of f, same_of g)

  pub again_cuts : {p e n : ℕ} → again_of old new a b ≡ Some (p, e, n) → Cuts old new p e n
  unfolding again_of again_in
  again_cuts {p} {e} {n} = go (span_of old a b) refl
    where
      here : (from to : ℕ) → span_of old a b ≡ Some (from, to) → (x : Bool) → keeps old new from to ≡ x
          → cond {A = Option (ℕ × ℕ × ℕ)} x (Some (last_flat (take from old), to + more_again old new to, length new - (length old - to) + more_again old new to)) None ≡ Some (p, e, n) → Cuts old new p e n
      here from to q true k h =
          let w = some_parts h in
          let i : last_flat (take from old) ≡ p = w.0 in
          let j : to + more_again old new to ≡ e = w.1 in
          let l : length new - (length old - to) + more_again old new to ≡ n = w.2 in
          rw (i, j, l) at (cuts q k)
      here from to q false k h = let z : ◌≡◌ {A = ℕ} 0 1 = cc in absurd (omega arith)

      go : (s : Option (ℕ × ℕ)) → span_of old a b ≡ s → again_by old new s ≡ Some (p, e, n) → Cuts old new p e n
      go None q h = let z : ◌≡◌ {A = ℕ} 0 1 = cc in absurd (omega arith)
      go (Some (from, to)) q h = here from to q (keeps old new from to) refl h

  pub again_replaced : is_again (again_of old new a b) ≡ true → Replaced old new a b
  unfolding again_of again_in
  again_replaced = go (span_of old a b) refl
    where
      here : (from to : ℕ) → span_of old a b ≡ Some (from, to) → (x : Bool) → keeps old new from to ≡ x
          → is_again (cond {A = Option (ℕ × ℕ × ℕ)} x (Some (last_flat (take from old), to + more_again old new to, length new - (length old - to) + more_again old new to)) None) ≡ true → Replaced old new a b
      here from to q true k h = replaced q k
      here from to q false k h = contra false h refl

      go : (s : Option (ℕ × ℕ)) → span_of old a b ≡ s → is_again (again_by old new s) ≡ true → Replaced old new a b
      go None q h = contra false h refl
      go (Some (from, to)) q h = here from to q (keeps old new from to) refl h

  pub replaced_again : Replaced old new a b → is_again (again_of old new a b) ≡ true
  unfolding again_of again_in
  replaced_again r = rw (r.lines, keeps-all r.lines r.middle r.text)
