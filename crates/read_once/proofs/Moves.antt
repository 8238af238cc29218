-- From what was seen to what is put next: for every place that the close may have, the token is one of the payload up to there.
-- Assumes nothing.
use Rattle.std.specs.Prelude.{Some}
use mathlib.Core.Path.{◌≡◌, refl, sym, ◌∙◌, ap}
use mathlib.Core.Bool.{true, false, cond}
use mathlib.Core.List.{List, [], ◌∷◌}
use Prim.Native.Nat.{ℕ, zero, suc, ◌+◌, ◌-◌, ◌<◌, ◌≤◌}
use native.Mathlib.Omega.{arith}
use lib.ListN.{length, get_or, take, drop}
use lib.Seq.{slice, slice_empty, length-take-le}
use Rattle.base_lists.specs.Lists.{run, same}
use Rattle.base_lists.proofs.More.{contra}
use Rattle.base_lists.proofs.Parts.{part_end}
use Rattle.base_bytes.specs.declared.Mode.{Mode}
use Rattle.base_bytes.specs.Bytes.{is_blank}
use Rattle.block_grammar.specs.Grammar.{Item}
use Rattle.block_grammar.specs.Computed.{First}
use Rattle.block_grammar.specs.ComputedClose.{find_close}
use Rattle.block_grammar.specs.Meaning.{lang_name}
use Rattle.block_grammar.proofs.Close.{found}
use Rattle.block_tokens.specs.declared.Token.{Token}
use Rattle.block_tokens.specs.declared.Token.TheVariants as token
use Rattle.block_tokens.specs.Shown.{token_at, token_end}
use Rattle.block_tokens.proofs.Steps as marks
use Rattle.set_table.specs.Types.{range_bytes}
use Rattle.set_table.specs.Rows.{Put}
use Rattle.set_table.specs.Puts.{valued, puts_of}
use Rattle.set_fill.specs.Inner.{Rest, before, tokens_from}
use Rattle.set_fill.proofs.Pieces as pieces
use Rattle.read_tags.specs.Tagged.{lang_of}
use Rattle.read_once.specs.declared.Sort.TheVariants as sort
use Rattle.read_once.specs.declared.Seen.{Seen}
use Rattle.read_once.specs.declared.Kind as kinds
use Rattle.read_once.specs.declared.Kind.TheVariants as kind
use Rattle.read_once.specs.declared.Code as codes
use Rattle.read_once.specs.declared.Code.TheVariants as code
use Rattle.read_once.specs.declared.Moved.{Moved}
use Rattle.read_once.specs.Inner.{is_gap, token_seen, Found, named_puts, Stands, rest_at, put_of, is_put, span_bytes, lang_by, stop_move, put_move, Puts, Putting, MoveTells, Moves}
use Rattle.read_once.proofs.Gaps as gaps
use Rattle.read_once.proofs.Steps as steps
use Rattle.read_once.proofs.Values.{none_left}

take_front : {A : Type 0} (e c : ℕ) (l : List A) → e ≤ c → take e (take c l) ≡ take e l
take_front zero c l h = refl
take_front (suc e) zero l h = absurd (omega arith)
take_front (suc e) (suc c) [] h = refl
take_front (suc e) (suc c) (x ∷ l) h = ap (λ y. x ∷ y) (take_front e c l (omega arith))

pub slice_front : (f e c : ℕ) (t : List ℕ) → e ≤ c → slice f e (take c t) ≡ slice f e t
slice_front f e c t h = ap (drop f) (take_front e c t h)

pub before_more : (p : Put) (ps : List Put) (r : Rest) → before (p ∷ ps) r ≡ before (p ∷ []) (before ps r)
before_more p ps Rest.refused = refl
before_more p ps (Rest.puts qs) = refl

-- ---- what puts something
pub moves_put : {m : Mode} {t : List ℕ} {at next : ℕ} {rest : List ℕ → Rest} {r : Moved} → is_put r.code ≡ true → Putting m t at next rest r → Moves m t at next rest r
moves_put {m} {t} {at} {next} {rest} {r} e p = record { told = go r.code e }
  where
    go : (x : codes.Code) → is_put x ≡ true → MoveTells m t at next rest r x
    go code.Close e = contra false e refl
    go code.Wrong e = contra false e refl
    go code.Id e = p
    go code.Class e = p
    go code.Key e = p
    go code.Lang e = p
    go code.Tag e = p

pub put_moves : {m : Mode} {t : List ℕ} {at next : ℕ} {rest : List ℕ → Rest} {r : Moved} → is_put r.code ≡ true → Moves m t at next rest r → Putting m t at next rest r
put_moves {m} {t} {at} {next} {rest} {r} e p = go r.code e p.told
  where
    go : (x : codes.Code) → is_put x ≡ true → MoveTells m t at next rest r x → Putting m t at next rest r
    go code.Close e p = contra false e refl
    go code.Wrong e p = contra false e refl
    go code.Id e p = p
    go code.Class e p = p
    go code.Key e p = p
    go code.Lang e p = p
    go code.Tag e p = p

-- one value alone
pub lone : (t : List ℕ) (x : codes.Code) (k : kinds.Kind) {f g from to n at : ℕ} {r : Moved} → is_put x ≡ true → r ≡ put_move x f g k from to n → at < n → n ≤ length t → f ≤ length t → g ≤ length t → from ≤ length t → to ≤ length t
    → Puts t at n (put_of (put_move x f g k from to n) ∷ []) (lang_by x (span_bytes t k from to)) r
lone t x k {n = n} e q h l a b c d =
    rw q
    (record {
      same = refl;
      put = e;
      is = rw (none_left t k n);
      ahead = h;
      inside = record { low = omega arith; mid = omega arith; high = l };
      short = (a, b, c, d);
      lang = refl;
    })

-- ---- the token at a, behind the gap from i on
module _ (m : Mode) (t : List ℕ) {i a : ℕ} (fits : i ≤ length t) (is : a ≡ i + run (is_gap m) (drop i t)) {w : Seen} (fd : Found m t a w) where
  close_on : find_close t w.end ≡ find_close t i
  close_on = fd.looks.close ∙ gaps.gap_close m t i is

  module _ {c : ℕ} (h : find_close t i ≡ Some c) where
    at_a : find_close t a ≡ Some c
    at_a = gaps.gap_close m t i is ∙ h

    long : length (take c t) ≡ c
    long = length-take-le c t (omega (arith, (found t i c h).to))

    front : i ≤ length (take c t)
    front = omega (arith, long, (found t i c h).from)

    blank : a ≡ i + run (is_blank m) (drop i (take c t))
    blank = gaps.gap_blanks m t i is h

    seen : token_seen w ≡ token_at m (take c t) a
    seen = fd.looks.each c at_a

    ends_in_lem : w.end ≤ c
    ends_in_lem = (found t w.end c (close_on ∙ h)).from

  pub closing : {r : Moved} → w.sort ≡ sort.Close → r ≡ stop_move code.Close w.end → Moves m t i i (λ s. tokens_from m s i) r
  closing x q =
      let z = fd.closes (rw x) in
      let g = gaps.gap_within m t i is fits in
      let y : find_close t i ≡ Some w.end = sym (gaps.gap_close m t i is) ∙ z.1 ∙ ap (λ n. Some n) (sym z.0) in
      rw q
      (record {
        told = record {
          ahead = omega (arith, z.0, g.0);
          closes = y;
          each = λ c h.
              (let k : c ≡ w.end = cc (y, h) in
              let l : a ≡ length (take c t) = omega (arith, long h, z.0) in
              record {
                is = steps.end_puts m (take c t) (front h) (blank h) l;
                place = steps.end_place m (take c t) (front h) (blank h) l ∙ sym z.0;
                lang = steps.end_lang m (take c t) (front h) (blank h) l;
              });
        };
      })

  pub wrong : {r : Moved} → w.sort ≡ sort.Wrong → r ≡ stop_move code.Wrong w.end → Moves m t i i (λ s. tokens_from m s i) r
  wrong x q =
      let g = gaps.gap_within m t i is fits in
      rw q
      (record {
        told = record {
          ahead = omega (arith, g.0, fd.looks.from);
          within = fd.looks.within;
          close = close_on;
          each = λ c h.
              (let b : token.Bad w.end ≡ token_at m (take c t) a = rw x at (seen h) in
              let l : a < length (take c t) = omega (arith, long h, fd.still (rw x) c (at_a h)) in
              record {
                is = steps.bad_puts m (take c t) (front h) (blank h) l b;
                place = steps.bad_spot m (take c t) (front h) (blank h) l b;
                lang = steps.bad_lang m (take c t) (front h) (blank h) l b;
              });
        };
      })

  -- what the token says, if the close is at c
  record Says (c : ℕ) (k : Token) (puts : List Put) (said : List (List ℕ)) : Type 0 where
    item : Item
    is_item : marks.item_of (take c t) k ≡ First.token item
    putting : puts_of a item ≡ puts
    saying : lang_of item ≡ said

  by_says : {at : ℕ} {puts : List Put} {said : List (List ℕ)} {r : Moved} (k : Token) → token_seen w ≡ k → Some w.end ≡ token_end k → i ≤ at → Puts t at w.end puts said r
      → ((c : ℕ) → k ≡ token_at m (take c t) a → w.end ≤ c → w.end ≤ length (take c t) → Says c k puts said) → Moves m t i i (λ s. tokens_from m s i) r
  unfolding rest_at
  by_says {r = r} k x b l p f =
      moves_put p.put
      (record {
        ahead = omega (arith, p.ahead);
        inside = p.inside;
        short = p.short;
        close = rw p.same close_on;
        each = λ c h.
            (let q = sym x ∙ seen h in
            let y = f c q (ends_in_lem h) (omega (arith, long h, ends_in_lem h)) in
            let o = steps.passes_over m (take c t) (front h) (blank h) q y.is_item b in
            record {
              is = o.puts ∙ (rw (y.putting, p.is, p.same) (before_more _ _ (tokens_from m (take c t) w.end)));
              place = rw p.same o.place;
              lang = λ v. rw (p.same, p.lang, ← y.saying) (o.lang v);
            });
      })

  pub tag : w.sort ≡ sort.Tag → {r : Moved} → r ≡ put_move code.Tag w.name w.key kind.Plain w.name w.end w.end → Moves m t i i (λ s. tokens_from m s i) r
  unfolding puts_of lang_of range_bytes
  tag x q =
      let z : (w.name ≡ a + 1) × (w.name ≤ w.end) × (w.key ≡ w.end) = rw x at fd.spans in
      let g = gaps.gap_within m t i is fits in
      let l = fd.looks.within in
      by_says (token.Tag w.name w.end) (rw x) refl g.0 (lone t code.Tag kind.Plain {at = a} refl q (omega (arith, z)) l (omega (arith, z, l)) (omega (arith, z, l)) (omega (arith, z, l)) l)
      (λ c k e n.
      (let sp = marks.spans m (take c t) a k in
      record {
        item = Item.tag (slice w.name w.end (take c t));
        is_item = refl;
        putting = rw (← sp.0, part_end (take c t) w.name w.end sp.1 n);
        saying = rw (slice_front w.name w.end c t e);
      }))

  pub id : w.sort ≡ sort.Id → {r : Moved} → r ≡ put_move code.Id w.name w.key kind.Plain w.name w.end w.end → Moves m t i i (λ s. tokens_from m s i) r
  unfolding puts_of lang_of
  id x q =
      let z : (w.name ≡ a + 1) × (w.name ≤ w.end) × (w.key ≡ w.end) = rw x at fd.spans in
      let g = gaps.gap_within m t i is fits in
      let l = fd.looks.within in
      by_says (token.Id w.name w.end) (rw x) refl g.0 (lone t code.Id kind.Plain {at = a} refl q (omega (arith, z)) l (omega (arith, z, l)) (omega (arith, z, l)) (omega (arith, z, l)) l)
      (λ c k e n.
      (let sp = marks.spans m (take c t) a k in
      record {
        item = Item.id (slice w.name w.end (take c t));
        is_item = refl;
        putting = rw (← sp.0, part_end (take c t) w.name w.end sp.1 n);
        saying = refl;
      }))

  pub class : w.sort ≡ sort.Class → {r : Moved} → r ≡ put_move code.Class w.name w.key kind.Plain w.name w.end w.end → Moves m t i i (λ s. tokens_from m s i) r
  unfolding puts_of lang_of
  class x q =
      let z : (w.name ≡ a + 1) × (w.name ≤ w.end) × (w.key ≡ w.end) = rw x at fd.spans in
      let g = gaps.gap_within m t i is fits in
      let l = fd.looks.within in
      by_says (token.Class w.name w.end) (rw x) refl g.0 (lone t code.Class kind.Plain {at = a} refl q (omega (arith, z)) l (omega (arith, z, l)) (omega (arith, z, l)) (omega (arith, z, l)) l)
      (λ c k e n.
      (let sp = marks.spans m (take c t) a k in
      record {
        item = Item.class (slice w.name w.end (take c t));
        is_item = refl;
        putting = rw (← sp.0, part_end (take c t) w.name w.end sp.1 n);
        saying = refl;
      }))

  -- a name with a value: what `named` makes of it
  abbrev said : ℕ → ℕ → kinds.Kind → ℕ → ℕ → List (List ℕ)
  said f k x from to = cond (same (slice f k t) lang_name) (span_bytes t x from to ∷ []) []

  pub plain_spans : w.sort ≡ sort.Plain → (Stands t (w.key + 1) w.end w.end) × ((w.name ≤ w.key) × ((w.key ≤ w.key + 1) × (w.name < w.key + 1)))
  plain_spans x =
      let z : (w.name ≡ a) × (w.name ≤ w.key) × (w.key + 1 ≤ w.end) = rw x at fd.spans in
      (record { low = omega (arith, z); mid = omega arith; high = fd.looks.within }, (omega (arith, z), (omega arith, omega (arith, z))))

  pub plain : w.sort ≡ sort.Plain → {r : Moved} → Puts t w.name w.end (named_puts t w.name w.key kind.Plain (w.key + 1) w.end) (said w.name w.key kind.Plain (w.key + 1) w.end) r → Moves m t i i (λ s. tokens_from m s i) r
  unfolding puts_of valued lang_of range_bytes
  plain x p =
      let z : (w.name ≡ a) × (w.name ≤ w.key) × (w.key + 1 ≤ w.end) = rw x at fd.spans in
      let g = gaps.gap_within m t i is fits in
      by_says (token.Plain w.name w.key w.end) (rw x) refl (omega (arith, z, g)) p
      (λ c k e n.
      (let u = slice_front w.name w.key c t (omega (arith, z)) in
      let v = slice_front (w.key + 1) w.end c t e in
      record {
        item = Item.plain (slice w.name w.key (take c t)) (slice (w.key + 1) w.end (take c t));
        is_item = refl;
        putting = rw (← z.0, part_end (take c t) w.name w.key z.1 (omega (arith, z, n)), part_end (take c t) (w.key + 1) w.end z.2 n, u, v);
        saying = rw (u, v);
      }))

  pub quoted_spans : w.sort ≡ sort.Quoted → (Stands t (w.key + 2) (w.end - 1) w.end) × ((w.name ≤ w.key) × ((w.key ≤ w.key + 2) × (w.name < w.key + 2)))
  quoted_spans x =
      let z : (w.name ≡ a) × (w.name ≤ w.key) × (w.key + 3 ≤ w.end) = rw x at fd.spans in
      (record { low = omega (arith, z); mid = omega arith; high = fd.looks.within }, (omega (arith, z), (omega arith, omega (arith, z))))

  pub quoted : w.sort ≡ sort.Quoted → {r : Moved} → Puts t w.name w.end (named_puts t w.name w.key kind.Quoted (w.key + 2) (w.end - 1)) (said w.name w.key kind.Quoted (w.key + 2) (w.end - 1)) r → Moves m t i i (λ s. tokens_from m s i) r
  unfolding puts_of valued lang_of range_bytes
  quoted x p =
      let z : (w.name ≡ a) × (w.name ≤ w.key) × (w.key + 3 ≤ w.end) = rw x at fd.spans in
      let g = gaps.gap_within m t i is fits in
      by_says (token.Quoted w.name w.key w.end) (rw x) refl (omega (arith, z, g)) p
      (λ c k e n.
      (let u = slice_front w.name w.key c t (omega (arith, z)) in
      let v = slice_front (w.key + 2) (w.end - 1) c t (omega (arith, e)) in
      record {
        item = Item.quoted (slice w.name w.key (take c t)) (get_or (take c t) (w.key + 1) 0) (slice (w.key + 2) (w.end - 1) (take c t));
        is_item = refl;
        putting = rw (← z.0, part_end (take c t) w.name w.key z.1 (omega (arith, z, n)), part_end (take c t) (w.key + 2) (w.end - 1) (omega (arith, z)) (omega (arith, n)), u, v);
        saying = rw (u, v);
      }))

  pub bare_spans : w.sort ≡ sort.Bare → (Stands t w.end w.end w.end) × ((w.name ≤ w.end) × ((w.end ≤ w.end) × (w.name < w.end)))
  bare_spans x =
      let z : (w.name ≡ a) × (w.name < w.end) = rw x at fd.spans in
      (record { low = omega arith; mid = omega arith; high = fd.looks.within }, (omega (arith, z), (omega arith, z.1)))

  pub bare : w.sort ≡ sort.Bare → {r : Moved} → Puts t w.name w.end (named_puts t w.name w.end kind.Empty w.end w.end) (said w.name w.end kind.Empty w.end w.end) r → Moves m t i i (λ s. tokens_from m s i) r
  unfolding puts_of lang_of
  bare x p =
      let z : (w.name ≡ a) × (w.name < w.end) = rw x at fd.spans in
      let g = gaps.gap_within m t i is fits in
      by_says (token.Bare w.name w.end) (rw x) refl (omega (arith, z, g)) p
      (λ c k e n.
      (let u = slice_front w.name w.end c t e in
      record {
        item = Item.bare (slice w.name w.end (take c t));
        is_item = refl;
        putting = rw (← z.0, u, slice_empty w.end t, pieces.none w.end);
        saying = rw u;
      }))
