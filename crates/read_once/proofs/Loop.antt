-- The loop of the walk: how it begins, how a move carries it on, and what it comes to.
-- Assumes nothing.
use Rattle.std.specs.Prelude.{None, Ok, Option, Some, Err, Result}
use mathlib.Core.Path.{◌≡◌, refl, sym, ◌∙◌, ap}
use mathlib.Core.Bool.{Bool, true, false, cond}
use mathlib.Core.List.{List, [], ◌∷◌, map, flat_map}
use Prim.Native.Nat.{ℕ, suc, ◌+◌, ◌-◌, ◌<◌, ◌≤◌}
use native.Mathlib.Omega.{arith}
use native.Mathlib.Numerals.{add-one}
use lib.Dec.{ltb}
use lib.ListN.{length, take, drop}
use Rattle.base_lists.specs.Lists.{all, same}
use Rattle.base_bytes.specs.declared.Mode.{Mode}
use Rattle.base_refusals.specs.Numbers.{number_of, outcome_no}
use Rattle.base_refusals.specs.Orders.{in_order}
use Rattle.base_refusals.specs.declared.Refusal.TheVariants.{NotUtf8, NoReading, TooManyClasses, TooManyKeys, BadTag}
use Rattle.text_utf8.specs.Computed.{is_utf8}
use Rattle.text_langtags.specs.Computed.{is_allowed}
use Rattle.block_grammar.specs.Grammar.{Item, Placed, Reading}
use Rattle.block_grammar.specs.Computed.{read_from, one_or_more, read_payload}
use Rattle.block_grammar.specs.ComputedClose.{find_close}
use Rattle.block_grammar.specs.Meaning.{id_name, class_name, or_whole, piece_ranges}
use Rattle.block_grammar.proofs.Close.{found}
use Rattle.block_places.specs.Computed.{payload_place}
use Rattle.set_table.specs.declared.Attrs.{Attrs}
use Rattle.set_table.specs.declared.Filled.{Filled}
use Rattle.set_table.specs.declared.Text.{Text}
use Rattle.set_table.specs.Types.{Texts, one, empty_set, max_classes, max_keys}
use Rattle.set_table.specs.Rows.{Rows, Put, no_rows, with_put, with_puts, table_of}
use Rattle.set_table.specs.Puts.{value_of, piece_of, by_name, valued, puts_of, puts_in}
use Rattle.set_table.specs.Filled.{refusing, limited}
use Rattle.set_fill.specs.Fill.{filled_by, filled_of}
use Rattle.set_fill.specs.Inner.{Rest, of_reading, before, filled_from}
use Rattle.read_brace.specs.Brace.{payload_of, finished, refusing_read}
use Rattle.read_brace.specs.declared.NotRead.{NotRead}
use Rattle.read_brace.specs.declared.NotRead.TheVariants.{Refused, Unread}
use Rattle.read_brace.specs.declared.Read.{Read}
use Rattle.read_tags.specs.Tagged.{lang_of, unless_new, lang_after, tag_passes, passed_by}
use Rattle.read_tags.specs.Inner.{passes_with, passes_items, passes_rest}
use Rattle.read_tags.specs.declared.Tags.{Tags}
use Rattle.read_tags.specs.declared.Tags.TheVariants.{Any, WellFormed}
use Rattle.read_once.specs.declared.Kind as kinds
use Rattle.read_once.specs.declared.Kind.TheVariants as kind
use Rattle.read_once.specs.declared.Span.{Span}
use Rattle.read_once.specs.declared.Moved.{Moved}
use Rattle.read_once.specs.Inner.{rest_at, put_of, lang_said, span_allowed, asked, Closing, Wrongs, Putting, Fits, whole_from, Walks, unread_to, verdict_of, is_next, no_set, once_to}
use Rattle.read_once.proofs.Nexts.{no_more}
use Rattle.read_once.proofs.Steps.{place_start}
use Rattle.read_once.proofs.Tables.{fits_none, fits-limited}
use Rattle.read_once.proofs.Values.{none_left}

-- ---- each token puts something
record NotEmpty {A : Type 0} (xs : List A) : Type 0 where
  head : A
  tail : List A
  is : xs ≡ head ∷ tail

named_some : (at : ℕ) (k : List ℕ) (x : Text) (cs : List Put) → NotEmpty cs → NotEmpty (by_name at k x cs)
unfolding by_name
named_some at k x cs s = go (same k id_name) (same k class_name) _ _
  where
    go : (a b : Bool) (p q : Put) → NotEmpty (cond a (p ∷ []) (cond b cs (q ∷ [])))
    go true b p q = record { head = p; tail = []; is = refl }
    go false true p q = s
    go false false p q = record { head = q; tail = []; is = refl }

whole_some : {A : Type 0} (v : A) (ps : List A) → NotEmpty (or_whole v ps)
whole_some v [] = record { head = v; tail = []; is = refl }
whole_some v (p ∷ ps) = record { head = p; tail = ps; is = refl }

valued_some : (at : ℕ) (k : List ℕ) (x : ℕ → ℕ → Text) (from : ℕ) (v : List ℕ) → NotEmpty (valued at k x from v)
unfolding valued
valued_some at k x from v =
    named_some at k (x from (from + length v)) (or_whole (Put.class (value_of (x from (from + length v)))) (map (piece_of x) (piece_ranges from from v)))
    (whole_some (Put.class (value_of (x from (from + length v)))) (map (piece_of x) (piece_ranges from from v)))

puts_some : (at : ℕ) (j : Item) → NotEmpty (puts_of at j)
unfolding puts_of
puts_some at (Item.tag t) = record { head = _; tail = []; is = refl }
puts_some at (Item.id n) = record { head = _; tail = []; is = refl }
puts_some at (Item.class n) = record { head = _; tail = []; is = refl }
puts_some at (Item.plain k v) = valued_some at k _ _ v
puts_some at (Item.quoted k q v) = valued_some at k _ _ v
puts_some at (Item.bare n) = named_some at n _ _ (record { head = _; tail = []; is = refl })

-- ---- so a payload without a token has no reading, and one with a token has what it puts
whole_of : (t : Texts) (r : Reading) → whole_from false t no_rows (of_reading r) ≡ filled_by t (one_or_more r)
unfolding filled_from puts_in flat_map
whole_of t Reading.refused = refl
whole_of t (Reading.items []) = refl
whole_of t (Reading.items (p ∷ is)) = let z = puts_some p.at p.item in rw z.is

whole_before : (some : Bool) (t : Texts) (rows : Rows) (p : Put) (x : Rest) → whole_from some t rows (before (p ∷ []) x) ≡ filled_from t (with_put t rows p) x
unfolding filled_from with_puts
whole_before true t rows p Rest.refused = refl
whole_before true t rows p (Rest.puts ps) = refl
whole_before false t rows p Rest.refused = refl
whole_before false t rows p (Rest.puts ps) = refl

whole_refused : (some : Bool) (t : Texts) (rows : Rows) → whole_from some t rows Rest.refused ≡ refusing NoReading
unfolding filled_from
whole_refused true t rows = refl
whole_refused false t rows = refl

-- ---- the value of `lang` at the front
with_is : (old vs : List (List ℕ)) → passes_with (all is_allowed old) vs ≡ all is_allowed (unless_new vs old)
with_is old [] = refl
with_is old (v ∷ vs) = refl

items_pass : (old : List (List ℕ)) (is : List Placed) → passes_items (all is_allowed old) is ≡ all is_allowed (lang_after old is)
unfolding passes_items lang_after
items_pass old [] = refl
items_pass old (p ∷ is) = rw (with_is old (lang_of p.item)) (items_pass (unless_new (lang_of p.item) old) is)

some_pass : (r : Reading) → passes_rest true r ≡ passed_by (one_or_more r)
unfolding passes_items tag_passes all
some_pass Reading.refused = refl
some_pass (Reading.items []) = refl
some_pass (Reading.items (p ∷ is)) = items_pass [] (p ∷ is)

-- ---- the loop begins
pub start : (m : Mode) (t : List ℕ) (place : ℕ) {a : Attrs} → place < length t → a ≡ empty_set
    → Walks m t place a false false false (record { kind = kind.Empty; from = 0; to = 0 }) kind.Plain (place + 1) (place + 1) (place + 1)
unfolding filled_of read_payload is_allowed
start m t place h e =
    record {
      rows = no_rows;
      fits = fits_none e;
      stands = record { low = omega arith; mid = omega arith; high = omega arith };
      from = omega arith;
      close = rw (add-one place);
      each = λ c q.
          (let s = take c t in
          let r = read_from m (drop (suc place) s) 0 (suc place) in
          record {
            rest = rw (no_more m t s kind.Plain (place + 1) (place + 1) (place + 1) (none_left t kind.Plain (place + 1)), add-one place) (whole_of (one t) r);
            spot = rw (place_start m s (place + 1), add-one place);
            lang = rw (add-one place) (some_pass r);
          });
    }

-- ---- a move that puts something
module _ {m : Mode} {t : List ℕ} {place : ℕ} {a : Attrs} {some many over : Bool} {last : Span} {k : kinds.Kind} {at to next : ℕ} (inv : Walks m t place a some many over last k at to next) where
  module _ {r : Moved} (p : Putting m t at next (λ s. rest_at m t s k at to next) r) where
    pub on : {b : Attrs} {manyNow overNow : Bool} {now : Span} → Fits (with_put (one t) inv.rows (put_of r)) b manyNow overNow → span_allowed t now ≡ passes_with (span_allowed t last) (lang_said t r)
        → Walks m t place b true manyNow overNow now r.kind r.at r.end r.next
    on f l =
        record {
          rows = with_put (one t) inv.rows (put_of r);
          fits = f;
          stands = p.inside;
          from = omega (arith, inv.from, p.ahead);
          close = p.close ∙ inv.close;
          each = λ c h.
              (let z = inv.each c h in
              let y = p.each c (inv.close ∙ h) in
              record {
                rest = sym (whole_before some (one t) inv.rows (put_of r) (rest_at m t (take c t) r.kind r.at r.end r.next)) ∙ ap (whole_from some (one t) inv.rows) (sym y.is) ∙ z.rest;
                spot = sym y.place ∙ z.spot;
                lang = rw l (sym (y.lang (span_allowed t last)) ∙ z.lang);
              });
        }

    pub less : length t - r.at < length t - at
    less = omega (arith, p.ahead, p.inside.low, p.inside.mid, p.inside.high)

-- ---- a wrong byte
no_reading : {f : Filled} (n k : ℕ) → f ≡ refusing NoReading → finished f k n ≡ record { answer = Err (Unread n); set = empty_set }
unfolding finished number_of
no_reading n k e = rw e

limits_not : (s : Rows) → limited s ≡ refusing NoReading → ⊥
unfolding limited in_order number_of
limits_not s e = go (ltb max_classes (length s.classes)) (ltb max_keys (length s.keys)) (ap (λ f. outcome_no f.outcome) e)
  where
    go : (x y : Bool) → outcome_no (cond x (refusing TooManyClasses) (cond y (refusing TooManyKeys) (record { outcome = Ok tt; set = table_of s }))).outcome ≡ 5 → ⊥
    go true y e = omega (arith, e)
    go false true e = omega (arith, e)
    go false false e = omega (arith, e)

passed_refused : (t : Texts) (r : Reading) → filled_by t r ≡ refusing NoReading → passed_by r ≡ true
passed_refused t Reading.refused e = refl
passed_refused t (Reading.items is) e = absurd (limits_not (with_puts t no_rows (puts_in is)) e)

passed_of : (t : Texts) (m : Mode) (at : ℕ) (s : List ℕ) → filled_of m t at s ≡ refusing NoReading → passed_by (read_payload m at s) ≡ true
unfolding filled_of
passed_of t m at s e = passed_refused t (read_payload m at s) e

all-put : (t : Texts) (s : Rows) → whole_from true t s (Rest.puts []) ≡ limited s
unfolding filled_from with_puts
all-put t s = refl

module _ {m : Mode} {t : List ℕ} {place : ℕ} {a : Attrs} {some many over : Bool} {last : Span} {k : kinds.Kind} {at to next : ℕ} (inv : Walks m t place a some many over last k at to next) where
  pub wrong_ends : {r : Moved} → Wrongs m t next (λ s. rest_at m t s k at to next) r → (g : Tags) {x : Result ℕ NotRead} {v : Read} → x ≡ unread_to t place r.next (find_close t (suc place)) → v ≡ no_set x → v ≡ once_to g m t place (find_close t (suc place))
  wrong_ends {r} w g q u = u ∙ (rw q (go (find_close t (suc place)) refl g))
    where
      closed : (c : ℕ) → find_close t (suc place) ≡ Some c → (u : Bool) → is_utf8 (payload_of t place c) ≡ u → (g : Tags) → no_set (unread_to t place r.next (Some c)) ≡ once_to g m t place (Some c)
      closed c h u e g =
          let z = inv.each c h in
          let y = w.each c (inv.close ∙ h) in
          let f : filled_of m (one t) (suc place) (payload_of t place c) ≡ refusing NoReading = sym z.rest ∙ ap (whole_from some (one t) inv.rows) y.is ∙ whole_refused some (one t) inv.rows in
          let n : r.next ≡ suc place + payload_place m (payload_of t place c) = sym y.place ∙ z.spot in
          let l : r.next - place - 1 ≡ payload_place m (payload_of t place c) = omega (arith, n) in
          let b : passed_by (read_payload m (suc place) (payload_of t place c)) ≡ true = sym z.lang ∙ y.lang (span_allowed t last) in
          by u e g (sym (no_reading (payload_place m (payload_of t place c)) (suc c) f)) l b
        where
          by : (u : Bool) → is_utf8 (payload_of t place c) ≡ u → (g : Tags) → record { answer = Err (Unread (payload_place m (payload_of t place c))); set = empty_set } ≡ finished (filled_of m (one t) (suc place) (payload_of t place c)) (suc c) (payload_place m (payload_of t place c))
              → r.next - place - 1 ≡ payload_place m (payload_of t place c) → passed_by (read_payload m (suc place) (payload_of t place c)) ≡ true → no_set (unread_to t place r.next (Some c)) ≡ once_to g m t place (Some c)
          by true e Any f l b = rw (e, l) f
          by true e WellFormed f l b = rw (e, l, b) f
          by false e Any f l b = rw e
          by false e WellFormed f l b = rw e

      go : (p : Option ℕ) → find_close t (suc place) ≡ p → (g : Tags) → no_set (unread_to t place r.next p) ≡ once_to g m t place p
      go None h Any = refl
      go None h WellFormed = refl
      go (Some c) h g = closed c h (is_utf8 (payload_of t place c)) refl g

-- ---- the close
abbrev handed : Result ℕ NotRead → Attrs → Read
handed x a = cond (is_next x) (record { answer = x; set = a }) (no_set x)

limit_handed : (many over : Bool) (a : Attrs) (e n : ℕ) → finished (cond many (refusing TooManyClasses) (cond over (refusing TooManyKeys) (record { outcome = Ok tt; set = a }))) (suc e) n ≡ handed (cond many (Err (Refused TooManyClasses)) (cond over (Err (Refused TooManyKeys)) (Ok (suc e)))) a
unfolding finished number_of
limit_handed true over a e n = refl
limit_handed false true a e n = refl
limit_handed false false a e n = refl

module _ {m : Mode} {t : List ℕ} {place : ℕ} {a : Attrs} {some many over : Bool} {last : Span} {k : kinds.Kind} {at to next : ℕ} (inv : Walks m t place a some many over last k at to next) {r : Moved} (w : Closing m t next (λ s. rest_at m t s k at to next) r) where
  pub at_close : find_close t (suc place) ≡ Some r.next
  at_close = sym inv.close ∙ w.closes

  pub inside : (suc place ≤ r.next) × (r.next < length t)
  inside = let f = found t (suc place) r.next at_close in (f.from, f.to)

  filled : filled_of m (one t) (suc place) (payload_of t place r.next) ≡ whole_from some (one t) inv.rows (Rest.puts [])
  filled = sym (inv.each r.next at_close).rest ∙ ap (whole_from some (one t) inv.rows) (w.each r.next w.closes).is

  spot : r.next - place - 1 ≡ payload_place m (payload_of t place r.next)
  spot = let n : r.next ≡ suc place + payload_place m (payload_of t place r.next) = sym (w.each r.next w.closes).place ∙ (inv.each r.next at_close).spot in omega (arith, n)

  lang : passed_by (read_payload m (suc place) (payload_of t place r.next)) ≡ span_allowed t last
  lang = sym (inv.each r.next at_close).lang ∙ (w.each r.next w.closes).lang (span_allowed t last)

  -- no token was met
  none_met : some ≡ false → (g : Tags) → is_utf8 (payload_of t place r.next) ≡ true → no_set (Err (Unread (r.next - place - 1))) ≡ once_to g m t place (Some r.next)
  none_met s g u =
      let f : filled_of m (one t) (suc place) (payload_of t place r.next) ≡ refusing NoReading = rw s at filled in
      go g (sym (no_reading (payload_place m (payload_of t place r.next)) (suc r.next) f)) (passed_of (one t) m (suc place) (payload_of t place r.next) f)
    where
      go : (g : Tags) → record { answer = Err (Unread (payload_place m (payload_of t place r.next))); set = empty_set } ≡ finished (filled_of m (one t) (suc place) (payload_of t place r.next)) (suc r.next) (payload_place m (payload_of t place r.next))
          → passed_by (read_payload m (suc place) (payload_of t place r.next)) ≡ true → no_set (Err (Unread (r.next - place - 1))) ≡ once_to g m t place (Some r.next)
      go Any f b = rw (u, spot) f
      go WellFormed f b = rw (u, spot, b) f

  -- some were
  some_met : some ≡ true → (g : Tags) → is_utf8 (payload_of t place r.next) ≡ true
      → handed (cond (asked g t last) (cond many (Err (Refused TooManyClasses)) (cond over (Err (Refused TooManyKeys)) (Ok (suc r.next)))) (Err (Refused BadTag))) a ≡ once_to g m t place (Some r.next)
  some_met s g u = go g (sym (limit_handed many over a r.next (payload_place m (payload_of t place r.next))) ∙ ap (λ f. finished f (suc r.next) (payload_place m (payload_of t place r.next))) (sym all))
    where
      all : filled_of m (one t) (suc place) (payload_of t place r.next) ≡ cond many (refusing TooManyClasses) (cond over (refusing TooManyKeys) (record { outcome = Ok tt; set = a }))
      all = (rw s at filled) ∙ all-put (one t) inv.rows ∙ fits-limited inv.fits

      go : (g : Tags) → handed (cond many (Err (Refused TooManyClasses)) (cond over (Err (Refused TooManyKeys)) (Ok (suc r.next)))) a ≡ finished (filled_of m (one t) (suc place) (payload_of t place r.next)) (suc r.next) (payload_place m (payload_of t place r.next))
          → handed (cond (asked g t last) (cond many (Err (Refused TooManyClasses)) (cond over (Err (Refused TooManyKeys)) (Ok (suc r.next)))) (Err (Refused BadTag))) a ≡ once_to g m t place (Some r.next)
      go Any f = rw u f
      go WellFormed f = rw (u, lang) (tagged (span_allowed t last))
        where
          tagged : (b : Bool) → handed (cond b (cond many (Err (Refused TooManyClasses)) (cond over (Err (Refused TooManyKeys)) (Ok (suc r.next)))) (Err (Refused BadTag))) a
              ≡ cond b (finished (filled_of m (one t) (suc place) (payload_of t place r.next)) (suc r.next) (payload_place m (payload_of t place r.next))) (refusing_read BadTag)
          tagged true = f
          tagged false = refl

  verdict_is : (g : Tags) {passes : Bool} → passes ≡ asked g t last → handed (verdict_of (is_utf8 (payload_of t place r.next)) some passes many over place r.next) a ≡ once_to g m t place (find_close t (suc place))
  verdict_is g p = rw (at_close, p) (go (is_utf8 (payload_of t place r.next)) refl some refl)
    where
      wrong : is_utf8 (payload_of t place r.next) ≡ false → (g : Tags) → no_set (Err (Refused NotUtf8)) ≡ once_to g m t place (Some r.next)
      wrong u Any = rw u
      wrong u WellFormed = rw u

      go : (u : Bool) → is_utf8 (payload_of t place r.next) ≡ u → (s : Bool) → some ≡ s → handed (verdict_of u s (asked g t last) many over place r.next) a ≡ once_to g m t place (Some r.next)
      go false u s q = wrong u g
      go true u false q = none_met q g u
      go true u true q = some_met q g u

  module _ (g : Tags) {passes : Bool} (p : passes ≡ asked g t last) {x : Result ℕ NotRead} (q : x ≡ verdict_of (is_utf8 (payload_of t place r.next)) some passes many over place r.next) {b : Bool} (n : b ≡ is_next x) where
    whole : handed x a ≡ once_to g m t place (find_close t (suc place))
    whole = ap (λ y. handed y a) q ∙ verdict_is g p

    pub passed : b ≡ true → record { answer = x; set = a } ≡ once_to g m t place (find_close t (suc place))
    passed e = let z : is_next x ≡ true = sym n ∙ e in rw z at whole

    pub refused : b ≡ false → {v : Read} → v ≡ no_set x → v ≡ once_to g m t place (find_close t (suc place))
    refused e u = let z : is_next x ≡ false = sym n ∙ e in u ∙ (rw z at whole)
