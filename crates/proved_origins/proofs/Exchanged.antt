-- A set with its two texts changed over, over the texts changed over.
-- Assumes nothing.
use Rattle.std.specs.Prelude.{Err, Ok, Result}
use mathlib.Core.Path.{◌≡◌, refl, ◌∙◌, ap}
use mathlib.Core.Bool.{Bool, true, false, cond}
use mathlib.Core.List.{List, [], ◌∷◌, map}
use Prim.Native.Nat.{ℕ, zero, suc, ◌-◌, ◌≤◌}
use native.Mathlib.Omega.{arith}
use lib.ListN.{length, get_or, take, replicate, length-map}
use lib.Seq.{slice, take-append_seam, drop-append_seam}
use Rattle.base_lists.proofs.More.{contra}
use Rattle.text_checks.specs.Check.{is_text, both_of}
use Rattle.text_checks.specs.Outcomes.{or_else, or_left}
use Rattle.set_table.specs.Types.{Texts, text_at, range_bytes, name_bytes, text_bytes, value_bytes, max_classes, max_keys, zero_value, zero_row, empty_set}
use Rattle.set_table.specs.Rows.{Ident, Rows, is_there, id_or, padded, table_of, rows_in}
use Rattle.set_table.specs.declared.Origin.{Origin}
use Rattle.set_table.specs.declared.Origin.TheVariants.{First, Second}
use Rattle.set_table.specs.declared.Text.{Text}
use Rattle.set_table.specs.declared.Text.TheVariants.{Plain, Quoted, Empty}
use Rattle.set_table.specs.declared.Value.{Value}
use Rattle.set_table.specs.declared.Name.{Name}
use Rattle.set_table.specs.declared.Name.TheVariants.{Range, Lang}
use Rattle.set_table.specs.declared.Row.{Row}
use Rattle.set_table.specs.declared.Attrs.{Attrs}
use Rattle.set_table.specs.declared.Filled.{Filled}
use Rattle.set_exchange.specs.Exchange.{other_origin, changed_over, other_text, other_value, other_name, other_row, firsts_by, exchanged}
use Rattle.set_values.specs.Values.{range_ok, text_ok, name_ok}
use Rattle.set_wellformed.specs.WellFormed.{counts_ok, table_ok, well_formed}
use Rattle.set_writer.specs.Write.{or_refused, writable, attrs_wrote, attrs_content}
use Rattle.set_merge.specs.Merge.{merged_by, merge_of}
use Rattle.proved_origins.specs.Exchanged.{ExchangeKeeps, ExchangeRest, ExchangeMerges, ExchangeWrites}
use Rattle.proved_origins.proofs.Pairs.{Pairs, pairs-length, pairs_are}
use Rattle.proved_origins.proofs.Alike.{IdentLike, RowLike, RowsLike, Keeps, is_there_lem}
use Rattle.proved_origins.proofs.Checks.{passes, and_changed, both_changed, both_pass, both_texts}
use Rattle.proved_origins.proofs.Sets.{SetsLike, Follows, same_table, same-meaning, same_merge}
use Rattle.base_refusals.specs.declared.Refusal.{Refusal}

-- ---- twice is nothing
origin_twice : (o : Origin) → other_origin (other_origin o) ≡ o
origin_twice First = refl
origin_twice Second = refl

text_twice : (x : Text) → other_text (other_text x) ≡ x
text_twice (Plain o from to) = ap (λ p. Plain p from to) (origin_twice o)
text_twice (Quoted o from to) = ap (λ p. Quoted p from to) (origin_twice o)
text_twice Empty = refl

value_twice : (v : Value) → other_value (other_value v) ≡ v
value_twice v = ap (λ x. record { text = x }) (text_twice v.text)

name_twice : (n : Name) → other_name (other_name n) ≡ n
name_twice (Range o from to) = ap (λ p. Range p from to) (origin_twice o)
name_twice Lang = refl

row_twice : (r : Row) → other_row (other_row r) ≡ r
row_twice r = rw (name_twice r.name, text_twice r.value.text)

-- ---- the first n of a list changed
module _ {A : Type 0} (f : A → A) where
  firsts_twice : ((x : A) → f (f x) ≡ x) → (n : ℕ) (xs : List A) → firsts_by f n (firsts_by f n xs) ≡ xs
  unfolding firsts_by
  firsts_twice h zero xs = refl
  firsts_twice h (suc n) [] = refl
  firsts_twice h (suc n) (x ∷ xs) = rw (h x, firsts_twice h n xs)

  firsts_past : (d : A) (n : ℕ) (xs : List A) (k : ℕ) → n ≤ k → get_or (firsts_by f n xs) k d ≡ get_or xs k d
  unfolding firsts_by
  firsts_past d zero xs k h = refl
  firsts_past d (suc n) [] k h = refl
  firsts_past d (suc n) (x ∷ xs) zero h = absurd (omega arith)
  firsts_past d (suc n) (x ∷ xs) (suc k) h = firsts_past d n xs k (omega arith)

  firsts-pairs : {R : A → A → Type 0} → ((x : A) → R x (f x)) → (n : ℕ) (xs : List A) → Pairs R (take n xs) (take n (firsts_by f n xs))
  unfolding firsts_by
  firsts-pairs h zero xs = Pairs.none
  firsts-pairs h (suc n) [] = Pairs.none
  firsts-pairs h (suc n) (x ∷ xs) = Pairs.more (h x) (firsts-pairs h n xs)

  firsts-padded : (m : ℕ) (z : A) (xs : List A) → firsts_by f (length xs) (padded m z xs) ≡ padded m z (map f xs)
  unfolding firsts_by padded
  firsts-padded m z xs = rw (take-append_seam xs (replicate (m - length xs) z), drop-append_seam xs (replicate (m - length xs) z), length-map)

-- ---- alike: what has changed over
abbrev Other : Value → Value → Type 0
Other v w = w ≡ other_value v

abbrev OtherName : Name → Name → Type 0
OtherName n m = m ≡ other_name n

module _ (t : Texts) where
  text_at_lem : (o : Origin) → text_at (changed_over t) (other_origin o) ≡ text_at t o
  text_at_lem First = refl
  text_at_lem Second = refl

  range_bytes_lem : (o : Origin) (from to : ℕ) → range_bytes (changed_over t) (other_origin o) from to ≡ range_bytes t o from to
  unfolding range_bytes
  range_bytes_lem o from to = ap (slice from to) (text_at_lem o)

  range_ok_lem : (o : Origin) (from to : ℕ) → range_ok (changed_over t) (other_origin o) from to ≡ range_ok t o from to
  unfolding range_ok
  range_ok_lem o from to = rw (text_at_lem o)

  text_bytes_lem : (x : Text) → text_bytes (changed_over t) (other_text x) ≡ text_bytes t x
  text_bytes_lem (Plain o from to) = range_bytes_lem o from to
  text_bytes_lem (Quoted o from to) = rw (range_bytes_lem o from to)
  text_bytes_lem Empty = refl

  text_ok_lem : (x : Text) → text_ok (changed_over t) (other_text x) ≡ text_ok t x
  unfolding text_ok
  text_ok_lem (Plain o from to) = range_ok_lem o from to
  text_ok_lem (Quoted o from to) = range_ok_lem o from to
  text_ok_lem Empty = refl

  name_bytes_lem : (n : Name) → name_bytes (changed_over t) (other_name n) ≡ name_bytes t n
  unfolding name_bytes
  name_bytes_lem (Range o from to) = range_bytes_lem o from to
  name_bytes_lem Lang = refl

  name_ok_lem : (n : Name) → name_ok (changed_over t) (other_name n) ≡ name_ok t n
  unfolding name_ok
  name_ok_lem (Range o from to) = range_ok_lem o from to
  name_ok_lem Lang = refl

  keeps : Keeps Other OtherName t (changed_over t)
  unfolding value_bytes
  keeps =
      record {
        bytes = λ v w e. rw e (text_bytes_lem v.text);
        ok = λ v w e. rw e (text_ok_lem v.text);
        name = λ n m e. rw e (name_bytes_lem n);
        named = λ n m e. rw e (name_ok_lem n);
      }

-- ---- of a table
pub exchanged_like : (a : Attrs) → SetsLike Other OtherName a (exchanged a)
unfolding exchanged rows_in counts_ok
exchanged_like a =
    record {
      counts = refl;
      rows = record {
        ident = ident a.given;
        classes = firsts-pairs other_value (λ v. refl) a.nclass a.classes;
        keys = firsts-pairs other_row (λ r. record { name = refl; value = refl }) a.nkey a.keys;
        order = refl;
      };
    }
  where
    ident : (b : Bool) → IdentLike Other OtherName (cond b (Ident.given a.id) Ident.missing) (cond b (Ident.given (cond b (other_value a.id) a.id)) Ident.missing)
    ident true = IdentLike.given refl
    ident false = IdentLike.missing

twice : (a : Attrs) → exchanged (exchanged a) ≡ a
unfolding exchanged
twice a = rw (firsts_twice other_value value_twice a.nclass a.classes, firsts_twice other_row row_twice a.nkey a.keys, id a.given)
  where
    id : (b : Bool) → cond b (other_value (cond b (other_value a.id) a.id)) (cond b (other_value a.id) a.id) ≡ a.id
    id true = value_twice a.id
    id false = refl

pub exchange_keeps : ExchangeKeeps
unfolding well_formed
exchange_keeps t a =
    let table = same_table (keeps t) (exchanged_like a) in
    record {
      twice = twice a;
      means = same-meaning (keeps t) (exchanged_like a);
      table = table;
      formed = rw table (and_changed (is_text t.first) (is_text t.second) (table_ok t a));
    }

pub exchange_rest : ExchangeRest
unfolding exchanged
exchange_rest a =
    record {
      given = refl;
      nclass = refl;
      nkey = refl;
      norder = refl;
      id = λ e. rw e;
      classes = λ k h. firsts_past other_value zero_value a.nclass a.classes k h;
      keys = λ k h. firsts_past other_row zero_row a.nkey a.keys k h;
      slots = refl;
    }

-- ---- of a merge
-- the answer of a merge with its set exchanged
abbrev with_exchanged : Filled → Filled
with_exchanged f = record { outcome = f.outcome; set = exchanged f.set }

empty_exchanged : exchanged empty_set ≡ empty_set
unfolding exchanged firsts_by
empty_exchanged = refl

table_exchanged : (s s' : Rows) → RowsLike Other OtherName s s' → table_of s' ≡ exchanged (table_of s)
unfolding table_of exchanged
table_exchanged s s' h =
    let classes = firsts-padded other_value max_classes zero_value s.classes in
    let keys = firsts-padded other_row max_keys zero_row s.keys in
    rw (pairs-length h.classes, pairs-length h.keys, pairs_are other_value (λ v w e. e) h.classes, pairs_are other_row row_is_lem h.keys, h.order, is_there_lem h.ident, id h.ident, classes, keys)
  where
    row_is_lem : (r r' : Row) → RowLike Other OtherName r r' → r' ≡ other_row r
    row_is_lem r r' l = rw (← l.name, ← l.value)

    id : {i j : Ident} → IdentLike Other OtherName i j → id_or j ≡ cond (is_there i) (other_value (id_or i)) (id_or i)
    id IdentLike.missing = refl
    id (IdentLike.given e) = e

follows : Follows Other OtherName (λ f f'. f' ≡ with_exchanged f)
follows = record { refused = λ r. rw empty_exchanged; done = λ s s' h. rw (table_exchanged s s' h) }

module _ (t : Texts) (a b : Attrs) where
  merged_by_lem : (o : Result (Unit {0}) Refusal) → merged_by o (changed_over t) (exchanged a) (exchanged b) ≡ with_exchanged (merged_by o t a b)
  merged_by_lem = same_merge (keeps t) (exchanged_like a) (exchanged_like b) follows

  -- a refusal's set is the empty one, whichever of the texts it is for
  set-changed_over : (o p : Result (Unit {0}) Refusal) → passes o ≡ passes p → (merged_by o t a b).set ≡ (merged_by p t a b).set
  set-changed_over = both_pass (λ q. (merged_by q t a b).set) empty_set (λ r. refl)

  outcome_changed_over : (o p : Result (Unit {0}) Refusal) → passes o ≡ passes p → (merged_by o t a b).outcome ≡ or_else o (merged_by p t a b).outcome
  outcome_changed_over (Err r) p e = refl
  outcome_changed_over (Ok _) (Ok _) e = refl
  outcome_changed_over (Ok _) (Err r) e = contra true refl e

pub exchange_merges : ExchangeMerges
unfolding merge_of
exchange_merges t a b =
    let e = both_changed t.first t.second in
    let q = outcome_changed_over t a b (both_of t.second t.first) (both_of t.first t.second) e in
    let outcome = ap (λ f. f.outcome) (merged_by_lem t a b (both_of t.second t.first)) ∙ q in
    record {
      set = ap (λ f. f.set) (merged_by_lem t a b (both_of t.second t.first)) ∙ ap exchanged (set-changed_over t a b (both_of t.second t.first) (both_of t.first t.second) e);
      outcome = outcome;
      texts = λ h g. outcome ∙ ap (λ o. or_else o (merged_by (both_of t.first t.second) t a b).outcome) (both_texts t.second t.first g h);
    }

-- ---- of the writer
module _ (t : Texts) (a : Attrs) where
  told : (o p : Result (Unit {0}) Refusal) → passes o ≡ passes p → (q : Result (Unit {0}) Refusal) (w : Result ℕ Refusal) → or_refused (or_else o q) w ≡ or_refused o (or_refused (or_else p q) w)
  told (Err r) p e q w = refl
  told (Ok _) (Ok _) e (Ok _) w = refl
  told (Ok _) (Ok _) e (Err r) w = refl
  told (Ok _) (Err r) e q w = contra true refl e

  left : (q : Result (Unit {0}) Refusal) (buf xs : List ℕ) (o p : Result (Unit {0}) Refusal) → passes o ≡ passes p → or_left (or_else o q) buf xs ≡ or_left (or_else p q) buf xs
  left q buf xs = both_pass (λ r. or_left (or_else r q) buf xs) buf (λ r. refl)

  wrote : (size : ℕ) → attrs_wrote (changed_over t) (exchanged a) size ≡ or_refused (both_of t.second t.first) (attrs_wrote t a size)
  unfolding writable attrs_wrote
  wrote size =
      rw ((exchange_keeps t a).means, (exchange_keeps t a).table)
      (told (both_of t.second t.first) (both_of t.first t.second) (both_changed t.first t.second) _ _)

  content : (buf : List ℕ) → attrs_content (changed_over t) (exchanged a) buf ≡ attrs_content t a buf
  unfolding writable attrs_content
  content buf =
      rw ((exchange_keeps t a).means, (exchange_keeps t a).table)
      (left _ buf _ (both_of t.second t.first) (both_of t.first t.second) (both_changed t.first t.second))

pub exchange_writes : ExchangeWrites
exchange_writes t a =
    record {
      content = content t a;
      wrote = wrote t a;
      texts = λ h g size. wrote t a size ∙ ap (λ o. or_refused o (attrs_wrote t a size)) (both_texts t.second t.first g h);
    }
