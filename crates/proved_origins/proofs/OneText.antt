-- "A set with one text only, the other being lent empty, behaves as before."
-- Assumes nothing.
use Rattle.std.specs.Prelude.{Err, Ok, Result}
use mathlib.Core.Path.{◌≡◌, refl, ◌∙◌, ap}
use mathlib.Core.Bool.{Bool, true, ◌&&◌}
use mathlib.Core.List.{List, []}
use Prim.Native.Nat.{ℕ}
use Rattle.base_lists.specs.Lists.{all}
use Rattle.base_lists.proofs.Scan.{both}
use Rattle.text_checks.specs.Check.{check_of, is_text, both_of}
use Rattle.text_checks.specs.Outcomes.{or_else}
use Rattle.text_checks.proofs.CheckNumbers.{both_is}
use Rattle.text_checks.proofs.Texts.{text-passes}
use Rattle.set_table.specs.Types.{Texts, empty_set}
use Rattle.set_table.specs.Rows.{Ident, Rows, table_of, rows_in}
use Rattle.set_table.specs.declared.Origin.{Origin}
use Rattle.set_table.specs.declared.Origin.TheVariants.{First, Second}
use Rattle.set_table.specs.declared.Text.{Text}
use Rattle.set_table.specs.declared.Text.TheVariants.{Plain, Quoted, Empty}
use Rattle.set_table.specs.declared.Value.{Value}
use Rattle.set_table.specs.declared.Name.{Name}
use Rattle.set_table.specs.declared.Name.TheVariants.{Range, Lang}
use Rattle.set_table.specs.declared.Row.{Row}
use Rattle.set_table.specs.declared.Attrs.{Attrs}
use Rattle.set_table.proofs.Whole.{rows_table}
use Rattle.set_exchange.specs.Exchange.{other_origin, other_text, other_value, other_name}
use Rattle.set_values.specs.Values.{text_ok, value_ok, ident_ok, class_ok, key_ok}
use Rattle.set_wellformed.specs.WellFormed.{table_ok, well_formed}
use Rattle.set_wellformed.proofs.Shape.{table_passed, keyed}
use Rattle.set_writer.specs.Write.{writable, attrs_wrote, attrs_content}
use Rattle.set_merge.specs.Merge.{merge_of}
use Rattle.proved_origins.specs.OneText.{is_origin, text_is, value_is, name_is, ident_is, row_is, is_all_of, ExchangedOf, lent, AsBefore, MergesAsBefore, BehavesAsBefore, FormedOverMore, EmptyAsksNothing}
use Rattle.proved_origins.proofs.Pairs.{pairs-all, pairs_each, pairs-same, diagonal}
use Rattle.proved_origins.proofs.Alike.{IdentLike, RowLike, RowsLike, Keeps}
use Rattle.proved_origins.proofs.Checks.{empty_text, second_lent, first_lent}
use Rattle.proved_origins.proofs.Sets.{SetsLike, Follows, same_table, same-meaning, same_merge}
use Rattle.proved_origins.proofs.Exchanged.{exchanged_like}
use Rattle.proved_origins.proofs.Steady.{Stays, NameStays, steady_keeps, of_text, of_name, ok_text, ok_name}
use Rattle.base_refusals.specs.declared.Refusal.{Refusal}

-- ---- the mirror image
origin_other : (o p : Origin) → is_origin (other_origin o) (other_origin p) ≡ is_origin o p
origin_other First First = refl
origin_other First Second = refl
origin_other Second First = refl
origin_other Second Second = refl

module _ (o : Origin) where
  text_other : (x : Text) → text_is (other_origin o) (other_text x) ≡ text_is o x
  text_other (Plain p from to) = origin_other o p
  text_other (Quoted p from to) = origin_other o p
  text_other Empty = refl

  name_other : (n : Name) → name_is (other_origin o) (other_name n) ≡ name_is o n
  name_other (Range p from to) = origin_other o p
  name_other Lang = refl

  value_other : (v w : Value) → w ≡ other_value v → value_is (other_origin o) w ≡ value_is o v
  value_other v w e = rw e (text_other v.text)

  ident_other : {i j : Ident} → IdentLike (λ v w. w ≡ other_value v) (λ n m. m ≡ other_name n) i j → ident_is (other_origin o) j ≡ ident_is o i
  ident_other IdentLike.missing = refl
  ident_other (IdentLike.given {v = v} {w = w} e) = value_other v w e

  row_other : (r r' : Row) → RowLike (λ v w. w ≡ other_value v) (λ n m. m ≡ other_name n) r r' → row_is (other_origin o) r' ≡ row_is o r
  row_other r r' l = rw (l.name, l.value, name_other r.name, text_other r.value.text)

pub exchanged_of : ExchangedOf
unfolding is_all_of
exchanged_of o a =
    let h = (exchanged_like a).rows in
    rw (ident_other o h.ident, pairs-all (value_is o) (value_is (other_origin o)) (value_other o) h.classes, pairs-all (row_is o) (row_is (other_origin o)) (row_other o) h.keys)

-- ---- rows that stay as they are
module _ {t t' : Texts} where
  ident_same : {i j : Ident} → IdentLike (Stays t t') (NameStays t t') i j → j ≡ i
  ident_same IdentLike.missing = refl
  ident_same (IdentLike.given e) = ap Ident.given e.is

  row_same : (r r' : Row) → RowLike (Stays t t') (NameStays t t') r r' → r' ≡ r
  row_same r r' l = rw (← l.name.is, ← l.value.is)

  rows_same : (s s' : Rows) → RowsLike (Stays t t') (NameStays t t') s s' → s' ≡ s
  rows_same s s' h = rw (← ident_same h.ident, ← pairs-same (λ v w e. e.is) h.classes, ← pairs-same row_same h.keys, ← h.order)

  follows : Follows (Stays t t') (NameStays t t') (λ f f'. f' ≡ f)
  follows = record { refused = λ r. refl; done = λ s s' h. ap (λ r. record { outcome = Ok tt; set = table_of r }) (rows_same s s' h) }

-- ---- what follows of a set whose rows stay
module _ (o : Origin) (t u : List ℕ) where
  abbrev Unmoved : Attrs → Type 0
  Unmoved a = SetsLike (Stays (lent o t []) (lent o t u)) (NameStays (lent o t []) (lent o t u)) a a

  both_lent : is_text u ≡ true → both_of (lent o t u).first (lent o t u).second ≡ both_of (lent o t []).first (lent o t []).second
  both_lent h = go o
    where
      go : (o : Origin) → both_of (lent o t u).first (lent o t u).second ≡ both_of (lent o t []).first (lent o t []).second
      go First = second_lent t u h
      go Second = first_lent t u h

  texts_lent : is_text u ≡ true → (b : Bool) → (is_text (lent o t u).first && (is_text (lent o t u).second && b)) ≡ (is_text (lent o t []).first && (is_text (lent o t []).second && b))
  texts_lent h b = go o
    where
      go : (o : Origin) → (is_text (lent o t u).first && (is_text (lent o t u).second && b)) ≡ (is_text (lent o t []).first && (is_text (lent o t []).second && b))
      go First = rw (h, empty_text)
      go Second = rw (h, empty_text)

  module _ {a : Attrs} (s : Unmoved a) where
    formed : is_text u ≡ true → well_formed (lent o t u) a ≡ well_formed (lent o t []) a
    unfolding well_formed
    formed h = rw (same_table steady_keeps s) (texts_lent h (table_ok (lent o t []) a))

    wrote : is_text u ≡ true → (size : ℕ) → attrs_wrote (lent o t u) a size ≡ attrs_wrote (lent o t []) a size
    unfolding writable attrs_wrote
    wrote h size = rw (same-meaning steady_keeps s, same_table steady_keeps s, both_lent h)

    content : is_text u ≡ true → (buf : List ℕ) → attrs_content (lent o t u) a buf ≡ attrs_content (lent o t []) a buf
    unfolding writable attrs_content
    content h buf = rw (same-meaning steady_keeps s, same_table steady_keeps s, both_lent h)

    as_before : AsBefore o t u a
    as_before = record { means = same-meaning steady_keeps s; table = same_table steady_keeps s; formed = formed; wrote = wrote; content = content }

  merge_before : {a b : Attrs} → Unmoved a → Unmoved b → MergesAsBefore o t u a b
  unfolding merge_of
  merge_before {a} {b} s z h = rw (both_lent h) (same_merge steady_keeps s z follows (both_of (lent o t []).first (lent o t []).second))

  -- ---- a set that is well-formed over t and an empty text
  module _ (h : is_text u ≡ true) where
    ok_value : (v : Value) → value_ok (lent o t []) v ≡ true → Stays (lent o t []) (lent o t u) v v
    unfolding value_ok
    ok_value v e = record { is = refl; steady = ok_text o t u h v.text (both (text_ok (lent o t []) v.text) _ e).0 }

    ok_class : (v : Value) → class_ok (lent o t []) v ≡ true → Stays (lent o t []) (lent o t u) v v
    unfolding class_ok
    ok_class v e = ok_value v (both (value_ok (lent o t []) v) _ e).0

    ok_row : (r : Row) → key_ok (lent o t []) r ≡ true → RowLike (Stays (lent o t []) (lent o t u)) (NameStays (lent o t []) (lent o t u)) r r
    ok_row r e = record { name = record { is = refl; steady = ok_name o t u h r.name (keyed e).range }; value = ok_value r.value (keyed e).value }

    ok_ident : (i : Ident) → ident_ok (lent o t []) i ≡ true → IdentLike (Stays (lent o t []) (lent o t u)) (NameStays (lent o t []) (lent o t u)) i i
    ok_ident Ident.missing e = IdentLike.missing
    ok_ident (Ident.given v) e = IdentLike.given (ok_value v e)

    ok_unmoved : {a : Attrs} → table_ok (lent o t []) a ≡ true → Unmoved a
    ok_unmoved {a} e =
        let p = table_passed (lent o t []) a e in
        record {
          counts = refl;
          rows = record {
            ident = ok_ident (rows_in a).ident p.ident;
            classes = diagonal (class_ok (lent o t [])) ok_class (rows_in a).classes p.classes;
            keys = diagonal (key_ok (lent o t [])) ok_row (rows_in a).keys p.keys;
            order = refl;
          };
        }

    table_formed : (a : Attrs) → well_formed (lent o t []) a ≡ true → table_ok (lent o t []) a ≡ true
    unfolding well_formed
    table_formed a e = (both (is_text (lent o t []).second) (table_ok (lent o t []) a) (both (is_text (lent o t []).first) _ e).1).1

pub formed_over_more : FormedOverMore
formed_over_more o t u =
    record {
      one = λ a h e. as_before o t u (ok_unmoved o t u h e);
      formed = λ a h e. formed o t u (ok_unmoved o t u h (table_formed o t u h a e)) h ∙ e;
      merge = λ a b e f h. merge_before o t u (ok_unmoved o t u h e) (ok_unmoved o t u h f) h;
    }

-- ---- a set of one text
module _ (o : Origin) where
  pub record Of (v w : Value) : Type 0 where
    pub is : w ≡ v
    pub of : value_is o v ≡ true

  pub record NameOf (n m : Name) : Type 0 where
    pub is : m ≡ n
    pub of : name_is o n ≡ true

  -- its rows are alike with themselves, for all that follows of a value and a name of that text
  module _ {P : Value → Value → Type 0} {Q : Name → Name → Type 0} (p : (v : Value) → value_is o v ≡ true → P v v) (q : (n : Name) → name_is o n ≡ true → Q n n) where
    of_ident : (i : Ident) → ident_is o i ≡ true → IdentLike P Q i i
    of_ident Ident.missing e = IdentLike.missing
    of_ident (Ident.given v) e = IdentLike.given (p v e)

    of_row : (r : Row) → row_is o r ≡ true → RowLike P Q r r
    of_row r e = let z = both (name_is o r.name) (value_is o r.value) e in record { name = q r.name z.0; value = p r.value z.1 }

    of_set : (a : Attrs) → is_all_of o a ≡ true → SetsLike P Q a a
    unfolding is_all_of
    of_set a e =
        let x = both (ident_is o (rows_in a).ident) (all (value_is o) (rows_in a).classes && all (row_is o) (rows_in a).keys) e in
        let y = both (all (value_is o) (rows_in a).classes) (all (row_is o) (rows_in a).keys) x.1 in
        record {
          counts = refl;
          rows = record {
            ident = of_ident (rows_in a).ident x.0;
            classes = diagonal (value_is o) p (rows_in a).classes y.0;
            keys = diagonal (row_is o) of_row (rows_in a).keys y.1;
            order = refl;
          };
        }

  -- what is put together of such rows is of that text
  pub of_keeps : (t : Texts) → Keeps Of NameOf t t
  of_keeps t = record { bytes = λ v w e. rw e.is; ok = λ v w e. rw e.is; name = λ n m e. rw e.is; named = λ n m e. rw e.is }

  ident_of : {i j : Ident} → IdentLike Of NameOf i j → ident_is o i ≡ true
  ident_of IdentLike.missing = refl
  ident_of (IdentLike.given e) = e.of

  table_of_lem : (s s' : Rows) → RowsLike Of NameOf s s' → is_all_of o (table_of s) ≡ true
  unfolding is_all_of
  table_of_lem s s' h =
      rw (rows_table s, ident_of h.ident, pairs_each (value_is o) (λ v w e. e.of) h.classes, pairs_each (row_is o) (λ r r' l. rw (l.name.of, l.value.of)) h.keys)

  pub empty_of : is_all_of o empty_set ≡ true
  unfolding is_all_of rows_in all
  empty_of = refl

  pub follows_of : Follows Of NameOf (λ f f'. is_all_of o f.set ≡ true)
  follows_of = record { refused = λ r. empty_of; done = table_of_lem }

  merged_of : (t : Texts) (a b : Attrs) → is_all_of o a ≡ true → is_all_of o b ≡ true → is_all_of o (merge_of t a b).set ≡ true
  unfolding merge_of
  merged_of t a b h g = same_merge (of_keeps t) (own a h) (own b g) follows_of (both_of t.first t.second)
    where
      own : (c : Attrs) → is_all_of o c ≡ true → SetsLike Of NameOf c c
      own = of_set (λ v e. record { is = refl; of = e }) (λ n e. record { is = refl; of = e })

pub behaves_as_before : BehavesAsBefore
behaves_as_before o t u =
    record {
      one = λ a h. as_before o t u (own a h);
      merge = λ a b h g. merge_before o t u (own a h) (own b g);
      merged = merged_of o (lent o t u);
    }
  where
    own : (a : Attrs) → is_all_of o a ≡ true → Unmoved o t u a
    own = of_set o (λ v e. record { is = refl; steady = of_text o t u v.text e }) (λ n e. record { is = refl; steady = of_name o t u n e })

-- ---- the empty text asks nothing
empty_behind : (o : Result (Unit {0}) Refusal) → or_else o (Ok tt) ≡ o
empty_behind (Ok _) = refl
empty_behind (Err r) = refl

pub empty_asks : EmptyAsksNothing
unfolding well_formed
empty_asks t =
    record {
      first = rw (← both_is t [], text-passes [] empty_text) (empty_behind (check_of t));
      second = rw (← both_is [] t, text-passes [] empty_text);
      formed = λ a. rw empty_text;
    }
