-- A set with its two texts changed over, over the texts changed over: nothing else changes. "Every range shall say which of two lent texts it belongs to".
use Rattle.std.specs.Prelude.{◌≡◌, true, false, List, ℕ, ◌≤◌, get_or}
use Rattle.text_checks.specs.Check.{is_text, both_of}
use Rattle.text_checks.specs.Outcomes.{or_else}
use Rattle.set_table.specs.Types.{Texts, zero_value, zero_row}
use Rattle.set_table.specs.Rows.{meaning_of}
use Rattle.set_table.specs.declared.Attrs.{Attrs}
use Rattle.set_exchange.specs.Exchange.{changed_over, exchanged}
use Rattle.set_wellformed.specs.WellFormed.{table_ok, well_formed}
use Rattle.set_writer.specs.Write.{or_refused, attrs_wrote, attrs_content}
use Rattle.set_merge.specs.Merge.{merge_of}

-- ---- one set, over any texts
pub record Exchanges (t : Texts) (a : Attrs) : Type 0 where
  pub twice : exchanged (exchanged a) ≡ a
  -- "meaning doesn't include the origin"
  pub means : meaning_of (changed_over t) (exchanged a) ≡ meaning_of t a
  -- "merging, well-formedness and writing take both texts"
  pub table : table_ok (changed_over t) (exchanged a) ≡ table_ok t a
  pub formed : well_formed (changed_over t) (exchanged a) ≡ well_formed t a

abbrev pub ExchangeKeeps : Type 0
ExchangeKeeps = (t : Texts) (a : Attrs) → Exchanges t a

-- "Rows past the counts are zero in every set handed out": what lies past them stays as it is, and so does an id that isn't
-- given: they are zero if they were
pub record RestStays (a : Attrs) : Type 0 where
  pub given : (exchanged a).given ≡ a.given
  pub nclass : (exchanged a).nclass ≡ a.nclass
  pub nkey : (exchanged a).nkey ≡ a.nkey
  pub norder : (exchanged a).norder ≡ a.norder
  pub id : a.given ≡ false → (exchanged a).id ≡ a.id
  pub classes : (k : ℕ) → a.nclass ≤ k → get_or (exchanged a).classes k zero_value ≡ get_or a.classes k zero_value
  pub keys : (k : ℕ) → a.nkey ≤ k → get_or (exchanged a).keys k zero_row ≡ get_or a.keys k zero_row
  pub slots : (exchanged a).order ≡ a.order

abbrev pub ExchangeRest : Type 0
ExchangeRest = (a : Attrs) → RestStays a

-- ---- merging
-- the set is that of the merge, exchanged; a refusal comes with the empty one, which stays empty
pub record MergesExchanged (t : Texts) (a b : Attrs) : Type 0 where
  pub set : (merge_of (changed_over t) (exchanged a) (exchanged b)).set ≡ exchanged (merge_of t a b).set
  -- "1 and 2 are checked for the first text, then 1 and 2 for the second", which was the first; behind them the outcome is what it was
  pub outcome : (merge_of (changed_over t) (exchanged a) (exchanged b)).outcome ≡ or_else (both_of t.second t.first) (merge_of t a b).outcome
  pub texts : is_text t.first ≡ true → is_text t.second ≡ true → (merge_of (changed_over t) (exchanged a) (exchanged b)).outcome ≡ (merge_of t a b).outcome

abbrev pub ExchangeMerges : Type 0
ExchangeMerges = (t : Texts) (a b : Attrs) → MergesExchanged t a b

-- ---- writing
pub record WritesExchanged (t : Texts) (a : Attrs) : Type 0 where
  pub content : (buf : List ℕ) → attrs_content (changed_over t) (exchanged a) buf ≡ attrs_content t a buf
  pub wrote : (size : ℕ) → attrs_wrote (changed_over t) (exchanged a) size ≡ or_refused (both_of t.second t.first) (attrs_wrote t a size)
  pub texts : is_text t.first ≡ true → is_text t.second ≡ true → (size : ℕ) → attrs_wrote (changed_over t) (exchanged a) size ≡ attrs_wrote t a size

abbrev pub ExchangeWrites : Type 0
ExchangeWrites = (t : Texts) (a : Attrs) → WritesExchanged t a
