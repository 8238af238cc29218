-- One sheet more: "fed one after the other".
use Rattle.std.specs.Prelude.{ℕ, Bool, cond, ◌&&◌, List, [], ◌∷◌, ltb, Err}
use Rattle.base_refusals.specs.Numbers.{max_text}
use Rattle.base_refusals.specs.Orders.{Ground}
use Rattle.base_refusals.specs.declared.Refusal.TheVariants.{JoinFull}
use Rattle.text_checks.specs.Check.{is_text}
use Rattle.sheet_blocks.specs.Sheets.{Try}
use Rattle.sheet_totals.specs.Totals.{add_totals, add_order}
use Rattle.sheet_totals.specs.declared.Totals.{Totals}
use Rattle.sheet_totals.specs.declared.Added.{Added}
use Rattle.sheet_tally.specs.Counts.{tries_in, totals_of}

-- "later parts that read whole sheets are lent such a join buffer and answer 9, right after 2, for a shorter one"; a sheet of 1 or 2 is counted, and needs none
abbrev pub lacks_join : List ℕ → ℕ → Bool
lacks_join t cap = is_text t && ltb cap max_text

-- "17 a total would not fit; the report then stays as before that sheet"; so it does on 9
unfoldable pub feed_of : Totals → List ℕ → ℕ → Added
feed_of a t cap = cond (lacks_join t cap) (record { outcome = Err JoinFull; totals = a }) (add_totals a (totals_of (t ∷ [])))

-- its order: 9, 17
unfoldable pub feed_order : Totals → List ℕ → ℕ → List Ground
feed_order a t cap = Ground.given JoinFull (lacks_join t cap) ∷ add_order a (totals_of (t ∷ []))

-- the tries that are made for it: all of the sheet's, also on 17
unfoldable pub feed_tries : List ℕ → ℕ → List Try
feed_tries t cap = cond (lacks_join t cap) [] (tries_in t)
