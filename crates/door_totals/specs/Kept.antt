-- A report in memory that a caller from C or Rust lends: thirteen numbers of 64 bits.
use Rattle.std.specs.Prelude.{ℕ, List, [], ◌∷◌, leb, length, Result}
use Rattle.base_refusals.specs.declared.Refusal.TheVariants.{TotalTooLarge}
use Rattle.text_checks.specs.Outcomes.{unless, or_else}
use Rattle.set_writer.specs.Write.{or_refused, wrote_of}
use Rattle.sheet_totals.specs.Totals.{total_places, empty_totals, add_totals}
use Rattle.sheet_totals.specs.declared.Totals.{Totals}
use Rattle.sheet_tally.specs.Feeds.{feed_of}
use Rattle.sheet_numbers.specs.Text.{totals_text}
use Rattle.door_shared.specs.Tells.{told_in}
use Rattle.base_refusals.specs.declared.Refusal.{Refusal}

-- the report that stands there; a number for which there is no room is 0
abbrev pub report_in : List ℕ → Totals
report_in buf = record { numbers = told_in empty_totals.numbers buf }

-- "17 a total would not fit": so it is where there are fewer than thirteen
unfoldable pub room_in : List ℕ → Result (Unit {0}) Refusal
room_in buf = unless TotalTooLarge (leb total_places (length buf))

-- one sheet more: 9, 17
abbrev pub feed_kept : List ℕ → List ℕ → ℕ → Result (Unit {0}) Refusal
feed_kept buf t cap = or_else (feed_of (report_in buf) t cap).outcome (room_in buf)

-- another report, which has to be whole too
abbrev pub add_kept : List ℕ → List ℕ → Result (Unit {0}) Refusal
add_kept buf more = or_else (add_totals (report_in buf) (report_in more)).outcome (or_else (room_in buf) (room_in more))

-- its text: 17, then 10
abbrev pub text_kept : List ℕ → ℕ → Result ℕ Refusal
text_kept buf size = or_refused (room_in buf) (wrote_of (totals_text (report_in buf).numbers) size)
