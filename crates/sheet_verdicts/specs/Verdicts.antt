-- "On a block it writes `block`, .., or for 6, 7 or 10 `refused`, ..": what the sheet program makes of a block.
use Rattle.std.specs.Prelude.{ℕ, cond, List, [], ◌∷◌, ◌++◌, Err, Ok, Result}
use Rattle.base_refusals.specs.Numbers.{too_long}
use Rattle.base_refusals.specs.Orders.{Ground, met}
use Rattle.base_refusals.specs.declared.Refusal.TheVariants.{CanonTooLong}
use Rattle.text_checks.specs.Outcomes.{or_else}
use Rattle.set_canon.specs.Canon.{canon}
use Rattle.set_table.specs.Types.{Texts}
use Rattle.set_table.specs.Rows.{meaning_of}
use Rattle.set_table.specs.declared.Attrs.{Attrs}
use Rattle.read_blocks.specs.Blocks.{texts_in, filled_found}
use Rattle.sheet_blocks.specs.Sheets.{Try}
use Rattle.base_refusals.specs.declared.Refusal.{Refusal}

-- "10 canonical text above 65,535 bytes": "Its buffers for joining and canonical text hold 65,535 bytes each"
unfoldable pub printable : List ℕ → Result (Unit {0}) Refusal
printable xs = cond (too_long xs) (Err CanonTooLong) (Ok tt)

-- printed, or why not: 6 and 7 come with the set, which is over the texts t
unfoldable pub block_verdict : Texts → Attrs → Result (Unit {0}) Refusal → Result (Unit {0}) Refusal
block_verdict t a o = or_else o (printable (canon (meaning_of t a)))

-- its order: "6, 7 or 10"
abbrev pub verdict_order : Texts → Attrs → Result (Unit {0}) Refusal → List Ground
verdict_order t a o = met o ++ (Ground.given CanonTooLong (too_long (canon (meaning_of t a))) ∷ [])

-- the verdict on a block of the text t
unfoldable pub verdict_at : List ℕ → Try → Result (Unit {0}) Refusal
verdict_at t x = block_verdict (texts_in t x.found) (filled_found t x.at x.found).set (filled_found t x.at x.found).outcome
