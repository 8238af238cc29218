use mathlib.Core.Bool.{not}
use mathlib.Core.Path.{sym, ◌∙◌, ap}
use borrow.Author.Tests.{not-false}
use lib.Seq.{slice}
use Rattle.base_lists.proofs.Parts.{slice_part}
use Rattle.block_places.specs.Computed.{payload_place}
use Rattle.block_tokens.specs.Shown.{payload_tested}
use Rattle.set_table.specs.Types.{one}
use Rattle.read_brace.proofs.Places as places
use borrow.Author.Rules.{rules}
use Rattle.read_brace.proofs.place_of.Goals as goal

pub returns-then-not-says_place : goal.returns-then-not-says_place
returns-then-not-says_place c =
    let a = c.args in
    places.not_said a.outcome (payload_place a.mode (slice a.from a.end a.text.now)) c.says_place.ensures (ap not c.if-not-says_place.true)

pub returns-in-Ok : goal.returns-in-Ok
returns-in-Ok c =
    let a = c.args in
    places.never_whole a.mode (one a.text.now) a.from (slice a.from a.end a.text.now) c.requires.1.1
    (c.payload_test.ensures.value ∙ ap (payload_tested a.mode) (sym (slice_part a.from a.end a.text.now)))
    (sym c.says_place.ensures ∙ c.if-not-says_place.false) c.in-Ok.is

pub returns-in-Err : goal.returns-in-Err
returns-in-Err c =
    let a = c.args in
    places.stops_at_lem a.mode (one a.text.now) a.from (slice a.from a.end a.text.now) c.requires.1.1
    (c.payload_test.ensures.value ∙ ap (payload_tested a.mode) (sym (slice_part a.from a.end a.text.now)))
    (sym c.says_place.ensures ∙ c.if-not-says_place.false) c.in-Err.is
