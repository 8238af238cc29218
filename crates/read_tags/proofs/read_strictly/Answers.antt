use mathlib.Core.Path.{◌∙◌}
use borrow.Author.Tests.{not-true, not-false}
use Rattle.read_tags.proofs.Braces as braces
use borrow.Author.Rules.{rules}
use Rattle.read_tags.proofs.read_strictly.Goals as goal

pub returns-then-not-payload_passes : goal.returns-then-not-payload_passes
returns-then-not-payload_passes c =
    c.refused.ensures ∙ braces.bad_tag c.args.mode c.args.text.now c.args.place c.payload_at.ensures.result_value c.payload_passes.ensures (c.if-not-payload_passes.true)

pub returns : goal.returns
returns c =
    c.read_attrs_at_with.ensures.value ∙ braces.good_tag c.args.mode c.args.text.now c.args.place c.payload_at.ensures.result_value c.payload_passes.ensures (c.if-not-payload_passes.false)
