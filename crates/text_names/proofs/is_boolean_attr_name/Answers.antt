use mathlib.Core.Path.{refl}
use Rattle.base_bytes.specs.Bytes.{is_letter, is_name_part}
use Rattle.base_refusals.proofs.Said.{said}
use Rattle.text_names.specs.Tested.{tested_paper}
use Rattle.text_names.specs.Names.{is_bare_name, bare_place}
use Rattle.text_names.proofs.Headed as headed
use borrow.Author.Rules.{rules}
use Rattle.text_names.proofs.is_boolean_attr_name.Goals as goal

pub returns-then-s-eq0 : goal.returns-then-s-eq0
unfolding is_bare_name bare_place
returns-then-s-eq0 c = said tested_paper refl (headed.none is_letter is_name_part _ c.if-s-eq0.true)

pub returns : goal.returns
unfolding is_bare_name bare_place
returns c = said tested_paper refl (headed.some is_letter is_name_part _ c.bare_end-e.ensures c.if-s-eq0.false c.whole_or_stops.ensures.value)
