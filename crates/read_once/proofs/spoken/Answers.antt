use mathlib.Core.Path.{refl, sym}
use mathlib.Core.List.{[], ◌∷◌}
use Rattle.read_tags.specs.Inner.{passes_with}
use Rattle.read_tags.proofs.Langs.{all_one}
use Rattle.read_once.specs.Inner.{span_bytes, lang_by, span_allowed}
use Rattle.read_once.proofs.Codes.{by_code}
use borrow.Author.Rules.{rules}
use Rattle.read_once.proofs.spoken.Reads as reads
use Rattle.read_once.proofs.spoken.Lts as lts
use borrow.Enum.Refused as refused
use Rattle.read_once.proofs.spoken.Goals as goal

-- src/lib.rt:550:1
pub returns-in-Tag : goal.returns-in-Tag
returns-in-Tag c = λ t. rw (c.in-Tag.is) (sym (all_one (span_bytes t c.args.kind c.args.from c.args.to)))

-- src/lib.rt:550:1
pub returns-in-Lang : goal.returns-in-Lang
returns-in-Lang c = λ t. rw (c.in-Lang.is) (sym (all_one (span_bytes t c.args.kind c.args.from c.args.to)))

-- src/lib.rt:550:1
pub returns-in_default : goal.returns-in_default
returns-in_default c = λ t. by_code (λ x. span_allowed t c.args.last) (λ x. passes_with (span_allowed t c.args.last) (lang_by x (span_bytes t c.args.kind c.args.from c.args.to))) (0 ∷ 1 ∷ 2 ∷ 3 ∷ 4 ∷ []) c.args.code (refused.opened c.in_default.in_default-own.keys3) refl
