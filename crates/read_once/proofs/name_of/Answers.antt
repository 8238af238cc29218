use mathlib.Core.Path.{refl}
use mathlib.Core.List.{[], ◌∷◌}
use Rattle.set_table.specs.declared.Name.TheVariants as name
use Rattle.set_table.specs.declared.Origin.TheVariants.{First}
use Rattle.read_once.specs.Inner.{name_by}
use Rattle.read_once.proofs.Codes.{by_code}
use borrow.Author.Rules.{rules}
use Rattle.read_once.proofs.name_of.Reads as reads
use Rattle.read_once.proofs.name_of.Lts as lts
use borrow.Enum.Refused as refused
use Rattle.read_once.proofs.name_of.Goals as goal

-- src/lib.rt:539:1
pub returns-in_default : goal.returns-in_default
returns-in_default c = by_code (λ x. name.Range First c.args.name c.args.key) (λ x. name_by x c.args.name c.args.key) (0 ∷ 1 ∷ 2 ∷ 3 ∷ 4 ∷ 5 ∷ []) c.args.code (refused.opened c.in_default.in_default-own.keys2) refl
