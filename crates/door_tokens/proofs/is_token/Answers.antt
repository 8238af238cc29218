use Rattle.door_tokens.proofs.Told as laws
use borrow.Author.Rules.{rules}
use borrow.Enum.Refused as refused
use Rattle.door_tokens.proofs.is_token.Goals as goal

pub returns-in_default : goal.returns-in_default
returns-in_default c = laws.not_bad c.in-Some.is (refused.opened c.in_default.in_default-own.keys2)
