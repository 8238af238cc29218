use Rattle.text_langtags.proofs.Keys as keys
use Rattle.text_langtags.proofs.is_word.Goals as goal

pub returns-in-155780572333015957 : goal.returns-in-155780572333015957
returns-in-155780572333015957 c = keys.word_in c.args.w c.in-155780572333015957.is

pub returns-in_default : goal.returns-in_default
returns-in_default c = keys.word_out c.args.w c.in_default.in_default-own.rest.1
