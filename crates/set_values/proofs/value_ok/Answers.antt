use Rattle.base_lists.specs.Lists.{all}
use Rattle.block_grammar.specs.Close.{no_lf}
use Rattle.text_escapes.proofs.Pieces.{no_lf_lem}
use Rattle.set_table.specs.Types.{value_bytes}
use Rattle.set_values.specs.Values.{value_ok, text_ok}
use borrow.Author.Rules.{rules}
use Rattle.set_values.proofs.value_ok.Goals as goal

pub returns-in-Plain : goal.returns-in-Plain
unfolding value_ok text_ok value_bytes
returns-in-Plain c = rw c.in-Plain.is c.flat_range.ensures

pub returns-in-Quoted : goal.returns-in-Quoted
unfolding value_ok text_ok value_bytes no_lf all
returns-in-Quoted c = rw (c.in-Quoted.is, no_lf_lem) c.flat_range-in-Quoted.ensures

pub returns-in-Empty : goal.returns-in-Empty
unfolding value_ok text_ok value_bytes no_lf all
returns-in-Empty c = rw c.in-Empty.is
