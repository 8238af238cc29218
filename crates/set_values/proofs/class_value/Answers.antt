use Rattle.base_lists.specs.Lists.{all}
use Rattle.set_canon.specs.Canon.{is_class_value}
use Rattle.text_escapes.proofs.Pieces.{no_space, only_space}
use Rattle.set_table.specs.Types.{value_bytes}
use borrow.Author.Rules.{rules}
use Rattle.set_values.proofs.class_value.Goals as goal

pub returns-in-Plain : goal.returns-in-Plain
unfolding value_bytes
returns-in-Plain c = rw (c.in-Plain.is, ← c.range_of.ensures) c.class_bytes.ensures

pub returns-in-Quoted : goal.returns-in-Quoted
unfolding value_bytes is_class_value all
returns-in-Quoted c = rw (c.in-Quoted.is, no_space, only_space, ← c.range_of-in-Quoted.ensures) c.class_bytes-in-Quoted.ensures

pub returns-in-Empty : goal.returns-in-Empty
unfolding value_bytes is_class_value all
returns-in-Empty c = rw c.in-Empty.is
