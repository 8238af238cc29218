use borrow.Author.Rules.{rules}
use Rattle.sheet_findings.proofs.kind_number.Goals as goal

pub returns-in-Clear : goal.returns-in-Clear
returns-in-Clear c = rw c.in-Clear.is

pub returns-in-Limit : goal.returns-in-Limit
returns-in-Limit c = rw c.in-Limit.is

pub returns-in-Marked : goal.returns-in-Marked
returns-in-Marked c = rw c.in-Marked.is

pub returns-in-Indented : goal.returns-in-Indented
returns-in-Indented c = rw c.in-Indented.is

pub returns-in-Mistake : goal.returns-in-Mistake
returns-in-Mistake c = rw c.in-Mistake.is

pub returns-in-Behind : goal.returns-in-Behind
returns-in-Behind c = rw c.in-Behind.is

pub returns-in-Unclosed : goal.returns-in-Unclosed
returns-in-Unclosed c = rw c.in-Unclosed.is

pub returns-in-Quoted : goal.returns-in-Quoted
returns-in-Quoted c = rw c.in-Quoted.is

pub returns-in-Blank : goal.returns-in-Blank
returns-in-Blank c = rw c.in-Blank.is

pub returns-in-Left : goal.returns-in-Left
returns-in-Left c = rw c.in-Left.is

pub returns-in-Shallow : goal.returns-in-Shallow
returns-in-Shallow c = rw c.in-Shallow.is

pub returns-in-Entries : goal.returns-in-Entries
returns-in-Entries c = rw c.in-Entries.is
