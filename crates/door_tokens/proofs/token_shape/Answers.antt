use borrow.Author.Rules.{rules}
use Rattle.door_tokens.proofs.token_shape.Goals as goal

pub returns-in-Bad : goal.returns-in-Bad
returns-in-Bad c = rw c.in-Bad.is

pub returns-in-Tag : goal.returns-in-Tag
returns-in-Tag c = rw c.in-Tag.is

pub returns-in-Id : goal.returns-in-Id
returns-in-Id c = rw c.in-Id.is

pub returns-in-Class : goal.returns-in-Class
returns-in-Class c = rw c.in-Class.is

pub returns-in-Plain : goal.returns-in-Plain
returns-in-Plain c = rw c.in-Plain.is

pub returns-in-Quoted : goal.returns-in-Quoted
returns-in-Quoted c = rw c.in-Quoted.is

pub returns-in-Bare : goal.returns-in-Bare
returns-in-Bare c = rw c.in-Bare.is
