use borrow.Author.Rules.{rules}
use Rattle.block_tokens.proofs.behind_token.Goals as goal

pub returns-in-Bad : goal.returns-in-Bad
returns-in-Bad c = simp c.in-Bad.is

pub returns-in-Tag : goal.returns-in-Tag
returns-in-Tag c = simp c.in-Tag.is

pub returns-in-Id : goal.returns-in-Id
returns-in-Id c = simp c.in-Id.is

pub returns-in-Class : goal.returns-in-Class
returns-in-Class c = simp c.in-Class.is

pub returns-in-Plain : goal.returns-in-Plain
returns-in-Plain c = simp c.in-Plain.is

pub returns-in-Quoted : goal.returns-in-Quoted
returns-in-Quoted c = simp c.in-Quoted.is

pub returns-in-Bare : goal.returns-in-Bare
returns-in-Bare c = simp c.in-Bare.is
