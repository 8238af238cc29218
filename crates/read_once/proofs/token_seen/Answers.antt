use native.Mathlib.Omega.{arith}
use Rattle.read_once.proofs.Names as laws
use borrow.Author.Rules.{rules}
use Rattle.read_once.proofs.token_seen.Goals as goal

pub returns-then-text-i : goal.returns-then-text-i
returns-then-text-i c =
    let a = c.args in
    laws.at_end a.text.now a.i a.mode c.if-text-i.true c.requires.0 c.wrong_at.ensures

pub tag_seen-requires : goal.tag_seen-requires
tag_seen-requires c = (omega (arith, c.if-text-i.false), c.requires.1)

pub id_seen-requires : goal.id_seen-requires
id_seen-requires c = (omega (arith, c.if-text-i.false), c.requires.1)

pub class_seen-requires : goal.class_seen-requires
class_seen-requires c = (omega (arith, c.if-text-i.false), c.requires.1)

pub name_seen-requires : goal.name_seen-requires
name_seen-requires c = (omega (arith, c.if-text-i.false), c.requires.1)

pub returns-in-125 : goal.returns-in-125
returns-in-125 c =
    let a = c.args in
    laws.at_close a.text.now a.i a.mode (omega (arith, c.if-text-i.false)) c.in-125.is c.seen_as.ensures

pub returns-in-58 : goal.returns-in-58
returns-in-58 c =
    let a = c.args in
    laws.at_colon a.text.now a.i a.mode (omega (arith, c.if-text-i.false)) c.in-58.is c.tag_seen.ensures

pub returns-in-35 : goal.returns-in-35
returns-in-35 c =
    let a = c.args in
    laws.at_hash a.text.now a.i a.mode (omega (arith, c.if-text-i.false)) c.in-35.is c.id_seen.ensures

pub returns-in-46 : goal.returns-in-46
returns-in-46 c =
    let a = c.args in
    laws.at_dot a.text.now a.i a.mode (omega (arith, c.if-text-i.false)) c.in-46.is c.class_seen.ensures

pub returns-in_default : goal.returns-in_default
returns-in_default c =
    let a = c.args in let rest = c.in_default.in_default-own.rest in
    laws.at_name a.text.now a.i a.mode (omega (arith, c.if-text-i.false)) rest.0.0.0.1 rest.0.0.1 rest.0.1 rest.1 c.name_seen.ensures
