use native.Mathlib.Omega.{arith}
use Rattle.read_once.proofs.Gaps as gaps
use Rattle.read_once.proofs.Moves as moves
use borrow.Author.Rules.{rules}
use Rattle.read_once.proofs.token_move.Reads as reads
use Rattle.read_once.proofs.token_move.Lts as lts
use Rattle.read_once.proofs.gap_end.Reads as gap-end-reads
use Rattle.read_once.proofs.named.Reads as named-reads
use Rattle.read_once.proofs.put.Reads as put_reads
use Rattle.read_once.proofs.stop.Reads as stop-reads
use Rattle.read_once.proofs.token_seen.Reads as token-seen-reads
use Rattle.read_once.proofs.token_move.Goals as goal

-- src/lib.rt:485:9
pub token_seen-s-requires : goal.token_seen-s-requires
token_seen-s-requires c = ((gaps.gap_within c.args.mode c.args.text.now c.args.i c.gap_end-a.ensures c.requires.0).1, c.requires.1)

-- src/lib.rt:496:55
pub overflow_add-k : goal.overflow_add-k
overflow_add-k c = omega (arith, c.token_seen-s.ensures.looks.within, moves.plain_spans c.args.mode c.args.text.now c.requires.0 c.gap_end-a.ensures c.token_seen-s.ensures c.in-Plain.is)

-- src/lib.rt:496:24
pub named-requires : goal.named-requires
named-requires c = moves.plain_spans c.args.mode c.args.text.now c.requires.0 c.gap_end-a.ensures c.token_seen-s.ensures c.in-Plain.is

-- src/lib.rt:497:57
pub overflow_add-k-in-Quoted : goal.overflow_add-k-in-Quoted
overflow_add-k-in-Quoted c = omega (arith, c.token_seen-s.ensures.looks.within, (moves.quoted_spans c.args.mode c.args.text.now c.requires.0 c.gap_end-a.ensures c.token_seen-s.ensures c.in-Quoted.is).0.low)

-- src/lib.rt:497:64
pub overflow_sub-e : goal.overflow_sub-e
overflow_sub-e c = omega (arith, (moves.quoted_spans c.args.mode c.args.text.now c.requires.0 c.gap_end-a.ensures c.token_seen-s.ensures c.in-Quoted.is).0.low)

-- src/lib.rt:497:25
pub named-requires-in-Quoted : goal.named-requires-in-Quoted
named-requires-in-Quoted c = moves.quoted_spans c.args.mode c.args.text.now c.requires.0 c.gap_end-a.ensures c.token_seen-s.ensures c.in-Quoted.is

-- src/lib.rt:498:23
pub named-requires-in-Bare : goal.named-requires-in-Bare
named-requires-in-Bare c = moves.bare_spans c.args.mode c.args.text.now c.requires.0 c.gap_end-a.ensures c.token_seen-s.ensures c.in-Bare.is

-- src/lib.rt:480:1
pub returns-in-Close : goal.returns-in-Close
returns-in-Close c = moves.closing c.args.mode c.args.text.now c.requires.0 c.gap_end-a.ensures c.token_seen-s.ensures c.in-Close.is c.stop.ensures

-- src/lib.rt:480:1
pub returns-in-Wrong : goal.returns-in-Wrong
returns-in-Wrong c = moves.wrong c.args.mode c.args.text.now c.requires.0 c.gap_end-a.ensures c.token_seen-s.ensures c.in-Wrong.is c.stop-in-Wrong.ensures

-- src/lib.rt:480:1
pub returns-in-Tag : goal.returns-in-Tag
returns-in-Tag c = moves.tag c.args.mode c.args.text.now c.requires.0 c.gap_end-a.ensures c.token_seen-s.ensures c.in-Tag.is c.put.ensures

-- src/lib.rt:480:1
pub returns-in-Id : goal.returns-in-Id
returns-in-Id c = moves.id c.args.mode c.args.text.now c.requires.0 c.gap_end-a.ensures c.token_seen-s.ensures c.in-Id.is c.put-in-Id.ensures

-- src/lib.rt:480:1
pub returns-in-Class : goal.returns-in-Class
returns-in-Class c = moves.class c.args.mode c.args.text.now c.requires.0 c.gap_end-a.ensures c.token_seen-s.ensures c.in-Class.is c.put-in-Class.ensures

-- src/lib.rt:480:1
pub returns-in-Plain : goal.returns-in-Plain
returns-in-Plain c = moves.plain c.args.mode c.args.text.now c.requires.0 c.gap_end-a.ensures c.token_seen-s.ensures c.in-Plain.is c.named.ensures

-- src/lib.rt:480:1
pub returns-in-Quoted : goal.returns-in-Quoted
returns-in-Quoted c = moves.quoted c.args.mode c.args.text.now c.requires.0 c.gap_end-a.ensures c.token_seen-s.ensures c.in-Quoted.is c.named-in-Quoted.ensures

-- src/lib.rt:480:1
pub returns-in-Bare : goal.returns-in-Bare
returns-in-Bare c = moves.bare c.args.mode c.args.text.now c.requires.0 c.gap_end-a.ensures c.token_seen-s.ensures c.in-Bare.is c.named-in-Bare.ensures
