use native.Mathlib.Omega.{arith}
use borrow.Author.Tests.{lt-ltb, le-ltb}
use Rattle.set_table.specs.Types.{max_keys}
use Rattle.sheet_valves.proofs.say_without.Goals as goal

pub returns-then-wheel-lt-KEYS : goal.returns-then-wheel-lt-KEYS
returns-then-wheel-lt-KEYS c = rw (lt-ltb c.args.wheel max_keys (omega arith))

pub returns-then-valve-lt-KEYS : goal.returns-then-valve-lt-KEYS
returns-then-valve-lt-KEYS c = let p = c.args in rw (le-ltb p.wheel max_keys (omega arith), lt-ltb p.valve max_keys (omega arith))

pub returns : goal.returns
returns c = let p = c.args in rw (le-ltb p.wheel max_keys (omega arith), le-ltb p.valve max_keys (omega arith))
