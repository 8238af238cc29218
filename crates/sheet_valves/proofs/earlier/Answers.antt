use native.Mathlib.Omega.{arith}
use borrow.Author.Tests.{lt-ltb, le-ltb}
use Rattle.set_table.specs.Types.{max_keys}
use Rattle.sheet_valves.proofs.earlier.Goals as goal

pub returns-then-row-lt-KEYS : goal.returns-then-row-lt-KEYS
returns-then-row-lt-KEYS c = rw (lt-ltb c.args.row max_keys (omega arith))

pub returns : goal.returns
returns c = rw (le-ltb c.args.row max_keys (omega arith))
