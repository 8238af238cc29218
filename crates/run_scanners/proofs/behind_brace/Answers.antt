use Rattle.std.proofs.Common.{◌≡◌, ◌+◌, rules, MatchOption}
use Rattle.std.proofs.iter.runs.Made.{chains}
use Rattle.base_bytes.specs.Bytes.{open_brace}
use Rattle.run_scanners.proofs.Quick as laws
use Rattle.run_scanners.proofs.behind_brace.Goals as goal

pub returns : goal.returns
returns c =
    let e : laws.IsLast open_brace c.args.s.now c.rposition.result = search (rules, chains) in
    let q : MatchOption c.rposition.result (c.map_or.result ≡ 0) (λ i. c.map_or.result ≡ i + 1) = search (rules, chains) in
    laws.brace_found _ _ e q
