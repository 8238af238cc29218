use Rattle.std.proofs.Common.{◌≡◌, ◌+◌, ◌-◌, take, rules, MatchOption}
use Rattle.std.proofs.iter.runs.Made.{chains}
use Rattle.run_scanners.proofs.Quick.{IsLast}
use Rattle.run_endings.proofs.Upwards as laws
use Rattle.run_endings.proofs.line_start.Goals as goal

pub returns : goal.returns
returns c =
    let e : IsLast 10 (take (c.args.at - 1) c.args.text.now) c.rposition.result = search (rules, chains) in
    let q : MatchOption c.rposition.result (c.map_or.result ≡ 0) (λ i. c.map_or.result ≡ i + 1) = search (rules, chains) in
    laws.climb_found (laws.climb_start _ _ c.requires.0 c.requires.1.0 c.requires.1.1) _ e q
