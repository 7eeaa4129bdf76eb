use Rattle.std.proofs.Common.{rules, ◌<◌, get_or, subst}
use Rattle.dt_scratch.specs.Query.{LawfulQuery}
use Rattle.dt_scratch.proofs.QueryNumbers.{four_below, lawful_query}
use Rattle.dt_scratch.proofs.query.Query.law.Goals as goal

pub returns : goal.returns
returns c =
    let positions = c.self.inside.positions in
    let selector : c.self.inside.selector < 65536 = search rules in
    let first : get_or c.self.inside.positions 0 0 < 65536 = search rules in
    let second : get_or c.self.inside.positions 1 0 < 65536 = search rules in
    let third : get_or c.self.inside.positions 2 0 < 65536 = search rules in
    let fourth : get_or c.self.inside.positions 3 0 < 65536 = search rules in
    subst LawfulQuery c.self.view_is
    (lawful_query c.self.inside.selector c.self.inside.arity positions c.self.invariant selector
    (four_below 65536 positions c.self.told first second third fourth))
