use Rattle.std.proofs.Common.{List, length, sym, ◌∙◌, arith}
use Rattle.dt_scratch.specs.Query.{Query}
use Rattle.dt_propagate.specs.Begun.{HasPart, told_part}
use Rattle.dt_propagate.specs.Boxes.{in_turn}
use Rattle.dt_propagate.specs.GoneThrough.{all_selectors}
use Rattle.dt_propagate.proofs.Begun.{up_to_some}
use Rattle.dt_propagate.proofs.MoreThan.{more_than, no_more_if_few}
use Rattle.dt_propagate.proofs.Parts.{part_all}
use Rattle.dt_propagate.proofs.full.kept.Goals as goal

pub returns-in-Some-clause-size : goal.returns-in-Some-clause-size
returns-in-Some-clause-size c =
    let program = c.args.program.now in
    let all : List Query = in_turn (told_part program c.args.part) all_selectors in
    let some = up_to_some c.args.most (length all) c.in-Some.count (sym c.count_part.ensures ∙ c.in-Some.is) in
    λ bounded. no_more_if_few (HasPart program c.args.part) all (part_all program c.law.ensures.lawful c.args.part) c.from-in-Some.result
    (omega (arith, some.0, c.from-in-Some.ensures))

pub returns-in-None-clause-full : goal.returns-in-None-clause-full
returns-in-None-clause-full c =
    let program = c.args.program.now in
    let all : List Query = in_turn (told_part program c.args.part) all_selectors in
    λ none. more_than (HasPart program c.args.part) all (part_all program c.law.ensures.lawful c.args.part) c.args.most
    (sym c.count_part.ensures ∙ c.in-None.is)
