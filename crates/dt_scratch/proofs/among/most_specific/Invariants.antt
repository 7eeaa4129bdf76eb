use Rattle.std.proofs.Common.{take}
use Rattle.std.specs.Option.{option_copied}
use Rattle.dt_scratch.specs.Among.{applicable_among}
use Rattle.dt_scratch.proofs.AnswerAmong.{IsBest}
use Rattle.dt_scratch.proofs.among.most_specific.Given as goal

abbrev pub invariant-loop-defined : goal.invariant-loop-defined
invariant-loop-defined l =
    IsBest l.graph.links (applicable_among l.graph.links l.classes (take l.defined-index l.definitions)) (option_copied l.best) l.is_lowest
