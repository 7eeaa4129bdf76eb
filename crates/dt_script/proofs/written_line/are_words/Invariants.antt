use Rattle.std.proofs.Common.{◌≡◌, length}
use Rattle.std.specs.List.{list_all}
use Rattle.dt_selectors.specs.Names.{is_name}
use Rattle.dt_script.specs.Cut.{parts_at}
use Rattle.dt_script.proofs.written_line.are_words.Given as goal

abbrev pub invariant-loop-rest : goal.invariant-loop-rest
invariant-loop-rest l = list_all is_name (parts_at 32 l.bytes) ≡ list_all is_name (parts_at 32 l.left)

abbrev pub decreases-loop-rest : goal.decreases-loop-rest
decreases-loop-rest l = length (parts_at 32 l.left)
