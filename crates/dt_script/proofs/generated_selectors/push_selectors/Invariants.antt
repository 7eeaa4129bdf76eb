use Rattle.dt_script.specs.GeneratedLines.{selector_line, after_selector}
use Rattle.dt_script.proofs.WrittenInTurn.{WrittenSoFar}
use Rattle.dt_script.proofs.generated_selectors.push_selectors.Given as goal

abbrev pub invariant-loop-selector : goal.invariant-loop-selector
invariant-loop-selector l = WrittenSoFar selector_line after_selector l.initial.text.items 0 0 l.selector l.text.items 0
