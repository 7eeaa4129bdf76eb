use Rattle.std.proofs.Common.{arith}
use Rattle.dt_script.specs.GeneratedLines.{definition_line, after_definition}
use Rattle.dt_script.proofs.WrittenInTurn.{nothing_written, one_more_written}
use Rattle.dt_script.proofs.GeneratedKept.{no_tuples, one_more_tuple}
use Rattle.dt_script.proofs.generated_definitions.push_definitions.Goals as goal

pub loop-number-init : goal.loop-number-init
loop-number-init c = record {
  written = nothing_written (definition_line c.args.size.classes c.args.size.selectors) (after_definition c.args.size.selectors) c.args.text.now.items c.args.draws.now 0;
  tuples = no_tuples c.args.size.classes c.args.size.selectors c.args.draws.now c.args.tuples.now.items c.requires;
}

pub loop-number-preserved : goal.loop-number-preserved
loop-number-preserved c = record {
  written = one_more_written (definition_line c.args.size.classes c.args.size.selectors) (after_definition c.args.size.selectors) c.args.text.now.items c.args.draws.now 0
      c.loop-number.number c.loop-number.number c.loop-number.text.items c.push_definition.new.text.items c.loop-number.draws c.push_definition.new.draws
      (omega arith) c.in_ok-classes.ensures.text c.in_ok-classes.ensures.state c.loop-number.invariant.written;
  tuples = one_more_tuple c.args.size.classes c.args.size.selectors c.args.draws.now c.loop-number.number c.loop-number.draws c.in_ok-classes.classes c.loop-number.tuples.items c.push.new.self.items
      c.in_ok-push.ensures.items c.in_ok-classes.ensures.classes c.loop-number.invariant.written.state_is c.loop-number.invariant.tuples;
}
