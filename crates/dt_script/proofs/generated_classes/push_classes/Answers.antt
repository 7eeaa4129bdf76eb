use Rattle.std.proofs.Common.{◌≡◌, subst, arith}
use Rattle.dt_script.specs.GeneratedLines.{class_line, after_parents}
use Rattle.dt_script.specs.GeneratedLists.{HasFirstParents}
use Rattle.dt_script.proofs.Joined.{on_ok}
use Rattle.dt_script.proofs.WrittenInTurn.{WrittenSoFar, nothing_written, one_more_written, batch_written}
use Rattle.dt_script.proofs.GeneratedKept.{no_parents, one_more_parent}
use Rattle.dt_script.proofs.generated_classes.push_classes.Goals as goal

pub loop-class-init : goal.loop-class-init
loop-class-init c = record {
  written = nothing_written class_line after_parents c.push.new.text.items c.args.draws.now 0;
  firsts = no_parents c.args.draws.now c.args.firsts.now.items c.requires;
}

pub loop-class-preserved : goal.loop-class-preserved
loop-class-preserved c = record {
  written = one_more_written class_line after_parents c.push.new.text.items c.args.draws.now 0 c.loop-class.class c.loop-class.class c.loop-class.text.items c.push_drawn_class.new.text.items
      c.loop-class.draws c.push_drawn_class.new.draws (omega arith) c.in_ok-first.ensures.text c.in_ok-first.ensures.state c.loop-class.invariant.written;
  firsts = one_more_parent c.args.draws.now c.loop-class.class c.in_ok-first.first c.loop-class.draws c.loop-class.firsts.items c.push-in-loop-class.new.self.items
      c.in_ok-push-2.ensures.items c.in_ok-first.ensures.first c.loop-class.invariant.written.state_is c.loop-class.invariant.firsts;
}

pub returns : goal.returns
returns c =
    let all : c.loop-class.class ≡ c.args.size.classes = omega arith in
    let written = subst (λ n. WrittenSoFar class_line after_parents c.push.new.text.items c.args.draws.now 0 n c.loop-class.text.items c.loop-class.draws) all c.loop-class.invariant.written in
    record {
      text = on_ok c.push-2.result c.push-2.ensures (λ is. batch_written class_line after_parents c.args.text.now.items c.push.new.text.items c.loop-class.text.items c.push-2.new.text.items c.args.draws.now 0 c.args.size.classes c.loop-class.draws
          c.in_ok-push.ensures written is);
      state = on_ok c.push-2.result c.push-2.ensures (λ is. written.state_is);
      firsts = on_ok c.push-2.result c.push-2.ensures (λ is. subst (λ n. HasFirstParents c.args.draws.now n c.loop-class.firsts.items) all c.loop-class.invariant.firsts);
    }
