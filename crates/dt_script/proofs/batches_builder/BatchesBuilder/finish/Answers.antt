use Rattle.std.proofs.Common.{◌++◌, [], ap, sym, ◌∙◌}
use Rattle.dt_script.specs.ScriptBuilder.{batches_on}
use Rattle.dt_script.proofs.Built.{closed_last}
use Rattle.dt_script.proofs.batches_builder.BatchesBuilder.finish.Goals as goal

pub returns-in_ok-push-in-Some : goal.returns-in_ok-push-in-Some
returns-in_ok-push-in-Some c =
    c.in_ok-push-in-Some.ensures.items ∙ closed_last c.args.self.closed.items c.in-Some.batch (sym c.is_empty.ensures ∙ c.if-not-is_empty.true)
    ∙ ap (λ batches. c.args.self.closed.items ++ batches_on batches []) (sym c.in-Some.is)
