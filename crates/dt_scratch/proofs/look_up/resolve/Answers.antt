use Rattle.std.proofs.Common.{sym, ◌∙◌}
use Rattle.dt_scratch.proofs.Parts.{answered_reply}
use Rattle.dt_scratch.proofs.look_up.resolve.Goals as goal

pub returns-in-Ok : goal.returns-in-Ok
returns-in-Ok c =
    answered_reply c.args.program.now c.args.query.now c.graph-in-Ok.result.now c.in-Some.selector c.in-Some-arity.arity c.deref.result.now
    c.definitions_of.result.now c.answer_among.result
    (record {
      of_graph = sym c.graph-in-Ok.ensures;
      of_selector = c.in-Some.ensures.1 ∙ c.selector.ensures;
      of_classes = sym (c.deref.ensures.0 ∙ c.in-Ok.ensures.0);
      live = c.in-Some-arity.ensures;
      fits = cc;
      all_live = rw c.graph.ensures at c.in-Ok.ensures.1;
      all_found = c.definitions_of.ensures;
      answers = c.answer_among.ensures.among c.in-Some.selector;
    })
