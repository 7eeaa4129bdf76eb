use Rattle.std.proofs.Common.{◌≡◌, ◌+◌, ◌≤◌, get_or, ap, ◌∙◌, length, arith}
use Rattle.std.proofs.lemmas.List.{length-replicate}
use Rattle.dt_run.proofs.perform.perform_all.Goals as goal

pub perform_phases-requires-clause-fits : goal.perform_phases-requires-clause-fits
perform_phases-requires-clause-fits g c κs within = λ k d inside. λ j e here.
    let one : (get_or (get_or c.args.phases.now k d).callers j e).caller ≤ c.args.readers = (c.requires.fits k d inside j e here).1 in
    let size : length c.deref_mut.result.now ≡ c.args.readers + 1 =
    ap length (c.deref_mut.ensures.value ∙ c.in_ok-callers.ensures) ∙ length-replicate (c.args.readers + 1) _ in
    omega (arith, one, size)
