use Rattle.std.proofs.Common.{◌≡◌, Ok, Err, ap, subst, sym, ◌∙◌}
use Rattle.dt_definitions.specs.Program.{Program}
use Rattle.dt_definitions.specs.Lawful.{Lawful}
use Rattle.dt_definitions.specs.Step.{step_batch}
use Rattle.dt_tables.specs.Commit.{Commits}
use Rattle.dt_tables.specs.Words.{WithTable}
use Rattle.dt_tables.specs.declared.commit_fault.CommitFault.{CommitFault}
use Rattle.dt_tables.proofs.Commit.{commits_within, commits_full}
use Rattle.dt_tables.proofs.tabled.Tabled.commit.Goals as goal

pub returns-in-Ok-clause-program : goal.returns-in-Ok-clause-program
returns-in-Ok-clause-program g c =
    let accepted : step_batch c.args.self.now.program c.args.batch.now ≡ Ok c.try_batch.new.self.tried =
    ap (λ (p : Program). step_batch p c.args.batch.now) (sym (ap (λ (t : WithTable). t.program) c.self.view_is))
    ∙ ap (step_batch c.self.inside.programs.stands) (sym c.in_ok-copy.ensures) ∙ c.in_ok-try_batch.ensures.applies in
    commits_within c.limits_are_counted.ensures.cells c.limits_are_counted.ensures.rows c.args.self.now.program c.try_batch.new.self.tried c.args.batch.now
    (subst Lawful c.tried.ensures c.law.ensures.lawful) accepted c.in-Ok.ensures.within
    ∙ ap (λ (p : Program). Ok p) (sym c.accept.ensures.0)

pub returns-in-Err-clause-program : goal.returns-in-Err-clause-program
returns-in-Err-clause-program g c =
    let accepted : step_batch c.args.self.now.program c.args.batch.now ≡ Ok c.try_batch.new.self.tried =
    ap (λ (p : Program). step_batch p c.args.batch.now) (sym (ap (λ (t : WithTable). t.program) c.self.view_is))
    ∙ ap (step_batch c.self.inside.programs.stands) (sym c.in_ok-copy.ensures) ∙ c.in_ok-try_batch.ensures.applies in
    subst (λ (fault : CommitFault). Commits c.args.self.now.program c.args.batch.now c.refuse.new.self.stands (Err fault)) (sym c.from.ensures)
    (commits_full c.limits_are_counted.ensures.cells c.limits_are_counted.ensures.rows c.args.self.now.program c.try_batch.new.self.tried c.refuse.new.self.stands c.args.batch.now
    (subst Lawful c.tried.ensures c.law.ensures.lawful) accepted
    (c.refuse.ensures.0 ∙ c.in_ok-try_batch.ensures.stays ∙ ap (λ (t : WithTable). t.program) c.self.view_is) c.in-Err.fault c.in-Err.ensures.full)
