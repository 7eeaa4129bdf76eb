use Rattle.std.proofs.Common.{refl, sym, ◌∙◌}
use Rattle.dt_script.proofs.Joined.{on_ok}
use Rattle.dt_script.proofs.Built.{takes_edit, takes_begin, takes_commit, takes_caller, takes_line, batches_stay, parts_stay, takes_within}
use Rattle.dt_script.proofs.script_builder.ScriptBuilder.take.Goals as goal

pub returns-in-Edit-clause-taken : goal.returns-in-Edit-clause-taken
returns-in-Edit-clause-taken c =
    let is = sym c.of.ensures ∙ c.in-Edit.is in
    on_ok c.push.result c.push.ensures.edit (λ taken.
    takes_within _ _ _ _ is refl refl (takes_edit _ _ _ _ is taken) (parts_stay _ _ _ _ is (λ more. refl) (λ more. refl) refl)
    )

pub returns-in-Begin-clause-taken : goal.returns-in-Begin-clause-taken
returns-in-Begin-clause-taken c =
    let is = sym c.of.ensures ∙ c.in-Begin.is in
    takes_within _ _ _ _ is refl refl (takes_begin _ _ _ is c.begin.ensures.begun) (parts_stay _ _ _ _ is (λ more. refl) (λ more. refl) refl)

pub returns-in-Commit-clause-taken : goal.returns-in-Commit-clause-taken
returns-in-Commit-clause-taken c =
    let is = sym c.of.ensures ∙ c.in-Commit.is in
    on_ok c.commit.result c.commit.ensures.committed (λ taken.
    takes_within _ _ _ _ is refl refl (takes_commit _ _ _ is taken) (parts_stay _ _ _ _ is (λ more. refl) (λ more. refl) refl)
    )

pub returns-in-Caller-clause-taken : goal.returns-in-Caller-clause-taken
returns-in-Caller-clause-taken c =
    let is = sym c.of.ensures ∙ c.in-Caller.is in
    on_ok c.begin-in-Caller.result c.begin-in-Caller.ensures (λ taken.
    takes_within _ _ _ _ is refl refl (batches_stay _ _ _ _ is (λ inside more. refl) refl) (takes_caller _ _ _ _ is taken)
    )

pub returns-in-CallerLine-clause-taken : goal.returns-in-CallerLine-clause-taken
returns-in-CallerLine-clause-taken c =
    let is = sym c.of.ensures ∙ c.in-CallerLine.is in
    on_ok c.push-in-CallerLine.result c.push-in-CallerLine.ensures (λ taken.
    takes_within _ _ _ _ is refl refl (batches_stay _ _ _ _ is (λ inside more. refl) refl) (takes_line _ _ _ _ is taken)
    )

pub returns-in-Nothing-clause-taken : goal.returns-in-Nothing-clause-taken
returns-in-Nothing-clause-taken c =
    let is = sym c.of.ensures ∙ c.in-Nothing.is in
    takes_within _ _ _ _ is refl refl (batches_stay _ _ _ _ is (λ inside more. refl) refl) (parts_stay _ _ _ _ is (λ more. refl) (λ more. refl) refl)
