use Rattle.std.proofs.Common.{◌≡◌, ℕ, List, Some, None, refl, subst, arith}
use Rattle.std.proofs.lemmas.Bool.{false≢true}
use Rattle.dt_definitions.specs.Parts.{program_of}
use Rattle.dt_definitions.specs.Step.{refusal}
use Rattle.dt_definitions.specs.declared.edit.Edit.TheVariants.{Define}
use Rattle.dt_definitions.specs.Program.{Definition}
use Rattle.dt_definitions.proofs.Steps.{refused, defined_step, memory_due}
use Rattle.dt_definitions.proofs.DefinitionUndo.{has_room, placed_there}
use Rattle.dt_definitions.proofs.parts.Parts.define.Goals as goal

pub returns-in-Some-clause-applies : goal.returns-in-Some-clause-applies
returns-in-Some-clause-applies c =
    let p = program_of c.args.self.now in
    let cause = subst (λ (cs : List ℕ). Some c.in-Some.why ≡ refusal p (Define c.args.selector cs c.args.body))
    c.classes.ensures.value (c.in-Some.ensures c.args.body) in
    rw c.from.ensures (refused p (Define c.args.selector c.args.classes c.args.body) c.in-Some.why cause, refl)

pub returns-clause-applies : goal.returns-clause-applies
returns-clause-applies c =
    let p = program_of c.args.self.now in
    let cause = subst (λ (cs : List ℕ). None ≡ refusal p (Define c.args.selector cs c.args.body))
    c.classes.ensures.value (c.in_default.ensures c.args.body) in
    defined_step p c.args.selector c.args.classes c.args.body c.put.new.self.all cause c.in_ok-put.ensures.ok

pub returns-clause-room : goal.returns-clause-room
returns-clause-room c =
    let d : Definition = record { selector = c.args.selector; classes = c.args.classes; body = c.args.body } in
    has_room c.put.new.self c.args.selector c.args.classes
    (rw c.in_ok-put.ensures.ok (placed_there d c.args.self.now.definitions.all))

pub returns-in_err-put-clause-memory : goal.returns-in_err-put-clause-memory
returns-in_err-put-clause-memory c =
    let p = program_of c.args.self.now in
    let cause = subst (λ (cs : List ℕ). None ≡ refusal p (Define c.args.selector cs c.args.body))
    c.classes.ensures.value (c.in_default.ensures c.args.body) in
    let due = memory_due p c.args.selector c.args.classes c.args.body cause
    (λ there. false≢true (c.in_err-put.ensures.succeeds (has_room c.args.self.now.definitions c.args.selector c.args.classes there))) in
    grind (arith, due)
