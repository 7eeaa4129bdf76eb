use Rattle.std.proofs.Common.{◌≡◌, sym, subst}
use Rattle.std.specs.Prelude.{IfSome}
use Rattle.dt_definitions.specs.Program.{Program}
use Rattle.dt_tables.specs.declared.commit_fault.CommitFault.TheVariants as fault
use Rattle.dt_run.proofs.CommittedLine.{line_of_commit, stays_at, told_with}
use Rattle.dt_run.proofs.perform.current.Current.apply.Goals as goal

pub invariant_of-self-in-Err-Refused : goal.invariant_of-self-in-Err-Refused
invariant_of-self-in-Err-Refused g c =
    let told = told_with c.self.inside.version _ _ _ c.in-Err-Refused.field-0 (fault.Refused c.in-Err-Refused.at c.in-Err-Refused.why) c.in-Err-Refused.field-0-is (c.in-Err-Refused.ensures c.self.inside.version) in
    subst (λ (p : Program). IfSome c.self.inside.copy (λ kept. kept.value ≡ record { version = c.self.inside.version; program = p }))
    (sym told.0) c.self.invariant

pub invariant_of-self-in-Err-CellsFull : goal.invariant_of-self-in-Err-CellsFull
invariant_of-self-in-Err-CellsFull g c =
    let told = told_with c.self.inside.version _ _ _ c.in-Err-CellsFull.field-0 (fault.CellsFull) c.in-Err-CellsFull.field-0-is (c.in-Err-CellsFull.ensures c.self.inside.version) in
    subst (λ (p : Program). IfSome c.self.inside.copy (λ kept. kept.value ≡ record { version = c.self.inside.version; program = p }))
    (sym told.0) c.self.invariant

pub invariant_of-self-in-Err-RowsFull : goal.invariant_of-self-in-Err-RowsFull
invariant_of-self-in-Err-RowsFull g c =
    let told = told_with c.self.inside.version _ _ _ c.in-Err-RowsFull.field-0 (fault.RowsFull) c.in-Err-RowsFull.field-0-is (c.in-Err-RowsFull.ensures c.self.inside.version) in
    subst (λ (p : Program). IfSome c.self.inside.copy (λ kept. kept.value ≡ record { version = c.self.inside.version; program = p }))
    (sym told.0) c.self.invariant

pub invariant_of-self-in-Err-NoMemory : goal.invariant_of-self-in-Err-NoMemory
invariant_of-self-in-Err-NoMemory g c =
    let told = told_with c.self.inside.version _ _ _ c.in-Err-NoMemory.field-0 (fault.NoMemory) c.in-Err-NoMemory.field-0-is (c.in-Err-NoMemory.ensures c.self.inside.version) in
    subst (λ (p : Program). IfSome c.self.inside.copy (λ kept. kept.value ≡ record { version = c.self.inside.version; program = p }))
    (sym told) c.self.invariant

pub returns-in-Err-Refused-clause-line : goal.returns-in-Err-Refused-clause-line
returns-in-Err-Refused-clause-line g c =
    let told = told_with c.self.inside.version _ _ _ c.in-Err-Refused.field-0 (fault.Refused c.in-Err-Refused.at c.in-Err-Refused.why) c.in-Err-Refused.field-0-is (c.in-Err-Refused.ensures c.self.inside.version) in
    rw (← c.self.view_is) (line_of_commit c.args.limit _ _ _ _ _ c.if-self-limit.false told.1)

pub returns-in-Err-Refused-clause-version : goal.returns-in-Err-Refused-clause-version
returns-in-Err-Refused-clause-version g c =
    let told = told_with c.self.inside.version _ _ _ c.in-Err-Refused.field-0 (fault.Refused c.in-Err-Refused.at c.in-Err-Refused.why) c.in-Err-Refused.field-0-is (c.in-Err-Refused.ensures c.self.inside.version) in
    rw (← c.self.view_is) (stays_at c.args.limit _ _ _ _ _ c.if-self-limit.false told.0 told.1)

pub returns-in-Err-CellsFull-clause-line : goal.returns-in-Err-CellsFull-clause-line
returns-in-Err-CellsFull-clause-line g c =
    let told = told_with c.self.inside.version _ _ _ c.in-Err-CellsFull.field-0 (fault.CellsFull) c.in-Err-CellsFull.field-0-is (c.in-Err-CellsFull.ensures c.self.inside.version) in
    rw (← c.self.view_is) (line_of_commit c.args.limit _ _ _ _ _ c.if-self-limit.false told.1)

pub returns-in-Err-CellsFull-clause-version : goal.returns-in-Err-CellsFull-clause-version
returns-in-Err-CellsFull-clause-version g c =
    let told = told_with c.self.inside.version _ _ _ c.in-Err-CellsFull.field-0 (fault.CellsFull) c.in-Err-CellsFull.field-0-is (c.in-Err-CellsFull.ensures c.self.inside.version) in
    rw (← c.self.view_is) (stays_at c.args.limit _ _ _ _ _ c.if-self-limit.false told.0 told.1)

pub returns-in-Err-RowsFull-clause-line : goal.returns-in-Err-RowsFull-clause-line
returns-in-Err-RowsFull-clause-line g c =
    let told = told_with c.self.inside.version _ _ _ c.in-Err-RowsFull.field-0 (fault.RowsFull) c.in-Err-RowsFull.field-0-is (c.in-Err-RowsFull.ensures c.self.inside.version) in
    rw (← c.self.view_is) (line_of_commit c.args.limit _ _ _ _ _ c.if-self-limit.false told.1)

pub returns-in-Err-RowsFull-clause-version : goal.returns-in-Err-RowsFull-clause-version
returns-in-Err-RowsFull-clause-version g c =
    let told = told_with c.self.inside.version _ _ _ c.in-Err-RowsFull.field-0 (fault.RowsFull) c.in-Err-RowsFull.field-0-is (c.in-Err-RowsFull.ensures c.self.inside.version) in
    rw (← c.self.view_is) (stays_at c.args.limit _ _ _ _ _ c.if-self-limit.false told.0 told.1)
