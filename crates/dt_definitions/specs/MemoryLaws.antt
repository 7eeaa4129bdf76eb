-- Laws of want of memory: which edits take it, and that the clauses of memory say no more and no less.
use Rattle.std.specs.Prelude.{◌≡◌, ◌+◌, Bool, false, IsTrue, length, Ok, Err}
use Rattle.dt_definitions.specs.Program.{Program}
use Rattle.dt_definitions.specs.Lawful.{Lawful}
use Rattle.dt_definitions.specs.Step.{step_edit}
use Rattle.dt_definitions.specs.Memory.{may_want_memory, NoMemoryOnlyWhere, BatchNoMemoryOnlyWhere}
use Rattle.dt_definitions.specs.AnswerLaws.{EditAnswer, BatchAnswer, IsDecided, IsDecidedBatch}
use Rattle.dt_definitions.specs.declared.edit.Edit.{Edit}
use Rattle.dt_definitions.specs.declared.why.Why.{Why}

-- an edit that is accepted takes memory where it leaves one definition more
abbrev pub OneMoreTakesMemory : Type 0
OneMoreTakesMemory = (p q : Program) (edit : Edit) → Lawful p → step_edit p edit ≡ Ok q
    → length q.definitions ≡ length p.definitions + 1 → IsTrue (may_want_memory p edit)

-- and nowhere else
abbrev pub MemoryIsForOneMore : Type 0
MemoryIsForOneMore = (p q : Program) (edit : Edit) → step_edit p edit ≡ Ok q → IsTrue (may_want_memory p edit)
    → length q.definitions ≡ length p.definitions + 1

-- an edit that is refused takes none
abbrev pub RefusedEditsTakeNone : Type 0
RefusedEditsTakeNone = (p : Program) (edit : Edit) (why : Why) → step_edit p edit ≡ Err why → may_want_memory p edit ≡ false

-- where the test fails, the answer of an edit isn't want of memory
abbrev pub WithoutTheTestDecided : Type 0
WithoutTheTestDecided = (answer : EditAnswer) → NoMemoryOnlyWhere false answer → IsDecided answer

-- and nor is that of a batch
abbrev pub WithoutTheTestDecidedBatch : Type 0
WithoutTheTestDecidedBatch = (answer : BatchAnswer) → BatchNoMemoryOnlyWhere false answer → IsDecidedBatch answer

-- an edit's answer that isn't want of memory is free of the test
abbrev pub DecidedIsFree : Type 0
DecidedIsFree = (test : Bool) (answer : EditAnswer) → IsDecided answer → NoMemoryOnlyWhere test answer

-- and so is a batch's
abbrev pub DecidedBatchIsFree : Type 0
DecidedBatchIsFree = (test : Bool) (answer : BatchAnswer) → IsDecidedBatch answer → BatchNoMemoryOnlyWhere test answer
