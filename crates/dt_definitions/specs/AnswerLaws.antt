-- Laws of the answers of edits and batches: what an answer tells, and that there is one and no other.
use Rattle.std.specs.Prelude.{◌≡◌, ℕ, ◌+◌, List, [], ◌∷◌, ◌++◌, length, None, Some, Result, Ok, Err}
use Rattle.dt_definitions.specs.Program.{Program}
use Rattle.dt_definitions.specs.Step.{refusal, effect, after, after_from, Applies, AppliesBatch, fault_at}
use Rattle.dt_definitions.specs.declared.edit.Edit.{Edit}
use Rattle.dt_definitions.specs.declared.why.Why.{Why}
use Rattle.dt_definitions.specs.declared.why.ApplyFault.{ApplyFault}
use Rattle.dt_definitions.specs.declared.why.ApplyFault.TheVariants as apply_fault
use Rattle.dt_definitions.specs.declared.why.BatchFault.{BatchFault}
use Rattle.dt_definitions.specs.declared.why.BatchFault.TheVariants as batch_fault

-- what an edit is answered
abbrev pub EditAnswer : Type 0
EditAnswer = Result (Unit {0}) ApplyFault

-- what a batch is answered
abbrev pub BatchAnswer : Type 0
BatchAnswer = Result (Unit {0}) BatchFault

-- the answer of an edit isn't want of memory
abbrev pub IsDecided : EditAnswer → Type 0
IsDecided answer = answer ≡ Err apply_fault.NoMemory → ⊥

-- the answer of a batch isn't want of memory
abbrev pub IsDecidedBatch : BatchAnswer → Type 0
IsDecidedBatch answer = answer ≡ Err batch_fault.NoMemory → ⊥

-- ---- edits

-- an edit has one answer and leaves one program, but for want of memory
abbrev pub EditsHaveOneAnswer : Type 0
EditsHaveOneAnswer = (old p q : Program) (edit : Edit) (a b : EditAnswer)
    → IsDecided a → IsDecided b → Applies old edit p a → Applies old edit q b → (a ≡ b) × (p ≡ q)

-- and it has such an answer
abbrev pub EditsHaveAnAnswer : Type 0
EditsHaveAnAnswer = (old : Program) (edit : Edit)
    → (new : Program) × (answer : EditAnswer) × IsDecided answer × Applies old edit new answer

-- at Ok no cause of a refusal holds, and the program is the one that the edit makes
abbrev pub OkHasNoCause : Type 0
OkHasNoCause = (old new : Program) (edit : Edit)
    → Applies old edit new (Ok tt) → (refusal old edit ≡ None) × (new ≡ effect old edit)

-- a refusal is the first cause that holds
abbrev pub RefusalsAreTheFirstCause : Type 0
RefusalsAreTheFirstCause = (old new : Program) (edit : Edit) (why : Why)
    → Applies old edit new (Err (apply_fault.Refused why)) → refusal old edit ≡ Some why

-- at every other answer than Ok the program is as it was
abbrev pub OkAloneChanges : Type 0
OkAloneChanges = (old new : Program) (edit : Edit) (fault : ApplyFault) → Applies old edit new (Err fault) → new ≡ old

-- ---- batches

-- a batch has one answer and leaves one program, but for want of memory
abbrev pub BatchesHaveOneAnswer : Type 0
BatchesHaveOneAnswer = (old p q : Program) (edits : List Edit) (a b : BatchAnswer)
    → IsDecidedBatch a → IsDecidedBatch b → AppliesBatch old edits p a → AppliesBatch old edits q b → (a ≡ b) × (p ≡ q)

-- and it has such an answer
abbrev pub BatchesHaveAnAnswer : Type 0
BatchesHaveAnAnswer = (old : Program) (edits : List Edit)
    → (new : Program) × (answer : BatchAnswer) × IsDecidedBatch answer × AppliesBatch old edits new answer

-- at every other answer than Ok the program is as it was before the batch
abbrev pub OkAloneChangesByBatch : Type 0
OkAloneChangesByBatch = (old new : Program) (edits : List Edit) (fault : BatchFault)
    → AppliesBatch old edits new (Err fault) → new ≡ old

-- the answer of a batch whose edit at this place has the answer
abbrev pub answer_at : ℕ → EditAnswer → BatchAnswer
answer_at place (Ok _) = Ok tt
answer_at place (Err fault) = Err (fault_at place fault)

-- a batch of one edit is answered as its edit is, at place 1
abbrev pub OneEditIsABatch : Type 0
OneEditIsABatch = (old new : Program) (edit : Edit) (answer : EditAnswer)
    → Applies old edit new answer → AppliesBatch old (edit ∷ []) new (answer_at 1 answer)

-- a batch that is accepted goes on with one more edit: where that is accepted too, to the program that it leaves
abbrev pub BatchesGoOn : Type 0
BatchesGoOn = (old reached new : Program) (edits : List Edit) (edit : Edit)
    → AppliesBatch old edits reached (Ok tt) → Applies reached edit new (Ok tt) → AppliesBatch old (edits ++ edit ∷ []) new (Ok tt)

-- and where that is refused, the whole is refused at its place, and nothing is kept
abbrev pub BatchesEnd : Type 0
BatchesEnd = (old reached : Program) (edits : List Edit) (edit : Edit) (why : Why)
    → AppliesBatch old edits reached (Ok tt) → Applies reached edit reached (Err (apply_fault.Refused why))
    → AppliesBatch old (edits ++ edit ∷ []) old (Err (batch_fault.Refused (length edits + 1) why))

-- a batch that is refused is refused so whatever edits come after
abbrev pub LaterEditsDontCount : Type 0
LaterEditsDontCount = (old new : Program) (edits more : List Edit) (at : ℕ) (why : Why)
    → AppliesBatch old edits new (Err (batch_fault.Refused at why))
    → AppliesBatch old (edits ++ more) new (Err (batch_fault.Refused at why))

-- ---- histories

-- batches after batches
abbrev pub HistoriesGoOn : Type 0
HistoriesGoOn = (history more : List (List Edit)) → after (history ++ more) ≡ after_from (after history) more

-- the program after a history is the one that its last batch left, accepted or refused, applied to the program before it
abbrev pub BatchesMakeHistories : Type 0
BatchesMakeHistories = (history : List (List Edit)) (batch : List Edit) (new : Program) (answer : BatchAnswer)
    → IsDecidedBatch answer → AppliesBatch (after history) batch new answer → after (history ++ batch ∷ []) ≡ new
