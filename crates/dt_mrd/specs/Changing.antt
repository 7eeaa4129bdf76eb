-- What the changes of a row's queries, and the turns of the rows to which it leads, make of its cells.
use Rattle.std.specs.Prelude.{ℕ, ◌==◌, Bool, true, false, if◌then◌else◌, List, [], ◌∷◌, get_or, Option, None, Some}
use Rattle.dt_scratch.specs.declared.reply.Change.{Change}
use Rattle.dt_placing.specs.Rows.{is_understood}
use Rattle.dt_mrd.specs.declared.kept_row.Next.{Next}
use Rattle.dt_mrd.specs.declared.kept_row.Next.TheVariants.{Answer as LeadsToAnswer, Row as LeadsToRow}
use Rattle.dt_mrd.specs.declared.turn.Turn.{Turn}
use Rattle.dt_mrd.specs.Placing.{code_of_answer}

-- to what the cell of each class leads
abbrev pub Cells : Type 0
Cells = ℕ → Option Next

-- the class by which a query goes on after so many classes
abbrev pub class_at : List ℕ → ℕ → ℕ
class_at classes depth = get_or classes depth 0

-- the cell of a class leads there
abbrev pub put_at : Cells → ℕ → Option Next → Cells
put_at cells class next other = if other == class then next else cells other

abbrev pub is_answer : Option Next → Bool
is_answer (Some (LeadsToAnswer code)) = true
is_answer _ = false

abbrev pub is_row : Option Next → Bool
is_row (Some (LeadsToRow key)) = true
is_row _ = false

-- the cell has a change's answer, or is gone where it had an answer
abbrev pub change_put : Cells → ℕ → Change → Cells
change_put cells depth change =
    if is_understood change.answer
    then put_at cells (class_at change.query.classes depth) (Some (LeadsToAnswer (code_of_answer change.answer)))
    else (if is_answer (cells (class_at change.query.classes depth)) then put_at cells (class_at change.query.classes depth) None else cells)

abbrev pub changes_put : Cells → ℕ → List Change → Cells
changes_put cells depth [] = cells
changes_put cells depth (change ∷ changes) = changes_put (change_put cells depth change) depth changes

-- the cell leads to the row that had its turn, or is gone where it led to a row
abbrev pub lead_put : Cells → ℕ → Option ℕ → Cells
lead_put cells class (Some key) = put_at cells class (Some (LeadsToRow key))
lead_put cells class None = if is_row (cells class) then put_at cells class None else cells

abbrev pub turn_put : Cells → ℕ → Turn → Cells
turn_put cells depth turn = lead_put cells (class_at turn.query.classes depth) turn.new

abbrev pub turns_put : Cells → ℕ → List Turn → Cells
turns_put cells depth [] = cells
turns_put cells depth (turn ∷ turns) = turns_put (turn_put cells depth turn) depth turns
