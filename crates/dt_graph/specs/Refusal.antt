-- How a change is refused: its causes stand in a fixed order, and the first that holds is the answer.
use Rattle.std.specs.Prelude.{Bool, if◌then◌else◌, List, [], ◌∷◌, Option, None, Some, Result, Ok, Err}

-- the cause, where the test holds
abbrev pub cause_if : {F : Type 0} → Bool → F → Option F
cause_if test cause = if test then Some cause else None

-- the first cause that is there
abbrev pub first_cause : {F : Type 0} → List (Option F) → Option F
first_cause [] = None
first_cause (None ∷ causes) = first_cause causes
first_cause (Some cause ∷ causes) = Some cause

-- refused by the cause, or else Ok with the value
abbrev pub ok_unless : {F T : Type 0} → Option F → T → Result T F
ok_unless None value = Ok value
ok_unless (Some cause) value = Err cause
