-- Worked examples of where a batch says that it makes a difference, and of the laws of batches and histories.
use Rattle.std.specs.Prelude.{◌≡◌, true, false, List, [], ◌∷◌, refl}
use Rattle.dt_definitions.specs.Program.{Program, empty_program}
use Rattle.dt_definitions.specs.Step.{stepped, after}
use Rattle.dt_definitions.specs.Differing.{DifferOnlyAt, is_at_any, edited_classes, redefined_keys}
use Rattle.dt_definitions.specs.BatchLaws.{BatchesDifferWhereTheySay, HistoriesGoOnByOne}
use Rattle.dt_definitions.specs.declared.edit.Edit.{Edit}
use Rattle.dt_definitions.specs.declared.edit.Edit.TheVariants as edit
use Rattle.dt_definitions.specs.Examples.{at, circle, draw, shape, square}

-- a class comes, gets a link, and is drawn
abbrev some_edits : List Edit
some_edits =
    edit.AddClass circle [] ∷ edit.Link circle shape ∷ edit.AddSelector draw 1 ∷ edit.Define draw (circle ∷ []) 10 ∷ []

the_class_twice : edited_classes some_edits ≡ circle ∷ circle ∷ []
the_class_twice = refl

one_key : redefined_keys some_edits ≡ record { selector = draw; classes = circle ∷ [] } ∷ []
one_key = refl

the_circle_is_redefined : is_at_any (redefined_keys some_edits) (at draw circle 30) ≡ true
the_circle_is_redefined = refl

the_square_is_not : is_at_any (redefined_keys some_edits) (at draw square 30) ≡ false
the_square_is_not = refl

-- a program of shapes, to which squares come
abbrev shapes : Program
shapes = stepped empty_program (edit.AddClass shape [] ∷ [])

abbrev squares_come : List Edit
squares_come = edit.AddClass square (shape ∷ []) ∷ []

only_squares : BatchesDifferWhereTheySay → DifferOnlyAt (square ∷ []) [] shapes (stepped shapes squares_come)
only_squares law = law shapes (stepped shapes squares_come) squares_come refl

-- that no link differs would be wrong
squares_do_differ : DifferOnlyAt [] [] shapes (stepped shapes squares_come) → ⊥
squares_do_differ differ = let there : false ≡ true = differ.links square shape refl in cc

one_batch_more : HistoriesGoOnByOne →
    after ((edit.AddClass shape [] ∷ []) ∷ squares_come ∷ []) ≡ stepped shapes squares_come
one_batch_more law = law ((edit.AddClass shape [] ∷ []) ∷ []) squares_come
