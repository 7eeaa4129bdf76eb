-- Worked examples of programs: the diamond, edits of it, and batches that are refused.
use Rattle.std.specs.Prelude.{◌≡◌, ℕ, List, [], ◌∷◌, replicate, Ok, Err, refl}
use Rattle.dt_graph.specs.Graph.{Link}
use Rattle.dt_definitions.specs.Program.{Definition, Program, empty_program, definitions_of}
use Rattle.dt_definitions.specs.Step.{step_edit, step_batch, stepped, after}
use Rattle.dt_definitions.specs.declared.edit.Edit.{Edit}
use Rattle.dt_definitions.specs.declared.edit.Edit.TheVariants as edit
use Rattle.dt_definitions.specs.declared.why.Why.TheVariants as why

abbrev pub shape : ℕ
shape = 0

abbrev pub circle : ℕ
circle = 1

abbrev pub square : ℕ
square = 2

abbrev squircle : ℕ
squircle = 3

abbrev other : ℕ
other = 9

-- a selector of one argument, and one of two
abbrev pub draw : ℕ
draw = 5

abbrev collide : ℕ
collide = 7

-- what a selector is at one class
abbrev pub at : ℕ → ℕ → ℕ → Definition
at selector class body = record { selector = selector; classes = class ∷ []; body = body }

abbrev to : ℕ → ℕ → Link
to class parent = record { class = class; parent = parent }

-- ---- the diamond: circles and squares are shapes, a squircle is both, and two of the four are drawn

abbrev diamond_edits : List Edit
diamond_edits =
    edit.AddClass shape []
    ∷ edit.AddClass circle (shape ∷ [])
    ∷ edit.AddClass square (shape ∷ [])
    ∷ edit.AddClass squircle (square ∷ circle ∷ [])
    ∷ edit.AddSelector draw 1
    ∷ edit.Define draw (square ∷ []) 62
    ∷ edit.Define draw (circle ∷ []) 61
    ∷ []

abbrev diamond : Program
diamond = stepped empty_program diamond_edits

the_diamond : diamond ≡ record {
  graph = record {
    classes = shape ∷ circle ∷ square ∷ squircle ∷ [];
    links = to circle shape ∷ to square shape ∷ to squircle circle ∷ to squircle square ∷ [];
  };
  selectors = record { number = draw; arity = 1 } ∷ [];
  definitions = at draw circle 61 ∷ at draw square 62 ∷ [];
}
the_diamond = refl

in_one_batch_or_in_many : after ((edit.AddClass shape [] ∷ []) ∷ (edit.AddSelector draw 1 ∷ []) ∷ [])
    ≡ after ((edit.AddClass shape [] ∷ edit.AddSelector draw 1 ∷ []) ∷ [])
in_one_batch_or_in_many = refl

-- ---- edits of it

a_squircle_is_no_circle_any_more : step_edit diamond (edit.Unlink squircle circle) ≡ Ok (record {
  graph = record {
    classes = shape ∷ circle ∷ square ∷ squircle ∷ [];
    links = to circle shape ∷ to square shape ∷ to squircle square ∷ [];
  };
  selectors = diamond.selectors;
  definitions = diamond.definitions;
})
a_squircle_is_no_circle_any_more = refl

a_definition_is_replaced : step_edit diamond (edit.Define draw (circle ∷ []) 66) ≡ Ok (record {
  graph = diamond.graph;
  selectors = diamond.selectors;
  definitions = at draw circle 66 ∷ at draw square 62 ∷ [];
})
a_definition_is_replaced = refl

a_definition_goes : step_edit diamond (edit.Undefine draw (circle ∷ [])) ≡ Ok (record {
  graph = diamond.graph;
  selectors = diamond.selectors;
  definitions = at draw square 62 ∷ [];
})
a_definition_goes = refl

-- definitions of other selectors and of longer lists of classes stand in their order
in_order : definitions_of (stepped diamond
    (edit.AddSelector collide 2 ∷ edit.Define collide (square ∷ circle ∷ []) 71 ∷ edit.Define collide (circle ∷ square ∷ []) 72 ∷ [])) collide
    ≡ record { selector = collide; classes = circle ∷ square ∷ []; body = 72 }
    ∷ record { selector = collide; classes = square ∷ circle ∷ []; body = 71 } ∷ []
in_order = refl

-- ---- refusals

a_cycle : step_edit diamond (edit.Link shape squircle) ≡ Err why.Cycle
a_cycle = refl

a_class_below_itself : step_edit diamond (edit.Link shape shape) ≡ Err why.Cycle
a_class_below_itself = refl

seventeen_parents : step_edit diamond (edit.AddClass other (replicate 17 shape)) ≡ Err why.TooManyParents
seventeen_parents = refl

a_parent_twice : step_edit diamond (edit.AddClass other (circle ∷ square ∷ circle ∷ [])) ≡ Err (why.ParentTwice circle)
a_parent_twice = refl

a_class_with_subclasses_stays : step_edit diamond (edit.DropClass square) ≡ Err (why.HasSubclasses squircle)
a_class_with_subclasses_stays = refl

a_class_that_a_definition_names_stays : step_edit (stepped diamond (edit.Define draw (squircle ∷ []) 63 ∷ [])) (edit.DropClass squircle)
    ≡ Err why.HasDefinitions
a_class_that_a_definition_names_stays = refl

a_selector_with_definitions_stays : step_edit diamond (edit.DropSelector draw) ≡ Err why.HasDefinitions
a_selector_with_definitions_stays = refl

a_live_selector_is_not_added : step_edit diamond (edit.AddSelector draw 2) ≡ Err why.SelectorExists
a_live_selector_is_not_added = refl

-- the number of arguments is asked for before the classes, and the classes before the definition
two_classes_for_one_argument : step_edit diamond (edit.Define draw (other ∷ circle ∷ []) 69) ≡ Err why.ArityDiffers
two_classes_for_one_argument = refl

at_a_class_that_is_not_live : step_edit diamond (edit.Undefine draw (other ∷ [])) ≡ Err (why.ClassUnknown other)
at_a_class_that_is_not_live = refl

no_such_definition : step_edit diamond (edit.Undefine draw (shape ∷ [])) ≡ Err why.NoDefinition
no_such_definition = refl

no_such_selector : step_edit diamond (edit.Undefine collide (other ∷ [])) ≡ Err why.SelectorUnknown
no_such_selector = refl

-- ---- a batch is refused by its first refused edit, and keeps nothing

abbrev twice : List Edit
twice = edit.AddClass other [] ∷ edit.AddClass other [] ∷ edit.AddClass 8 [] ∷ edit.AddClass 8 [] ∷ []

the_second_is_refused : step_batch diamond twice ≡ Err (record { at = 2; why = why.ClassExists })
the_second_is_refused = refl

and_nothing_is_kept : stepped diamond twice ≡ diamond
and_nothing_is_kept = refl

a_batch_without_edits : step_batch diamond [] ≡ Ok diamond
a_batch_without_edits = refl
