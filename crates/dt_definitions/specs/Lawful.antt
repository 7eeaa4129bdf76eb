-- What holds of every program that edits make, beginning with the empty one.
use Rattle.std.specs.Prelude.{◌≡◌, ◌<◌, ◌≤◌, IsTrue, List, length, Some, All}
use Rattle.dt_graph.specs.Graph.{is_live}
use Rattle.dt_graph.specs.Lawful.{LawfulGraph}
use Rattle.dt_graph.specs.declared.limits.TheConstants.{CLASSES}
use Rattle.dt_selectors.specs.Lawful.{LawfulSelector, LawfulSelectors}
use Rattle.dt_selectors.specs.declared.limits.TheConstants.{BODIES}
use Rattle.dt_definitions.specs.Program.{Definition, Program, arity_of, key_of, is_key_before}
use Rattle.dt_graph.specs.InOrder.{Ascends}
use Rattle.dt_definitions.specs.declared.limits.TheConstants.{DEFINITIONS}
use Rattle.dt_definitions.specs.declared.edit.Edit.{Edit}
use Rattle.dt_definitions.specs.declared.edit.Edit.TheVariants.{AddClass, DropClass, Link, Unlink, AddSelector, DropSelector, Define, Undefine}

-- each definition stands before the next
abbrev pub AscendingDefinitions : List Definition → Type 0
AscendingDefinitions definitions = Ascends key_of is_key_before definitions

-- a definition's selector is live with as many places as the definition has classes, and these classes are live
pub record LawfulDefinition (program : Program) (d : Definition) : Type 0 where
  pub arity_fits : arity_of program d.selector ≡ Some (length d.classes)
  pub classes_live : All (λ class. IsTrue (is_live program.graph class)) d.classes
  pub body_in_range : d.body < BODIES

-- a lawful program
pub record Lawful (program : Program) : Type 0 where
  pub graph : LawfulGraph program.graph
  pub selectors : LawfulSelectors program.selectors
  pub definitions_ascend : AscendingDefinitions program.definitions
  pub definitions_lawful : All (LawfulDefinition program) program.definitions
  pub few_definitions : length program.definitions ≤ DEFINITIONS

-- the numbers that an edit brings into a program are in range; those of every `Edit` are
abbrev pub IsInRange : Edit → Type 0
IsInRange (AddClass class parents) = class < CLASSES
IsInRange (DropClass class) = Unit {0}
IsInRange (Link class parent) = Unit {0}
IsInRange (Unlink class parent) = Unit {0}
IsInRange (AddSelector selector arity) = LawfulSelector (record { number = selector; arity = arity })
IsInRange (DropSelector selector) = Unit {0}
IsInRange (Define selector classes body) = body < BODIES
IsInRange (Undefine selector classes) = Unit {0}
