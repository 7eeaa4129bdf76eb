-- Where two programs differ, and where the edits of a batch say that they make a difference.
use Rattle.std.specs.Prelude.{◌≡◌, ◌↔◌, ℕ, Bool, false, List, [], ◌∷◌, ◌++◌}
use Rattle.std.specs.List.{Contains, list_any}
use Rattle.dt_graph.specs.LinkChanges.{OthersKeepTheirLinks}
use Rattle.dt_definitions.specs.Program.{Definition, Program, is_definition}
use Rattle.dt_definitions.specs.declared.definition_key.DefinitionKey.{DefinitionKey}
use Rattle.dt_definitions.specs.declared.edit.Edit.{Edit}
use Rattle.dt_definitions.specs.declared.edit.Edit.TheVariants.{AddClass, DropClass, Link, Unlink, AddSelector, DropSelector, Define, Undefine}

-- whether it is the definition of one of these selectors at its classes
abbrev pub is_at_any : List DefinitionKey → Definition → Bool
is_at_any keys d = list_any (λ key. is_definition key.selector key.classes d) keys

-- all definitions but these are there before and after
abbrev pub OthersStayDefined : List DefinitionKey → List Definition → List Definition → Type 0
OthersStayDefined redefined old new =
    (d : Definition) → is_at_any redefined d ≡ false → Contains old d ↔ Contains new d

-- the two programs differ in the links of these classes and in the definitions at these keys, and in no other link or
-- definition
pub record DifferOnlyAt (edited : List ℕ) (redefined : List DefinitionKey) (old new : Program) : Type 0 where
  pub links : OthersKeepTheirLinks edited old.graph.links new.graph.links
  pub definitions : OthersStayDefined redefined old.definitions new.definitions

-- the class whose links an edit changes, if it changes any
abbrev pub edited_by : Edit → List ℕ
edited_by (AddClass class parents) = class ∷ []
edited_by (DropClass class) = class ∷ []
edited_by (Link class parent) = class ∷ []
edited_by (Unlink class parent) = class ∷ []
edited_by (AddSelector selector arity) = []
edited_by (DropSelector selector) = []
edited_by (Define selector classes body) = []
edited_by (Undefine selector classes) = []

-- the selector and classes that an edit defines or undefines, if it does
abbrev pub redefined_by : Edit → List DefinitionKey
redefined_by (AddClass class parents) = []
redefined_by (DropClass class) = []
redefined_by (Link class parent) = []
redefined_by (Unlink class parent) = []
redefined_by (AddSelector selector arity) = []
redefined_by (DropSelector selector) = []
redefined_by (Define selector classes body) = record { selector = selector; classes = classes } ∷ []
redefined_by (Undefine selector classes) = record { selector = selector; classes = classes } ∷ []

-- the same of all edits of a batch
abbrev pub edited_classes : List Edit → List ℕ
edited_classes [] = []
edited_classes (edit ∷ edits) = edited_by edit ++ edited_classes edits

abbrev pub redefined_keys : List Edit → List DefinitionKey
redefined_keys [] = []
redefined_keys (edit ∷ edits) = redefined_by edit ++ redefined_keys edits
