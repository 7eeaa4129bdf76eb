-- Of which selectors the cells may differ at all.
use Rattle.std.specs.Prelude.{◌≡◌, ◌==◌, ℕ, Bool, false, ◌||◌, List, []}
use Rattle.std.specs.List.{list_any}
use Rattle.std.specs.Option.{option_map_or}
use Rattle.dt_graph.specs.Graph.{has_number}
use Rattle.dt_definitions.specs.Program.{Program, arity_of}
use Rattle.dt_definitions.specs.Naming.{naming}
use Rattle.dt_definitions.specs.declared.definition_key.DefinitionKey.{DefinitionKey}
use Rattle.dt_propagate.specs.GoneThrough.{all_arities, told_of}
use Rattle.dt_propagate.specs.Walk.{told_change}

-- whether the selector takes so many arguments in the program
abbrev pub takes : Program → ℕ → ℕ → Bool
takes program selector arity = option_map_or (λ a. a == arity) (arity_of program selector) false

-- whether one of the keys is of the selector
abbrev pub is_of_any : List DefinitionKey → ℕ → Bool
is_of_any keys selector = list_any (λ key. key.selector == selector) keys

-- whether a definition of the selector, in one of the programs, names one of the classes
abbrev pub names_any : Program → Program → List ℕ → ℕ → Bool
names_any old new classes selector =
    list_any (λ class. is_of_any (naming old.definitions class) selector || is_of_any (naming new.definitions class) selector) classes

-- nothing is told of a selector that isn't in the set
abbrev pub TouchAll : Program → Program → List ℕ → Type 0
TouchAll old new touched =
    (selector : ℕ) → has_number touched selector ≡ false → told_of (told_change old new) all_arities selector ≡ []
