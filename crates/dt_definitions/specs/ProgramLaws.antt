-- What holds of every lawful program, and so of every `Program`, also of one of which there is no value at hand.
use Rattle.std.specs.Prelude.{◌≡◌, ℕ, ◌<◌, ◌≤◌, IsTrue, List, length, Some, All, count_by}
use Rattle.dt_graph.specs.Graph.{is_live}
use Rattle.dt_graph.specs.Below.{HasNoCycle}
use Rattle.dt_graph.specs.declared.limits.TheConstants.{CLASSES}
use Rattle.dt_selectors.specs.declared.limits.TheConstants.{BODIES}
use Rattle.dt_definitions.specs.Program.{Program, arity_of, definitions_of, is_definition}
use Rattle.dt_definitions.specs.Lawful.{Lawful}

-- live classes are in range
abbrev pub LiveClassesAreInRange : Type 0
LiveClassesAreInRange = (p : Program) → Lawful p → (class : ℕ) → IsTrue (is_live p.graph class) → class < CLASSES

-- a definition has as many classes as its selector takes arguments, and they are live
abbrev pub DefinitionsFit : Type 0
DefinitionsFit = (p : Program) → Lawful p → (selector : ℕ) → All (λ d. (arity_of p selector ≡ Some (length d.classes))
    × All (λ class. IsTrue (is_live p.graph class)) d.classes) (definitions_of p selector)

-- no selector is defined twice at the same classes
abbrev pub DefinitionsStandOnce : Type 0
DefinitionsStandOnce = (p : Program) → Lawful p → (selector : ℕ) (classes : List ℕ)
    → count_by (is_definition selector classes) p.definitions ≤ 1

-- the bodies are in range
abbrev pub BodiesAreInRange : Type 0
BodiesAreInRange = (p : Program) → Lawful p → All (λ d. d.body < BODIES) p.definitions

-- no class is above itself
abbrev pub NoClassIsAboveItself : Type 0
NoClassIsAboveItself = (p : Program) → Lawful p → HasNoCycle p.graph.links
