-- Why an edit is refused: its causes in their order, of which the first that holds is answered.
use Rattle.std.specs.Prelude.{◌==◌, ℕ, Bool, false, ◌&&◌, not, nat_le, List, [], ◌∷◌, ◌++◌, length, Option}
use Rattle.std.specs.List.{list_any}
use Rattle.std.specs.Option.{option_map, option_map_or}
use Rattle.dt_graph.specs.Refusal.{cause_if, first_cause}
use Rattle.dt_graph.specs.Graph.{has_number}
use Rattle.dt_graph.specs.GraphChange.{add_cause, drop_cause, link_cause, unlink_cause, first_unknown}
use Rattle.dt_graph.specs.declared.graph_fault.GraphFault.{GraphFault}
use Rattle.dt_selectors.specs.declared.selectors.SelectorFault.{SelectorFault}
use Rattle.dt_selectors.specs.declared.selectors.SelectorFault.TheVariants.{SelectorExists, SelectorUnknown}
use Rattle.dt_selectors.specs.Selectors.{has_selector}
use Rattle.dt_definitions.specs.Program.{Program, arity_of, is_definition}
use Rattle.dt_definitions.specs.declared.limits.TheConstants.{DEFINITIONS}
use Rattle.dt_definitions.specs.declared.edit.Edit.{Edit}
use Rattle.dt_definitions.specs.declared.edit.Edit.TheVariants.{AddClass, DropClass, Link, Unlink, AddSelector, DropSelector, Define, Undefine}
use Rattle.dt_definitions.specs.declared.why.Why.{Why}
use Rattle.dt_definitions.specs.declared.why.Why.TheVariants as why
use Rattle.dt_graph.specs.declared.graph_fault.GraphFault.TheVariants as fault

-- a refusal by the class graph, as the refusal of an edit
abbrev pub why_of : GraphFault → Why
why_of fault.ClassExists = why.ClassExists
why_of (fault.ClassUnknown class) = why.ClassUnknown class
why_of (fault.ParentTwice class) = why.ParentTwice class
why_of fault.TooManyParents = why.TooManyParents
why_of (fault.HasSubclasses class) = why.HasSubclasses class
why_of fault.LinkExists = why.LinkExists
why_of fault.LinkUnknown = why.LinkUnknown
why_of fault.Cycle = why.Cycle

-- a refusal by the selectors, as the refusal of an edit
abbrev pub why_of_selector : SelectorFault → Why
why_of_selector SelectorExists = why.SelectorExists
why_of_selector SelectorUnknown = why.SelectorUnknown

-- whether a definition names the class
abbrev pub is_named : Program → ℕ → Bool
is_named program class = list_any (λ d. has_number d.classes class) program.definitions

-- whether a definition of the selector is there
abbrev pub is_defined : Program → ℕ → Bool
is_defined program selector = list_any (λ d. d.selector == selector) program.definitions

-- whether the definition of the selector at these classes is there
abbrev pub has_definition : Program → ℕ → List ℕ → Bool
has_definition program selector classes = list_any (is_definition selector classes) program.definitions

-- whether the selector, if it is live, takes another number of arguments
abbrev pub arity_differs : Program → ℕ → List ℕ → Bool
arity_differs program selector classes =
    option_map_or (λ arity. not (arity == length classes)) (arity_of program selector) false

-- the causes for which a selector is neither defined nor undefined at the classes
abbrev pub place_causes : Program → ℕ → List ℕ → List (Option Why)
place_causes p selector classes =
    cause_if (not (has_selector p.selectors selector)) why.SelectorUnknown
    ∷ cause_if (arity_differs p selector classes) why.ArityDiffers
    ∷ option_map why_of (first_unknown p.graph classes)
    ∷ []

-- why an edit is refused: the first of its causes that holds
abbrev pub refusal : Program → Edit → Option Why
refusal p (AddClass class parents) = option_map why_of (add_cause p.graph class parents)
refusal p (DropClass class) = first_cause
    (option_map why_of (drop_cause p.graph class)
    ∷ cause_if (is_named p class) why.HasDefinitions
    ∷ [])
refusal p (Link class parent) = option_map why_of (link_cause p.graph class parent)
refusal p (Unlink class parent) = option_map why_of (unlink_cause p.graph class parent)
refusal p (AddSelector selector arity) = cause_if (has_selector p.selectors selector) why.SelectorExists
refusal p (DropSelector selector) = first_cause
    (cause_if (not (has_selector p.selectors selector)) why.SelectorUnknown
    ∷ cause_if (is_defined p selector) why.HasDefinitions
    ∷ [])
refusal p (Define selector classes body) = first_cause
    (place_causes p selector classes
    ++ cause_if (nat_le DEFINITIONS (length p.definitions) && not (has_definition p selector classes)) why.DefinitionsFull
    ∷ [])
refusal p (Undefine selector classes) = first_cause
    (place_causes p selector classes
    ++ cause_if (not (has_definition p selector classes)) why.NoDefinition
    ∷ [])
