-- What an edit that isn't refused makes of a program.
use Rattle.std.specs.Prelude.{not, List, filter}
use Rattle.dt_graph.specs.Graph.{Graph}
use Rattle.dt_graph.specs.GraphChange.{add_effect, drop_effect, link_effect, unlink_effect}
use Rattle.dt_selectors.specs.Selectors.{Selector, insert_selector, without_selector}
use Rattle.dt_definitions.specs.Program.{Definition, Program, is_definition, insert_definition}
use Rattle.dt_definitions.specs.declared.edit.Edit.{Edit}
use Rattle.dt_definitions.specs.declared.edit.Edit.TheVariants.{AddClass, DropClass, Link, Unlink, AddSelector, DropSelector, Define, Undefine}

-- the program with another graph, other selectors or other definitions
abbrev pub with_graph : Program → Graph → Program
with_graph p graph = record { graph = graph; selectors = p.selectors; definitions = p.definitions }

abbrev pub with_selectors : Program → List Selector → Program
with_selectors p selectors = record { graph = p.graph; selectors = selectors; definitions = p.definitions }

abbrev pub with_definitions : Program → List Definition → Program
with_definitions p definitions = record { graph = p.graph; selectors = p.selectors; definitions = definitions }

-- what an edit that isn't refused makes of the program
abbrev pub effect : Program → Edit → Program
effect p (AddClass class parents) = with_graph p (add_effect p.graph class parents)
effect p (DropClass class) = with_graph p (drop_effect p.graph class)
effect p (Link class parent) = with_graph p (link_effect p.graph class parent)
effect p (Unlink class parent) = with_graph p (unlink_effect p.graph class parent)
effect p (AddSelector selector arity) =
    with_selectors p (insert_selector (record { number = selector; arity = arity }) p.selectors)
effect p (DropSelector selector) = with_selectors p (without_selector p.selectors selector)
effect p (Define selector classes body) = with_definitions p
    (insert_definition (record { selector = selector; classes = classes; body = body }) p.definitions)
effect p (Undefine selector classes) =
    with_definitions p (filter (λ d. not (is_definition selector classes d)) p.definitions)
