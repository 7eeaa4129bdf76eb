-- Changes of a class graph: the causes of their refusals in order, and their effects.
use Rattle.std.specs.Prelude.{◌==◌, ℕ, not, if◌then◌else◌, nat_lt, nat_le, List, [], ◌∷◌, length, Option, None, Some, find, filter}
use Rattle.std.specs.Option.{option_map}
use Rattle.dt_graph.specs.Refusal.{cause_if, first_cause}
use Rattle.dt_graph.specs.Graph.{Link, Graph, has_number, is_live, is_link, has_link, parent_count, insert_number, insert_link, insert_links}
use Rattle.dt_graph.specs.Below.{is_below}
use Rattle.dt_graph.specs.declared.limits.TheConstants.{PARENTS}
use Rattle.dt_graph.specs.declared.graph_fault.GraphFault.{GraphFault}
use Rattle.dt_graph.specs.declared.graph_fault.GraphFault.TheVariants.{ClassExists, ClassUnknown, ParentTwice, TooManyParents, HasSubclasses, LinkExists, LinkUnknown, Cycle}

-- the class, where it isn't live
abbrev pub unknown : Graph → ℕ → Option GraphFault
unknown graph class = cause_if (not (is_live graph class)) (ClassUnknown class)

-- the first of the classes that isn't live
abbrev pub first_unknown : Graph → List ℕ → Option GraphFault
first_unknown graph classes = option_map ClassUnknown (find (λ class. not (is_live graph class)) classes)

-- the first number of the list that stands among the earlier ones
abbrev pub first_repeated : List ℕ → List ℕ → Option ℕ
first_repeated earlier [] = None
first_repeated earlier (number ∷ numbers) =
    if has_number earlier number then Some number else first_repeated (number ∷ earlier) numbers

-- the lowest class that has it as a parent: links stand in ascending order of classes
abbrev pub lowest_subclass : List Link → ℕ → Option ℕ
lowest_subclass links class = option_map (λ link. link.class) (find (λ link. link.parent == class) links)

-- why a class with these parents isn't added
abbrev pub add_cause : Graph → ℕ → List ℕ → Option GraphFault
add_cause graph class parents = first_cause
    (cause_if (is_live graph class) ClassExists
    ∷ cause_if (nat_lt PARENTS (length parents)) TooManyParents
    ∷ first_unknown graph parents
    ∷ option_map ParentTwice (first_repeated [] parents)
    ∷ [])

-- the class is live, with a link to each parent
abbrev pub add_effect : Graph → ℕ → List ℕ → Graph
add_effect graph class parents = record {
  classes = insert_number class graph.classes;
  links = insert_links class parents graph.links;
}

-- why a class isn't dropped
abbrev pub drop_cause : Graph → ℕ → Option GraphFault
drop_cause graph class = first_cause
    (unknown graph class
    ∷ option_map HasSubclasses (lowest_subclass graph.links class)
    ∷ [])

-- the class isn't live, and its links to parents are gone
abbrev pub drop_effect : Graph → ℕ → Graph
drop_effect graph class = record {
  classes = filter (λ c. not (c == class)) graph.classes;
  links = filter (λ link. not (link.class == class)) graph.links;
}

-- why a link isn't made
abbrev pub link_cause : Graph → ℕ → ℕ → Option GraphFault
link_cause graph class parent = first_cause
    (unknown graph class
    ∷ unknown graph parent
    ∷ cause_if (has_link graph.links class parent) LinkExists
    ∷ cause_if (nat_le PARENTS (parent_count graph.links class)) TooManyParents
    ∷ cause_if (is_below graph.links parent class) Cycle
    ∷ [])

-- one link more
abbrev pub link_effect : Graph → ℕ → ℕ → Graph
link_effect graph class parent = record {
  classes = graph.classes;
  links = insert_link (record { class = class; parent = parent }) graph.links;
}

-- why a link isn't taken away
abbrev pub unlink_cause : Graph → ℕ → ℕ → Option GraphFault
unlink_cause graph class parent = first_cause
    (unknown graph class
    ∷ unknown graph parent
    ∷ cause_if (not (has_link graph.links class parent)) LinkUnknown
    ∷ [])

-- that link is gone
abbrev pub unlink_effect : Graph → ℕ → ℕ → Graph
unlink_effect graph class parent = record {
  classes = graph.classes;
  links = filter (λ link. not (is_link class parent link)) graph.links;
}
