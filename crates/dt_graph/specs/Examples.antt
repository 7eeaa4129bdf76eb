-- Worked examples of class graphs: the diamond, what is below what in it, and what changes make of it.
use Rattle.std.specs.Prelude.{◌≡◌, ℕ, true, false, [], ◌∷◌, refl}
use Rattle.dt_graph.specs.Graph.{Link, Graph, empty_graph, has_number, is_live, is_link, has_link, parent_count, is_link_before, AscendingLinks, insert_number, insert_link, insert_links}
use Rattle.dt_graph.specs.Parents.{parents_of}
use Rattle.dt_graph.specs.Below.{Leads, IsBelow, HasNoCycle, is_below}
use Rattle.dt_graph.specs.Lawful.{AscendingNumbers}
use Rattle.dt_graph.specs.Descendants.{descendants}
use Rattle.dt_graph.specs.GraphChange.{add_effect, drop_effect, link_effect, unlink_effect}

abbrev pub shape : ℕ
shape = 0

abbrev pub circle : ℕ
circle = 1

abbrev pub square : ℕ
square = 2

abbrev pub squircle : ℕ
squircle = 3

abbrev pub other : ℕ
other = 9

-- a link, by its ends
abbrev pub to : ℕ → ℕ → Link
to class parent = record { class = class; parent = parent }

-- ---- the diamond: circles and squares are shapes, and a squircle is both

abbrev pub diamond : Graph
diamond =
    let shapes = add_effect empty_graph shape [] in
    let circles = add_effect shapes circle (shape ∷ []) in
    let squares = add_effect circles square (shape ∷ []) in
    add_effect squares squircle (square ∷ circle ∷ [])

the_diamond : diamond ≡ record {
  classes = shape ∷ circle ∷ square ∷ squircle ∷ [];
  links = to circle shape ∷ to square shape ∷ to squircle circle ∷ to squircle square ∷ [];
}
the_diamond = refl

nothing_is_live_at_first : is_live empty_graph shape ≡ false
nothing_is_live_at_first = refl

a_circle_is_live : is_live diamond circle ≡ true
a_circle_is_live = refl

the_other_is_not_live : is_live diamond other ≡ false
the_other_is_not_live = refl

a_number_among_others : has_number (shape ∷ square ∷ []) square ≡ true
a_number_among_others = refl

a_number_that_is_not_there : has_number (shape ∷ square ∷ []) circle ≡ false
a_number_that_is_not_there = refl

a_link_from_a_circle : is_link circle shape (to circle shape) ≡ true
a_link_from_a_circle = refl

its_ends_changed_about : is_link shape circle (to circle shape) ≡ false
its_ends_changed_about = refl

a_squircle_has_a_link_to_circles : has_link diamond.links squircle circle ≡ true
a_squircle_has_a_link_to_circles = refl

a_squircle_has_no_link_to_shapes : has_link diamond.links squircle shape ≡ false
a_squircle_has_no_link_to_shapes = refl

two_parents : parent_count diamond.links squircle ≡ 2
two_parents = refl

no_parent : parent_count diamond.links shape ≡ 0
no_parent = refl

a_squircle_is_a_shape : is_below diamond.links squircle shape ≡ true
a_squircle_is_a_shape = refl

by_way_of_squares : IsBelow diamond.links squircle shape
by_way_of_squares = (square ∷ shape ∷ [], (refl, (refl, refl)))

not_by_way_of_circles_alone : Leads diamond.links squircle (circle ∷ []) shape → ⊥
not_by_way_of_circles_alone leads = let ends = leads.1 in cc

no_step_up_to_itself : Leads [] other [] other
no_step_up_to_itself = refl

a_shape_is_no_squircle : is_below diamond.links shape squircle ≡ false
a_shape_is_no_squircle = refl

a_circle_is_no_square : is_below diamond.links circle square ≡ false
a_circle_is_no_square = refl

every_class_is_below_itself : is_below [] other other ≡ true
every_class_is_below_itself = refl

each_is_below_the_other_in_a_round : is_below (to shape circle ∷ to circle shape ∷ []) circle shape ≡ true
each_is_below_the_other_in_a_round = refl

what_is_a_circle : descendants diamond circle ≡ circle ∷ squircle ∷ []
what_is_a_circle = refl

without_its_link_a_squircle_is_no_circle : descendants (unlink_effect diamond squircle circle) circle ≡ circle ∷ []
without_its_link_a_squircle_is_no_circle = refl

a_class_that_is_not_live_has_no_descendants : descendants diamond other ≡ []
a_class_that_is_not_live_has_no_descendants = refl

what_a_squircle_is : parents_of diamond.links squircle ≡ circle ∷ square ∷ []
what_a_squircle_is = refl

a_shape_is_nothing_else : parents_of diamond.links shape ≡ []
a_shape_is_nothing_else = refl

a_class_placed_again_stays_once : insert_number circle (shape ∷ circle ∷ square ∷ []) ≡ shape ∷ circle ∷ square ∷ []
a_class_placed_again_stays_once = refl

a_class_placed_between : insert_number circle (shape ∷ square ∷ []) ≡ shape ∷ circle ∷ square ∷ []
a_class_placed_between = refl

-- the class decides, and of one class the parent
the_lower_class_first : is_link_before (to circle square) (to square shape) ≡ true
the_lower_class_first = refl

then_the_lower_parent : is_link_before (to squircle square) (to squircle circle) ≡ false
then_the_lower_parent = refl

a_link_placed_between : insert_link (to square shape) (to circle shape ∷ to squircle circle ∷ []) ≡ to circle shape ∷ to square shape ∷ to squircle circle ∷ []
a_link_placed_between = refl

two_links_placed : insert_links squircle (square ∷ circle ∷ []) (to circle shape ∷ []) ≡ to circle shape ∷ to squircle circle ∷ to squircle square ∷ []
two_links_placed = refl

one_link_to_a_parent_named_twice : insert_links squircle (circle ∷ circle ∷ []) [] ≡ to squircle circle ∷ []
one_link_to_a_parent_named_twice = refl

a_class_added_again_changes_nothing : add_effect diamond circle (shape ∷ []) ≡ diamond
a_class_added_again_changes_nothing = refl

a_link_made_again_stays_once : link_effect diamond squircle circle ≡ diamond
a_link_made_again_stays_once = refl

the_links_of_the_diamond_ascend : AscendingLinks diamond.links
the_links_of_the_diamond_ascend = (refl, (refl, (refl, tt)))

a_link_that_stands_twice : AscendingLinks (to circle shape ∷ to circle shape ∷ []) → ⊥
a_link_that_stands_twice ascending = cc

ascending : AscendingNumbers (shape ∷ circle ∷ squircle ∷ [])
ascending = (refl, (refl, tt))

not_descending : AscendingNumbers (circle ∷ shape ∷ []) → ⊥
not_descending ascending = cc

none_twice : AscendingNumbers (circle ∷ circle ∷ []) → ⊥
none_twice ascending = cc

its_own_parent : HasNoCycle (to circle circle ∷ []) → ⊥
its_own_parent none = none circle circle [] (refl, refl)

two_classes_below_each_other : HasNoCycle (to shape circle ∷ to circle shape ∷ []) → ⊥
two_classes_below_each_other none = none shape circle (shape ∷ []) (refl, (refl, refl))

-- ---- what changes leave

a_dropped_class_takes_its_links : drop_effect diamond squircle ≡ record {
  classes = shape ∷ circle ∷ square ∷ [];
  links = to circle shape ∷ to square shape ∷ [];
}
a_dropped_class_takes_its_links = refl

in_its_place : (link_effect diamond squircle shape).links ≡
    to circle shape ∷ to square shape ∷ to squircle shape ∷ to squircle circle ∷ to squircle square ∷ []
in_its_place = refl

the_other_links_stay : unlink_effect diamond squircle circle ≡ record {
  classes = shape ∷ circle ∷ square ∷ squircle ∷ [];
  links = to circle shape ∷ to square shape ∷ to squircle square ∷ [];
}
the_other_links_stay = refl
