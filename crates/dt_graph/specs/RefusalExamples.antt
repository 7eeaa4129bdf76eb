-- Worked examples of refusals: each cause, and which of two is told.
use Rattle.std.specs.Prelude.{◌≡◌, true, false, [], ◌∷◌, replicate, None, Some, Ok, Err, refl}
use Rattle.dt_graph.specs.Refusal.{cause_if, first_cause, ok_unless}
use Rattle.dt_graph.specs.Graph.{Graph, empty_graph}
use Rattle.dt_graph.specs.GraphChange.{add_cause, add_effect, drop_cause, link_cause, unlink_cause, unlink_effect, unknown, first_unknown, lowest_subclass, first_repeated}
use Rattle.dt_graph.specs.declared.graph_fault.GraphFault.TheVariants.{ClassExists, ClassUnknown, ParentTwice, TooManyParents, HasSubclasses, LinkExists, LinkUnknown, Cycle}
use Rattle.dt_graph.specs.Examples.{shape, circle, square, squircle, other, diamond}

-- ---- causes in order

the_test_does_not_hold : cause_if false Cycle ≡ None
the_test_does_not_hold = refl

the_test_holds : cause_if true Cycle ≡ Some Cycle
the_test_holds = refl

the_first_of_two_causes : first_cause (None ∷ Some LinkExists ∷ Some Cycle ∷ []) ≡ Some LinkExists
the_first_of_two_causes = refl

no_cause_is_there : first_cause (cause_if false Cycle ∷ None ∷ []) ≡ None
no_cause_is_there = refl

refused : ok_unless (Some Cycle) circle ≡ Err Cycle
refused = refl

refused_for_a_subclass : ok_unless (drop_cause diamond shape) other ≡ Err (HasSubclasses circle)
refused_for_a_subclass = refl

not_refused : ok_unless (drop_cause diamond squircle) circle ≡ Ok circle
not_refused = refl

a_live_class_is_not_unknown : unknown diamond circle ≡ None
a_live_class_is_not_unknown = refl

the_other_is_unknown : unknown diamond other ≡ Some (ClassUnknown other)
the_other_is_unknown = refl

the_first_of_two_that_are_unknown : first_unknown diamond (circle ∷ other ∷ 8 ∷ []) ≡ Some (ClassUnknown other)
the_first_of_two_that_are_unknown = refl

none_is_unknown : first_unknown diamond (circle ∷ shape ∷ []) ≡ None
none_is_unknown = refl

-- ---- a class is added

a_first_class : add_cause empty_graph shape [] ≡ None
a_first_class = refl

a_live_class_is_not_added : add_cause diamond circle (other ∷ []) ≡ Some ClassExists
a_live_class_is_not_added = refl

-- seventeen parents are too many before it is asked whether they are live or named twice
seventeen_parents : add_cause diamond 4 (replicate 17 other) ≡ Some TooManyParents
seventeen_parents = refl

sixteen_parents : add_cause diamond 4 (replicate 16 other) ≡ Some (ClassUnknown other)
sixteen_parents = refl

the_first_parent_that_is_not_live : add_cause diamond 4 (circle ∷ circle ∷ other ∷ 8 ∷ []) ≡ Some (ClassUnknown other)
the_first_parent_that_is_not_live = refl

the_first_parent_named_twice : add_cause diamond 4 (shape ∷ circle ∷ square ∷ circle ∷ shape ∷ []) ≡ Some (ParentTwice circle)
the_first_parent_named_twice = refl

its_own_parent_is_not_live_yet : add_cause diamond 4 (4 ∷ []) ≡ Some (ClassUnknown 4)
its_own_parent_is_not_live_yet = refl

four_is_added : add_cause diamond 4 (shape ∷ circle ∷ []) ≡ None
four_is_added = refl

no_parent_is_named_twice : first_repeated [] (shape ∷ circle ∷ square ∷ []) ≡ None
no_parent_is_named_twice = refl

one_that_comes_again_after_another : first_repeated [] (shape ∷ circle ∷ shape ∷ []) ≡ Some shape
one_that_comes_again_after_another = refl

a_dead_parent_before_one_named_twice : add_cause diamond 4 (other ∷ other ∷ []) ≡ Some (ClassUnknown other)
a_dead_parent_before_one_named_twice = refl

seventeen_dead_parents_for_a_live_class : add_cause diamond circle (replicate 17 other) ≡ Some ClassExists
seventeen_dead_parents_for_a_live_class = refl

-- ---- a class is dropped

the_lowest_subclass : drop_cause diamond shape ≡ Some (HasSubclasses circle)
the_lowest_subclass = refl

no_class_is_below_a_squircle : lowest_subclass diamond.links squircle ≡ None
no_class_is_below_a_squircle = refl

a_squircle_is_dropped : drop_cause diamond squircle ≡ None
a_squircle_is_dropped = refl

what_is_not_live_is_not_dropped : drop_cause diamond other ≡ Some (ClassUnknown other)
what_is_not_live_is_not_dropped = refl

-- ---- a link is made

a_cycle : link_cause diamond shape squircle ≡ Some Cycle
a_cycle = refl

a_class_above_itself : link_cause diamond circle circle ≡ Some Cycle
a_class_above_itself = refl

a_link_more : link_cause diamond squircle shape ≡ None
a_link_more = refl

there_already : link_cause diamond squircle circle ≡ Some LinkExists
there_already = refl

the_class_before_the_parent : link_cause diamond other 8 ≡ Some (ClassUnknown other)
the_class_before_the_parent = refl

a_parent_that_is_not_live : link_cause diamond squircle 8 ≡ Some (ClassUnknown 8)
a_parent_that_is_not_live = refl

-- class 16 has sixteen parents, and 17 stands alone
abbrev pub sixteen : Graph
sixteen = add_effect (record { classes = 0 ∷ 1 ∷ 2 ∷ 3 ∷ 4 ∷ 5 ∷ 6 ∷ 7 ∷ 8 ∷ 9 ∷ 10 ∷ 11 ∷ 12 ∷ 13 ∷ 14 ∷ 15 ∷ 17 ∷ []; links = [] })
    16 (0 ∷ 1 ∷ 2 ∷ 3 ∷ 4 ∷ 5 ∷ 6 ∷ 7 ∷ 8 ∷ 9 ∷ 10 ∷ 11 ∷ 12 ∷ 13 ∷ 14 ∷ 15 ∷ [])

a_seventeenth_link : link_cause sixteen 16 17 ≡ Some TooManyParents
a_seventeenth_link = refl

a_sixteenth_link : link_cause (unlink_effect sixteen 16 3) 16 17 ≡ None
a_sixteenth_link = refl

a_link_that_is_there_among_sixteen : link_cause sixteen 16 3 ≡ Some LinkExists
a_link_that_is_there_among_sixteen = refl

too_many_before_a_cycle : link_cause sixteen 16 16 ≡ Some TooManyParents
too_many_before_a_cycle = refl

-- ---- a link is taken away

a_link_that_can_be_taken_away : unlink_cause diamond squircle circle ≡ None
a_link_that_can_be_taken_away = refl

the_wrong_way_round : unlink_cause diamond circle squircle ≡ Some LinkUnknown
the_wrong_way_round = refl

the_class_is_asked_before_the_parent : unlink_cause diamond 8 other ≡ Some (ClassUnknown 8)
the_class_is_asked_before_the_parent = refl
