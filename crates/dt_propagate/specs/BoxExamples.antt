-- Worked examples of boxes of class lists, of what marks do, and of sizes that cost little.
use Rattle.std.specs.Prelude.{◌≡◌, ℕ, Bool, true, false, ◌==◌, List, [], ◌∷◌, refl}
use Rattle.dt_propagate.specs.Boxes.{Box, is_within, is_within_any, after_class, in_turn, within, size, sum_of_sizes}
use Rattle.dt_definitions.specs.Program.{Program}
use Rattle.dt_definitions.specs.Step.{stepped}
use Rattle.dt_definitions.specs.declared.edit.Edit.TheVariants as edit
use Rattle.dt_propagate.specs.Bounds.{firsts, laters, is_gained, newly_below, size_gained, firsts_gained, cells_gained, rows_gained, is_made, made_cells, made_rows}
use Rattle.dt_propagate.specs.Counts.{is_begun, is_begun_any, box_of, boxes_of}
use Rattle.dt_propagate.specs.CandidateBoxes.{candidate_box}
use Rattle.dt_propagate.specs.FinerMarks.{is_marked, are_named}
use Rattle.dt_scratch.specs.Examples.{A, B, C, D, f, at, diamond, diamond_graph, program_of}

-- 1 or 2, then 3; and 2, then 3 or 4, one of which has to be marked
abbrev low : Box
low = record { sets = (1 ∷ 2 ∷ []) ∷ (3 ∷ []) ∷ []; needs_marked = false }

abbrev high : Box
high = record { sets = (2 ∷ []) ∷ (3 ∷ 4 ∷ []) ∷ []; needs_marked = true }

abbrev both : List Box
both = low ∷ high ∷ []

-- a list is of a box by the set of each position
of_the_box : is_within [] low.sets false (2 ∷ 3 ∷ []) ≡ true
of_the_box = refl

not_in_its_set : is_within [] low.sets false (3 ∷ 3 ∷ []) ≡ false
not_in_its_set = refl

too_few : is_within [] low.sets false (2 ∷ []) ≡ false
too_few = refl

too_many : is_within [] low.sets false (2 ∷ 3 ∷ 3 ∷ []) ≡ false
too_many = refl

-- and where the box needs it, a marked class is among them
none_is_marked : is_within (7 ∷ []) high.sets true (2 ∷ 4 ∷ []) ≡ false
none_is_marked = refl

the_second_is_marked : is_within (4 ∷ []) high.sets true (2 ∷ 4 ∷ []) ≡ true
the_second_is_marked = refl

of_one_of_them : is_within_any (4 ∷ []) both (2 ∷ 4 ∷ []) ≡ true
of_one_of_them = refl

of_none_of_them : is_within_any (4 ∷ []) both (1 ∷ 4 ∷ []) ≡ false
of_none_of_them = refl

-- after 2 both boxes have their last set left, after 1 the first alone
after_2 : after_class (2 ∷ []) 2 both
    ≡ record { sets = (3 ∷ []) ∷ []; needs_marked = false } ∷ record { sets = (3 ∷ 4 ∷ []) ∷ []; needs_marked = false } ∷ []
after_2 = refl

after_1 : after_class (2 ∷ []) 1 both ≡ record { sets = (3 ∷ []) ∷ []; needs_marked = false } ∷ []
after_1 = refl

one_after_the_other : in_turn (λ n. n ∷ n ∷ []) (3 ∷ 5 ∷ []) ≡ 3 ∷ 3 ∷ 5 ∷ 5 ∷ []
one_after_the_other = refl

-- together they hold three lists, in order, and each by itself two
three_lists : within (0 ∷ 1 ∷ 2 ∷ 3 ∷ 4 ∷ []) (2 ∷ []) 2 both ≡ (1 ∷ 3 ∷ []) ∷ (2 ∷ 3 ∷ []) ∷ (2 ∷ 4 ∷ []) ∷ []
three_lists = refl

two_without_marks : within (0 ∷ 1 ∷ 2 ∷ 3 ∷ 4 ∷ []) [] 2 both ≡ (1 ∷ 3 ∷ []) ∷ (2 ∷ 3 ∷ []) ∷ []
two_without_marks = refl

four_by_themselves : sum_of_sizes both ≡ 4
four_by_themselves = refl

two_times_one : size low.sets ≡ 2
two_times_one = refl

-- the first classes of a list, of which some are left
begun : is_begun low.sets (2 ∷ []) ≡ true
begun = refl

not_in_the_first_set : is_begun low.sets (3 ∷ []) ≡ false
not_in_the_first_set = refl

none_is_left : is_begun low.sets (2 ∷ 3 ∷ []) ≡ false
none_is_left = refl

begun_in_one : is_begun_any both (1 ∷ []) ≡ true
begun_in_one = refl

-- the boxes of the diamond's definitions, at B and at C: what is at or below each
below_b_and_c : boxes_of diamond f
    ≡ record { sets = (B ∷ D ∷ []) ∷ []; needs_marked = false } ∷ record { sets = (C ∷ D ∷ []) ∷ []; needs_marked = false } ∷ []
below_b_and_c = refl

none_of_another_selector : boxes_of diamond 3 ≡ []
none_of_another_selector = refl

below_b : box_of diamond (at f B 10) ≡ record { sets = (B ∷ D ∷ []) ∷ []; needs_marked = false }
below_b = refl

-- where only the definition at C differs, that at B needs a marked class
only_c_differs : candidate_box (record { selector = f; classes = C ∷ [] } ∷ []) diamond (at f B 10)
    ≡ record { sets = (B ∷ D ∷ []) ∷ []; needs_marked = true }
only_c_differs = refl

all_of_c : candidate_box (record { selector = f; classes = C ∷ [] } ∷ []) diamond (at f C 20)
    ≡ record { sets = (C ∷ D ∷ []) ∷ []; needs_marked = false }
all_of_c = refl

-- marked and named by position
abbrev second_of_two : ℕ → ℕ → Bool
second_of_two position class = position == 1

marked_in_the_second : is_marked second_of_two 0 (A ∷ B ∷ []) ≡ true
marked_in_the_second = refl

not_in_the_first : is_marked second_of_two 0 (A ∷ []) ≡ false
not_in_the_first = refl

not_both_are_named : are_named second_of_two 0 (A ∷ B ∷ []) ≡ false
not_both_are_named = refl

from_the_second_on : are_named second_of_two 1 (A ∷ []) ≡ true
from_the_second_on = refl

-- of the lists 1 3 and 2 3 the beginnings are none, 1 and 2, and with a class 1 and 2
three_firsts : firsts low.sets ≡ 3
three_firsts = refl

two_laters : laters low.sets ≡ 2
two_laters = refl

-- one more definition, at A, is new, and all four classes are below it; that at B is there already
abbrev with_a : Program
with_a = stepped diamond (edit.Define f (A ∷ []) 40 ∷ [])

made_at_a : made_cells diamond with_a (record { selector = f; classes = A ∷ [] }) ≡ 4
made_at_a = refl

no_row_more : made_rows diamond with_a (record { selector = f; classes = A ∷ [] }) ≡ 0
no_row_more = refl

-- the first definition of a selector brings the row without a class
first_row : made_rows (program_of diamond_graph []) diamond (record { selector = f; classes = B ∷ [] }) ≡ 1
first_row = refl

not_made_at_b : is_made diamond with_a (record { selector = f; classes = B ∷ [] }) ≡ false
not_made_at_b = refl

-- a link from B to C brings B below C, and D was there before: so one list more is below C, and below C and C there are
-- three that begin with B and three that end with it
abbrev linked : Program
linked = stepped diamond (edit.Link B C ∷ [])

b_is_gained : is_gained diamond.graph.links linked.graph.links B C ≡ true
b_is_gained = refl

d_is_not : is_gained diamond.graph.links linked.graph.links D C ≡ false
d_is_not = refl

b_below_c : newly_below diamond.graph linked.graph C ≡ B ∷ []
b_below_c = refl

one_more : size_gained diamond.graph linked.graph (C ∷ []) ≡ 1
one_more = refl

three_and_three : size_gained diamond.graph linked.graph (C ∷ C ∷ []) ≡ 6
three_and_three = refl

-- what is new is counted in the new graph
three_below_c : made_cells (program_of diamond_graph []) linked (record { selector = f; classes = C ∷ [] }) ≡ 3
three_below_c = refl

one_below_a_new_definition : cells_gained (program_of diamond_graph []) linked C ≡ 1
one_below_a_new_definition = refl

one_row_more : firsts_gained diamond.graph linked.graph (C ∷ C ∷ []) ≡ 1
one_row_more = refl

-- of three positions: B, and B with each class below C, and each of these three with B in the second
seven_rows_more : firsts_gained diamond.graph linked.graph (C ∷ C ∷ C ∷ []) ≡ 7
seven_rows_more = refl

one_cell_more : cells_gained diamond linked C ≡ 1
one_cell_more = refl

no_row_with_a_class : rows_gained diamond linked C ≡ 0
no_row_with_a_class = refl
