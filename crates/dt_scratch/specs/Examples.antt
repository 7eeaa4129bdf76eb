-- Worked examples of look-up from scratch.
use Rattle.std.specs.Prelude.{◌≡◌, ℕ, true, false, List, [], ◌∷◌, None, Some, refl}
use Rattle.std.specs.declared.cmp.Ordering.TheVariants.{Less, Equal, Greater}
use Rattle.dt_graph.specs.GraphChange.{add_effect, unlink_effect}
use Rattle.dt_graph.specs.Graph.{Graph, empty_graph}
use Rattle.dt_definitions.specs.Program.{Definition, Program, insert_definition}
use Rattle.dt_scratch.specs.declared.reply.Answer.TheVariants.{Method, NotUnderstood, Ambiguous}
use Rattle.dt_scratch.specs.declared.reply.Reply.TheVariants.{NoSelector, WrongArity, NoClass, Answered}
use Rattle.dt_scratch.specs.Query.{Query, arity_of_query, is_same_query, query_order}
use Rattle.dt_scratch.specs.QueryParts.{pad}
use Rattle.dt_scratch.specs.Resolve.{are_below, applicable, is_more_specific, minimal, answer_by, answer, first_dead, reply, cell}

-- a selector's number, and a query of one class or two
abbrev pub asks : ℕ → ℕ → Query
asks selector class = record { selector = selector; classes = class ∷ [] }

abbrev pub asks_two : ℕ → ℕ → ℕ → Query
asks_two selector first second = record { selector = selector; classes = first ∷ second ∷ [] }

-- with one definition more
abbrev pub defined : ℕ → List ℕ → ℕ → List Definition → List Definition
defined selector classes body = insert_definition (record { selector = selector; classes = classes; body = body })

-- The diamond: classes A, B and C below it, D below both; f is defined at B and at C.
abbrev pub A : ℕ
A = 0

abbrev pub B : ℕ
B = 1

abbrev pub C : ℕ
C = 2

abbrev pub D : ℕ
D = 3

abbrev pub f : ℕ
f = 4

abbrev pub diamond_graph : Graph
diamond_graph =
    add_effect (add_effect (add_effect (add_effect empty_graph A []) B (A ∷ [])) C (A ∷ [])) D (B ∷ C ∷ [])

abbrev pub diamond_definitions : List Definition
diamond_definitions = defined f (B ∷ []) 10 (defined f (C ∷ []) 20 [])

abbrev pub program_of : Graph → List Definition → Program
program_of graph definitions = record {
  graph = graph;
  selectors = record { number = f; arity = 1 } ∷ [];
  definitions = definitions;
}

abbrev pub diamond : Program
diamond = program_of diamond_graph diamond_definitions

-- no definition is above A
above_none : reply diamond (asks f A) ≡ Answered NotUnderstood
above_none = refl

-- at B its own is the only one
at_its_own : reply diamond (asks f B) ≡ Answered (Method 10)
at_its_own = refl

-- neither of the two above D is more specific than the other
diamond_is_ambiguous : reply diamond (asks f D) ≡ Answered Ambiguous
diamond_is_ambiguous = refl

-- a definition at D settles it
diamond_settled :
    reply (program_of diamond_graph (defined f (D ∷ []) 30 diamond_definitions)) (asks f D) ≡ Answered (Method 30)
diamond_settled = refl

-- and so does the loss of one of the two links
unlink_settles :
    reply (program_of (unlink_effect diamond_graph D C) diamond_definitions) (asks f D) ≡ Answered (Method 10)
unlink_settles = refl

-- below in every position, with as many positions
below_itself : are_below diamond_graph.links (D ∷ A ∷ []) (D ∷ A ∷ []) ≡ true
below_itself = refl

below_in_both : are_below diamond_graph.links (D ∷ B ∷ []) (A ∷ A ∷ []) ≡ true
below_in_both = refl

not_in_the_second : are_below diamond_graph.links (D ∷ A ∷ []) (A ∷ B ∷ []) ≡ false
not_in_the_second = refl

not_by_fewer : are_below diamond_graph.links (D ∷ []) (A ∷ A ∷ []) ≡ false
not_by_fewer = refl

not_by_more : are_below diamond_graph.links (D ∷ D ∷ []) (A ∷ []) ≡ false
not_by_more = refl

-- what a selector is at a class
abbrev pub at : ℕ → ℕ → ℕ → Definition
at selector class body = record { selector = selector; classes = class ∷ []; body = body }

-- applicable are those above the query's class, of the query's selector alone
both_are_applicable :
    applicable (program_of diamond_graph (defined 3 (A ∷ []) 50 (defined f (D ∷ []) 30 diamond_definitions))) (asks f B)
    ≡ at f B 10 ∷ []
both_are_applicable = refl

all_three_are_applicable : applicable (program_of diamond_graph (defined f (A ∷ []) 5 diamond_definitions)) (asks f D)
    ≡ at f A 5 ∷ at f B 10 ∷ at f C 20 ∷ []
all_three_are_applicable = refl

-- a definition is more specific than one above it, and not than itself, one beside it or one below it
lower_is_more_specific : is_more_specific diamond_graph.links (at f D 30) (at f A 5) ≡ true
lower_is_more_specific = refl

not_than_itself : is_more_specific diamond_graph.links (at f D 30) (at f D 30) ≡ false
not_than_itself = refl

not_than_its_neighbour : is_more_specific diamond_graph.links (at f B 10) (at f C 20) ≡ false
not_than_its_neighbour = refl

not_than_a_lower : is_more_specific diamond_graph.links (at f A 5) (at f D 30) ≡ false
not_than_a_lower = refl

-- minimal are those that have none more specific
two_are_minimal : minimal diamond_graph.links (at f A 5 ∷ at f B 10 ∷ at f C 20 ∷ []) ≡ at f B 10 ∷ at f C 20 ∷ []
two_are_minimal = refl

one_is_minimal : minimal diamond_graph.links (at f A 5 ∷ at f B 10 ∷ at f C 20 ∷ at f D 30 ∷ []) ≡ at f D 30 ∷ []
one_is_minimal = refl

-- none, one and two
by_none : answer_by [] ≡ NotUnderstood
by_none = refl

by_one : answer_by (at f D 30 ∷ []) ≡ Method 30
by_one = refl

by_two : answer_by (at f B 10 ∷ at f C 10 ∷ []) ≡ Ambiguous
by_two = refl

-- the answer doesn't ask whether the selector and the classes are live
answer_of_the_dead : answer diamond (asks f 9) ≡ NotUnderstood
answer_of_the_dead = refl

-- a cell is the answer, and not understood where the reply has none
cell_of_an_answer : cell diamond (asks f D) ≡ Ambiguous
cell_of_an_answer = refl

cell_of_a_method : cell diamond (asks f B) ≡ Method 10
cell_of_a_method = refl

cell_of_another_arity : cell diamond (asks_two f B B) ≡ NotUnderstood
cell_of_another_arity = refl

-- Two arguments: rocks and ships are things, and collide is defined at a thing and a ship, and at a ship and a thing.
abbrev thing : ℕ
thing = 0

abbrev rock : ℕ
rock = 1

abbrev ship : ℕ
ship = 2

abbrev collide : ℕ
collide = 7

abbrev collisions : Program
collisions = record {
  graph = add_effect (add_effect (add_effect empty_graph thing []) rock (thing ∷ [])) ship (thing ∷ []);
  selectors = record { number = collide; arity = 2 } ∷ [];
  definitions = defined collide (thing ∷ ship ∷ []) 30 (defined collide (ship ∷ thing ∷ []) 40 []);
}

two_ships : reply collisions (asks_two collide ship ship) ≡ Answered Ambiguous
two_ships = refl

rock_and_ship : reply collisions (asks_two collide rock ship) ≡ Answered (Method 30)
rock_and_ship = refl

ship_and_rock : reply collisions (asks_two collide ship rock) ≡ Answered (Method 40)
ship_and_rock = refl

two_rocks : reply collisions (asks_two collide rock rock) ≡ Answered NotUnderstood
two_rocks = refl

-- The order of replies, with class 0 and a selector 5 of two arguments.
abbrev small : Program
small = record {
  graph = add_effect empty_graph 0 [];
  selectors = record { number = 5; arity = 2 } ∷ [];
  definitions = [];
}

-- the second class isn't live
second_class : reply small (asks_two 5 0 9) ≡ NoClass 2
second_class = refl

-- positions are counted on from the given one, and all that are live have none
counted_on : first_dead small.graph 3 (0 ∷ 0 ∷ 7 ∷ 9 ∷ []) ≡ Some 5
counted_on = refl

none_dead : first_dead small.graph 1 (0 ∷ 0 ∷ []) ≡ None
none_dead = refl

-- neither is, and the first position is told
first_of_two : reply small (asks_two 5 9 9) ≡ NoClass 1
first_of_two = refl

-- the number of arguments comes before the classes
arity_before_class : reply small (asks 5 9) ≡ WrongArity
arity_before_class = refl

-- and the selector before all
selector_before_all : reply small (asks 6 9) ≡ NoSelector
selector_before_all = refl

all_live : reply small (asks_two 5 0 0) ≡ Answered NotUnderstood
all_live = refl

-- The order of queries: by selector, then arity, then classes.
selector_first : query_order (asks_two 1 9 9) (asks 2 0) ≡ Less
selector_first = refl

then_arity : query_order (asks 1 9) (asks_two 1 0 0) ≡ Less
then_arity = refl

then_classes : query_order (asks_two 1 3 9) (asks_two 1 4 0) ≡ Less
then_classes = refl

then_later_classes : query_order (asks_two 1 3 9) (asks_two 1 3 4) ≡ Greater
then_later_classes = refl

the_other_way_round : query_order (asks 2 0) (asks_two 1 9 9) ≡ Greater
the_other_way_round = refl

same_in_all : query_order (asks_two 1 3 9) (asks_two 1 3 9) ≡ Equal
same_in_all = refl

-- The same query has the same selector and the same classes.
is_same : is_same_query (asks_two 1 3 9) (asks_two 1 3 9) ≡ true
is_same = refl

of_another_selector : is_same_query (asks 1 3) (asks 2 3) ≡ false
of_another_selector = refl

of_more_classes : is_same_query (asks 1 3) (asks_two 1 3 0) ≡ false
of_more_classes = refl

of_other_classes : is_same_query (asks_two 1 3 9) (asks_two 1 9 3) ≡ false
of_other_classes = refl

arity_is_two : arity_of_query (asks_two 1 3 9) ≡ 2
arity_is_two = refl

-- Its classes are kept in the first of four positions.
kept_in_front : pad (3 ∷ 9 ∷ []) ≡ 3 ∷ 9 ∷ 0 ∷ 0 ∷ []
kept_in_front = refl

kept_in_all : pad (3 ∷ 9 ∷ 0 ∷ 4 ∷ []) ≡ 3 ∷ 9 ∷ 0 ∷ 4 ∷ []
kept_in_all = refl
