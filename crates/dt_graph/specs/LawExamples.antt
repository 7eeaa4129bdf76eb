-- Worked examples of what a change of links leaves: the squircle's link to the square goes.
use Rattle.std.specs.Prelude.{◌≡◌, true, false, List, [], ◌∷◌, refl}
use Rattle.std.proofs.Common.{arith, sym}
use Rattle.std.proofs.lemmas.Bool.Decides.{nat_tests}
use Rattle.dt_graph.specs.Graph.{Link}
use Rattle.dt_graph.specs.Below.{is_below}
use Rattle.dt_graph.specs.GraphChange.{unlink_effect}
use Rattle.dt_graph.specs.LinkChanges.{is_below_any, OthersKeepTheirLinks}
use Rattle.dt_graph.specs.Laws.{SameAreBelowEdited, OthersStayBelow}
use Rattle.dt_graph.specs.Examples.{diamond, circle, other, shape, square, squircle}

abbrev only_a_circle : List Link
only_a_circle = (unlink_effect diamond squircle square).links

below_one_of_two : is_below_any diamond.links (other ∷ square ∷ []) squircle ≡ true
below_one_of_two = refl

below_none_of_two : is_below_any diamond.links (square ∷ squircle ∷ []) circle ≡ false
below_none_of_two = refl

-- of the links only those of the squircle differ
all_but_the_squircle : OthersKeepTheirLinks (squircle ∷ []) diamond.links only_a_circle
all_but_the_squircle class parent apart = grind (arith, nat_tests)

the_squircle_does_not : OthersKeepTheirLinks (circle ∷ []) diamond.links only_a_circle → ⊥
the_squircle_does_not same = let there : true ≡ false = same squircle square refl in cc

-- so a circle is below a shape as before, and a squircle is below itself
a_circle_stays_below : OthersStayBelow → is_below only_a_circle circle shape ≡ true
a_circle_stays_below law = sym (law (squircle ∷ []) diamond.links only_a_circle all_but_the_squircle circle shape refl)

a_squircle_stays_below_one : SameAreBelowEdited → is_below_any only_a_circle (squircle ∷ []) squircle ≡ true
a_squircle_stays_below_one law = sym (law (squircle ∷ []) diamond.links only_a_circle all_but_the_squircle squircle)
