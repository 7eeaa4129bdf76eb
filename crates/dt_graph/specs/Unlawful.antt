-- Graphs that aren't lawful, one for each thing that holds of a lawful graph.
use Rattle.std.specs.Prelude.{◌<◌, IsTrue, [], ◌∷◌, refl}
use Rattle.std.proofs.Common.{arith}
use Rattle.std.proofs.lemmas.List.Elements.{All-head}
use Rattle.dt_graph.specs.Graph.{Link, Graph, is_live}
use Rattle.dt_graph.specs.Lawful.{LawfulGraph}
use Rattle.dt_graph.specs.GraphChange.{link_effect}
use Rattle.dt_graph.specs.Examples.{to, diamond, shape, circle, squircle}
use Rattle.dt_graph.specs.RefusalExamples.{sixteen}

-- ---- classes in another order than that of their numbers

abbrev disordered : Graph
disordered = record { classes = circle ∷ shape ∷ []; links = [] }

classes_in_disorder : LawfulGraph disordered → ⊥
classes_in_disorder lawful = let ascend = lawful.classes_ascend in cc

-- ---- a class past the last number

abbrev too_high : Graph
too_high = record { classes = 2048 ∷ []; links = [] }

a_class_too_high : LawfulGraph too_high → ⊥
a_class_too_high lawful = let low = All-head (λ class. class < 2048) 2048 [] lawful.classes_in_range in omega arith

-- ---- a link twice

abbrev twice : Graph
twice = record { classes = shape ∷ circle ∷ []; links = to circle shape ∷ to circle shape ∷ [] }

a_link_twice : LawfulGraph twice → ⊥
a_link_twice lawful = let ascend = lawful.links_ascend in cc

-- ---- a link to a class that isn't live

abbrev loose : Graph
loose = record { classes = circle ∷ []; links = to circle shape ∷ [] }

a_loose_link : LawfulGraph loose → ⊥
a_loose_link lawful =
    let ends = All-head (λ (link : Link). IsTrue (is_live loose link.class) × IsTrue (is_live loose link.parent)) (to circle shape) [] lawful.links_join_live in
    let parent = ends.1 in
    cc

-- ---- seventeen parents

seventeen_parents : LawfulGraph (link_effect sixteen 16 17) → ⊥
seventeen_parents lawful = let few = lawful.few_parents 16 in omega arith

-- ---- a shape that is a squircle

a_round : LawfulGraph (link_effect diamond shape squircle) → ⊥
a_round lawful = lawful.no_cycle shape squircle (circle ∷ shape ∷ []) (refl, (refl, (refl, refl)))
