-- Small worked examples of queries that an edit doesn't concern: each kind of edit of the diamond, and a call beside it.
use Rattle.std.specs.Prelude.{◌≡◌, false, List, [], ◌∷◌, refl}
use Rattle.dt_graph.specs.Graph.{Link}
use Rattle.dt_definitions.specs.declared.edit.Edit.TheVariants as edit
use Rattle.dt_scratch.specs.Locality.{concerns}
use Rattle.dt_scratch.specs.Examples.{A, B, C, D, f, asks, diamond_graph}

abbrev links : List Link
links = diamond_graph.links

-- a class that comes concerns none of the others
another_class_comes : concerns links (edit.AddClass 9 []) (asks f D) ≡ false
another_class_comes = refl

-- that a class goes, is linked or unlinked concerns what is at or below it, and neither what is beside it nor above
what_is_beside_a_drop : concerns links (edit.DropClass C) (asks f B) ≡ false
what_is_beside_a_drop = refl

what_is_beside_a_link : concerns links (edit.Link C B) (asks f B) ≡ false
what_is_beside_a_link = refl

what_is_above_an_unlink : concerns links (edit.Unlink D C) (asks f C) ≡ false
what_is_above_an_unlink = refl

-- a selector that comes or goes concerns its own alone
another_selector_comes : concerns links (edit.AddSelector 5 1) (asks f D) ≡ false
another_selector_comes = refl

another_selector_goes : concerns links (edit.DropSelector 5) (asks f D) ≡ false
another_selector_goes = refl

-- a definition concerns neither what is beside its class nor what is above it
what_is_beside_a_definition : concerns links (edit.Define f (C ∷ []) 5) (asks f B) ≡ false
what_is_beside_a_definition = refl

what_is_above_a_definition : concerns links (edit.Undefine f (C ∷ [])) (asks f A) ≡ false
what_is_above_a_definition = refl
