-- Worked examples of which queries an edit concerns: edits of the diamond.
use Rattle.std.specs.Prelude.{◌≡◌, true, false, List, [], ◌∷◌, refl}
use Rattle.dt_graph.specs.Graph.{Link}
use Rattle.dt_definitions.specs.Step.{effect, stepped}
use Rattle.dt_definitions.specs.declared.edit.Edit.{Edit}
use Rattle.dt_definitions.specs.declared.edit.Edit.TheVariants as edit
use Rattle.dt_scratch.specs.declared.reply.Answer.TheVariants.{Method}
use Rattle.dt_scratch.specs.declared.reply.Reply.TheVariants.{Answered}
use Rattle.dt_scratch.specs.Resolve.{reply}
use Rattle.dt_scratch.specs.Locality.{reaches_up_to, is_below_key, concerns, batch_concerns, meets, is_candidate}
use Rattle.dt_scratch.specs.LocalityLaws.{EditsChangeWhatTheyConcern, BatchesChangeWhatTheyConcern}
use Rattle.dt_scratch.specs.Examples.{A, B, C, D, f, asks, asks_two, diamond, diamond_graph}

abbrev links : List Link
links = diamond_graph.links

-- a query reaches up to a class by any of its own
by_the_second : reaches_up_to links C (asks_two f B D) ≡ true
by_the_second = refl

by_none : reaches_up_to links C (asks_two f B A) ≡ false
by_none = refl

-- below the classes of a definition in each position, and of its selector
below_in_both : is_below_key links f (A ∷ B ∷ []) (asks_two f B D) ≡ true
below_in_both = refl

below_in_one : is_below_key links f (A ∷ B ∷ []) (asks_two f D C) ≡ false
below_in_one = refl

of_another_selector : is_below_key links 5 (A ∷ B ∷ []) (asks_two f B D) ≡ false
of_another_selector = refl

-- that a link of C goes concerns what is at or below C; that a definition at A comes, what is at or below A
what_is_below_c : concerns links (edit.Unlink C A) (asks f D) ≡ true
what_is_below_c = refl

not_what_is_beside : concerns links (edit.Unlink C A) (asks f B) ≡ false
not_what_is_beside = refl

what_is_below_a : concerns links (edit.Define f (A ∷ []) 5) (asks f D) ≡ true
what_is_below_a = refl

not_of_another : concerns links (edit.Define f (A ∷ []) 5) (asks 5 D) ≡ false
not_of_another = refl

its_own_selector : concerns links (edit.DropSelector f) (asks f 9) ≡ true
its_own_selector = refl

-- of a batch, what one of its edits does
abbrev two_edits : List Edit
two_edits = edit.Unlink D C ∷ edit.Undefine f (C ∷ []) ∷ []

by_the_first_edit : batch_concerns links two_edits (asks f D) ≡ true
by_the_first_edit = refl

by_neither : batch_concerns links two_edits (asks f B) ≡ false
by_neither = refl

-- met at a class whose links differ, a query is a candidate where a definition is applicable
one_of_two_is_met : meets links (C ∷ []) (B ∷ D ∷ []) ≡ true
one_of_two_is_met = refl

none_is_met : meets links (D ∷ []) (B ∷ C ∷ []) ≡ false
none_is_met = refl

d_is_a_candidate : is_candidate (D ∷ []) [] diamond (asks f D) ≡ true
d_is_a_candidate = refl

none_without_a_definition : is_candidate (A ∷ []) [] diamond (asks f A) ≡ false
none_without_a_definition = refl

by_a_definition_that_differs : is_candidate [] (record { selector = f; classes = C ∷ [] } ∷ []) diamond (asks f D) ≡ true
by_a_definition_that_differs = refl

by_one_that_is_not_above : is_candidate [] (record { selector = f; classes = C ∷ [] } ∷ []) diamond (asks f B) ≡ false
by_one_that_is_not_above = refl

-- so B keeps its method
b_keeps_its_method : EditsChangeWhatTheyConcern → reply (effect diamond (edit.Unlink C A)) (asks f B) ≡ Answered (Method 10)
b_keeps_its_method law = law diamond (edit.Unlink C A) (asks f B) refl

b_keeps_it_by_both : BatchesChangeWhatTheyConcern → reply (stepped diamond two_edits) (asks f B) ≡ Answered (Method 10)
b_keeps_it_by_both law = law diamond (stepped diamond two_edits) two_edits refl (asks f B) refl
