-- What is held after changes, and the words of a program, worked out.
use Rattle.std.proofs.Common.{inl, inr, arith}
use Rattle.std.specs.Prelude.{◌≡◌, ℕ, List, [], ◌∷◌, true, false, refl}
use Rattle.dt_pages.specs.Reading.{blank}
use Rattle.dt_definitions.specs.Program.{Program, empty_program}
use Rattle.dt_scratch.specs.Query.{Query}
use Rattle.dt_scratch.specs.declared.reply.Answer.TheVariants.{Method, NotUnderstood, Ambiguous}
use Rattle.dt_scratch.specs.declared.reply.Change.{Change}
use Rattle.dt_cells.specs.Regions.{IsCell}
use Rattle.dt_cells.specs.Held.{none_held, held_after, is_changed, is_changed_place}
use Rattle.dt_cells.specs.Heads.{class_word, head_word, with_heads}

abbrev sent : ℕ → List ℕ → Query
sent selector classes = record { selector = selector; classes = classes }

-- one query is answered by a body, and the next is ambiguous
abbrev two_changes : List Change
two_changes = record { query = sent 3 (1 ∷ []); answer = Method 7 } ∷ record { query = sent 3 (2 ∷ []); answer = Ambiguous } ∷ []

the_first_is_held : held_after none_held two_changes (sent 3 (1 ∷ [])) ≡ Method 7
the_first_is_held = refl

the_second_is_held : held_after none_held two_changes (sent 3 (2 ∷ [])) ≡ Ambiguous
the_second_is_held = refl

another_is_not : held_after none_held two_changes (sent 3 (1 ∷ 2 ∷ [])) ≡ NotUnderstood
another_is_not = refl

taken_out_again : held_after (held_after none_held two_changes) (record { query = sent 3 (1 ∷ []); answer = NotUnderstood } ∷ []) (sent 3 (1 ∷ [])) ≡ NotUnderstood
taken_out_again = refl

the_selector_has_a_change : is_changed two_changes 3 ≡ true
the_selector_has_a_change = refl

another_selector_has_none : is_changed two_changes 4 ≡ false
another_selector_has_none = refl

its_place_word : is_changed_place two_changes 8195 ≡ true
its_place_word = refl

-- class 0 is live, and selector 0 takes two classes
abbrev small : Program
small = record {
  graph = record { classes = 0 ∷ []; links = [] };
  selectors = record { number = 0; arity = 2 } ∷ [];
  definitions = [];
}

a_live_class : class_word small 0 ≡ 1
a_live_class = refl

no_live_class : class_word small 1 ≡ 0
no_live_class = refl

a_live_selector : head_word small 4096 ≡ 2
a_live_selector = refl

no_head : head_word small 8192 ≡ 0
no_head = refl

heads_of_the_small_program : with_heads empty_program small blank 4096 ≡ 2
heads_of_the_small_program = refl

and_back_again : with_heads small empty_program (with_heads empty_program small blank) 4096 ≡ 0
and_back_again = refl

other_words_stay : with_heads empty_program small (λ address. 9) 5 ≡ 9
other_words_stay = refl

-- between the cells of one class and the master array there is no cell
no_cell_between : IsCell 33554432 → ⊥
no_cell_between (from, below, part) = elim part [
  | inl single ↦ omega (arith, single)
  | inr master ↦ omega (arith, master)
]
