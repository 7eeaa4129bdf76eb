-- Small worked examples of the words of a command line, whose first argument is the program's name.
use Rattle.std.specs.Prelude.{◌≡◌, ℕ, List, [], ◌∷◌, drop, codes, Ok, Err, refl}
use Rattle.dispatch_cli.specs.Arguments.{words_in}

words_after_the_name : words_in {A = List (List ℕ)} {E = ℕ} (drop 1) (Ok (codes "dispatch" ∷ codes "run" ∷ [] ∷ [])) ≡ codes "run" ∷ [] ∷ []
words_after_the_name = refl

no_word_without_arguments : words_in {A = List (List ℕ)} {E = ℕ} (drop 1) (Ok []) ≡ []
no_word_without_arguments = refl

-- arguments that are no text, or that no memory was found for
no_word_of_no_text : words_in {A = List (List ℕ)} {E = ℕ} (drop 1) (Err 5) ≡ []
no_word_of_no_text = refl
