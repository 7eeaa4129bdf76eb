-- The words of a command line.
use Rattle.std.specs.Prelude.{ℕ, List, [], Result, Ok, Err}

-- the words that arguments give, where `after` tells those of arguments that are text; others give none
abbrev pub words_in : {A E : Type 0} → (A → List (List ℕ)) → Result A E → List (List ℕ)
words_in after (Ok all) = after all
words_in after (Err error) = []
