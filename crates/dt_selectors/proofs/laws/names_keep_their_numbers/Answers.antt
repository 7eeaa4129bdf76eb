use Rattle.dt_selectors.proofs.Texts.{numbers_stay, new_names_are_last, known_names_stay}
use Rattle.dt_selectors.proofs.laws.names_keep_their_numbers.Goals as goal

pub returns : goal.returns
returns c = record { stay = numbers_stay; new = new_names_are_last; known = known_names_stay }
