use Rattle.dt_selectors.proofs.Texts.{numbers_stay_along}
use Rattle.dt_selectors.proofs.laws.lists_of_names_keep_numbers.Goals as goal

pub returns : goal.returns
returns c = numbers_stay_along
