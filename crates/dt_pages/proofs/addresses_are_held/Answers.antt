use Rattle.dt_pages.proofs.Addresses.{levels_hold, images_set_words, nothing_is_past}
use Rattle.dt_pages.proofs.addresses_are_held.Goals as goal

pub returns : goal.returns
returns c = record { levels = levels_hold; images = images_set_words; past = nothing_is_past }
