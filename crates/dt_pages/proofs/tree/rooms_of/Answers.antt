use Rattle.std.proofs.Common.{ap, ◌/◌, ◌%◌, ◌∙◌}
use Rattle.dt_pages.specs.TreeForm.{word_of_middle}
use Rattle.dt_pages.proofs.tree.rooms_of.Goals as goal

pub returns : goal.returns
returns c = record {
  count = c.make_rooms.ensures.count;
  zeros = λ address. c.in_ok-make_rooms.ensures.words address ∙ ap (λ node. word_of_middle node (address % 262144)) (c.in_ok-rooms.ensures.missing (address / 262144));
  rooms = λ address low some. c.in_ok-make_rooms.ensures.rooms address some;
}
