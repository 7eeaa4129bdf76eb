use Rattle.std.proofs.Common.{ap, ◌/◌, ◌%◌}
use Rattle.dt_pages.specs.TreeForm.{word_of_tree, word_of_middle}
use Rattle.dt_pages.proofs.Images.{image_blank}
use Rattle.dt_pages.proofs.tree.Tree.new.Goals as goal

pub returns : goal.returns
returns c = image_blank (word_of_tree c.in_ok-middles.middles.items)
    (λ address. ap (λ node. word_of_middle node (address % 262144)) (c.in_ok-middles.ensures.missing (address / 262144)))
