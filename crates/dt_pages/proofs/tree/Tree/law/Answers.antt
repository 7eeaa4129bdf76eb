use Rattle.std.proofs.Common.{subst}
use Rattle.dt_pages.specs.Image.{Image, IsImage}
use Rattle.dt_pages.specs.TreeForm.{word_of_tree}
use Rattle.dt_pages.proofs.Images.{image_of_is_image}
use Rattle.dt_pages.proofs.tree.Tree.law.Goals as goal

pub returns : goal.returns
returns c = subst (λ (image : Image). IsImage image) c.self.view_is (image_of_is_image (word_of_tree c.self.inside.middles.items))
