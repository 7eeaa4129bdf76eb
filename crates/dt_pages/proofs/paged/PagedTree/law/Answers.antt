use Rattle.std.proofs.Common.{subst}
use Rattle.dt_pages.specs.Image.{IsImage}
use Rattle.dt_pages.specs.Numbering.{IsNumbering}
use Rattle.dt_pages.specs.Paged.{Paged, numbering}
use Rattle.dt_pages.proofs.Needing.{numbering_word}
use Rattle.dt_pages.proofs.paged.PagedTree.law.Goals as goal

pub returns : goal.returns
returns c = record {
  image = subst (λ (p : Paged). IsImage p.image) c.self.view_is c.law.ensures;
  words = numbering_word c.args.self.now;
  numbers = subst (λ (p : Paged). IsNumbering (numbering p)) c.self.view_is c.self.invariant.1;
}
