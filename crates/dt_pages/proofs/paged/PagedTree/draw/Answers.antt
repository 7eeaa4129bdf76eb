use Rattle.std.proofs.Common.{◌∙◌, ap, sym, subst, All, ℕ, List}
use Rattle.std.specs.FinMap.{get}
use Rattle.dt_pages.specs.Numbering.{IsNode}
use Rattle.dt_pages.specs.Paged.{numbering}
use Rattle.dt_pages.proofs.ChangedNodes.{all_nodes}
use Rattle.dt_pages.proofs.paged.PagedTree.draw.Goals as goal

pub draw_all-requires : goal.draw_all-requires
draw_all-requires c = subst (λ (xs : List ℕ). All IsNode xs) (sym (c.deref.ensures.value ∙ c.in_ok-nodes.ensures))
    (all_nodes (numbering c.args.self.now) c.args.draft.now (λ q past. ap (λ d. get d q) (sym c.draft.view_is) ∙ c.draft.invariant q past))
