use Rattle.std.proofs.Common.{◌∙◌, ap, eqb, ◌++◌}
use Rattle.std.proofs.lemmas.List.Filters.{dedup_is}
use Rattle.dt_pages.specs.Paged.{numbering}
use Rattle.dt_pages.specs.Drawing.{nodes_over}
use Rattle.dt_pages.proofs.DrawnNodes.{changed_are}
use Rattle.dt_pages.proofs.paged.PagedTree.changed_nodes.Goals as goal

pub returns : goal.returns
returns c = changed_are (numbering c.args.self.now) c.args.draft.now c.in_ok-nodes.nodes.items c.dedup.new.self.items
    c.in_ok-middles.middles.items c.in_ok-tops.tops.items c.extend_from_slice.new.self.items c.extend_from_slice-2.new.self.items
    c.in_ok-nodes.ensures (dedup_is eqb c.in_ok-nodes.nodes.items c.dedup.new.self.items c.dedup.ensures.filtered)
    (c.in_ok-middles.ensures ∙ ap nodes_over c.deref.ensures.value) (c.in_ok-tops.ensures ∙ ap nodes_over c.deref-2.ensures.value)
    (c.in_ok-extend_from_slice.ensures.items ∙ ap (λ xs. c.dedup.new.self.items ++ xs) c.deref-3.ensures.value)
    (c.in_ok-extend_from_slice-2.ensures.items ∙ ap (λ xs. c.extend_from_slice.new.self.items ++ xs) c.deref-4.ensures.value)
