use Rattle.std.proofs.Common.{◌∙◌, ℕ, IsTrue, find, ap}
use Rattle.dt_graph.specs.Graph.{has_number, has_link}
use Rattle.dt_graph.proofs.Walks.{is_below_self, is_below_step}
use Rattle.dt_graph.proofs.Subclasses.{lowest_found}
use Rattle.dt_graph.proofs.class_graph.ClassGraph.lowest_subclass.Goals as goal

-- each subclass is at or below the class
subclasses_in : (c : goal.After-first_with_parent) → (n : ℕ) → IsTrue (has_link c.args.self.now.links n c.args.class) → IsTrue (has_number c.below-below.result.now n)
subclasses_in c n linked =
    let links = c.args.self.now.links in
    c.below-below.ensures.test n ∙ is_below_step links n c.args.class c.args.class linked (is_below_self links c.args.class)

pub returns : goal.returns
returns c =
    c.first_with_parent.ensures
    ∙ ap (λ ns. find (λ n. has_link c.args.self.now.links n c.args.class) ns) (c.as_slice.ensures.value ∙ c.classes.ensures)
    ∙ lowest_found c.args.self.now.links c.args.class c.below-below.result.now c.law-2.ensures.lawful.links_ascend c.law.ensures.ascend (subclasses_in c)
