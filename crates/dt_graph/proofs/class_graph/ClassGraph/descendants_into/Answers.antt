use Rattle.std.proofs.Common.{◌≡◌, ◌++◌, ℕ, List, sym, ap, subst, ◌∙◌, append-nil, OnOk}
use Rattle.dt_graph.specs.Lawful.{LawfulGraph}
use Rattle.dt_graph.proofs.DescendantLists.{no_descendants}
use Rattle.dt_graph.proofs.class_graph.ClassGraph.descendants_into.Goals as goal

pub returns-then-not-is_live-clause-ok : goal.returns-then-not-is_live-clause-ok
returns-then-not-is_live-clause-ok c =
    sym (append-nil c.args.out.now.items)
    ∙ ap (λ ns. c.args.out.now.items ++ ns) (no_descendants c.args.self.now c.args.class (subst LawfulGraph c.self.view_is c.law.ensures.lawful) (sym c.is_live.ensures ∙ c.if-not-is_live.true))

pub returns-clause-ok : goal.returns-clause-ok
returns-clause-ok c =
    let P : List ℕ → Type 0 = λ ns. OnOk c.push_into.result (c.push_into.new.out.items ≡ c.args.out.now.items ++ ns) in
    subst P (c.below-below.ensures.live (sym c.is_live.ensures ∙ c.if-not-is_live.false)) c.push_into.ensures.ok
