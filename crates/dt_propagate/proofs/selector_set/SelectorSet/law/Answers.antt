use Rattle.std.proofs.Common.{◌<◌, subst, All}
use Rattle.dt_graph.specs.Lawful.{AscendingNumbers}
use Rattle.dt_selectors.specs.declared.limits.TheConstants.{SELECTORS}
use Rattle.dt_graph.proofs.ClassBits.{AscendingNumbers-below, in_range_below}
use Rattle.dt_propagate.proofs.selector_set.SelectorSet.law.Goals as goal

pub returns-clause-ascend : goal.returns-clause-ascend
returns-clause-ascend c = subst AscendingNumbers c.self.view_is (AscendingNumbers-below SELECTORS c.self.inside.words)

pub returns-clause-in_range : goal.returns-clause-in_range
returns-clause-in_range c = subst (All (λ n. n < SELECTORS)) c.self.view_is (in_range_below SELECTORS c.self.inside.words)
