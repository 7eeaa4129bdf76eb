use Rattle.std.proofs.Common.{◌<◌, subst, sym, All}
use Rattle.dt_graph.specs.Lawful.{AscendingNumbers}
use Rattle.dt_graph.specs.declared.limits.TheConstants.{CLASSES}
use Rattle.dt_graph.proofs.ClassBits.{AscendingNumbers-below, in_range_below}
use Rattle.dt_graph.proofs.LinkLists.{each_number}
use Rattle.dt_graph.proofs.AscendingSets.{same_numbers}
use Rattle.dt_graph.proofs.class_set.ClassSet.law.Goals as goal

pub returns-clause-ascend : goal.returns-clause-ascend
returns-clause-ascend c = subst AscendingNumbers c.self.view_is (AscendingNumbers-below CLASSES c.self.inside.words)

pub returns-clause-in_range : goal.returns-clause-in_range
returns-clause-in_range c = subst (All (λ n. n < CLASSES)) c.self.view_is (in_range_below CLASSES c.self.inside.words)

pub returns-clause-below_limit : goal.returns-clause-below_limit
returns-clause-below_limit c =
    each_number (λ n. n < CLASSES) c.args.self.now (returns-clause-in_range c)

pub returns-clause-determined : goal.returns-clause-determined
returns-clause-determined c = λ numbers ascend same.
    same_numbers c.args.self.now numbers (returns-clause-ascend c) ascend (λ n. sym (same n))
