use Rattle.std.proofs.Common.{◌<◌, subst, arith}
use Rattle.dt_graph.specs.Lawful.{LawfulGraph}
use Rattle.dt_graph.specs.declared.limits.TheConstants.{CLASSES}
use Rattle.dt_graph.proofs.LinkLists.{each_number}
use Rattle.dt_graph.proofs.LawfulChanges.{joins_live, antisymmetric}
use Rattle.dt_graph.proofs.ParentLists.{parent_count_listed}
use Rattle.dt_graph.proofs.class_rows.ClassRows.law.Goals as goal

lawful : (c : goal.After-self) → LawfulGraph c.args.self.now
lawful c = subst LawfulGraph c.self.view_is c.self.invariant.lawful

pub returns-clause-live_in_range : goal.returns-clause-live_in_range
returns-clause-live_in_range c =
    each_number (λ class. class < CLASSES) c.args.self.now.classes (lawful c).classes_in_range

pub returns-clause-links_join_live : goal.returns-clause-links_join_live
returns-clause-links_join_live c = joins_live c.args.self.now (lawful c)

pub returns-clause-few_parents : goal.returns-clause-few_parents
returns-clause-few_parents c = λ class.
    omega (arith, parent_count_listed c.args.self.now.links class, (lawful c).few_parents class)

pub returns-clause-antisymmetric : goal.returns-clause-antisymmetric
returns-clause-antisymmetric c = antisymmetric c.args.self.now.links (lawful c).no_cycle
