use Rattle.std.proofs.Common.{subst}
use Rattle.dt_selectors.specs.Lawful.{LawfulSelectors}
use Rattle.dt_selectors.proofs.Rows.{LawfulSelectors-rows}
use Rattle.dt_selectors.proofs.Arities.{live_in_range}
use Rattle.dt_selectors.proofs.LawfulChanges.{listed_once}
use Rattle.dt_selectors.proofs.selectors.Selectors.law.Goals as goal

lawful : (c : goal.After-self) → LawfulSelectors c.args.self.now
lawful c = subst LawfulSelectors c.self.view_is (LawfulSelectors-rows c.self.inside.rows.items c.self.invariant.0 c.self.invariant.1)

pub returns-clause-lawful : goal.returns-clause-lawful
returns-clause-lawful c = lawful c

pub returns-clause-live_in_range : goal.returns-clause-live_in_range
returns-clause-live_in_range c = live_in_range c.args.self.now (lawful c)

pub returns-clause-listed_once : goal.returns-clause-listed_once
returns-clause-listed_once c = λ selector. listed_once selector c.args.self.now (lawful c).ascend
