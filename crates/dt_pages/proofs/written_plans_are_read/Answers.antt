use Rattle.dt_pages.proofs.WrittenPlans as plans
use Rattle.dt_pages.proofs.written_plans_are_read.Goals as goal

pub returns : goal.returns
returns c = record { read = plans.written_plans_are_read; reached = plans.written_plans_reach }
