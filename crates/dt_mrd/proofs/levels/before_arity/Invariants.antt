use Rattle.std.proofs.Common.{◌≢◌, ◌≤◌, ◌-◌, length, take, All}
use Rattle.dt_scratch.specs.Query.{arity_of_query}
use Rattle.dt_mrd.proofs.levels.before_arity.Given as goal

abbrev pub invariant-loop-count : goal.invariant-loop-count
invariant-loop-count l = record {
  within : l.count ≤ length l.changes;
  others : All (λ change. arity_of_query change.query ≢ l.arity) (take l.count l.changes);
}

abbrev pub decreases-loop-count : goal.decreases-loop-count
decreases-loop-count l = length l.changes - l.count
