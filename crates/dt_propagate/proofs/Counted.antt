-- Counts that go on.
use Rattle.std.proofs.Common.{ℕ, ◌≤◌, arith}
use Rattle.dt_propagate.specs.Counted.{CountsOn, greatest}

pub counts_further : (a b c counted more most : ℕ) → CountsOn a b counted more → CountsOn b c more most → CountsOn a c counted most
counts_further a b c counted more most first second = record {
  grows = omega (arith, first.grows, second.grows);
  counts_on = omega (arith, first.grows, second.grows, first.counts_on, second.counts_on);
}

pub counts_none : (a counted : ℕ) → counted ≤ greatest → CountsOn a a counted counted
counts_none a counted few = record { grows = omega arith; counts_on = omega (arith, few) }
