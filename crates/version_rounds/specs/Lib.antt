-- What the author keeps from round to round.
pub mod Chains
