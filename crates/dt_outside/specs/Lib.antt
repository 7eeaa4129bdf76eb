-- To be read first, in this order: how faults of the outside are counted, what a source may lose, what a sink was told,
-- and how reads are counted; then a source and a sink in memory. Laws and worked examples stand last.
pub mod Faults
pub mod Losing
pub mod Putting
pub mod ReadCounts
pub mod InMemory
pub mod Examples
pub mod Laws
