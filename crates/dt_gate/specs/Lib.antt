-- The machine of one author and many readers. Read in this order, the first four for what it is and the next three for the law:
-- `Gate`, the parts of the machine and how it begins; `Author` and `Seats`, what the author and a reader may do and what it
-- makes of their record; `Events`, each atomic step; `Counts` and `Sound`, what holds of every gate that is reached;
-- `Runs`, the law. What follows from it: `Words`, the one access that each event is; `Readers`, what a reader rests on;
-- `Sweeps`, what is free again;
-- `AllBounds`, some of these laws with their premises inside, for a crate that runs the machine.
-- Then, worked out: `WrongMachines`, `Examples`, `Busy`, and from that gate on `Effects`, `Allowed`, `Unsound`, `SweepsAndWords`.
pub mod Gate
pub mod Author
pub mod Seats
pub mod Events
pub mod Counts
pub mod Sound
pub mod Runs
pub mod Words
pub mod Readers
pub mod Sweeps
pub mod AllBounds
pub mod WrongMachines
pub mod Examples
pub mod Busy
pub mod Effects
pub mod Allowed
pub mod Unsound
pub mod SweepsAndWords
