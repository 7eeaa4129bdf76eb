-- A program whose table follows every batch. Read in this order: `Listed`, a program's cells and rows, so that they can be
-- counted; `Commit`, what a commit makes of a program, and what its answer says; `Laws`, what follows from these;
-- `Words`, what a commit, and a history of commits, makes of the words of a table; `Examples`, worked out. `Kept` is how a
-- program and its table are kept in step.
pub mod Listed
pub mod Commit
pub mod Laws
pub mod Kept
pub mod Words
pub mod Examples
