-- How the rows of selectors of several arguments get displacements. Read `Rows`, what the rows are and in which order they
-- are placed; `Reading`, how a query is read; then `Placing`, what a reading shows, the rule of placing, and the kind; and
-- `Examples`, worked out. `Kept` says what a value keeps; `Changing`, `Laying`, `Levels`, `Midway`, `Turns` and `Staging` say
-- what the steps of a stage do, for the code and its proofs. How it is shown to be a lawful kind is in `ReadingLaws`,
-- `MrdLaws`, `MrdStanding` and `MrdPart`.
pub mod Rows
pub mod Reading
pub mod Placing
pub mod Examples
pub mod ReadingLaws
pub mod MrdLaws
pub mod Changing
pub mod Kept
pub mod MrdStanding
pub mod MrdPart
pub mod Laying
pub mod Midway
pub mod Turns
pub mod Staging
pub mod Levels
