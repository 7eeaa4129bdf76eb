-- What every kind of table has in common. Read in this order:
-- `Regions` and `Cell`, where the words of an image stand and what the word of a cell is; `Held`, what a table holds and
-- what changes make of it; `Kind`, a table kind apart from any value, with its laws, and `Standing`, what a value of it
-- stands for; `Find`, look-up over an image; `Heads`, the class words and selector words of a program; `Serving`, when an
-- image serves a program, and what the public calls promise of every kind; `Following`, how a table follows a batch;
-- then `Examples`, worked out. `Pair` is the kind that two kinds make, `PlaceWords` are the words that it sets itself, and
-- `PairExamples` has both worked out. `HeldLaws`, `PairHeldLaws`, `PartLaws`, `PairLaws` and `PairStanding` are cited by
-- the laws of the kinds alone.
pub mod Regions
pub mod Cell
pub mod Held
pub mod Kind
pub mod Standing
pub mod Find
pub mod Heads
pub mod Serving
pub mod Following
pub mod Examples
pub mod HeldLaws
pub mod Pair
pub mod PlaceWords
pub mod PairHeldLaws
pub mod PartLaws
pub mod PairLaws
pub mod PairStanding
pub mod PairExamples
