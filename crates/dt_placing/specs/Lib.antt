-- How the cells of a selector, as a row, get a place. Read `Rows`, the used indexes of a selector; then `Placing`, the rule of
-- placing, what a reading shows, and the kind; and `Examples`, worked out, with `ColourBatchExamples` and `RowBatchExamples`,
-- which have every word that a batch makes (by `BatchFacts`). For the code and its proofs `Turn` says what one turn does, and
-- `Staying` what one does that moves nothing. How it is shown to be a lawful kind is in `RowsLaws`, `PlacingLaws`,
-- `PlacingStanding` and `PlacingPart`; `TurnLaws` says in terms of queries what is used when a turn comes.
pub mod Rows
pub mod Placing
pub mod Examples
pub mod Turn
pub mod Staying
pub mod RowsLaws
pub mod PlacingLaws
pub mod PlacingStanding
pub mod PlacingPart
pub mod TurnLaws
pub mod BatchFacts
pub mod ColourBatchExamples
pub mod RowBatchExamples
