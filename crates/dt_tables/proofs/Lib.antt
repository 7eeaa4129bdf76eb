pub mod Premises
pub mod Listed
pub mod Commit
pub mod KeptSteps
pub mod NextWords
