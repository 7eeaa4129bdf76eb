-- What the author of a bench keeps.
pub mod Turns
