pub mod Appending
pub mod Losing
pub mod OverCalls
