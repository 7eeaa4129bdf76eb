pub mod Arities
pub mod LawfulChanges
pub mod Rows
pub mod Texts
pub mod LiveLists
pub mod Undoing
