-- Selector table indexing. Read `Sti` first, then `Examples`, worked out. How it is shown to be a lawful kind is in
-- `StiLaws`, `StiStanding` and `StiPart`, which the kind's own laws cite.
pub mod Sti
pub mod Examples
pub mod StiLaws
pub mod StiStanding
pub mod StiPart
