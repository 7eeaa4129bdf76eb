-- The numbers that a store is made with.
use Rattle.std.specs.Prelude.{ℕ, ◌^◌, ◌≤◌}

-- each number is in its range
pub record AreLimits (readers pages entries versions : ℕ) : Type 0 where
  pub some_reader : 1 ≤ readers
  pub readers_most : readers ≤ 256
  pub some_pages : 16 ≤ pages
  pub pages_most : pages ≤ 65536
  pub some_entry : 1 ≤ entries
  pub entries_most : entries ≤ 2 ^ 31
  pub some_version : 1 ≤ versions
  pub versions_most : versions ≤ 2 ^ 48
