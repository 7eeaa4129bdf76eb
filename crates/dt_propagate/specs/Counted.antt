-- A number that counts steps, up to the greatest number of 64 bits.
use Rattle.std.specs.Prelude.{◌≡◌, ℕ, ◌+◌, ◌-◌, ◌≤◌, min}
use Rattle.dt_propagate.specs.declared.change_fault.ChangeFault.{ChangeFault}
use Rattle.dt_propagate.specs.declared.change_fault.ChangeFault.TheVariants.{CellsFull, RowsFull, NoMemory}

-- the greatest number of 64 bits
abbrev pub greatest : ℕ
greatest = 18446744073709551615

-- the steps go from one number to the other, and the number goes on by as many, or to the greatest
pub record CountsOn (before after counted counts : ℕ) : Type 0 where
  pub grows : before ≤ after
  pub counts_on : counts ≡ min (counted + (after - before)) greatest

-- the steps where this is answered: none at a limit, and no fewer where memory was wanted
abbrev pub CountsAt : ChangeFault → ℕ → ℕ → Type 0
CountsAt CellsFull before after = after ≡ before
CountsAt RowsFull before after = after ≡ before
CountsAt NoMemory before after = before ≤ after
