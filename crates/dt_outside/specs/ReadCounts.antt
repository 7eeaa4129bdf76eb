-- How reading to the end counts the faults of a source.
use Rattle.std.specs.Prelude.{◌≡◌, ℕ, Result, Ok, Err}
use Rattle.dt_outside.specs.Faults.{one_fault_more}
use Rattle.dt_outside.specs.declared.reading.ReadFault.{ReadFault}
use Rattle.dt_outside.specs.declared.reading.ReadFault.TheVariants.{Read, TooLong, NoMemory}

-- The count is one more where the source failed, and else it stands as it was.
abbrev pub IsReadCounted : {T : Type 0} → Result T ReadFault → ℕ → ℕ → Type 0
IsReadCounted (Ok value) old new = new ≡ old
IsReadCounted (Err Read) old new = new ≡ one_fault_more old
IsReadCounted (Err TooLong) old new = new ≡ old
IsReadCounted (Err NoMemory) old new = new ≡ old
