-- How the faults of a source or a sink are counted.
use Rattle.std.specs.Prelude.{◌≡◌, ℕ, ◌+◌, ◌-◌, ◌^◌, ◌<◌, min, Result, Ok, Err}

-- the greatest count of faults, at which a count stands still
abbrev pub last_count : ℕ
last_count = 2 ^ 64 - 1

-- The count rose: it is greater than before, unless it stood at the greatest count already.
abbrev pub Rose : ℕ → ℕ → Type 0
Rose old new = old < last_count → old < new

-- the count after one more fault
abbrev pub one_fault_more : ℕ → ℕ
one_fault_more faults = min (faults + 1) last_count

-- A call that is fine leaves the count as it was, and one that failed adds one, up to the greatest count.
abbrev pub IsCounted : {T E : Type 0} → Result T E → ℕ → ℕ → Type 0
IsCounted (Ok value) old new = new ≡ old
IsCounted (Err fault) old new = new ≡ one_fault_more old
