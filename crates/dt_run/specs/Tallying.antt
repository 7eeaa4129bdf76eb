-- Counting up to the greatest number of 64 bits.
use Rattle.std.specs.Prelude.{ℕ}

abbrev pub greatest : ℕ
greatest = 18446744073709551615
