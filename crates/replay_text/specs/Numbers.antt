-- Sums and differences that stay within the numbers of 64 bits.
-- Assumes nothing.
use Rattle.std.specs.Prelude.{◌+◌, ◌-◌, min, ℕ}

-- the sum, or the greatest number where that is more
abbrev pub plus : ℕ → ℕ → ℕ
plus a b = min (a + b) 18446744073709551615

-- the difference, or 0 where the second is more
abbrev pub minus : ℕ → ℕ → ℕ
minus a b = a - b
