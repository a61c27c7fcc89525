-- Drawn numbers: those of a linear congruential generator.
use Rattle.std.specs.Prelude.{ℕ, ◌+◌, ◌*◌, ◌/◌, ◌%◌, ◌^◌}

-- the number that comes after x
abbrev pub number_after : ℕ → ℕ
number_after x = (x * 6364136223846793005 + 1442695040888963407) % 2 ^ 64

-- what the number x draws below m: its upper 31 bits, modulo m
abbrev pub drawn : ℕ → ℕ → ℕ
drawn x m = x / 2 ^ 33 % m
