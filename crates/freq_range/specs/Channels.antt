-- The channel table, and the channels that a range holds.
use Rattle.std.specs.Prelude.{◌≡◌, ℕ, ◌+◌, ◌-◌, ◌*◌, ◌%◌, ◌≤◌, ◌⊎◌}
use Rattle.freq_range.specs.declared.channel.Band.{Band}
use Rattle.freq_range.specs.declared.channel.Band.TheVariants.{Ghz2, Ghz5, Ghz6}

-- A channel of 20 MHz round the centre lies between the ends; all in kHz.
pub record Holds (start end centre : ℕ) : Type 0 where
  pub from_start : start + 10000 ≤ centre
  pub to_end : centre + 10000 ≤ end

-- n is one of first, first + 4 and so on to last
pub record IsStepOfFour (first last n : ℕ) : Type 0 where
  pub from_first : first ≤ n
  pub to_last : n ≤ last
  pub by_four : (n - first) % 4 ≡ 0

-- the band has a channel of this number, and this is its centre in kHz
abbrev pub IsChannel : Band → ℕ → ℕ → Type 0
IsChannel Ghz2 n khz = ((1 ≤ n) × (n ≤ 13) × (khz ≡ 2407000 + 5000 * n)) ⊎ ((n ≡ 14) × (khz ≡ 2484000))
IsChannel Ghz5 n khz = (IsStepOfFour 36 64 n ⊎ (IsStepOfFour 100 144 n ⊎ IsStepOfFour 149 177 n)) × (khz ≡ 5000000 + 5000 * n)
IsChannel Ghz6 n khz = IsStepOfFour 1 233 n × (khz ≡ 5950000 + 5000 * n)

-- some channel of the table has this centre, in kHz
abbrev pub IsCentre : ℕ → Type 0
IsCentre khz = (band : Band) × (n : ℕ) × IsChannel band n khz
