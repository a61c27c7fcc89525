-- How the numbers of a printed text are written: MHz exact in kHz, and dBm exact in mBm. No zero stands last behind a point,
-- and no point stands where nothing is behind it.
use Rattle.std.specs.Prelude.{ℕ, ◌+◌, ◌*◌, ◌/◌, ◌%◌, ◌==◌, List, [], ◌∷◌, decimal, if◌then◌else◌}
use Rattle.text_lines.specs.Spelling.{Decimal, decimal_text}

-- the digits of so many thousandths, without zeros at the end
abbrev pub thousandths : ℕ → List ℕ
thousandths n =
    if n == 0 then []
    else if n % 100 == 0 then (48 + n / 100) ∷ []
    else if n % 10 == 0 then (48 + n / 100) ∷ (48 + n / 10 % 10) ∷ []
    else (48 + n / 100) ∷ (48 + n / 10 % 10) ∷ (48 + n % 10) ∷ []

-- kHz in MHz, and mBm in dBm
abbrev pub mhz_of : ℕ → Decimal
mhz_of khz = record { whole = decimal (khz / 1000); fraction = thousandths (khz % 1000) }

-- hundredths of a dBm as a decimal number of dBm
abbrev pub dbm_of : ℕ → Decimal
dbm_of mbm = record { whole = decimal (mbm / 100); fraction = thousandths (mbm % 100 * 10) }

-- a frequency in kHz as it is printed in MHz
unfoldable pub decimal_mhz_text : ℕ → List ℕ
decimal_mhz_text khz = decimal_text (mhz_of khz)

-- a power in mBm as it is printed in dBm
unfoldable pub dbm_text : ℕ → List ℕ
dbm_text mbm = decimal_text (dbm_of mbm)
