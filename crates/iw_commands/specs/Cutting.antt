-- A line of a script that comes byte by byte.
use Rattle.std.specs.Prelude.{◌≡◌, ℕ, ◌==◌, nat_lt, Bool, true, false, cond, List, [], ◌∷◌, ◌++◌, length}
use Rattle.reg_base.specs.declared.limits.TheConstants.{MOST_LINE_BYTES}
use Rattle.iw_commands.specs.declared.cutter.Cut.{Cut}
use Rattle.iw_commands.specs.declared.cutter.Cut.TheVariants.{Whole, TooLong}

-- the bytes of the line that are kept, whether there were more than may be, and whether its newline came
pub record OpenLine : Type 0 where
  pub bytes : List ℕ
  pub too_long : Bool
  pub ended : Bool

-- a line of which no byte came
abbrev pub opened : OpenLine
opened = record { bytes = []; too_long = false; ended = false }

-- the line with one byte more: a newline ends it, and a byte past the most marks it
abbrev pub with_byte : ℕ → OpenLine → OpenLine
with_byte b line = cond (b == 10) (record { bytes = line.bytes; too_long = line.too_long; ended = true })
    (cond (nat_lt (length line.bytes) MOST_LINE_BYTES) (record { bytes = line.bytes ++ b ∷ []; too_long = line.too_long; ended = line.ended })
    (record { bytes = line.bytes; too_long = true; ended = line.ended }))

-- all bytes of a line, or that it is too long
abbrev pub IsCut : OpenLine → Cut → Type 0
IsCut line (Whole bytes) = (line.too_long ≡ false) × (bytes.now ≡ line.bytes)
IsCut line TooLong = line.too_long ≡ true
