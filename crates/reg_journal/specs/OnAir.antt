-- What a radio's driver has on air.
use Rattle.std.specs.Prelude.{◌≡◌, ℕ, ◌<◌, ◌==◌, Bool, false, List, [], ◌∷◌, length, Option, Some, None, if◌then◌else◌}
use Rattle.std.specs.Option.{option_map_or}
use Rattle.chan_def.specs.declared.definition.ChanDef.{ChanDef}
use Rattle.radio_drv.specs.Air.{started as put_on_air, stopped as taken_off, powered as given_power}
use Rattle.radio_drv.specs.declared.on_air.CheckTold.{CheckTold}
use Rattle.radio_drv.specs.declared.on_air.OnAir.{OnAir}
use Rattle.reg_journal.specs.Facts.{Journal, CameAmong, started, stopped, powered, check_begun}
use Rattle.reg_journal.specs.declared.reply.Answer.TheVariants.{Checking}
use Rattle.reg_journal.specs.declared.reply.Reply.{Reply}
use Rattle.reg_journal.specs.declared.reply.Reply.TheVariants.{Plain}
use Rattle.reg_journal.specs.Present.{operation_of, radio_of}

-- an operation on air: of which interface, on which channel, with which power in mBm
abbrev pub entry : ℕ → ChanDef → ℕ → OnAir
entry i chan power = record { iface = i; chan = chan; power_mbm = power }

-- the interface of this index was made on the radio
abbrev pub is_on : Journal → ℕ → ℕ → Bool
is_on J i r = option_map_or (λ q. q == r) (radio_of J i) false

-- The operations of the radio's interfaces with their powers, in order of their starts. One that replaces another keeps its
-- place.
abbrev pub on_air_of : Journal → ℕ → List OnAir
on_air_of [] r = []
on_air_of (started i chan power ∷ J) r = if is_on J i r then put_on_air (entry i chan power) (on_air_of J r) else on_air_of J r
on_air_of (stopped i ∷ J) r = if is_on J i r then taken_off i (on_air_of J r) else on_air_of J r
on_air_of (powered i power ∷ J) r = if is_on J i r then given_power i power (on_air_of J r) else on_air_of J r
on_air_of (f ∷ J) r = on_air_of J r

-- the check last told to the radio's driver: that of the last check begun on the radio
abbrev pub told_of : Journal → ℕ → Option CheckTold
told_of [] r = None
told_of (check_begun i chan length ∷ J) r = if is_on J i r then Some (record { iface = i; chan = chan; length_ms = length }) else told_of J r
told_of (f ∷ J) r = told_of J r

-- The interface has operated without a pause since the start that follows these facts: it did not operate before, and has not
-- stopped since.
pub record OperatesSince (J : Journal) (i : ℕ) (older : Journal) : Type 0 where
  pub newer : Journal
  pub chan : ChanDef
  pub power : ℕ
  pub start : CameAmong J newer (started i chan power) older
  pub resting : operation_of older i ≡ None
  pub kept : (front back : Journal) → CameAmong newer front (stopped i) back → ⊥

-- the start since which the one interface has operated came before that of the other
pub record StartedBefore (J : Journal) (i j : ℕ) : Type 0 where
  pub first : Journal
  pub second : Journal
  pub first_since : OperatesSince J i first
  pub second_since : OperatesSince J j second
  pub earlier : length first < length second

-- a check (CAC) began by this reply
abbrev pub TellsCheck : Reply → Type 0
TellsCheck (Plain (Checking length) effects) = Unit {0}
TellsCheck reply = ⊥
