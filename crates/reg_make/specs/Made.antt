-- The requests that are made: eight radios with two interfaces each, and then drawn turns.
use Rattle.std.specs.Prelude.{ℕ, zero, suc, ◌+◌, ◌*◌, ◌==◌, ◌||◌, nat_lt, if◌then◌else◌, List, [], ◌∷◌, ◌++◌, true, false}
use Rattle.rule_tables.specs.declared.code.Alpha2.{Alpha2}
use Rattle.chan_def.specs.declared.definition.ChanDef.{ChanDef}
use Rattle.chan_def.specs.declared.kind.Kind.TheVariants.{Ap, Station}
use Rattle.chan_def.specs.declared.width.Width.TheVariants.{W20}
use Rattle.chan_flags.specs.Profiles.{Abilities, abilities}
use Rattle.reg_journal.specs.declared.request.Request.{Request}
use Rattle.reg_journal.specs.declared.request.Request.TheVariants.{At, RadioAdd, Element, UserHint, Radar, IfaceAdd, Start, Stop, Check}
use Rattle.reg_make.specs.Draws.{number_after, drawn}

-- what each radio can do: 2.4 and 5 GHz, 160 MHz, also where it checks for radar, 3000 mBm, on eight channels at once
abbrev pub made_profile : Abilities
made_profile = abilities (record { ghz2 = true; ghz5 = true; ghz6 = false }) 160 160 3000 8 false false

-- the name of the radio's access point: `ap` and the radio's digit
abbrev pub ap_name : ℕ → List ℕ
ap_name r = 97 ∷ 112 ∷ (48 + r) ∷ []

-- the name of its station: `sta` and the digit
abbrev pub sta_name : ℕ → List ℕ
sta_name r = 115 ∷ 116 ∷ 97 ∷ (48 + r) ∷ []

-- the radio comes, then its access point, then its station
abbrev pub of_radio : ℕ → List Request
of_radio r = RadioAdd r made_profile ∷ IfaceAdd r (ap_name r) Ap ∷ IfaceAdd r (sta_name r) Station ∷ []

-- those of n radios from number r on
unfoldable pub of_radios : ℕ → ℕ → List Request
of_radios zero r = []
of_radios (suc n) r = of_radio r ++ of_radios n (r + 1)

-- 00, US and GB
abbrev pub country : ℕ → Alpha2
country d = if d == 0 then record { a = 48; b = 48 } else if d == 1 then record { a = 85; b = 83 } else record { a = 71; b = 66 }

-- the element's body: the code, a blank, and 4 channels from 36 on at 23 dBm
abbrev pub element_body : Alpha2 → List ℕ
element_body code = code.a ∷ code.b ∷ 32 ∷ 36 ∷ 4 ∷ 23 ∷ []

-- 20 MHz at 5180 MHz and further up
abbrev pub channel : ℕ → ChanDef
channel d = record { control_khz = 5180000 + 20000 * d; width = W20; centre_khz = 5180000 + 20000 * d }

-- what a turn asks that drew 5, 6, 7 or 8, of this radio on this channel
abbrev pub asked_on_channel : ℕ → ℕ → ChanDef → Request
asked_on_channel d r chan =
    if d == 5 then Radar r chan
    else if nat_lt d 8 then Check (ap_name r) chan
    else Start (ap_name r) Ap chan

-- What a turn asks that drew d below 10, and whose next two numbers are y and z.
abbrev pub drawn_request : ℕ → ℕ → ℕ → ℕ → Request
drawn_request moment d y z =
    if nat_lt d 3 then At (moment + drawn y 100000)
    else if d == 3 then UserHint (country (drawn y 3))
    else if d == 4 then Element (drawn y 8) (element_body (country (1 + drawn z 2)))
    else if d == 9 then Stop (ap_name (drawn y 8)) Ap
    else asked_on_channel d (drawn y 8) (channel (drawn z 8))

-- what the turn asks that begins with the number x, at this moment
abbrev pub turn_request : ℕ → ℕ → Request
turn_request moment x = drawn_request moment (drawn (number_after x) 10) (number_after (number_after x)) (number_after (number_after (number_after x)))

-- The last number that a turn draws from, which drew d and whose next two numbers are y and z: one that moves the moment, asks
-- for a country or stops draws twice, each other one three times.
abbrev pub last_drawn : ℕ → ℕ → ℕ → ℕ
last_drawn d y z = if nat_lt d 4 || d == 9 then y else z

-- the number after the turn that begins with the number x
abbrev pub turn_number : ℕ → ℕ
turn_number x = last_drawn (drawn (number_after x) 10) (number_after (number_after x)) (number_after (number_after (number_after x)))

-- the moment after the turn
abbrev pub turn_moment : ℕ → ℕ → ℕ
turn_moment moment x = if nat_lt (drawn (number_after x) 10) 3 then moment + drawn (number_after (number_after x)) 100000 else moment

-- what n turns ask from this moment and number on
unfoldable pub of_turns : ℕ → ℕ → ℕ → List Request
of_turns zero moment x = []
of_turns (suc n) moment x = turn_request moment x ∷ of_turns n (turn_moment moment x) (turn_number x)

-- all requests: those of the eight radios, and n turns that begin with the number n
abbrev pub made_requests : ℕ → List Request
made_requests n = of_radios 8 0 ++ of_turns n 0 n
