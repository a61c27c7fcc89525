-- Worked rows, as journals.
use Rattle.std.specs.Prelude.{ℕ, List, [], ◌∷◌}
use Rattle.chan_def.specs.declared.definition.ChanDef.{ChanDef}
use Rattle.chan_def.specs.declared.kind.Kind.TheVariants.{Ap}
use Rattle.chan_flags.specs.Profiles.{Abilities}
use Rattle.reg_journal.specs.Facts.{Journal, moment_is, radio_added, radar_met, made, started, stopped, check_begun}

-- a radio, and on it an interface that checks the channel for 60,000 ms from the moment 0 on; now it is this moment
abbrev pub checked_row : Abilities → List ℕ → ChanDef → ℕ → Journal
checked_row profile name c moment = moment_is moment ∷ check_begun 1 c 60000 ∷ made 1 name 0 Ap ∷ radio_added 0 profile ∷ []

-- a radio that met radar on the channel at 70,000 ms; now it is this moment
abbrev pub radar_row : Abilities → ChanDef → ℕ → Journal
radar_row profile c moment = moment_is moment ∷ radar_met 0 c ∷ moment_is 70000 ∷ radio_added 0 profile ∷ []

-- a radio, and on it an interface that checks a channel for 60,000 ms from the moment 0 on; at 30,000 ms, while the check runs, the
-- radio met radar on another channel; now it is this moment
abbrev pub disturbed_row : Abilities → List ℕ → (checked met : ChanDef) → ℕ → Journal
disturbed_row profile name checked met moment =
    moment_is moment ∷ radar_met 0 met ∷ moment_is 30000 ∷ check_begun 1 checked 60000 ∷ made 1 name 0 Ap ∷ radio_added 0 profile ∷ []

-- a radio, and on it an interface that checks the channel for 60,000 ms from the moment 0 on, and operates on it from 61,999 to
-- 100,000 ms; now it is this moment
abbrev pub used_row : Abilities → List ℕ → ChanDef → (power moment : ℕ) → Journal
used_row profile name c power moment =
    moment_is moment ∷ stopped 1 ∷ moment_is 100000 ∷ started 1 c power ∷ moment_is 61999 ∷ check_begun 1 c 60000 ∷ made 1 name 0 Ap ∷ radio_added 0 profile ∷ []
