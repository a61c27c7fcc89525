-- Facts that leave a radio as it is kept.
use Rattle.std.specs.Prelude.{◌≡◌, ℕ, ◌==◌, ◌&&◌, false}
use Rattle.reg_hints.specs.Table.{Own, Treated}
use Rattle.reg_journal.specs.Facts.{Fact, Journal, moment_is, radio_added, radio_removed, rules_are, hinted, radar_met, started, stopped, check_begun, check_dropped}
use Rattle.reg_journal.specs.OnAir.{is_on}
use Rattle.reg_books.specs.Calls.{sends_first}

-- the fact speaks neither of the radio nor of all radios
abbrev pub SparesRadio : Journal → ℕ → Fact → Type 0
SparesRadio J r (moment_is moment) = ⊥
SparesRadio J r (hinted (Treated hint)) = ⊥
SparesRadio J r (hinted (Own q a)) = (r == q) ≡ false
SparesRadio J r (radio_added q profile) = (r == q) ≡ false
SparesRadio J r (radio_removed q) = (r == q) ≡ false
SparesRadio J r (rules_are q rules) = (r == q) ≡ false
SparesRadio J r (radar_met q chan) = (r == q) ≡ false
SparesRadio J r (started i chan power) = (is_on J i r && sends_first J i) ≡ false
SparesRadio J r (stopped i) = (is_on J i r && sends_first J i) ≡ false
SparesRadio J r (check_begun i chan length) = is_on J i r ≡ false
SparesRadio J r (check_dropped i) = is_on J i r ≡ false
SparesRadio J r f = Unit {0}
