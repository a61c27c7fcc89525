-- Where each kind of fact may come: what holds of every journal to which requests led.
use Rattle.std.specs.Prelude.{◌≡◌, ℕ, ◌+◌, ◌^◌, ◌<◌, ◌≤◌, ◌⊎◌, false, ◌||◌, List, [], ◌∷◌, length, All, None, IsSome, IsSomeAnd, IsTrue}
use Rattle.freq_range.specs.Valid.{IsValidRule}
use Rattle.rule_tables.specs.declared.domain.Domain.{Domain}
use Rattle.chan_def.specs.Covered.{IsValidDef}
use Rattle.chan_def.specs.Kinds.{initiates}
use Rattle.chan_def.specs.declared.kind.Kind.TheVariants.{Monitor}
use Rattle.chan_def.specs.declared.kind.TheConstants.{MOST_IFACES}
use Rattle.chan_flags.specs.Profiles.{IsProfile}
use Rattle.reg_hints.specs.Table.{Hinted, Treated, Own}
use Rattle.reg_hints.specs.declared.hint.Hint.TheVariants.{User, Driver, Element}
use Rattle.radio_drv.specs.Names.{IsName}
use Rattle.reg_journal.specs.Facts.{Fact, Journal, moment_is, radio_added, radio_removed, rules_are, hinted, indoor_is, radar_met, made, ended, typed, set_to, started, stopped, powered, check_begun, check_dropped}
use Rattle.dfs_states.specs.declared.moments.TheConstants.{LAST_MOMENT_MS}
use Rattle.reg_journal.specs.Present.{most_made, now_of, abilities_of, is_used, profile_of, ifaces_on, made_of, named, indexed, operation_of, check_of}
use Rattle.reg_journal.specs.Applicable.{code_of_hint, find_domain, is_self_managed, AddsFifthCode}

-- the interface is there, and has neither an operation nor a running check
abbrev pub IsResting : Journal → ℕ → Type 0
IsResting J i = IsSome (indexed J i) × (operation_of J i ≡ None) × (check_of J i ≡ None)

-- the interface is there and has no running check; an operation is replaced on a monitor alone
abbrev pub MayStart : Journal → ℕ → Type 0
MayStart J i = (check_of J i ≡ None) × IsSomeAnd (indexed J i) (λ x. (operation_of J i ≡ None) ⊎ (x.kind ≡ Monitor))

-- the hint may come: its domain is known, and it adds no fifth one
abbrev pub IsHintDue : List Domain → Journal → Hinted → Type 0
IsHintDue db J hint = IsSome (find_domain db (code_of_hint hint)) × (AddsFifthCode J hint → ⊥)

-- the radio that the hint names is there, and the hint is taken as its profile says
abbrev pub FitsItsRadio : Journal → Hinted → Type 0
FitsItsRadio J (Treated (User a)) = Unit {0}
FitsItsRadio J (Treated (Driver r a)) = IsSome (profile_of J r) × (is_self_managed J r ≡ false)
FitsItsRadio J (Treated (Element r a deaf)) = IsSome (profile_of J r) × (deaf ≡ ((abilities_of J r).deaf || is_self_managed J r))
FitsItsRadio J (Own r a) = IsSome (profile_of J r) × IsTrue (is_self_managed J r)

-- the fact may come after the journal
abbrev pub MayFollow : List Domain → Journal → Fact → Type 0
MayFollow db J (moment_is moment) = (now_of J ≤ moment) × (moment ≤ LAST_MOMENT_MS)
MayFollow db J (radio_added r profile) = (r < 8) × (is_used J r ≡ false) × IsProfile profile
MayFollow db J (radio_removed r) = IsSome (profile_of J r) × (ifaces_on J r ≡ [])
MayFollow db J (rules_are r rules) = IsSome (profile_of J r) × (0 < length rules) × (length rules ≤ 32) × All IsValidRule rules × All (λ rule. rule.cac_s ≡ 0) rules
MayFollow db J (hinted hint) = IsHintDue db J hint × FitsItsRadio J hint
MayFollow db J (indoor_is on) = Unit {0}
MayFollow db J (radar_met r chan) = IsSome (profile_of J r) × IsValidDef chan
MayFollow db J (made i name r kind) =
    (i ≡ made_of J + 1) × (i ≤ most_made) × (named J name ≡ None) × IsSome (profile_of J r) × (length (ifaces_on J r) < MOST_IFACES) × IsName name
MayFollow db J (ended i) = IsResting J i
MayFollow db J (typed i kind) = IsResting J i
MayFollow db J (set_to i setting) = IsSome (indexed J i)
MayFollow db J (started i chan power) = MayStart J i × IsValidDef chan × (power < 2 ^ 16)
MayFollow db J (stopped i) = IsSome (operation_of J i)
MayFollow db J (powered i power) = IsSome (operation_of J i) × (power < 2 ^ 16)
MayFollow db J (check_begun i chan length) = IsResting J i × IsSomeAnd (indexed J i) (λ x. IsTrue (initiates x.kind)) × IsValidDef chan × (length < 2 ^ 32)
MayFollow db J (check_dropped i) = IsSome (check_of J i)

-- each fact came where it might
abbrev pub EachMayFollow : List Domain → Journal → Type 0
EachMayFollow db [] = Unit {0}
EachMayFollow db (f ∷ J) = MayFollow db J f × EachMayFollow db J
