-- Why each request is refused, in order.
use Rattle.std.specs.Prelude.{◌≡◌, ◌≢◌, ℕ, ◌<◌, ◌≤◌, ◌⊎◌, Bool, List, [], ◌∷◌, length, map, slice_get, Some, None, IsSome, IsTrue, IsSomeAnd}
use Rattle.freq_range.specs.First.{IsFirst}
use Rattle.freq_range.specs.declared.rule.Rule.{Rule}
use Rattle.rule_tables.specs.Domains.{IsInvalidAt}
use Rattle.rule_tables.specs.declared.domain.Domain.{Domain}
use Rattle.rule_intersect.specs.Tables.{IsTooMany}
use Rattle.chan_def.specs.Covered.{IsValidDef}
use Rattle.chan_def.specs.Kinds.{initiates}
use Rattle.chan_def.specs.declared.definition.ChanDef.{ChanDef}
use Rattle.chan_def.specs.declared.kind.TheConstants.{MOST_IFACES}
use Rattle.chan_def.specs.declared.kind.Kind.{Kind}
use Rattle.chan_def.specs.declared.kind.Kind.TheVariants.{Monitor}
use Rattle.chan_flags.specs.declared.verdict.PowerSetting.{PowerSetting}
use Rattle.reg_hints.specs.Element.{IsElementFault}
use Rattle.reg_hints.specs.Table.{Hinted}
use Rattle.reg_hints.specs.declared.element.ElementFault.TheVariants.{Short, Odd, NotLetters}
use Rattle.reg_journal.specs.Facts.{Journal, hinted, rules_are}
use Rattle.dfs_states.specs.declared.moments.TheConstants.{LAST_MOMENT_MS}
use Rattle.reg_journal.specs.Present.{Iface, most_made, now_of, is_used, profile_of, radios_of, made_of, named, ifaces_on, operation_of, check_of}
use Rattle.reg_journal.specs.Applicable.{applies, code_of_hint, find_domain, global_domains, AddsFifthCode}
use Rattle.reg_journal.specs.Causes.{◌before◌, Where}
use Rattle.reg_journal.specs.Permits.{PassesLimit, BarsOperation, BarsCheck, HasNothingToCheck}
use Rattle.reg_journal.specs.declared.refusal.Refusal.{Refusal}
use Rattle.reg_journal.specs.declared.refusal.Refusal.TheVariants.{MomentBack, MomentTooLarge, NoRadio, SlotUsed, NoInterface, NameTaken, Full, WrongType, Busy, BadChannel, DriverFailed, NothingToCheck, NotRunning, NoCountry, TooManyDomains, TooManyRows, NoRules, TooManyRules, BadRule, ElementShort, ElementOdd, ElementNotLetters}

-- ---- moments and radios

-- what speaks against a moment: it is above the last one that there is, or before the present one
abbrev pub MomentCauses : Journal → ℕ → Refusal → Type 0
MomentCauses J m = Where (LAST_MOMENT_MS < m) (MomentTooLarge m) before Where (m < now_of J) (MomentBack (now_of J))

-- the radio is not there
abbrev pub LacksRadio : Journal → ℕ → Refusal → Type 0
LacksRadio J r = Where (profile_of J r ≡ None) (NoRadio r)

-- the number was used before; it is never used again
abbrev pub RadioAddCauses : Journal → ℕ → Refusal → Type 0
RadioAddCauses J r = Where (IsTrue (is_used J r)) (SlotUsed r)

-- ---- lists of domains

-- the list has too many rows, and so many for the first of its prefixes that has too many
abbrev pub HasTooManyRows : List Domain → ℕ → Type 0
HasTooManyRows ds rows = (after : ℕ) × IsTooMany ds after rows

-- the list at place k has too many rows
abbrev pub IsTooLongAt : List (List Domain) → ℕ → Type 0
IsTooLongAt lists k = (ds : List Domain) × (slice_get lists k ≡ Some ds) × ((rows : ℕ) × HasTooManyRows ds rows)

-- the first of the lists that has too many rows tells how many
abbrev pub RowCauses : List (List Domain) → Refusal → Type 0
RowCauses lists = λ e. (k : ℕ) × IsFirst (IsTooLongAt lists) k
    × (ds : List Domain) × (slice_get lists k ≡ Some ds) × (rows : ℕ) × HasTooManyRows ds rows × (e ≡ TooManyRows rows)

-- the lists that a hint may change: the global one, and those of the radios that are there, by number
abbrev pub all_lists : List Domain → Journal → List (List Domain)
all_lists db J = global_domains db J ∷ map (applies db J) (radios_of J)

-- what speaks against custom rules: their number, the first that is not valid, and too many rows with them
abbrev pub RulesCauses : List Domain → Journal → ℕ → List Rule → Refusal → Type 0
RulesCauses db J r rules =
    LacksRadio J r
    before Where (32 < length rules) (TooManyRules (length rules))
    before Where (rules ≡ []) NoRules
    before (λ e. (k : ℕ) × IsFirst (IsInvalidAt rules) k × (e ≡ BadRule k))
    before RowCauses (applies db (rules_are r rules ∷ J) r ∷ [])

-- ---- hints

-- what speaks against the body of a country element, by its first fault
abbrev pub ElementCauses : List ℕ → Refusal → Type 0
ElementCauses body =
    (λ e. (n : ℕ) × IsElementFault body (Short n) × (e ≡ ElementShort n))
    before (λ e. (n : ℕ) × IsElementFault body (Odd n) × (e ≡ ElementOdd n))
    before Where (IsElementFault body NotLetters) ElementNotLetters

-- what speaks against the hint: its code has no domain, it adds a fifth code, and too many rows with it
abbrev pub HintCauses : List Domain → Journal → Hinted → Refusal → Type 0
HintCauses db J hint =
    Where (find_domain db (code_of_hint hint) ≡ None) (NoCountry (code_of_hint hint))
    before Where (AddsFifthCode J hint) TooManyDomains
    before RowCauses (all_lists db (hinted hint ∷ J))

-- ---- interfaces

-- what speaks against a new interface: no radio, its name, and too many interfaces, on the radio or ever
abbrev pub IfaceAddCauses : Journal → ℕ → List ℕ → Refusal → Type 0
IfaceAddCauses J r name =
    LacksRadio J r
    before Where (IsSome (named J name)) (NameTaken name)
    before Where ((MOST_IFACES ≤ length (ifaces_on J r)) ⊎ (most_made ≤ made_of J)) Full

-- no interface has this name
abbrev pub LacksIface : Journal → List ℕ → Refusal → Type 0
LacksIface J name = Where (named J name ≡ None) (NoInterface name)

-- what speaks against it on the interface of this name
abbrev pub OnIface : Journal → List ℕ → (Iface → Refusal → Type 0) → Refusal → Type 0
OnIface J name causes = LacksIface J name before (λ e. IsSomeAnd (named J name) (λ x. causes x e))

-- it has an operation or a running check
abbrev pub IsInUse : Journal → Iface → Type 0
IsInUse J x = IsSome (operation_of J x.index) ⊎ IsSome (check_of J x.index)

-- what speaks against a new type: the interface operates or checks
abbrev pub SetTypeCauses : Journal → List ℕ → Refusal → Type 0
SetTypeCauses J name = OnIface J name (λ x. Where (IsInUse J x) Busy)

-- what speaks against a power setting: an operation runs, and the fixed power is above its limit
abbrev pub SetPowerCauses : List Domain → Journal → List ℕ → PowerSetting → Refusal → Type 0
SetPowerCauses db J name setting = OnIface J name (λ x e. IsSomeAnd (operation_of J x.index) (λ o. PassesLimit db J x setting o.chan e))

-- what speaks against a stop: the interface is of another type, or does not operate
abbrev pub StopCauses : Journal → List ℕ → Kind → Refusal → Type 0
StopCauses J name kind = OnIface J name (λ x. Where (x.kind ≢ kind) WrongType before Where (operation_of J x.index ≡ None) NotRunning)

-- ---- starts and checks

-- the radio's driver failed
abbrev pub FailsDriver : Bool → Refusal → Type 0
FailsDriver failed = Where (IsTrue failed) DriverFailed

-- the definition of the channel is not valid
abbrev pub InvalidChannel : ChanDef → Refusal → Type 0
InvalidChannel c = Where (IsValidDef c → ⊥) BadChannel

-- a running check, or an operation that this start doesn't replace: a monitor's alone is replaced
abbrev pub InUseFor : Journal → Iface → Kind → Type 0
InUseFor J x kind = IsSome (check_of J x.index) ⊎ (IsSome (operation_of J x.index) × (kind ≢ Monitor))

-- what speaks against a start, in the order in which it is asked; whether the driver failed comes last
abbrev pub StartCauses : List Domain → Journal → List ℕ → Kind → ChanDef → Bool → Refusal → Type 0
StartCauses db J name kind c failed = OnIface J name (λ x.
    Where (x.kind ≢ kind) WrongType
    before Where (InUseFor J x kind) Busy
    before InvalidChannel c
    before BarsOperation db J x c
    before FailsDriver failed)

-- what speaks against a check for radar, in the order in which it is asked; whether the driver failed comes last
abbrev pub CheckCauses : List Domain → Journal → List ℕ → ChanDef → Bool → Refusal → Type 0
CheckCauses db J name c failed = OnIface J name (λ x.
    Where (IsTrue (initiates x.kind) → ⊥) WrongType
    before Where (IsInUse J x) Busy
    before InvalidChannel c
    before BarsCheck db J x c
    before Where (HasNothingToCheck db J x c) NothingToCheck
    before FailsDriver failed)

-- what speaks against a radar event: no radio, or no channel
abbrev pub RadarCauses : Journal → ℕ → ChanDef → Refusal → Type 0
RadarCauses J r c = LacksRadio J r before InvalidChannel c
