-- Each request leaves a journal in which each fact came where it might, and what each interface does may go on.
use Rattle.std.proofs.Common.{◌≡◌, ◌≢◌, ℕ, ◌+◌, ◌⊎◌, Bool, List, [], ◌∷◌, Contains, Option, Some, None, IsSome, IsSomeAnd, IsTrue, MatchOption, arith, refl, sym, subst, inl, inr}
use Rattle.freq_range.proofs.Members.{Contains-nothing}
use Rattle.rule_tables.specs.Databases.{IsDb}
use Rattle.rule_tables.specs.declared.domain.Domain.{Domain}
use Rattle.chan_def.specs.Kinds.{initiates}
use Rattle.chan_def.specs.declared.definition.ChanDef.{ChanDef}
use Rattle.chan_flags.specs.declared.verdict.PowerSetting.{PowerSetting}
use Rattle.chan_flags.proofs.Existing.{told_true}
use Rattle.reg_hints.specs.Table.{Hinted, Treated}
use Rattle.reg_hints.specs.declared.hint.Hint.TheVariants.{User}
use Rattle.radio_drv.specs.Names.{IsName}
use Rattle.reg_journal.specs.Causes.{IsFree, ◌before◌, Where}
use Rattle.reg_journal.specs.Due.{FitsItsRadio}
use Rattle.reg_journal.specs.Facts.{Fact, Journal, after, check_begun, hinted, indoor_is, made, moment_is, powered, radar_met, radio_added, rules_are, set_to, started, stopped, typed}
use Rattle.reg_journal.specs.Permits.{BarsCheck, HasNothingToCheck, IsLengthOf, IsPowerOf, PassesLimit}
use Rattle.reg_journal.specs.Present.{Iface, Operation, ifaces_of, ifaces_on, made_of, named, operation_of, profile_of, with_setting}
use Rattle.reg_journal.specs.Refusals.{CheckCauses, ElementCauses, FailsDriver, HintCauses, IfaceAddCauses, InvalidChannel, IsInUse, LacksIface, LacksRadio, MomentCauses, OnIface, RadarCauses, RadioAddCauses, RulesCauses, SetPowerCauses, SetTypeCauses, StartCauses, StopCauses}
use Rattle.reg_journal.specs.Replies.{Decides, Gives, GivesEffects, Hints, IsRegular, at_first, one_more, OnNamed, Replies, SetsPower, Shows, Sweeps, answer_of, driver_hint, element_hint, facts_of_end, facts_of_removal}
use Rattle.reg_journal.specs.Dumps.{AreShownChannels, IsIfaceReport, IsRadioReport}
use Rattle.reg_journal.specs.Requests.{IsAskable, IsTyped}
use Rattle.reg_journal.specs.declared.refusal.Refusal.{Refusal}
use Rattle.reg_journal.specs.declared.refusal.Refusal.TheVariants.{Busy, NothingToCheck, NotRunning, WrongType}
use Rattle.reg_journal.specs.declared.reply.Answer.TheVariants.{Ok, Started, Checking}
use Rattle.reg_journal.specs.declared.reply.Reply.{Reply}
use Rattle.reg_journal.specs.declared.reply.Answer.TheVariants.{Hint as HintTaken}
use Rattle.reg_journal.specs.declared.reply.Reply.TheVariants.{Channels as ShownChannels, Radio as OfRadio, Iface as OfIface}
use Rattle.reg_journal.specs.declared.report.IfaceReport.{IfaceReport}
use Rattle.reg_journal.specs.declared.report.RadioReport.{RadioReport}
use Rattle.chan_flags.specs.declared.record.Chan.{Chan}
use Rattle.dfs_states.specs.declared.dfs.Dfs.{Dfs}
use Rattle.reg_hints.specs.Element.{IsElement}
use Rattle.reg_hints.specs.declared.element.Element.{Element}
use Rattle.reg_journal.specs.declared.request.Request.{Request}
use Rattle.reg_journal.specs.declared.request.Request.TheVariants.{At, RadioAdd, RadioDel, RadioRules, Element as HeardElement, DriverHint, UserHint, Radar, Indoor, IfaceAdd, IfaceDel, SetType, SetPower, Start, Stop, Check, GetReg, Channels, RadioInfo, IfaceInfo}
use Rattle.reg_journal.proofs.Ending.{goes_removal}
use Rattle.reg_journal.proofs.Keeping.{Goes}
use Rattle.reg_journal.proofs.Listed.{named_listed}
use Rattle.reg_journal.proofs.Permitting.{free-first, free-next, never_where, told_valid}
use Rattle.reg_journal.proofs.PowersGo.{goes_set_idle, goes_set_powered, goes_set_same, setting_here}
use Rattle.reg_journal.proofs.Regular.{goes_added, goes_check, goes_ended, goes_made, goes_moment, goes_started, goes_stopped, goes_typed, is_there}
use Rattle.reg_journal.proofs.RulesGo.{driver_fits, goes_hinted, goes_indoor, goes_radar, goes_rules}
use Rattle.reg_journal.proofs.Starting.{StartCausesOn, start_free}

-- ---- frames

-- a refusal appends nothing
decided : (db : List Domain) (J : Journal) (causes : Refusal → Type 0) (granted : Reply → List Fact → Type 0) (reply : Reply) (facts : List Fact) → Goes db J
    → Decides causes granted reply facts → (IsFree causes → granted reply facts → Goes db (after facts J)) → Goes db (after facts J)
decided db J causes granted reply facts goes (inl (e, cause, refused, none)) rest = subst (λ fs. Goes db (after fs J)) (sym none) goes
decided db J causes granted reply facts goes (inr (free, is)) rest = rest free is

-- these facts
given : (db : List Domain) (J : Journal) (facts own : List Fact) → facts ≡ own → Goes db (after own J) → Goes db (after facts J)
given db J facts own same goes = subst (λ fs. Goes db (after fs J)) (sym same) goes

-- the interface of the name
pub at_named : (J : Journal) (name : List ℕ) (P : Iface → Type 0) → IsSomeAnd (named J name) P → (x : Iface) × (named J name ≡ Some x) × P x
at_named J name P is = by (named J name) refl is
  where
    by : (o : Option Iface) → named J name ≡ o → IsSomeAnd o P → (x : Iface) × (named J name ≡ Some x) × P x
    by None at is = absurd is
    by (Some x) at is = (x, at, is)

named_free : (J : Journal) (name : List ℕ) (causes : Iface → Refusal → Type 0) (x : Iface) → named J name ≡ Some x → IsFree (OnIface J name causes) → IsFree (causes x)
named_free J name causes x at free =
    subst (λ o. IsFree (λ e. IsSomeAnd o (λ y. causes y e))) at (free-next (LacksIface J name) (λ e. IsSomeAnd (named J name) (λ y. causes y e)) free)

-- ---- hints

hints_go : (db : List Domain) (J : Journal) (hint : Hinted) (reply : Reply) (facts : List Fact) → Goes db J → FitsItsRadio J hint
    → Hints db J hint reply facts → Goes db (after facts J)
hints_go db J hint reply facts goes fits hints = decided db J (HintCauses db J hint) (Sweeps db J (HintTaken (answer_of J hint)) (hinted hint) (ifaces_of J)) reply facts goes hints
    (λ free (swept, are, answer, all). given db J facts (hinted hint ∷ swept) all (goes_hinted db J hint swept goes fits free are))

pub there : (J : Journal) (r : ℕ) → IsFree (LacksRadio J r) → IsSome (profile_of J r)
there J r free = is_there (profile_of J r) (never_where _ _ free)

-- ---- powers

power_goes : (db : List Domain) (J : Journal) (x : Iface) (setting : PowerSetting) (reply : Reply) (facts : List Fact) → Goes db J → Contains (ifaces_of J) x
    → IsFree (λ e. IsSomeAnd (operation_of J x.index) (λ o. PassesLimit db J x setting o.chan e))
    → SetsPower db J setting x reply facts → Goes db (after facts J)
power_goes db J x setting reply facts goes has free sets = by (operation_of J x.index) refl free sets
  where
    by : (o : Option Operation) → operation_of J x.index ≡ o
        → IsFree (λ e. IsSomeAnd o (λ o. PassesLimit db J x setting o.chan e))
        → MatchOption o
        (Gives Ok (set_to x.index setting ∷ []) reply facts)
        (λ o. (power : ℕ) × IsPowerOf db J (with_setting x.index setting x) o.chan power
        × (((power ≡ o.power) × Gives Ok (set_to x.index setting ∷ []) reply facts)
        ⊎ ((power ≢ o.power) × GivesEffects J Ok (set_to x.index setting ∷ powered x.index power ∷ []) reply facts)))
        → Goes db (after facts J)
    by None none free (answer, all) = given db J facts (set_to x.index setting ∷ []) all (goes_set_idle db J x setting goes has none)
    by (Some o) is free (power, is_power, inl (same, (answer, all))) =
        given db J facts (set_to x.index setting ∷ []) all
        (goes_set_same db J x o setting power goes has is free
        (subst (λ y. IsPowerOf db J y o.chan power) (setting_here x.index setting x refl) is_power) same)
    by (Some o) is free (power, is_power, inr (other, (answer, all))) =
        given db J facts (set_to x.index setting ∷ powered x.index power ∷ []) all
        (goes_set_powered db J x o setting power goes has is free
        (subst (λ y. IsPowerOf db J y o.chan power) (setting_here x.index setting x refl) is_power))

-- ---- checks

-- what speaks against a check on the interface
abbrev pub CheckCausesOn : List Domain → Journal → ChanDef → Bool → Iface → Refusal → Type 0
CheckCausesOn db J c failed x =
    Where (IsTrue (initiates x.kind) → ⊥) WrongType
    before Where (IsInUse J x) Busy
    before InvalidChannel c
    before BarsCheck db J x c
    before Where (HasNothingToCheck db J x c) NothingToCheck
    before FailsDriver failed

check_goes : (db : List Domain) (J : Journal) (x : Iface) (c : ChanDef) (failed : Bool) (length : ℕ) → IsDb db → Goes db J → Contains (ifaces_of J) x → IsFree (CheckCausesOn db J c failed x)
    → IsLengthOf db J x c length → Goes db (check_begun x.index c length ∷ J)
check_goes db J x c failed length is_db goes has free is =
    let busy = free-next (Where (IsTrue (initiates x.kind) → ⊥) WrongType) _ free in
    let bad = free-next (Where (IsInUse J x) Busy) _ busy in
    let bars = free-next (InvalidChannel c) _ bad in
    goes_check db J x c length is_db goes has
    (elim (told_true (initiates x.kind)) [ inl sends ↦ sends | inr never ↦ absurd (never_where _ _ (free-first (Where (IsTrue (initiates x.kind) → ⊥) WrongType) _ free) never) ])
    (never_where _ _ (free-first (Where (IsInUse J x) Busy) _ busy))
    (elim (told_valid c) [ inl valid ↦ valid | inr never ↦ absurd (never_where _ _ (free-first (InvalidChannel c) _ bad) never) ])
    (free-first (BarsCheck db J x c) _ bars) is

-- ---- all requests

-- what is asked of a request beside its type, and of a radio or an interface that comes what its type says
abbrev pub IsSound : Request → Type 0
IsSound (RadioAdd r profile) = IsTyped (RadioAdd r profile)
IsSound (IfaceAdd r name kind) = IsName name
IsSound q = IsAskable q

typed_is_sound : (q : Request) → IsTyped q → IsAskable q → IsSound q
typed_is_sound (RadioAdd r profile) its_types askable = its_types
typed_is_sound (IfaceAdd r name kind) its_types askable = its_types.1
typed_is_sound q its_types askable = askable

pub replies_go : (db : List Domain) (J : Journal) (q : Request) (failed : Bool) (reply : Reply) (facts : List Fact) → IsDb db → Goes db J → IsSound q
    → Replies db J q failed reply facts → Goes db (after facts J)
replies_go db J (At moment) failed reply facts is_db goes sound replies = decided db J (MomentCauses J moment) (Gives Ok (moment_is moment ∷ [])) reply facts goes replies
    (λ free (answer, all). given db J facts (moment_is moment ∷ []) all (goes_moment db J moment goes free))
replies_go db J (RadioAdd r profile) failed reply facts is_db goes sound replies = decided db J (RadioAddCauses J r) (Gives Ok (radio_added r profile ∷ [])) reply facts goes replies
    (λ free (answer, all). given db J facts (radio_added r profile ∷ []) all (goes_added db J r profile goes (let small = sound.0 in omega (arith, small)) sound.1 free))
replies_go db J (RadioDel r) failed reply facts is_db goes sound replies = decided db J (LacksRadio J r) (GivesEffects J Ok (facts_of_removal J r)) reply facts goes replies
    (λ free (answer, all). given db J facts (facts_of_removal J r) all (goes_removal db J r goes (there J r free)))
replies_go db J (RadioRules r rules) failed reply facts is_db goes sound replies = decided db J (RulesCauses db J r rules) (Sweeps db J Ok (rules_are r rules) (ifaces_on J r)) reply facts goes replies
    (λ free (swept, are, answer, all). given db J facts (rules_are r rules ∷ swept) all (goes_rules db J r rules swept goes sound free are))
replies_go db J (HeardElement r body) failed reply facts is_db goes sound replies = decided db J (LacksRadio J r before ElementCauses body) (λ reply facts. (e : Element) × IsElement body e × Hints db J (element_hint J r e.alpha2) reply facts) reply facts goes replies
    (λ free (e, is, hints). hints_go db J (element_hint J r e.alpha2) reply facts goes (there J r (free-first (LacksRadio J r) _ free), refl) hints)
replies_go db J (DriverHint r a) failed reply facts is_db goes sound replies = decided db J (LacksRadio J r) (Hints db J (driver_hint J r a)) reply facts goes replies
    (λ free hints. hints_go db J (driver_hint J r a) reply facts goes (driver_fits J r a (there J r free)) hints)
replies_go db J (UserHint a) failed reply facts is_db goes sound hints = hints_go db J (Treated (User a)) reply facts goes tt hints
replies_go db J (Radar r c) failed reply facts is_db goes sound replies = decided db J (RadarCauses J r c) (Sweeps db J Ok (radar_met r c) (ifaces_on J r)) reply facts goes replies
    (λ free (swept, are, answer, all). given db J facts (radar_met r c ∷ swept) all (goes_radar db J r c swept goes free are))
replies_go db J (Indoor on) failed reply facts is_db goes sound (swept, are, answer, all) = given db J facts (indoor_is on ∷ swept) all (goes_indoor db J on swept goes are)
replies_go db J (IfaceAdd r name kind) failed reply facts is_db goes sound replies = decided db J (IfaceAddCauses J r name) (Gives Ok (made (made_of J + 1) name r kind ∷ [])) reply facts goes replies
    (λ free (answer, all). given db J facts (made (made_of J + 1) name r kind ∷ []) all (goes_made db J r name kind goes sound free))
replies_go db J (IfaceDel name) failed reply facts is_db goes sound replies = decided db J (LacksIface J name) (OnNamed J name (λ x. GivesEffects J Ok (facts_of_end J x))) reply facts goes replies
    (λ free on.
    let found = at_named J name (λ x. GivesEffects J Ok (facts_of_end J x) reply facts) on in
    given db J facts (facts_of_end J found.0) found.2.1 (goes_ended db J found.0 goes (named_listed J name found.0 found.1)))
replies_go db J (SetType name kind) failed reply facts is_db goes sound replies = decided db J (SetTypeCauses J name) (OnNamed J name (λ x. Gives Ok (typed x.index kind ∷ []))) reply facts goes replies
    (λ free on.
    let found = at_named J name (λ x. Gives Ok (typed x.index kind ∷ []) reply facts) on in
    given db J facts (typed (found.0).index kind ∷ []) found.2.1
    (goes_typed db J found.0 kind goes (named_listed J name found.0 found.1) (never_where _ _ (named_free J name (λ x. Where (IsInUse J x) Busy) found.0 found.1 free))))
replies_go db J (SetPower name setting) failed reply facts is_db goes sound replies = decided db J (SetPowerCauses db J name setting) (OnNamed J name (SetsPower db J setting)) reply facts goes replies
    (λ free on.
    let found = at_named J name (λ x. SetsPower db J setting x reply facts) on in
    power_goes db J found.0 setting reply facts goes (named_listed J name found.0 found.1)
    (named_free J name (λ x e. IsSomeAnd (operation_of J x.index) (λ o. PassesLimit db J x setting o.chan e)) found.0 found.1 free)
    found.2)
replies_go db J (Start name kind c) failed reply facts is_db goes sound replies = decided db J (StartCauses db J name kind c failed) (OnNamed J name (λ x reply facts. (power : ℕ) × IsPowerOf db J x c power × Gives (Started power) (started x.index c power ∷ []) reply facts)) reply facts goes replies
    (λ free on.
    let found = at_named J name (λ x. (power : ℕ) × IsPowerOf db J x c power × Gives (Started power) (started x.index c power ∷ []) reply facts) on in
    let may = start_free db J kind c failed found.0 found.2.0 (named_free J name (StartCausesOn db J kind c failed) found.0 found.1 free) found.2.1 in
    given db J facts (started (found.0).index c found.2.0 ∷ []) found.2.2.1
    (goes_started db J found.0 kind c found.2.0 goes (named_listed J name found.0 found.1) may.0 may.1))
replies_go db J (Stop name kind) failed reply facts is_db goes sound replies = decided db J (StopCauses J name kind) (OnNamed J name (λ x. Gives Ok (stopped x.index ∷ []))) reply facts goes replies
    (λ free on.
    let found = at_named J name (λ x. Gives Ok (stopped x.index ∷ []) reply facts) on in
    let own = named_free J name (λ x. Where (x.kind ≢ kind) WrongType before Where (operation_of J x.index ≡ None) NotRunning) found.0 found.1 free in
    given db J facts (stopped (found.0).index ∷ []) found.2.1
    (goes_stopped db J found.0 goes (named_listed J name found.0 found.1)
    (is_there (operation_of J (found.0).index) (never_where _ _ (free-next (Where ((found.0).kind ≢ kind) WrongType) _ own)))))
replies_go db J (Check name c) failed reply facts is_db goes sound replies = decided db J (CheckCauses db J name c failed) (OnNamed J name (λ x reply facts. (length : ℕ) × IsLengthOf db J x c length × Gives (Checking length) (check_begun x.index c length ∷ []) reply facts)) reply facts goes replies
    (λ free on.
    let found = at_named J name (λ x. (length : ℕ) × IsLengthOf db J x c length × Gives (Checking length) (check_begun x.index c length ∷ []) reply facts) on in
    given db J facts (check_begun (found.0).index c found.2.0 ∷ []) found.2.2.1
    (check_goes db J found.0 c failed found.2.0 is_db goes (named_listed J name found.0 found.1) (named_free J name (CheckCausesOn db J c failed) found.0 found.1 free) found.2.1))
replies_go db J GetReg failed reply facts is_db goes sound (shown, none) = given db J facts [] none goes
replies_go db J (Channels r) failed reply facts is_db goes sound replies = decided db J (LacksRadio J r) (Shows (λ reply. (list : List (Chan × Dfs)) × AreShownChannels db J r list × (reply ≡ ShownChannels r list))) reply facts goes replies (λ free (shown, none). given db J facts [] none goes)
replies_go db J (RadioInfo r) failed reply facts is_db goes sound replies = decided db J (LacksRadio J r) (Shows (λ reply. (report : RadioReport) × IsRadioReport J r report × (reply ≡ OfRadio report))) reply facts goes replies (λ free (shown, none). given db J facts [] none goes)
replies_go db J (IfaceInfo name) failed reply facts is_db goes sound replies = decided db J (LacksIface J name) (OnNamed J name (λ x. Shows (λ reply. (report : IfaceReport) × IsIfaceReport J x report × (reply ≡ OfIface report)))) reply facts goes replies
    (λ free on.
    let found = at_named J name (λ x. Shows (λ reply. (report : IfaceReport) × IsIfaceReport J x report × (reply ≡ OfIface report)) reply facts) on in
    given db J facts [] found.2.1 goes)

-- ---- regular journals

at_first_goes : (db : List Domain) → Goes db []
at_first_goes db = record { due = tt; settled = λ x has. absurd (Contains-nothing x has); plain = tt }

pub regular_goes : (db : List Domain) (J : Journal) → IsRegular db J → IsDb db × Goes db J
regular_goes db J (at_first is) = (is, at_first_goes db)
regular_goes db J (one_more older next q failed reply regular its_types askable (facts, replies, same)) =
    let was = regular_goes db older regular in
    (was.0, subst (Goes db) (sym same) (replies_go db older q failed reply facts was.0 was.1 (typed_is_sound q its_types askable) replies))
