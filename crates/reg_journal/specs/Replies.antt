-- What is replied to each request over the journal, and which facts it appends: the first refusal whose condition holds, with
-- no fact, or else what is granted.
use Rattle.std.specs.Prelude.{◌≡◌, ◌≢◌, ℕ, ◌+◌, ◌⊎◌, Bool, ◌||◌, cond, List, [], ◌∷◌, ◌++◌, MatchOption, IsSomeAnd}
use Rattle.std.specs.List.{flat_map}
use Rattle.rule_tables.specs.Databases.{IsDb}
use Rattle.rule_tables.specs.declared.code.Alpha2.{Alpha2}
use Rattle.rule_tables.specs.declared.domain.Domain.{Domain}
use Rattle.chan_flags.specs.declared.verdict.PowerSetting.{PowerSetting}
use Rattle.reg_hints.specs.Element.{IsElement}
use Rattle.reg_hints.specs.Table.{Hinted, Treated, Own, treatment}
use Rattle.reg_hints.specs.declared.element.Element.{Element}
use Rattle.reg_hints.specs.declared.hint.Hint.TheVariants.{User, Driver, Element as ElementHint}
use Rattle.reg_journal.specs.Facts.{Fact, Journal, after, moment_is, radio_added, radio_removed, rules_are, hinted, indoor_is, radar_met, made, ended, typed, set_to, started, stopped, powered, check_begun}
use Rattle.reg_journal.specs.Present.{Iface, abilities_of, ifaces_of, ifaces_on, made_of, named, operation_of, with_setting}
use Rattle.reg_journal.specs.Applicable.{hints_of, is_self_managed}
use Rattle.reg_journal.specs.Causes.{◌before◌, IsFree}
use Rattle.reg_journal.specs.Permits.{IsPowerOf, IsLengthOf}
use Rattle.reg_journal.specs.Refusals.{MomentCauses, LacksRadio, RadioAddCauses, RulesCauses, ElementCauses, HintCauses, IfaceAddCauses, LacksIface, SetTypeCauses, SetPowerCauses, StopCauses, StartCauses, CheckCauses, RadarCauses}
use Rattle.reg_journal.specs.Requests.{IsAskable, IsTyped}
use Rattle.reg_journal.specs.Sweep.{AreSwept, released}
use Rattle.reg_journal.specs.Effects.{effects_of}
use Rattle.reg_journal.specs.Dumps.{AreSections, AreShownChannels, IsRadioReport, IsIfaceReport}
use Rattle.reg_journal.specs.declared.refusal.Refusal.{Refusal}
use Rattle.reg_journal.specs.declared.reply.Answer.{Answer}
use Rattle.reg_journal.specs.declared.reply.Answer.TheVariants.{Ok, Hint as HintTaken, Started, Checking, Refused}
use Rattle.reg_journal.specs.declared.reply.HintAnswer.{HintAnswer}
use Rattle.reg_journal.specs.declared.reply.HintAnswer.TheVariants.{Treated as ByTable, Own as ByItself}
use Rattle.reg_journal.specs.declared.reply.Reply.{Reply}
use Rattle.reg_journal.specs.declared.reply.Reply.TheVariants.{Plain, Regs, Channels, Radio, Iface as OfIface}
use Rattle.reg_journal.specs.declared.request.Request.{Request}
use Rattle.reg_journal.specs.declared.request.Request.TheVariants.{At, RadioAdd, RadioDel, RadioRules, Element as HeardElement, DriverHint, UserHint, Radar, Indoor, IfaceAdd, IfaceDel, SetType, SetPower, Start, Stop, Check, GetReg, Channels as GetChannels, RadioInfo, IfaceInfo}

-- Nothing speaks against the request and it comes to this, or the first refusal comes and no fact.
abbrev pub Decides : (Refusal → Type 0) → (Reply → List Fact → Type 0) → Reply → List Fact → Type 0
Decides causes granted reply facts =
    ((e : Refusal) × causes e × (reply ≡ Plain (Refused e) []) × (facts ≡ [])) ⊎ (IsFree causes × granted reply facts)

-- ---- what is granted

-- this answer without effects, and these facts
abbrev pub Gives : Answer → List Fact → Reply → List Fact → Type 0
Gives answer given reply facts = (reply ≡ Plain answer []) × (facts ≡ given)

-- this answer, and these facts with their effects
abbrev pub GivesEffects : Journal → Answer → List Fact → Reply → List Fact → Type 0
GivesEffects J answer given reply facts = (reply ≡ Plain answer (effects_of J given)) × (facts ≡ given)

-- this answer and this fact, and then those of a sweep of the interfaces, which is judged with the fact
abbrev pub Sweeps : List Domain → Journal → Answer → Fact → List Iface → Reply → List Fact → Type 0
Sweeps db J answer fact xs reply facts =
    (swept : List Fact) × AreSwept db (fact ∷ J) xs swept × (reply ≡ Plain answer (effects_of J swept)) × (facts ≡ fact ∷ swept)

-- no fact, and a reply that shows something
abbrev pub Shows : (Reply → Type 0) → Reply → List Fact → Type 0
Shows shown reply facts = shown reply × (facts ≡ [])

-- what is granted on the interface of the name
abbrev pub OnNamed : Journal → List ℕ → (Iface → Reply → List Fact → Type 0) → Reply → List Fact → Type 0
OnNamed J name granted reply facts = IsSomeAnd (named J name) (λ x. granted x reply facts)

-- ---- hints

-- how a hint is taken
abbrev pub answer_of : Journal → Hinted → HintAnswer
answer_of J (Treated hint) = ByTable (treatment (hints_of J) hint)
answer_of J (Own r a) = ByItself

-- a hint: all interfaces are swept
abbrev pub Hints : List Domain → Journal → Hinted → Reply → List Fact → Type 0
Hints db J hint = Decides (HintCauses db J hint) (Sweeps db J (HintTaken (answer_of J hint)) (hinted hint) (ifaces_of J))

-- a driver's hint, on a self-managed radio or not
abbrev pub driver_hint : Journal → ℕ → Alpha2 → Hinted
driver_hint J r a = cond (is_self_managed J r) (Own r a) (Treated (Driver r a))

-- a country element is not heeded by a radio that ignores them or is self-managed
abbrev pub element_hint : Journal → ℕ → Alpha2 → Hinted
element_hint J r a = Treated (ElementHint r a ((abilities_of J r).deaf || is_self_managed J r))

-- after a good body, the hint of its code; the faults of the body come before
abbrev pub Hears : List Domain → Journal → ℕ → List ℕ → Reply → List Fact → Type 0
Hears db J r body = Decides (LacksRadio J r before ElementCauses body)
    (λ reply facts. (e : Element) × IsElement body e × Hints db J (element_hint J r e.alpha2) reply facts)

-- ---- radios and interfaces that go

-- the interface gives up what it does, and ends
abbrev pub facts_of_end : Journal → Iface → List Fact
facts_of_end J x = released J x ++ ended x.index ∷ []

-- each interface of the radio does so, and the radio goes
abbrev pub facts_of_removal : Journal → ℕ → List Fact
facts_of_removal J r = flat_map (facts_of_end J) (ifaces_on J r) ++ radio_removed r ∷ []

-- ---- powers

-- the setting is kept, and an operation goes on with the power that it gives
abbrev pub SetsPower : List Domain → Journal → PowerSetting → Iface → Reply → List Fact → Type 0
SetsPower db J setting x reply facts =
    MatchOption (operation_of J x.index)
    (Gives Ok (set_to x.index setting ∷ []) reply facts)
    (λ o. (power : ℕ) × IsPowerOf db J (with_setting x.index setting x) o.chan power
    × (((power ≡ o.power) × Gives Ok (set_to x.index setting ∷ []) reply facts)
    ⊎ ((power ≢ o.power) × GivesEffects J Ok (set_to x.index setting ∷ powered x.index power ∷ []) reply facts)))

-- ---- all requests

-- The reply to the request and the facts that it appends, oldest first; failed says whether the driver fails.
abbrev pub Replies : List Domain → Journal → Request → Bool → Reply → List Fact → Type 0
Replies db J (At moment) failed = Decides (MomentCauses J moment) (Gives Ok (moment_is moment ∷ []))
Replies db J (RadioAdd r profile) failed = Decides (RadioAddCauses J r) (Gives Ok (radio_added r profile ∷ []))
Replies db J (RadioDel r) failed = Decides (LacksRadio J r) (GivesEffects J Ok (facts_of_removal J r))
Replies db J (RadioRules r rules) failed = Decides (RulesCauses db J r rules) (Sweeps db J Ok (rules_are r rules) (ifaces_on J r))
Replies db J (HeardElement r body) failed = Hears db J r body
Replies db J (DriverHint r a) failed = Decides (LacksRadio J r) (Hints db J (driver_hint J r a))
Replies db J (UserHint a) failed = Hints db J (Treated (User a))
Replies db J (Radar r c) failed = Decides (RadarCauses J r c) (Sweeps db J Ok (radar_met r c) (ifaces_on J r))
Replies db J (Indoor on) failed = Sweeps db J Ok (indoor_is on) (ifaces_of J)
Replies db J (IfaceAdd r name kind) failed = Decides (IfaceAddCauses J r name) (Gives Ok (made (made_of J + 1) name r kind ∷ []))
Replies db J (IfaceDel name) failed = Decides (LacksIface J name) (OnNamed J name (λ x. GivesEffects J Ok (facts_of_end J x)))
Replies db J (SetType name kind) failed = Decides (SetTypeCauses J name) (OnNamed J name (λ x. Gives Ok (typed x.index kind ∷ [])))
Replies db J (SetPower name setting) failed = Decides (SetPowerCauses db J name setting) (OnNamed J name (SetsPower db J setting))
Replies db J (Start name kind c) failed = Decides (StartCauses db J name kind c failed)
    (OnNamed J name (λ x reply facts. (power : ℕ) × IsPowerOf db J x c power × Gives (Started power) (started x.index c power ∷ []) reply facts))
Replies db J (Stop name kind) failed = Decides (StopCauses J name kind) (OnNamed J name (λ x. Gives Ok (stopped x.index ∷ [])))
Replies db J (Check name c) failed = Decides (CheckCauses db J name c failed)
    (OnNamed J name (λ x reply facts. (length : ℕ) × IsLengthOf db J x c length × Gives (Checking length) (check_begun x.index c length ∷ []) reply facts))
Replies db J GetReg failed = Shows (λ reply. (list : _) × AreSections db J list × (reply ≡ Regs list))
Replies db J (GetChannels r) failed = Decides (LacksRadio J r) (Shows (λ reply. (list : _) × AreShownChannels db J r list × (reply ≡ Channels r list)))
Replies db J (RadioInfo r) failed = Decides (LacksRadio J r) (Shows (λ reply. (report : _) × IsRadioReport J r report × (reply ≡ Radio report)))
Replies db J (IfaceInfo name) failed = Decides (LacksIface J name)
    (OnNamed J name (λ x. Shows (λ reply. (report : _) × IsIfaceReport J x report × (reply ≡ OfIface report))))

-- ---- the next journal

-- The request answers so, and leaves this journal.
abbrev pub Steps : List Domain → Journal → Request → Bool → Reply → Journal → Type 0
Steps db J q failed reply next = (facts : List Fact) × Replies db J q failed reply facts × (next ≡ after facts J)

-- A journal is regular where requests led to it, each of its type and askable, over a database with its ranges.
pub data IsRegular (db : List Domain) : Journal → Type 0 where
  at_first : IsDb db → IsRegular db []
  one_more : (J next : Journal) (q : Request) (failed : Bool) (reply : Reply) → IsRegular db J → IsTyped q → IsAskable q → Steps db J q failed reply next
      → IsRegular db next
