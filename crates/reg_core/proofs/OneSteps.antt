-- From what comes of a request inside the core to one step.
use Rattle.std.proofs.Common.{◌<◌, ◌≤◌, arith, ◌≡◌, ℕ, Bool, true, false, List, [], ◌∷◌, ◌+◌, Option, Some, None, IsTrue, refl, sym, subst, ap, ◌∙◌, inl, inr}
use Rattle.std.proofs.lemmas.Bool.{cases_eq, false≢true}
use Rattle.std.specs.Option.{option_map}
use Rattle.rule_tables.specs.declared.code.Alpha2.{Alpha2}
use Rattle.rule_tables.specs.declared.domain.Domain.{Domain}
use Rattle.chan_def.specs.declared.definition.ChanDef.{ChanDef}
use Rattle.chan_def.specs.declared.kind.Kind.{Kind}
use Rattle.chan_flags.specs.Profiles.{Abilities}
use Rattle.radio_drv.specs.Seen.{Seen}
use Rattle.reg_hints.specs.Table.{Hinted, Treated}
use Rattle.reg_hints.specs.declared.hint.Hint.TheVariants.{User}
use Rattle.reg_journal.specs.Facts.{Fact, Journal, after, check_begun, made, moment_is, radio_added, started, stopped}
use Rattle.reg_journal.specs.Present.{Iface, ifaces_of, made_of}
use Rattle.reg_journal.specs.Refusals.{CheckCauses, HintCauses, IfaceAddCauses, MomentCauses, RadioAddCauses, StartCauses, StopCauses}
use Rattle.reg_journal.specs.Replies.{Replies, Steps}
use Rattle.reg_journal.proofs.EachRegular.{IsSound}
use Rattle.reg_journal.specs.declared.effects.Effect.{Effect}
use Rattle.reg_journal.specs.declared.refusal.Refusal.{Refusal}
use Rattle.reg_journal.specs.declared.refusal.Refusal.TheVariants.{DriverFailed}
use Rattle.reg_journal.specs.declared.reply.Answer.{Answer}
use Rattle.reg_journal.specs.declared.reply.Answer.TheVariants.{Ok, Started, Checking, Refused}
use Rattle.reg_journal.specs.declared.reply.Reply.{Reply}
use Rattle.reg_journal.specs.declared.reply.Reply.TheVariants.{Plain}
use Rattle.reg_journal.specs.declared.request.Request.{Request}
use Rattle.reg_journal.specs.declared.request.Request.TheVariants.{At, RadioAdd, UserHint, IfaceAdd, Start, Stop, Check}
use Rattle.std.proofs.Common.{Result, Ok as RustOk, Err, IfOk, OnErr}
use Rattle.reg_lists.specs.declared.errors.OutOfMemory.{OutOfMemory as NoMemory}
use Rattle.reg_core.specs.inner.Deciding.{Declines, IsReason, IsReplyOf, TakesFact}
use Rattle.reg_core.specs.declared.declined.Declined.{Declined}
use Rattle.reg_core.specs.declared.declined.Declined.TheVariants.{Refused as ByRefusal, OutOfMemory}
use Rattle.reg_books.specs.DriverRows.{driven_radio, driver_at}
use Rattle.reg_core.specs.Kept.{Keeps, StandsFor}
use Rattle.reg_core.specs.inner.Starting.{Falls, Starts, Stops}
use Rattle.reg_core.specs.Stepping.{ChangesNothing, IsReady, IsStartGranted, OneStep, is_failed_answer, is_failure, is_refusal}
use Rattle.reg_books.specs.Told.{DriverFails, OneGoes}
use Rattle.reg_core.specs.declared.core_state.Core.{Core}
use Rattle.reg_books.proofs.AirEntries.{leaves_air}
use Rattle.reg_books.proofs.Following.{other_driver}
use Rattle.reg_books.proofs.KeepUp.{BeginsNothing, KeepUp, drivers_at_check, drivers_at_failure, drivers_at_refusal, drivers_at_rest, drivers_at_start, drivers_at_stop}
use Rattle.reg_journal.proofs.Listed.{named_listed}
use Rattle.reg_core.proofs.NextJournals.{stands_next}
use Rattle.reg_core.specs.inner.Checking.{CheckBegins}
use Rattle.reg_core.proofs.CheckReasons.{check_is_no_failure}
use Rattle.reg_core.proofs.StartReasons.{start_is_no_failure, stop_is_no_failure}

-- ---- steps of any kind

-- a step in which no driver fails and nothing is refused
pub step_done : (db : List Domain) (J : Journal) (q : Request) (answer : Answer) (effects : List Effect) (facts : List Fact) (old new : Core) (row row' : List (Option Seen))
    → StandsFor db old J → IsSound q → is_failed_answer answer ≡ false → is_refusal (Plain answer effects) ≡ false → IsStartGranted db J q (Plain answer effects)
    → Replies db J q false (Plain answer effects) facts → Keeps db new (after facts J) → KeepUp J (after facts J) q (Plain answer effects) row row'
    → OneStep db J q old new row row' (Plain answer effects)
step_done db J q answer effects facts old new row row' s askable none accepted granted replies keeps up = record {
  next = after facts J;
  steps = subst (λ failed. Steps db J q failed (Plain answer effects) (after facts J)) (sym none) (facts, replies, refl);
  stands = stands_next db J q false (Plain answer effects) facts old new s askable replies keeps;
  follows = up.follows;
  driven = up.driven;
  cause = λ failed. absurd (false≢true (sym none ∙ failed));
  drivers = up.drivers;
  refused = λ is. absurd (false≢true (sym accepted ∙ is));
  granted = granted;
}

-- a fact comes that leaves what is on air
pub step_of_fact : (db : List Domain) (J : Journal) (q : Request) (f : Fact) (answer : Answer) (old new : Core) (row : List (Option Seen))
    → StandsFor db old J → IsSound q → is_failed_answer answer ≡ false → is_refusal (Plain answer []) ≡ false → IsStartGranted db J q (Plain answer [])
    → Replies db J q false (Plain answer []) (f ∷ []) → Keeps db new (f ∷ J) → leaves_air f ≡ true → BeginsNothing J q (Plain answer [])
    → OneStep db J q old new row row (Plain answer [])
step_of_fact db J q f answer old new row s askable none accepted granted replies keeps leaves begins =
    step_done db J q answer [] (f ∷ []) old new row row s askable none accepted granted replies keeps
    (drivers_at_rest db J f q (Plain answer []) row keeps.due leaves begins)

-- the request is refused
pub step_of_refusal : (db : List Domain) (J : Journal) (q : Request) (e : Refusal) (old new : Core) (row row' : List (Option Seen)) → is_failure e ≡ false
    → IsStartGranted db J q (Plain (Refused e) []) → Steps db J q false (Plain (Refused e) []) J → StandsFor db old J → new ≡ old → row' ≡ row
    → BeginsNothing J q (Plain (Refused e) []) → OneStep db J q old new row row' (Plain (Refused e) [])
step_of_refusal db J q e old new row row' none granted steps stands same same' begins =
    subst (λ h. OneStep db J q old new row h (Plain (Refused e) [])) (sym same') (subst (λ core. OneStep db J q old core row row (Plain (Refused e) [])) (sym same) (record {
      next = J;
      steps = subst (λ failed. Steps db J q failed (Plain (Refused e) []) J) (sym none) steps;
      stands = stands;
      follows = λ follows. follows;
      driven = λ driven. driven;
      cause = λ failed. absurd (false≢true (sym none ∙ failed));
      drivers = (drivers_at_refusal J q (Plain (Refused e) []) row begins).drivers;
      refused = λ is. record { core = refl; untold = λ failed. refl; air = λ r. refl };
      granted = granted;
    }))

-- ---- moments

pub at_taken : (db : List Domain) (J : Journal) (moment : ℕ) (old new : Core) (row : List (Option Seen)) → StandsFor db old J → TakesFact db J (MomentCauses J moment) (moment_is moment) new
    → OneStep db J (At moment) old new row row (Plain Ok [])
at_taken db J moment old new row s takes =
    step_of_fact db J (At moment) (moment_is moment) Ok old new row s tt refl refl tt (inr (takes.free, (refl, refl))) takes.keeps refl (λ r before. refl)

pub at_refused : (db : List Domain) (J : Journal) (moment : ℕ) (e : Refusal) (old new : Core) (row : List (Option Seen)) → StandsFor db old J → MomentCauses J moment e → new ≡ old
    → OneStep db J (At moment) old new row row (Plain (Refused e) [])
at_refused db J moment e old new row stands cause same =
    step_of_refusal db J (At moment) e old new row row (none cause) tt ([], inl (e, cause, refl, refl), refl) stands same refl (λ r before. refl)
  where
    none : MomentCauses J moment e → is_failure e ≡ false
    none (inl large) = ap is_failure large.1
    none (inr (f1, back)) = ap is_failure back.1

-- ---- radios

pub radio_taken : (db : List Domain) (J : Journal) (r : ℕ) (profile : Abilities) (old new : Core) (row : List (Option Seen)) → StandsFor db old J
    → TakesFact db J (RadioAddCauses J r) (radio_added r profile) new → OneStep db J (RadioAdd r profile) old new row row (Plain Ok [])
radio_taken db J r profile old new row s takes =
    let due = takes.keeps.due.0 in
    step_of_fact db J (RadioAdd r profile) (radio_added r profile) Ok old new row s (in_eight due.0, due.2) refl refl tt (inr (takes.free, (refl, refl))) takes.keeps refl
    (λ r before. refl)
  where
    in_eight : r < 8 → r ≤ 7
    in_eight small = omega (arith, small)

pub radio_refused : (db : List Domain) (J : Journal) (r : ℕ) (profile : Abilities) (e : Refusal) (old new : Core) (row : List (Option Seen)) → StandsFor db old J
    → RadioAddCauses J r e → new ≡ old → OneStep db J (RadioAdd r profile) old new row row (Plain (Refused e) [])
radio_refused db J r profile e old new row stands cause same =
    step_of_refusal db J (RadioAdd r profile) e old new row row (ap is_failure cause.1) tt ([], inl (e, cause, refl, refl), refl) stands same refl (λ r before. refl)

-- ---- interfaces

pub iface_taken : (db : List Domain) (J : Journal) (r : ℕ) (name : List ℕ) (kind : Kind) (old new : Core) (row : List (Option Seen)) → StandsFor db old J
    → TakesFact db J (IfaceAddCauses J r name) (made (made_of J + 1) name r kind) new → OneStep db J (IfaceAdd r name kind) old new row row (Plain Ok [])
iface_taken db J r name kind old new row s takes =
    step_of_fact db J (IfaceAdd r name kind) (made (made_of J + 1) name r kind) Ok old new row s takes.keeps.due.0.5 refl refl tt (inr (takes.free, (refl, refl))) takes.keeps refl (λ r before. refl)

pub iface_refused : (db : List Domain) (J : Journal) (r : ℕ) (name : List ℕ) (kind : Kind) (e : Refusal) (old new : Core) (row : List (Option Seen)) → StandsFor db old J
    → IfaceAddCauses J r name e → new ≡ old → OneStep db J (IfaceAdd r name kind) old new row row (Plain (Refused e) [])
iface_refused db J r name kind e old new row stands cause same =
    step_of_refusal db J (IfaceAdd r name kind) e old new row row (none cause) tt ([], inl (e, cause, refl, refl), refl) stands same refl (λ r before. refl)
  where
    none : IfaceAddCauses J r name e → is_failure e ≡ false
    none (inl gone) = ap is_failure gone.1
    none (inr (f1, inl taken)) = ap is_failure taken.1
    none (inr (f1, inr (f2, full))) = ap is_failure full.1

-- ---- hints

pub hint_is_no_failure : (db : List Domain) (J : Journal) (hint : Hinted) (e : Refusal) → HintCauses db J hint e → is_failure e ≡ false
hint_is_no_failure db J hint e (inl unknown) = ap is_failure unknown.1
hint_is_no_failure db J hint e (inr (f1, inl many)) = ap is_failure many.1
hint_is_no_failure db J hint e (inr (f1, inr (f2, rows))) = ap is_failure rows.6

pub hint_refused : (db : List Domain) (J : Journal) (a : Alpha2) (e : Refusal) (old new : Core) (row row' : List (Option Seen)) → StandsFor db old J
    → HintCauses db J (Treated (User a)) e → new ≡ old → row' ≡ row → OneStep db J (UserHint a) old new row row' (Plain (Refused e) [])
hint_refused db J a e old new row row' stands cause same same' =
    step_of_refusal db J (UserHint a) e old new row row' (hint_is_no_failure db J (Treated (User a)) e cause) tt ([], inl (e, cause, refl, refl), refl) stands same same' (λ r before. refl)

-- ---- starts and stops

pub start_taken : (db : List Domain) (J : Journal) (name : List ℕ) (kind : Kind) (c : ChanDef) (power : ℕ) (old new : Core) (row row' : List (Option Seen)) → StandsFor db old J
    → Starts db J name kind c power new row row' → OneStep db J (Start name kind c) old new row row' (Plain (Started power) [])
start_taken db J name kind c power old new row row' s starts =
    let x = starts.iface in
    step_done db J (Start name kind c) (Started power) [] (started x.index c power ∷ []) old new row row' s tt refl refl (rw starts.is_named starts.granted)
    (inr (starts.free, rw starts.is_named (power, starts.power_is, (refl, refl)))) starts.keeps
    (drivers_at_start db J x c power (Start name kind c) (Plain (Started power) []) row row' x.radio x.index refl refl starts.keeps.due (named_listed J name x starts.is_named) (λ r before. refl) starts.told)

pub start_refused : (db : List Domain) (J : Journal) (name : List ℕ) (kind : Kind) (c : ChanDef) (e : Refusal) (old new : Core) (row row' : List (Option Seen)) → StandsFor db old J
    → ((failed : Bool) → StartCauses db J name kind c failed e) → new ≡ old → row' ≡ row → OneStep db J (Start name kind c) old new row row' (Plain (Refused e) [])
start_refused db J name kind c e old new row row' stands cause same same' =
    step_of_refusal db J (Start name kind c) e old new row row' (start_is_no_failure db J name kind c e (cause false)) tt ([], inl (e, cause false, refl, refl), refl) stands same same'
    (λ r before. refl)

-- a driver that fails keeps what it has on air, and no other hears of it
air_after_failure : (radio : ℕ) (row row' : List (Option Seen)) → OneGoes radio DriverFails row row' → (r : ℕ)
    → option_map (λ (s : Seen). s.air) (driver_at row' r) ≡ option_map (λ (s : Seen). s.air) (driver_at row r)
air_after_failure radio row row' goes r = elim (cases_eq r radio) [
  | inl same ↦ subst (λ n. option_map (λ (s : Seen). s.air) (driver_at row' n) ≡ option_map (λ (s : Seen). s.air) (driver_at row n)) (sym same)
      (by (driver_at row radio) (driver_at row' radio) goes.went)
  | inr other ↦ ap (option_map (λ (s : Seen). s.air)) (other_driver radio r DriverFails row row' goes other)
]
  where
    by : (o o' : Option Seen) → DriverFails o o' → option_map (λ (s : Seen). s.air) o' ≡ option_map (λ (s : Seen). s.air) o
    by (Some s) (Some s') fails = ap (λ air. Some air) fails.air
    by (Some s) None fails = absurd fails
    by None o' fails = absurd fails

-- a request that is refused where its driver fails
step_of_failure : (db : List Domain) (J : Journal) (q : Request) (radio : ℕ) (old new : Core) (row row' : List (Option Seen)) → StandsFor db old J → driven_radio J q ≡ Some radio
    → BeginsNothing J q (Plain (Refused DriverFailed) []) → IsStartGranted db J q (Plain (Refused DriverFailed) []) → Replies db J q true (Plain (Refused DriverFailed) []) [] → new ≡ old → OneGoes radio DriverFails row row'
    → OneStep db J q old new row row' (Plain (Refused DriverFailed) [])
step_of_failure db J q radio old new row row' stands driven begins granted replies same told =
    let kept = drivers_at_failure db J q (Plain (Refused DriverFailed) []) row row' radio driven begins stands.keeps.due told in
    record {
      next = J;
      steps = ([], replies, refl);
      stands = subst (λ core. StandsFor db core J) (sym same) stands;
      follows = (kept.0).follows;
      driven = (kept.0).driven;
      cause = λ failed. kept.1;
      drivers = (kept.0).drivers;
      refused = λ is. record {
        core = same;
        untold = λ fine. absurd (false≢true (sym fine));
        air = air_after_failure radio row row' told;
      };
      granted = granted;
    }

pub start_failed : (db : List Domain) (J : Journal) (name : List ℕ) (kind : Kind) (c : ChanDef) (old new : Core) (row row' : List (Option Seen)) → StandsFor db old J
    → Falls J name (StartCauses db J name kind c) old new row row' → OneStep db J (Start name kind c) old new row row' (Plain (Refused DriverFailed) [])
start_failed db J name kind c old new row row' stands falls =
    step_of_failure db J (Start name kind c) (falls.iface).radio old new row row' stands (ap (option_map (λ (x : Iface). x.radio)) falls.is_named) (λ r before. refl) tt
    (inl (DriverFailed, falls.cause, refl, refl)) falls.unchanged falls.told

-- ---- checks

pub check_taken : (db : List Domain) (J : Journal) (name : List ℕ) (c : ChanDef) (ms : ℕ) (old new : Core) (row row' : List (Option Seen)) → StandsFor db old J
    → CheckBegins db J name c ms new row row' → OneStep db J (Check name c) old new row row' (Plain (Checking ms) [])
check_taken db J name c ms old new row row' s begins =
    let x = begins.iface in
    step_done db J (Check name c) (Checking ms) [] (check_begun x.index c ms ∷ []) old new row row' s tt refl refl tt
    (inr (begins.free, rw begins.is_named (ms, begins.length_is, (refl, refl)))) begins.keeps
    (drivers_at_check db J x name c ms row row' begins.keeps.due begins.is_named begins.told)

pub check_refused : (db : List Domain) (J : Journal) (name : List ℕ) (c : ChanDef) (e : Refusal) (old new : Core) (row row' : List (Option Seen)) → StandsFor db old J
    → ((failed : Bool) → CheckCauses db J name c failed e) → new ≡ old → row' ≡ row → OneStep db J (Check name c) old new row row' (Plain (Refused e) [])
check_refused db J name c e old new row row' stands cause same same' =
    step_of_refusal db J (Check name c) e old new row row' (check_is_no_failure db J name c e (cause false)) tt ([], inl (e, cause false, refl, refl), refl) stands same same'
    (λ r before. refl)

pub check_failed : (db : List Domain) (J : Journal) (name : List ℕ) (c : ChanDef) (old new : Core) (row row' : List (Option Seen)) → StandsFor db old J
    → Falls J name (CheckCauses db J name c) old new row row' → OneStep db J (Check name c) old new row row' (Plain (Refused DriverFailed) [])
check_failed db J name c old new row row' stands falls =
    step_of_failure db J (Check name c) (falls.iface).radio old new row row' stands (ap (option_map (λ (x : Iface). x.radio)) falls.is_named) (λ r before. refl) tt
    (inl (DriverFailed, falls.cause, refl, refl)) falls.unchanged falls.told

-- ---- stops

pub stop_taken : (db : List Domain) (J : Journal) (name : List ℕ) (kind : Kind) (old new : Core) (row row' : List (Option Seen)) → StandsFor db old J → Stops db J name kind new row row'
    → OneStep db J (Stop name kind) old new row row' (Plain Ok [])
stop_taken db J name kind old new row row' s stops =
    let x = stops.iface in
    step_done db J (Stop name kind) Ok [] (stopped x.index ∷ []) old new row row' s tt refl refl tt (inr (stops.free, rw stops.is_named (refl, refl))) stops.keeps
    (drivers_at_stop db J x (Stop name kind) (Plain Ok []) row row' x.radio x.index refl refl stops.keeps.due (named_listed J name x stops.is_named) (λ r before. refl) stops.told)

pub stop_refused : (db : List Domain) (J : Journal) (name : List ℕ) (kind : Kind) (e : Refusal) (old new : Core) (row row' : List (Option Seen)) → StandsFor db old J
    → StopCauses J name kind e → new ≡ old → row' ≡ row → OneStep db J (Stop name kind) old new row row' (Plain (Refused e) [])
stop_refused db J name kind e old new row row' stands cause same same' =
    step_of_refusal db J (Stop name kind) e old new row row' (stop_is_no_failure J name kind e cause) tt ([], inl (e, cause, refl, refl), refl) stands same same' (λ r before. refl)

-- ---- what a step leaves standing

pub ready_after : (q : Request) (old new : Core) (row row' : List (Option Seen)) (reply : Reply) → IsReady old row
    → ((db : List Domain) (J : Journal) → StandsFor db old J → OneStep db J q old new row row' reply) → IsReady new row'
ready_after q old new row row' reply ready step =
    let one = step ready.db ready.journal ready.stands in
    record { db = ready.db; journal = one.next; stands = one.stands; driven = one.driven ready.driven }

-- ---- requests that are declined

-- the reply that tells why
pub step_declined : (q : Request) (causes : List Domain → Journal → Refusal → Type 0) (old new : Core) (declined : Declined)
    (r : Result Reply NoMemory) → IsReplyOf declined r → ((db : List Domain) (J : Journal) → Keeps db old J → Declines (causes db J) old new declined)
    → ((db : List Domain) (J : Journal) (e : Refusal) (row : List (Option Seen)) → StandsFor db old J → causes db J e → new ≡ old
    → OneStep db J q old new row row (Plain (Refused e) []))
    → IfOk r (λ reply. (db : List Domain) (J : Journal) (row : List (Option Seen)) → StandsFor db old J → OneStep db J q old new row row reply)
step_declined q causes old new (ByRefusal e) (RustOk reply) is declines refused =
    λ db J row s. rw is (refused db J e row s (declines db J s.keeps).reason (declines db J s.keeps).unchanged)
step_declined q causes old new OutOfMemory (Err none) is declines refused = tt
step_declined q causes old new (ByRefusal e) (Err none) is declines refused = absurd is
step_declined q causes old new OutOfMemory (RustOk reply) is declines refused = absurd is

-- the reply that tells why, where drivers might have been told
pub told_declined : (q : Request) (causes : List Domain → Journal → Refusal → Type 0) (old new : Core) (row row' : List (Option Seen)) (declined : Declined) (r : Result Reply NoMemory)
    → IsReplyOf declined r → ((db : List Domain) (J : Journal) → StandsFor db old J → IsReason (causes db J) declined)
    → ((db : List Domain) (J : Journal) (e : Refusal) → StandsFor db old J → causes db J e → OneStep db J q old new row row' (Plain (Refused e) []))
    → IfOk r (λ reply. (db : List Domain) (J : Journal) → StandsFor db old J → OneStep db J q old new row row' reply)
told_declined q causes old new row row' (ByRefusal e) (RustOk reply) is reason refused = λ db J s. rw is (refused db J e s (reason db J s))
told_declined q causes old new row row' OutOfMemory (Err none) is reason refused = tt
told_declined q causes old new row row' (ByRefusal e) (Err none) is reason refused = absurd is
told_declined q causes old new row row' OutOfMemory (RustOk reply) is reason refused = absurd is

-- whatever the drivers are, which hear of nothing
pub whatever_drivers : (q : Request) (old new : Core) (row : List (Option Seen)) (r : Result Reply NoMemory)
    → IfOk r (λ reply. (db : List Domain) (J : Journal) (row : List (Option Seen)) → StandsFor db old J → OneStep db J q old new row row reply)
    → IfOk r (λ reply. (db : List Domain) (J : Journal) → StandsFor db old J → OneStep db J q old new row row reply)
whatever_drivers q old new row (RustOk reply) step = λ db J s. step db J row s
whatever_drivers q old new row (Err none) step = tt

-- whatever came of the request, the core stands for a journal whose operations are on air
pub ready_after_all : (q : Request) (old new : Core) (row row' : List (Option Seen)) (r : Result Reply NoMemory) → IsReady old row
    → IfOk r (λ reply. (db : List Domain) (J : Journal) → StandsFor db old J → OneStep db J q old new row row' reply) → OnErr r (new ≡ old)
    → OnErr r (row' ≡ row) → IsReady new row'
ready_after_all q old new row row' (RustOk reply) ready step core_stays drivers_stay = ready_after q old new row row' reply ready step
ready_after_all q old new row row' (Err none) ready step core_stays drivers_stay =
    subst (λ core. IsReady core row') (sym core_stays) (subst (λ h. IsReady old h) (sym drivers_stay) ready)
