-- What a message does, and where the core then stands.
use Rattle.std.proofs.Common.{◌≡◌, ℕ, ◌⊎◌, Bool, true, false, is_err, of_z, to_z, w32, List, [], ◌∷◌, ◌++◌, append-nil, length, Option, Result, Ok, Err, inl, inr, OnOk, OnErr, refl, sym, ap, subst, arith}
use Rattle.std.specs.Prelude.{ℤ}
use Rattle.std.proofs.lemmas.List.{length-map}
use Rattle.rule_tables.specs.declared.domain.Domain.{Domain}
use Rattle.radio_drv.specs.Seen.{Seen}
use Rattle.reg_books.specs.DriverRows.{AreDriven}
use Rattle.reg_core.specs.Kept.{StandsFor}
use Rattle.reg_core.specs.Stepping.{IsReady, OneStep, is_failed}
use Rattle.reg_core.specs.declared.core_state.Core.{Core}
use Rattle.reg_journal.specs.Due.{EachMayFollow}
use Rattle.reg_journal.specs.Dumps.{IsRadioReport, shown_iface}
use Rattle.reg_journal.specs.Facts.{Fact, Journal}
use Rattle.reg_journal.specs.Forms.{IsLineRequest, IsShownReply}
use Rattle.reg_journal.specs.Present.{ifaces_on}
use Rattle.reg_journal.specs.Refusals.{LacksRadio}
use Rattle.reg_journal.specs.Replies.{Replies, Shows, at_first, one_more}
use Rattle.reg_journal.specs.Requests.{IsTyped}
use Rattle.reg_journal.specs.declared.reply.Reply.{Reply}
use Rattle.reg_journal.specs.declared.reply.Reply.TheVariants.{Radio}
use Rattle.reg_journal.specs.declared.report.RadioReport.{RadioReport}
use Rattle.reg_journal.specs.declared.request.Request.{Request}
use Rattle.reg_journal.specs.declared.request.Request.TheVariants.{RadioInfo}
use Rattle.reg_journal.proofs.Few.{few_on}
use Rattle.reg_journal.proofs.Formed.{decided_as, formed}
use Rattle.reg_journal.proofs.ShownSteps.{askable, shown}
use Rattle.nl_attrs.specs.Messages.{all_spelled, spelled}
use Rattle.nl_attrs.specs.declared.message.Msg.{Msg}
use Rattle.nl80211_cmds.specs.Errors.{error_answer}
use Rattle.nl80211_cmds.specs.Requests.{IsRequestFault, MsgAsks}
use Rattle.nl80211_cmds.specs.declared.fault.RequestFault.TheVariants.{Errno}
use Rattle.nl80211_replies.specs.Dumps.{reply_messages}
use Rattle.std.specs.Io.KnownBytes.{Appends}
use Rattle.reg_base.specs.Appended.{AppendsAtMost, AppendsFront}
use Rattle.pack_command.proofs.Packed.{all_of_written, front_of_failed}
use Rattle.core_runs.specs.Answered.{StopsBetween, StopsWithin}
use Rattle.core_runs.specs.Driven.{IsAt}
use Rattle.core_runs.specs.Turns.{IsRunSoFar, IsTurn}
use Rattle.core_runs.proofs.Drivers.{HaveGoneOn-none}
use Rattle.core_runs.proofs.Turning.{ends_between, ends_within, so_far_more}
use Rattle.core_runs.proofs.Going.{failed_in, goes_on, goes_to, has_failed}
use Rattle.db_commands.specs.Devices.{DriversAround, StreamAround}
use Rattle.wire_run.specs.Answering.{MessageGives}
use Rattle.wire_run.specs.inner.Steps.{IsReached}
use Rattle.wire_run.proofs.Lengths.{HasFewIfaces}

-- ---- a message that asks

turn_asked : (db : List Domain) (J : Journal) (m : Msg) (text : List ℕ) (q : Request) (reply : Reply) (old new : Core) (heard heard' : List (Option Seen)) → MsgAsks m q → OneStep db J q old new heard heard' reply
    → text ≡ all_spelled (reply_messages m reply) → IsAt db J old heard → IsTurn (MessageGives db) db J m text new heard heard'
turn_asked db J m text q reply old new heard heard' asks one is here = record {
  failed = failed_in J q reply;
  next = one.next;
  here = inl (record { request = q; asks = asks; reply = reply; steps = one.steps; failing = has_failed db J q reply old new heard heard' one; is = is });
  there = goes_to db J q reply old new heard heard' one here;
  gone_on = goes_on db J q reply old new heard heard' one;
}

pub turn_replied : {E : Type 0} (r : Result (Unit {0}) E) (m : Msg) (text : List ℕ) (q : Request) (reply : Reply) (old new : Core) (heard heard' : List (Option Seen)) → MsgAsks m q
    → ((db : List Domain) (J : Journal) → StandsFor db old J → OneStep db J q old new heard heard' reply) → OnOk r (text ≡ all_spelled (reply_messages m reply))
    → OnOk r ((db : List Domain) (J : Journal) → IsAt db J old heard → IsTurn (MessageGives db) db J m text new heard heard')
turn_replied (Ok u) m text q reply old new heard heard' asks step is = λ db J here. turn_asked db J m text q reply old new heard heard' asks (step db J here.stands) is here
turn_replied (Err e) m text q reply old new heard heard' asks step is = tt

pub turn_untold : {E : Type 0} (r : Result (Unit {0}) E) (m : Msg) (q : Request) (reply : Reply) (old new : Core) (heard heard' : List (Option Seen)) → MsgAsks m q
    → ((db : List Domain) (J : Journal) → StandsFor db old J → OneStep db J q old new heard heard' reply)
    → OnErr r ((db : List Domain) (J : Journal) → IsAt db J old heard → (heard' ≡ heard) ⊎ ((answer : List ℕ) × IsTurn (MessageGives db) db J m answer new heard heard'))
turn_untold (Ok u) m q reply old new heard heard' asks step = tt
turn_untold (Err e) m q reply old new heard heard' asks step = λ db J here.
    inr (all_spelled (reply_messages m reply), turn_asked db J m (all_spelled (reply_messages m reply)) q reply old new heard heard' asks (step db J here.stands) refl here)

-- ---- a message that asks nothing

turn_refused : (db : List Domain) (J : Journal) (m : Msg) (text : List ℕ) (errno : ℤ) (core : Core) (heard : List (Option Seen)) → IsRequestFault m (Errno errno) → text ≡ spelled (error_answer m errno)
    → IsAt db J core heard → IsTurn (MessageGives db) db J m text core heard heard
turn_refused db J m text errno core heard fault is here =
    record { failed = []; next = J; here = inr (record { errno = errno; fault = fault; is = is; none = refl; stays = refl }); there = here; gone_on = HaveGoneOn-none heard }

pub turn_errno : {E : Type 0} (r : Result (Unit {0}) E) (m : Msg) (text : List ℕ) (errno : ℤ) (core : Core) (heard : List (Option Seen)) → IsRequestFault m (Errno errno) → OnOk r (text ≡ spelled (error_answer m errno))
    → OnOk r ((db : List Domain) (J : Journal) → IsAt db J core heard → IsTurn (MessageGives db) db J m text core heard heard)
turn_errno (Ok u) m text errno core heard fault is = λ db J here. turn_refused db J m text errno core heard fault is here
turn_errno (Err e) m text errno core heard fault is = tt

-- an errno fits its field
pub errno_kept : (m : Msg) (errno : ℤ) → IsRequestFault m (Errno errno) → IsRequestFault m (Errno (to_z w32 (of_z w32 errno)))
errno_kept m errno fault = subst (λ e. IsRequestFault m (Errno e)) (sym (same errno fault)) fault
  where
    same : (e : ℤ) → IsRequestFault m (Errno e) → to_z w32 (of_z w32 e) ≡ e
    same e (inl (is, not)) = subst (λ x. to_z w32 (of_z w32 x) ≡ x) (sym is) refl
    same e (inr (is, supported, nothing)) = subst (λ x. to_z w32 (of_z w32 x) ≡ x) (sym is) refl

pub stays_as_before : {E : Type 0} (r : Result (Unit {0}) E) (m : Msg) (core : Core) (heard : List (Option Seen))
    → OnErr r ((db : List Domain) (J : Journal) → IsAt db J core heard → (heard ≡ heard) ⊎ ((answer : List ℕ) × IsTurn (MessageGives db) db J m answer core heard heard))
stays_as_before (Ok u) m core heard = tt
stays_as_before (Err e) m core heard = λ db J here. inl refl

-- ---- journals that were reached

pub reached_first : (db : List Domain) (core : Core) (heard : List (Option Seen)) → StandsFor db core [] → AreDriven [] heard → IsReached core heard
reached_first db core heard stands driven = record { db = db; journal = []; stands = stands; regular = at_first stands.is_db; driven = driven }

pub reached_ready : (core : Core) (heard : List (Option Seen)) → IsReached core heard → IsReady core heard
reached_ready core heard reached = record { db = reached.db; journal = reached.journal; stands = reached.stands; driven = reached.driven }

pub reached_next : (q : Request) (reply : Reply) (old new : Core) (heard heard' : List (Option Seen)) → IsReached old heard → IsTyped q → IsLineRequest q
    → ((db : List Domain) (J : Journal) → StandsFor db old J → OneStep db J q old new heard heard' reply) → IsReached new heard'
reached_next q reply old new heard heard' reached its_types said step =
    let one = step reached.db reached.journal reached.stands in record {
      db = reached.db;
      journal = one.next;
      stands = one.stands;
      regular = one_more reached.journal one.next q (is_failed reply) reply reached.regular its_types (askable q said) one.steps;
      driven = one.driven reached.driven;
    }

pub reached_same : (old new : Core) (heard heard' : List (Option Seen)) → IsReached old heard → new ≡ old → heard' ≡ heard → IsReached new heard'
reached_same old new heard heard' reached same still = subst (λ core. IsReached core heard') (sym same) (subst (IsReached old) (sym still) reached)

-- ---- replies that can be sent

pub shown_reply : (q : Request) (reply : Reply) (old new : Core) (heard heard' : List (Option Seen)) → IsReached old heard → IsTyped q → IsLineRequest q
    → ((db : List Domain) (J : Journal) → StandsFor db old J → OneStep db J q old new heard heard' reply) → IsShownReply reply
shown_reply q reply old new heard heard' reached its_types said step =
    let (facts, is, here) = (step reached.db reached.journal reached.stands).steps in
    shown reached.db reached.journal q (is_failed reply) reply facts reached.regular its_types said is

few_shown : (db : List Domain) (J : Journal) (q : Request) (failed : Bool) (reply : Reply) (facts : List Fact) → EachMayFollow db J → Replies db J q failed reply facts → HasFewIfaces reply
few_shown db J (RadioInfo r) failed reply facts due is =
    decided_as HasFewIfaces (LacksRadio J r) (Shows (λ reply. (report : RadioReport) × IsRadioReport J r report × (reply ≡ Radio report))) reply facts is (λ e cause. tt)
    (λ ((report, are, same), none).
    let few = few_on db J r due in
    let all = ap (λ (l : List _). length l) are.ifaces in
    subst HasFewIfaces (sym same) (omega (arith, few, all, length-map (ifaces_on J r) shown_iface)))
few_shown db J q failed (Radio report) facts due is = absurd (formed db J q failed (Radio report) facts is)
few_shown db J q failed reply facts due is = tt

pub few_ifaces : (q : Request) (reply : Reply) (old new : Core) (heard heard' : List (Option Seen)) → IsReached old heard
    → ((db : List Domain) (J : Journal) → StandsFor db old J → OneStep db J q old new heard heard' reply) → HasFewIfaces reply
few_ifaces q reply old new heard heard' reached step =
    let (facts, is, here) = (step reached.db reached.journal reached.stands).steps in
    few_shown reached.db reached.journal q (is_failed reply) reply facts reached.stands.keeps.due is

-- ---- all that was asked for

pub ends_after : (db : List Domain) (messages : List Msg) (output : StreamAround) (drivers : DriversAround) (core : Core) → IsRunSoFar (MessageGives db) db messages output.before output.after core drivers.before drivers.after
    → StopsBetween (MessageGives db) messages output drivers
ends_after db messages output drivers core so = record {
  left = [];
  text = so.text;
  failed = so.failed;
  journal = so.journal;
  front = record { first = messages; parts = sym (append-nil messages); given = so.given };
  written = so.written;
  follow = inl (record { on_air = so.there.follows; told = so.there.told; gone_on = so.gone_on });
}

-- ---- a message that is answered and written

pub on_ok : {E : Type 0} (r : Result (Unit {0}) E) (P : Type 0) → false ≡ is_err r → OnOk r P → P
on_ok (Ok u) P good h = h
on_ok (Err e) P good h = absurd cc

on_err : {E : Type 0} (r : Result (Unit {0}) E) (P : Type 0) → true ≡ is_err r → OnErr r P → P
on_err (Ok u) P bad h = absurd cc
on_err (Err e) P bad h = h

abbrev pub Turns : {E : Type 0} → Result (Unit {0}) E → Msg → List ℕ → Core → Core → List (Option Seen) → List (Option Seen) → Type 0
Turns r m answer core core' mid last = OnOk r ((db : List Domain) (J : Journal) → IsAt db J core mid → IsTurn (MessageGives db) db J m answer core' mid last)

abbrev pub Stays : {E : Type 0} → Result (Unit {0}) E → Msg → Core → Core → List (Option Seen) → List (Option Seen) → Type 0
Stays r m core core' mid last =
    OnErr r ((db : List Domain) (J : Journal) → IsAt db J core mid → (last ≡ mid) ⊎ ((answer : List ℕ) × IsTurn (MessageGives db) db J m answer core' mid last))

pub halts_unanswered : {E : Type 0} (r : Result (Unit {0}) E) (db : List Domain) (messages : List Msg) (m : Msg) (output : StreamAround) (drivers : DriversAround) (core core' : Core) (mid : List (Option Seen))
    → true ≡ is_err r → Stays r m core core' mid drivers.after → IsRunSoFar (MessageGives db) db messages output.before output.after core drivers.before mid
    → StopsBetween (MessageGives db) (messages ++ m ∷ []) output drivers
halts_unanswered r db messages m output drivers core core' mid bad stays so =
    ends_between (MessageGives db) db messages m [] output drivers core core' mid so (on_err r _ bad stays db so.journal so.there)

pub halts_unwritten : {E F : Type 0} (r : Result (Unit {0}) E) (w : Result (Unit {0}) F) (db : List Domain) (messages : List Msg) (m : Msg) (answer piece : List ℕ) (output : StreamAround) (b : Option (List ℕ)) (drivers : DriversAround) (core core' : Core) (mid : List (Option Seen))
    → false ≡ is_err r → true ≡ is_err w → piece ≡ answer → Turns r m answer core core' mid drivers.after → AppendsAtMost b output.after w piece
    → IsRunSoFar (MessageGives db) db messages output.before b core drivers.before mid → StopsWithin (MessageGives db) (messages ++ m ∷ []) output drivers
halts_unwritten r w db messages m answer piece output b drivers core core' mid good bad same turns written so =
    ends_within (MessageGives db) db messages m [] output b drivers answer core core' mid so (on_ok r _ good turns db so.journal so.there)
    (subst (AppendsFront b output.after) same (front_of_failed w b output.after piece bad written))

pub answered_on : {E F : Type 0} (r : Result (Unit {0}) E) (w : Result (Unit {0}) F) (db : List Domain) (messages : List Msg) (m : Msg) (answer piece : List ℕ) (a b c : Option (List ℕ)) (core core' : Core) (first mid last : List (Option Seen))
    → false ≡ is_err r → false ≡ is_err w → piece ≡ answer → Turns r m answer core core' mid last → AppendsAtMost b c w piece
    → IsRunSoFar (MessageGives db) db messages a b core first mid → IsRunSoFar (MessageGives db) db (messages ++ m ∷ []) a c core' first last
answered_on r w db messages m answer piece a b c core core' first mid last good well same turns written so =
    so_far_more (MessageGives db) db messages m a b c answer core core' first mid last so (on_ok r _ good turns db so.journal so.there)
    (subst (Appends b c) same (all_of_written w b c piece well written))
