-- What a line of a run does, and what all that was answered comes to.
use Rattle.std.proofs.Common.{◌≡◌, ℕ, ◌<◌, ◌⊎◌, true, false, List, [], ◌∷◌, ◌++◌, length, Option, Some, None, Result, Ok, Err, inl, inr, OnOk, OnErr, refl, ap, subst, ◌∙◌, is_err}
use Rattle.std.specs.Io.KnownBytes.{Appends}
use Rattle.rule_tables.specs.declared.domain.Domain.{Domain}
use Rattle.radio_drv.specs.Seen.{Seen}
use Rattle.reg_base.specs.Appended.{AppendsAtMost, AppendsFront}
use Rattle.reg_base.specs.Causes.{HasCause, Rose}
use Rattle.reg_base.specs.declared.limits.TheConstants.{MOST_LINE_BYTES}
use Rattle.reg_journal.specs.Facts.{Journal}
use Rattle.reg_journal.specs.declared.reply.Reply.{Reply}
use Rattle.reg_journal.specs.declared.request.Request.{Request}
use Rattle.reg_core.specs.Kept.{StandsFor}
use Rattle.reg_core.specs.Stepping.{OneStep}
use Rattle.reg_core.specs.declared.core_state.Core.{Core}
use Rattle.line_forms.specs.Lines.{Says}
use Rattle.iw_commands.specs.Printed.{AppendsTextOf, IsTextOf, line_fault_text, text_of_reply}
use Rattle.iw_commands.specs.declared.cutter.Cut.{Cut}
use Rattle.line_forms.specs.declared.fault.LineFault.{LineFault}
use Rattle.line_forms.specs.declared.fault.LineFault.TheVariants.{TooLong}
use Rattle.db_commands.specs.Devices.{StreamAround, DriversAround}
use Rattle.core_runs.specs.Driven.{IsAt}
use Rattle.script_run.specs.Output.{LineGives}
use Rattle.core_runs.specs.Answered.{StopsBetween, StopsWithin}
use Rattle.script_run.specs.inner.Turns.{IsCutOf}
use Rattle.core_runs.specs.Turns.{IsRunSoFar, IsTurn}
use Rattle.core_runs.proofs.Drivers.{HaveGoneOn-none}
use Rattle.core_runs.proofs.Turning.{ends_between, ends_within, so_far_more}
use Rattle.core_runs.proofs.Going.{failed_in, goes_on as drivers_go_on, goes_to, has_failed}

-- ---- a line that has no request

pub turn_silent : (db : List Domain) (J : Journal) (line text : List ℕ) (core : Core) (heard : List (Option Seen)) → Says line (Ok None) → text ≡ [] → IsAt db J core heard → IsTurn (LineGives db) db J line text core heard heard
turn_silent db J line text core heard says is here =
    record { failed = []; next = J; here = (Ok None, says, (is, refl, refl)); there = here; gone_on = HaveGoneOn-none heard }

pub turn_faulty : (db : List Domain) (J : Journal) (line text : List ℕ) (fault : LineFault) (core : Core) (heard : List (Option Seen)) → Says line (Err fault) → text ≡ line_fault_text fault
    → IsAt db J core heard → IsTurn (LineGives db) db J line text core heard heard
turn_faulty db J line text fault core heard says is here =
    record { failed = []; next = J; here = (Err fault, says, (is, refl, refl)); there = here; gone_on = HaveGoneOn-none heard }

-- ---- a line that asks

pub turn_asked : (db : List Domain) (J : Journal) (line text : List ℕ) (q : Request) (reply : Reply) (old new : Core) (heard heard' : List (Option Seen)) → Says line (Ok (Some q))
    → OneStep db J q old new heard heard' reply → IsTextOf reply text → IsAt db J old heard → IsTurn (LineGives db) db J line text new heard heard'
turn_asked db J line text q reply old new heard heard' says one is here = record {
  failed = failed_in J q reply;
  next = one.next;
  here = (Ok (Some q), says, (reply, one.steps, is, has_failed db J q reply old new heard heard' one));
  there = goes_to db J q reply old new heard heard' one here;
  gone_on = drivers_go_on db J q reply old new heard heard' one;
}

-- ---- what printing leaves

printed_behind : (reply : Reply) (before text : List ℕ) → before ≡ [] → AppendsTextOf reply before text → IsTextOf reply text
printed_behind reply before text none all = all ∙ ap (λ b. b ++ text_of_reply reply) none

pub turn_printed : {E : Type 0} (r : Result (Unit {0}) E) (line before text : List ℕ) (q : Request) (reply : Reply) (old new : Core) (heard heard' : List (Option Seen)) → Says line (Ok (Some q))
    → ((db : List Domain) (J : Journal) → StandsFor db old J → OneStep db J q old new heard heard' reply) → before ≡ [] → OnOk r (AppendsTextOf reply before text)
    → OnOk r ((db : List Domain) (J : Journal) → IsAt db J old heard → IsTurn (LineGives db) db J line text new heard heard')
turn_printed (Ok u) line before text q reply old new heard heard' says step none printed = λ db J here.
    turn_asked db J line text q reply old new heard heard' says (step db J here.stands) (printed_behind reply before text none printed) here
turn_printed (Err e) line before text q reply old new heard heard' says step none printed = tt

pub turn_unprinted : {E : Type 0} (r : Result (Unit {0}) E) (line : List ℕ) (q : Request) (reply : Reply) (old new : Core) (heard heard' : List (Option Seen)) → Says line (Ok (Some q))
    → ((db : List Domain) (J : Journal) → StandsFor db old J → OneStep db J q old new heard heard' reply)
    → OnErr r ((db : List Domain) (J : Journal) → IsAt db J old heard → (heard' ≡ heard) ⊎ ((answer : List ℕ) × IsTurn (LineGives db) db J line answer new heard heard'))
turn_unprinted (Ok u) line q reply old new heard heard' says step = tt
turn_unprinted (Err e) line q reply old new heard heard' says step = λ db J here.
    inr (text_of_reply reply, turn_asked db J line (text_of_reply reply) q reply old new heard heard' says (step db J here.stands) refl here)

pub turn_told : {E : Type 0} (r : Result (Unit {0}) E) (line before text : List ℕ) (fault : LineFault) (core : Core) (heard : List (Option Seen)) → Says line (Err fault)
    → before ≡ [] → OnOk r (text ≡ before ++ line_fault_text fault)
    → OnOk r ((db : List Domain) (J : Journal) → IsAt db J core heard → IsTurn (LineGives db) db J line text core heard heard)
turn_told (Ok u) line before text fault core heard says none is = λ db J here.
    turn_faulty db J line text fault core heard says (is ∙ ap (λ b. b ++ line_fault_text fault) none) here
turn_told (Err e) line before text fault core heard says none is = tt

-- ---- a line as the cutter gives it

-- the answer of a line that is too long
pub told_too_long : {E : Type 0} (r : Result (Unit {0}) E) (before text : List ℕ) (core : Core) (heard : List (Option Seen)) → before ≡ [] → OnOk r (text ≡ before ++ line_fault_text TooLong)
    → OnOk r ((db : List Domain) (J : Journal) (this : List ℕ) → MOST_LINE_BYTES < length this → IsAt db J core heard → IsTurn (LineGives db) db J this text core heard heard)
told_too_long (Ok u) before text core heard none is = λ db J this long here.
    turn_faulty db J this text TooLong core heard long (is ∙ ap (λ b. b ++ line_fault_text TooLong) none) here
told_too_long (Err e) before text core heard none is = tt

pub untold_too_long : {E : Type 0} (r : Result (Unit {0}) E) (core : Core) (heard : List (Option Seen))
    → OnErr r ((db : List Domain) (J : Journal) (this : List ℕ) → MOST_LINE_BYTES < length this → IsAt db J core heard
    → (heard ≡ heard) ⊎ ((answer : List ℕ) × IsTurn (LineGives db) db J this answer core heard heard))
untold_too_long (Ok u) core heard = tt
untold_too_long (Err e) core heard = λ db J this long here. inl refl

-- what is said of the bytes that the cutter gives is said of the line
pub whole_turns : {E : Type 0} (r : Result (Unit {0}) E) (line text : List ℕ) (old new : Core) (heard heard' : List (Option Seen))
    → OnOk r ((db : List Domain) (J : Journal) → IsAt db J old heard → IsTurn (LineGives db) db J line text new heard heard')
    → OnOk r ((db : List Domain) (J : Journal) (this : List ℕ) → line ≡ this → IsAt db J old heard → IsTurn (LineGives db) db J this text new heard heard')
whole_turns (Ok u) line text old new heard heard' turns = λ db J this is here.
    subst (λ l. IsTurn (LineGives db) db J l text new heard heard') is (turns db J here)
whole_turns (Err e) line text old new heard heard' turns = tt

pub whole_stays : {E : Type 0} (r : Result (Unit {0}) E) (line : List ℕ) (old new : Core) (heard heard' : List (Option Seen))
    → OnErr r ((db : List Domain) (J : Journal) → IsAt db J old heard → (heard' ≡ heard) ⊎ ((answer : List ℕ) × IsTurn (LineGives db) db J line answer new heard heard'))
    → OnErr r ((db : List Domain) (J : Journal) (this : List ℕ) → line ≡ this → IsAt db J old heard
    → (heard' ≡ heard) ⊎ ((answer : List ℕ) × IsTurn (LineGives db) db J this answer new heard heard'))
whole_stays (Ok u) line old new heard heard' stays = tt
whole_stays (Err e) line old new heard heard' stays = λ db J this is here.
    subst (λ l. (heard' ≡ heard) ⊎ ((answer : List ℕ) × IsTurn (LineGives db) db J l answer new heard heard')) is (stays db J here)

-- ---- a line that is answered and written

on_ok : {E : Type 0} (r : Result (Unit {0}) E) (P : Type 0) → false ≡ is_err r → OnOk r P → P
on_ok (Ok u) P good h = h
on_ok (Err e) P good h = absurd cc

on_err : {E : Type 0} (r : Result (Unit {0}) E) (P : Type 0) → true ≡ is_err r → OnErr r P → P
on_err (Ok u) P bad h = absurd cc
on_err (Err e) P bad h = h

-- the front of the text that a failed write appended
front_of_failed : {E : Type 0} (r : Result (Unit {0}) E) (a b : Option (List ℕ)) (piece : List ℕ) → true ≡ is_err r → AppendsAtMost a b r piece → AppendsFront a b piece
front_of_failed (Ok u) a b piece bad h = absurd cc
front_of_failed (Err e) a b piece bad h = h

all_of_written : {E : Type 0} (r : Result (Unit {0}) E) (a b : Option (List ℕ)) (piece : List ℕ) → false ≡ is_err r → AppendsAtMost a b r piece → Appends a b piece
all_of_written (Ok u) a b piece good h = h
all_of_written (Err e) a b piece good h = absurd cc

abbrev pub Turns : {E : Type 0} → Result (Unit {0}) E → Cut → List ℕ → Core → Core → List (Option Seen) → List (Option Seen) → Type 0
Turns r cut answer core core' mid last = OnOk r ((db : List Domain) (J : Journal) (this : List ℕ) → IsCutOf this cut → IsAt db J core mid → IsTurn (LineGives db) db J this answer core' mid last)

abbrev pub Stays : {E : Type 0} → Result (Unit {0}) E → Cut → Core → Core → List (Option Seen) → List (Option Seen) → Type 0
Stays r cut core core' mid last =
    OnErr r ((db : List Domain) (J : Journal) (this : List ℕ) → IsCutOf this cut → IsAt db J core mid → (last ≡ mid) ⊎ ((answer : List ℕ) × IsTurn (LineGives db) db J this answer core' mid last))

pub stops_between : {E : Type 0} (r : Result (Unit {0}) E) (db : List Domain) (lines : List (List ℕ)) (this : List ℕ) (rest : List (List ℕ)) (cut : Cut) (output : StreamAround) (drivers : DriversAround) (core core' : Core) (mid : List (Option Seen))
    → true ≡ is_err r → Stays r cut core core' mid drivers.after → IsCutOf this cut → IsRunSoFar (LineGives db) db lines output.before output.after core drivers.before mid
    → StopsBetween (LineGives db) (lines ++ this ∷ rest) output drivers
stops_between r db lines this rest cut output drivers core core' mid bad stays is so =
    ends_between (LineGives db) db lines this rest output drivers core core' mid so (on_err r _ bad stays db so.journal this is so.there)

pub stops_within : {E F : Type 0} (r : Result (Unit {0}) E) (w : Result (Unit {0}) F) (db : List Domain) (lines : List (List ℕ)) (this : List ℕ) (rest : List (List ℕ)) (answer piece : List ℕ) (cut : Cut) (output : StreamAround) (b : Option (List ℕ)) (drivers : DriversAround) (core core' : Core) (mid : List (Option Seen))
    → false ≡ is_err r → true ≡ is_err w → piece ≡ answer → Turns r cut answer core core' mid drivers.after → AppendsAtMost b output.after w piece
    → IsCutOf this cut → IsRunSoFar (LineGives db) db lines output.before b core drivers.before mid → StopsWithin (LineGives db) (lines ++ this ∷ rest) output drivers
stops_within r w db lines this rest answer piece cut output b drivers core core' mid good bad same turns written is so =
    ends_within (LineGives db) db lines this rest output b drivers answer core core' mid so (on_ok r _ good turns db so.journal this is so.there)
    (subst (AppendsFront b output.after) same (front_of_failed w b output.after piece bad written))

pub goes_on : {E F : Type 0} (r : Result (Unit {0}) E) (w : Result (Unit {0}) F) (db : List Domain) (lines : List (List ℕ)) (this answer piece : List ℕ) (cut : Cut) (a b c : Option (List ℕ)) (core core' : Core) (first mid last : List (Option Seen))
    → false ≡ is_err r → false ≡ is_err w → piece ≡ answer → Turns r cut answer core core' mid last → AppendsAtMost b c w piece
    → IsCutOf this cut → IsRunSoFar (LineGives db) db lines a b core first mid → IsRunSoFar (LineGives db) db (lines ++ this ∷ []) a c core' first last
goes_on r w db lines this answer piece cut a b c core core' first mid last good well same turns written is so =
    so_far_more (LineGives db) db lines this a b c answer core core' first mid last so (on_ok r _ good turns db so.journal this is so.there)
    (subst (Appends b c) same (all_of_written w b c piece well written))

pub cause_of : {E : Type 0} (w : Result (Unit {0}) E) (before after : ℕ) → true ≡ is_err w → HasCause before after w → Rose before after
cause_of w before after bad cause = on_err w (Rose before after) bad cause.failed
