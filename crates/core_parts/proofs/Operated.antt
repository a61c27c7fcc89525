-- What the start or stop of an operation, or the drop of a check, tells the books.
use Rattle.std.proofs.Common.{◌≡◌, ℕ, ◌==◌, ◌&&◌, Bool, true, false, List, ◌∷◌, Option, Some, None, refl, sym, subst, ap, ◌∙◌, eq-eqb, ne_eqb}
use Rattle.std.specs.Option.{option_map_or}
use Rattle.std.proofs.lemmas.Bool.{true≢false}
use Rattle.rule_tables.specs.declared.domain.Domain.{Domain}
use Rattle.chan_def.specs.Kinds.{initiates}
use Rattle.dfs_states.specs.Calls.{Begin as BeginCall, DropCheck as DropCall}
use Rattle.chan_def.specs.declared.definition.ChanDef.{ChanDef}
use Rattle.reg_journal.specs.Due.{EachMayFollow}
use Rattle.reg_journal.specs.Facts.{Fact, Journal, check_begun, check_dropped}
use Rattle.reg_journal.specs.OnAir.{is_on}
use Rattle.reg_journal.specs.Present.{Iface, radio_of}
use Rattle.reg_books.specs.Calls.{call_of, sends_first}
use Rattle.core_parts.specs.Kept.{KeepsRadios}
use Rattle.reg_books.specs.Slots.{slot_of}
use Rattle.core_parts.specs.BookCalls.{SpeaksToBooks, call_in}
use Rattle.core_parts.specs.Changes.{IsInterfaceOf}
use Rattle.core_parts.specs.Operating.{TellsRunning, book_operation}
use Rattle.reg_books.specs.Sparing.{SparesRadio}
use Rattle.core_parts.specs.declared.interface.Interface.{Interface}
use Rattle.core_parts.specs.declared.interface.Running.{Running}
use Rattle.core_parts.specs.declared.radio.RadioPlace.{RadioPlace}
use Rattle.reg_books.proofs.CallOf.{call-begin, call-drop, call-operation}
use Rattle.reg_books.proofs.Interfaces.{on_its_radio}
use Rattle.reg_journal.proofs.Radios.{radio_listed}
use Rattle.reg_journal.proofs.Listed.{indexed_listed}
use Rattle.core_parts.proofs.Unchanged.{KeepsRadios-spared}

-- ---- which facts and calls they are

pub speaks_running : (f : Fact) (i : ℕ) (o : Option Running) → TellsRunning f i o → SpeaksToBooks f
speaks_running f i None tells = subst SpeaksToBooks (sym tells) tt
speaks_running f i (Some o) tells = subst SpeaksToBooks (sym tells) tt

spares_running : (J : Journal) (f : Fact) (i r : ℕ) (o : Option Running) → TellsRunning f i o → (is_on J i r && sends_first J i) ≡ false → SparesRadio J r f
spares_running J f i r None tells none = subst (λ g. SparesRadio J r g) (sym tells) none
spares_running J f i r (Some o) tells none = subst (λ g. SparesRadio J r g) (sym tells) none

-- what the book of the interface's radio is told
call_running : (db : List Domain) (f : Fact) (J : Journal) (r i : ℕ) (o : Option Running) → TellsRunning f i o → radio_of J i ≡ Some r → sends_first J i ≡ true
    → call_of db f J r ≡ Some (call_in (book_operation (slot_of J i) o))
call_running db f J r i None tells radio sends = call-operation db f J r i None tells radio sends
call_running db f J r i (Some o) tells radio sends = call-operation db f J r i (Some o.chan) (o.power_mbm, tells) radio sends

-- ---- whose books hear of it

not_first : (on sends : Bool) → sends ≡ false → (on && sends) ≡ false
not_first true sends none = none
not_first false sends none = refl

not_on : (on sends : Bool) → on ≡ false → (on && sends) ≡ false
not_on true sends none = absurd (true≢false none)
not_on false sends none = refl

sends : (db : List Domain) (J : Journal) (x : Iface) (p : Interface) (b : Bool) → EachMayFollow db J → IsInterfaceOf J x p → initiates p.kind ≡ b → sends_first J x.index ≡ b
sends db J x p b due is first =
    ap (λ o. option_map_or (λ (y : Iface). initiates y.kind) o false) (indexed_listed db J x due is.there) ∙ ap initiates (sym is.kind) ∙ first

-- that of no other radio
pub elsewhere : (db : List Domain) (J : Journal) (x : Iface) (p : Interface) (r : ℕ) → EachMayFollow db J → IsInterfaceOf J x p → (r == p.radio) ≡ false → is_on J x.index r ≡ false
elsewhere db J x p r due is other =
    on_its_radio db J x r due is.there ∙ ne_eqb x.radio r (λ same. true≢false (sym (eq-eqb r p.radio (sym same ∙ sym is.radio)) ∙ other))

-- ---- operations

pub unsent : (db : List Domain) (J : Journal) (x : Iface) (f : Fact) (radios : List RadioPlace) (p : Interface) (o : Option Running) → KeepsRadios db J radios
    → IsInterfaceOf J x p → TellsRunning f x.index o → EachMayFollow db (f ∷ J) → initiates p.kind ≡ false → KeepsRadios db (f ∷ J) radios
unsent db J x f radios p o keeps is tells due first =
    KeepsRadios-spared db J f radios
    (λ r. spares_running J f x.index r o tells (not_first (is_on J x.index r) (sends_first J x.index) (sends db J x p false due.1 is first))) keeps

pub sent_call : (db : List Domain) (J : Journal) (x : Iface) (f : Fact) (p : Interface) (o : Option Running) → IsInterfaceOf J x p → TellsRunning f x.index o
    → EachMayFollow db (f ∷ J) → initiates p.kind ≡ true → call_of db f J p.radio ≡ Some (call_in (book_operation p.slot o))
sent_call db J x f p o is tells due first =
    subst (λ n. call_of db f J n ≡ Some (call_in (book_operation p.slot o))) (sym is.radio)
    (call_running db f J x.radio x.index o tells (radio_listed db J x due.1 is.there) (sends db J x p true due.1 is first)
    ∙ ap (λ n. Some (call_in (book_operation n o))) (sym is.slot))

pub sent_elsewhere : (db : List Domain) (J : Journal) (x : Iface) (f : Fact) (p : Interface) (o : Option Running) → IsInterfaceOf J x p → TellsRunning f x.index o
    → EachMayFollow db (f ∷ J) → (r : ℕ) → (r == p.radio) ≡ false → SparesRadio J r f
sent_elsewhere db J x f p o is tells due r other =
    spares_running J f x.index r o tells (not_on (is_on J x.index r) (sends_first J x.index) (elsewhere db J x p r due.1 is other))

-- ---- checks that are dropped

pub drop_call : (db : List Domain) (J : Journal) (x : Iface) (p : Interface) → EachMayFollow db J → IsInterfaceOf J x p
    → call_of db (check_dropped p.index) J p.radio ≡ Some (DropCall p.slot)
drop_call db J x p due is =
    subst (λ n. call_of db (check_dropped n) J p.radio ≡ Some (DropCall p.slot)) (sym is.index)
    (subst (λ n. call_of db (check_dropped x.index) J n ≡ Some (DropCall p.slot)) (sym is.radio)
    (call-drop db J x.radio x.index (radio_listed db J x due is.there) ∙ ap (λ n. Some (DropCall n)) (sym is.slot)))

pub drop_elsewhere : (db : List Domain) (J : Journal) (x : Iface) (p : Interface) → EachMayFollow db J → IsInterfaceOf J x p → (r : ℕ) → (r == p.radio) ≡ false
    → SparesRadio J r (check_dropped p.index)
drop_elsewhere db J x p due is r other = subst (λ n. is_on J n r ≡ false) (sym is.index) (elsewhere db J x p r due is other)

-- ---- checks that begin

pub begin_call : (db : List Domain) (J : Journal) (x : Iface) (p : Interface) (c : ChanDef) (ms : ℕ) → EachMayFollow db J → IsInterfaceOf J x p
    → call_of db (check_begun p.index c ms) J p.radio ≡ Some (BeginCall p.slot c ms)
begin_call db J x p c ms due is =
    subst (λ n. call_of db (check_begun n c ms) J p.radio ≡ Some (BeginCall p.slot c ms)) (sym is.index)
    (subst (λ n. call_of db (check_begun x.index c ms) J n ≡ Some (BeginCall p.slot c ms)) (sym is.radio)
    (call-begin db J x.radio x.index c ms (radio_listed db J x due is.there) ∙ ap (λ n. Some (BeginCall n c ms)) (sym is.slot)))

pub begin_elsewhere : (db : List Domain) (J : Journal) (x : Iface) (p : Interface) (c : ChanDef) (ms : ℕ) → EachMayFollow db J → IsInterfaceOf J x p → (r : ℕ) → (r == p.radio) ≡ false
    → SparesRadio J r (check_begun p.index c ms)
begin_elsewhere db J x p c ms due is r other = subst (λ n. is_on J n r ≡ false) (sym is.index) (elsewhere db J x p r due is other)
