-- The reports of radios and interfaces, by what is kept of them.
use Rattle.std.proofs.Common.{◌≡◌, ◌+◌, ◌<◌, ℕ, Bool, List, [], ◌∷◌, ◌++◌, map, filter, take, get_or, length, Option, Some, None, refl, sym, subst, ap, ◌∙◌}
use Rattle.std.proofs.lemmas.List.{map-append, take_more}
use Rattle.std.proofs.lemmas.List.Elements.{filter-append}
use Rattle.std.specs.Option.{option_map}
use Rattle.rule_tables.specs.declared.domain.Domain.{Domain}
use Rattle.chan_def.specs.declared.definition.ChanDef.{ChanDef}
use Rattle.dfs_states.specs.Book.{Book}
use Rattle.dfs_states.specs.Meaning.{IsRunning}
use Rattle.dfs_states.proofs.Running.{runs_same}
use Rattle.reg_journal.specs.Dumps.{IsIfaceReport, shown_iface, state_of}
use Rattle.reg_journal.specs.Facts.{Journal}
use Rattle.reg_journal.specs.Present.{Check, Iface, Operation, check_of, ifaces_on, operation_of}
use Rattle.reg_journal.specs.declared.report.IfaceReport.{IfaceReport}
use Rattle.reg_journal.specs.declared.report.IfaceState.{IfaceState}
use Rattle.reg_journal.specs.declared.report.IfaceState.TheVariants.{Idle, Checking}
use Rattle.reg_books.specs.Calls.{calls_of}
use Rattle.core_parts.specs.Kept.{interfaces_of, kept, kept_operation}
use Rattle.reg_books.specs.Slots.{slot_of}
use Rattle.core_parts.specs.Contexts.{IsOf}
use Rattle.core_parts.specs.Interfaces.{interfaces_on}
use Rattle.core_parts.specs.Reading.{shown_interface}
use Rattle.core_parts.specs.declared.interface.Interface.{Interface}
use Rattle.reg_books.proofs.Interfaces.{idle_in_slot, runs_in_slot}
use Rattle.core_parts.proofs.KeptInterfaces.{interfaces_on-kept, map-map}

-- ---- radios

pub interfaces_shown : (J : Journal) (r : ℕ) (interfaces : List Interface) → interfaces ≡ interfaces_of J → map shown_interface (interfaces_on interfaces r) ≡ map shown_iface (ifaces_on J r)
interfaces_shown J r interfaces same =
    ap (λ ps. map shown_interface (interfaces_on ps r)) same ∙ ap (map shown_interface) (interfaces_on-kept J r) ∙ map-map shown_interface (kept J) (ifaces_on J r)

-- one element more
pub kept_more : {X Y : Type 0} (f : X → Y) (p : X → Bool) (xs : List X) (i : ℕ) (x : X) → i < length xs → x ≡ get_or xs i x
    → map f (filter p (take i xs)) ++ map f (filter p (x ∷ [])) ≡ map f (filter p (take (i + 1) xs))
kept_more f p xs i x within here =
    sym (map-append f (filter p (take i xs)) (filter p (x ∷ [])))
    ∙ ap (map f) (sym (filter-append p (take i xs) (x ∷ [])) ∙ ap (filter p) (ap (λ y. take i xs ++ y ∷ []) here ∙ sym (take_more xs i x within)))

-- ---- interfaces

abbrev pub told_state : Option (ChanDef × ℕ) → IfaceState
told_state None = Idle
told_state (Some c) = Checking c.0 c.1

pub no_operation_kept : (J : Journal) (x : Iface) (interface : Interface) → interface ≡ kept J x → interface.operation ≡ None → operation_of J x.index ≡ None
no_operation_kept J x interface e has = at (operation_of J x.index) (sym has ∙ ap (λ (p : Interface). p.operation) e)
  where
    at : (op : Option Operation) → None ≡ option_map kept_operation op → op ≡ None
    at None q = refl
    at (Some op) q = absurd (cc (q))

-- what a book tells of the slot is the running check
pub state_checking : (db : List Domain) (J : Journal) (x : Iface) (book : Book) (interface : Interface) (o : Option (ChanDef × ℕ)) → IsOf db J x book interface
    → operation_of J x.index ≡ None → IsRunning (calls_of db J x.radio) interface.slot o → told_state o ≡ state_of (operation_of J x.index) (check_of J x.index)
state_checking db J x book interface o is none running =
    at o (check_of J x.index) refl (subst (λ s. IsRunning (calls_of db J x.radio) s o) (ap (λ (p : Interface). p.slot) is.interface_is) running)
    ∙ ap (λ op. state_of op (check_of J x.index)) (sym none)
  where
    at : (o : Option (ChanDef × ℕ)) (k : Option Check) → k ≡ check_of J x.index → IsRunning (calls_of db J x.radio) (slot_of J x.index) o → told_state o ≡ state_of None k
    at None None e running = refl
    at None (Some k) e running = absurd (running (record { chan = k.chan; start = k.begin; end = k.begin + k.length; runs = runs_in_slot db J x k is.due is.there (sym e) }))
    at (Some c) None e (start, runs) = absurd (idle_in_slot db J x is.due is.there (sym e) (record { chan = c.0; start = start; end = c.1; runs = runs }))
    at (Some c) (Some k) e (start, runs) =
        let same = runs_same (calls_of db J x.radio) (slot_of J x.index) c.0 k.chan start k.begin c.1 (k.begin + k.length) runs (runs_in_slot db J x k is.due is.there (sym e)) in
        ap (λ d. Checking d c.1) same.0 ∙ ap (λ n. Checking k.chan n) same.2

-- all of it
pub iface_reported : (J : Journal) (x : Iface) (interface : Interface) (report : IfaceReport) → interface ≡ kept J x
    → report ≡ record { name = interface.name; index = interface.index; radio = interface.radio; kind = interface.kind; setting = interface.setting; state = report.state }
    → report.state ≡ state_of (operation_of J x.index) (check_of J x.index) → IsIfaceReport J x report
iface_reported J x interface report is same state = record {
  name = ap (λ (r : IfaceReport). r.name) same ∙ ap (λ (p : Interface). p.name) is;
  index = ap (λ (r : IfaceReport). r.index) same ∙ ap (λ (p : Interface). p.index) is;
  radio = ap (λ (r : IfaceReport). r.radio) same ∙ ap (λ (p : Interface). p.radio) is;
  kind = ap (λ (r : IfaceReport). r.kind) same ∙ ap (λ (p : Interface). p.kind) is;
  setting = ap (λ (r : IfaceReport). r.setting) same ∙ ap (λ (p : Interface). p.setting) is;
  state = state;
}
