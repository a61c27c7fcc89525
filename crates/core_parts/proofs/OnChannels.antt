-- The channel that an interface is on is what its interface and its radio's book say.
use Rattle.std.proofs.Common.{◌≡◌, ◌+◌, ℕ, List, Option, Some, None, refl, sym, ap, ◌∙◌, subst}
use Rattle.std.specs.Option.{option_map}
use Rattle.rule_tables.specs.declared.domain.Domain.{Domain}
use Rattle.chan_def.specs.declared.definition.ChanDef.{ChanDef}
use Rattle.dfs_states.specs.Book.{Book}
use Rattle.dfs_states.specs.Meaning.{IsRunning}
use Rattle.dfs_states.proofs.Running.{runs_same}
use Rattle.reg_journal.specs.Facts.{Journal}
use Rattle.reg_journal.specs.Permits.{channel_in, channel_of}
use Rattle.reg_journal.specs.Present.{Check, Iface, Operation, check_of, operation_of}
use Rattle.reg_books.specs.Calls.{calls_of}
use Rattle.core_parts.specs.Contexts.{IsOf, checked_channel}
use Rattle.core_parts.specs.Kept.{kept, kept_operation}
use Rattle.reg_books.specs.Slots.{slot_of}
use Rattle.core_parts.specs.declared.interface.Interface.{Interface}
use Rattle.core_parts.specs.declared.interface.Running.{Running}
use Rattle.reg_books.proofs.Interfaces.{runs_in_slot, idle_in_slot}

abbrev channel_told : Option (ChanDef × ℕ) → Option ChanDef
channel_told o = option_map (λ (c : ChanDef × ℕ). c.0) o

-- what a book tells of the slot is the running check's channel
checked_by_slot : (db : List Domain) (J : Journal) (x : Iface) (book : Book) (interface : Interface) (o : Option (ChanDef × ℕ))
    → IsOf db J x book interface → IsRunning (calls_of db J x.radio) (slot_of J x.index) o → channel_told o ≡ checked_channel J x
checked_by_slot db J x book interface o is running = at o (check_of J x.index) refl running
  where
    at : (o : Option (ChanDef × ℕ)) (k : Option Check) → k ≡ check_of J x.index → IsRunning (calls_of db J x.radio) (slot_of J x.index) o
        → channel_told o ≡ option_map (λ (k : Check). k.chan) k
    at None None e running = refl
    at None (Some k) e running = absurd (running (record { chan = k.chan; start = k.begin; end = k.begin + k.length; runs = runs_in_slot db J x k is.due is.there (sym e) }))
    at (Some c) None e (start, runs) = absurd (idle_in_slot db J x is.due is.there (sym e) (record { chan = c.0; start = start; end = c.1; runs = runs }))
    at (Some c) (Some k) e (start, runs) =
        ap Some (runs_same (calls_of db J x.radio) (slot_of J x.index) c.0 k.chan start k.begin c.1 (k.begin + k.length) runs (runs_in_slot db J x k is.due is.there (sym e))).0

slot_kept : (J : Journal) (x : Iface) (interface : Interface) → interface ≡ kept J x → interface.slot ≡ slot_of J x.index
slot_kept J x interface e = ap (λ (p : Interface). p.slot) e

pub checked_by_book : (db : List Domain) (J : Journal) (x : Iface) (book : Book) (interface : Interface) (o : Option (ChanDef × ℕ))
    → IsOf db J x book interface → IsRunning (calls_of db J x.radio) interface.slot o → channel_told o ≡ checked_channel J x
checked_by_book db J x book interface o is running =
    checked_by_slot db J x book interface o is (subst (λ s. IsRunning (calls_of db J x.radio) s o) (slot_kept J x interface is.interface_is) running)

-- an operation's channel comes first
pub channel_by_operation : (J : Journal) (x : Iface) (interface : Interface) (o : Running) → interface ≡ kept J x → interface.operation ≡ Some o → Some o.chan ≡ channel_of J x
channel_by_operation J x interface o e has = at (operation_of J x.index) refl (sym has ∙ ap (λ (p : Interface). p.operation) e)
  where
    at : (op : Option Operation) → op ≡ operation_of J x.index → Some o ≡ option_map kept_operation op → Some o.chan ≡ channel_in op (check_of J x.index)
    at None p q = absurd (cc (q))
    at (Some op) p q = ap (λ n. option_map (λ (r : Running). r.chan) n) q

pub channel_by_check : (J : Journal) (x : Iface) (interface : Interface) → interface ≡ kept J x → interface.operation ≡ None → checked_channel J x ≡ channel_of J x
channel_by_check J x interface e has = at (operation_of J x.index) (sym has ∙ ap (λ (p : Interface). p.operation) e)
  where
    at : (op : Option Operation) → None ≡ option_map kept_operation op → checked_channel J x ≡ channel_in op (check_of J x.index)
    at None q = refl
    at (Some op) q = absurd (cc (q))
