use Rattle.std.proofs.Common.{◌≡◌, ℕ, List, Some, None, map, is_some, inl, refl, sym, subst, ap, ◌∙◌}
use Rattle.std.proofs.lemmas.Bool.{false≢true}
use Rattle.rule_tables.specs.declared.domain.Domain.{Domain}
use Rattle.reg_journal.specs.Due.{EachMayFollow}
use Rattle.reg_journal.specs.Facts.{Journal}
use Rattle.reg_journal.specs.Present.{Iface, named, profile_of}
use Rattle.core_parts.specs.Contexts.{IsOf}
use Rattle.core_parts.specs.Kept.{KeepsRadio, kept}
use Rattle.core_parts.specs.declared.interface.Interface.{Interface}
use Rattle.core_parts.specs.declared.radio.Radio.{Radio}
use Rattle.reg_journal.proofs.Radios.{home_listed}
use Rattle.core_parts.proofs.KeptInterfaces.{none_named, some_named}
use Rattle.reg_journal.proofs.Listed.{named_listed}
use Rattle.reg_journal.proofs.Operating.{home_there}
use Rattle.reg_core.proofs.CheckReasons.{check_barred, check_of_wrong_kind, check_while_busy}
use Rattle.reg_books.proofs.InUse.{used_on_channel}
use Rattle.chan_def.specs.Kinds.{initiates}
use Rattle.reg_core.proofs.core_state.Core.free_to_check.Goals as goal

-- what is kept of the interface and its radio
kept_of : (db : List Domain) (J : Journal) (name : List ℕ) (x : Iface) (radio : Radio) (interface : Interface) → EachMayFollow db J → named J name ≡ Some x → interface ≡ kept J x
    → KeepsRadio db J x.radio radio → IsOf db J x radio.book interface
kept_of db J name x radio interface due is interface_is keeps = record {
  due = due;
  there = named_listed J name x is;
  interface_is = interface_is;
  channels = map (λ c. c.khz) radio.chans.chans;
  book_is = keeps.book;
}

pub returns-in_default : goal.returns-in_default
returns-in_default c = record {
  free = λ db J s chan failed.
      inl (none_named J c.args.name.now c.as_slice.result.now (c.as_slice.ensures.items ∙ s.interfaces) c.in_default.ensures, refl);
}

pub returns-then-not-initiates : goal.returns-then-not-initiates
returns-then-not-initiates c = record {
  free = λ db J s chan failed.
      let (x, is, interface_is) = some_named J c.args.name.now c.as_slice.result.now c.in-Some.interface.now (c.as_slice.ensures.items ∙ s.interfaces) c.in-Some.ensures in
      check_barred db J c.args.name.now chan failed x _ is
      (check_of_wrong_kind db J chan failed x (ap (λ (p : Interface). initiates p.kind) (sym interface_is) ∙ sym c.initiates.ensures.initiates ∙ c.if-not-initiates.true));
}

pub unreachable-requires : goal.unreachable-requires
unreachable-requires c =
    let db = c.requires.core.db in
    let J = c.requires.core.journal in
    let s = c.requires.core.keeps in
    let (x, is, interface_is) = some_named J c.args.name.now c.as_slice.result.now c.in-Some.interface.now (c.as_slice.ensures.items ∙ s.interfaces) c.in-Some.ensures in
    let there = home_there db J x.index x.radio s.due (home_listed db J x s.due (named_listed J c.args.name.now x is)) in
    let gone = subst (λ (p : Interface). profile_of J p.radio ≡ None) interface_is (c.in_default-radio_at.ensures.kept db J s.radios) in
    absurd (false≢true (rw gone at there))

pub returns-in-Some-channel_of : goal.returns-in-Some-channel_of
returns-in-Some-channel_of c = record {
  free = λ db J s chan failed.
      let (x, is, interface_is) = some_named J c.args.name.now c.as_slice.result.now c.in-Some.interface.now (c.as_slice.ensures.items ∙ s.interfaces) c.in-Some.ensures in
      let kept = subst (λ (p : Interface). KeepsRadio db J p.radio c.in-Some-radio_at.radio.now) interface_is (c.in-Some-radio_at.ensures.kept db J s.radios) in
      let sends = ap (λ (p : Interface). initiates p.kind) (sym interface_is) ∙ sym c.initiates.ensures.initiates ∙ c.if-not-initiates.false in
      check_barred db J c.args.name.now chan failed x _ is
      (check_while_busy db J chan failed x sends
      ((used_on_channel J x).0 (ap is_some (sym (c.in-Some-channel_of.ensures db J x (kept_of db J c.args.name.now x c.in-Some-radio_at.radio.now c.in-Some.interface.now s.due is interface_is kept))))));
}

pub returns : goal.returns
returns c = record {
  free = λ db J s.
      let (x, is, interface_is) = some_named J c.args.name.now c.as_slice.result.now c.in-Some.interface.now (c.as_slice.ensures.items ∙ s.interfaces) c.in-Some.ensures in
      let kept = subst (λ (p : Interface). KeepsRadio db J p.radio c.in-Some-radio_at.radio.now) interface_is (c.in-Some-radio_at.ensures.kept db J s.radios) in
      let none = c.in_default-channel_of.ensures db J x (kept_of db J c.args.name.now x c.in-Some-radio_at.radio.now c.in-Some.interface.now s.due is interface_is kept) in
      record {
        iface = x;
        is_named = is;
        interface_is = interface_is;
        sends = ap (λ (p : Interface). initiates p.kind) (sym interface_is) ∙ sym c.initiates.ensures.initiates ∙ c.if-not-initiates.false;
        rests = λ used. false≢true (ap is_some none ∙ (used_on_channel J x).1 used);
        radio_is = kept;
      };
}
