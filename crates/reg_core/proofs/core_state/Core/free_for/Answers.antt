use Rattle.std.proofs.Common.{◌≡◌, ℕ, List, Some, None, map, refl, sym, subst, ap, ◌∙◌}
use Rattle.std.proofs.lemmas.Bool.{false≢true}
use Rattle.rule_tables.specs.declared.domain.Domain.{Domain}
use Rattle.reg_journal.specs.Due.{EachMayFollow}
use Rattle.reg_journal.specs.Facts.{Journal}
use Rattle.reg_journal.specs.Present.{Iface, named, profile_of}
use Rattle.core_parts.specs.Contexts.{IsOf}
use Rattle.core_parts.specs.Kept.{KeepsRadio, kept}
use Rattle.core_parts.specs.declared.interface.Interface.{Interface}
use Rattle.core_parts.specs.declared.radio.Radio.{Radio}
use Rattle.reg_journal.proofs.Radios.{home_listed}
use Rattle.core_parts.proofs.KeptInterfaces.{none_named, some_named}
use Rattle.reg_journal.proofs.Listed.{named_listed}
use Rattle.reg_journal.proofs.Operating.{home_there}
use Rattle.reg_core.proofs.StartReasons.{start_barred, start_of_wrong_kind, start_unnamed, start_while_busy}
use Rattle.reg_core.proofs.core_state.Core.free_for.Goals as goal

-- what is kept of the interface and its radio
kept_of : (db : List Domain) (J : Journal) (name : List ℕ) (x : Iface) (radio : Radio) (interface : Interface) → EachMayFollow db J → named J name ≡ Some x → interface ≡ kept J x
    → KeepsRadio db J x.radio radio → IsOf db J x radio.book interface
kept_of db J name x radio interface due is interface_is keeps = record {
  due = due;
  there = named_listed J name x is;
  interface_is = interface_is;
  channels = map (λ c. c.khz) radio.chans.chans;
  book_is = keeps.book;
}

pub returns-in_default : goal.returns-in_default
returns-in_default c = record {
  free = λ db J s chan failed.
      start_unnamed db J c.args.name.now c.args.kind chan failed (none_named J c.args.name.now c.as_slice.result.now (c.as_slice.ensures.items ∙ s.interfaces) c.in_default.ensures);
}

pub returns-then-not-is_same_kind : goal.returns-then-not-is_same_kind
returns-then-not-is_same_kind c = record {
  free = λ db J s chan failed.
      let (x, is, interface_is) = some_named J c.args.name.now c.as_slice.result.now c.in-Some.interface.now (c.as_slice.ensures.items ∙ s.interfaces) c.in-Some.ensures in
      start_barred db J c.args.name.now c.args.kind chan failed x _ is
      (start_of_wrong_kind db J c.args.kind chan failed x (λ same. absurd (false≢true (c.if-not-is_same_kind.ensures.1 (ap (λ (p : Interface). p.kind) interface_is ∙ same)))));
}

pub unreachable-requires : goal.unreachable-requires
unreachable-requires c =
    let db = c.requires.core.db in
    let J = c.requires.core.journal in
    let s = c.requires.core.keeps in
    let (x, is, interface_is) = some_named J c.args.name.now c.as_slice.result.now c.in-Some.interface.now (c.as_slice.ensures.items ∙ s.interfaces) c.in-Some.ensures in
    let there = home_there db J x.index x.radio s.due (home_listed db J x s.due (named_listed J c.args.name.now x is)) in
    let gone = subst (λ (p : Interface). profile_of J p.radio ≡ None) interface_is (c.in_default-radio_at.ensures.kept db J s.radios) in
    absurd (false≢true (rw gone at there))

pub returns-then-is_in_use_for : goal.returns-then-is_in_use_for
returns-then-is_in_use_for c = record {
  free = λ db J s chan failed.
      let (x, is, interface_is) = some_named J c.args.name.now c.as_slice.result.now c.in-Some.interface.now (c.as_slice.ensures.items ∙ s.interfaces) c.in-Some.ensures in
      let kept = subst (λ (p : Interface). KeepsRadio db J p.radio c.in-Some-radio_at.radio.now) interface_is (c.in-Some-radio_at.ensures.kept db J s.radios) in
      start_barred db J c.args.name.now c.args.kind chan failed x _ is
      (start_while_busy db J c.args.kind chan failed x (sym (ap (λ (p : Interface). p.kind) interface_is) ∙ c.if-not-is_same_kind.ensures.0 refl)
      ((c.if-is_in_use_for.ensures db J x (kept_of db J c.args.name.now x c.in-Some-radio_at.radio.now c.in-Some.interface.now s.due is interface_is kept)).0 refl));
}

pub returns : goal.returns
returns c = record {
  free = λ db J s.
      let (x, is, interface_is) = some_named J c.args.name.now c.as_slice.result.now c.in-Some.interface.now (c.as_slice.ensures.items ∙ s.interfaces) c.in-Some.ensures in
      let kept = subst (λ (p : Interface). KeepsRadio db J p.radio c.in-Some-radio_at.radio.now) interface_is (c.in-Some-radio_at.ensures.kept db J s.radios) in
      let used = c.if-is_in_use_for.ensures db J x (kept_of db J c.args.name.now x c.in-Some-radio_at.radio.now c.in-Some.interface.now s.due is interface_is kept) in
      record {
        iface = x;
        is_named = is;
        interface_is = interface_is;
        startable = record {
          of_kind = sym (ap (λ (p : Interface). p.kind) interface_is) ∙ c.if-not-is_same_kind.ensures.0 refl;
          free = λ in_use. false≢true (used.1 in_use);
        };
        radio_is = kept;
      };
}
