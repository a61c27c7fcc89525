use Rattle.std.proofs.Common.{◌≡◌, true, Contains, get_or, ap, refl, subst, sym, ◌∙◌}
use Rattle.reg_journal.specs.Present.{Iface, ifaces_of}
use Rattle.core_parts.specs.Kept.{kept}
use Rattle.reg_core.specs.inner.Sweeping.{is_wanted}
use Rattle.core_parts.specs.declared.interface.Interface.{Interface}
use Rattle.reg_core.proofs.SweepPlaces.{at_place, moved_at, one_at_place, radio_kept, swept_at}
use Rattle.reg_core.proofs.core_state.Core.change_at.Goals as goal

pub unreachable-requires : goal.unreachable-requires
unreachable-requires c =
    let core = c.requires.core in
    let p = c.index-as_slice-k.result in
    let at = at_place core.db core.journal c.args.self.now c.args.k p core.keeps c.requires.within (c.index-as_slice-k.is ∙ ap (λ ps. get_or ps c.args.k p) c.as_slice.ensures.items) in
    radio_kept core.db core.journal c.args.self.now at.iface p core.keeps at.there at.is (c.in_default.ensures.kept core.db core.journal core.keeps.radios)

pub change_of-requires : goal.change_of-requires
change_of-requires c =
    let core = c.requires.core in
    let p = c.index-as_slice-k.result in
    let at = at_place core.db core.journal c.args.self.now c.args.k p core.keeps c.requires.within (c.index-as_slice-k.is ∙ ap (λ ps. get_or ps c.args.k p) c.as_slice.ensures.items) in
    record {
      swept = record {
        db = core.db;
        journal = core.journal;
        iface = at.iface;
        swept = swept_at core.db core.journal c.args.self.now at.iface p c.in-Some.radio.now core.keeps at.there at.is (c.in-Some.ensures.kept core.db core.journal core.keeps.radios);
      };
    }

pub returns-then-not-is_wanted : goal.returns-then-not-is_wanted
returns-then-not-is_wanted c = λ db J x s moved here.
    let p = c.index-as_slice-k.result in
    let at = at_place db J c.args.self.now c.args.k p s c.requires.within (c.index-as_slice-k.is ∙ ap (λ ps. get_or ps c.args.k p) c.as_slice.ensures.items) in
    let same = one_at_place J c.args.k at.iface x at.here here in
    let radio = ap (λ (q : Interface). q.radio) at.is ∙ ap (λ (y : Iface). y.radio) same in
    rw (sym (c.is_wanted.ensures x radio) ∙ c.if-not-is_wanted.true) refl

pub returns : goal.returns
returns c = λ db J x s moved here.
    let p = c.index-as_slice-k.result in
    let at = at_place db J c.args.self.now c.args.k p s c.requires.within (c.index-as_slice-k.is ∙ ap (λ ps. get_or ps c.args.k p) c.as_slice.ensures.items) in
    let same = one_at_place J c.args.k at.iface x at.here here in
    let radio = ap (λ (q : Interface). q.radio) at.is ∙ ap (λ (y : Iface). y.radio) same in
    let asked : is_wanted c.args.only.now x ≡ true = sym (c.is_wanted.ensures x radio) ∙ c.if-not-is_wanted.false in
    let there = subst (λ y. Contains (ifaces_of J) y) same at.there in
    let is = at.is ∙ ap (kept J) same in
    rw asked
    (c.change_of.ensures db J x (swept_at db J c.args.self.now x p c.in-Some.radio.now s there is (c.in-Some.ensures.kept db J s.radios))
    (moved_at db J x p c.args.moved.now c.flag_of.result moved there is c.flag_of.ensures))
