use Rattle.std.proofs.Common.{◌≡◌, ◌<◌, ◌+◌, drop, ◌∷◌, [], List, length, arith, ap, ◌∙◌, refl, subst, sym}
use Rattle.std.proofs.lemmas.Bool.{false≢true}
use Rattle.rule_tables.specs.declared.domain.Domain.{Domain}
use Rattle.std.specs.List.{cons_option}
use Rattle.chan_flags.specs.Profiles.{Abilities}
use Rattle.reg_journal.specs.Facts.{Journal}
use Rattle.reg_journal.specs.Permits.{channels_beside, distinct}
use Rattle.reg_journal.specs.Present.{Iface, ifaces_of}
use Rattle.reg_journal.proofs.Distinct.{gathered, length-gathered}
use Rattle.core_parts.specs.Judging.{IsAmong}
use Rattle.core_parts.proofs.Beside.{beside_all, beside_each, walk_ended, walk_none, walk_on, walk_passes, walk_some}
use Rattle.core_parts.proofs.contexts.passes_contexts.Goals as goal
use Rattle.core_parts.proofs.contexts.passes_contexts.Goals.{in-Some+else-not-add, in_default}

pub loop-other-init : goal.loop-other-init
loop-other-init c = record {
  few =
      let one = ap length c.only-found.ensures in
      let same = c.from-most.ensures in
      let some = c.contexts.ensures.some in
      omega (arith, one, same, some);
  so_far = λ db J x is. ap (λ found. gathered found (beside_all J x (ifaces_of J))) c.only-found.ensures ∙ ap (gathered (c.args.chan.now ∷ [])) (beside_each J x (ifaces_of J));
}

walked : (c : goal.Joined-channel_beside) (db : List Domain) (J : Journal) (x : Iface) → IsAmong db J x c.args.interface.now c.args.interfaces.now c.args.radio.now
    → gathered c.loop-other.found (cons_option c.channel_beside.result (beside_all J x (drop (c.loop-other.other-index + 1) (ifaces_of J)))) ≡ gathered [] (c.args.chan.now ∷ channels_beside J x)
walked c db J x is =
    walk_on db J x c.args.interface.now c.args.interfaces.now c.args.radio.now c.other-item.result c.loop-other.other-index c.loop-other.found (gathered [] (c.args.chan.now ∷ channels_beside J x)) c.channel_beside.result is
    c.loop-other-test.true c.other-item.is (c.channel_beside.ensures db J x) (c.loop-other.invariant.so_far db J x is)

pub returns-then-not-add : goal.returns-then-not-add
returns-then-not-add c = λ db J x is.
    let most = c.from-most.ensures ∙ c.contexts.ensures.contexts ∙ ap (λ (p : Abilities). p.contexts) c.profile.ensures in
    let all = gathered [] (c.args.chan.now ∷ channels_beside J x) in
    let rest = drop (c.loop-other.other-index + 1) (ifaces_of J) in
    let walked = walk_on db J x c.args.interface.now c.args.interfaces.now c.args.radio.now c.other-item.result c.loop-other.other-index c.loop-other.found all c.channel_beside.result is
    c.loop-other-test.true c.other-item.is (c.channel_beside.ensures db J x) (c.loop-other.invariant.so_far db J x is) in
    let full = c.add.ensures.full c.if-not-add.true in
    let more = walk_passes J x rest c.loop-other.found all c.in-Some.channel c.channel_beside.result c.from-most.result c.in-Some.is full walked in
    (λ passes. subst (λ n. n < length (distinct (c.args.chan.now ∷ channels_beside J x))) most (subst (λ n. c.from-most.result < n) (length-gathered (c.args.chan.now ∷ channels_beside J x)) more), λ more. refl)

pub loop-other-preserved : goal.loop-other-preserved
loop-other-preserved c = elim c.match-channel_beside.branch [
  | in-Some+else-not-add w ↦ record {
    few = rw w.found-is w.add.ensures.few;
    so_far = λ db J x is. walk_some c.loop-other.found c.match-channel_beside.found (beside_all J x (drop (c.loop-other.other-index + 1) (ifaces_of J))) (gathered [] (c.args.chan.now ∷ channels_beside J x))
        w.in-Some.channel c.channel_beside.result w.in-Some.is (w.found-is ∙ w.add.ensures.added w.if-not-add.false) (walked c db J x is);
  }
  | in_default w ↦ record {
    few = rw w.found-is c.loop-other.invariant.few;
    so_far = λ db J x is. walk_none c.loop-other.found c.match-channel_beside.found (beside_all J x (drop (c.loop-other.other-index + 1) (ifaces_of J))) (gathered [] (c.args.chan.now ∷ channels_beside J x))
        c.channel_beside.result w.in_default.is w.found-is (walked c db J x is);
  }
]

pub returns : goal.returns
returns c = λ db J x is.
    let most = c.from-most.ensures ∙ c.contexts.ensures.contexts ∙ ap (λ (p : Abilities). p.contexts) c.profile.ensures in
    let past = c.loop-other-test.false in
    let all = c.args.chan.now ∷ channels_beside J x in
    let within = walk_ended J x c.args.interfaces.now c.loop-other.found all c.loop-other.other-index c.from-most.result is.interfaces_are (omega (arith, past))
    (c.loop-other.invariant.so_far db J x is) c.loop-other.invariant.few in
    (λ passes. absurd (false≢true passes), λ more. absurd (within (subst (λ n. n < length (distinct all)) (sym most) more)))
