use Rattle.std.proofs.Common.{◌≡◌, ◌∷◌, not, refl, sym, ap, ◌∙◌}
use Rattle.chan_flags.specs.Profiles.{Abilities}
use Rattle.reg_hints.specs.Table.{Treated}
use Rattle.rule_tables.specs.Regions.{is_same_region}
use Rattle.rule_tables.specs.declared.code.Region.TheVariants.{Etsi}
use Rattle.reg_journal.specs.Applicable.{region_of}
use Rattle.reg_journal.specs.Facts.{hinted}
use Rattle.reg_books.specs.Lists.{region_by}
use Rattle.core_parts.proofs.KeptOn.{driver-after, region-after, region-before, table-after}
use Rattle.core_parts.proofs.LeftAlone.{left_alone}
use Rattle.core_parts.proofs.hinting.retune_place.Goals as goal

pub returns : goal.returns
returns c = record {
  kept = λ J keeps led_before led_after.
      let db = c.args.domains.now in
      let r = c.args.number in
      let hint = c.args.hint.now in
      let radio = c.in-There.radio in
      let there = rw c.in-There.is at keeps in
      let kept = there.1 in
      let driver = driver-after db J r radio hint kept ∙ sym c.driver_after-driver.ensures in
      let table = table-after db J r radio hint c.args.after.now c.in-Some.table kept led_after (rw (c.in-There.is, c.in-Some.is) at c.requires.table) in
      let self_managed = c.self_managed-self_managed.ensures ∙ ap (λ (p : Abilities). p.self_managed) c.profile.ensures in
      let was : c.region_of-was.result ≡ region_of db J r =
      c.region_of-was.ensures ∙ ap (λ s. region_by db c.args.before.now s radio.driver) self_managed ∙ sym (region-before db J r radio c.args.before.now kept led_before) in
      let is : c.region_of-is.result ≡ region_of db (hinted (Treated hint) ∷ J) r =
      c.region_of-is.ensures ∙ ap (λ s. region_by db c.args.after.now s c.driver_after-driver.result) self_managed
      ∙ ap (λ d. region_by db c.args.after.now radio.chans.profile.self_managed d) c.driver_after-driver.ensures
      ∙ sym (region-after db J r radio hint c.args.after.now kept led_after) in
      let moved = c.is_moved.ensures ∙ ap (λ x. not (is_same_region x c.region_of-was.result)) is
      ∙ ap (λ x. not (is_same_region (region_of db (hinted (Treated hint) ∷ J) r) x)) was in
      (there.0, c.retune.ensures.kept db J r (Treated hint) kept driver table moved (c.checks_last.ensures ∙ ap (λ x. is_same_region x Etsi) is));
}

pub returns-then-leaves_list : goal.returns-then-leaves_list
returns-then-leaves_list c = record {
  kept = λ J keeps led_before led_after.
      let there = rw c.in-There.is at keeps in
      let same = c.if-leaves_list.ensures.0 refl in (
        there.0,
        left_alone c.args.domains.now J c.args.number c.in-There.radio c.args.hint.now c.args.before.now c.args.after.now there.1 led_before led_after same.0
            (same.1 ∙ c.driver_after-driver.ensures),
      );
}
