use Rattle.std.proofs.Common.{not, ap, refl, sym, ◌∙◌}
use Rattle.chan_flags.specs.Profiles.{Abilities}
use Rattle.rule_tables.specs.Regions.{is_same_region}
use Rattle.core_parts.specs.Hinting.{driver_after}
use Rattle.reg_books.specs.Lists.{region_by}
use Rattle.core_parts.proofs.LeftAlone.{region_stays}
use Rattle.core_parts.proofs.hinting.is_place_moved.Goals as goal

pub returns : goal.returns
returns c =
    let db = c.args.domains.now in
    let radio = c.in-There.radio in
    let self_managed = c.self_managed-self_managed.ensures ∙ ap (λ (p : Abilities). p.self_managed) c.profile.ensures in
    let was = c.region_of-was.ensures ∙ ap (λ s. region_by db c.args.before.now s radio.driver) self_managed in
    let is = c.region_of-is.ensures ∙ ap (λ s. region_by db c.args.after.now s c.driver_after-driver.result) self_managed
    ∙ ap (λ d. region_by db c.args.after.now radio.chans.profile.self_managed d) c.driver_after-driver.ensures in
    rw c.in-There.is (c.is_moved.ensures ∙ ap (λ x. not (is_same_region x c.region_of-was.result)) is
    ∙ ap (λ x. not (is_same_region (region_by db c.args.after.now radio.chans.profile.self_managed (driver_after c.args.hint.now c.args.number radio.driver)) x)) was)

pub returns-then-leaves_list : goal.returns-then-leaves_list
returns-then-leaves_list c =
    let same = c.if-leaves_list.ensures.0 refl in
    rw c.in-There.is
    (region_stays c.args.domains.now c.args.before.now c.args.after.now c.args.hint.now c.args.number c.in-There.radio same.0 (same.1 ∙ c.driver_after-driver.ensures))
