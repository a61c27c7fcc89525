use Rattle.std.proofs.Common.{[], ◌∷◌, None, arith, refl, sym, subst, ap, map, ◌∙◌}
use Rattle.rule_tables.specs.Regions.{is_same_region}
use Rattle.rule_tables.specs.declared.code.Region.TheVariants.{Etsi}
use Rattle.dfs_states.specs.Calls.{Advance}
use Rattle.dfs_states.specs.StandsFor.{BookStandsFor}
use Rattle.rule_intersect.specs.Tables.{IsTableOf}
use Rattle.reg_books.specs.Lists.{applies_by, region_by}
use Rattle.core_parts.proofs.NewRadios.{added}
use Rattle.core_parts.proofs.radio.Radio.new.Goals as goal

pub returns : goal.returns
returns c = record {
  kept = λ J r same now no_driver due.
      let db = c.args.domains.now in
      let profile = c.args.profile in
      let centres = c.as_slice.ensures.value ∙ c.in_ok-centres.ensures in
      let table = subst (λ hints. IsTableOf (applies_by db hints profile.self_managed [] None) c.in_ok-table.table) (sym same)
      (subst (λ s. IsTableOf (applies_by db c.args.hints.now s [] None) c.in_ok-table.table) c.self_managed.ensures c.in_ok-table.ensures) in
      let lasting = c.checks_last-lasts.ensures ∙ ap (λ x. is_same_region x Etsi) (c.region_of.ensures
      ∙ ap (λ s. region_by db c.args.hints.now s None) c.self_managed-2.ensures ∙ ap (λ h. region_by db h profile.self_managed None) (sym same)) in
      let few = c.requires.time in
      let moment = c.advance.ensures.stands_for _ _ [] c.in_ok-book.ensures.opening (omega (arith, few), few) in
      let book = subst (λ moment. BookStandsFor c.advance.new.self (map (λ c. c.khz) c.refresh.new.self.chans) c.checks_last-lasts.result (Advance moment ∷ [])) (sym now)
      (subst (λ channels. BookStandsFor c.advance.new.self channels c.checks_last-lasts.result (Advance c.args.now ∷ [])) centres moment) in
      added db J r profile _ due no_driver (c.refresh.ensures.profile ∙ c.in_ok-chans.ensures.profile) refl refl c.checks_last-lasts.result lasting table c.refresh.ensures.law book;
}
