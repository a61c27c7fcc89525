use Rattle.std.proofs.Common.{rules, ◌≡◌, ◌∷◌, Some, not, sym, subst, ap, ◌∙◌}
use Rattle.std.specs.Option.{option_to_list}
use Rattle.chan_flags.specs.Profiles.{Abilities}
use Rattle.rule_tables.specs.Regions.{is_same_region}
use Rattle.rule_tables.specs.declared.code.Region.TheVariants.{Etsi}
use Rattle.rule_intersect.specs.Tables.{IsTableOf}
use Rattle.reg_hints.specs.Table.{Own}
use Rattle.reg_journal.specs.Applicable.{region_of}
use Rattle.reg_journal.specs.Facts.{hinted}
use Rattle.reg_books.specs.Lists.{applies_by, region_by}
use Rattle.core_parts.proofs.KeptOn.{applies-own, region-before, region-own}
use Rattle.reg_core.proofs.driver_hints.tuning_of.Goals as goal

pub returns : goal.returns
returns c = λ J r kept led.
    let db = c.args.domains.now in
    let a = c.args.alpha2 in
    let radio = c.args.kept.now in
    let hints = c.args.hints.now in
    let self_managed = c.self_managed-self_managed.ensures ∙ ap (λ (p : Abilities). p.self_managed) c.profile.ensures in
    let was : c.region_of-was.result ≡ region_of db J r =
    c.region_of-was.ensures ∙ ap (λ s. region_by db hints s radio.driver) self_managed ∙ sym (region-before db J r radio hints kept led) in
    let is : c.region_of-is.result ≡ region_of db (hinted (Own r a) ∷ J) r =
    c.region_of-is.ensures ∙ ap (λ s. region_by db hints s (Some a)) self_managed ∙ sym (region-own db J r a radio hints kept led) in
    let made : IsTableOf (applies_by db hints radio.chans.profile.self_managed (option_to_list radio.custom) (Some a)) c.in_ok-table.table = search rules in
    record {
      table_is = subst (λ ds. IsTableOf ds c.in_ok-table.table) (sym (applies-own db J r a radio hints kept led)) made;
      moved_is = c.is_moved.ensures ∙ ap (λ x. not (is_same_region x c.region_of-was.result)) is
          ∙ ap (λ x. not (is_same_region (region_of db (hinted (Own r a) ∷ J) r) x)) was;
      lasts_is = c.checks_last.ensures ∙ ap (λ x. is_same_region x Etsi) is;
    }
