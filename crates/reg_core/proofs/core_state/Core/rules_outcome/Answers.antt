use Rattle.std.proofs.Common.{rules, [], ◌∷◌, is_some, inl, ap, refl, sym, subst, ◌∙◌}
use Rattle.std.proofs.lemmas.Option.{none-some}
use Rattle.rule_intersect.specs.Tables.{IsTableOf}
use Rattle.rule_tables.specs.World.{custom_domain}
use Rattle.reg_journal.specs.Applicable.{applies}
use Rattle.reg_journal.specs.Facts.{rules_are}
use Rattle.reg_books.specs.Lists.{applies_by}
use Rattle.core_parts.specs.Making.{IsMadeFault}
use Rattle.core_parts.proofs.KeptOn.{applies-ruled}
use Rattle.core_parts.proofs.RowRefusals.{rows_of_fault}
use Rattle.reg_core.proofs.RulesSteps.{free_of_rules, rows_barred}
use Rattle.reg_core.proofs.core_state.Core.rules_outcome.Goals as goal

pub returns-in_default : goal.returns-in_default
returns-in_default c = λ db J s. inl (c.in_default.ensures.kept db J s.radios, refl)

pub returns-in-Ok-radio_table : goal.returns-in-Ok-radio_table
returns-in-Ok-radio_table c = λ db J s.
    let r = c.args.radio in
    let list = c.args.rules.now in
    let radio = c.in-Some.kept.now in
    let kept = c.in-Some.ensures.kept db J s.radios in
    let domains = c.args.self.now.domains in
    let hints = c.args.self.now.hints in
    let table = c.in-Ok-radio_table.table in
    let made : IsTableOf (applies_by domains hints radio.chans.profile.self_managed (c.in-Ok.custom ∷ []) radio.driver) table = search rules in
    let is : IsTableOf (applies db (rules_are r list ∷ J) r) table =
    subst (λ ds. IsTableOf ds table) (sym (applies-ruled db J r list radio hints kept (sym s.hints)))
    (subst (λ ds. IsTableOf (applies_by ds hints radio.chans.profile.self_managed (custom_domain list ∷ []) radio.driver) table) s.domains
    (subst (λ d. IsTableOf (applies_by domains hints radio.chans.profile.self_managed (d ∷ []) radio.driver) table) c.in-Ok.ensures.1 made)) in
    record {
      there = ap is_some kept.profile;
      are = c.in-Ok.ensures.0;
      free = free_of_rules db J r list table (λ gone. none-some radio.chans.profile (sym gone ∙ kept.profile)) c.in-Ok.ensures.0 is;
      custom_is = c.in-Ok.ensures.1;
      table_is = is;
    }

pub returns-in-Err-radio_table : goal.returns-in-Err-radio_table
returns-in-Err-radio_table c = λ db J s.
    let r = c.args.radio in
    let list = c.args.rules.now in
    let radio = c.in-Some.kept.now in
    let kept = c.in-Some.ensures.kept db J s.radios in
    let domains = c.args.self.now.domains in
    let hints = c.args.self.now.hints in
    let fault = c.in-Err-radio_table.fault in
    let made : IsMadeFault (applies_by domains hints radio.chans.profile.self_managed (c.in-Ok.custom ∷ []) radio.driver) fault = search rules in
    let is : IsMadeFault (applies db (rules_are r list ∷ J) r) fault =
    subst (λ ds. IsMadeFault ds fault) (sym (applies-ruled db J r list radio hints kept (sym s.hints)))
    (subst (λ ds. IsMadeFault (applies_by ds hints radio.chans.profile.self_managed (custom_domain list ∷ []) radio.driver) fault) s.domains
    (subst (λ d. IsMadeFault (applies_by domains hints radio.chans.profile.self_managed (d ∷ []) radio.driver) fault) c.in-Ok.ensures.1 made)) in
    rows_barred db J r list c.declined.result (λ gone. none-some radio.chans.profile (sym gone ∙ kept.profile)) c.in-Ok.ensures.0
    (c.declined.ensures.rows (applies db (rules_are r list ∷ J) r ∷ []) (rows_of_fault (applies db (rules_are r list ∷ J) r) [] fault is))
