use Rattle.std.proofs.Common.{rules, ◌≡◌, ◌∷◌, None, is_some, ap, sym, subst, ◌∙◌}
use Rattle.std.proofs.lemmas.Bool.{false≢true}
use Rattle.reg_hints.specs.Table.{Own}
use Rattle.reg_journal.specs.Applicable.{applies, find_domain}
use Rattle.reg_journal.specs.Facts.{hinted}
use Rattle.reg_journal.specs.Refusals.{all_lists}
use Rattle.core_parts.specs.Kept.{KeepsRadio}
use Rattle.reg_core.specs.inner.DriverHints.{Tunes}
use Rattle.core_parts.specs.Making.{IsMadeFault}
use Rattle.reg_core.proofs.HintRefusals.{hint_barred}
use Rattle.reg_core.proofs.OwnHints.{own_free, own_rows}
use Rattle.reg_core.proofs.core_state.Core.own_tuning.Goals as goal

pub returns-in_default : goal.returns-in_default
returns-in_default c = λ db J s there. absurd (false≢true (sym (ap is_some (c.in_default.ensures.kept db J s.radios)) ∙ there))

pub returns-in-Ok : goal.returns-in-Ok
returns-in-Ok c = λ db J s there.
    let domains = c.args.self.now.domains in
    let r = c.args.radio in
    let a = c.args.alpha2 in
    let known : find_domain domains a ≡ None → ⊥ = λ none. search rules in
    let kept = subst (λ ds. KeepsRadio ds J r c.in-Some.kept.now) (sym s.domains) (c.in-Some.ensures.kept db J s.radios) in
    let tunes = subst (λ ds. Tunes ds J r a c.in-Ok.tuning) s.domains (c.in-Ok.ensures J r kept (sym s.hints)) in
    record { free = own_free db J r a c.args.self.now c.in-Ok.tuning.table s (subst (λ ds. find_domain ds a ≡ None → ⊥) s.domains known) tunes.table_is; tunes = tunes }

pub returns-in-Err : goal.returns-in-Err
returns-in-Err c = λ db J s there.
    let domains = c.args.self.now.domains in
    let r = c.args.radio in
    let a = c.args.alpha2 in
    let known : find_domain domains a ≡ None → ⊥ = λ none. search rules in
    let kept = subst (λ ds. KeepsRadio ds J r c.in-Some.kept.now) (sym s.domains) (c.in-Some.ensures.kept db J s.radios) in
    let fault = subst (λ ds. IsMadeFault (applies ds (hinted (Own r a) ∷ J) r) c.in-Err.fault) s.domains (c.in-Err.ensures J r kept (sym s.hints)) in
    hint_barred db J (Own r a) c.declined.result (subst (λ ds. find_domain ds a ≡ None → ⊥) s.domains known) (λ fifth. fifth)
    (c.declined.ensures.rows (all_lists db (hinted (Own r a) ∷ J)) (own_rows db J r a c.args.self.now c.in-Err.fault s there fault))
