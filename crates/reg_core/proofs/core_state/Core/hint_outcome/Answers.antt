use Rattle.std.proofs.Common.{rules, ◌≡◌, ◌∙◌, ◌∷◌, ◌<◌, List, None, IsSome, ap, length, sym, subst}
use Rattle.rule_tables.specs.declared.domain.Domain.{Domain}
use Rattle.reg_hints.specs.Table.{after_hint, treatment}
use Rattle.reg_journal.specs.Applicable.{find_domain}
use Rattle.reg_journal.specs.Facts.{Journal}
use Rattle.reg_journal.specs.Refusals.{RowCauses}
use Rattle.reg_core.specs.inner.Deciding.{IsReason}
use Rattle.core_parts.specs.Hinting.{lists_after}
use Rattle.reg_core.specs.Kept.{Keeps}
use Rattle.reg_books.specs.Lists.{global_by}
use Rattle.reg_core.specs.inner.Outcomes.{AreHintTables}
use Rattle.core_parts.proofs.AllLists.{global_by-after}
use Rattle.reg_core.proofs.HintRefusals.{MayLead, free_of_tables, may_lead, reason_of_rows, some_unless_none}
use Rattle.reg_core.proofs.core_state.Core.hint_outcome.Goals as goal

-- past the look-up, the code is known
known : (c : goal.After-hint_tables-arg-1) → find_domain c.args.self.now.domains c.args.alpha2 ≡ None → ⊥
known c none = search rules

-- and past the table of hints, the hint may lead where it does
leads : (c : goal.After-hint_tables-arg-1) (db : List Domain) (J : Journal) → Keeps db c.args.self.now J → MayLead db J c.args.hint.now c.apply.new.self
leads c db J s =
    let same = c.same-hints.ensures in
    may_lead db c.args.self.now.domains J c.args.alpha2 c.args.hint.now c.same-hints.result c.apply.new.self s.domains (same ∙ s.hints) c.requires.code (known c) c.in-Ok.ensures.answer.1 c.in-Ok.ensures.step

pub hint_tables-requires : goal.hint_tables-requires
hint_tables-requires c =
    let domains = c.args.self.now.domains in
    let hints = c.args.self.now.hints in
    let core = c.requires.core.keeps in
    let some : 0 < length (global_by domains hints) =
    subst (λ ds. 0 < length (global_by ds hints)) (sym core.domains) (subst (λ h. 0 < length (global_by c.requires.core.db h)) (sym core.hints) core.global.some) in
    let is_known = subst (λ a. IsSome (find_domain domains a)) c.requires.code (some_unless_none _ (known c)) in
    record {
      some = subst (λ led. 0 < length (global_by domains led)) (sym (c.in-Ok.ensures.step ∙ ap (after_hint c.args.hint.now) c.same-hints.ensures))
          (global_by-after domains hints c.args.hint.now is_known some);
    }

pub returns-in-Ok-hint_tables : goal.returns-in-Ok-hint_tables
returns-in-Ok-hint_tables c = λ db J s.
    let may = leads c.before.before db J s in
    let led = c.apply.new.self in
    let hint = c.args.hint.now in
    let places = c.args.self.now.radios in
    let are = subst (λ ds. AreHintTables ds led hint places c.in-Ok-hint_tables.tables) s.domains c.in-Ok-hint_tables.ensures.tables in
    record {
      free = free_of_tables db J hint led places c.in-Ok-hint_tables.tables may (search rules) s.radios are;
      treatment_is = c.in-Ok.ensures.answer.0 ∙ ap (λ s. treatment s hint) (c.same-hints.ensures ∙ s.hints);
      hints = may.led_is;
      tables = are;
    }

pub returns-in-Err : goal.returns-in-Err
returns-in-Err c = λ db J s.
    let led = c.apply.new.self in
    let hint = c.args.hint.now in
    let places = c.args.self.now.radios in
    let lists = global_by c.args.self.now.domains led ∷ lists_after c.args.self.now.domains led hint 0 places in
    reason_of_rows db J hint led places c.declined.result (leads c.before.before.before db J s) (search rules) s.radios
    (subst (λ ds. IsReason (RowCauses (global_by ds led ∷ lists_after ds led hint 0 places)) c.declined.result) s.domains (c.declined.ensures.rows lists c.in-Err.ensures.fault))
