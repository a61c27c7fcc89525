-- What rules the radios after requests is one thing, whichever drivers fail; and so are the sections.
use Rattle.std.proofs.Common.{◌≡◌, Bool, false, List, [], ◌∷◌, refl, ap, sym, subst, ◌∙◌, inl, inr}
use Rattle.std.specs.Prelude.{ℕ, take}
use Rattle.rule_tables.specs.declared.domain.Domain.{Domain}
use Rattle.reg_hints.specs.Element.{IsElement}
use Rattle.reg_hints.specs.Table.{Hinted, Treated}
use Rattle.reg_hints.specs.declared.element.Element.{Element}
use Rattle.reg_hints.specs.declared.hint.Hint.TheVariants.{User}
use Rattle.reg_journal.specs.Asking.{AreTables, LeadsTo, MayLeadTo}
use Rattle.reg_journal.specs.Causes.{◌before◌}
use Rattle.reg_journal.specs.Dumps.{AreSections}
use Rattle.reg_journal.specs.Facts.{Fact, Journal, radio_added, radio_removed, rules_are, hinted}
use Rattle.reg_journal.specs.Refusals.{ElementCauses, HintCauses, LacksRadio, RadioAddCauses, RulesCauses}
use Rattle.reg_journal.specs.Replies.{Steps, driver_hint, element_hint}
use Rattle.reg_journal.specs.Rulings.{GainsFact, RulesThen, HintRules, Unless, rulings}
use Rattle.reg_journal.specs.declared.refusal.Refusal.{Refusal}
use Rattle.reg_journal.specs.declared.reply.Reply.{Reply}
use Rattle.reg_journal.specs.declared.report.Section.{Section}
use Rattle.reg_journal.specs.declared.request.Request.{Request}
use Rattle.reg_journal.specs.declared.request.Request.TheVariants.{RadioAdd, RadioDel, RadioRules, Element as HeardElement, DriverHint, UserHint}
use Rattle.reg_journal.proofs.OneReply.{one-code}
use Rattle.reg_journal.proofs.Ruled.{sections_from, sections_to}
use Rattle.reg_journal.proofs.RuledSteps.{rules_then}

-- ---- one request

one_unless : (causes : Refusal → Type 0) (given : Journal → Type 0) (R one other : Journal) → ((one other : Journal) → given one → given other → one ≡ other)
    → Unless causes given R one → Unless causes given R other → one ≡ other
one_unless causes given R one other alike (inl (comes, at)) (inl (comes', at')) = at ∙ sym at'
one_unless causes given R one other alike (inl ((e, cause), at)) (inr (free, is)) = absurd (free e cause)
one_unless causes given R one other alike (inr (free, is)) (inl ((e, cause), at)) = absurd (free e cause)
one_unless causes given R one other alike (inr (free, is)) (inr (free', is')) = alike one other is is'

one_added : (f : Fact) (R one other : Journal) → GainsFact f R one → GainsFact f R other → one ≡ other
one_added f R one other at at' = at ∙ sym at'

one_hint : (db : List Domain) (R : Journal) (hint : Hinted) (one other : Journal) → HintRules db R hint one → HintRules db R hint other → one ≡ other
one_hint db R hint one other is is' = one_unless (HintCauses db R hint) (GainsFact (hinted hint) R) R one other (one_added (hinted hint) R) is is'

one_heard : (db : List Domain) (R : Journal) (r : ℕ) (body : List ℕ) (one other : Journal) → (e : Element) × IsElement body e × HintRules db R (element_hint R r e.alpha2) one
    → (e : Element) × IsElement body e × HintRules db R (element_hint R r e.alpha2) other → one ≡ other
one_heard db R r body one other (e, is, takes) (e', is', takes') =
    one_hint db R (element_hint R r e'.alpha2) one other (subst (λ a. HintRules db R (element_hint R r a) one) (one-code body e e' is is') takes) takes'

pub one_ruling : (db : List Domain) (R : Journal) (q : Request) (one other : Journal) → RulesThen db R q one → RulesThen db R q other → one ≡ other
one_ruling db R (RadioAdd r profile) one other is is' = one_unless (RadioAddCauses R r) (GainsFact (radio_added r profile) R) R one other (one_added (radio_added r profile) R) is is'
one_ruling db R (RadioDel r) one other is is' = one_unless (LacksRadio R r) (GainsFact (radio_removed r) R) R one other (one_added (radio_removed r) R) is is'
one_ruling db R (RadioRules r rules) one other is is' = one_unless (RulesCauses db R r rules) (GainsFact (rules_are r rules) R) R one other (one_added (rules_are r rules) R) is is'
one_ruling db R (HeardElement r body) one other is is' =
    one_unless (LacksRadio R r before ElementCauses body) (λ next. (e : Element) × IsElement body e × HintRules db R (element_hint R r e.alpha2) next) R one other (one_heard db R r body) is is'
one_ruling db R (DriverHint r a) one other is is' = one_unless (LacksRadio R r) (HintRules db R (driver_hint R r a)) R one other (one_hint db R (driver_hint R r a)) is is'
one_ruling db R (UserHint a) one other is is' = one_hint db R (Treated (User a)) one other is is'
one_ruling db R q one other is is' = is ∙ sym is'

-- ---- all requests

step_ruled : (db : List Domain) (J next : Journal) (q : Request) (failed : Bool) (reply : Reply) → Steps db J q failed reply next → RulesThen db (rulings J) q (rulings next)
step_ruled db J next q failed reply (facts, replies, same) = subst (λ K. RulesThen db (rulings J) q (rulings K)) (sym same) (rules_then db J q failed reply facts replies)

-- over journals that are ruled alike the requests lead to ones that are
alike : (db : List Domain) (qs : List Request) (J K one other : Journal) → rulings J ≡ rulings K → MayLeadTo db J qs one → MayLeadTo db K qs other → rulings one ≡ rulings other
alike db [] J K one other same at at' = ap rulings at ∙ same ∙ sym (ap rulings at')
alike db (q ∷ qs) J K one other same (failed, reply, next, steps, rest) (failed', reply', next', steps', rest') =
    alike db qs next next' one other
    (one_ruling db (rulings K) q (rulings next) (rulings next') (subst (λ R. RulesThen db R q (rulings next)) same (step_ruled db J next q failed reply steps)) (step_ruled db K next' q failed' reply' steps'))
    rest rest'

pub same_sections : (db : List Domain) (qs : List Request) (J one other : Journal) (sections : List Section) → MayLeadTo db J qs one → MayLeadTo db J qs other → AreSections db one sections
    → AreSections db other sections
same_sections db qs J one other sections leads leads' are =
    sections_from db other sections (subst (λ R. AreSections db R sections) (alike db qs J J one other refl leads leads') (sections_to db one sections are))

-- where no driver fails, some may
pub may_lead : (db : List Domain) (qs : List Request) (J last : Journal) → LeadsTo db J qs last → MayLeadTo db J qs last
may_lead db [] J last at = at
may_lead db (q ∷ qs) J last (reply, next, steps, rest) = (false, reply, next, steps, may_lead db qs next last rest)

pub tables_of_any : (db : List Domain) (qs : List Request) (n : ℕ) (J : Journal) (sections : List Section) → AreTables db qs n sections → MayLeadTo db [] (take n qs) J → AreSections db J sections
tables_of_any db qs n J sections (few, K, leads, are) other = same_sections db (take n qs) [] K J sections (may_lead db (take n qs) [] K leads) other are
