-- What rules the radios: the facts on radios, custom rules and hints, and what each request adds to them.
use Rattle.std.specs.Prelude.{◌≡◌, ◌⊎◌, List, [], ◌∷◌}
use Rattle.rule_tables.specs.declared.domain.Domain.{Domain}
use Rattle.reg_hints.specs.Element.{IsElement}
use Rattle.reg_hints.specs.Table.{Hinted, Treated}
use Rattle.reg_hints.specs.declared.element.Element.{Element}
use Rattle.reg_hints.specs.declared.hint.Hint.TheVariants.{User}
use Rattle.reg_journal.specs.Causes.{◌before◌, IsFree, SomeComes}
use Rattle.reg_journal.specs.Facts.{Fact, Journal, radio_added, radio_removed, rules_are, hinted}
use Rattle.reg_journal.specs.Refusals.{ElementCauses, HintCauses, LacksRadio, RadioAddCauses, RulesCauses}
use Rattle.reg_journal.specs.Replies.{driver_hint, element_hint}
use Rattle.reg_journal.specs.declared.refusal.Refusal.{Refusal}
use Rattle.reg_journal.specs.declared.request.Request.{Request}
use Rattle.reg_journal.specs.declared.request.Request.TheVariants.{RadioAdd, RadioDel, RadioRules, Element as HeardElement, DriverHint, UserHint}

-- the facts on which the domains that apply depend: radios that come and go, custom rules, and hints
abbrev pub rulings : Journal → Journal
rulings [] = []
rulings (radio_added r profile ∷ J) = radio_added r profile ∷ rulings J
rulings (radio_removed r ∷ J) = radio_removed r ∷ rulings J
rulings (rules_are r rules ∷ J) = rules_are r rules ∷ rulings J
rulings (hinted hint ∷ J) = hinted hint ∷ rulings J
rulings (f ∷ J) = rulings J

-- where something speaks against it nothing changes, or else this becomes of it
abbrev pub Unless : (Refusal → Type 0) → (Journal → Type 0) → Journal → Journal → Type 0
Unless causes granted R next = (SomeComes causes × (next ≡ R)) ⊎ (IsFree causes × granted next)

-- the fact is added
abbrev pub GainsFact : Fact → Journal → Journal → Type 0
GainsFact f R next = next ≡ f ∷ R

-- the hint is taken
abbrev pub HintRules : List Domain → Journal → Hinted → Journal → Type 0
HintRules db R hint = Unless (HintCauses db R hint) (GainsFact (hinted hint) R) R

-- What rules the radios after the request, from what ruled them before. No operation, check or driver bears on it.
abbrev pub RulesThen : List Domain → Journal → Request → Journal → Type 0
RulesThen db R (RadioAdd r profile) = Unless (RadioAddCauses R r) (GainsFact (radio_added r profile) R) R
RulesThen db R (RadioDel r) = Unless (LacksRadio R r) (GainsFact (radio_removed r) R) R
RulesThen db R (RadioRules r rules) = Unless (RulesCauses db R r rules) (GainsFact (rules_are r rules) R) R
RulesThen db R (HeardElement r body) =
    Unless (LacksRadio R r before ElementCauses body) (λ next. (e : Element) × IsElement body e × HintRules db R (element_hint R r e.alpha2) next) R
RulesThen db R (DriverHint r a) = Unless (LacksRadio R r) (HintRules db R (driver_hint R r a)) R
RulesThen db R (UserHint a) = HintRules db R (Treated (User a))
RulesThen db R q = λ next. next ≡ R
