-- Country elements that radios receive.
use Rattle.std.specs.Prelude.{◌≡◌, ℕ, ◌||◌, ◌⊎◌, List, Option}
use Rattle.rule_tables.specs.declared.code.Alpha2.{Alpha2}
use Rattle.rule_tables.specs.declared.domain.Domain.{Domain}
use Rattle.radio_drv.specs.Seen.{Seen}
use Rattle.reg_hints.specs.Element.{IsElement}
use Rattle.reg_hints.specs.Table.{Treated, hinted_code}
use Rattle.reg_hints.specs.declared.element.Element.{Element}
use Rattle.reg_hints.specs.declared.hint.Hint.{Hint}
use Rattle.reg_hints.specs.declared.hint.Hint.TheVariants.{Element as ElementHint}
use Rattle.reg_hints.specs.declared.hint.Treatment.{Treatment}
use Rattle.reg_journal.specs.Applicable.{is_self_managed}
use Rattle.reg_journal.specs.Causes.{IsFree, ◌before◌}
use Rattle.reg_journal.specs.Due.{FitsItsRadio}
use Rattle.reg_journal.specs.Facts.{Journal}
use Rattle.reg_journal.specs.Present.{abilities_of}
use Rattle.reg_journal.specs.Refusals.{ElementCauses, HintCauses, LacksRadio}
use Rattle.reg_journal.specs.declared.effects.Effect.{Effect}
use Rattle.reg_journal.specs.declared.refusal.Refusal.{Refusal}
use Rattle.reg_core.specs.inner.HintsTaken.{TakesHint}
use Rattle.reg_core.specs.declared.core_state.Core.{Core}

-- the radio's element with this body is good, and is this hint for the code
pub record HasHint (J : Journal) (r : ℕ) (body : List ℕ) (a : Alpha2) (hint : Hint) : Type 0 where
  pub free : IsFree (LacksRadio J r before ElementCauses body)
  pub element : Element
  pub is_element : IsElement body element
  pub hint_is : hint ≡ ElementHint r element.alpha2 ((abilities_of J r).deaf || is_self_managed J r)
  pub code : a ≡ hinted_code hint
  pub fits : FitsItsRadio J (Treated hint)

-- the radio's element with this body is taken as a hint
pub record HearsElement (db : List Domain) (J : Journal) (r : ℕ) (body : List ℕ) (t : Treatment) (new : Core) (row row' : List (Option Seen)) (effects : List Effect) : Type 0 where
  pub code : Alpha2
  pub hint : Hint
  pub has : HasHint J r body code hint
  pub takes : TakesHint db J hint t new row row' effects

-- the hint that the radio's element is can't come
pub record BarsHint (db : List Domain) (J : Journal) (r : ℕ) (body : List ℕ) (e : Refusal) : Type 0 where
  pub code : Alpha2
  pub hint : Hint
  pub has : HasHint J r body code hint
  pub cause : HintCauses db J (Treated hint) e

-- the radio isn't there, its element isn't good, or the hint that it is can't come
abbrev pub BarsElement : List Domain → Journal → ℕ → List ℕ → Refusal → Type 0
BarsElement db J r body e = (LacksRadio J r before ElementCauses body) e ⊎ BarsHint db J r body e
