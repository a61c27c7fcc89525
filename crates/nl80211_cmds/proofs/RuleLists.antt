-- Reading a list of rules.
use Rattle.std.proofs.Common.{◌≡◌, ℕ, ◌<◌, ◌≤◌, List, [], ◌∷◌, ◌++◌, length, All, Option, Some, refl, sym, ap, subst, ◌∙◌, append_assoc, arith}
use Rattle.std.proofs.lemmas.List.{length-append}
use Rattle.std.proofs.lemmas.List.Elements.{All-head, All-tail}
use Rattle.std.proofs.lemmas.Option.{same_Some}
use Rattle.freq_range.specs.declared.rule.Rule.{Rule}
use Rattle.nl_attrs.specs.Attributes.{IsAttr, IsFirstBreach, attr_bytes, attrs_bytes}
use Rattle.nl_attrs.specs.Walks.{HasWalked, StepsOver, Walking}
use Rattle.nl_attrs.specs.declared.attr.Attr.{Attr}
use Rattle.nl_attrs.proofs.Apart.{attr-apart}
use Rattle.nl_attrs.proofs.AttrLaws.{no_breach, one_list}
use Rattle.nl_attrs.proofs.Lengths.{length-attr_bytes}
use Rattle.nl80211_cmds.specs.Rules.{EachTells, TellsNested, TellsRule, TellsRules}
use Rattle.nl80211_cmds.specs.inner.Reading.{IsFieldFault}
use Rattle.nl80211_cmds.specs.inner.RuleReading.{HoldsSoFar, IsNestedRuleFault, IsRuleListFault}
use Rattle.nl80211_cmds.specs.Values.{payload_of}
use Rattle.nl80211_cmds.specs.declared.draft.Draft.{Draft}
use Rattle.nl80211_cmds.specs.declared.fault.FieldFault.{FieldFault}
use Rattle.nl80211_cmds.specs.declared.fault.FieldFault.TheVariants as field_faults
use Rattle.nl80211_cmds.specs.declared.field.Field.{Field}
use Rattle.nl80211_cmds.specs.declared.field.Field.TheVariants as fields

some_bytes : (a : Attr) (rest : List ℕ) → [] ≡ attr_bytes a ++ rest → ⊥
some_bytes a rest e = omega (arith, ap length e, length-append (attr_bytes a) rest, length-attr_bytes a)

front_of : (given attrs : List Attr) (left : List ℕ) → All IsAttr given → All IsAttr attrs → attrs_bytes attrs ≡ attrs_bytes given ++ left → (rest : List Attr) × (attrs ≡ given ++ rest) × (left ≡ attrs_bytes rest)
front_of [] attrs left given_fit fit e = (attrs, refl, sym e)
front_of (g ∷ gs) [] left given_fit fit e = absurd (some_bytes g (attrs_bytes gs ++ left) (e ∙ append_assoc (attr_bytes g) (attrs_bytes gs) left))
front_of (g ∷ gs) (a ∷ attrs) left given_fit fit e =
    let first = attr-apart a g (attrs_bytes attrs) (attrs_bytes gs ++ left) (All-head IsAttr a attrs fit) (All-head IsAttr g gs given_fit) (e ∙ append_assoc (attr_bytes g) (attrs_bytes gs) left) in
    let others = front_of gs attrs left (All-tail IsAttr g gs given_fit) (All-tail IsAttr a attrs fit) first.1 in
    (others.0, λ i. first.0 i ∷ others.1 i, others.2)

next_is : (rest : List Attr) (a : Attr) (left more : List ℕ) → IsAttr a → All IsAttr rest → left ≡ attrs_bytes rest → left ≡ attr_bytes a ++ more → (others : List Attr) × (rest ≡ a ∷ others)
next_is [] a left more is fit e step = absurd (some_bytes a more (sym e ∙ step))
next_is (b ∷ bs) a left more is fit e step =
    let first = attr-apart b a (attrs_bytes bs) more (All-head IsAttr b bs fit) is (sym e ∙ step) in
    (bs, λ i. first.0 i ∷ bs)

rest_fit : (given rest : List Attr) → All IsAttr (given ++ rest) → All IsAttr rest
rest_fit [] rest fit = fit
rest_fit (g ∷ gs) rest fit = rest_fit gs rest (All-tail IsAttr g (gs ++ rest) fit)

-- an attribute that is stepped over is the next one of the list
given_next : (w new : Walking) (payload : List ℕ) (given attrs : List Attr) (a : Attr) → HasWalked w payload given → StepsOver w new a → All IsAttr attrs → payload ≡ attrs_bytes attrs → (others : List Attr) × (attrs ≡ given ++ a ∷ others)
given_next w new payload given attrs a walked step fit e =
    let front = front_of given attrs w.left walked.each fit (sym e ∙ walked.parts) in
    let P : List Attr → Type 0 = All IsAttr in
    let next = next_is front.0 a w.left new.left step.is (rest_fit given front.0 (subst P front.1 fit)) front.2 step.front in
    (next.0, front.1 ∙ ap (λ (x : List Attr). given ++ x) next.1)

each_split : (given others : List Attr) (a : Attr) (rules : List Rule) → EachTells (given ++ a ∷ others) rules → (rule : Rule) × TellsNested a.payload rule
each_split [] others a [] tells = absurd tells
each_split [] others a (rule ∷ rules) tells = (rule, tells.0)
each_split (g ∷ gs) others a [] tells = absurd tells
each_split (g ∷ gs) others a (rule ∷ rules) tells = each_split gs others a rules tells.1

each_length : (attrs : List Attr) (rules : List Rule) → EachTells attrs rules → length attrs ≡ length rules
each_length [] [] tells = refl
each_length [] (rule ∷ rules) tells = absurd tells
each_length (a ∷ attrs) [] tells = absurd tells
each_length (a ∷ attrs) (rule ∷ rules) tells = omega (arith, each_length attrs rules tells.1)

each_push : (given : List Attr) (a : Attr) (rules : List Rule) (rule : Rule) → EachTells given rules → TellsNested a.payload rule → EachTells (given ++ a ∷ []) (rules ++ rule ∷ [])
each_push [] a [] rule tells is = (is, tt)
each_push [] a (r ∷ rules) rule tells is = absurd tells
each_push (g ∷ gs) a [] rule tells is = absurd tells
each_push (g ∷ gs) a (r ∷ rules) rule tells is = (tells.0, each_push gs a rules rule tells.1 is)

-- ---- steps of the loop

pub one_more : (w new : Walking) (payload : List ℕ) (rules : List Rule) (a : Attr) (rule : Rule) (far : HoldsSoFar w payload rules) → HasWalked new payload (far.given ++ a ∷ []) → TellsNested a.payload rule → length rules < 32
    → HoldsSoFar new payload (rules ++ rule ∷ [])
one_more w new payload rules a rule far walked is few =
    record {
      given = far.given ++ a ∷ [];
      walked = walked;
      told = each_push far.given a rules rule far.told is;
      few = omega (arith, length-append rules (rule ∷ []));
    }

pub too_many : (w new : Walking) (payload : List ℕ) (rules told : List Rule) (a : Attr) → HoldsSoFar w payload rules → length rules ≡ 32 → StepsOver w new a → TellsRules (Some payload) told → ⊥
too_many w new payload rules told a far full step tells =
    let next = given_next w new payload far.given tells.attrs a far.walked step tells.each (same_Some payload (attrs_bytes tells.attrs) tells.told) in
    omega (arith, each_length tells.attrs told tells.rules_are, each_length far.given rules far.told, ap length next.1, length-append far.given (a ∷ next.0), tells.few)

pub no_rule : (w new : Walking) (payload : List ℕ) (rules told : List Rule) (a : Attr) → HoldsSoFar w payload rules → StepsOver w new a → ((rule : Rule) → TellsNested a.payload rule → ⊥) → TellsRules (Some payload) told → ⊥
no_rule w new payload rules told a far step none tells =
    let next = given_next w new payload far.given tells.attrs a far.walked step tells.each (same_Some payload (attrs_bytes tells.attrs) tells.told) in
    let P : List Attr → Type 0 = λ attrs. EachTells attrs told in
    let found = each_split far.given next.0 a told (subst P next.1 tells.rules_are) in
    none found.0 found.1

pub breach_in_rules : (payload : List ℕ) (place : ℕ) (told : List Rule) → IsFirstBreach payload place → TellsRules (Some payload) told → ⊥
breach_in_rules payload place told breach tells = no_breach payload place tells.attrs breach tells.each (same_Some payload (attrs_bytes tells.attrs) tells.told)

pub none_given : (w : Walking) (payload : List ℕ) (rules told : List Rule) (far : HoldsSoFar w payload rules) → payload ≡ attrs_bytes far.given → length rules ≡ 0 → TellsRules (Some payload) told → ⊥
none_given w payload rules told far all none tells =
    let same = one_list tells.attrs far.given tells.each far.walked.each (sym (same_Some payload (attrs_bytes tells.attrs) tells.told) ∙ all) in
    omega (arith, each_length tells.attrs told tells.rules_are, each_length far.given rules far.told, ap length same, tells.some)

pub all_given : (w : Walking) (payload : List ℕ) (rules : List Rule) (far : HoldsSoFar w payload rules) → payload ≡ attrs_bytes far.given → 1 ≤ length rules → TellsRules (Some payload) rules
all_given w payload rules far all some =
    record { attrs = far.given; each = far.walked.each; told = ap Some all; rules_are = far.told; some = some; few = far.few }

-- ---- a nested rule

pub breach_in_rule : (payload : List ℕ) (place : ℕ) (rule : Rule) → IsFirstBreach payload place → TellsNested payload rule → ⊥
breach_in_rule payload place rule breach tells = no_breach payload place tells.attrs breach tells.each tells.told

pub no_nested : (payload : List ℕ) (attrs : List Attr) (rule : Rule) → payload ≡ attrs_bytes attrs → All IsAttr attrs → ((r : Rule) → TellsRule attrs r → ⊥) → TellsNested payload rule → ⊥
no_nested payload attrs rule e fit none tells =
    let P : List Attr → Type 0 = λ xs. TellsRule xs rule in
    none rule (subst P (one_list tells.attrs attrs tells.each fit (sym tells.told ∙ e)) tells.rule_is)

-- ---- faults that are handed on

pub bad_rule : (w new : Walking) (payload : List ℕ) (rules : List Rule) (a : Attr) (fault : FieldFault) → HoldsSoFar w payload rules → StepsOver w new a → IsNestedRuleFault a.payload fault → IsRuleListFault (Some payload) fault
bad_rule w new payload rules a field_faults.Malformed far step none = λ told. no_rule w new payload rules told a far step none
bad_rule w new payload rules a field_faults.OutOfMemory far step none = tt

pub bad_rules : (field : Field) (kind : ℕ) (attrs : List Attr) (d : Draft) (o : Option (List ℕ)) (fault : FieldFault) → field ≡ fields.Rules kind → o ≡ payload_of kind attrs → IsRuleListFault o fault → IsFieldFault field attrs d fault
bad_rules field kind attrs d o field_faults.Malformed is e none = rw is (λ (f : Draft) tells. none tells.0 (rw e tells.1))
bad_rules field kind attrs d o field_faults.OutOfMemory is e none = rw is tt
