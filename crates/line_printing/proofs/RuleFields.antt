-- What the rules of a line are: their numbers fit their fields, and they carry neither a check time nor a WMM rule.
use Rattle.std.proofs.Common.{◌≡◌, List, All, None, arith}
use Rattle.std.proofs.lemmas.List.Elements.{All-nil, All-weaker}
use Rattle.freq_range.specs.Valid.{IsValidRule}
use Rattle.freq_range.specs.declared.rule.Rule.{Rule}
use Rattle.reg_journal.specs.Forms.{AreLineRules, IsLineRequest}
use Rattle.reg_journal.specs.Requests.{FitsRuleFields}
use Rattle.reg_journal.specs.declared.request.Request.{Request}
use Rattle.reg_journal.specs.declared.request.Request.TheVariants.{RadioRules as AskRadioRules}
use Rattle.line_printing.specs.Printed.{IsPlainLineRule, printed_rules_of}

fits : (rule : Rule) → IsValidRule rule × (rule.cac_s ≡ 0) × (rule.wmm ≡ None) → FitsRuleFields rule
fits rule is =
    let end = is.0.end_fits in
    let order = is.0.in_order in
    let wide = is.0.wide_enough in
    record { start = omega (arith, end, order); end = end; width = omega (arith, end, wide); power = is.0.power_fits; check = is.0.check_fits }

pub fit_fields : (rules : List Rule) → AreLineRules rules → All FitsRuleFields rules
fit_fields rules are = All-weaker (λ rule. IsValidRule rule × (rule.cac_s ≡ 0) × (rule.wmm ≡ None)) FitsRuleFields fits rules are.2

plain : (rule : Rule) → IsValidRule rule × (rule.cac_s ≡ 0) × (rule.wmm ≡ None) → IsPlainLineRule rule
plain rule is = (is.1, is.2)

pub plain_rules : (q : Request) → IsLineRequest q → All IsPlainLineRule (printed_rules_of q)
plain_rules (AskRadioRules r rules) line = All-weaker (λ rule. IsValidRule rule × (rule.cac_s ≡ 0) × (rule.wmm ≡ None)) IsPlainLineRule plain rules line.2
plain_rules q line = All-nil IsPlainLineRule
