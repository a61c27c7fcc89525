-- Writing a list of rules, and that it is read back.
use Rattle.std.proofs.Common.{◌≡◌, ℕ, ◌+◌, ◌<◌, ◌≤◌, List, [], ◌∷◌, ◌++◌, length, All, Option, Some, refl, ap, arith}
use Rattle.std.proofs.lemmas.List.{length-append}
use Rattle.std.proofs.lemmas.List.Elements.{All-cons, All-head, All-nil, All-tail}
use Rattle.freq_range.specs.declared.flags.RuleFlags.{RuleFlags}
use Rattle.freq_range.specs.declared.rule.Rule.{Rule}
use Rattle.nl_attrs.specs.Attributes.{IsAttr, attr_bytes, attrs_bytes}
use Rattle.nl_attrs.specs.Endian.{le32}
use Rattle.nl_attrs.specs.Nesting.{begun_bytes, nested_with}
use Rattle.nl_attrs.specs.declared.attr.Attr.{Attr}
use Rattle.nl_attrs.proofs.ByteLaws.{AreBytes-attrs, AreBytes-le32}
use Rattle.nl_attrs.proofs.Lengths.{length-attr_bytes, length-le16, length-le32}
use Rattle.nl80211_cmds.specs.Rules.{EachTells, TellsRule, TellsRules, flag_bits, limit_attrs, nested_rules, rule_attrs}
use Rattle.nl80211_cmds.specs.declared.limits.Limits.{Limits}
use Rattle.nl80211_cmds.specs.Values.{number_attr, TellsNumber}
use Rattle.nl80211_cmds.specs.declared.attribute.TheConstants.{RULE_CAC_TIME, RULE_END, RULE_FLAGS, RULE_MAX_ANT_GAIN, RULE_MAX_BW, RULE_MAX_EIRP, RULE_START}
use Rattle.nl80211_cmds.proofs.LineRequests.{IsPlainRule}
use Rattle.nl80211_cmds.proofs.OneValue.{bit-le}

-- ---- lengths

number_length : (kind n : ℕ) → length (attr_bytes (number_attr kind n)) ≡ 8
number_length kind n = rw (length-attr_bytes, length-le32) refl

seven_length : (a b c d e f g : Attr) → length (attr_bytes a) ≡ 8 → length (attr_bytes b) ≡ 8 → length (attr_bytes c) ≡ 8 → length (attr_bytes d) ≡ 8 → length (attr_bytes e) ≡ 8 → length (attr_bytes f) ≡ 8 → length (attr_bytes g) ≡ 8
    → length (attrs_bytes (a ∷ b ∷ c ∷ d ∷ e ∷ f ∷ g ∷ [])) ≡ 56
seven_length a b c d e f g la lb lc ld le lf lg = simp length-append (omega arith)

pub limit_length : (l : Limits) → length (attrs_bytes (limit_attrs l)) ≡ 56
limit_length l =
    seven_length (number_attr RULE_FLAGS (flag_bits l.flags)) (number_attr RULE_START l.start_khz) (number_attr RULE_END l.end_khz) (number_attr RULE_MAX_BW l.width_khz) (number_attr RULE_MAX_ANT_GAIN 0)
    (number_attr RULE_MAX_EIRP l.eirp_mbm) (number_attr RULE_CAC_TIME l.cac_ms) (number_length _ _) (number_length _ _) (number_length _ _) (number_length _ _) (number_length _ _) (number_length _ _) (number_length _ _)

begun_length : (kind : ℕ) → length (begun_bytes kind) ≡ 4
begun_length kind = simp (length-append, length-le16) refl

-- what a rule allows isn't too long to be nested
pub not_long : (old begun out : List ℕ) (kind start n : ℕ) (l : Limits) → start ≡ length old → begun ≡ old ++ begun_bytes kind → out ≡ begun ++ attrs_bytes (limit_attrs l) → 65531 < n → start + 4 + n ≡ length out → ⊥
not_long old begun out kind start n l start_is begun_is out_is long is =
    omega (arith, ap length begun_is, ap length out_is, length-append old (begun_bytes kind), length-append begun (attrs_bytes (limit_attrs l)), begun_length kind, limit_length l)

-- ---- they are attributes

number_fit : (kind n : ℕ) → kind < 16384 → IsAttr (number_attr kind n)
number_fit kind n lt = record { kind = lt; short = rw length-le32 (omega arith); bytes = AreBytes-le32 n }

seven_fit : (a b c d e f g : Attr) → IsAttr a → IsAttr b → IsAttr c → IsAttr d → IsAttr e → IsAttr f → IsAttr g → All IsAttr (a ∷ b ∷ c ∷ d ∷ e ∷ f ∷ g ∷ [])
seven_fit a b c d e f g fa fb fc fd fe ff fg =
    All-cons IsAttr a (b ∷ c ∷ d ∷ e ∷ f ∷ g ∷ []) fa (All-cons IsAttr b (c ∷ d ∷ e ∷ f ∷ g ∷ []) fb (All-cons IsAttr c (d ∷ e ∷ f ∷ g ∷ []) fc (All-cons IsAttr d (e ∷ f ∷ g ∷ []) fd
    (All-cons IsAttr e (f ∷ g ∷ []) fe (All-cons IsAttr f (g ∷ []) ff (All-cons IsAttr g [] fg (All-nil IsAttr)))))))

rule_fit : (rule : Rule) → All IsAttr (rule_attrs rule)
rule_fit rule =
    seven_fit (number_attr RULE_FLAGS (flag_bits rule.flags)) (number_attr RULE_START rule.start_khz) (number_attr RULE_END rule.end_khz) (number_attr RULE_MAX_BW rule.max_bw_khz) (number_attr RULE_MAX_ANT_GAIN 0)
    (number_attr RULE_MAX_EIRP rule.eirp_mbm) (number_attr RULE_CAC_TIME 0) (number_fit RULE_FLAGS (flag_bits rule.flags) (omega arith)) (number_fit RULE_START rule.start_khz (omega arith))
    (number_fit RULE_END rule.end_khz (omega arith)) (number_fit RULE_MAX_BW rule.max_bw_khz (omega arith)) (number_fit RULE_MAX_ANT_GAIN 0 (omega arith)) (number_fit RULE_MAX_EIRP rule.eirp_mbm (omega arith))
    (number_fit RULE_CAC_TIME 0 (omega arith))

nested_fit : (kind : ℕ) (rule : Rule) → kind < 16384 → IsAttr (nested_with kind (attrs_bytes (rule_attrs rule)))
nested_fit kind rule lt = record { kind = lt; short = rw limit_length (omega arith); bytes = AreBytes-attrs (rule_attrs rule) (rule_fit rule) }

rules_fit : (kind : ℕ) (rules : List Rule) → kind + length rules ≤ 16384 → All IsAttr (nested_rules kind rules)
rules_fit kind [] few = All-nil IsAttr
rules_fit kind (rule ∷ rules) few =
    All-cons IsAttr (nested_with kind (attrs_bytes (rule_attrs rule))) (nested_rules (kind + 1) rules) (nested_fit kind rule (omega arith)) (rules_fit (kind + 1) rules (omega arith))

-- ---- they are read back

pub tells_number : (payload : Option (List ℕ)) (most n : ℕ) → payload ≡ Some (le32 n) → n ≤ most → TellsNumber payload 0 most n
tells_number payload most n e fits = record { told = e; least_is = omega arith; most_is = fits }

zero_bytes : le32 0 ≡ 0 ∷ 0 ∷ 0 ∷ 0 ∷ []
unfolding le32
zero_bytes = refl

flags_fit : (f : RuleFlags) → flag_bits f ≤ 4294967295
flags_fit f = omega (arith, bit-le f.no_ofdm, bit-le f.no_outdoor, bit-le f.dfs, bit-le f.no_ir, bit-le f.auto_bw)

rule_told : (rule : Rule) → IsPlainRule rule → TellsRule (rule_attrs rule) rule
rule_told rule is =
    let valid = is.valid in
    record {
      limits = record {
        flags = tells_number _ 4294967295 (flag_bits rule.flags) refl (flags_fit rule.flags);
        start = tells_number _ 4294967295 rule.start_khz refl (omega (arith, valid.in_order, valid.end_fits));
        end = tells_number _ 4294967295 rule.end_khz refl (omega (arith, valid.end_fits));
        width = tells_number _ 4294967295 rule.max_bw_khz refl (omega (arith, valid.wide_enough, valid.end_fits));
        power = tells_number _ 65535 rule.eirp_mbm refl (omega (arith, valid.power_fits));
        no_check = is.no_check;
        no_wmm = is.no_wmm;
      };
      gain = zero_bytes;
      check = zero_bytes;
      valid = valid;
    }

each_told : (kind : ℕ) (rules : List Rule) → All IsPlainRule rules → EachTells (nested_rules kind rules) rules
each_told kind [] plain = tt
each_told kind (rule ∷ rules) plain =
    (record { attrs = rule_attrs rule; each = rule_fit rule; told = refl; rule_is = rule_told rule (All-head IsPlainRule rule rules plain) }, each_told (kind + 1) rules (All-tail IsPlainRule rule rules plain))

pub rules_told : (payload : Option (List ℕ)) (rules : List Rule) → payload ≡ Some (attrs_bytes (nested_rules 0 rules)) → 1 ≤ length rules → length rules ≤ 32 → All IsPlainRule rules → TellsRules payload rules
rules_told payload rules e some few plain =
    record { attrs = nested_rules 0 rules; each = rules_fit 0 rules (omega arith); told = e; rules_are = each_told 0 rules plain; some = some; few = few }
