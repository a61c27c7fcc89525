-- Attributes tell one list of rules.
use Rattle.std.proofs.Common.{◌≡◌, ℕ, ◌+◌, ◌*◌, ◌/◌, ◌%◌, ◌==◌, Bool, true, false, List, [], ◌∷◌, Option, refl, sym, subst, ◌∙◌, arith}
use Rattle.std.proofs.lemmas.Option.{same_Some}
use Rattle.freq_range.specs.declared.flags.RuleFlags.{RuleFlags}
use Rattle.freq_range.specs.declared.rule.Rule.{Rule}
use Rattle.nl_attrs.specs.Attributes.{attrs_bytes}
use Rattle.nl_attrs.specs.declared.attr.Attr.{Attr}
use Rattle.nl_attrs.proofs.AttrLaws.{one_list}
use Rattle.nl80211_cmds.specs.Rules.{EachTells, TellsLimits, TellsNested, TellsRule, TellsRules, flag_bits}
use Rattle.nl80211_cmds.specs.Values.{bit_of}
use Rattle.nl80211_cmds.proofs.OneValue.{bit-le, one_number}

flag_is : (b : Bool) (n : ℕ) → bit_of b ≡ n → b ≡ (n == 1)
flag_is true n e = rw (← e) refl
flag_is false n e = rw (← e) refl

pub five_bits : (a b c d f : Bool) (n : ℕ) → bit_of a + 8 * bit_of b + 16 * bit_of c + 128 * bit_of d + 2048 * bit_of f ≡ n
    → (bit_of a ≡ n % 2) × (bit_of b ≡ n / 8 % 2) × (bit_of c ≡ n / 16 % 2) × (bit_of d ≡ n / 128 % 2) × (bit_of f ≡ n / 2048 % 2)
five_bits a b c d f n e = (
  omega (arith, e, bit-le a, bit-le b, bit-le c, bit-le d, bit-le f),
  omega (arith, e, bit-le a, bit-le b, bit-le c, bit-le d, bit-le f),
  omega (arith, e, bit-le a, bit-le b, bit-le c, bit-le d, bit-le f),
  omega (arith, e, bit-le a, bit-le b, bit-le c, bit-le d, bit-le f),
  omega (arith, e, bit-le a, bit-le b, bit-le c, bit-le d, bit-le f),
)

-- the flags by their bits
pub flags_are : (f : RuleFlags) (n : ℕ) → flag_bits f ≡ n → f ≡ record { no_ofdm = n % 2 == 1; no_outdoor = n / 8 % 2 == 1; dfs = n / 16 % 2 == 1; no_ir = n / 128 % 2 == 1; auto_bw = n / 2048 % 2 == 1 }
flags_are f n e =
    let bits = five_bits f.no_ofdm f.no_outdoor f.dfs f.no_ir f.auto_bw n e in
    let a = flag_is f.no_ofdm (n % 2) bits.0 in
    let b = flag_is f.no_outdoor (n / 8 % 2) bits.1 in
    let c = flag_is f.dfs (n / 16 % 2) bits.2 in
    let d = flag_is f.no_ir (n / 128 % 2) bits.3 in
    let w = flag_is f.auto_bw (n / 2048 % 2) bits.4 in
    λ i. record { no_ofdm = a i; no_outdoor = b i; dfs = c i; no_ir = d i; auto_bw = w i }

same_flags : (f g : RuleFlags) → flag_bits f ≡ flag_bits g → f ≡ g
same_flags f g e = flags_are f (flag_bits g) e ∙ sym (flags_are g (flag_bits g) refl)

same_rule : (r s : Rule) → r.start_khz ≡ s.start_khz → r.end_khz ≡ s.end_khz → r.max_bw_khz ≡ s.max_bw_khz → r.flags ≡ s.flags → r.eirp_mbm ≡ s.eirp_mbm → r.cac_s ≡ s.cac_s → r.wmm ≡ s.wmm → r ≡ s
same_rule r s start end width flags power check wmm =
    λ i. record { start_khz = start i; end_khz = end i; max_bw_khz = width i; flags = flags i; eirp_mbm = power i; cac_s = check i; wmm = wmm i }

pub one_limits : (attrs : List Attr) (r s : Rule) → TellsLimits attrs r → TellsLimits attrs s → r ≡ s
one_limits attrs r s one two =
    same_rule r s (one_number _ 0 4294967295 r.start_khz s.start_khz (omega arith) one.start two.start) (one_number _ 0 4294967295 r.end_khz s.end_khz (omega arith) one.end two.end)
    (one_number _ 0 4294967295 r.max_bw_khz s.max_bw_khz (omega arith) one.width two.width)
    (same_flags r.flags s.flags (one_number _ 0 4294967295 (flag_bits r.flags) (flag_bits s.flags) (omega arith) one.flags two.flags))
    (one_number _ 0 65535 r.eirp_mbm s.eirp_mbm (omega arith) one.power two.power) (one.no_check ∙ sym two.no_check) (one.no_wmm ∙ sym two.no_wmm)

pub one_nested : (payload : List ℕ) (r s : Rule) → TellsNested payload r → TellsNested payload s → r ≡ s
one_nested payload r s one two =
    let P : List Attr → Type 0 = λ attrs. TellsRule attrs s in
    let same = one_list one.attrs two.attrs one.each two.each (sym one.told ∙ two.told) in
    one_limits one.attrs r s one.rule_is.limits (subst P (sym same) two.rule_is).limits

pub one_each : (attrs : List Attr) (rs ss : List Rule) → EachTells attrs rs → EachTells attrs ss → rs ≡ ss
one_each [] [] [] one two = refl
one_each [] [] (s ∷ ss) one two = absurd two
one_each [] (r ∷ rs) ss one two = absurd one
one_each (a ∷ attrs) [] ss one two = absurd one
one_each (a ∷ attrs) (r ∷ rs) [] one two = absurd two
one_each (a ∷ attrs) (r ∷ rs) (s ∷ ss) one two =
    let head = one_nested a.payload r s one.0 two.0 in
    let tail = one_each attrs rs ss one.1 two.1 in
    λ i. head i ∷ tail i

pub one_rules : (payload : Option (List ℕ)) (rs ss : List Rule) → TellsRules payload rs → TellsRules payload ss → rs ≡ ss
one_rules payload rs ss one two =
    let P : List Attr → Type 0 = λ attrs. EachTells attrs ss in
    let same = one_list one.attrs two.attrs one.each two.each (same_Some (attrs_bytes one.attrs) (attrs_bytes two.attrs) (sym one.told ∙ two.told)) in
    one_each one.attrs rs ss one.rules_are (subst P (sym same) two.rules_are)
