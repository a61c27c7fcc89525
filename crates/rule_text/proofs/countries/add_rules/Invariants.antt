use Rattle.std.proofs.Common.{◌≡◌, ℕ, List, take, All, Option}
use Rattle.freq_range.specs.declared.rule.Rule.{Rule}
use Rattle.rule_tables.specs.Code.{IsCode}
use Rattle.rule_text.specs.Forms.{Form, block_of, with_named}
use Rattle.rule_text.specs.Forms.Block.{OfCountries}
use Rattle.rule_text.specs.inner.State.{AreCountries, AreRuled}
use Rattle.rule_text.proofs.countries.add_rules.Given as goal

abbrev pub invariant-loop-code : goal.invariant-loop-code
invariant-loop-code l = (above : List Form) (bare : Rule) (name : Option (List ℕ)) → l.rule ≡ with_named above bare name → block_of above ≡ OfCountries l.codes
    → All IsCode l.codes → AreCountries above l.initial.countries → AreRuled above bare name (take l.code-index l.codes) l.countries
