-- Nothing is wrong with an empty line.
use Rattle.std.proofs.Common.{List, [], refl, inl, inr}
use Rattle.text_lines.specs.declared.fault.TextKind.{TextKind}
use Rattle.text_lines.specs.declared.fault.TextKind.TheVariants.{BadLine, NoBlock, BadCountry, BadRegion, RegionDiffers, BadBand, BadPower, BadFlag, FlagNotInVersion, NoWmm, BadWmm, WmmTwice, TooManyRules}
use Rattle.text_lines.specs.declared.form.Opening.TheVariants.{Country as OfCountry, Wmm as OfWmm, Rule as OfRule, Item as OfItem}
use Rattle.rule_text.specs.Faults.{IsWrong}
use Rattle.rule_text.specs.Forms.{Form}
use Rattle.text_lines.specs.Spelling.{region_name}
use Rattle.rule_text.proofs.LineForms.{HasCodes-opens, IsSpelledRule-opens, IsWmmHeader-opens, Opens-some}

pub empty_good : (above : List Form) (kind : TextKind) → IsWrong above [] kind → ⊥
empty_good above BadLine wrong = wrong.0 refl
empty_good above NoBlock (inl wrong) = Opens-some OfRule wrong.0
empty_good above NoBlock (inr wrong) = Opens-some (OfItem wrong.0) wrong.1
empty_good above BadCountry wrong = Opens-some OfCountry wrong.0
empty_good above BadRegion wrong = Opens-some OfCountry wrong.0
empty_good above RegionDiffers wrong = Opens-some OfCountry (HasCodes-opens [] wrong.0 (region_name wrong.1) wrong.2)
empty_good above BadBand wrong = Opens-some OfRule wrong.0
empty_good above BadPower wrong = Opens-some OfRule wrong.0
empty_good above BadFlag wrong = Opens-some OfRule wrong.0
empty_good above FlagNotInVersion wrong = Opens-some OfRule (IsSpelledRule-opens [] wrong.0 wrong.1 wrong.2)
empty_good above NoWmm wrong = Opens-some OfRule (IsSpelledRule-opens [] wrong.0 wrong.1 wrong.2)
empty_good above BadWmm (inl wrong) = Opens-some OfWmm wrong.0
empty_good above BadWmm (inr wrong) = Opens-some (OfItem wrong.0) wrong.1
empty_good above WmmTwice wrong = Opens-some OfWmm (IsWmmHeader-opens [] wrong.0 wrong.1)
empty_good above TooManyRules wrong = Opens-some OfRule (IsSpelledRule-opens [] wrong.2.text wrong.0 wrong.2.is)
empty_good above kind wrong = wrong
