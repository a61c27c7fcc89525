-- A line as it stands in the text is taken as what counts of it is.
use Rattle.std.proofs.Common.{◌≡◌, ℕ, ◌<◌, List, arith, refl, subst}
use Rattle.text_lines.specs.declared.fault.LineStop.{LineStop}
use Rattle.text_lines.specs.declared.fault.LineStop.TheVariants.{Kind, OutOfMemory}
use Rattle.text_lines.specs.declared.fault.TextKind.{TextKind}
use Rattle.text_lines.specs.declared.fault.TextKind.TheVariants.{LineTooLong, NotUtf8, BadLine, NoBlock, BadCountry, BadRegion, RegionDiffers, BadBand, BadPower, BadFlag, FlagNotInVersion, NoWmm, BadWmm, WmmTwice, TooManyRules, WmmShort, NoRules}
use Rattle.rule_text.specs.declared.parser.Parser.{Parser}
use Rattle.text_lines.specs.LineFaults.{IsUnreadable, place_of_kind}
use Rattle.rule_text.specs.Faults.{Applies, IsGoodLine, IsLineFault, IsWrong}
use Rattle.rule_text.specs.Forms.{Form, IsForm}
use Rattle.text_lines.specs.Lines.{IsReadableLine, bare}
use Rattle.rule_text.specs.inner.State.{IsBareStop, IsLineStop, TakesBare, TakesLine}

-- a kind that applies to a line that is readable is wrong with what counts of it
applies_bare : (above : List Form) (line : List ℕ) (kind : TextKind) → IsReadableLine line → Applies above line kind → IsWrong above (bare line) kind
applies_bare above line LineTooLong readable applies = let short = readable.short in absurd (omega (arith, applies, short))
applies_bare above line NotUtf8 readable applies = absurd (applies readable.utf8)
applies_bare above line kind readable applies = applies

bare_applies : (above : List Form) (line : List ℕ) (kind : TextKind) → IsWrong above (bare line) kind → Applies above line kind
bare_applies above line LineTooLong wrong = absurd wrong
bare_applies above line NotUtf8 wrong = absurd wrong
bare_applies above line kind wrong = wrong

pub readable_good : (above : List Form) (line : List ℕ) (form : Form) → IsReadableLine line → IsForm (bare line) form → ((kind : TextKind) → IsWrong above (bare line) kind → ⊥)
    → IsGoodLine above line form
readable_good above line form readable is good = record { is = is; good = λ kind applies. good kind (applies_bare above line kind readable applies) }

pub whole_line : (above : List Form) (line : List ℕ) (parser : Parser) → IsReadableLine line → TakesBare above (bare line) parser → TakesLine above line parser
whole_line above line parser readable takes = record {
  form = takes.form;
  good = readable_good above line takes.form readable takes.is takes.good;
  stands = takes.stands;
}

pub whole_stop : (above : List Form) (line : List ℕ) (stop : LineStop) → IsReadableLine line → IsBareStop above (bare line) stop → IsLineStop above line stop
whole_stop above line (Kind kind) readable is = record {
  applies = bare_applies above line kind is.applies;
  first = λ other less applies. is.first other less (applies_bare above line other readable applies);
}
whole_stop above line OutOfMemory readable is = readable

-- no kind comes before the first; only the first comes before the second
none_before_long : (other : TextKind) → place_of_kind other < 1 → ⊥
none_before_long LineTooLong less = omega (arith, less)
none_before_long NotUtf8 less = omega (arith, less)
none_before_long BadLine less = omega (arith, less)
none_before_long NoBlock less = omega (arith, less)
none_before_long BadCountry less = omega (arith, less)
none_before_long BadRegion less = omega (arith, less)
none_before_long RegionDiffers less = omega (arith, less)
none_before_long BadBand less = omega (arith, less)
none_before_long BadPower less = omega (arith, less)
none_before_long BadFlag less = omega (arith, less)
none_before_long FlagNotInVersion less = omega (arith, less)
none_before_long NoWmm less = omega (arith, less)
none_before_long BadWmm less = omega (arith, less)
none_before_long WmmTwice less = omega (arith, less)
none_before_long TooManyRules less = omega (arith, less)
none_before_long WmmShort less = omega (arith, less)
none_before_long NoRules less = omega (arith, less)

before_utf8 : (other : TextKind) → place_of_kind other < 2 → other ≡ LineTooLong
before_utf8 LineTooLong less = refl
before_utf8 NotUtf8 less = absurd (omega (arith, less))
before_utf8 BadLine less = absurd (omega (arith, less))
before_utf8 NoBlock less = absurd (omega (arith, less))
before_utf8 BadCountry less = absurd (omega (arith, less))
before_utf8 BadRegion less = absurd (omega (arith, less))
before_utf8 RegionDiffers less = absurd (omega (arith, less))
before_utf8 BadBand less = absurd (omega (arith, less))
before_utf8 BadPower less = absurd (omega (arith, less))
before_utf8 BadFlag less = absurd (omega (arith, less))
before_utf8 FlagNotInVersion less = absurd (omega (arith, less))
before_utf8 NoWmm less = absurd (omega (arith, less))
before_utf8 BadWmm less = absurd (omega (arith, less))
before_utf8 WmmTwice less = absurd (omega (arith, less))
before_utf8 TooManyRules less = absurd (omega (arith, less))
before_utf8 WmmShort less = absurd (omega (arith, less))
before_utf8 NoRules less = absurd (omega (arith, less))

pub unreadable_fault : (above : List Form) (line : List ℕ) (kind : TextKind) → IsUnreadable line kind → IsLineFault above line kind
unreadable_fault above line LineTooLong is = record { applies = is; first = λ other less applies. none_before_long other less }
unreadable_fault above line NotUtf8 is = record {
  applies = is.1;
  first = λ other less applies. let long = subst (Applies above line) (before_utf8 other less) applies in omega (arith, is.0, long);
}
unreadable_fault above line kind is = absurd is
