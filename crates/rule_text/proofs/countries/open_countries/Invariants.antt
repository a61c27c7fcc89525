use Rattle.std.proofs.Common.{◌≡◌, ◌+◌, List, ◌∷◌, length, take, All}
use Rattle.rule_tables.specs.Code.{IsCode}
use Rattle.rule_text.specs.Forms.{Form}
use Rattle.rule_text.specs.Forms.Form.{Country}
use Rattle.rule_text.specs.inner.State.{AreCountries}
use Rattle.rule_text.proofs.countries.open_countries.Given as goal

abbrev pub invariant-loop-code : goal.invariant-loop-code
invariant-loop-code l = (above : List Form) → l.line ≡ length above + 1 → All IsCode l.codes → AreCountries above l.initial.countries
    → AreCountries (Country (take l.code-index l.codes) l.region ∷ above) l.countries
