-- An empty line is taken.
use Rattle.std.proofs.Common.{◌≡◌, ℕ, List, [], ◌∷◌, sym, subst}
use Rattle.text_lines.specs.declared.fault.TextKind.{TextKind}
use Rattle.rule_text.specs.declared.parser.Open.{Open}
use Rattle.rule_text.specs.declared.parser.Open.TheVariants.{Nothing, Countries as OpenCountries, Wmm as OpenWmm}
use Rattle.rule_text.specs.declared.parser.Parser.{Parser}
use Rattle.rule_tables.specs.declared.code.Alpha2.{Alpha2}
use Rattle.rule_text.specs.Faults.{IsWrong}
use Rattle.rule_text.specs.Forms.{Form}
use Rattle.rule_text.specs.Forms.Form.{Empty}
use Rattle.rule_text.specs.inner.State.{IsOpen, ParserStands, TakesBare}
use Rattle.rule_text.proofs.CountryLaws.{quiet_countries}
use Rattle.rule_text.proofs.EmptyLines.{empty_good}
use Rattle.rule_text.proofs.WmmLaws.{quiet_blocks}

pub taken_empty : (above : List Form) (line : List ℕ) (parser : Parser) → line ≡ [] → ParserStands above parser → TakesBare above line parser
taken_empty above line parser none stands = record {
  form = Empty;
  is = none;
  good = subst (λ l. (kind : TextKind) → IsWrong above l kind → ⊥) (sym none) (empty_good above);
  stands = record {
    countries_are = quiet_countries Empty above parser.countries (λ code. tt) stands.countries_are;
    blocks_are = quiet_blocks Empty above parser.blocks tt stands.blocks_are;
    open_is = same_open parser.open parser.codes.items parser.name.items stands.open_is;
  };
}
  where
    same_open : (o : Open) (codes : List Alpha2) (name : List ℕ) → IsOpen above o codes name → IsOpen (Empty ∷ above) o codes name
    same_open Nothing codes name is = is
    same_open OpenCountries codes name is = is
    same_open OpenWmm codes name is = is
