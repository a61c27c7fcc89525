-- What the parser holds behind a line that it takes.
use Rattle.std.proofs.Common.{◌≡◌, ℕ, ◌+◌, ◌⊎◌, List, ◌∷◌, length, Option, refl, sym, subst, ◌∙◌, ap, inl, inr}
use Rattle.std.specs.declared.alloc.Global.{Global}
use Rattle.std.specs.declared.vec.Vec.{Vec}
use Rattle.freq_range.specs.declared.rule.Rule.{Rule}
use Rattle.freq_range.specs.declared.wmm.Wmm.{Wmm}
use Rattle.freq_range.specs.declared.wmm.WmmEntry.{WmmEntry}
use Rattle.rule_tables.specs.declared.code.Alpha2.{Alpha2}
use Rattle.rule_tables.specs.declared.code.Region.{Region}
use Rattle.text_lines.specs.declared.form.Item.{Item}
use Rattle.rule_text.specs.declared.parser.Open.{Open}
use Rattle.rule_text.specs.declared.parser.Open.TheVariants.{Nothing, Countries as OpenCountries, Wmm as OpenWmm}
use Rattle.rule_text.specs.declared.parser.Parser.{Parser}
use Rattle.rule_text.specs.Faults.{IsInCountries, IsInWmm}
use Rattle.rule_text.specs.Forms.{Form, block_of, with_named}
use Rattle.rule_text.specs.Forms.Block.{OfCountries, OfName}
use Rattle.rule_text.specs.Forms.Form.{Country, ItemLine, RuleLine, WmmHeader}
use Rattle.text_lines.specs.Spelling.{IsHeader, IsItemLine, IsRuleLine, IsWmmHeader}
use Rattle.rule_text.specs.inner.State.{AddsItemTo, AreCountries, AreSound, Blocks, Countries, IsOpen, BlocksNameWmm, OpensWmm, ParserStands, TakesBare}
use Rattle.rule_text.proofs.CountryLaws.{quiet_countries}
use Rattle.rule_text.proofs.HeaderTaken.{header_good, wmm_good}
use Rattle.rule_text.proofs.RuleTaken.{item_good, rule_good}
use Rattle.rule_text.proofs.WmmLaws.{added_blocks, named_is, opened_blocks, quiet_blocks}

-- ---- what is open

pub in_countries : (above : List Form) (parser : Parser) → ParserStands above parser → parser.open ≡ OpenCountries → block_of above ≡ OfCountries parser.codes.items
in_countries above parser stands is = subst (λ o. IsOpen above o parser.codes.items parser.name.items) is stands.open_is

pub in_wmm : (above : List Form) (parser : Parser) → ParserStands above parser → parser.open ≡ OpenWmm → block_of above ≡ OfName parser.name.items
in_wmm above parser stands is = subst (λ o. IsOpen above o parser.codes.items parser.name.items) is stands.open_is

pub outside_wmm : (above : List Form) (parser : Parser) → ParserStands above parser → (parser.open ≡ Nothing) ⊎ (parser.open ≡ OpenCountries) → IsInWmm above → ⊥
outside_wmm above parser stands (inl is) (name, block) =
    let e = sym block ∙ subst (λ o. IsOpen above o parser.codes.items parser.name.items) is stands.open_is in cc
outside_wmm above parser stands (inr is) (name, block) = let e = sym block ∙ in_countries above parser stands is in cc

pub outside_countries : (above : List Form) (parser : Parser) → ParserStands above parser → (parser.open ≡ Nothing) ⊎ (parser.open ≡ OpenWmm) → IsInCountries above → ⊥
outside_countries above parser stands (inl is) (cs, block) =
    let e = sym block ∙ subst (λ o. IsOpen above o parser.codes.items parser.name.items) is stands.open_is in cc
outside_countries above parser stands (inr is) (cs, block) = let e = sym block ∙ in_wmm above parser stands is in cc

-- ---- the lines

pub taken_header : (above : List Form) (line : List ℕ) (old : Parser) (countries : Countries) (codes : Vec Alpha2 Global) (region : Region) → ParserStands above old → IsHeader line codes.items region
    → AreCountries (Country codes.items region ∷ above) countries
    → TakesBare above line (record { countries = countries; blocks = old.blocks; «open» = OpenCountries; codes = codes; name = old.name })
taken_header above line old countries codes region stands is are = record {
  form = Country codes.items region;
  is = is;
  good = header_good above line codes.items region countries is are;
  stands = record {
    countries_are = are;
    blocks_are = quiet_blocks (Country codes.items region) above old.blocks tt stands.blocks_are;
    open_is = refl;
  };
}

pub taken_wmm : (above : List Form) (line name : List ℕ) (number : ℕ) (old : Parser) (blocks : Blocks) (buffer : Vec ℕ Global) → number ≡ length above + 1 → ParserStands above old → IsWmmHeader line name
    → OpensWmm name number old.blocks blocks → buffer.items ≡ name
    → TakesBare above line (record { countries = old.countries; blocks = blocks; «open» = OpenWmm; codes = old.codes; name = buffer })
taken_wmm above line name number old blocks buffer at stands is opens copied = record {
  form = WmmHeader name;
  is = is;
  good = wmm_good above line name number old.blocks blocks is stands.blocks_are opens;
  stands = record {
    countries_are = quiet_countries (WmmHeader name) above old.countries (λ code. tt) stands.countries_are;
    blocks_are = opened_blocks name number above old.blocks blocks at stands.blocks_are opens;
    open_is = ap OfName (sym copied);
  };
}

pub taken_item : (above : List Form) (line : List ℕ) (item : Item) (e : WmmEntry) (old : Parser) (blocks : Blocks) → ParserStands above old → old.open ≡ OpenWmm → IsItemLine line item e
    → AddsItemTo old.name.items item e old.blocks blocks
    → TakesBare above line (record { countries = old.countries; blocks = blocks; «open» = old.open; codes = old.codes; name = old.name })
taken_item above line item e old blocks stands is_open is adds =
    let block = in_wmm above old stands is_open in
    record {
      form = ItemLine item e;
      is = is;
      good = item_good above line old.name.items item e old.blocks blocks is block stands.blocks_are adds;
      stands = record {
        countries_are = quiet_countries (ItemLine item e) above old.countries (λ code. tt) stands.countries_are;
        blocks_are = added_blocks old.name.items item e above old.blocks blocks block stands.blocks_are adds;
        open_is = same_open above old.open old.codes.items old.name.items stands.open_is;
      };
    }
  where
    same_open : (above : List Form) (o : Open) (codes : List Alpha2) (name : List ℕ) → IsOpen above o codes name → IsOpen (ItemLine item e ∷ above) o codes name
    same_open above Nothing codes name is = is
    same_open above OpenCountries codes name is = is
    same_open above OpenWmm codes name is = is

-- the rule with its WMM rule is the one that the line names
pub full_rule : (above : List Form) (parser : Parser) (rule : Rule) (name : Option (List ℕ)) (wmm : Option Wmm) → ParserStands above parser → BlocksNameWmm parser.blocks name wmm
    → record rule { wmm = wmm } ≡ with_named above rule name
full_rule above parser rule name wmm stands names = ap (λ (w : Option Wmm). record rule { wmm = w }) (named_is above parser.blocks name wmm stands.blocks_are names)

pub taken_rule : (above : List Form) (line : List ℕ) (rule : Rule) (name : Option (List ℕ)) (wmm : Option Wmm) (old : Parser) (countries : Countries) → AreSound above → ParserStands above old
    → old.open ≡ OpenCountries → IsRuleLine line rule name → BlocksNameWmm old.blocks name wmm → AreCountries (RuleLine rule name ∷ above) countries
    → TakesBare above line (record { countries = countries; blocks = old.blocks; «open» = old.open; codes = old.codes; name = old.name })
taken_rule above line rule name wmm old countries sound stands is_open is names are =
    let block = in_countries above old stands is_open in
    record {
      form = RuleLine rule name;
      is = is;
      good = rule_good above line old.codes.items rule name old.blocks wmm countries sound block is stands.blocks_are names are;
      stands = record {
        countries_are = are;
        blocks_are = quiet_blocks (RuleLine rule name) above old.blocks tt stands.blocks_are;
        open_is = same_open above old.open old.codes.items old.name.items stands.open_is;
      };
    }
  where
    same_open : (above : List Form) (o : Open) (codes : List Alpha2) (n : List ℕ) → IsOpen above o codes n → IsOpen (RuleLine rule name ∷ above) o codes n
    same_open above Nothing codes n is = is
    same_open above OpenCountries codes n is = is
    same_open above OpenWmm codes n is = is
