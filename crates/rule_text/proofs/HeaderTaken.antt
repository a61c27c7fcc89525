-- A header is taken, or has the first kind of fault that applies.
use Rattle.std.proofs.Common.{◌≡◌, ℕ, List, ◌∷◌, length, None, arith, refl, subst, ap, inl}
use Rattle.std.proofs.lemmas.List.Elements.{All-contains}
use Rattle.rule_tables.specs.Code.{IsCode}
use Rattle.rule_tables.specs.declared.code.Alpha2.{Alpha2}
use Rattle.rule_tables.specs.declared.code.Region.{Region}
use Rattle.rule_tables.specs.declared.code.Region.TheVariants.{Unset, Fcc, Etsi, Jp}
use Rattle.text_lines.specs.declared.fault.LineStop.{LineStop}
use Rattle.text_lines.specs.declared.fault.LineStop.TheVariants.{Kind, OutOfMemory}
use Rattle.text_lines.specs.declared.fault.TextKind.{TextKind}
use Rattle.text_lines.specs.declared.fault.TextKind.TheVariants.{BadCountry, BadRegion, BadWmm, RegionDiffers, WmmTwice}
use Rattle.text_lines.specs.declared.form.Opening.TheVariants.{Country as OfCountry, Wmm as OfWmm}
use Rattle.rule_text.specs.Faults.{IsContradicted, IsWrong}
use Rattle.rule_text.specs.Forms.{Form, wmm_of_name}
use Rattle.rule_text.specs.Forms.Form.{Country}
use Rattle.text_lines.specs.LineFaults.{IsHeaderStop}
use Rattle.text_lines.specs.Spelling.{IsHeader, IsWmmHeader, Opens, region_name}
use Rattle.rule_text.specs.inner.State.{AreBlocks, AreCountries, Blocks, Countries, IsBareFault, IsBareStop, IsOpenAllStop, IsOpenWmmStop, OpensWmm}
use Rattle.rule_text.proofs.CountryLaws.{uncontradicted}
use Rattle.rule_text.proofs.LineForms.{HasCodes-opens, HasCodes-unique, IsWmmHeader-opens, IsWmmHeader-unique}
use Rattle.rule_text.proofs.LineLaws.{country_first, good, wmm_first, wmm_header_wrong}
use Rattle.rule_text.proofs.WmmLaws.{opened_once, opened_twice}

-- ---- countries

pub header_stop : (above : List Form) (line : List ℕ) (stop : LineStop) → Opens line OfCountry → IsHeaderStop line stop → IsBareStop above line stop
header_stop above line (Kind BadCountry) opens none = record {
  applies = (opens, none);
  first = country_first above line 5 opens (λ less wrong. omega (arith, less)) (λ less wrong. omega (arith, less)) (λ less wrong. omega (arith, less));
}
header_stop above line (Kind BadRegion) opens is = record {
  applies = (opens, is.1);
  first = country_first above line 6 opens (λ less wrong. wrong.1 is.0.0 is.0.1 is.0.2) (λ less wrong. omega (arith, less)) (λ less wrong. omega (arith, less));
}
header_stop above line (Kind kind) opens is = absurd is
header_stop above line OutOfMemory opens is = tt

pub contradicted_stop : (above : List Form) (line : List ℕ) (cs : List Alpha2) (region : Region) (stop : LineStop) → IsHeader line cs region → IsOpenAllStop above cs region stop
    → IsBareStop above line stop
contradicted_stop above line cs region (Kind RegionDiffers) is contradicted = record {
  applies = (cs, region, is, contradicted);
  first = country_first above line 7 (HasCodes-opens line cs (region_name region) is)
      (λ less wrong. wrong.1 cs (region_name region) is) (λ less wrong. wrong.1 cs region is) (λ less wrong. omega (arith, less));
}
contradicted_stop above line cs region (Kind kind) is contradicted = absurd contradicted
contradicted_stop above line cs region OutOfMemory is contradicted = tt

-- a number that tells regions apart, by the length of the name
pub region_name-unique : (r s : Region) → region_name r ≡ region_name s → r ≡ s
region_name-unique Unset Unset e = refl
region_name-unique Unset Fcc e = absurd (omega (arith, ap length e))
region_name-unique Unset Etsi e = absurd (omega (arith, ap length e))
region_name-unique Unset Jp e = absurd (omega (arith, ap length e))
region_name-unique Fcc Unset e = absurd (omega (arith, ap length e))
region_name-unique Fcc Fcc e = refl
region_name-unique Fcc Etsi e = absurd (omega (arith, ap length e))
region_name-unique Fcc Jp e = absurd (omega (arith, ap length e))
region_name-unique Etsi Unset e = absurd (omega (arith, ap length e))
region_name-unique Etsi Fcc e = absurd (omega (arith, ap length e))
region_name-unique Etsi Etsi e = refl
region_name-unique Etsi Jp e = absurd (omega (arith, ap length e))
region_name-unique Jp Unset e = absurd (omega (arith, ap length e))
region_name-unique Jp Fcc e = absurd (omega (arith, ap length e))
region_name-unique Jp Etsi e = absurd (omega (arith, ap length e))
region_name-unique Jp Jp e = refl

pub header_good : (above : List Form) (line : List ℕ) (cs : List Alpha2) (region : Region) (countries : Countries) → IsHeader line cs region
    → AreCountries (Country cs region ∷ above) countries → (kind : TextKind) → IsWrong above line kind → ⊥
header_good above line cs region countries is are = good above line (country_first above line 18 (HasCodes-opens line cs (region_name region) is)
    (λ less wrong. wrong.1 cs (region_name region) is)
    (λ less wrong. wrong.1 cs region is)
    (λ less wrong.
    let same = HasCodes-unique line wrong.0 cs (region_name wrong.1) (region_name region) wrong.2 is in
    let one = region_name-unique wrong.1 region same.1 in
    uncontradicted cs region above countries are (λ code has. All-contains IsCode cs code is.are.each has)
    (subst (λ xs. IsContradicted above xs region) same.0 (subst (IsContradicted above wrong.0) one wrong.3))))

-- ---- WMM rules

pub wmm_bad : (above : List Form) (line : List ℕ) → Opens line OfWmm → ((name : List ℕ) → IsWmmHeader line name → ⊥) → IsBareFault above line BadWmm
wmm_bad above line opens none = record {
  applies = inl (opens, none);
  first = wmm_first above line 13 opens (λ less wrong. omega (arith, less)) (λ less wrong. omega (arith, less));
}

pub twice_stop : (above : List Form) (line name : List ℕ) (blocks : Blocks) (stop : LineStop) → IsWmmHeader line name → AreBlocks above blocks → IsOpenWmmStop name blocks stop
    → IsBareStop above line stop
twice_stop above line name blocks (Kind WmmTwice) is are (block, here) =
    let opens = IsWmmHeader-opens line name is in
    record {
      applies = (name, is, opened_twice name above blocks block are here);
      first = wmm_first above line 14 opens (λ less wrong. wmm_header_wrong above line opens wrong name is) (λ less wrong. omega (arith, less));
    }
twice_stop above line name blocks (Kind kind) is are stop = absurd stop
twice_stop above line name blocks OutOfMemory is are stop = tt

pub wmm_good : (above : List Form) (line name : List ℕ) (number : ℕ) (old new : Blocks) → IsWmmHeader line name → AreBlocks above old → OpensWmm name number old new
    → (kind : TextKind) → IsWrong above line kind → ⊥
wmm_good above line name number old new is are opens =
    let begins = IsWmmHeader-opens line name is in
    good above line (wmm_first above line 18 begins
    (λ less wrong. wmm_header_wrong above line begins wrong name is)
    (λ less wrong. wrong.2 (subst (λ n. wmm_of_name n above ≡ None) (IsWmmHeader-unique line name wrong.0 is wrong.1) (opened_once name number above old new are opens))))
