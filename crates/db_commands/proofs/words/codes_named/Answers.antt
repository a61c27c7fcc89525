use Rattle.std.proofs.Common.{codes, ◌≡◌, ◌∙◌, List, [], ◌∷◌, refl, string_bytes, sym}
use Rattle.std.proofs.lemmas.Bool.Decides.{Decides-eqb}
use Rattle.std.proofs.lemmas.Slice.Eq.{slice_eq-Decides}
use Rattle.std.specs.declared.alloc.Global.{Global}
use Rattle.std.specs.declared.string.String.{String}
use Rattle.rule_tables.specs.Code.{IsCode}
use Rattle.rule_tables.specs.declared.code.Alpha2.{Alpha2}
use Rattle.db_commands.specs.Conversions.{NamesConversion}
use Rattle.db_commands.specs.declared.conversion.Conversion.TheVariants.{Common}
use Rattle.db_commands.proofs.FewWords.{only_three}
use Rattle.db_commands.proofs.words.codes_named.Goals as goal

names_both : (words : List (String Global)) (name first second : String Global) (one other : Alpha2) → words ≡ name ∷ first ∷ second ∷ [] → string_bytes name ≡ codes "common"
    → string_bytes first ≡ one.a ∷ one.b ∷ [] → IsCode one → string_bytes second ≡ other.a ∷ other.b ∷ [] → IsCode other → NamesConversion words (Common one other)
names_both words name first second one other parts command one_is one_code other_is other_code = record {
  spelled = rw (parts, command, one_is, other_is) refl;
  are_codes = (one_code, other_code);
}

pub returns-in_ok-other-in-len3 : goal.returns-in_ok-other-in-len3
returns-in_ok-other-in-len3 c =
    let three = only_three _ _ _ _ c.in-len3.len_at_least c.in-len3.len_below c.command-item.is c.one-item.is c.other-item.is in
    let name : c.as_str.result.now ≡ codes "common" = (slice_eq-Decides Decides-eqb _ _ _ c.eq.ensures).0 c.if-eq.true in
    names_both _ _ _ _ _ _ three (sym c.as_str.ensures.value ∙ name)
    (sym c.as_bytes.ensures.value ∙ c.in_ok-one-in-len3.ensures.0) c.in_ok-one-in-len3.ensures.1
    (sym c.as_bytes-in-len3.ensures.value ∙ c.in_ok-other-in-len3.ensures.0) c.in_ok-other-in-len3.ensures.1
