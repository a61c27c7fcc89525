-- An input is accepted as one database, or has one fault.
use Rattle.std.proofs.Common.{◌≡◌, ℕ, ◌<◌, List, ap, arith, inl, inr, subst, sym, ◌∙◌}
use Rattle.rule_tables.specs.Databases.{HasCode}
use Rattle.rule_tables.specs.FileFormat.{ReadsAs}
use Rattle.rule_tables.specs.declared.code.Alpha2.{Alpha2}
use Rattle.rule_tables.specs.declared.domain.Domain.{Domain}
use Rattle.db_reader.proofs.OneDatabase.{ReadsAs-unique}
use Rattle.db_reader.proofs.OneFault.{IsDbFault-unique, ReadsAs-no_fault}
use Rattle.rule_text.proofs.OneAnswer.{TextOf-unique, TextOf-no_fault, IsTextFault-unique}
use Rattle.db_writer.specs.LaidOut.{IsWithinReach, EndsIn}
use Rattle.db_writer.proofs.Unique.{EndsIn-unique}
use Rattle.db_commands.proofs.FirstTime.{IsFirstTime-unique, LackTimes-none}
use Rattle.db_commands.specs.Conversions.{HasOutput, InputStandsFor, IsAccepted, IsRefusedFile, IsInputFault, IsMisread, IsFirstAbsent, LacksOutput}
use Rattle.db_commands.specs.declared.conversion.Conversion.{Conversion}
use Rattle.db_commands.specs.declared.conversion.Conversion.TheVariants.{Compile, Decompile, Check, Lint, Common}
use Rattle.db_commands.specs.declared.status.InputFault.{InputFault}
use Rattle.db_commands.specs.declared.status.InputFault.TheVariants.{Text, Database, Layout, NoCountry}

-- an input stands for one database
pub StandsFor-unique : (c : Conversion) (input : List ℕ) (ds es : List Domain) → InputStandsFor c input ds → InputStandsFor c input es → ds ≡ es
StandsFor-unique Compile text ds es one other = TextOf-unique text ds es one other
StandsFor-unique Decompile bytes ds es one other = ReadsAs-unique bytes ds es one other
StandsFor-unique Check bytes ds es one other = ReadsAs-unique bytes ds es one other
StandsFor-unique Lint bytes ds es one other = ReadsAs-unique bytes ds es one other
StandsFor-unique (Common a b) bytes ds es one other = ReadsAs-unique bytes ds es one other

-- ---- an input that stands for a database isn't misread

file_is_good : (bytes : List ℕ) (ds : List Domain) (fault : InputFault) → ReadsAs bytes ds → IsRefusedFile bytes fault → ⊥
file_is_good bytes ds fault reads (f, is, bad) = ReadsAs-no_fault bytes ds f reads bad

not_misread : (c : Conversion) (input : List ℕ) (ds : List Domain) (fault : InputFault) → InputStandsFor c input ds → IsMisread c input fault → ⊥
not_misread Compile text ds fault stands (f, is, bad) = TextOf-no_fault text ds f stands bad
not_misread Decompile bytes ds fault stands h = file_is_good bytes ds fault stands h
not_misread Check bytes ds fault stands h = file_is_good bytes ds fault stands h
not_misread Lint bytes ds fault stands h = file_is_good bytes ds fault stands h
not_misread (Common a b) bytes ds fault stands h = file_is_good bytes ds fault stands h

-- ---- a database that has an output doesn't lack it

-- a database whose file is within the reach of pointers isn't too large
not_too_large : (ds : List Domain) (words : ℕ) → IsWithinReach ds → EndsIn ds words → 65535 < words → ⊥
not_too_large ds words (place, ends, small) ends' above =
    let same = EndsIn-unique ds place words ends ends' in
    omega (arith, same, small, above)

-- both codes are there, so none is missing
not_missing : (ds : List Domain) (a b code : Alpha2) → HasCode ds a → HasCode ds b → IsFirstAbsent ds a b code → ⊥
not_missing ds a b code one other missing = elim missing [ inl first ↦ first.1 one | inr second ↦ second.2 other ]

not_lacking : (c : Conversion) (ds : List Domain) (fault : InputFault) → HasOutput c ds → LacksOutput c ds fault → ⊥
not_lacking Compile ds fault has (words, is, ends, above) = not_too_large ds words has ends above
not_lacking Decompile ds fault has (country, k, is, first) = LackTimes-none ds country k has first
not_lacking Check ds fault has none = none
not_lacking Lint ds fault has none = none
not_lacking (Common a b) ds fault has (code, is, missing) = not_missing ds a b code has.0 has.1 missing

-- an input that is accepted has no fault
pub IsAccepted-no_fault : (c : Conversion) (input : List ℕ) (ds : List Domain) (fault : InputFault) → IsAccepted c input ds → IsInputFault c input fault → ⊥
IsAccepted-no_fault c input ds fault accepted (inl misread) = not_misread c input ds fault accepted.stands_for misread
IsAccepted-no_fault c input ds fault accepted (inr (es, stands, lacks)) =
    not_lacking c ds fault accepted.has_output (subst (λ fs. LacksOutput c fs fault) (StandsFor-unique c input es ds stands accepted.stands_for) lacks)

-- ---- an input has one fault

one_file_fault : (bytes : List ℕ) (f g : InputFault) → IsRefusedFile bytes f → IsRefusedFile bytes g → f ≡ g
one_file_fault bytes f g (one, is, bad) (other, is', bad') = is ∙ ap Database (IsDbFault-unique bytes one other bad bad') ∙ sym is'

misread_once : (c : Conversion) (input : List ℕ) (f g : InputFault) → IsMisread c input f → IsMisread c input g → f ≡ g
misread_once Compile text f g (one, is, bad) (other, is', bad') = is ∙ ap Text (IsTextFault-unique text one other bad bad') ∙ sym is'
misread_once Decompile bytes f g one other = one_file_fault bytes f g one other
misread_once Check bytes f g one other = one_file_fault bytes f g one other
misread_once Lint bytes f g one other = one_file_fault bytes f g one other
misread_once (Common a b) bytes f g one other = one_file_fault bytes f g one other

-- one of the two codes is the first that is missing
one_missing : (ds : List Domain) (a b code other : Alpha2) → IsFirstAbsent ds a b code → IsFirstAbsent ds a b other → code ≡ other
one_missing ds a b code other (inl (is, none)) (inl (is', none')) = is ∙ sym is'
one_missing ds a b code other (inl (is, none)) (inr (is', has, none')) = absurd (none has)
one_missing ds a b code other (inr (is, has, none)) (inl (is', none')) = absurd (none' has)
one_missing ds a b code other (inr (is, has, none)) (inr (is', has', none')) = is ∙ sym is'

lacks_once : (c : Conversion) (ds : List Domain) (f g : InputFault) → LacksOutput c ds f → LacksOutput c ds g → f ≡ g
lacks_once Compile ds f g (words, is, ends, above) (more, is', ends', above') = is ∙ ap Layout (EndsIn-unique ds words more ends ends') ∙ sym is'
lacks_once Decompile ds f g (country, k, is, first) (code, j, is', first') = is ∙ IsFirstTime-unique ds country code k j first first' ∙ sym is'
lacks_once Check ds f g none other = absurd none
lacks_once Lint ds f g none other = absurd none
lacks_once (Common a b) ds f g (code, is, missing) (other, is', missing') = is ∙ ap NoCountry (one_missing ds a b code other missing missing') ∙ sym is'

pub IsInputFault-unique : (c : Conversion) (input : List ℕ) (f g : InputFault) → IsInputFault c input f → IsInputFault c input g → f ≡ g
IsInputFault-unique c input f g (inl one) (inl other) = misread_once c input f g one other
IsInputFault-unique c input f g (inl one) (inr (ds, stands, lacks)) = absurd (not_misread c input ds f stands one)
IsInputFault-unique c input f g (inr (ds, stands, lacks)) (inl other) = absurd (not_misread c input ds g stands other)
IsInputFault-unique c input f g (inr (ds, stands, lacks)) (inr (es, stands', lacks')) =
    lacks_once c es f g (subst (λ fs. LacksOutput c fs f) (StandsFor-unique c input ds es stands stands') lacks) lacks'
