-- What the parser holds behind the last line gives the text's database, or its fault.
use Rattle.std.proofs.Common.{◌≡◌, ℕ, ◌<◌, List, length, reverse, Contains, All, subst, inr}
use Rattle.std.proofs.lemmas.List.Elements.{All-contains, All-weaker}
use Rattle.std.specs.BTreeMap.{IsOrdered, values}
use Rattle.std.specs.Cmp.Lexicographic.{slice_cmp}
use Rattle.std.specs.Ordering.{nat_cmp}
use Rattle.std.specs.declared.alloc.Global.{Global}
use Rattle.std.specs.declared.vec.Vec.{Vec}
use Rattle.rule_tables.specs.Code.{IsCode}
use Rattle.rule_tables.specs.declared.domain.Domain.{Domain}
use Rattle.rule_text.specs.declared.countries.Country.{Country as Kept}
use Rattle.rule_text.specs.declared.fault.TextFault.{TextFault}
use Rattle.text_lines.specs.declared.fault.TextKind.{TextKind}
use Rattle.rule_text.specs.declared.parser.Parser.{Parser}
use Rattle.rule_text.specs.declared.wmm_rules.WmmBlock.{WmmBlock}
use Rattle.rule_text.specs.Forms.{Form}
use Rattle.text_lines.specs.Lines.{text_lines}
use Rattle.rule_text.specs.inner.State.{AreAllBlocks, AreAllCountries, AreDomainsOf, AreRead, AreReady, AreSound, IsFirstShortOf, IsKeptCountry, domain_of}
use Rattle.rule_text.specs.TextOf.{IsDomainOf, IsShortAt, IsTextFault, TextOf}
use Rattle.rule_text.proofs.Ended.{all_blocks, all_countries}
use Rattle.rule_text.proofs.Built.{sound_code}
use Rattle.rule_text.proofs.Unique.{sound_from_accepted}
use Rattle.rule_text.proofs.Ready.{ready}

-- the lists of what the parser holds
pub record AreLists (parser : Parser) (cs : List Kept) (bs : List WmmBlock) : Type 0 where
  pub countries_are : cs ≡ values parser.countries
  pub countries_ordered : IsOrdered nat_cmp parser.countries
  pub blocks_are : bs ≡ values parser.blocks
  pub blocks_ordered : IsOrdered (λ (x y : Vec ℕ Global). slice_cmp nat_cmp x.items y.items) parser.blocks

abbrev AllOf : List Form → List Kept → List WmmBlock → Type 0
AllOf forms cs bs = AreSound forms × AreAllBlocks forms bs × AreAllCountries forms cs

all_of : (text : List ℕ) (parser : Parser) (cs : List Kept) (bs : List WmmBlock) (read : AreRead text parser) → AreLists parser cs bs → AllOf read.forms cs bs
all_of text parser cs bs read lists =
    let stands = read.stands in (
      sound_from_accepted (reverse (text_lines text)) read.forms read.accepted,
      all_blocks read.forms parser.blocks bs lists.blocks_are lists.blocks_ordered stands.blocks_are,
      all_countries read.forms parser.countries cs lists.countries_are lists.countries_ordered stands.countries_are,
    )

pub late_text : (text : List ℕ) (parser : Parser) (cs : List Kept) (bs : List WmmBlock) (fault : TextFault) → AreRead text parser → AreLists parser cs bs
    → ((forms : List Form) → AreSound forms → AreAllBlocks forms bs → AreAllCountries forms cs → IsFirstShortOf forms fault) → IsTextFault text fault
late_text text parser cs bs fault read lists first =
    let all = all_of text parser cs bs read lists in
    let short = first read.forms all.0 all.1 all.2 in
    (short.0, short.1, inr (record { forms = read.forms; accepted = read.accepted; short = short.2; first = short.3 }))

pub ready_text : (text : List ℕ) (parser : Parser) (cs : List Kept) (bs : List WmmBlock) → AreRead text parser → AreLists parser cs bs
    → ((forms : List Form) → AreSound forms → AreAllBlocks forms bs → AreAllCountries forms cs → (k : ℕ) (kind : TextKind) → IsShortAt forms k kind → ⊥)
    → All (λ c. 0 < length c.rules) cs → AreReady cs
ready_text text parser cs bs read lists none some =
    let all = all_of text parser cs bs read lists in
    ready (reverse (text_lines text)) read.forms cs (record { accepted = read.accepted; none_short = none read.forms all.0 all.1 all.2 }) all.2 some

-- the domain of a country is the text's
domain_is : (forms : List Form) (cs : List Kept) (c : Kept) → AreAllCountries forms cs → Contains cs c → IsDomainOf forms (domain_of c)
domain_is forms cs c are has =
    let kept = (All-contains (λ x. IsCode x.alpha2 × IsKeptCountry forms x.alpha2 x) cs c are.each has).1 in
    record { named = kept.named; rules = kept.rules_are }

pub text_stands : (text : List ℕ) (parser : Parser) (cs : List Kept) (bs : List WmmBlock) (ds : List Domain) → AreRead text parser → AreLists parser cs bs
    → ((forms : List Form) → AreSound forms → AreAllBlocks forms bs → AreAllCountries forms cs → (k : ℕ) (kind : TextKind) → IsShortAt forms k kind → ⊥)
    → AreDomainsOf cs ds → TextOf text ds
text_stands text parser cs bs ds read lists none are =
    let all = all_of text parser cs bs read lists in (
      read.forms,
      read.accepted,
      record {
        db = are.db;
        each = All-weaker (λ d. (c : Kept) × Contains cs c × (domain_of c ≡ d)) (IsDomainOf read.forms)
            (λ d from. subst (IsDomainOf read.forms) from.2 (domain_is read.forms cs from.0 all.2 from.1)) ds are.each;
        all = λ code region named.
            let c = all.2.all code region (sound_code read.forms code region all.0 named) named in
            (domain_of c.0, are.all c.0 c.1, c.2);
        none_short = none read.forms all.0 all.1 all.2;
      },
    )
