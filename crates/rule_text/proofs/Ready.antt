-- The domains of a text without a fault are those of a database.
use Rattle.std.proofs.Common.{ℕ, ◌<◌, List, length, get_or, All, arith, ap}
use Rattle.std.proofs.lemmas.List.Elements.{Contains-get_or}
use Rattle.rule_tables.proofs.Dropped.{DropsRepeats-only, dropped_distinct}
use Rattle.rule_tables.specs.Code.{key}
use Rattle.rule_text.specs.declared.countries.Country.{Country as Kept}
use Rattle.rule_text.specs.Forms.{Form, rules_of}
use Rattle.rule_text.specs.inner.State.{AreAllCountries, AreReady}
use Rattle.rule_text.proofs.Built.{IsWhole, valid_rule}

pub ready : (lines : List (List ℕ)) (forms : List Form) (cs : List Kept) → IsWhole lines forms → AreAllCountries forms cs → All (λ c. 0 < length c.rules) cs → AreReady cs
ready lines forms cs whole countries some = record {
  each = λ k d in_range.
      let c = get_or cs k d in
      let kept = countries.each k d in_range in
      let is = kept.1 in
      record {
        code = kept.0;
        distinct = dropped_distinct (rules_of c.alpha2 forms) c.rules is.rules_are;
        rules = record {
          some = some k d in_range;
          few = is.few;
          each = λ j e within. valid_rule lines forms c.alpha2 (get_or c.rules j e) whole
              (DropsRepeats-only (rules_of c.alpha2 forms) c.rules (get_or c.rules j e) is.rules_are (Contains-get_or c.rules j e within));
        };
      };
  apart = λ i j d less in_range same. let rise = countries.ascending i j d less in_range in let e = ap key same in omega (arith, rise, e);
}
