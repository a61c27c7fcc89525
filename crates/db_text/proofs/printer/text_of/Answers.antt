use Rattle.std.proofs.Common.{sym}
use Rattle.std.proofs.lemmas.List.Concat.{flat_map-append}
use Rattle.std.specs.Prelude.{flat_map}
use Rattle.db_text.specs.Printed.{country_lines, ended, first_uses, printed, wmm_in, wmm_lines_from}
use Rattle.db_text.proofs.Uses.{valid_uses}
use Rattle.db_text.proofs.printer.text_of.Goals as goal

pub put_wmm_rules-requires : goal.put_wmm_rules-requires
put_wmm_rules-requires c =
    rw (c.as_slice.ensures.value, c.in_ok-names.ensures.rules, c.as_slice-domains.ensures.all) (valid_uses c.args.db.now c.as_slice-domains.ensures.db)

pub returns : goal.returns
unfolding printed
returns c =
    rw (c.in_ok-put_countries.ensures, c.in_ok-put_wmm_rules.ensures, c.new-out.ensures.empty, c.as_slice.ensures.value, c.in_ok-names.ensures.rules, c.as_slice-domains.ensures.all)
    (sym (flat_map-append ended (wmm_lines_from 0 (first_uses (wmm_in c.args.db.now))) (flat_map (country_lines (first_uses (wmm_in c.args.db.now))) c.args.db.now)))
