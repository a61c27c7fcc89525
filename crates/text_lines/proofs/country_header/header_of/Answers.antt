use Rattle.std.proofs.lemmas.Result.{err_from_is_err_and}
use Rattle.text_lines.proofs.Codes.{code_stop-header, header-no_region, header-reads, header_codes-by, no_title}
use Rattle.text_lines.proofs.country_header.header_of.Goals as goal

pub returns-in_default : goal.returns-in_default
returns-in_default c = record { header = no_title c.args.line.now c.in_default.ensures }

pub returns-in_err-read_codes : goal.returns-in_err-read_codes
returns-in_err-read_codes c =
    let p = err_from_is_err_and c.from_residual.result c.from_residual.ensures.1 in
    rw (p.1, p.2) (record { header = code_stop-header c.args.line.now c.in-Some.list.now c.in-Some.rest.now _ c.in-Some.ensures c.in_err-read_codes.ensures })

pub returns-in-Some-region_of : goal.returns-in-Some-region_of
returns-in-Some-region_of c =
    record { header = header-reads c.args.line.now _ c.in-Some.rest.now c.in-Some-region_of.region (header_codes-by c.args.line.now c.in-Some.list.now c.in-Some.rest.now _ c.in-Some.ensures c.in_ok-read_codes.ensures) c.in-Some-region_of.ensures }

pub returns-in-None : goal.returns-in-None
returns-in-None c =
    record { header = header-no_region c.args.line.now _ c.in-Some.rest.now (header_codes-by c.args.line.now c.in-Some.list.now c.in-Some.rest.now _ c.in-Some.ensures c.in_ok-read_codes.ensures) c.in-None.ensures }
