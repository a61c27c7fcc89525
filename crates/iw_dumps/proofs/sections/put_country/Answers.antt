use Rattle.std.proofs.Common.{append_assoc}
use Rattle.iw_dumps.specs.DumpTexts.{country_text}
use Rattle.iw_dumps.proofs.sections.put_country.Goals as goal

pub returns : goal.returns
unfolding country_text
returns c =
    rw (c.in_ok-append-3.ensures.ok, c.region_text.ensures, c.in_ok-append-2.ensures.ok, c.in_ok-put_code.ensures, c.in_ok-append.ensures.ok) (simp append_assoc)
