use Rattle.std.proofs.Common.{append_assoc}
use Rattle.db_text.specs.Printed.{country_line}
use Rattle.db_text.proofs.printer.put_header.Goals as goal

pub returns : goal.returns
unfolding country_line
returns c =
    rw (c.in_ok-push-2.ensures.ok, c.in_ok-append-3.ensures.ok, c.region_part.ensures, c.in_ok-push.ensures.ok, c.in_ok-append-2.ensures.ok, c.in_ok-append.ensures.ok)
    (simp append_assoc)
