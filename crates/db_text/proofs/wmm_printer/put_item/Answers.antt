use Rattle.std.proofs.Common.{append_assoc}
use Rattle.db_text.specs.Printed.{item_line}
use Rattle.db_text.proofs.wmm_printer.put_item.Goals as goal

pub returns : goal.returns
unfolding item_line
returns c =
    rw (
      c.in_ok-push-2.ensures.ok,
      c.in_ok-put_number-2.ensures,
      c.from-2.ensures,
      c.in_ok-append-5.ensures.ok,
      c.in_ok-put_number.ensures,
      c.from.ensures,
      c.in_ok-append-4.ensures.ok,
      c.in_ok-put_window-2.ensures,
      c.in_ok-append-3.ensures.ok,
      c.in_ok-put_window.ensures,
      c.in_ok-append-2.ensures.ok,
      c.in_ok-append.ensures.ok,
      c.item_name.ensures.name,
      c.in_ok-push.ensures.ok,
    ) (simp append_assoc)
