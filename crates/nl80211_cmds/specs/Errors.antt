-- Error messages that answer requests.
use Rattle.std.specs.Prelude.{ℤ, take}
use Rattle.nl_attrs.specs.Messages.{pid_of, seq_of, spelled}
use Rattle.nl_attrs.specs.declared.message.Msg.{Msg}
use Rattle.nl_attrs.specs.declared.message.Msg.TheVariants.{Error}

-- The Error message with an errno that answers the request: it repeats its sequence number and its port, and has its first
-- 16 bytes.
abbrev pub error_answer : Msg → ℤ → Msg
error_answer request errno = Error 0 (seq_of request) (pid_of request) errno (take 16 (spelled request))
