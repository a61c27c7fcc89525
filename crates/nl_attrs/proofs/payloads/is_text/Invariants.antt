use Rattle.std.proofs.Common.{take}
use Rattle.nl_attrs.specs.Payloads.{IsZeroFree}
use Rattle.nl_attrs.proofs.payloads.is_text.Given as goal

abbrev pub invariant-loop-byte : goal.invariant-loop-byte
invariant-loop-byte l = IsZeroFree (take l.byte-index l.bytes)
