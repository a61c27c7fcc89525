-- the interfaces so far are those that the attributes so far tell
use Rattle.std.proofs.Common.{◌≡◌, ℕ, List, All, map, take}
use Rattle.chan_def.specs.declared.kind.Kind.{Kind}
use Rattle.reply_reading.specs.Typed.{IsTypedIface}
use Rattle.reply_reading.specs.inner.Reading.{iface_payload, payload_in}
use Rattle.reply_reading.proofs.radios.ifaces_in.Given as goal

abbrev pub invariant-loop-attr : goal.invariant-loop-attr
invariant-loop-attr l = (told : List (List ℕ × ℕ × Kind)) → All IsTypedIface told → map payload_in l.attrs ≡ map iface_payload told → l.ifaces ≡ take l.attr-index told
