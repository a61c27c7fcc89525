-- the effects so far are those that the attributes so far tell
use Rattle.std.proofs.Common.{◌≡◌, ◌≤◌, List, All, length, map, take}
use Rattle.reg_journal.specs.declared.effects.Effect.{Effect}
use Rattle.reg_journal.specs.declared.effects.TheConstants.{MOST_EFFECTS}
use Rattle.reply_reading.specs.Typed.{IsTypedEffect}
use Rattle.reply_reading.specs.inner.Reading.{effect_payload, payload_in}
use Rattle.reply_reading.proofs.effects.effects_in.Given as goal

abbrev pub invariant-loop-attr : goal.invariant-loop-attr
invariant-loop-attr l =
    (told : List Effect) → length told ≤ MOST_EFFECTS → All IsTypedEffect told → map payload_in l.attrs ≡ map effect_payload told → l.effects ≡ take l.attr-index told
