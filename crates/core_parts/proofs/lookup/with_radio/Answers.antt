use Rattle.std.proofs.Common.{refl}
use Rattle.core_parts.proofs.KeptInterfaces.{none_named}
use Rattle.core_parts.proofs.Named.{has_named, never_homeless}
use Rattle.core_parts.proofs.lookup.with_radio.Goals as goal

pub returns-in_default : goal.returns-in_default
returns-in_default c = λ db J are. (none_named J c.args.name.now c.args.interfaces.now are.interfaces_are c.in_default.ensures, refl)

pub returns-in-Some-radio_at : goal.returns-in-Some-radio_at
returns-in-Some-radio_at c = λ db J are.
    has_named db J c.args.name.now c.args.interfaces.now c.args.radios.now c.in-Some.interface.now c.in-Some-radio_at.radio.now are c.in-Some.ensures
    (c.in-Some-radio_at.ensures.kept db J are.radios_are)

pub returns-in-None : goal.returns-in-None
returns-in-None c = λ db J are.
    absurd (never_homeless db J c.args.name.now c.args.interfaces.now c.args.radios.now c.in-Some.interface.now are c.in-Some.ensures
    (c.in-None.ensures.kept db J are.radios_are))
