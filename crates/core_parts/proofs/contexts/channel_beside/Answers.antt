use Rattle.std.proofs.Common.{◌≡◌, true, false, ◌==◌, sym, ◌∙◌, ne_eqb}
use Rattle.core_parts.specs.Interfaces.{is_on_radio}
use Rattle.core_parts.proofs.Beside.{beside_other, is_of_other}
use Rattle.core_parts.proofs.contexts.channel_beside.Goals as goal

pub returns : goal.returns
returns c =
    let apart : (c.args.other.now.index == c.args.interface.now.index) ≡ false = ne_eqb _ _ c.if-other-interface.false in
    let on : is_on_radio c.args.interface.now.radio c.args.other.now ≡ true = sym c.is_on.ensures ∙ c.if-not-is_on.false in
    λ db J x y is. c.channel_of.ensures db J y (is_of_other db J x y c.args.book.now c.args.interface.now c.args.other.now is on)
    ∙ beside_other J x y c.args.interface.now c.args.other.now is.of.interface_is is.other_is apart on
