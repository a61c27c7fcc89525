use Rattle.std.proofs.Common.{◌≡◌, ◌==◌, true, false, ap, sym, ◌∙◌, eqb-true}
use Rattle.core_parts.specs.declared.interface.Interface.{Interface}
use Rattle.reg_core.proofs.Removed.{is_of_radio, no_end_added}
use Rattle.reg_core.proofs.radio_deleting.add_end_on.Goals as goal

pub returns-then-is_on : goal.returns-then-is_on
returns-then-is_on c = record {
  added = λ db J x due keeps there is.
      let on : (x.radio == c.args.number) ≡ true = ap (λ (p : Interface). p.radio == c.args.number) (sym is) ∙ sym c.is_on.ensures ∙ c.if-is_on.true in
      rw on (c.add_end.ensures.added db J x (is_of_radio db J x c.args.number c.args.interface.now c.args.radio.now due keeps there is (eqb-true x.radio c.args.number on)));
}

pub returns-else-is_on : goal.returns-else-is_on
returns-else-is_on c = record {
  added = λ db J x due keeps there is.
      let off : (x.radio == c.args.number) ≡ false = ap (λ (p : Interface). p.radio == c.args.number) (sym is) ∙ sym c.is_on.ensures ∙ c.if-is_on.false in
      rw off (no_end_added J c.args.changes.now);
}
