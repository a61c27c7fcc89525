use Rattle.std.proofs.Common.{◌≡◌, Option, Some, None, refl, sym, ap, ◌∙◌, inl, inr, option_map}
use Rattle.std.proofs.lemmas.Bool.{false≢true}
use Rattle.std.proofs.lemmas.Option.{none-some}
use Rattle.reg_journal.proofs.Granting.{free-where}
use Rattle.reg_journal.specs.Present.{Operation, operation_of}
use Rattle.core_parts.specs.Kept.{kept_operation}
use Rattle.core_parts.specs.declared.interface.Interface.{Interface}
use Rattle.core_parts.specs.declared.interface.Running.{Running}
use Rattle.core_parts.proofs.KeptInterfaces.{none_named, some_named}
use Rattle.reg_core.proofs.StartReasons.{stop_barred}
use Rattle.reg_core.proofs.core_state.Core.operating.Goals as goal

none_kept : (o : Option Operation) → None ≡ option_map kept_operation o → o ≡ None
none_kept None is = refl
none_kept (Some o) is = absurd (none-some (kept_operation o) is)

some_kept : (r : Running) (o : Option Operation) → Some r ≡ option_map kept_operation o → (p : Operation) × (o ≡ Some p)
some_kept r None is = absurd (none-some r (sym is))
some_kept r (Some o) is = (o, refl)

pub returns-in_default : goal.returns-in_default
returns-in_default c = record {
  stop = λ db J s. inl (none_named J c.args.name.now c.as_slice.result.now (c.as_slice.ensures.items ∙ s.interfaces) c.in_default.ensures, refl);
}

pub returns-then-not-is_same_kind : goal.returns-then-not-is_same_kind
returns-then-not-is_same_kind c = record {
  stop = λ db J s.
      let (x, is, interface_is) = some_named J c.args.name.now c.as_slice.result.now c.in-Some.interface.now (c.as_slice.ensures.items ∙ s.interfaces) c.in-Some.ensures in
      stop_barred J c.args.name.now c.args.kind x _ is
      (inl ((λ same. absurd (false≢true (c.if-not-is_same_kind.ensures.1 (ap (λ (p : Interface). p.kind) interface_is ∙ same)))), refl));
}

pub returns-in_default-operation : goal.returns-in_default-operation
returns-in_default-operation c = record {
  stop = λ db J s.
      let (x, is, interface_is) = some_named J c.args.name.now c.as_slice.result.now c.in-Some.interface.now (c.as_slice.ensures.items ∙ s.interfaces) c.in-Some.ensures in
      stop_barred J c.args.name.now c.args.kind x _ is
      (inr (
        free-where _ _ (λ other. other (sym (ap (λ (p : Interface). p.kind) interface_is) ∙ c.if-not-is_same_kind.ensures.0 refl)),
        (none_kept (operation_of J x.index) (sym c.in_default-operation.is ∙ ap (λ (p : Interface). p.operation) interface_is), refl),
      ));
}

pub returns : goal.returns
returns c = record {
  stop = λ db J s.
      let (x, is, interface_is) = some_named J c.args.name.now c.as_slice.result.now c.in-Some.interface.now (c.as_slice.ensures.items ∙ s.interfaces) c.in-Some.ensures in
      let operates = some_kept c.in-Some-operation._operation (operation_of J x.index) (sym c.in-Some-operation.is ∙ ap (λ (p : Interface). p.operation) interface_is) in
      record {
        iface = x;
        is_named = is;
        interface_is = interface_is;
        right_kind = sym (ap (λ (p : Interface). p.kind) interface_is) ∙ c.if-not-is_same_kind.ensures.0 refl;
        operation = operates.0;
        operates = operates.1;
      };
}
