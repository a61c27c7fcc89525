use Rattle.std.proofs.Common.{ap, refl, subst, sym}
use Rattle.core_parts.specs.ByIndex.{AreByIndex}
use Rattle.core_parts.specs.declared.interface.Interface.{Interface}
use Rattle.core_parts.proofs.ByIndex.{by_index_kept, map_changes, map_stays}
use Rattle.core_parts.proofs.interface_map.InterfaceMap.set_kind.Goals as goal

pub invariant_of-self : goal.invariant_of-self
invariant_of-self c = subst AreByIndex (sym (ap (λ m. m.entries) c.get_mut.follows.holds-at-none)) c.self.invariant

pub returns-in_default : goal.returns-in_default
returns-in_default c = record {
  kind = map_stays (λ (p : Interface). record p { kind = c.args.kind }) c.args.index c.self.inside.by_index.entries c.get_mut.follows.lender-at-none.entries c.args.self.now c.self.invariant
      c.in_default.ensures.value (ap (λ m. m.entries) c.get_mut.follows.holds-at-none) c.self.view_is;
}

pub invariant_of-self-2 : goal.invariant_of-self-2
invariant_of-self-2 c =
    let p = c.in-Some.interface.now in
    let q : Interface = record p { kind = c.args.kind } in
    by_index_kept c.args.index p q c.self.inside.by_index.entries _ c.self.invariant c.in-Some.ensures.value refl (c.get_mut.follows.holds q).0

pub returns : goal.returns
returns c = record {
  kind =
      let p = c.in-Some.interface.now in
      let q : Interface = record p { kind = c.args.kind } in
      map_changes (λ (p : Interface). record p { kind = c.args.kind }) c.args.index p q c.self.inside.by_index.entries _ c.args.self.now c.self.invariant c.in-Some.ensures.unique
      c.in-Some.ensures.value refl (c.get_mut.follows.holds q).0 c.self.view_is;
}
