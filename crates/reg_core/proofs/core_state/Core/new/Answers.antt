use Rattle.std.proofs.Common.{rules, refl, subst}
use Rattle.rule_intersect.specs.Tables.{IsTableOf}
use Rattle.reg_hints.specs.Table.{no_hints}
use Rattle.reg_books.specs.Lists.{global_by}
use Rattle.reg_core.proofs.AtFirst.{stands_at_first}
use Rattle.reg_core.proofs.core_state.Core.new.Goals as goal

pub returns : goal.returns
returns c =
    record {
      stands = stands_at_first c.args.db _ c.as_slice-domains.ensures.db c.in_ok-domains.ensures refl refl (search rules) refl
          (subst (λ db. IsTableOf (global_by db no_hints) c.in_ok-global.global) c.in_ok-domains.ensures c.in_ok-global.ensures.made)
          (c.no_radios.ensures c.args.db) (search rules);
    }
