-- The domains that the core has at hand beside those of its database.
use Rattle.std.specs.Prelude.{◌≡◌, []}
use Rattle.rule_tables.specs.declared.domain.Domain.{Domain}
use Rattle.rule_tables.specs.World.{custom_domain}
use Rattle.rule_tables.specs.World.{world_domain}

-- the world's domain, and one that permits nothing
pub record AreAtHand (world nothing : Domain) : Type 0 where
  pub is_world : world ≡ world_domain
  pub is_nothing : nothing ≡ custom_domain []
