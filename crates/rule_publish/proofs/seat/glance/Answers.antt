use Rattle.std.proofs.Common.{refl, le_refl}
use Rattle.rule_publish.proofs.Steps.{sees}
use Rattle.rule_publish.proofs.seat.glance.Goals as goal

pub enter_as-requires : goal.enter_as-requires
enter_as-requires g c x views h at = sees _ _ _ _ views _ _ (le_refl _) refl h at
