-- what was appended, and what the rest gives, is what all give
use Rattle.std.proofs.Common.{◌≡◌, ◌++◌, drop, map}
use Rattle.nl80211_replies.specs.Plain.{effect_attr}
use Rattle.nl80211_replies.proofs.effect.push_effects.Given as goal

abbrev pub invariant-loop-effect : goal.invariant-loop-effect
invariant-loop-effect l = l.out ++ map effect_attr (drop l.effect-index l.effects) ≡ l.initial.out ++ map effect_attr l.effects
