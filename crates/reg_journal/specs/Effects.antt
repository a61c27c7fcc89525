-- The effects that a reply tells of.
use Rattle.std.specs.Prelude.{◌≤◌, List, length, Option, None}
use Rattle.std.specs.List.{filter_map}
use Rattle.std.specs.Option.{option_map}
use Rattle.reg_journal.specs.Facts.{Fact, Journal, stopped, powered, check_dropped}
use Rattle.reg_journal.specs.Present.{indexed}
use Rattle.reg_journal.specs.declared.effects.TheConstants.{MOST_EFFECTS}
use Rattle.reg_journal.specs.declared.effects.Effect.{Effect}
use Rattle.reg_journal.specs.declared.effects.Effect.TheVariants.{Stopped, Dropped, Power}
use Rattle.reg_journal.specs.declared.reply.Reply.{Reply}
use Rattle.reg_journal.specs.declared.reply.Reply.TheVariants.{Plain}

-- what a fact does to the interface that it speaks of, by the interface's name
abbrev pub effect_of : Journal → Fact → Option Effect
effect_of J (stopped i) = option_map (λ x. Stopped x.name) (indexed J i)
effect_of J (check_dropped i) = option_map (λ x. Dropped x.name) (indexed J i)
effect_of J (powered i power) = option_map (λ x. Power x.name power) (indexed J i)
effect_of J f = None

-- the effects of facts that come after the journal
abbrev pub effects_of : Journal → List Fact → List Effect
effects_of J facts = filter_map (effect_of J) facts

-- at most 64 effects are told of
abbrev pub HasFewEffects : Reply → Type 0
HasFewEffects (Plain answer effects) = length effects ≤ MOST_EFFECTS
HasFewEffects reply = Unit {0}
