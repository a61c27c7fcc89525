-- Counts with one reply more.
use Rattle.std.proofs.Common.{◌≡◌, ℕ, ◌+◌, ◌≤◌, cond, List, [], ◌∷◌, ◌++◌, length-append, ap, sym, ◌∙◌, arith}
use Rattle.std.proofs.lemmas.List.Sums.{sum_by_push}
use Rattle.reg_journal.specs.Effects.{HasFewEffects}
use Rattle.reg_journal.specs.declared.reply.Reply.{Reply}
use Rattle.reg_journal.specs.declared.reply.Reply.TheVariants.{Plain, Regs, Channels, Radio, Iface}
use Rattle.make_command.specs.Counts.{effect_count, is_check, is_hint, is_refused, is_start}
use Rattle.make_command.specs.declared.counts.Counts.{Counts}
use Rattle.make_command.specs.inner.Making.{AreCounts}

-- a reply has at most 64 effects
pub few_counted : (reply : Reply) → HasFewEffects reply → effect_count reply ≤ 64
few_counted (Plain answer effects) few = few
few_counted (Regs list) few = omega arith
few_counted (Channels radio list) few = omega arith
few_counted (Radio report) few = omega arith
few_counted (Iface report) few = omega arith

pub counts_more : (old new : Counts) (reply : Reply) (effects : ℕ) → new.requests ≡ old.requests + 1 → new.started ≡ old.started + cond (is_start reply) 1 0 → new.refused ≡ old.refused + cond (is_refused reply) 1 0
    → new.checks ≡ old.checks + cond (is_check reply) 1 0 → new.hints ≡ old.hints + cond (is_hint reply) 1 0 → new.effects ≡ old.effects + effects → effects ≡ effect_count reply
    → (replies : List Reply) → AreCounts old replies → AreCounts new (replies ++ reply ∷ [])
counts_more old new reply effects requests started refused checks hints more same replies are = record {
  requests = requests ∙ ap (λ n. n + 1) are.requests ∙ sym (length-append replies (reply ∷ []));
  started = started ∙ ap (λ n. n + cond (is_start reply) 1 0) are.started ∙ sym (sum_by_push (λ r. cond (is_start r) 1 0) replies reply);
  refused = refused ∙ ap (λ n. n + cond (is_refused reply) 1 0) are.refused ∙ sym (sum_by_push (λ r. cond (is_refused r) 1 0) replies reply);
  checks = checks ∙ ap (λ n. n + cond (is_check reply) 1 0) are.checks ∙ sym (sum_by_push (λ r. cond (is_check r) 1 0) replies reply);
  hints = hints ∙ ap (λ n. n + cond (is_hint reply) 1 0) are.hints ∙ sym (sum_by_push (λ r. cond (is_hint r) 1 0) replies reply);
  effects = more ∙ ap (λ n. old.effects + n) same ∙ ap (λ n. n + effect_count reply) are.effects ∙ sym (sum_by_push effect_count replies reply);
}
