-- The number beside a channel is that of the channel table.
use Rattle.std.proofs.Common.{◌≡◌, ◌≢◌, ℕ, ◌+◌, ◌-◌, ◌*◌, ◌/◌, ◌<◌, ◌≤◌, eqb, inl, inr, arith, sym}
use Rattle.std.proofs.Math.Dec.{ltb}
use Rattle.std.proofs.lemmas.Bool.{cond_both, eqb-true, eqb-false, ltb-true, ltb-false}
use Rattle.freq_range.specs.Channels.{IsChannel}
use Rattle.freq_range.specs.declared.channel.Band.{Band}
use Rattle.freq_range.specs.declared.channel.Band.TheVariants.{Ghz2, Ghz5, Ghz6}
use Rattle.iw_dumps.specs.DumpTexts.{channel_number}

by_place : (n khz : ℕ) → (khz ≡ 2484000 → 14 ≡ n) → ((khz ≡ 2484000 → ⊥) → khz < 5000000 → (khz - 2407000) / 5000 ≡ n)
    → (5000000 ≤ khz → khz < 5950000 → (khz - 5000000) / 5000 ≡ n) → (5950000 ≤ khz → (khz - 5950000) / 5000 ≡ n) → channel_number khz ≡ n
unfolding channel_number
by_place n khz fourteen low middle high =
    cond_both (eqb khz 2484000) 14 _ (λ x. x ≡ n) (λ is. fourteen (eqb-true khz 2484000 is)) (λ other.
    cond_both (ltb khz 5000000) ((khz - 2407000) / 5000) _ (λ x. x ≡ n) (λ below. low (eqb-false khz 2484000 other) (ltb-true khz 5000000 below)) (λ above.
    cond_both (ltb khz 5950000) ((khz - 5000000) / 5000) ((khz - 5950000) / 5000) (λ x. x ≡ n) (λ below. middle (ltb-false khz 5000000 above) (ltb-true khz 5950000 below))
    (λ beyond. high (ltb-false khz 5950000 beyond))))

middle_number : (n khz : ℕ) → 36 ≤ n → n ≤ 177 → khz ≡ 5000000 + 5000 * n → channel_number khz ≡ n
middle_number n khz least most e =
    by_place n khz (λ is. absurd (omega (arith, e, is))) (λ other below. absurd (omega (arith, e, below))) (λ above below. omega (arith, e)) (λ above. absurd (omega (arith, e, most, above)))

pub number_of_channel : (band : Band) (n khz : ℕ) → IsChannel band n khz → channel_number khz ≡ n
number_of_channel Ghz2 n khz (inl (least, most, e)) =
    by_place n khz (λ is. absurd (omega (arith, e, is))) (λ other below. omega (arith, e)) (λ above below. absurd (omega (arith, e, most, above))) (λ above. absurd (omega (arith, e, most, above)))
number_of_channel Ghz2 n khz (inr (is, e)) =
    by_place n khz (λ _. sym is) (λ other below. absurd (other e)) (λ above below. absurd (omega (arith, e, above))) (λ above. absurd (omega (arith, e, above)))
number_of_channel Ghz5 n khz (inl step, e) = middle_number n khz step.from_first (omega (arith, step.to_last)) e
number_of_channel Ghz5 n khz (inr (inl step), e) = middle_number n khz (omega (arith, step.from_first)) (omega (arith, step.to_last)) e
number_of_channel Ghz5 n khz (inr (inr step), e) = middle_number n khz (omega (arith, step.from_first)) step.to_last e
number_of_channel Ghz6 n khz (step, e) =
    by_place n khz (λ is. absurd (omega (arith, e, is))) (λ other below. absurd (omega (arith, e, below))) (λ above below. absurd (omega (arith, e, below))) (λ above. omega (arith, e))
