-- Which frequencies are centres of subchannels.
use Rattle.std.proofs.Common.{◌≡◌, ℕ, ◌+◌, ◌-◌, ◌/◌, ◌%◌, ◌≤◌, ◌↔◌, IsTrue, nat_lt, arith}
use Rattle.std.proofs.lemmas.Bool.{ltb-true, lt-ltb}
use Rattle.chan_def.specs.Covered.{IsInside}

-- the place of a subchannel is how many steps its centre is above the lowest one
pub inside_iff : (width centre khz : ℕ) → centre + 10000 ≤ khz + width / 2 → (khz + width / 2 - (centre + 10000)) % 20000 ≡ 0
    → IsTrue (nat_lt ((khz + width / 2 - (centre + 10000)) / 20000) (width / 20000)) ↔ IsInside width centre khz
inside_iff width centre khz above whole = (
  λ few.
      let within = ltb-true _ _ few in
      ((khz + width / 2 - (centre + 10000)) / 20000, record { within = within; at = omega arith }),
  λ inside.
      let sub = inside.1 in
      let place = inside.0 in
      lt-ltb _ _ (omega (arith, sub)),
)
