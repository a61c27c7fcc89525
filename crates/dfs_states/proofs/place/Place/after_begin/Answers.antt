use Rattle.std.proofs.Common.{◌≡◌, ℕ, ◌<◌, arith, refl}
use Rattle.dfs_states.proofs.Begun.{place_begun_apart, place_begun, place_at_once}
use Rattle.dfs_states.proofs.place.Place.after_begin.Goals as goal

pub returns-then-not-covers : goal.returns-then-not-covers
returns-then-not-covers c = record {
  khz = refl;
  stands = λ opening calls due now is.
      place_begun_apart opening c.args.slot c.args.c.now c.args.length_ms calls c.args.self.now (omega arith) due
      (λ covered. let found = c.if-not-covers.ensures.covered.1 covered in cc) is;
}

pub returns-then-length_ms-eq0 : goal.returns-then-length_ms-eq0
returns-then-length_ms-eq0 c = record {
  khz = refl;
  stands = λ opening calls due now is.
      place_at_once opening c.args.slot c.args.c.now c.args.length_ms c.args.now calls c.args.self.now c.if-length_ms-eq0.true now due (c.if-not-covers.ensures.covered.0 refl) is;
}

pub returns : goal.returns
returns c = record {
  khz = refl;
  stands = λ opening calls due now is.
      place_begun opening c.args.slot c.args.c.now c.args.length_ms calls c.args.self.now (omega arith) due (c.if-not-covers.ensures.covered.0 refl) (some c.args.length_ms c.if-length_ms-eq0.false) is;
}
  where
    some : (n : ℕ) → (n ≡ 0 → ⊥) → 0 < n
    some n other = omega arith
