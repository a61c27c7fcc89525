use Rattle.std.proofs.Common.{◌≡◌, ℕ, ◌+◌, ◌<◌, set, Some, arith, refl, sym, ap}
use Rattle.dfs_states.specs.declared.check.Check.{Check}
use Rattle.dfs_states.proofs.Each.{follows_written}
use Rattle.dfs_states.proofs.Whole.{stands_at_once, stands_begin}
use Rattle.dfs_states.proofs.book.DfsBook.begin.Goals as goal

pub returns-then-length_ms-eq0 : goal.returns-then-length_ms-eq0
returns-then-length_ms-eq0 c = record {
  stands_for = λ channels opening calls stands due.
      let stood = rw (← c.self.view_is) at stands in
      let slot = c.place-slot.ensures.number in
      stands_at_once _ _ channels opening calls c.args.iface c.args.c.now c.args.length_ms stood due c.if-length_ms-eq0.true (omega arith) refl (record { lasts = refl; operations = refl })
      (follows_written _ _ _ _ (sym c.self.inside.places.ok.0) (rw (c.as_mut_slice.ensures.value, slot) at c.begin_check.ensures)) refl;
}

pub returns : goal.returns
returns c = record {
  stands_for = λ channels opening calls stands due.
      let check : Check = record { chan = c.args.c.now; start = c.self.inside.moment; end = c.self.inside.moment + c.from.result } in
      let stood = rw (← c.self.view_is) at stands in
      let slot = c.place-slot.ensures.number in
      stands_begin _ _ channels opening calls c.args.iface check c.args.length_ms
      stood due (some c.args.length_ms c.if-length_ms-eq0.false) (omega arith) refl (ap (λ n. c.self.inside.moment + n) c.from.ensures) refl (record { lasts = refl; operations = refl }) (follows_written _ _ _ _ (sym c.self.inside.places.ok.0) (rw (c.as_mut_slice.ensures.value, slot) at c.begin_check.ensures)) (ap (λ i. set c.self.inside.checks i (Some check)) slot);
}
  where
    some : (n : ℕ) → (n ≡ 0 → ⊥) → 0 < n
    some n other = omega arith
