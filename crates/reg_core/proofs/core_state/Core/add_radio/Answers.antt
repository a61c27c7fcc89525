use Rattle.std.proofs.Common.{rules, ◌≡◌, ◌∷◌, Bool, true, false, ◌↔◌, IsTrue, arith, refl, sym, subst}
use Rattle.std.proofs.Math.ListN.{set}
use Rattle.reg_journal.proofs.Granting.{free-where}
use Rattle.reg_journal.specs.Due.{EachMayFollow}
use Rattle.core_parts.specs.declared.radio.RadioPlace.TheVariants.{There}
use Rattle.reg_journal.specs.Facts.{radio_added}
use Rattle.reg_journal.specs.Present.{is_used}
use Rattle.reg_core.specs.Kept.{Keeps}
use Rattle.core_parts.specs.Kept.{KeepsRadio}
use Rattle.reg_books.proofs.Moments.{now_of-small}
use Rattle.reg_books.proofs.Newcomers.{driver_code_of-unused}
use Rattle.core_parts.proofs.KeptPlaces.{place_kept}
use Rattle.reg_core.proofs.KeptOver.{keeps_after_radio}
use Rattle.reg_core.proofs.core_state.Core.add_radio.Goals as goal

used : (free is : Bool) → free ≡ false → (IsTrue free ↔ (is ≡ false)) → IsTrue is
used free true taken both = refl
used free false taken both = let free_too = both.1 refl in absurd (cc (taken, free_too))

pub returns-then-not-is_free : goal.returns-then-not-is_free
returns-then-not-is_free c = record {
  taken = λ db J s.
      let kept = place_kept db J c.args.self.now.radios c.args.radio c.get-number.result c.index-self-number.result s.radios (search rules) c.get-number.ensures.number (search rules) in
      record { reason = (used c.is_free.result (is_used J c.args.radio) c.if-not-is_free.true (c.is_free.ensures db J c.args.radio kept), refl); unchanged = refl };
}

pub new-requires-clause-time : goal.new-requires-clause-time
new-requires-clause-time c =
    let s = c.requires.core.keeps in
    let small = now_of-small c.requires.core.db c.requires.core.journal s.due in
    let same = s.clock in
    omega (arith, small, same)

pub returns : goal.returns
returns c = record {
  taken = λ db J s.
      let radios = c.args.self.now.radios in
      let kept = place_kept db J radios c.args.radio c.get-number.result c.index-self-number.result s.radios (search rules) c.get-number.ensures.number (search rules) in
      let free = (c.is_free.ensures db J c.args.radio kept).0 c.if-not-is_free.false in
      let due : EachMayFollow db (radio_added c.args.radio c.args.profile ∷ J) = ((search rules, free, c.requires.profile), s.due) in
      record {
        free = free-where _ _ (λ taken. absurd (cc (taken, free)));
        keeps = subst (λ n. Keeps db (record c.args.self.now { radios = set radios n (There c.in_ok-added.added) }) (radio_added c.args.radio c.args.profile ∷ J)) (sym c.get-number.ensures.number)
            (keeps_after_radio db J c.args.self.now c.args.radio c.args.profile c.in_ok-added.added s due (search rules)
            (subst (λ ds. KeepsRadio ds (radio_added c.args.radio c.args.profile ∷ J) c.args.radio c.in_ok-added.added) s.domains
            (c.in_ok-added.ensures.kept J c.args.radio (sym s.hints) (sym s.clock) (driver_code_of-unused db J c.args.radio s.due free)
            (subst (λ ds. EachMayFollow ds (radio_added c.args.radio c.args.profile ∷ J)) (sym s.domains) due))));
      };
}
