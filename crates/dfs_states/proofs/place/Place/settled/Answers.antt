use Rattle.std.proofs.Common.{◌∷◌, refl, sym, subst}
use Rattle.dfs_states.specs.Calls.{Operate}
use Rattle.dfs_states.specs.StandsFor.{IsLastUse}
use Rattle.dfs_states.proofs.Lapses.{use_next, use_ends}
use Rattle.dfs_states.proofs.Places.{place_operated}
use Rattle.dfs_states.proofs.Whole.{operating_iff}
use Rattle.dfs_states.proofs.place.Place.settled.Goals as goal
use Rattle.dfs_states.proofs.place.Place.settled.Goals.{then-in_use, else-in_use}

pub returns : goal.returns
returns c = λ slot chan. record {
  khz = refl;
  stands = λ opening calls due present is.
      let iff = operating_iff c.args.operations.now calls c.args.self.now.khz present.operating in
      let in_use = c.some_operates_on-in_use.ensures in
      place_operated opening slot chan calls c.args.now c.args.lasts c.some_operates_on-in_use.result c.args.self.now c.remaining-since.result c.if-in_use.used
      due present.moment present.region (λ on. iff.0 (in_use.0 on)) (λ off has. let on = in_use.1 (iff.1 has) in cc) c.remaining-since.ensures
      (elim c.if-in_use.branch [
        | then-in_use w ↦
            subst (λ o. IsLastUse (Operate slot chan ∷ calls) c.args.self.now.khz o) (sym w.used-is)
            (use_ends (Operate slot chan) calls c.args.self.now.khz c.args.now present.moment refl due (iff.0 (in_use.0 w.if-in_use.true)))
        | else-in_use w ↦
            let off = w.if-in_use.false in
            subst (λ o. IsLastUse (Operate slot chan ∷ calls) c.args.self.now.khz o) (sym w.used-is)
            (use_next (Operate slot chan) calls c.args.self.now.khz c.args.self.now.used (λ has. let on = in_use.1 (iff.1 has) in cc) is.used)
      ]) is;
}
