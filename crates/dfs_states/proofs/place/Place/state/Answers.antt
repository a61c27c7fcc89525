use Rattle.std.proofs.Common.{subst}
use Rattle.dfs_states.specs.Greatest.{IsMost}
use Rattle.dfs_states.specs.Meaning.{CheckStands}
use Rattle.dfs_states.proofs.Asked.{quiet_means}
use Rattle.dfs_states.proofs.Since.{remaining_most}
use Rattle.dfs_states.proofs.Whole.{operating_iff}
use Rattle.dfs_states.proofs.place.Place.state.Goals as goal

pub returns-in-Some-remaining : goal.returns-in-Some-remaining
returns-in-Some-remaining c = λ opening calls due present is.
    let iff = operating_iff c.args.operations.now calls c.args.self.now.khz present.operating in
    let in_use = c.some_operates_on-in_use.ensures in (
      quiet_means calls c.args.self.now.khz c.args.now c.args.self.now.until present.moment is.until c.in_default.ensures,
      subst (λ o. IsMost (CheckStands opening calls c.args.self.now.khz) o) c.in-Some-remaining.is
          (remaining_most opening calls c.args.now c.args.lasts c.some_operates_on-in_use.result c.args.self.now c.remaining.result present.moment present.region
          (λ on. iff.0 (in_use.0 on)) (λ off has. let on = in_use.1 (iff.1 has) in cc) c.remaining.ensures is),
    )

pub returns-in-None : goal.returns-in-None
returns-in-None c = λ opening calls due present is.
    let iff = operating_iff c.args.operations.now calls c.args.self.now.khz present.operating in
    let in_use = c.some_operates_on-in_use.ensures in (
      quiet_means calls c.args.self.now.khz c.args.now c.args.self.now.until present.moment is.until c.in_default.ensures,
      subst (λ o. IsMost (CheckStands opening calls c.args.self.now.khz) o) c.in-None.is
          (remaining_most opening calls c.args.now c.args.lasts c.some_operates_on-in_use.result c.args.self.now c.remaining.result present.moment present.region
          (λ on. iff.0 (in_use.0 on)) (λ off has. let on = in_use.1 (iff.1 has) in cc) c.remaining.ensures is),
    )
