use Rattle.std.proofs.Common.{◌%◌, slice_index_or}
use Rattle.text_lines.proofs.Milliwatts.{known_power}
use Rattle.text_lines.proofs.known_powers.KnownPowers.mbm.Goals as goal

pub returns-then-known-milliwatts : goal.returns-then-known-milliwatts
returns-then-known-milliwatts c =
    let known = slice_index_or c.args.self.now.powers (c.args.milliwatts % 61) c.index-self-place.result in
    known_power c.args.milliwatts known.milliwatts known.mbm c.if-known-milliwatts.true (record { least = c.requires.least; most = c.requires.most }) known.known
