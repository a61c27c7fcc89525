use Rattle.chan_def.proofs.Blocks.{centre-80, centre-160}
use Rattle.chan_def.proofs.iw_word.centre_by.Goals as goal

pub returns-in-Vht80 : goal.returns-in-Vht80
returns-in-Vht80 c =
    rw c.in-Vht80.is (centre-80 _ _ c.block_round.ensures.covering c.block_round.ensures.fits)

pub returns-in-Vht160 : goal.returns-in-Vht160
returns-in-Vht160 c =
    rw c.in-Vht160.is (centre-160 _ _ c.block_round-in-Vht160.ensures.covering c.block_round-in-Vht160.ensures.fits)
