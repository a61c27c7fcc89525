use Rattle.reply_reading.proofs.ChannelsAgain.{channel_again}
use Rattle.reply_reading.proofs.channels.channel_in.Goals as goal

pub returns : goal.returns
returns c = λ r shown is e.
    rw (c.khz_of-khz.ensures, c.from.ensures)
    (channel_again r c.number_at.result shown c.args.attrs.now c.fit_in.result c.dfs_in-2.result is e (rw c.attrs_from-more.ensures at c.if-more-le2.false) c.number_at.ensures
    (rw c.attrs_from-more.ensures at c.fit_in.ensures) (rw (c.attrs_from.ensures, c.attrs_from-more.ensures) at c.dfs_in-2.ensures))
