use Rattle.reply_reading.proofs.PartsAgain.{profile_again, profile_found, widths_fit}
use Rattle.reply_reading.proofs.radios.profile_in.Goals as goal

pub returns : goal.returns
returns c = λ p more is e.
    let widths = widths_fit p is in
    let same = profile_again p more c.args.held.now c.number_at.result c.number_at-2.result c.number_at-3.result c.number_at-4.result c.number_at-5.result c.number_at-flags.result is widths.0 widths.1 e
    c.number_at.ensures c.number_at-2.ensures c.number_at-3.ensures c.number_at-4.ensures c.number_at-5.ensures c.number_at-flags.ensures in
    let match = rw (c.bands_numbered.ensures, c.narrow16.ensures, c.from.ensures, c.narrow16-2.ensures, c.from-2.ensures, c.narrow16-3.ensures, c.from-3.ensures, c.narrow8.ensures, c.from-4.ensures) at c.new.ensures.profile in
    profile_found c.new.result p _ same is match
