use Rattle.reg_core.proofs.Forecasts.{state_of_centre}
use Rattle.reg_core.proofs.forecast.state_on.Goals as goal

pub returns : goal.returns
returns c = λ db J r due keeps.
    state_of_centre db J r c.args.radio.now c.args.khz c.state.result due keeps c.len-channels.ensures.channels (c.state.ensures.answer _ _ _ keeps.book)
