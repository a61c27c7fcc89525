use Rattle.std.proofs.Common.{map}
use Rattle.chan_flags.specs.declared.record.Chan.{Chan}
use Rattle.reg_journal.specs.Applicable.{applies}
use Rattle.reg_books.specs.Calls.{calls_of, opening_of}
use Rattle.core_parts.proofs.RadarStates.{state_told, told_bound}
use Rattle.core_parts.proofs.radar.fails.Goals as goal

pub returns-then-is_bound : goal.returns-then-is_bound
returns-then-is_bound c = λ db J r rules covered.
    let domains = c.is_bound.ensures.domains (applies db J r) rules.radio_is.records (rules.there c.args.khz covered) (rules.ruled c.args.khz covered) in
    let answer = c.state.ensures.answer (map (λ (c : Chan). c.khz) c.args.radio.now.chans.chans) (opening_of db r) (calls_of db J r) rules.radio_is.book in
    let state = state_told db J r c.args.radio.now c.args.chan.now c.args.khz c.state.result rules (c.is_bound.ensures.record.0 c.if-is_bound.true) answer in
    told_bound db J r c.args.demand c.args.khz c.meets.result (domains.0 c.if-is_bound.true) (c.meets.ensures db J r c.args.khz state)

pub returns-else-is_bound : goal.returns-else-is_bound
returns-else-is_bound c = λ db J r rules covered.
    let domains = c.is_bound.ensures.domains (applies db J r) rules.radio_is.records (rules.there c.args.khz covered) (rules.ruled c.args.khz covered) in
    let unbound = c.if-is_bound.false in
    rw c.if-is_bound.false (λ bound. let told = domains.1 bound in absurd (cc (told, unbound)))
