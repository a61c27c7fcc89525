use Rattle.nl80211_cmds.proofs.Again.{asked_again}
use Rattle.nl80211_cmds.proofs.LineAsked.{line_asked}
use Rattle.nl80211_cmds.proofs.Meanings.{one_request, unsupported}
use Rattle.nl80211_cmds.proofs.laws.one_request.Goals as goal

pub returns-clause-one : goal.returns-clause-one
returns-clause-one c = one_request

pub returns-clause-none : goal.returns-clause-none
returns-clause-none c = unsupported

pub returns-clause-again : goal.returns-clause-again
returns-clause-again c = asked_again

pub returns-clause-line : goal.returns-clause-line
returns-clause-line c = line_asked
