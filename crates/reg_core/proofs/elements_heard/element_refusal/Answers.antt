use Rattle.std.proofs.Common.{subst}
use Rattle.reg_hints.specs.Element.{IsElementFault}
use Rattle.reg_core.proofs.ElementSteps.{letters_refused, odd_refused, short_refused}
use Rattle.reg_core.proofs.elements_heard.element_refusal.Goals as goal

pub returns-in-Short : goal.returns-in-Short
returns-in-Short c = λ body is. short_refused body c.in-Short.bytes (subst (IsElementFault body) c.in-Short.is is)

pub returns-in-Odd : goal.returns-in-Odd
returns-in-Odd c = λ body is. odd_refused body c.in-Odd.bytes (subst (IsElementFault body) c.in-Odd.is is)

pub returns-in-NotLetters : goal.returns-in-NotLetters
returns-in-NotLetters c = λ body is. letters_refused body (subst (IsElementFault body) c.in-NotLetters.is is)
