use Rattle.nl_attrs.proofs.Lengths.{length-attr_bytes}
use Rattle.nl_attrs.proofs.MsgLaws.{length-msg, words-msg, length_stated}
use Rattle.nl_attrs.proofs.ByteLaws.{AreBytes-attr, AreBytes-msg}
use Rattle.nl_attrs.proofs.laws.spelling_lengths.Goals as goal

pub returns-clause-message : goal.returns-clause-message
returns-clause-message c = AreBytes-msg

pub returns-clause-stated : goal.returns-clause-stated
returns-clause-stated c = length_stated

pub returns-clause-words : goal.returns-clause-words
returns-clause-words c = words-msg

pub returns-clause-least : goal.returns-clause-least
returns-clause-least c = length-msg

pub returns-clause-most : goal.returns-clause-most
returns-clause-most c m is = is.short

pub returns-clause-attr : goal.returns-clause-attr
returns-clause-attr c = AreBytes-attr

pub returns-clause-attr_words : goal.returns-clause-attr_words
returns-clause-attr_words c = length-attr_bytes
