use Rattle.iw_commands.proofs.refusal_printer.put_refusal.Goals as goal

pub returns-in-NoInterface-clause-text : goal.returns-in-NoInterface-clause-text
returns-in-NoInterface-clause-text c = rw (c.in-NoInterface.is, ← c.as_bytes.ensures.bytes) c.put_labelled.ensures.text

pub returns-in-BadChannel-clause-text : goal.returns-in-BadChannel-clause-text
returns-in-BadChannel-clause-text c = rw c.in-BadChannel.is c.put_text-in-BadChannel.ensures.text

pub returns-in-RadioLacks-clause-text : goal.returns-in-RadioLacks-clause-text
returns-in-RadioLacks-clause-text c = rw c.in-RadioLacks.is c.put_mhz.ensures.text

pub returns-in-RadioLacksWidth-clause-text : goal.returns-in-RadioLacksWidth-clause-text
returns-in-RadioLacksWidth-clause-text c = rw c.in-RadioLacksWidth.is (rw c.from.ensures at c.put_number-in-RadioLacksWidth.ensures.text)

pub returns-in-RadioLacksContext-clause-text : goal.returns-in-RadioLacksContext-clause-text
returns-in-RadioLacksContext-clause-text c = rw c.in-RadioLacksContext.is (rw c.from-in-RadioLacksContext.ensures at c.put_number-in-RadioLacksContext.ensures.text)

pub returns-in-NoOutdoor-clause-text : goal.returns-in-NoOutdoor-clause-text
returns-in-NoOutdoor-clause-text c = rw c.in-NoOutdoor.is c.put_mhz-in-NoOutdoor.ensures.text

pub returns-in-RadioLacksRadarWidth-clause-text : goal.returns-in-RadioLacksRadarWidth-clause-text
returns-in-RadioLacksRadarWidth-clause-text c = rw c.in-RadioLacksRadarWidth.is (rw c.from-in-RadioLacksRadarWidth.ensures at c.put_number-in-RadioLacksRadarWidth.ensures.text)

pub returns-in-DriverFailed-clause-text : goal.returns-in-DriverFailed-clause-text
returns-in-DriverFailed-clause-text c = rw c.in-DriverFailed.is c.put_text-in-DriverFailed.ensures.text

pub returns-in-NotRunning-clause-text : goal.returns-in-NotRunning-clause-text
returns-in-NotRunning-clause-text c = rw c.in-NotRunning.is c.put_text-in-NotRunning.ensures.text

pub returns-in-TooManyRules-clause-text : goal.returns-in-TooManyRules-clause-text
returns-in-TooManyRules-clause-text c = rw c.in-TooManyRules.is c.put_number-in-TooManyRules.ensures.text

pub returns-in-ElementShort-clause-text : goal.returns-in-ElementShort-clause-text
returns-in-ElementShort-clause-text c = rw c.in-ElementShort.is c.put_number-in-ElementShort.ensures.text
