use Rattle.line_forms.proofs.step.step.Goals as goal

pub returns-in-Bands : goal.returns-in-Bands
returns-in-Bands c = rw c.in-Bands.is c.by_profile.ensures

pub returns-in-Width : goal.returns-in-Width
returns-in-Width c = rw c.in-Width.is c.by_profile-in-Width.ensures

pub returns-in-RadarWidth : goal.returns-in-RadarWidth
returns-in-RadarWidth c = rw c.in-RadarWidth.is c.by_profile-in-RadarWidth.ensures

pub returns-in-MostPower : goal.returns-in-MostPower
returns-in-MostPower c = rw c.in-MostPower.is c.by_profile-in-MostPower.ensures

pub returns-in-Contexts : goal.returns-in-Contexts
returns-in-Contexts c = rw c.in-Contexts.is c.by_profile-in-Contexts.ensures

pub returns-in-Mhz : goal.returns-in-Mhz
returns-in-Mhz c = rw c.in-Mhz.is c.by_channel.ensures

pub returns-in-ChannelNo : goal.returns-in-ChannelNo
returns-in-ChannelNo c = rw c.in-ChannelNo.is c.by_channel-in-ChannelNo.ensures

pub returns-in-WordForm : goal.returns-in-WordForm
returns-in-WordForm c = rw c.in-WordForm.is c.by_channel-in-WordForm.ensures

pub returns-in-Twenty : goal.returns-in-Twenty
returns-in-Twenty c = rw c.in-Twenty.is c.by_channel-in-Twenty.ensures

pub returns-in-Wide : goal.returns-in-Wide
returns-in-Wide c = rw c.in-Wide.is c.by_channel-in-Wide.ensures

pub returns-in-Centre : goal.returns-in-Centre
returns-in-Centre c = rw c.in-Centre.is c.by_channel-in-Centre.ensures
