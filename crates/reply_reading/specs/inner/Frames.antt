-- What a message has beside attributes and a head.
use Rattle.nl_attrs.specs.declared.message.Msg.{Msg}
use Rattle.nl_attrs.specs.declared.message.Msg.TheVariants.{Generic, Error, Done}
use Rattle.reply_reading.specs.inner.Compared.{IsRequestHead}
use Rattle.reply_reading.specs.declared.compare.Frame.{Frame}
use Rattle.reply_reading.specs.declared.compare.Frame.TheVariants as frames

abbrev pub frame_of : Msg → Frame
frame_of (Generic family flags seq pid cmd version attrs) = frames.Generic family flags seq pid cmd version
frame_of (Error flags seq pid code head) = frames.Error flags seq pid code
frame_of (Done flags seq pid code) = frames.Done flags seq pid code

-- the head that an Error message repeats is that of some request
abbrev pub RepeatsRequest : Msg → Type 0
RepeatsRequest (Generic family flags seq pid cmd version attrs) = Unit {0}
RepeatsRequest (Error flags seq pid code head) = IsRequestHead seq pid head
RepeatsRequest (Done flags seq pid code) = Unit {0}
