-- A word that looks like one for a slot and can't stand there is out of range.
use Rattle.std.proofs.Common.{◌≡◌, List, ℕ, true, refl}
use Rattle.line_forms.specs.Slots.{looks_like}
use Rattle.line_forms.specs.inner.Walking.{blame_of}
use Rattle.line_forms.specs.declared.slot.Slot.{Slot}
use Rattle.line_forms.specs.declared.slot.Slot.TheVariants.{Fixed, Moment, Radio, Bands as OfBands, Width as OfWidth, RadarWidth, MostPower, Contexts, Rules, Hex, Code, Mhz, ChannelNo, WordForm, Twenty, Wide, Centre, Name, OfKind, Power, Ssid, Interval, Dtim}
use Rattle.line_forms.specs.declared.walker.Blame.TheVariants.{OutOfRange}

pub looks-blame : (s : Slot) (w : List ℕ) → looks_like s w ≡ true → blame_of s w ≡ OutOfRange
looks-blame (Fixed a) w h = absurd cc
looks-blame Moment w h = rw h refl
looks-blame Radio w h = absurd cc
looks-blame OfBands w h = absurd cc
looks-blame OfWidth w h = rw h refl
looks-blame RadarWidth w h = rw h refl
looks-blame MostPower w h = rw h refl
looks-blame Contexts w h = rw h refl
looks-blame Rules w h = absurd cc
looks-blame Hex w h = absurd cc
looks-blame Code w h = absurd cc
looks-blame Mhz w h = rw h refl
looks-blame ChannelNo w h = rw h refl
looks-blame WordForm w h = rw h refl
looks-blame Twenty w h = rw h refl
looks-blame Wide w h = rw h refl
looks-blame Centre w h = rw h refl
looks-blame Name w h = absurd cc
looks-blame OfKind w h = absurd cc
looks-blame Power w h = rw h refl
looks-blame Ssid w h = absurd cc
looks-blame Interval w h = rw h refl
looks-blame Dtim w h = rw h refl
