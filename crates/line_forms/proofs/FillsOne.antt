-- A word at a slot tells one thing.
use Rattle.std.proofs.Common.{◌≡◌, ℕ, ◌*◌, ◌/◌, inl, inr, List, Option, Some, ap, ◌∙◌, sym, subst, arith}
use Rattle.std.proofs.lemmas.Option.{same_Some}
use Rattle.chan_def.specs.Covered.{width_khz}
use Rattle.chan_def.specs.declared.definition.ChanDef.{ChanDef}
use Rattle.chan_flags.specs.Profiles.{Abilities}
use Rattle.line_forms.specs.Slots.{ByChannel, ByProfile, Fills, FillsChannel, FillsProfile}
use Rattle.line_forms.specs.Spelling.{IsChannelWord, HasChannelNumber, noht}
use Rattle.line_forms.specs.Told.{Told, as_wide, round, tell_chan, tell_code, tell_kind, tell_moment, tell_power, tell_profile, tell_radio, with_bands, with_contexts, with_most_power, with_radar, with_width}
use Rattle.line_forms.specs.declared.slot.Slot.{Slot}
use Rattle.line_forms.specs.declared.slot.Slot.TheVariants.{Fixed, Moment, Radio, Bands as OfBands, Width as OfWidth, RadarWidth, MostPower, Contexts, Rules, Hex, Code, Mhz, ChannelNo, WordForm, Twenty, Wide, Centre, Name, OfKind, Power, Ssid, Interval, Dtim}
use Rattle.line_forms.proofs.NamedChannels.{word_form-one}

-- what one value gives is one
by_one : {A B : Type 0} (o : Option A) (f : A → B) (e e' : B) → (x : A) × (o ≡ Some x) × (e ≡ f x) → (y : A) × (o ≡ Some y) × (e' ≡ f y) → e ≡ e'
by_one o f e e' (x, is, gives) (y, is', gives') = gives ∙ ap f (same_Some x y (sym is ∙ is')) ∙ sym gives'

centre_one : (n khz khz' : ℕ) → HasChannelNumber n khz → HasChannelNumber n khz' → khz ≡ khz'
centre_one n khz khz' h h' = grind arith

channel_word-one : (w : List ℕ) (khz khz' : ℕ) → IsChannelWord w khz → IsChannelWord w khz' → khz ≡ khz'
channel_word-one w khz khz' h h' =
    let same : h.number ≡ h'.number = same_Some h.number h'.number (sym h.spelled ∙ h'.spelled) in
    centre_one h'.number khz khz' (subst (λ n. HasChannelNumber n khz) same h.centre) h'.centre

pub channel-one : (s : Slot) (c : ChanDef) (w : List ℕ) (x y : ChanDef) → FillsChannel s c w x → FillsChannel s c w y → x ≡ y
channel-one Mhz c w x y h h' = by_one _ (λ n. noht (1000 * n)) x y h h'
channel-one ChannelNo c w x y (khz, is, gives) (khz', is', gives') = gives ∙ ap noht (channel_word-one w khz khz' is is') ∙ sym gives'
channel-one WordForm c w x y h h' = word_form-one c.control_khz w x y h h'
channel-one Twenty c w x y h h' = h.1 ∙ sym h'.1
channel-one Wide c w x y h h' = by_one _ (λ width. as_wide width c) x y h h'
channel-one Centre c w x y h h' = by_one _ (λ n. round n c) x y h h'
channel-one s c w x y h h' = absurd h

pub profile-one : (s : Slot) (p : Abilities) (w : List ℕ) (x y : Abilities) → FillsProfile s p w x → FillsProfile s p w y → x ≡ y
profile-one OfBands p w x y h h' = by_one _ (λ bands. with_bands bands p) x y h h'
profile-one OfWidth p w x y h h' = by_one _ (λ width. with_width (width_khz width / 1000) p) x y h h'
profile-one RadarWidth p w x y (inl h) (inl h') = h.1 ∙ sym h'.1
profile-one RadarWidth p w x y (inl h) (inr h') = absurd (h'.0 h.0)
profile-one RadarWidth p w x y (inr h) (inl h') = absurd (h.0 h'.0)
profile-one RadarWidth p w x y (inr (unlike, width, is, gives)) (inr (unlike', width', is', gives')) =
    by_one _ (λ width. with_radar (width_khz width / 1000) p) x y (width, is, gives) (width', is', gives')
profile-one MostPower p w x y h h' = by_one _ (λ n. with_most_power n p) x y h h'
profile-one Contexts p w x y h h' = by_one _ (λ n. with_contexts n p) x y h h'
profile-one s p w x y h h' = absurd h

by_channel-one : (s : Slot) (d : Told) (w : List ℕ) (e e' : Told) → ByChannel s d w e → ByChannel s d w e' → e ≡ e'
by_channel-one s d w e e' (x, is, gives) (y, is', gives') = gives ∙ ap (λ c. tell_chan c d) (channel-one s d.chan w x y is is') ∙ sym gives'

by_profile-one : (s : Slot) (d : Told) (w : List ℕ) (e e' : Told) → ByProfile s d w e → ByProfile s d w e' → e ≡ e'
by_profile-one s d w e e' (x, is, gives) (y, is', gives') = gives ∙ ap (λ p. tell_profile p d) (profile-one s d.profile w x y is is') ∙ sym gives'

pub fills-one : (s : Slot) (d : Told) (w : List ℕ) (e e' : Told) → Fills s d w e → Fills s d w e' → e ≡ e'
fills-one (Fixed a) d w e e' h h' = h.1 ∙ sym h'.1
fills-one Moment d w e e' h h' = by_one _ (λ n. tell_moment n d) e e' h h'
fills-one Radio d w e e' h h' = by_one _ (λ n. tell_radio n d) e e' h h'
fills-one OfBands d w e e' h h' = by_profile-one OfBands d w e e' h h'
fills-one OfWidth d w e e' h h' = by_profile-one OfWidth d w e e' h h'
fills-one RadarWidth d w e e' h h' = by_profile-one RadarWidth d w e e' h h'
fills-one MostPower d w e e' h h' = by_profile-one MostPower d w e e' h h'
fills-one Contexts d w e e' h h' = by_profile-one Contexts d w e e' h h'
fills-one Rules d w e e' h h' = absurd h
fills-one Hex d w e e' h h' = h.1 ∙ sym h'.1
fills-one Code d w e e' h h' = by_one _ (λ n. tell_code n d) e e' h h'
fills-one Mhz d w e e' h h' = by_channel-one Mhz d w e e' h h'
fills-one ChannelNo d w e e' h h' = by_channel-one ChannelNo d w e e' h h'
fills-one WordForm d w e e' h h' = by_channel-one WordForm d w e e' h h'
fills-one Twenty d w e e' h h' = by_channel-one Twenty d w e e' h h'
fills-one Wide d w e e' h h' = by_channel-one Wide d w e e' h h'
fills-one Centre d w e e' h h' = by_channel-one Centre d w e e' h h'
fills-one Name d w e e' h h' = h.1 ∙ sym h'.1
fills-one OfKind d w e e' h h' = by_one _ (λ n. tell_kind n d) e e' h h'
fills-one Power d w e e' h h' = by_one _ (λ n. tell_power n d) e e' h h'
fills-one Ssid d w e e' h h' = h.1 ∙ sym h'.1
fills-one Interval d w e e' h h' = h.1 ∙ sym h'.1
fills-one Dtim d w e e' h h' = h.1 ∙ sym h'.1
