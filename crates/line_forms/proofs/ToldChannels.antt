-- What is known of the channel that the words of a line tell.
use Rattle.std.proofs.Common.{◌≡◌, ◌≢◌, ℕ, ◌*◌, ◌%◌, ◌≤◌, zero, suc, Bool, true, false, ◌&&◌, List, Contains, Option, Some, None, refl, ◌∙◌, sym, subst, arith}
use Rattle.std.specs.Prelude.{codes, nat_le, if◌then◌else◌}
use Rattle.std.proofs.lemmas.Bool.{and_parts, leb-true}
use Rattle.std.proofs.lemmas.Option.{cond_some, same_Some}
use Rattle.chan_def.specs.Words.{IsCentreByWord, blocks_160, blocks_80, width_of}
use Rattle.chan_def.specs.declared.definition.ChanDef.{ChanDef}
use Rattle.chan_def.specs.declared.iw_word.IwWord.{IwWord}
use Rattle.chan_def.specs.declared.iw_word.IwWord.TheVariants.{WithoutHt, Ht20, Ht40Plus, Ht40Minus, Vht80, Vht160}
use Rattle.chan_def.specs.declared.width.Width.{Width}
use Rattle.chan_def.specs.declared.width.Width.TheVariants.{Noht, W20, W40, W80, W160, W320}
use Rattle.reg_base.specs.Texts.{same_bytes}
use Rattle.reg_journal.specs.Forms.{IsLineChannel, IsLineFrequency}
use Rattle.line_forms.specs.Slots.{FillsChannel}
use Rattle.line_forms.specs.Spelling.{HasChannelNumber, IsWordForm, between, noht, number_of_word, number_within, width_of_word}
use Rattle.line_forms.specs.Told.{as_wide, round, twenty}
use Rattle.line_forms.specs.declared.slot.Slot.{Slot}
use Rattle.line_forms.specs.declared.slot.Slot.TheVariants.{Mhz, ChannelNo, WordForm, Twenty, Wide, Centre}
use Rattle.line_forms.proofs.Steps.{bind_some}

-- ---- what is known of the channel

-- not told; told without a width; with a width above Noht that may lack its centre; told
pub data ToldChannel : Type 0 where
  Untold : ToldChannel
  Plain : ToldChannel
  Wider : ToldChannel
  Named : ToldChannel

abbrev pub IsKnown : ToldChannel → ChanDef → Type 0
IsKnown Untold c = Unit {0}
IsKnown Plain c = IsLineChannel c × (c.width ≡ Noht)
IsKnown Wider c = IsLineChannel c × (c.width ≢ Noht)
IsKnown Named c = IsLineChannel c

abbrev pub by_word : ToldChannel → ToldChannel
by_word Untold = Untold
by_word Plain = Named
by_word Wider = Named
by_word Named = Named

abbrev pub by_width : ToldChannel → ToldChannel
by_width Untold = Untold
by_width Plain = Wider
by_width Wider = Wider
by_width Named = Wider

abbrev pub by_centre : ToldChannel → ToldChannel
by_centre Wider = Named
by_centre k = Untold

-- what is known behind a word at the slot
abbrev pub known_after : Slot → ToldChannel → ToldChannel
known_after Mhz k = Plain
known_after ChannelNo k = Plain
known_after WordForm k = by_word k
known_after Twenty k = by_width k
known_after Wide k = by_width k
known_after Centre k = by_centre k
known_after s k = k

-- ---- parts of a channel

within : (least most n m : ℕ) → between least most n ≡ Some m → (least ≤ m) × (m ≤ most)
within least most n m e =
    let c = cond_some (nat_le least n && nat_le n most) n m e in
    let p = and_parts (nat_le least n) (nat_le n most) c.0 in
    (rw (← c.1) (leb-true least n p.0), rw (← c.1) (leb-true n most p.1))

pub in_bounds : (least most : ℕ) (w : List ℕ) (n : ℕ) → number_within least most w ≡ Some n → (least ≤ n) × (n ≤ most)
unfolding number_within
in_bounds least most w n e =
    let b = bind_some (number_of_word w) (λ m. between least most m) n e in
    within least most b.0 n b.2

frequency : (n : ℕ) → 1 ≤ n → n ≤ 100000 → IsLineFrequency (1000 * n)
frequency n some few = record { whole = omega arith; least = omega arith; most = omega arith }

plain-channel : (khz : ℕ) → IsLineFrequency khz → IsLineChannel (noht khz)
plain-channel khz is = record { control = is; centre = is; alone = λ e. refl }

numbered : (n khz : ℕ) → HasChannelNumber n khz → IsLineFrequency khz
numbered n khz h = record { whole = grind arith; least = grind arith; most = grind arith }

same-width : (v w : Width) → Some v ≡ Some w → v ≡ w
same-width v w e = same_Some v w e

otherwise : (b : Bool) (v : Width) (o : Option Width) → v ≢ Noht → (o ≡ Some Noht → ⊥) → (if b then Some v else o) ≡ Some Noht → ⊥
otherwise true v o differ rest e = differ (same-width v Noht e)
otherwise false v o differ rest e = rest e

never-noht : (w : List ℕ) → width_of_word w ≡ Some Noht → ⊥
unfolding width_of_word
never-noht w =
    otherwise (same_bytes w (codes "20")) W20 _ (λ e. absurd cc)
    (otherwise (same_bytes w (codes "40")) W40 _ (λ e. absurd cc)
    (otherwise (same_bytes w (codes "80")) W80 _ (λ e. absurd cc)
    (otherwise (same_bytes w (codes "160")) W160 _ (λ e. absurd cc)
    (otherwise (same_bytes w (codes "320")) W320 None (λ e. absurd cc) (λ e. absurd cc)))))

wide-width : (w : List ℕ) (width : Width) → width_of_word w ≡ Some width → width ≢ Noht
wide-width w width e = λ same. never-noht w (subst (λ x. width_of_word w ≡ Some x) same e)

-- ---- words of iw

block-80 : (centre : ℕ) → Contains blocks_80 centre → centre % 1000 ≡ 0
block-80 centre (zero, lt, e) = omega (arith, e)
block-80 centre (suc zero, lt, e) = omega (arith, e)
block-80 centre (suc (suc zero), lt, e) = omega (arith, e)
block-80 centre (suc (suc (suc zero)), lt, e) = omega (arith, e)
block-80 centre (suc (suc (suc (suc zero))), lt, e) = omega (arith, e)
block-80 centre (suc (suc (suc (suc (suc zero)))), lt, e) = omega (arith, e)
block-80 centre (suc (suc (suc (suc (suc (suc k))))), lt, e) = absurd (omega arith)

block-160 : (centre : ℕ) → Contains blocks_160 centre → centre % 1000 ≡ 0
block-160 centre (zero, lt, e) = omega (arith, e)
block-160 centre (suc zero, lt, e) = omega (arith, e)
block-160 centre (suc (suc k), lt, e) = absurd (omega arith)

whole-centre : (word : IwWord) (control centre : ℕ) → control % 1000 ≡ 0 → IsCentreByWord word control centre → centre % 1000 ≡ 0
whole-centre WithoutHt control centre whole e = omega (arith, whole, e)
whole-centre Ht20 control centre whole e = omega (arith, whole, e)
whole-centre Ht40Plus control centre whole e = omega (arith, whole, e)
whole-centre Ht40Minus control centre whole e = omega (arith, whole, e)
whole-centre Vht80 control centre whole e = block-80 centre e
whole-centre Vht160 control centre whole e = block-160 centre e

alone-by : (word : IwWord) (control centre : ℕ) → IsCentreByWord word control centre → width_of word ≡ Noht → centre ≡ control
alone-by WithoutHt control centre e none = e
alone-by Ht20 control centre e none = absurd cc
alone-by Ht40Plus control centre e none = absurd cc
alone-by Ht40Minus control centre e none = absurd cc
alone-by Vht80 control centre e none = absurd cc
alone-by Vht160 control centre e none = absurd cc

by-iw-word : (control : ℕ) (w : List ℕ) (x : ChanDef) → IsLineFrequency control → IsWordForm control w x → IsLineChannel x
by-iw-word control w x is h =
    let named = h.named in
    record {
      control = subst IsLineFrequency (sym named.same_control) is;
      centre = record { whole = whole-centre named.word control x.centre_khz is.whole named.there.placed; least = h.some; most = h.few };
      alone = λ none. alone-by named.word control x.centre_khz named.there.placed (sym named.as_wide ∙ none) ∙ sym named.same_control;
    }

-- ---- a word at a slot for a channel

known : (k : ToldChannel) (c : ChanDef) → k ≢ Untold → IsKnown k c → IsLineChannel c
known Untold c some is = absurd (some refl)
known Plain c some is = is.0
known Wider c some is = is.0
known Named c some is = is

as-word : (k : ToldChannel) (c : ChanDef) (w : List ℕ) (x : ChanDef) → IsKnown k c → IsWordForm c.control_khz w x → IsKnown (by_word k) x
as-word Untold c w x is h = tt
as-word Plain c w x is h = by-iw-word c.control_khz w x is.0.control h
as-word Wider c w x is h = by-iw-word c.control_khz w x is.0.control h
as-word Named c w x is h = by-iw-word c.control_khz w x is.control h

wider : (c : ChanDef) (width : Width) → width ≢ Noht → IsLineChannel c → IsKnown Wider (as_wide width c)
wider c width some is = (record { control = is.control; centre = is.centre; alone = λ e. absurd (some e) }, some)

as-width : (k : ToldChannel) (c : ChanDef) (width : Width) → width ≢ Noht → IsKnown k c → IsKnown (by_width k) (as_wide width c)
as-width Untold c width some is = tt
as-width Plain c width some is = wider c width some is.0
as-width Wider c width some is = wider c width some is.0
as-width Named c width some is = wider c width some is

twice : (c : ChanDef) → IsLineChannel c → IsKnown Wider (twenty c)
twice c is = (record { control = is.control; centre = is.control; alone = λ e. absurd cc }, λ e. absurd cc)

as-twenty : (k : ToldChannel) (c : ChanDef) → IsKnown k c → IsKnown (by_width k) (twenty c)
as-twenty Untold c is = tt
as-twenty Plain c is = twice c is.0
as-twenty Wider c is = twice c is.0
as-twenty Named c is = twice c is

as-centre : (k : ToldChannel) (c : ChanDef) (n : ℕ) → 1 ≤ n → n ≤ 100000 → IsKnown k c → IsKnown (by_centre k) (round n c)
as-centre Untold c n some few is = tt
as-centre Plain c n some few is = tt
as-centre Wider c n some few is = record { control = is.0.control; centre = frequency n some few; alone = λ e. absurd (is.1 e) }
as-centre Named c n some few is = tt

pub channel-known : (s : Slot) (k : ToldChannel) (c : ChanDef) (w : List ℕ) (x : ChanDef) → IsKnown k c → FillsChannel s c w x → IsKnown (known_after s k) x
channel-known Mhz k c w x is (n, number, e) =
    let b = in_bounds 1 100000 w n number in
    subst (IsKnown Plain) (sym e) (plain-channel (1000 * n) (frequency n b.0 b.1), refl)
channel-known ChannelNo k c w x is (khz, word, e) = subst (IsKnown Plain) (sym e) (plain-channel khz (numbered word.number khz word.centre), refl)
channel-known WordForm k c w x is h = as-word k c w x is h
channel-known Twenty k c w x is (word, e) = subst (IsKnown (by_width k)) (sym e) (as-twenty k c is)
channel-known Wide k c w x is (width, word, e) = subst (IsKnown (by_width k)) (sym e) (as-width k c width (wide-width w width word) is)
channel-known Centre k c w x is (n, number, e) =
    let b = in_bounds 1 100000 w n number in
    subst (IsKnown (by_centre k)) (sym e) (as-centre k c n b.0 b.1 is)
channel-known s k c w x is h = absurd h
