-- The words of iw for the channel round a control channel.
use Rattle.std.specs.Prelude.{◌≡◌, ℕ, ◌+◌, ◌^◌, ◌<◌, List, [], ◌∷◌, Contains, codes}
use Rattle.chan_def.specs.Covered.{width_khz, IsInside}
use Rattle.chan_def.specs.declared.definition.ChanDef.{ChanDef}
use Rattle.chan_def.specs.declared.iw_word.IwWord.{IwWord}
use Rattle.chan_def.specs.declared.iw_word.IwWord.TheVariants.{WithoutHt, Ht20, Ht40Plus, Ht40Minus, Vht80, Vht160}
use Rattle.chan_def.specs.declared.width.Width.{Width}
use Rattle.chan_def.specs.declared.width.Width.TheVariants.{Noht, W20, W40, W80, W160}

-- how the word is spelled
abbrev pub spelling : IwWord → List ℕ
spelling WithoutHt = codes "NOHT"
spelling Ht20 = codes "HT20"
spelling Ht40Plus = codes "HT40+"
spelling Ht40Minus = codes "HT40-"
spelling Vht80 = codes "80MHz"
spelling Vht160 = codes "160MHz"

-- the width that the word gives the channel
abbrev pub width_of : IwWord → Width
width_of WithoutHt = Noht
width_of Ht20 = W20
width_of Ht40Plus = W40
width_of Ht40Minus = W40
width_of Vht80 = W80
width_of Vht160 = W160

-- the centres, in kHz, of the blocks of 80 MHz and of 160 MHz
abbrev pub blocks_80 : List ℕ
blocks_80 = 5210000 ∷ 5290000 ∷ 5530000 ∷ 5610000 ∷ 5690000 ∷ 5775000 ∷ []

-- the centres, in kHz, of the blocks of 160 MHz
abbrev pub blocks_160 : List ℕ
blocks_160 = 5250000 ∷ 5570000 ∷ []

-- where the word puts the centre of a channel with this control channel, both in kHz
abbrev pub IsCentreByWord : IwWord → ℕ → ℕ → Type 0
IsCentreByWord WithoutHt control centre = centre ≡ control
IsCentreByWord Ht20 control centre = centre ≡ control
IsCentreByWord Ht40Plus control centre = centre ≡ control + 10000
IsCentreByWord Ht40Minus control centre = centre + 10000 ≡ control
IsCentreByWord Vht80 control centre = Contains blocks_80 centre
IsCentreByWord Vht160 control centre = Contains blocks_160 centre

-- the word puts the centre there, the channel covers the control channel, and the centre is a u32
pub record GivesCentre (word : IwWord) (control centre : ℕ) : Type 0 where
  pub placed : IsCentreByWord word control centre
  pub covers_control : IsInside (width_khz (width_of word)) centre control
  pub fits : centre < 2 ^ 32

-- the channel is the one that a word, spelled so, gives this control channel
pub record IsNamedBy (control : ℕ) (text : List ℕ) (c : ChanDef) : Type 0 where
  pub word : IwWord
  pub spelled : text ≡ spelling word
  pub same_control : c.control_khz ≡ control
  pub as_wide : c.width ≡ width_of word
  pub there : GivesCentre word control c.centre_khz
