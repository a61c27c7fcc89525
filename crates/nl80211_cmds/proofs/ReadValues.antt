-- What isn't read isn't told.
use Rattle.std.proofs.Common.{◌≡◌, ℕ, ◌+◌, ◌*◌, List, [], ◌∷◌, Bool, Option, None, Some, sym, ap, subst, ◌∙◌, arith}
use Rattle.std.specs.Prelude.{IfSome, IsSomeAnd, MatchOption}
use Rattle.rule_tables.specs.declared.code.Alpha2.{Alpha2}
use Rattle.chan_def.specs.declared.definition.ChanDef.{ChanDef}
use Rattle.chan_def.specs.declared.width.Width.{Width}
use Rattle.chan_def.specs.declared.width.Width.TheVariants.{Noht}
use Rattle.chan_flags.specs.Profiles.{Abilities, abilities, IsProfile}
use Rattle.chan_flags.specs.declared.profile.Bands.{Bands}
use Rattle.radio_drv.specs.Names.{IsName}
use Rattle.nl_attrs.specs.Payloads.{Tells}
use Rattle.nl_attrs.specs.declared.attr.Attr.{Attr}
use Rattle.nl80211_cmds.specs.Values.{band_bits, bit_of, payload_of, TellsNumber, TellsName, TellsCode, TellsWidth, TellsCentre, TellsChan, TellsAbilities, TellsProfile}
use Rattle.nl80211_cmds.specs.declared.attribute.TheConstants.{BANDS, WIDTH_MHZ, RADAR_MHZ, POWER, CONTEXTS, PROFILE_FLAGS}
use Rattle.nl80211_cmds.proofs.OneValue.{same_text, one_number, one_width, one_chan, one_abilities}

-- ---- texts

told_text : (payload : Option (List ℕ)) (p text : List ℕ) → payload ≡ Some p → IsSomeAnd payload (λ q. Tells q text) → Tells p text
told_text payload p text e told = let P : Option (List ℕ) → Type 0 = λ o. IsSomeAnd o (λ q. Tells q text) in subst P e told

pub no_text_name : (payload : Option (List ℕ)) (p name : List ℕ) → payload ≡ Some p → ((text : List ℕ) → Tells p text → ⊥) → TellsName payload name → ⊥
no_text_name payload p name e none tells = none name (told_text payload p name e tells.told)

pub no_name : (payload : Option (List ℕ)) (p text name : List ℕ) → payload ≡ Some p → Tells p text → (IsName text → ⊥) → TellsName payload name → ⊥
no_name payload p text name e is isnt tells =
    let P : List ℕ → Type 0 = IsName in
    isnt (subst P (same_text p name text (told_text payload p name e tells.told) is) tells.is)

pub no_text_code : (payload : Option (List ℕ)) (p : List ℕ) (code : Alpha2) → payload ≡ Some p → ((text : List ℕ) → Tells p text → ⊥) → TellsCode payload code → ⊥
no_text_code payload p code e none tells = none (code.a ∷ code.b ∷ []) (told_text payload p (code.a ∷ code.b ∷ []) e tells.told)

-- ---- channels

pub no_centre : (frequency width centre : Option (List ℕ)) (v : Width) (mhz : ℕ) (c : ChanDef) → TellsNumber frequency 1 100000 mhz → TellsWidth width v → ((n : ℕ) → TellsCentre centre v mhz n → ⊥) → TellsChan frequency width centre c → ⊥
no_centre frequency width centre v mhz c number is none tells =
    let P : Width → Type 0 = λ w. TellsCentre centre w tells.mhz tells.centre_mhz in
    let Q : ℕ → Type 0 = λ n. TellsCentre centre v n tells.centre_mhz in
    none tells.centre_mhz (subst Q (one_number frequency 1 100000 tells.mhz mhz (omega arith) tells.frequency_is number) (subst P (one_width width c.width v tells.width_is is) tells.centre_is))

pub no_plain : (frequency width centre : Option (List ℕ)) (c d : ChanDef) → TellsChan frequency width centre c → (c.width ≡ Noht → ⊥) → TellsChan frequency width centre d → d.width ≡ Noht → ⊥
no_plain frequency width centre c d one isnt two noht = isnt (ap (λ (x : ChanDef). x.width) (one_chan frequency width centre c d one two) ∙ noht)

-- ---- profiles

pub made_profile : (attrs : List Attr) (r : Option Abilities) (bands : Bands) (bits w radar power contexts flags : ℕ) (self deaf : Bool) → band_bits bands ≡ bits → bit_of self + 2 * bit_of deaf ≡ flags
    → TellsNumber (payload_of BANDS attrs) 0 7 bits → TellsNumber (payload_of WIDTH_MHZ attrs) 0 65535 w → TellsNumber (payload_of RADAR_MHZ attrs) 0 65535 radar
    → TellsNumber (payload_of POWER attrs) 0 65535 power → TellsNumber (payload_of CONTEXTS attrs) 0 255 contexts → TellsNumber (payload_of PROFILE_FLAGS attrs) 0 3 flags
    → MatchOption r (IsProfile (abilities bands w radar power contexts self deaf) → ⊥) (λ p. p ≡ abilities bands w radar power contexts self deaf) → IfSome r IsProfile
    → MatchOption r ((p : Abilities) → TellsProfile attrs p → ⊥) (λ p. TellsProfile attrs p)
made_profile attrs None bands bits w radar power contexts flags self deaf bits_is flags_is a b c d e f none valid =
    let made : TellsAbilities attrs (abilities bands w radar power contexts self deaf) = record { bands = rw bits_is a; width = b; radar = c; power = d; contexts = e; flags = rw flags_is f } in
    let P : Abilities → Type 0 = IsProfile in
    λ p tells. none (subst P (one_abilities attrs p (abilities bands w radar power contexts self deaf) tells.numbers made) tells.allowed)
made_profile attrs (Some p) bands bits w radar power contexts flags self deaf bits_is flags_is a b c d e f is valid =
    let made : TellsAbilities attrs (abilities bands w radar power contexts self deaf) = record { bands = rw bits_is a; width = b; radar = c; power = d; contexts = e; flags = rw flags_is f } in
    let P : Abilities → Type 0 = TellsAbilities attrs in
    record { numbers = subst P (sym is) made; allowed = valid }
