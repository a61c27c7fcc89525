-- Kinds by their places in the list, and whether bytes are UTF-8.
use Rattle.std.proofs.Common.{◌≡◌, ℕ, ◌==◌, List, IsUtf8, refl, sym, ◌∙◌, ap, inl, inr, if◌then◌else◌}
use Rattle.std.specs.Str.{is_utf8}
use Rattle.std.proofs.lemmas.Bool.{cases_Bool}
use Rattle.std.proofs.lemmas.Str.{IsUtf8-from_is_utf8, is_utf8-from_IsUtf8}
use Rattle.freq_range.proofs.Deciding.{Told}
use Rattle.text_lines.specs.declared.fault.TextKind.{TextKind}
use Rattle.text_lines.specs.declared.fault.TextKind.TheVariants.{LineTooLong, NotUtf8, BadLine, NoBlock, BadCountry, BadRegion, RegionDiffers, BadBand, BadPower, BadFlag, FlagNotInVersion, NoWmm, BadWmm, WmmTwice, TooManyRules, WmmShort, NoRules}
use Rattle.text_lines.specs.LineFaults.{place_of_kind}

kind_at : ℕ → TextKind
kind_at n =
    if n == 1 then LineTooLong else if n == 2 then NotUtf8 else if n == 3 then BadLine else if n == 4 then NoBlock else if n == 5 then BadCountry
    else if n == 6 then BadRegion else if n == 7 then RegionDiffers else if n == 8 then BadBand else if n == 9 then BadPower
    else if n == 10 then BadFlag else if n == 11 then FlagNotInVersion else if n == 12 then NoWmm else if n == 13 then BadWmm
    else if n == 14 then WmmTwice else if n == 15 then TooManyRules else if n == 16 then WmmShort else NoRules

kind_back : (kind : TextKind) → kind_at (place_of_kind kind) ≡ kind
unfolding kind_at
kind_back LineTooLong = refl
kind_back NotUtf8 = refl
kind_back BadLine = refl
kind_back NoBlock = refl
kind_back BadCountry = refl
kind_back BadRegion = refl
kind_back RegionDiffers = refl
kind_back BadBand = refl
kind_back BadPower = refl
kind_back BadFlag = refl
kind_back FlagNotInVersion = refl
kind_back NoWmm = refl
kind_back BadWmm = refl
kind_back WmmTwice = refl
kind_back TooManyRules = refl
kind_back WmmShort = refl
kind_back NoRules = refl

pub same_place : (a b : TextKind) → place_of_kind a ≡ place_of_kind b → a ≡ b
same_place a b same = sym (kind_back a) ∙ ap kind_at same ∙ kind_back b

pub told_utf8 : (line : List ℕ) → Told (IsUtf8 line)
told_utf8 line = elim (cases_Bool (is_utf8 line)) [
  | inl is ↦ inl (IsUtf8-from_is_utf8 line is)
  | inr broken ↦ inr (λ utf8. let e = is_utf8-from_IsUtf8 line utf8 in cc)
]
