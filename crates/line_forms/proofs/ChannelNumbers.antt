-- Which band the channel of a number is in.
use Rattle.std.proofs.Common.{ℕ, ◌<◌, ◌≤◌, inl, inr, Option, Some, None, arith}
use Rattle.std.specs.Prelude.{MatchOption}
use Rattle.freq_range.specs.Channels.{IsChannel, IsStepOfFour}
use Rattle.freq_range.specs.declared.channel.Band.TheVariants.{Ghz2, Ghz5}
use Rattle.line_forms.specs.Spelling.{HasChannelNumber}

step-least : (first last n : ℕ) → IsStepOfFour first last n → first ≤ n
step-least first last n h = h.from_first

ghz5-least : (n khz : ℕ) → IsChannel Ghz5 n khz → 36 ≤ n
ghz5-least n khz (inl one, at) = step-least 36 64 n one
ghz5-least n khz (inr (inl two), at) = let least = step-least 100 144 n two in omega arith
ghz5-least n khz (inr (inr three), at) = let least = step-least 149 177 n three in omega arith

ghz2-most : (n khz : ℕ) → IsChannel Ghz2 n khz → n ≤ 14
ghz2-most n khz (inl (some, few, at)) = omega arith
ghz2-most n khz (inr (is, at)) = omega arith

none-low : (n : ℕ) → n ≤ 14 → ((khz : ℕ) → IsChannel Ghz2 n khz → ⊥) → (khz : ℕ) → HasChannelNumber n khz → ⊥
none-low n low none khz (inl is) = none khz is
none-low n low none khz (inr is) = let least = ghz5-least n khz is in absurd (omega arith)

none-high : (n : ℕ) → 14 < n → ((khz : ℕ) → IsChannel Ghz5 n khz → ⊥) → (khz : ℕ) → HasChannelNumber n khz → ⊥
none-high n high none khz (inl is) = let most = ghz2-most n khz is in absurd (omega arith)
none-high n high none khz (inr is) = none khz is

pub numbered-low : (n : ℕ) (r : Option ℕ) → n ≤ 14 → MatchOption r ((khz : ℕ) → IsChannel Ghz2 n khz → ⊥) (λ khz. IsChannel Ghz2 n khz)
    → MatchOption r ((khz : ℕ) → HasChannelNumber n khz → ⊥) (λ khz. HasChannelNumber n khz)
numbered-low n None low none = none-low n low none
numbered-low n (Some khz) low is = inl is

pub numbered-high : (n : ℕ) (r : Option ℕ) → 14 < n → MatchOption r ((khz : ℕ) → IsChannel Ghz5 n khz → ⊥) (λ khz. IsChannel Ghz5 n khz)
    → MatchOption r ((khz : ℕ) → HasChannelNumber n khz → ⊥) (λ khz. HasChannelNumber n khz)
numbered-high n None high none = none-high n high none
numbered-high n (Some khz) high is = inr is
