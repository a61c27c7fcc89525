-- Codes of domains.
use Rattle.std.specs.Prelude.{◌≡◌, ℕ, ◌+◌, ◌*◌, ◌≤◌, ◌==◌, ◌&&◌, ◌||◌, nat_le, ◌⊎◌, Bool}
use Rattle.rule_tables.specs.declared.code.Alpha2.{Alpha2}

-- a capital letter of ASCII
abbrev pub IsCapital : ℕ → Type 0
IsCapital b = (65 ≤ b) × (b ≤ 90)

-- two capital letters, or two digits 0
abbrev pub IsCode : Alpha2 → Type 0
IsCode c = (IsCapital c.a × IsCapital c.b) ⊎ ((c.a ≡ 48) × (c.b ≡ 48))

-- the same as tests
abbrev pub is_capital : ℕ → Bool
is_capital b = nat_le 65 b && nat_le b 90

-- both bytes may stand in a code: capitals, or `00`, as a test
abbrev pub is_code : ℕ → ℕ → Bool
is_code a b = (is_capital a && is_capital b) || (a == 48 && b == 48)

-- both codes have the same bytes, as a test
abbrev pub is_same_code : Alpha2 → Alpha2 → Bool
is_same_code one other = one.a == other.a && one.b == other.b

-- codes are ordered as their two bytes are
abbrev pub key : Alpha2 → ℕ
key c = c.a * 256 + c.b
