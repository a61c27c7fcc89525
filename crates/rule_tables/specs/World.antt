-- Domains and codes that no database has to have: the world's, that of custom rules, and the code of several domains.
use Rattle.std.specs.Prelude.{ℕ, Bool, true, false, List, [], ◌∷◌, None}
use Rattle.freq_range.specs.declared.flags.RuleFlags.{RuleFlags}
use Rattle.freq_range.specs.declared.rule.Rule.{Rule}
use Rattle.rule_tables.specs.declared.code.Alpha2.{Alpha2}
use Rattle.rule_tables.specs.declared.code.Region.TheVariants.{Unset}
use Rattle.rule_tables.specs.declared.domain.Domain.{Domain}

-- the code of the world's domain, `00`
abbrev pub world : Alpha2
world = record { a = 48; b = 48 }

-- the code of custom rules, `99`
abbrev pub custom_code : Alpha2
custom_code = record { a = 57; b = 57 }

-- the code of several domains together, `98`
abbrev pub joined_code : Alpha2
joined_code = record { a = 57; b = 56 }

-- a rule of the world's domain, of 20 dBm
abbrev pub world_rule : ℕ → ℕ → ℕ → RuleFlags → Rule
world_rule start end width flags = record { start_khz = start; end_khz = end; max_bw_khz = width; flags = flags; eirp_mbm = 2000; cac_s = 0; wmm = None }

-- these flags and no others
abbrev pub world_flags : (dfs no_ir auto_bw : Bool) → RuleFlags
world_flags dfs no_ir auto_bw = record { no_ofdm = false; no_outdoor = false; dfs = dfs; no_ir = no_ir; auto_bw = auto_bw }

-- What holds for the world where the database doesn't say: 2402 to 2472 MHz with 40 MHz, and 5170 to 5250 and 5250 to
-- 5330 MHz with 80 MHz, where nobody may send first, and above 5250 MHz with radar detection.
abbrev pub world_domain : Domain
world_domain = record {
  alpha2 = world;
  region = Unset;
  rules = world_rule 2402000 2472000 40000 (world_flags false false false)
      ∷ world_rule 5170000 5250000 80000 (world_flags false true true)
      ∷ world_rule 5250000 5330000 80000 (world_flags true true true)
      ∷ [];
}

-- a radio's custom rules as a domain; where there are none, it permits nothing
abbrev pub custom_domain : List Rule → Domain
custom_domain rules = record { alpha2 = custom_code; region = Unset; rules = rules }
