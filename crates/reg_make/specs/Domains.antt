-- The database that the requests run over: the world's domain, and those of two countries.
use Rattle.std.specs.Prelude.{ℕ, Bool, true, false, List, [], ◌∷◌, None}
use Rattle.freq_range.specs.declared.flags.RuleFlags.{RuleFlags}
use Rattle.freq_range.specs.declared.rule.Rule.{Rule}
use Rattle.rule_tables.specs.World.{world_domain}
use Rattle.rule_tables.specs.declared.code.Region.TheVariants.{Fcc, Etsi}
use Rattle.rule_tables.specs.declared.domain.Domain.{Domain}

-- a rule without WMM, whose check for radar has the usual length
abbrev pub made_rule : (start end width power : ℕ) → RuleFlags → Rule
made_rule start end width power flags = record { start_khz = start; end_khz = end; max_bw_khz = width; flags = flags; eirp_mbm = power; cac_s = 0; wmm = None }

-- these flags and no others
abbrev pub made_flags : (no_outdoor dfs auto_bw : Bool) → RuleFlags
made_flags no_outdoor dfs auto_bw = record { no_ofdm = false; no_outdoor = no_outdoor; dfs = dfs; no_ir = false; auto_bw = auto_bw }

-- US: 30 dBm below 2472 MHz, 23 and 24 dBm from 5150 to 5350 MHz, with radar detection above 5250 MHz
abbrev pub us_domain : Domain
us_domain = record {
  alpha2 = record { a = 85; b = 83 };
  region = Fcc;
  rules = made_rule 2400000 2472000 40000 3000 (made_flags false false false)
      ∷ made_rule 5150000 5250000 80000 2300 (made_flags false false true)
      ∷ made_rule 5250000 5350000 80000 2400 (made_flags false true true)
      ∷ [];
}

-- GB: 100 mW below 2483.5 MHz, and indoors 200 and 100 mW from 5150 to 5350 MHz, with radar detection above 5250 MHz
abbrev pub gb_domain : Domain
gb_domain = record {
  alpha2 = record { a = 71; b = 66 };
  region = Etsi;
  rules = made_rule 2400000 2483500 40000 2000 (made_flags false false false)
      ∷ made_rule 5150000 5250000 80000 2301 (made_flags true false true)
      ∷ made_rule 5250000 5350000 80000 2000 (made_flags true true true)
      ∷ [];
}

-- all three, in the order of their codes
abbrev pub made_domains : List Domain
made_domains = world_domain ∷ gb_domain ∷ us_domain ∷ []
