-- How the line of a rule is printed.
use Rattle.std.specs.Prelude.{◌≢◌, ℕ, ◌≤◌, Bool, List, [], ◌++◌, Option, Some, None, codes, if◌then◌else◌}
use Rattle.freq_range.specs.declared.flags.RuleFlags.{RuleFlags}
use Rattle.freq_range.specs.declared.rule.Rule.{Rule}
use Rattle.text_lines.specs.declared.form.Flag.{Flag}
use Rattle.text_lines.specs.declared.form.Flag.TheVariants.{NoOfdm, NoOutdoor, Dfs, NoIr, AutoBw}
use Rattle.db_text.specs.PrintedNumbers.{dbm_text, decimal_mhz_text}
use Rattle.text_lines.specs.Spelling.{flag_name}

-- a blank, or a byte of ASCII that shows, but neither `;` nor `#`
pub record IsShownByte (byte : ℕ) : Type 0 where
  pub from_blank : 32 ≤ byte
  pub to_tilde : byte ≤ 126
  pub no_semicolon : byte ≢ 59
  pub no_hash : byte ≢ 35

-- a flag that is set, behind a comma and a blank
abbrev pub flag_part : Bool → Flag → List ℕ
flag_part set flag = if set then codes ", " ++ flag_name flag else []

-- the flags in their order
unfoldable pub flags_part : RuleFlags → List ℕ
flags_part flags =
    flag_part flags.no_ofdm NoOfdm ++ flag_part flags.no_outdoor NoOutdoor ++ flag_part flags.dfs Dfs ++ flag_part flags.auto_bw AutoBw ++ flag_part flags.no_ir NoIr

-- `(START - END @ WIDTH), (POWER), FLAGS`
unfoldable pub rule_part : Rule → List ℕ
rule_part rule =
    codes "(" ++ decimal_mhz_text rule.start_khz ++ codes " - " ++ decimal_mhz_text rule.end_khz ++ codes " @ " ++ decimal_mhz_text rule.max_bw_khz ++ codes "), (" ++ dbm_text rule.eirp_mbm ++ codes ")"
    ++ flags_part rule.flags

-- the name of a WMM rule, behind a comma and a blank
abbrev pub name_part : Option (List ℕ) → List ℕ
name_part None = []
name_part (Some name) = codes ", wmmrule=" ++ name

-- a rule, and the name of its WMM rule if it has one
abbrev pub printed_rule : Rule → Option (List ℕ) → List ℕ
printed_rule rule name = rule_part rule ++ name_part name
