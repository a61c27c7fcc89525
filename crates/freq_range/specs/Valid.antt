-- What makes a rule valid.
use Rattle.std.specs.Prelude.{◌-◌, ◌^◌, ◌<◌, ◌≤◌, IfSome}
use Rattle.freq_range.specs.declared.rule.Rule.{Rule}
use Rattle.freq_range.specs.declared.wmm.WmmEntry.{WmmEntry}
use Rattle.freq_range.specs.declared.wmm.Wmm.{Wmm}

-- The least window is below the greatest, and at least one slot is waited for. The last two say that the numbers fit the
-- fields that hold them.
pub record IsValidEntry (e : WmmEntry) : Type 0 where
  pub in_order : e.min_exp < e.max_exp
  pub window_fits : e.max_exp ≤ 15
  pub waits : 1 ≤ e.aifsn
  pub aifsn_fits : e.aifsn < 2 ^ 8
  pub cot_fits : e.cot_ms < 2 ^ 16

-- each of its eight entries is valid
pub record IsValidWmm (w : Wmm) : Type 0 where
  pub vo_c : IsValidEntry w.vo_c
  pub vi_c : IsValidEntry w.vi_c
  pub be_c : IsValidEntry w.be_c
  pub bk_c : IsValidEntry w.bk_c
  pub vo_ap : IsValidEntry w.vo_ap
  pub vi_ap : IsValidEntry w.vi_ap
  pub be_ap : IsValidEntry w.be_ap
  pub bk_ap : IsValidEntry w.bk_ap

-- The range begins above 0, ends after its beginning and holds the width, and a WMM rule is valid. The others say that
-- the numbers fit the fields that hold them: it is these that keep a rule text to 4,294,967,295 kHz.
pub record IsValidRule (r : Rule) : Type 0 where
  pub above_zero : 0 < r.start_khz
  pub in_order : r.start_khz < r.end_khz
  pub wide_enough : r.max_bw_khz ≤ r.end_khz - r.start_khz
  pub wmm : IfSome r.wmm IsValidWmm
  pub end_fits : r.end_khz < 2 ^ 32
  pub power_fits : r.eirp_mbm < 2 ^ 16
  pub check_fits : r.cac_s < 2 ^ 16
