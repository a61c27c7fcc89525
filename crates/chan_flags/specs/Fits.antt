-- What it is that a channel fits the rules of a list of domains.
use Rattle.std.specs.Prelude.{◌≡◌, ℕ, ◌≤◌, ◌⊎◌, List, Contains, false, IsTrue}
use Rattle.rule_tables.specs.declared.domain.Domain.{Domain}
use Rattle.chan_def.specs.Covered.{width_khz, IsCovered}
use Rattle.chan_def.specs.Kinds.{initiates}
use Rattle.rule_intersect.specs.Tuples.{Choice}
use Rattle.chan_flags.specs.Lists.{IsRadioChannel}
use Rattle.chan_flags.specs.Verdicts.{power_of, HasWidth, IsGoverning, IsCheckLength, IsLimit, IsWithinLimit}
use Rattle.chan_flags.specs.declared.asked.Asked.{Asked}

-- the governing rule allows what is asked, with this power in mBm
pub record FitsRule (q : Asked) (mbm : ℕ) (g : Choice) : Type 0 where
  pub width : width_khz q.chan.width ≤ g.width_khz
  pub power : mbm ≤ g.rule.eirp_mbm
  pub ofdm : (g.rule.flags.no_ofdm ≡ false) ⊎ (width_khz q.chan.width ≡ 20000)
  pub ir : IsTrue (initiates q.kind) → g.rule.flags.no_ir ≡ false
  pub outdoor : IsTrue (initiates q.kind) → (g.rule.flags.no_outdoor ≡ false) ⊎ IsTrue q.indoor

-- the radio has each subchannel and the width, and each domain has a governing rule for each subchannel, which allows what is
-- asked with this power in mBm
pub record IsFitting (ds : List Domain) (q : Asked) (mbm : ℕ) : Type 0 where
  pub channels : (s : ℕ) → IsCovered q.chan s → IsRadioChannel q.profile.bands s
  pub has_width : HasWidth q
  pub rules : (s : ℕ) (d : Domain) → IsCovered q.chan s → Contains ds d → (g : Choice) × IsGoverning d s g × FitsRule q mbm g

-- what is asked fits with the power of its setting, in mBm, a fixed power is at most the limit, and this is the length of the
-- check for radar (CAC, channel availability check), in ms
pub record IsGranting (ds : List Domain) (q : Asked) (mbm ms : ℕ) : Type 0 where
  pub fitting : IsFitting ds q mbm
  pub limit : ℕ
  pub is_limit : IsLimit ds q limit
  pub within : IsWithinLimit q.setting limit
  pub power_is : mbm ≡ power_of q.setting limit
  pub length_is : IsCheckLength ds q ms
