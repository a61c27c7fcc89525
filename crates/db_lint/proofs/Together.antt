-- What two domains allow together.
use Rattle.std.proofs.Common.{◌≡◌, ℕ, ◌+◌, ◌<◌, List, [], ◌∷◌, ◌++◌, length, get_or, map, sym, subst}
use Rattle.std.proofs.lemmas.List.{map-append}
use Rattle.freq_range.specs.Ascending.{AreAllAscending}
use Rattle.freq_range.specs.Channels.{IsCentre}
use Rattle.freq_range.proofs.Picked.{IsPicked, picked-keep}
use Rattle.rule_tables.specs.Governing.{NoneGoverns}
use Rattle.rule_tables.specs.declared.domain.Domain.{Domain}
use Rattle.db_lint.specs.CommonLists.{BothGovern, IsCommon, IsCommonChannel}
use Rattle.db_lint.specs.declared.entry.Common.{Common}
use Rattle.db_lint.proofs.Noted.{none_governs}

pub both_govern : (a b : Domain) (c : Common) → IsCommon a b c → BothGovern a b c.khz
both_govern a b c is = (is.one_is.number, is.one_is.governs, is.other_is.number, is.other_is.governs)

pub lacks_one : (a b : Domain) (khz : ℕ) → NoneGoverns a.rules khz → BothGovern a b khz → ⊥
lacks_one a b khz none both = none_governs a.rules khz both.0 none both.1

pub lacks_other : (a b : Domain) (khz : ℕ) → NoneGoverns b.rules khz → BothGovern a b khz → ⊥
lacks_other a b khz none both = none_governs b.rules khz both.2 none both.3

-- one channel more that both have a rule for
pub common_step : (a b : Domain) (list : List ℕ) (i khz : ℕ) (commons : List Common) (c : Common) → AreAllAscending IsCentre list → i < length list → khz ≡ get_or list i 0
    → c.khz ≡ khz → IsCommon a b c → AreAllAscending (IsPicked (IsCommonChannel a b) list i) (map (λ x. x.khz) commons)
    → AreAllAscending (IsPicked (IsCommonChannel a b) list (i + 1)) (map (λ x. x.khz) (commons ++ c ∷ []))
common_step a b list i khz commons c whole below at same is are =
    rw map-append (rw same (picked-keep IsCentre (IsCommonChannel a b) list i khz (map (λ x. x.khz) commons) whole below at
    (record { centre = subst IsCentre (sym at) (whole.only i 0 below); both = subst (BothGovern a b) same (both_govern a b c is) }) are))
