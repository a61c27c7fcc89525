-- What dumps show is what attributes tell.
use Rattle.std.proofs.Common.{◌≡◌, ℕ, ◌/◌, ◌%◌, ◌^◌, ◌<◌, ◌==◌, List, ◌∷◌, ◌++◌, Option, None, Some, MatchOption, IsTrue, ap, sym, subst, ◌∙◌, arith}
use Rattle.rule_intersect.specs.declared.row.Row.{Row}
use Rattle.chan_def.specs.declared.definition.ChanDef.{ChanDef}
use Rattle.chan_flags.specs.Profiles.{Abilities, IsProfile, abilities, is_width}
use Rattle.chan_flags.specs.declared.record.Fit.{Fit}
use Rattle.nl_attrs.specs.declared.attr.Attr.{Attr}
use Rattle.reg_journal.specs.declared.report.IfaceState.{IfaceState}
use Rattle.reg_journal.specs.declared.report.IfaceState.TheVariants.{Idle, Checking, Running}
use Rattle.nl80211_cmds.specs.Fields.{chan_attrs, profile_attrs}
use Rattle.nl80211_cmds.specs.Rules.{flag_bits}
use Rattle.nl80211_cmds.specs.Values.{band_bits, profile_bits}
use Rattle.nl80211_cmds.specs.declared.attribute.TheConstants.{CENTRE, FREQ, WIDTH}
use Rattle.nl80211_replies.specs.Dumps.{fit_attrs, state_attrs}
use Rattle.reply_reading.specs.Typed.{IsTypedFit}
use Rattle.reply_reading.specs.inner.Reading.{IsToldDef, IsToldRow, IsToldState, payload_at, row_attrs}
use Rattle.reply_reading.specs.inner.Values.{bands_numbered, below, flags_numbered, state_numbered}
use Rattle.reply_reading.proofs.AnswersAgain.{Numbers32, Numbers64}
use Rattle.reply_reading.proofs.Numbered.{bands_again, bands_small, below_is, first_bit, flags_again, flags_small, second_bit, two_small}

-- ---- rows

pub row_again : (row : Row) (attrs : List Attr) (bits start end width power cac : ℕ) → IsToldRow row → attrs ≡ row_attrs row
    → Numbers32 attrs 0 bits → Numbers32 attrs 1 start → Numbers32 attrs 2 end → Numbers32 attrs 3 width → Numbers32 attrs 5 power → Numbers32 attrs 6 cac
    → record { start_khz = start; end_khz = end; width_khz = width; flags = flags_numbered bits; eirp_mbm = below 65536 power; cac_ms = cac; check_ms = 0 } ≡ row
row_again row attrs bits start end width power cac is e n0 n1 n2 n3 n5 n6 =
    let typed = is.typed in
    let fits = typed.power in
    let flags : flags_numbered bits ≡ row.flags = ap flags_numbered (n0 (flag_bits row.flags) (flags_small row.flags) (ap (payload_at 0) e)) ∙ flags_again row.flags in
    let starts = n1 row.start_khz typed.start (ap (payload_at 1) e) in
    let ends = n2 row.end_khz typed.end (ap (payload_at 2) e) in
    let widths = n3 row.width_khz typed.width (ap (payload_at 3) e) in
    let powers : below 65536 power ≡ row.eirp_mbm = below_is 65536 power row.eirp_mbm (omega arith) (n5 row.eirp_mbm (omega arith) (ap (payload_at 5) e)) in
    let cacs = n6 row.cac_ms typed.cac (ap (payload_at 6) e) in
    let checks = sym is.unchecked in
    λ i. record { start_khz = starts i; end_khz = ends i; width_khz = widths i; flags = flags i; eirp_mbm = powers i; cac_ms = cacs i; check_ms = checks i }

-- ---- channels

pub fit_again : (fit : Fit) (more attrs : List Attr) (bits limit width check : ℕ) → IsTypedFit fit → attrs ≡ fit_attrs (Some fit) ++ more
    → Numbers32 attrs 0 bits → Numbers32 attrs 1 limit → Numbers32 attrs 2 width → Numbers64 attrs 3 check
    → record { flags = flags_numbered bits; limit_mbm = below 65536 limit; check_ms = below 4294967296 check; width_khz = width } ≡ fit
fit_again fit more attrs bits limit width check is e n0 n1 n2 n3 =
    let limit_fits = is.limit in let check_fits = is.check in
    let flags : flags_numbered bits ≡ fit.flags = ap flags_numbered (n0 (flag_bits fit.flags) (flags_small fit.flags) (ap (payload_at 0) e)) ∙ flags_again fit.flags in
    let limits : below 65536 limit ≡ fit.limit_mbm = below_is 65536 limit fit.limit_mbm (omega arith) (n1 fit.limit_mbm (omega arith) (ap (payload_at 1) e)) in
    let widths = n2 fit.width_khz is.width (ap (payload_at 2) e) in
    let checks : below 4294967296 check ≡ fit.check_ms = below_is 4294967296 check fit.check_ms (omega arith) (n3 fit.check_ms (omega arith) (ap (payload_at 3) e)) in
    λ i. record { flags = flags i; limit_mbm = limits i; check_ms = checks i; width_khz = widths i }

-- ---- radios

pub profile_again : (p : Abilities) (more attrs : List Attr) (bands width radar power contexts flags : ℕ) → IsProfile p → p.width_mhz < 2 ^ 16 → p.radar_mhz < 2 ^ 16 → attrs ≡ profile_attrs p ++ more
    → Numbers32 attrs 0 bands → Numbers32 attrs 1 width → Numbers32 attrs 2 radar → Numbers32 attrs 3 power → Numbers32 attrs 4 contexts → Numbers32 attrs 5 flags
    → abilities (bands_numbered bands) (below 65536 width) (below 65536 radar) (below 65536 power) (below 256 contexts) (flags % 2 == 1) (flags / 2 % 2 == 1) ≡ p
profile_again p more attrs bands width radar power contexts flags is width_fits radar_fits e n0 n1 n2 n3 n4 n5 =
    let power_fits = is.power_fits in let few = is.few_contexts in
    let band : bands_numbered bands ≡ p.bands = ap bands_numbered (n0 (band_bits p.bands) (bands_small p.bands) (ap (payload_at 0) e)) ∙ bands_again p.bands in
    let widths : below 65536 width ≡ p.width_mhz = below_is 65536 width p.width_mhz (omega arith) (n1 p.width_mhz (omega arith) (ap (payload_at 1) e)) in
    let radars : below 65536 radar ≡ p.radar_mhz = below_is 65536 radar p.radar_mhz (omega arith) (n2 p.radar_mhz (omega arith) (ap (payload_at 2) e)) in
    let powers : below 65536 power ≡ p.power_mbm = below_is 65536 power p.power_mbm (omega arith) (n3 p.power_mbm (omega arith) (ap (payload_at 3) e)) in
    let counts : below 256 contexts ≡ p.contexts = below_is 256 contexts p.contexts (omega arith) (n4 p.contexts (omega arith) (ap (payload_at 4) e)) in
    let bits = n5 (profile_bits p) (two_small p.self_managed p.deaf) (ap (payload_at 5) e) in
    let selfs : (flags % 2 == 1) ≡ p.self_managed = ap (λ (x : ℕ). x % 2 == 1) bits ∙ first_bit p.self_managed p.deaf in
    let deafs : (flags / 2 % 2 == 1) ≡ p.deaf = ap (λ (x : ℕ). x / 2 % 2 == 1) bits ∙ second_bit p.self_managed p.deaf in
    λ i. abilities (band i) (widths i) (radars i) (powers i) (counts i) (selfs i) (deafs i)

pub profile_found : (found : Option Abilities) (p q : Abilities) → q ≡ p → IsProfile p → MatchOption found (IsProfile q → ⊥) (λ x. x ≡ q) → found ≡ Some p
profile_found None p q same is match = absurd (match (subst IsProfile (sym same) is))
profile_found (Some x) p q same is match = ap Some (match ∙ same)

-- ---- interfaces

pub state_again : (state : IfaceState) (attrs : List Attr) (c n : ℕ) (chan : ChanDef) → IsToldState state → attrs ≡ state_attrs state → Numbers32 attrs 0 c
    → ((d : ChanDef) (a : Attr) (more : List Attr) → IsToldDef d → attrs ≡ a ∷ chan_attrs FREQ WIDTH CENTRE d ++ more → chan ≡ d) → Numbers64 attrs 4 n
    → state_numbered c chan n ≡ state
state_again Idle attrs c n chan is e first channel wide = ap (λ (x : ℕ). state_numbered x chan n) (first 0 (omega arith) (ap (payload_at 0) e))
state_again (Checking d until) attrs c n chan is e first channel wide =
    let same = channel d _ _ (is.0.0, is.1) e in
    let moment = wide until is.0.1 (ap (payload_at 4) e) in
    ap (λ (x : ℕ). state_numbered x chan n) (first 1 (omega arith) (ap (payload_at 0) e)) ∙ (λ i. Checking (same i) (moment i))
state_again (Running d power) attrs c n chan is e first channel wide =
    let fits = is.0.1 in
    let same = channel d _ _ (is.0.0, is.1) e in
    let told : below 65536 n ≡ power = below_is 65536 n power (omega arith) (wide power (omega arith) (ap (payload_at 4) e)) in
    ap (λ (x : ℕ). state_numbered x chan n) (first 2 (omega arith) (ap (payload_at 0) e)) ∙ (λ i. Running (same i) (told i))

-- widths are few enough
wide_fits : (n : ℕ) → IsTrue (is_width n) → n < 2 ^ 16
wide_fits n is = grind arith

pub widths_fit : (p : Abilities) → IsProfile p → (p.width_mhz < 2 ^ 16) × (p.radar_mhz < 2 ^ 16)
widths_fit p is = (wide_fits p.width_mhz is.width, grind (arith, wide_fits))
