-- What can be told of rules: whether two are one, and whether a WMM rule is valid.
use Rattle.std.proofs.Common.{ℕ, Bool, Option, refl}
use Rattle.std.proofs.lemmas.Bool.{cases_eq}
use Rattle.freq_range.specs.Valid.{IsValidEntry, IsValidWmm}
use Rattle.freq_range.specs.declared.flags.RuleFlags.{RuleFlags}
use Rattle.freq_range.specs.declared.rule.Rule.{Rule}
use Rattle.freq_range.specs.declared.wmm.Wmm.{Wmm}
use Rattle.freq_range.specs.declared.wmm.WmmEntry.{WmmEntry}
use Rattle.freq_range.proofs.Deciding.{Tells, Told, tells_bool, tells_option, tells_pair, tells_through, told_as, told_both, told_le, told_lt}

-- ---- equal rules

pub tells_entry : Tells WmmEntry
tells_entry = tells_through {A = WmmEntry} {B = ℕ × (ℕ × (ℕ × ℕ))} (λ e. (e.min_exp, (e.max_exp, (e.aifsn, e.cot_ms))))
    (λ t. record { min_exp = t.0; max_exp = t.1.0; aifsn = t.1.1.0; cot_ms = t.1.1.1 }) (λ e. refl)
    (tells_pair cases_eq (tells_pair cases_eq (tells_pair cases_eq cases_eq)))

-- four entries
abbrev Four : Type 0
Four = (WmmEntry × WmmEntry) × (WmmEntry × WmmEntry)

tells_four : Tells Four
tells_four = tells_pair (tells_pair tells_entry tells_entry) (tells_pair tells_entry tells_entry)

pub tells_wmm : Tells Wmm
tells_wmm = tells_through {A = Wmm} {B = Four × Four} (λ w. (((w.vo_c, w.vi_c), (w.be_c, w.bk_c)), ((w.vo_ap, w.vi_ap), (w.be_ap, w.bk_ap))))
    (λ t. record {
      vo_c = t.0.0.0;
      vi_c = t.0.0.1;
      be_c = t.0.1.0;
      bk_c = t.0.1.1;
      vo_ap = t.1.0.0;
      vi_ap = t.1.0.1;
      be_ap = t.1.1.0;
      bk_ap = t.1.1.1;
    }) (λ w. refl) (tells_pair tells_four tells_four)

pub tells_flags : Tells RuleFlags
tells_flags = tells_through {A = RuleFlags} {B = Bool × (Bool × (Bool × (Bool × Bool)))} (λ f. (f.no_ofdm, (f.no_outdoor, (f.dfs, (f.no_ir, f.auto_bw)))))
    (λ t. record { no_ofdm = t.0; no_outdoor = t.1.0; dfs = t.1.1.0; no_ir = t.1.1.1.0; auto_bw = t.1.1.1.1 }) (λ f. refl)
    (tells_pair tells_bool (tells_pair tells_bool (tells_pair tells_bool (tells_pair tells_bool tells_bool))))

pub tells_rule : Tells Rule
tells_rule = tells_through {A = Rule} {B = (ℕ × (ℕ × ℕ)) × (RuleFlags × (ℕ × (ℕ × Option Wmm)))}
    (λ r. ((r.start_khz, (r.end_khz, r.max_bw_khz)), (r.flags, (r.eirp_mbm, (r.cac_s, r.wmm)))))
    (λ t. record { start_khz = t.0.0; end_khz = t.0.1.0; max_bw_khz = t.0.1.1; flags = t.1.0; eirp_mbm = t.1.1.0; cac_s = t.1.1.1.0; wmm = t.1.1.1.1 }) (λ r. refl)
    (tells_pair (tells_pair cases_eq (tells_pair cases_eq cases_eq)) (tells_pair tells_flags (tells_pair cases_eq (tells_pair cases_eq (tells_option tells_wmm)))))

-- ---- valid WMM rules

pub told_entry : (e : WmmEntry) → Told (IsValidEntry e)
told_entry e = told_as
    (λ t. record { in_order = t.0; window_fits = t.1.0; waits = t.1.1.0; aifsn_fits = t.1.1.1.0; cot_fits = t.1.1.1.1 })
    (λ v. (v.in_order, (v.window_fits, (v.waits, (v.aifsn_fits, v.cot_fits)))))
    (told_both (told_lt e.min_exp e.max_exp) (told_both (told_le e.max_exp 15) (told_both (told_le 1 e.aifsn) (told_both (told_lt e.aifsn _) (told_lt e.cot_ms _)))))

-- two valid entries, four
told_two : (d e : WmmEntry) → Told (IsValidEntry d × IsValidEntry e)
told_two d e = told_both (told_entry d) (told_entry e)

pub told_wmm : (w : Wmm) → Told (IsValidWmm w)
told_wmm w = told_as
    (λ t. record {
      vo_c = t.0.0.0;
      vi_c = t.0.0.1;
      be_c = t.0.1.0;
      bk_c = t.0.1.1;
      vo_ap = t.1.0.0;
      vi_ap = t.1.0.1;
      be_ap = t.1.1.0;
      bk_ap = t.1.1.1;
    })
    (λ v. (((v.vo_c, v.vi_c), (v.be_c, v.bk_c)), ((v.vo_ap, v.vi_ap), (v.be_ap, v.bk_ap))))
    (told_both (told_both (told_two w.vo_c w.vi_c) (told_two w.be_c w.bk_c)) (told_both (told_two w.vo_ap w.vi_ap) (told_two w.be_ap w.bk_ap)))
