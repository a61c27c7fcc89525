-- A rule's record reads as the rule that it was written for.
use Rattle.std.proofs.Common.{◌≡◌, ◌==◌, ℕ, zero, suc, ◌+◌, ◌*◌, ◌/◌, ◌%◌, ◌^◌, ◌<◌, ◌≤◌, Bool, true, false, nat_le, List, [], ◌++◌, IfSome, Option, Some, None, option_map, if◌then◌else◌, refl, sym, ap, ◌∙◌, subst, arith}
use Rattle.std.proofs.lemmas.Bool.Decides.{nat_tests}
use Rattle.freq_range.specs.Valid.{IsValidWmm, IsValidRule}
use Rattle.freq_range.specs.declared.flags.RuleFlags.{RuleFlags}
use Rattle.freq_range.specs.declared.rule.Rule.{Rule}
use Rattle.freq_range.specs.declared.wmm.Wmm.{Wmm}
use Rattle.rule_tables.specs.FileFormat.{u8_at, u16_at, target_at, has_bit, flags_in, WmmAt, NamesWmm, RuleAt}
use Rattle.db_writer.specs.Records.{be16, be32, wmm_bytes, bit, flags_byte, rule_length, rule_end, rule_bytes}
use Rattle.db_writer.specs.LaidOut.{rule_record}
use Rattle.db_writer.proofs.Holds.{Holds, Holds-front, Holds-back, Holds-cell, Holds-rest, Holds-be16, Holds-be32, length-be16, length-be32}
use Rattle.db_writer.proofs.Lengths.{length-rule_bytes, rule_length-le, rule_length-low, rule_length-without}
use Rattle.db_writer.proofs.Wmm.{wmm_reads}

bit-le : (t : Bool) → bit t ≤ 1
bit-le true = omega arith
bit-le false = omega arith

bit-back : (t : Bool) → (bit t == 1) ≡ t
bit-back true = refl
bit-back false = refl

-- one flag in the byte of all five
bit_of : (n k : ℕ) (t : Bool) → n / k % 2 ≡ bit t → has_bit n k ≡ t
bit_of n k t e = ap (λ m. m == 1) e ∙ bit-back t

flags_of : (a b c d e : Bool) (n : ℕ) → n ≡ bit a + 2 * bit b + 4 * bit c + 8 * bit d + 16 * bit e →
    record { no_ofdm = a; no_outdoor = b; dfs = c; no_ir = d; auto_bw = e } ≡ flags_in n
flags_of a b c d e n is =
    let la = bit-le a in
    let lb = bit-le b in
    let lc = bit-le c in
    let ld = bit-le d in
    let le = bit-le e in
    let ea = bit_of n 1 a (omega arith) in
    let eb = bit_of n 2 b (omega arith) in
    let ec = bit_of n 4 c (omega arith) in
    let ed = bit_of n 8 d (omega arith) in
    let ee = bit_of n 16 e (omega arith) in
    rw (ea, eb, ec, ed, ee) refl

pub flags-back : (f : RuleFlags) → f ≡ flags_in (flags_byte f)
unfolding flags_byte
flags-back f = flags_of f.no_ofdm f.no_outdoor f.dfs f.no_ir f.auto_bw (flags_byte f) refl

-- where a WMM rule's place is in reach, and its record stands there
pub record IsWritten (b : List ℕ) (wmm_at : Wmm → ℕ) (w : Wmm) : Type 0 where
  pub in_reach : wmm_at w ≤ 65535
  pub there : Holds b (4 * wmm_at w) (wmm_bytes w)

check_time_reads : (b : List ℕ) (i c len : ℕ) (wmm : Option ℕ) → c < 2 ^ 16 → len ≡ rule_length c wmm → Holds b i (rule_end c wmm) →
    c ≡ (if nat_le 18 len then u16_at b i else 0)
check_time_reads b i zero len None fits e h = rw e refl
check_time_reads b i (suc c) len None fits e h =
    let some : (suc c == 0) ≡ false = grind (arith, nat_tests) in
    let long : len ≡ 18 = e ∙ ap (λ t. if t then 16 else 18) some in
    let there = subst (λ t. Holds b i (if t then [] else be16 (suc c) ++ be16 0)) some h in
    rw long (sym (Holds-be16 b i (suc c) fits (Holds-front b i (be16 (suc c)) (be16 0) there)))
check_time_reads b i c len (Some place) fits e h = rw e (sym (Holds-be16 b i c fits (Holds-front b i (be16 c) (be16 place) h)))

wmm_named : (b : List ℕ) (i c : ℕ) (wmm_at : Wmm → ℕ) (wmm : Option Wmm) → IfSome wmm IsValidWmm → IfSome wmm (IsWritten b wmm_at) →
    u8_at b i ≡ rule_length c (option_map wmm_at wmm) → Holds b (i + 16) (rule_end c (option_map wmm_at wmm)) → NamesWmm b i wmm
wmm_named b i c wmm_at None valid written len h = subst (λ n. n < 20) (sym len) (rule_length-without c)
wmm_named b i c wmm_at (Some w) valid written len h =
    let pointer = Holds-back b (i + 16) (i + 18) (be16 c) (be16 (wmm_at w)) (omega (arith, length-be16 c)) h in
    let target : target_at b (i + 18) ≡ 4 * wmm_at w = ap (λ n. 4 * n) (Holds-be16 b (i + 18) (wmm_at w) (omega (arith, written.in_reach)) pointer) in
    (omega (arith, len), subst (λ n. WmmAt b n w) (sym target) (wmm_reads b (4 * wmm_at w) w valid written.there))

pub rule_reads : (b : List ℕ) (i : ℕ) (wmm_at : Wmm → ℕ) (r : Rule) → IsValidRule r → IfSome r.wmm (IsWritten b wmm_at) → Holds b i (rule_bytes (rule_record wmm_at r)) → RuleAt b i r
unfolding rule_bytes rule_record
rule_reads b i wmm_at r valid written h =
    let x = rule_record wmm_at r in
    let len = Holds-cell b i _ _ h in
    let h1 = Holds-rest b i (i + 1) _ _ refl h in
    let flags = Holds-cell b (i + 1) _ _ h1 in
    let h2 = Holds-rest b (i + 1) (i + 2) _ _ (omega arith) h1 in
    let h4 = Holds-back b (i + 2) (i + 4) (be16 r.eirp_mbm) _ (omega (arith, length-be16 r.eirp_mbm)) h2 in
    let h8 = Holds-back b (i + 4) (i + 8) (be32 r.start_khz) _ (omega (arith, length-be32 r.start_khz)) h4 in
    let h12 = Holds-back b (i + 8) (i + 12) (be32 r.end_khz) _ (omega (arith, length-be32 r.end_khz)) h8 in
    let h16 = Holds-back b (i + 12) (i + 16) (be32 r.max_bw_khz) _ (omega (arith, length-be32 r.max_bw_khz)) h12 in
    let start_fits : r.start_khz < 2 ^ 32 = omega (arith, valid.in_order, valid.end_fits) in
    let width_fits : r.max_bw_khz < 2 ^ 32 = omega (arith, valid.wide_enough, valid.end_fits) in
    record {
      long = subst (λ n. 16 ≤ n) (sym len) (rule_length-low x.cac_s x.wmm);
      in_file = omega (arith, len, rule_length-le x, length-rule_bytes x, h.in_range);
      flags = flags-back r.flags ∙ ap flags_in (sym flags);
      eirp = sym (Holds-be16 b (i + 2) r.eirp_mbm valid.power_fits (Holds-front b (i + 2) _ _ h2));
      start = sym (Holds-be32 b (i + 4) r.start_khz start_fits (Holds-front b (i + 4) _ _ h4));
      end = sym (Holds-be32 b (i + 8) r.end_khz valid.end_fits (Holds-front b (i + 8) _ _ h8));
      width = sym (Holds-be32 b (i + 12) r.max_bw_khz width_fits (Holds-front b (i + 12) _ _ h12));
      check_time = check_time_reads b (i + 16) r.cac_s (u8_at b i) x.wmm valid.check_fits len h16;
      wmm = wmm_named b i r.cac_s wmm_at r.wmm valid.wmm written len h16;
      valid = valid;
    }
