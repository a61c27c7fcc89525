-- A WMM rule's record reads as the WMM rule.
use Rattle.std.proofs.Common.{◌≡◌, ℕ, ◌+◌, ◌*◌, List, refl, sym, arith}
use Rattle.freq_range.specs.Valid.{IsValidEntry, IsValidWmm}
use Rattle.freq_range.specs.declared.wmm.Wmm.{Wmm}
use Rattle.freq_range.specs.declared.wmm.WmmEntry.{WmmEntry}
use Rattle.rule_tables.specs.FileFormat.{u8_at, WmmEntryAt, WmmAt}
use Rattle.db_writer.specs.Records.{wmm_entry_bytes, wmm_bytes}
use Rattle.db_writer.proofs.Holds.{Holds, Holds-front, Holds-back, Holds-cell, Holds-rest, Holds-be16}
use Rattle.db_writer.proofs.Lengths.{length-wmm_entry_bytes, length-wmm_bytes}

entry_reads : (b : List ℕ) (i : ℕ) (e : WmmEntry) → IsValidEntry e → Holds b i (wmm_entry_bytes e) → WmmEntryAt b i e
unfolding wmm_entry_bytes
entry_reads b i e valid h =
    let exponents : u8_at b i ≡ e.min_exp * 16 + e.max_exp = Holds-cell b i _ _ h in
    let h1 = Holds-rest b i (i + 1) _ _ refl h in
    let aifsn = Holds-cell b (i + 1) _ _ h1 in
    let h2 = Holds-rest b (i + 1) (i + 2) _ _ (omega arith) h1 in
    let fits = valid.window_fits in
    record {
      least_window = omega (arith, exponents, fits);
      greatest_window = omega (arith, exponents, fits);
      aifsn = sym aifsn;
      cot = sym (Holds-be16 b (i + 2) e.cot_ms valid.cot_fits h2);
    }

pub wmm_reads : (b : List ℕ) (i : ℕ) (w : Wmm) → IsValidWmm w → Holds b i (wmm_bytes w) → WmmAt b i w
unfolding wmm_bytes
wmm_reads b i w valid h =
    let front = λ (j : ℕ) (e : WmmEntry) (rest : List ℕ). Holds-front b j (wmm_entry_bytes e) rest in
    let next = λ (j k : ℕ) (e : WmmEntry) (rest : List ℕ) (is : k ≡ j + 4). Holds-back b j k (wmm_entry_bytes e) rest (omega (arith, is, length-wmm_entry_bytes e)) in
    let h4 = next i (i + 4) w.vo_c _ refl h in
    let h8 = next (i + 4) (i + 8) w.vi_c _ (omega arith) h4 in
    let h12 = next (i + 8) (i + 12) w.be_c _ (omega arith) h8 in
    let h16 = next (i + 12) (i + 16) w.bk_c _ (omega arith) h12 in
    let h20 = next (i + 16) (i + 20) w.vo_ap _ (omega arith) h16 in
    let h24 = next (i + 20) (i + 24) w.vi_ap _ (omega arith) h20 in
    let h28 = next (i + 24) (i + 28) w.be_ap _ (omega arith) h24 in
    record {
      in_file = omega (arith, length-wmm_bytes w, h.in_range);
      vo_c = entry_reads b i w.vo_c valid.vo_c (front i w.vo_c _ h);
      vi_c = entry_reads b (i + 4) w.vi_c valid.vi_c (front (i + 4) w.vi_c _ h4);
      be_c = entry_reads b (i + 8) w.be_c valid.be_c (front (i + 8) w.be_c _ h8);
      bk_c = entry_reads b (i + 12) w.bk_c valid.bk_c (front (i + 12) w.bk_c _ h12);
      vo_ap = entry_reads b (i + 16) w.vo_ap valid.vo_ap (front (i + 16) w.vo_ap _ h16);
      vi_ap = entry_reads b (i + 20) w.vi_ap valid.vi_ap (front (i + 20) w.vi_ap _ h20);
      be_ap = entry_reads b (i + 24) w.be_ap valid.be_ap (front (i + 24) w.be_ap _ h24);
      bk_ap = entry_reads b (i + 28) w.bk_ap valid.bk_ap (front (i + 28) w.bk_ap _ h28);
    }
