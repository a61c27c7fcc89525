-- Bands: what is read is spelled so, and what is spelled so is read.
use Rattle.std.proofs.Common.{◌≡◌, ℕ, ◌-◌, ◌≤◌, List, ◌∷◌, ◌++◌, true, ◌&&◌, leb, ltb, Option, Some, None, refl, ap, ◌∙◌, sym, subst, arith, append_assoc}
use Rattle.std.proofs.lemmas.Bool.{and_from, and_parts, le-leb, leb-true, lt-ltb, ltb-true}
use Rattle.std.proofs.lemmas.Option.{cond_some}
use Rattle.text_lines.specs.declared.band_reader.Band.{Band}
use Rattle.reg_base.specs.Texts.{◌>>=◌}
use Rattle.text_lines.specs.inner.Reading.{after_byte, band_at, decimal_at, khz_behind, valid_band}
use Rattle.text_lines.specs.Spelling.{BandText, BeginsWithBand, Decimal, IsBand, IsDecimalText, band_text, scaled}
use Rattle.text_lines.proofs.Decimals.{EndsDecimal, decimal_at-again, decimal_at-reads, decimal_cells}
use Rattle.text_lines.proofs.Words.{after_byte-again, after_byte-reads, bind_some}

-- ---- a number behind a byte

pub record SpellsKhz (byte : ℕ) (bs : List ℕ) (v : ℕ) (rest : List ℕ) : Type 0 where
  pub text : Decimal
  pub is : IsDecimalText 3 text
  pub parts : bs ≡ byte ∷ decimal_cells text rest
  pub value : v ≡ scaled 3 text
  pub small : v ≤ 4294967295

khz_behind-reads : (byte : ℕ) (bs : List ℕ) (value : ℕ) (rest : List ℕ) → khz_behind byte bs ≡ Some (value, rest) → SpellsKhz byte bs value rest
unfolding khz_behind
khz_behind-reads byte bs value rest e =
    let one = bind_some (after_byte byte bs) (decimal_at 3 4294967295) (value, rest) e in
    let read = decimal_at-reads 3 4294967295 one.0 value rest one.2 in
    record {
      text = read.text;
      is = read.is;
      parts = after_byte-reads byte bs one.0 one.1 ∙ ap (λ (xs : List ℕ). byte ∷ xs) read.parts;
      value = read.value;
      small = read.small;
    }

khz_behind-again : (byte : ℕ) (n : Decimal) (rest : List ℕ) → IsDecimalText 3 n → scaled 3 n ≤ 4294967295 → EndsDecimal rest → khz_behind byte (byte ∷ decimal_cells n rest) ≡ Some (scaled 3 n, rest)
unfolding khz_behind
khz_behind-again byte n rest is small ends = rw (after_byte-again byte (decimal_cells n rest)) (decimal_at-again 3 4294967295 n rest is small ends)

-- ---- the band

abbrev pub band_of : ℕ → ℕ → ℕ → Band
band_of start end width = record { start_khz = start; end_khz = end; width_khz = width }

abbrev closed_band : ℕ × List ℕ → ℕ × List ℕ → ℕ × List ℕ → Option (Band × List ℕ)
closed_band start end width = after_byte 41 width.1 >>= valid_band (band_of start.0 end.0 width.0)

abbrev with_width : ℕ × List ℕ → ℕ × List ℕ → Option (Band × List ℕ)
with_width start end = khz_behind 64 end.1 >>= closed_band start end

abbrev with_end : ℕ × List ℕ → Option (Band × List ℕ)
with_end start = khz_behind 45 start.1 >>= with_width start

abbrev band_cells : BandText → List ℕ → List ℕ
band_cells t rest = 40 ∷ decimal_cells t.start (45 ∷ decimal_cells t.end (64 ∷ decimal_cells t.width (41 ∷ rest)))

band-cells : (t : BandText) (rest : List ℕ) → band_text t ++ rest ≡ band_cells t rest
band-cells t rest = simp append_assoc

pub record ReadsBand (bs : List ℕ) (band : Band) (rest : List ℕ) : Type 0 where
  pub text : BandText
  pub is : IsBand text band.start_khz band.end_khz band.width_khz
  pub parts : bs ≡ band_text text ++ rest

band_joined : (bs one two three rest : List ℕ) (s e w : Decimal) → bs ≡ 40 ∷ decimal_cells s one → one ≡ 45 ∷ decimal_cells e two → two ≡ 64 ∷ decimal_cells w three → three ≡ 41 ∷ rest → bs ≡ band_cells (record { start = s; end = e; width = w }) rest
band_joined bs one two three rest s e w a b c d = rw (a, b, c, d) refl

pub band_at-reads : (bs : List ℕ) (band : Band) (rest : List ℕ) → band_at bs ≡ Some (band, rest) → ReadsBand bs band rest
unfolding band_at
band_at-reads bs band rest e =
    let one = bind_some (khz_behind 40 bs) with_end (band, rest) e in
    let two = bind_some (khz_behind 45 one.0.1) (with_width one.0) (band, rest) one.2 in
    let three = bind_some (khz_behind 64 two.0.1) (closed_band one.0 two.0) (band, rest) two.2 in
    let four = bind_some (after_byte 41 three.0.1) (valid_band (band_of one.0.0 two.0.0 three.0.0)) (band, rest) three.2 in
    let start = khz_behind-reads 40 bs one.0.0 one.0.1 one.1 in
    let end = khz_behind-reads 45 one.0.1 two.0.0 two.0.1 two.1 in
    let width = khz_behind-reads 64 two.0.1 three.0.0 three.0.1 three.1 in
    let close = after_byte-reads 41 three.0.1 four.0 four.1 in
    let text : BandText = record { start = start.text; end = end.text; width = width.text } in
    let joined = band_joined bs one.0.1 two.0.1 three.0.1 four.0 start.text end.text width.text start.parts end.parts width.parts close in
    valid text one.0.0 two.0.0 three.0.0 four.0 start.is end.is width.is start.value end.value width.value end.small (joined ∙ sym (band-cells text four.0)) four.2
  where
    valid : (text : BandText) (start end width : ℕ) (behind : List ℕ) → IsDecimalText 3 text.start → IsDecimalText 3 text.end → IsDecimalText 3 text.width → start ≡ scaled 3 text.start → end ≡ scaled 3 text.end → width ≡ scaled 3 text.width → end ≤ 4294967295 → bs ≡ band_text text ++ behind → valid_band (band_of start end width) behind ≡ Some (band, rest) → ReadsBand bs band rest
    valid text start end width behind ds de dw vs ve vw small parts h =
        let t = cond_some (ltb 0 start && ltb start end && leb width (end - start)) (band_of start end width, behind) (band, rest) h in
        let p = and_parts (ltb 0 start && ltb start end) (leb width (end - start)) t.0 in
        let q = and_parts (ltb 0 start) (ltb start end) p.0 in
        let made : ReadsBand bs (band_of start end width) behind = record {
          text = text;
          is = record {
            start_decimal = ds;
            end_decimal = de;
            width_decimal = dw;
            start_khz = vs;
            end_khz = ve;
            width_khz = vw;
            above_zero = ltb-true 0 start q.0;
            in_order = ltb-true start end q.1;
            wide_enough = leb-true width (end - start) p.1;
            end_fits = omega (arith, small);
          };
          parts = parts;
        } in
        subst (λ (x : Band × List ℕ). ReadsBand bs x.0 x.1) t.1 made

pub band_at-again : (t : BandText) (start end width : ℕ) (rest : List ℕ) → IsBand t start end width → band_at (band_text t ++ rest) ≡ Some (band_of start end width, rest)
unfolding band_at
band_at-again t start end width rest h =
    let start_is = h.start_khz in
    let end_is = h.end_khz in
    let width_is = h.width_khz in
    let above_zero = h.above_zero in
    let in_order = h.in_order in
    let wide_enough = h.wide_enough in
    let end_fits = h.end_fits in
    let start_small : scaled 3 t.start ≤ 4294967295 = rw (← start_is) (omega arith) in
    let end_small : scaled 3 t.end ≤ 4294967295 = rw (← end_is) (omega arith) in
    let width_small : scaled 3 t.width ≤ 4294967295 = rw (← width_is) (omega arith) in
    let last = decimal_cells t.width (41 ∷ rest) in
    let middle = decimal_cells t.end (64 ∷ last) in
    let test : (ltb 0 start && ltb start end && leb width (end - start)) ≡ true =
    and_from (ltb 0 start && ltb start end) (leb width (end - start)) (and_from (ltb 0 start) (ltb start end) (lt-ltb 0 start above_zero) (lt-ltb start end in_order)) (le-leb width (end - start) wide_enough) in
    rw (
      band-cells t rest,
      khz_behind-again 40 t.start (45 ∷ middle) h.start_decimal start_small (refl, refl),
      khz_behind-again 45 t.end (64 ∷ last) h.end_decimal end_small (refl, refl),
      khz_behind-again 64 t.width (41 ∷ rest) h.width_decimal width_small (refl, refl),
      after_byte-again 41 rest,
      ← start_is,
      ← end_is,
      ← width_is,
      test,
    ) refl

pub band_at-none : (line : List ℕ) → band_at line ≡ None → (rest : List ℕ) → BeginsWithBand line rest → ⊥
band_at-none line none rest (t, start, end, width, is, parts) = let read = ap band_at parts ∙ band_at-again t start end width rest is in cc

pub band-begins : (line : List ℕ) (band : Band) (rest : List ℕ) → ReadsBand line band rest → BeginsWithBand line rest
band-begins line band rest h = (h.text, band.start_khz, band.end_khz, band.width_khz, h.is, h.parts)
