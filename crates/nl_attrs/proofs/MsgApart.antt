-- No spelling of a message begins another.
use Rattle.std.proofs.Common.{◌≡◌, ℕ, ◌+◌, ◌^◌, ◌<◌, List, [], ◌∷◌, ◌++◌, length, sym, ap, ◌∙◌, append_assoc, arith}
use Rattle.std.specs.Prelude.{ℤ, FitsSigned}
use Rattle.std.specs.Int.{w32, cast_unsigned, cast_signed}
use Rattle.std.proofs.Math.Facts.{Fits-of_z}
use Rattle.std.proofs.lemmas.Int.{to_z-of_z}
use Rattle.nl_attrs.specs.Endian.{le16, le32}
use Rattle.nl_attrs.specs.Attributes.{attrs_bytes}
use Rattle.nl_attrs.specs.Messages.{IsMsg, FitsBody, head_bytes, spelled, body_of, type_of, header_flags, seq_of, pid_of}
use Rattle.nl_attrs.specs.declared.message.Msg.{Msg}
use Rattle.nl_attrs.specs.declared.message.Msg.TheVariants.{Generic, Error, Done}
use Rattle.nl_attrs.proofs.Lengths.{length-spelled}
use Rattle.nl_attrs.proofs.Apart.{same_front, le16-apart, le32-apart}
use Rattle.nl_attrs.proofs.AttrLaws.{one_list}

-- the numbers of a head fit their fields
pub record FitsHead (len kind flags seq pid : ℕ) : Type 0 where
  pub len_fits : len < 2 ^ 32
  pub kind_fits : kind < 2 ^ 16
  pub flags_fit : flags < 2 ^ 16
  pub seq_fits : seq < 2 ^ 32
  pub pid_fits : pid < 2 ^ 32

-- the numbers of two heads, and what stands behind them
pub record SameHead (len kind flags seq pid len' kind' flags' seq' pid' : ℕ) (r s : List ℕ) : Type 0 where
  pub len_same : len ≡ len'
  pub kind_same : kind ≡ kind'
  pub flags_same : flags ≡ flags'
  pub seq_same : seq ≡ seq'
  pub pid_same : pid ≡ pid'
  pub rest_same : r ≡ s

pub head_regrouped : (len kind flags seq pid : ℕ) (r : List ℕ) → head_bytes len kind flags seq pid ++ r ≡ le32 len ++ (le16 kind ++ (le16 flags ++ (le32 seq ++ (le32 pid ++ r))))
unfolding head_bytes
head_regrouped len kind flags seq pid r = simp append_assoc

head-apart : (len kind flags seq pid len' kind' flags' seq' pid' : ℕ) (r s : List ℕ) → FitsHead len kind flags seq pid → FitsHead len' kind' flags' seq' pid' → head_bytes len kind flags seq pid ++ r ≡ head_bytes len' kind' flags' seq' pid' ++ s
    → SameHead len kind flags seq pid len' kind' flags' seq' pid' r s
head-apart len kind flags seq pid len' kind' flags' seq' pid' r s fits fits' e =
    let grouped = sym (head_regrouped len kind flags seq pid r) ∙ e ∙ head_regrouped len' kind' flags' seq' pid' s in
    let one = le32-apart len len' _ _ fits.len_fits fits'.len_fits grouped in
    let two = le16-apart kind kind' _ _ fits.kind_fits fits'.kind_fits one.1 in
    let three = le16-apart flags flags' _ _ fits.flags_fit fits'.flags_fit two.1 in
    let four = le32-apart seq seq' _ _ fits.seq_fits fits'.seq_fits three.1 in
    let five = le32-apart pid pid' r s fits.pid_fits fits'.pid_fits four.1 in
    record {
      len_same = one.0;
      kind_same = two.0;
      flags_same = three.0;
      seq_same = four.0;
      pid_same = five.0;
      rest_same = five.1;
    }

type_of-lt : (m : Msg) → FitsBody m → type_of m < 2 ^ 16
type_of-lt (Generic family flags seq pid cmd version attrs) fits = fits.1
type_of-lt (Error flags seq pid code head) fits = omega arith
type_of-lt (Done flags seq pid code) fits = omega arith

pub FitsHead-msg : (m : Msg) → IsMsg m → FitsHead (16 + length (body_of m)) (type_of m) (header_flags m) (seq_of m) (pid_of m)
FitsHead-msg m is =
    let short = is.short in
    record {
      len_fits = omega (arith, length-spelled m);
      kind_fits = type_of-lt m is.body;
      flags_fit = is.flags;
      seq_fits = is.seq;
      pid_fits = is.pid;
    }

-- two codes of the same bytes are one
code-apart : (a b : ℤ) (r s : List ℕ) → FitsSigned w32 a → FitsSigned w32 b → le32 (cast_unsigned w32 a) ++ r ≡ le32 (cast_unsigned w32 b) ++ s → (a ≡ b) × (r ≡ s)
code-apart a b r s fits_a fits_b e =
    let parts = le32-apart (cast_unsigned w32 a) (cast_unsigned w32 b) r s (Fits-of_z fits_a).fits (Fits-of_z fits_b).fits e in
    (sym (to_z-of_z w32 a fits_a) ∙ ap (cast_signed w32) parts.0 ∙ to_z-of_z w32 b fits_b, parts.1)

generic_cells : (c v c' v' : ℕ) (r s : List ℕ) → ◌≡◌ {A = List ℕ} (c ∷ v ∷ 0 ∷ 0 ∷ r) (c' ∷ v' ∷ 0 ∷ 0 ∷ s) → (c ≡ c') × (v ≡ v') × (r ≡ s)
generic_cells c v c' v' r s e = (cc, cc, cc)

same_msg : (m n : Msg) → FitsBody m → FitsBody n → type_of m ≡ type_of n → header_flags m ≡ header_flags n → seq_of m ≡ seq_of n → pid_of m ≡ pid_of n → body_of m ≡ body_of n → m ≡ n
same_msg (Generic family flags seq pid cmd version attrs) (Generic family' flags' seq' pid' cmd' version' attrs') fits fits' types flagses seqs pids bodies =
    let cells = generic_cells cmd version cmd' version' (attrs_bytes attrs) (attrs_bytes attrs') bodies in
    let lists = one_list attrs attrs' fits.4 fits'.4 cells.2 in
    λ i. Generic (types i) (flagses i) (seqs i) (pids i) (cells.0 i) (cells.1 i) (lists i)
same_msg (Generic family flags seq pid cmd version attrs) (Error flags' seq' pid' code head) fits fits' types flagses seqs pids bodies =
    let high = fits.0 in
    absurd (omega arith)
same_msg (Generic family flags seq pid cmd version attrs) (Done flags' seq' pid' code) fits fits' types flagses seqs pids bodies =
    let high = fits.0 in
    absurd (omega arith)
same_msg (Error flags seq pid code head) (Generic family flags' seq' pid' cmd version attrs) fits fits' types flagses seqs pids bodies =
    let high = fits'.0 in
    absurd (omega arith)
same_msg (Error flags seq pid code head) (Error flags' seq' pid' code' head') fits fits' types flagses seqs pids bodies =
    let parts = code-apart code code' head head' fits.0 fits'.0 bodies in
    λ i. Error (flagses i) (seqs i) (pids i) (parts.0 i) (parts.1 i)
same_msg (Error flags seq pid code head) (Done flags' seq' pid' code') fits fits' types flagses seqs pids bodies = absurd (omega arith)
same_msg (Done flags seq pid code) (Generic family flags' seq' pid' cmd version attrs) fits fits' types flagses seqs pids bodies =
    let high = fits'.0 in
    absurd (omega arith)
same_msg (Done flags seq pid code) (Error flags' seq' pid' code' head) fits fits' types flagses seqs pids bodies = absurd (omega arith)
same_msg (Done flags seq pid code) (Done flags' seq' pid' code') fits fits' types flagses seqs pids bodies =
    let parts = code-apart code code' [] [] fits fits' (ap (λ (x : List ℕ). x ++ []) bodies) in
    λ i. Done (flagses i) (seqs i) (pids i) (parts.0 i)

pub msg_regrouped : (m : Msg) (r : List ℕ) → spelled m ++ r ≡ head_bytes (16 + length (body_of m)) (type_of m) (header_flags m) (seq_of m) (pid_of m) ++ (body_of m ++ r)
unfolding spelled
msg_regrouped m r = append_assoc (head_bytes (16 + length (body_of m)) (type_of m) (header_flags m) (seq_of m) (pid_of m)) (body_of m) r

pub msg-apart : (m n : Msg) (r s : List ℕ) → IsMsg m → IsMsg n → spelled m ++ r ≡ spelled n ++ s → (m ≡ n) × (r ≡ s)
msg-apart m n r s is_m is_n e =
    let same = head-apart _ _ _ _ _ _ _ _ _ _ (body_of m ++ r) (body_of n ++ s) (FitsHead-msg m is_m) (FitsHead-msg n is_n) (sym (msg_regrouped m r) ∙ e ∙ msg_regrouped n s) in
    let long : length (body_of m) ≡ length (body_of n) = omega (arith, same.len_same) in
    let bodies = same_front (body_of m) (body_of n) r s long same.rest_same in
    (same_msg m n is_m.body is_n.body same.kind_same same.flags_same same.seq_same same.pid_same bodies.0, bodies.1)
