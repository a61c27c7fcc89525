use Rattle.std.proofs.Common.{◌≡◌, ℕ, ◌%◌, ◌<◌, ◌≤◌, take, drop, ap, ◌∙◌, arith}
use Rattle.nl_attrs.specs.Endian.{le16, le32}
use Rattle.reply_reading.proofs.Heads.{head_said, read_as, read_some, said_is_head, some_of}
use Rattle.reply_reading.proofs.request_head.is_request_head.Goals as goal

abbrev IsLength : ℕ → Type 0
IsLength n = (20 ≤ n) × (n ≤ 65536) × (n % 4 ≡ 0)

abbrev IsFamily : ℕ → Type 0
IsFamily n = (16 ≤ n) × (n < 65536)

pub returns : goal.returns
returns c =
    let head = c.args.head.now in (
      λ yes.
          let said = c.is_head.ensures.0 yes in
          let length = read_some c.u32_of-length.result (take 4 head) le32 4 IsLength said.length_is c.u32_of-length.ensures.number in
          let family = read_some c.u16_of-family.result (take 2 (drop 4 head)) le16 2 IsFamily said.family_is c.u16_of-family.ensures.number in
          let seq = read_as c.u32_of.result (take 4 (drop 8 head)) le32 c.args.seq said.seq_is c.u32_of.ensures.number in
          let pid = read_as c.u32_of-2.result (take 4 (drop 12 head)) le32 c.args.pid said.pid_is c.u32_of-2.ensures.number in
          let lengths = length.2 in let families = family.2 in
          said_is_head head length.0 family.0 c.args.seq c.args.pid c.told-head c.fits-head (record { length_is = length.3; family_is = family.3; seq_is = seq; pid_is = pid })
          lengths.0 lengths.1 lengths.2 families.0 (omega arith) c.ranges.seq.fits c.ranges.pid.fits,
      λ is.
          let said = head_said is.request head is.is is.head_is in
          let least = said.least in let most = said.most in let small = said.small in
          let length = c.u32_of-length.ensures.inverse _ (omega arith) said.has.length_is in
          let family = c.u16_of-family.ensures.inverse _ small said.has.family_is in
          c.is_head.ensures.1 (record {
            length_is = some_of c.u32_of-length.result _ IsLength length (least, most, said.whole);
            family_is = some_of c.u16_of-family.result _ IsFamily family (said.some, small);
            seq_is = c.u32_of.ensures.inverse c.args.seq c.ranges.seq.fits (said.has.seq_is ∙ ap le32 is.seq_is);
            pid_is = c.u32_of-2.ensures.inverse c.args.pid c.ranges.pid.fits (said.has.pid_is ∙ ap le32 is.pid_is);
          }),
    )
