use Rattle.std.proofs.Common.{◌≡◌, List, map}
use Rattle.std.specs.List.{AllWithin}
use Rattle.rule_tables.specs.declared.domain.Domain.{Domain}
use Rattle.rule_intersect.specs.Tables.{IsTableOf}
use Rattle.chan_flags.specs.Records.{IsRecord, IsRowFit}
use Rattle.chan_flags.proofs.radio.refit.Given as goal

abbrev pub invariant-loop-chan : goal.invariant-loop-chan
invariant-loop-chan l = record {
  records : AllWithin (λ c. IsRowFit l.t.rows c.khz c.fit) l.chans 0 l.chan-index;
  channels : map (λ c. c.khz) l.chans ≡ map (λ c. c.khz) l.initial.chans;
  law : (ds : List Domain) → IsTableOf ds l.t → AllWithin (λ c. IsRecord ds c.khz c.fit) l.chans 0 l.chan-index;
}
