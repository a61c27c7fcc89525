use Rattle.std.proofs.Common.{◌≡◌, ◌+◌, ◌*◌, ◌<◌, ◌∙◌, ap, subst}
use Rattle.rule_tables.specs.FileFormat.{RuleAt, target_at, u8_at}
use Rattle.rule_tables.specs.FileFaults.{rule_place}
use Rattle.db_reader.specs.inner.Parts.{IsRuleStop}
use Rattle.db_reader.proofs.Collected.{collected_more, collected_stop}
use Rattle.db_reader.proofs.collection.read_rules.Goals as goal

pub returns-in-Err : goal.returns-in-Err
returns-in-Err c =
    let b = c.args.bytes.now in
    let k = c.loop-k.k in
    let within : k < u8_at b (c.args.place + 1) = rw (c.from-count.ensures, c.u8_at.ensures) at c.loop-k-test.true in
    let place : c.target_at.result ≡ rule_place b c.args.place k =
    c.target_at.ensures.target ∙ ap (λ p. target_at b (p + 2 * k)) c.pointers_of-pointers.ensures.pointers in
    collected_stop b c.args.place k c.loop-k.rules c.args.alpha2 c.in-Err.stop _ c.loop-k.invariant within
    (subst (λ i. IsRuleStop b i c.in-Err.stop) place c.in-Err.ensures) c.rule_fault.ensures

pub loop-k-preserved : goal.loop-k-preserved
loop-k-preserved c =
    let b = c.args.bytes.now in
    let k = c.loop-k.k in
    let place : c.target_at.result ≡ rule_place b c.args.place k =
    c.target_at.ensures.target ∙ ap (λ p. target_at b (p + 2 * k)) c.pointers_of-pointers.ensures.pointers in
    collected_more b c.args.place k c.loop-k.rules c.push_new.new.self c.in-Ok.rule c.loop-k.invariant
    (subst (λ i. RuleAt b i c.in-Ok.rule) place c.in-Ok.ensures) c.in_ok-push_new-in-Ok.ensures.ok
