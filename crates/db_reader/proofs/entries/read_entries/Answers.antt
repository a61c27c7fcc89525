use Rattle.rule_tables.specs.FileFormat.{EndsAt}
use Rattle.db_reader.proofs.Entered.{entered_more, entries_stop, in_list_before}
use Rattle.db_reader.proofs.Stops.{handed_on}
use Rattle.db_reader.proofs.entries.read_entries.Goals as goal

pub returns-in_err-domain : goal.returns-in_err-domain
returns-in_err-domain c =
    let b = c.args.bytes.now in
    let k = c.loop-k.k in
    let here : EndsAt b k → ⊥ = λ ends. (let t = c.if-ends_at.ensures.1 ends in cc) in
    handed_on c.from_residual.result c.in_err-domain.field-0.0 _ _ c.from_residual.ensures.1
    (entries_stop b k c.loop-k.db c.in_err-domain.field-0.0 c.loop-k.invariant.so_far c.loop-k.invariant.going here c.in_err-domain.ensures)

pub loop-k-preserved : goal.loop-k-preserved
loop-k-preserved c =
    let b = c.args.bytes.now in
    let k = c.loop-k.k in
    let here : EndsAt b k → ⊥ = λ ends. (let t = c.if-ends_at.ensures.1 ends in cc) in
    record {
      db = c.in_ok-insert_new.ensures.db;
      so_far = entered_more b k c.loop-k.db c.insert_new.new.self c.in_ok-domain.domain c.loop-k.invariant.so_far c.in_ok-domain.ensures c.in_ok-insert_new.ensures.ok;
      going = in_list_before b k c.loop-k.invariant.going here;
    }
