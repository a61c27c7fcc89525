use Rattle.std.proofs.Common.{rules, ◌≡◌, ◌∷◌, [], ℕ, length, get_or, arith, sym, subst, ap, ◌∙◌}
use Rattle.std.proofs.Math.ListN.{set}
use Rattle.std.proofs.lemmas.List.{length-append}
use Rattle.core_parts.specs.Hinting.{IsNewTable}
use Rattle.core_parts.proofs.NewTables.{table_at}
use Rattle.core_parts.specs.declared.radio.RadioPlace.{RadioPlace}
use Rattle.core_parts.specs.declared.radio.RadioPlace.TheVariants.{Free}
use Rattle.core_parts.proofs.KeptOn.{Retunes}
use Rattle.core_parts.proofs.Places.{AreDoneFrom, one_before_done}
use Rattle.core_parts.proofs.Taken.{IsPopped, popped}
use Rattle.core_parts.proofs.hinting.retune_all.Goals as goal

last_table : (c : goal.After-index-radios-number) → IsPopped c.args.tables.items c.pop.new.self.items c.in-Some.table
last_table c =
    popped c.args.tables.items c.places.tables.items c.pop.new.self.items c.in-Some.table c.places.invariant.tables c.places.invariant.few c.in-Some.ensures.items

same_number : (c : goal.After-index-radios-number) → c.len-number.result ≡ length c.pop.new.self.items
same_number c = search rules

pub retune_place-requires : goal.retune_place-requires
retune_place-requires c =
    let db = c.args.domains.now in
    let after = c.args.after.now in
    let hint = c.args.hint.now in
    let rest = c.pop.new.self.items in
    let place = c.index-radios-number.result in
    let len = ap length c.in-Some.ensures.items ∙ length-append rest (c.in-Some.table ∷ []) in
    record {
      table = subst (λ n. IsNewTable db after hint n (get_or c.places.radios n place) c.in-Some.table) (sym (same_number c))
          (table_at db after hint c.args.radios.now c.places.radios c.args.tables.items rest c.in-Some.table place c.requires.tables (last_table c) c.places.auto.radios
          (c.places.invariant.done.rest (length rest) (omega (arith, len))));
    }

pub places-preserved : goal.places-preserved
places-preserved c =
    let db = c.args.domains.now in
    let before = c.args.before.now in
    let after = c.args.after.now in
    let hint = c.args.hint.now in
    let P : ℕ → RadioPlace → RadioPlace → Type 0 = Retunes db before after hint in
    let rest = c.pop.new.self.items in
    let n = length rest in
    let place = c.index-radios-number.result in
    let last = last_table c.before in
    let within = last.within in
    let all = c.requires.tables.all in
    let long = c.places.auto.radios in
    let len = ap length c.in-Some.ensures.items ∙ length-append rest (c.in-Some.table ∷ []) in
    let done = subst (λ k. AreDoneFrom P Free c.args.radios.now c.places.radios k) len c.places.invariant.done in
    let step : P n (get_or c.places.radios n place) c.retune_place.new.place =
    subst (λ k. P k (get_or c.places.radios k place) c.retune_place.new.place) (same_number c.before) c.retune_place.ensures.kept in
    record {
      done = subst (λ k. AreDoneFrom P Free c.args.radios.now (set c.places.radios k c.retune_place.new.place) n) (sym (same_number c.before))
          (one_before_done P Free c.args.radios.now c.places.radios n place c.retune_place.new.place done (omega (arith, within, all, long)) step);
      tables = last.front;
      few = omega (arith, within);
    }
