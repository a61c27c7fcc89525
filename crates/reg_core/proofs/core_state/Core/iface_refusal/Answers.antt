use Rattle.std.proofs.Common.{◌≡◌, ◌≤◌, ◌⊎◌, length, refl, ap, ◌∙◌, inl, inr, arith}
use Rattle.std.proofs.lemmas.Bool.{false≢true}
use Rattle.reg_journal.proofs.Granting.{free-before, free-where}
use Rattle.reg_journal.specs.Present.{ifaces_on, made_of, most_made}
use Rattle.core_parts.specs.Interfaces.{interfaces_on}
use Rattle.core_parts.proofs.KeptInterfaces.{count_on-kept, none_named, some_named}
use Rattle.reg_core.proofs.core_state.Core.iface_refusal.Goals as goal
use Rattle.reg_core.proofs.core_state.Core.iface_refusal.Goals.{then-count_on-ge-MOST_ON_RADIO-via-then-count_on-ge-MOST_ON_RADIO, then-count_on-ge-MOST_ON_RADIO-via-else-count_on-ge-MOST_ON_RADIO+then-self-ge4294967295}

pub returns-in_default : goal.returns-in_default
returns-in_default c = record { due = λ db J s. tt; first = λ db J s. inl (c.in_default.ensures.kept db J s.radios, refl) }

pub returns-in-Some-interface_named : goal.returns-in-Some-interface_named
returns-in-Some-interface_named c = record {
  due = λ db J s. tt;
  first = λ db J s.
      let there = (c.in-Some.ensures.kept db J s.radios).profile in
      let taken = some_named J c.args.name.now c.as_slice-interfaces.result.now c.in-Some-interface_named._interface.now (c.as_slice-interfaces.ensures.items ∙ s.interfaces) c.in-Some-interface_named.ensures in
      let named = taken.1 in
      inr (free-where _ _ (λ gone. absurd (cc (gone, there))), inl (rw named refl, refl));
}

pub returns-then-count_on-ge-MOST_ON_RADIO : goal.returns-then-count_on-ge-MOST_ON_RADIO
returns-then-count_on-ge-MOST_ON_RADIO c = record {
  due = λ db J s. tt;
  first = λ db J s.
      let there = (c.in-Some.ensures.kept db J s.radios).profile in
      let same = c.as_slice-interfaces.ensures.items ∙ s.interfaces in
      let none = none_named J c.args.name.now c.as_slice-interfaces.result.now same c.in_default-interface_named.ensures in
      let count : c.count_on.result ≡ length (ifaces_on J c.args.radio) = c.count_on.ensures ∙ ap (λ ps. length (interfaces_on ps c.args.radio)) same ∙ count_on-kept J c.args.radio in
      let made = s.made in
      let full : (8 ≤ length (ifaces_on J c.args.radio)) ⊎ (most_made ≤ made_of J) = elim c.then-count_on-ge-MOST_ON_RADIO.branch [
        | then-count_on-ge-MOST_ON_RADIO-via-then-count_on-ge-MOST_ON_RADIO w ↦ let many = w.if-count_on-ge-MOST_ON_RADIO.true in inl (omega (arith, many, count))
        | then-count_on-ge-MOST_ON_RADIO-via-else-count_on-ge-MOST_ON_RADIO+then-self-ge4294967295 w ↦ let last = w.if-self-ge4294967295.true in inr (omega (arith, last, made))
      ] in
      inr (free-where _ _ (λ gone. absurd (cc (gone, there))), inr (free-where _ _ (λ taken. absurd (false≢true (rw none at taken))), (full, refl)));
}

pub returns : goal.returns
returns c = record {
  due = λ db J s kind.
      let there = (c.in-Some.ensures.kept db J s.radios).profile in
      let same = c.as_slice-interfaces.ensures.items ∙ s.interfaces in
      let none = none_named J c.args.name.now c.as_slice-interfaces.result.now same c.in_default-interface_named.ensures in
      let count : c.count_on.result ≡ length (ifaces_on J c.args.radio) = c.count_on.ensures ∙ ap (λ ps. length (interfaces_on ps c.args.radio)) same ∙ count_on-kept J c.args.radio in
      let made = s.made in
      let few = c.if-count_on-ge-MOST_ON_RADIO.false in
      let last = c.if-self-ge4294967295.false in
      (refl, omega (arith, last, made), none, rw there refl, omega (arith, few, count), c.as_bytes-bytes.ensures.name);
  first = λ db J s.
      let there = (c.in-Some.ensures.kept db J s.radios).profile in
      let same = c.as_slice-interfaces.ensures.items ∙ s.interfaces in
      let none = none_named J c.args.name.now c.as_slice-interfaces.result.now same c.in_default-interface_named.ensures in
      let count : c.count_on.result ≡ length (ifaces_on J c.args.radio) = c.count_on.ensures ∙ ap (λ ps. length (interfaces_on ps c.args.radio)) same ∙ count_on-kept J c.args.radio in
      free-before _ _ (free-where _ _ (λ gone. absurd (cc (gone, there))))
      (free-before _ _ (free-where _ _ (λ taken. absurd (false≢true (rw none at taken))))
      (free-where _ _ (λ full. elim full [
        | inl many ↦ let few = c.if-count_on-ge-MOST_ON_RADIO.false in absurd (omega (arith, many, few, count))
        | inr all_made ↦ let last = c.if-self-ge4294967295.false in let made = s.made in absurd (omega (arith, all_made, last, made))
      ])));
}
