-- Channels are in whole MHz, and interfaces have names.
use Rattle.std.proofs.Common.{◌≡◌, ℕ, ◌/◌, ◌%◌, List, [], ◌∷◌, Contains, Option, Some, None, option_map, arith, refl, sym, ap, subst, ◌∙◌, inl, inr, eq-eqb, ne_eqb}
use Rattle.std.proofs.lemmas.Bool.{cases_eq}
use Rattle.std.proofs.lemmas.List.Elements.{Contains-push_cases}
use Rattle.std.proofs.lemmas.Option.{none-some, same_Some}
use Rattle.freq_range.specs.Channels.{IsCentre}
use Rattle.freq_range.specs.declared.channel.Band.TheVariants.{Ghz2, Ghz5, Ghz6}
use Rattle.freq_range.proofs.Members.{Contains-nothing}
use Rattle.rule_tables.specs.declared.domain.Domain.{Domain}
use Rattle.chan_def.specs.Covered.{width_khz, IsCovered, IsValidDef}
use Rattle.chan_def.specs.declared.definition.ChanDef.{ChanDef}
use Rattle.chan_def.specs.declared.kind.Kind.{Kind}
use Rattle.chan_def.specs.declared.width.Width.{Width}
use Rattle.chan_def.specs.declared.width.Width.TheVariants.{Noht, W20, W40, W80, W160, W320}
use Rattle.chan_flags.specs.declared.verdict.PowerSetting.{PowerSetting}
use Rattle.radio_drv.specs.Names.{IsName}
use Rattle.reg_journal.specs.Due.{EachMayFollow}
use Rattle.reg_journal.specs.Facts.{Journal, made, ended, typed, set_to, started, stopped, powered, check_begun, check_dropped}
use Rattle.reg_journal.specs.Forms.{IsWholeChannel, IsWholeMhz}
use Rattle.reg_journal.specs.Present.{Check, Iface, Operation, check_of, ifaces_of, is_apart, last_check_of, new_iface, now_of, operation_of, operation_with_power, with_kind, with_setting}
use Rattle.reg_journal.proofs.LastCheck.{check_parts}
use Rattle.reg_journal.proofs.Listed.{Contains-filter, Contains-map}
use Rattle.reg_journal.proofs.Ranges.{ArePlain}

-- ---- whole MHz

-- a channel of the table is
whole_centre : (khz : ℕ) → IsCentre khz → IsWholeMhz khz
whole_centre khz (Ghz2, n, inl (least, most, at)) = omega (arith, at)
whole_centre khz (Ghz2, n, inr (last, at)) = omega (arith, at)
whole_centre khz (Ghz5, n, (step, at)) = omega (arith, at)
whole_centre khz (Ghz6, n, (step, at)) = omega (arith, at)

-- half a width is
half_whole : (w : Width) → width_khz w / 2 % 1000 ≡ 0
half_whole Noht = refl
half_whole W20 = refl
half_whole W40 = refl
half_whole W80 = refl
half_whole W160 = refl
half_whole W320 = refl

-- so are the control frequency, the centre and each subchannel of a valid channel
pub whole_channel : (c : ChanDef) → IsValidDef c → IsWholeChannel c
whole_channel c valid =
    let control = whole_centre c.control_khz valid.in_table in
    let half = half_whole c.width in
    let at = valid.on_channel.1.at in
    (control, omega (arith, control, half, at))

pub whole_subchannel : (c : ChanDef) (s : ℕ) → IsValidDef c → IsCovered c s → IsWholeMhz s
whole_subchannel c s valid covered =
    let centre = (whole_channel c valid).1 in
    let half = half_whole c.width in
    let at = covered.1.at in
    omega (arith, centre, half, at)

-- ---- channels of operations and checks

pub operation_valid : (db : List Domain) (J : Journal) (i : ℕ) (o : Operation) → EachMayFollow db J → operation_of J i ≡ Some o → IsValidDef o.chan
operation_valid db [] i o due is = absurd (none-some o is)
operation_valid db (started j c power ∷ J) i o due is = elim (cases_eq i j) [
  | inl same ↦ subst (λ (p : Operation). IsValidDef p.chan) (same_Some (record { chan = c; power = power }) o (rw (eq-eqb i j same) at is)) due.0.1
  | inr other ↦ operation_valid db J i o due.1 (rw (ne_eqb i j other) at is)
]
operation_valid db (stopped j ∷ J) i o due is = elim (cases_eq i j) [
  | inl same ↦ absurd (none-some o (rw (eq-eqb i j same) at is))
  | inr other ↦ operation_valid db J i o due.1 (rw (ne_eqb i j other) at is)
]
operation_valid db (powered j power ∷ J) i o due is = elim (cases_eq i j) [
  | inl same ↦ by (operation_of J i) (λ p at. operation_valid db J i p due.1 at) refl (rw (eq-eqb i j same) at is)
  | inr other ↦ operation_valid db J i o due.1 (rw (ne_eqb i j other) at is)
]
  where
    by : (p : Option Operation) → ((q : Operation) → operation_of J i ≡ Some q → IsValidDef q.chan) → operation_of J i ≡ p → option_map (operation_with_power power) p ≡ Some o → IsValidDef o.chan
    by None each at none = absurd (none-some o none)
    by (Some q) each at some = subst (λ (p : Operation). IsValidDef p.chan) (same_Some (operation_with_power power q) o some) (each q at)
operation_valid db (f ∷ J) i o due is = operation_valid db J i o due.1 is

last_check_valid : (db : List Domain) (J : Journal) (i : ℕ) (k : Check) → EachMayFollow db J → last_check_of J i ≡ Some k → IsValidDef k.chan
last_check_valid db [] i k due is = absurd (none-some k is)
last_check_valid db (check_begun j c length ∷ J) i k due is = elim (cases_eq i j) [
  | inl same ↦ subst (λ (p : Check). IsValidDef p.chan) (same_Some (record { chan = c; begin = now_of J; length = length }) k (rw (eq-eqb i j same) at is)) due.0.2
  | inr other ↦ last_check_valid db J i k due.1 (rw (ne_eqb i j other) at is)
]
last_check_valid db (check_dropped j ∷ J) i k due is = elim (cases_eq i j) [
  | inl same ↦ absurd (none-some k (rw (eq-eqb i j same) at is))
  | inr other ↦ last_check_valid db J i k due.1 (rw (ne_eqb i j other) at is)
]
last_check_valid db (f ∷ J) i k due is = last_check_valid db J i k due.1 is

pub check_valid : (db : List Domain) (J : Journal) (i : ℕ) (k : Check) → EachMayFollow db J → check_of J i ≡ Some k → IsValidDef k.chan
check_valid db J i k due is = last_check_valid db J i k due (check_parts J i k is).0

-- ---- names

name-with_kind : (i : ℕ) (kind : Kind) (x : Iface) → (with_kind i kind x).name ≡ x.name
name-with_kind i kind x = elim (cases_eq x.index i) [ inl same ↦ rw (eq-eqb x.index i same) refl | inr other ↦ rw (ne_eqb x.index i other) refl ]

name-with_setting : (i : ℕ) (setting : PowerSetting) (x : Iface) → (with_setting i setting x).name ≡ x.name
name-with_setting i setting x = elim (cases_eq x.index i) [ inl same ↦ rw (eq-eqb x.index i same) refl | inr other ↦ rw (ne_eqb x.index i other) refl ]

-- each interface that is there has a name
pub iface_named : (J : Journal) (x : Iface) → ArePlain J → Contains (ifaces_of J) x → IsName x.name
iface_named [] x plain has = absurd (Contains-nothing x has)
iface_named (made i name r kind ∷ J) x plain has = elim (Contains-push_cases (ifaces_of J) (new_iface i name r kind) x has) [
  | inl was ↦ iface_named J x plain.1 was
  | inr new ↦ subst (λ (y : Iface). IsName y.name) new plain.0
]
iface_named (ended i ∷ J) x plain has = iface_named J x plain.1 (Contains-filter (is_apart i) (ifaces_of J) x has).1
iface_named (typed i kind ∷ J) x plain has =
    let was = Contains-map (with_kind i kind) (ifaces_of J) x has in
    subst IsName (sym (name-with_kind i kind was.0) ∙ ap (λ (y : Iface). y.name) was.2) (iface_named J was.0 plain.1 was.1)
iface_named (set_to i setting ∷ J) x plain has =
    let was = Contains-map (with_setting i setting) (ifaces_of J) x has in
    subst IsName (sym (name-with_setting i setting was.0) ∙ ap (λ (y : Iface). y.name) was.2) (iface_named J was.0 plain.1 was.1)
iface_named (f ∷ J) x plain has = iface_named J x plain.1 has
