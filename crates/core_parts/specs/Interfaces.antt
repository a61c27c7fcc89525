-- What is asked of the interfaces that are there, and done to them.
use Rattle.std.specs.Prelude.{◌≢◌, ℕ, ◌==◌, Bool, not, List, map, filter, find, Contains, Option, if◌then◌else◌}
use Rattle.std.specs.Option.{option_map}
use Rattle.chan_def.specs.declared.kind.Kind.{Kind}
use Rattle.chan_flags.specs.declared.verdict.PowerSetting.{PowerSetting}
use Rattle.reg_books.specs.Slots.{free_slot}
use Rattle.core_parts.specs.declared.interface.Interface.{Interface}
use Rattle.core_parts.specs.declared.interface.Running.{Running}
use Rattle.reg_base.specs.Texts.{same_bytes}

-- the interface of this name
abbrev pub interface_named : List Interface → List ℕ → Option Interface
interface_named interfaces name = find (λ p. same_bytes p.name name) interfaces

abbrev pub is_on_radio : ℕ → Interface → Bool
is_on_radio r p = p.radio == r

-- those of the radio, in order of creation
abbrev pub interfaces_on : List Interface → ℕ → List Interface
interfaces_on interfaces r = filter (is_on_radio r) interfaces

-- the least slot that none of the radio's has
abbrev pub slot_on : List Interface → ℕ → ℕ
slot_on interfaces r = free_slot (map (λ p. p.slot) (interfaces_on interfaces r))

abbrev pub with_operation : ℕ → Option Running → Interface → Interface
with_operation i operation p = if p.index == i then record p { operation = operation } else p

-- the operation with this power
abbrev pub running_with_power : ℕ → Running → Running
running_with_power power o = record { chan = o.chan; power_mbm = power }

abbrev pub with_running_power : ℕ → ℕ → Interface → Interface
with_running_power i power p = if p.index == i then record p { operation = option_map (running_with_power power) p.operation } else p

-- the interface of this index gets the power setting
abbrev pub with_interface_setting : ℕ → PowerSetting → Interface → Interface
with_interface_setting i setting p = if p.index == i then record p { setting = setting } else p

-- the interface of this index gets the kind
abbrev pub with_interface_kind : ℕ → Kind → Interface → Interface
with_interface_kind i kind p = if p.index == i then record p { kind = kind } else p

-- it isn't the one of this index
abbrev pub is_other : ℕ → Interface → Bool
is_other i p = not (p.index == i)

-- none of them is the one of this index
abbrev pub AreOthers : ℕ → List Interface → Type 0
AreOthers i interfaces = (p : Interface) → Contains interfaces p → p.index ≢ i
