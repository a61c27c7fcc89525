-- On which channels the interfaces of a radio are.
use Rattle.std.specs.Prelude.{◌≡◌, ℕ, ◌==◌, ◌&&◌, List, [], ◌∷◌, ◌++◌, Contains, Option, None, if◌then◌else◌}
use Rattle.std.specs.List.{list_any}
use Rattle.std.specs.Option.{option_map}
use Rattle.chan_def.specs.declared.definition.ChanDef.{ChanDef}
use Rattle.rule_tables.specs.declared.domain.Domain.{Domain}
use Rattle.dfs_states.specs.Book.{Book}
use Rattle.dfs_states.specs.StandsFor.{BookStandsFor}
use Rattle.reg_journal.specs.Due.{EachMayFollow}
use Rattle.reg_journal.specs.Facts.{Journal}
use Rattle.chan_def.specs.Same.{is_same_channel}
use Rattle.reg_journal.specs.Permits.{channel_of}
use Rattle.reg_journal.specs.Present.{Check, Iface, check_of, ifaces_of, is_apart}
use Rattle.reg_books.specs.Calls.{calls_of, opening_of}
use Rattle.core_parts.specs.Kept.{kept}
use Rattle.core_parts.specs.declared.interface.Interface.{Interface}

-- the interface is kept of this interface, which is there, and the book is its radio's
pub record IsOf (db : List Domain) (J : Journal) (x : Iface) (book : Book) (interface : Interface) : Type 0 where
  pub due : EachMayFollow db J
  pub there : Contains (ifaces_of J) x
  pub interface_is : interface ≡ kept J x
  pub channels : List ℕ
  pub book_is : BookStandsFor book channels (opening_of db x.radio) (calls_of db J x.radio)

-- and the other interface is kept of the interface y, which is there too
pub record IsBeside (db : List Domain) (J : Journal) (x y : Iface) (book : Book) (interface other : Interface) : Type 0 where
  pub of : IsOf db J x book interface
  pub other_there : Contains (ifaces_of J) y
  pub other_is : other ≡ kept J y

-- the channel of the interface's running check
abbrev pub checked_channel : Journal → Iface → Option ChanDef
checked_channel J x = option_map (λ (k : Check). k.chan) (check_of J x.index)

-- the channel that y is on, where it is another interface of x's radio
abbrev pub channel_beside : Journal → Iface → Iface → Option ChanDef
channel_beside J x y = if (y.radio == x.radio) && is_apart x.index y then channel_of J y else None

-- these channels, and this one where it isn't among them
abbrev pub added : List ChanDef → ChanDef → List ChanDef
added found c = if list_any (is_same_channel c) found then found else found ++ c ∷ []
