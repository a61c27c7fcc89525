-- The requests of radios that are left.
use Rattle.std.specs.Prelude.{ℕ, zero, suc, ◌+◌, List, [], ◌∷◌, ◌++◌}
use Rattle.chan_def.specs.declared.kind.Kind.TheVariants.{Ap, Station}
use Rattle.reg_journal.specs.declared.request.Request.{Request}
use Rattle.reg_journal.specs.declared.request.Request.TheVariants.{IfaceAdd}
use Rattle.reg_make.specs.declared.radios.Part.{Part}
use Rattle.reg_make.specs.declared.radios.Part.TheVariants.{Whole, Ifaces, LastIface}
use Rattle.reg_make.specs.Made.{ap_name, sta_name, of_radio, of_radios}

-- what is left of one radio
abbrev pub left_of_one : Part → ℕ → List Request
left_of_one Whole r = of_radio r
left_of_one Ifaces r = IfaceAdd r (ap_name r) Ap ∷ IfaceAdd r (sta_name r) Station ∷ []
left_of_one LastIface r = IfaceAdd r (sta_name r) Station ∷ []

-- what is left of n radios from number r on, of which the first is left in part
unfoldable pub left_of_radios : ℕ → ℕ → Part → List Request
left_of_radios zero r part = []
left_of_radios (suc n) r part = left_of_one part r ++ of_radios n (r + 1)
