-- What a line can tell, and that it tells so with any part of it told anew.
use Rattle.std.proofs.Common.{ℕ, ◌^◌, ◌<◌, ◌≤◌, inr, List, [], refl, arith}
use Rattle.std.proofs.lemmas.List.Elements.{All-cons, All-nil}
use Rattle.rule_tables.specs.Code.{IsCode}
use Rattle.rule_tables.specs.declared.code.Alpha2.{Alpha2}
use Rattle.chan_def.specs.declared.definition.ChanDef.{ChanDef}
use Rattle.chan_def.specs.declared.kind.Kind.{Kind}
use Rattle.chan_flags.specs.Profiles.{Abilities, IsProfile}
use Rattle.radio_drv.specs.Names.{IsName, IsVisible}
use Rattle.reg_journal.specs.Forms.{IsLineFrequency}
use Rattle.line_forms.specs.Spelling.{IsHexWord}
use Rattle.line_forms.specs.Told.{Told, tell_chan, tell_code, tell_digits, tell_kind, tell_moment, tell_name, tell_power, tell_profile, tell_radio}
use Rattle.line_printing.specs.Printed.{untold}

-- a line can tell this
pub record IsTold (t : Told) : Type 0 where
  pub moment : t.moment < 2 ^ 64
  pub radio : t.radio ≤ 7
  pub name : IsName t.name
  pub code : IsCode t.code
  pub digits : IsHexWord t.digits
  pub control : IsLineFrequency t.chan.control_khz
  pub centre : IsLineFrequency t.chan.centre_khz
  pub profile : IsProfile t.profile
  pub power : t.power < 2 ^ 16

first-frequency : IsLineFrequency 1000
first-frequency = record { whole = refl; least = omega arith; most = omega arith }

pub is-untold : IsTold untold
is-untold = record {
  moment = omega arith;
  radio = omega arith;
  name = record { some = omega arith; few = omega arith; visible = All-cons IsVisible 45 [] (omega arith, omega arith) (All-nil IsVisible) };
  code = inr (refl, refl);
  digits = record { some = omega arith; few = omega arith; even = refl; digits = refl };
  control = first-frequency;
  centre = first-frequency;
  profile = record { some_band = refl; width = refl; radar = refl; some_context = omega arith; few_contexts = omega arith; power_fits = omega arith };
  power = omega arith;
}

pub told-moment : (n : ℕ) (t : Told) → n < 2 ^ 64 → IsTold t → IsTold (tell_moment n t)
told-moment n t is told = record { moment = is; radio = told.radio; name = told.name; code = told.code; digits = told.digits; control = told.control; centre = told.centre; profile = told.profile; power = told.power }

pub told-radio : (r : ℕ) (t : Told) → r ≤ 7 → IsTold t → IsTold (tell_radio r t)
told-radio r t is told = record { moment = told.moment; radio = is; name = told.name; code = told.code; digits = told.digits; control = told.control; centre = told.centre; profile = told.profile; power = told.power }

pub told-name : (w : List ℕ) (t : Told) → IsName w → IsTold t → IsTold (tell_name w t)
told-name w t is told = record { moment = told.moment; radio = told.radio; name = is; code = told.code; digits = told.digits; control = told.control; centre = told.centre; profile = told.profile; power = told.power }

pub told-kind : (k : Kind) (t : Told) → IsTold t → IsTold (tell_kind k t)
told-kind k t told = record { moment = told.moment; radio = told.radio; name = told.name; code = told.code; digits = told.digits; control = told.control; centre = told.centre; profile = told.profile; power = told.power }

pub told-code : (a : Alpha2) (t : Told) → IsCode a → IsTold t → IsTold (tell_code a t)
told-code a t is told = record { moment = told.moment; radio = told.radio; name = told.name; code = is; digits = told.digits; control = told.control; centre = told.centre; profile = told.profile; power = told.power }

pub told-digits : (w : List ℕ) (t : Told) → IsHexWord w → IsTold t → IsTold (tell_digits w t)
told-digits w t is told = record { moment = told.moment; radio = told.radio; name = told.name; code = told.code; digits = is; control = told.control; centre = told.centre; profile = told.profile; power = told.power }

pub told-chan : (c : ChanDef) (t : Told) → IsLineFrequency c.control_khz → IsLineFrequency c.centre_khz → IsTold t → IsTold (tell_chan c t)
told-chan c t control centre told = record { moment = told.moment; radio = told.radio; name = told.name; code = told.code; digits = told.digits; control = control; centre = centre; profile = told.profile; power = told.power }

pub told-profile : (p : Abilities) (t : Told) → IsProfile p → IsTold t → IsTold (tell_profile p t)
told-profile p t is told = record { moment = told.moment; radio = told.radio; name = told.name; code = told.code; digits = told.digits; control = told.control; centre = told.centre; profile = is; power = told.power }

pub told-power : (n : ℕ) (t : Told) → n < 2 ^ 16 → IsTold t → IsTold (tell_power n t)
told-power n t is told = record { moment = told.moment; radio = told.radio; name = told.name; code = told.code; digits = told.digits; control = told.control; centre = told.centre; profile = told.profile; power = is }
