-- What the last hint was.
use Rattle.std.specs.Prelude.{ℕ, ◌==◌, Bool, true, false, not}
use Rattle.rule_tables.specs.World.{world}
use Rattle.rule_tables.specs.declared.code.Alpha2.{Alpha2}
use Rattle.reg_hints.specs.declared.hint.Last.{Last}
use Rattle.reg_hints.specs.declared.hint.Last.TheVariants.{Core, User, Driver, Element}

-- the code that the last hint named; the core's own counts as the world's
abbrev pub last_code : Last → Alpha2
last_code Core = world
last_code (User alpha2 intersected) = alpha2
last_code (Driver alpha2) = alpha2
last_code (Element radio alpha2) = alpha2

-- the core's own hint
abbrev pub is_core : Last → Bool
is_core Core = true
is_core (User alpha2 intersected) = false
is_core (Driver alpha2) = false
is_core (Element radio alpha2) = false

-- a user's hint that was intersected
abbrev pub is_intersected_user : Last → Bool
is_intersected_user Core = false
is_intersected_user (User alpha2 intersected) = intersected
is_intersected_user (Driver alpha2) = false
is_intersected_user (Element radio alpha2) = false

-- a driver's hint
abbrev pub is_driver : Last → Bool
is_driver Core = false
is_driver (User alpha2 intersected) = false
is_driver (Driver alpha2) = true
is_driver (Element radio alpha2) = false

-- a country element
abbrev pub is_element : Last → Bool
is_element Core = false
is_element (User alpha2 intersected) = false
is_element (Driver alpha2) = false
is_element (Element radio alpha2) = true

-- a country element that another radio received
abbrev pub is_element_of_other : Last → ℕ → Bool
is_element_of_other Core r = false
is_element_of_other (User alpha2 intersected) r = false
is_element_of_other (Driver alpha2) r = false
is_element_of_other (Element radio alpha2) r = not (radio == r)

-- a country element that this radio received
abbrev pub is_element_of : Last → ℕ → Bool
is_element_of Core r = false
is_element_of (User alpha2 intersected) r = false
is_element_of (Driver alpha2) r = false
is_element_of (Element radio alpha2) r = radio == r
