-- How a hint is treated, and what it leaves.
use Rattle.std.specs.Prelude.{◌≡◌, ℕ, ◌==◌, ◌≤◌, ◌<◌, Bool, true, false, not, ◌&&◌, List, [], ◌∷◌, ◌++◌, length, if◌then◌else◌}
use Rattle.rule_tables.specs.Code.{is_same_code}
use Rattle.rule_tables.specs.declared.code.Alpha2.{Alpha2}
use Rattle.rule_tables.specs.World.{world}
use Rattle.reg_hints.specs.Last.{last_code, is_core, is_intersected_user, is_driver, is_element, is_element_of, is_element_of_other}
use Rattle.reg_hints.specs.declared.codes.TheConstants.{MOST_CODES}
use Rattle.reg_hints.specs.declared.hint.Hint.{Hint}
use Rattle.reg_hints.specs.declared.hint.Hint.TheVariants.{User, Driver, Element}
use Rattle.reg_hints.specs.declared.hint.Last.{Last}
use Rattle.reg_hints.specs.declared.hint.Last.TheVariants.{Core, User as LastUser, Driver as LastDriver, Element as LastElement}
use Rattle.reg_hints.specs.declared.hint.Treatment.{Treatment}
use Rattle.reg_hints.specs.declared.hint.Treatment.TheVariants.{Replace, Intersect, Already, Ignore}

-- What the hints have led to: the last one, and the codes of the global list, whose domains apply to every radio that
-- isn't self-managed.
pub record State : Type 0 where
  pub last : Last
  pub global : List Alpha2

-- where no hint has come
abbrev pub no_hints : State
no_hints = record { last = Core; global = world ∷ [] }

-- the list is exactly this code
abbrev pub is_only : List Alpha2 → Alpha2 → Bool
is_only [] a = false
is_only (code ∷ []) a = is_same_code code a
is_only (code ∷ next ∷ rest) a = false

-- The table of hints. The first line that matches decides.
abbrev pub treatment : State → Hint → Treatment
treatment s (User a) =
    if is_element s.last then Intersect
    else if is_intersected_user s.last then Ignore
    else if not (is_only s.global (last_code s.last)) then Ignore
    else if is_only s.global a then Already
    else Replace
treatment s (Driver r a) =
    if is_core s.last && is_only s.global a then Already
    else if is_core s.last then Replace
    else if is_driver s.last && is_only s.global a then Already
    else Intersect
treatment s (Element r a deaf) =
    if deaf then Ignore
    else if not (is_element s.last) then Replace
    else if is_element_of_other s.last r && is_only s.global a then Already
    else if is_element_of_other s.last r then Ignore
    else if is_element_of s.last r && is_only s.global a then Already
    else Replace

-- the code that a hint names
abbrev pub hinted_code : Hint → Alpha2
hinted_code (User a) = a
hinted_code (Driver r a) = a
hinted_code (Element r a deaf) = a

-- it comes from a driver
abbrev pub is_drivers : Hint → Bool
is_drivers (User a) = false
is_drivers (Driver r a) = true
is_drivers (Element r a deaf) = false

-- the hint as the last one
abbrev pub as_last : Hint → Bool → Last
as_last (User a) intersected = LastUser a intersected
as_last (Driver r a) intersected = LastDriver a
as_last (Element r a deaf) intersected = LastElement r a

-- what a hint leaves that is treated so
abbrev pub left_by : Treatment → Hint → State → State
left_by Replace h s = record { last = as_last h false; global = hinted_code h ∷ [] }
left_by Intersect h s = record { last = as_last h true; global = s.global ++ hinted_code h ∷ [] }
left_by Already h s = if is_drivers h then record { last = as_last h false; global = s.global } else s
left_by Ignore h s = s

-- what a hint leaves: the step of the table
abbrev pub after_hint : Hint → State → State
after_hint h s = left_by (treatment s h) h s

-- A hint that was accepted: treated by the table, or a driver's on a self-managed radio, which sets that radio's
-- own domain alone.
pub data Hinted : Type 0 where
  Treated : Hint → Hinted
  Own : (radio : ℕ) → (alpha2 : Alpha2) → Hinted

-- what the accepted hints have led to, the newest one first
abbrev pub after_all : List Hinted → State
after_all [] = no_hints
after_all (Treated h ∷ earlier) = after_hint h (after_all earlier)
after_all (Own radio alpha2 ∷ earlier) = after_all earlier

-- there are one to four codes in a global list
pub record IsGlobal (codes : List Alpha2) : Type 0 where
  pub some : 0 < length codes
  pub few : length codes ≤ MOST_CODES

-- the global list is full, and the hint would put one more code into it
abbrev pub IsOneTooMany : State → Hint → Type 0
IsOneTooMany s h = (treatment s h ≡ Intersect) × (length s.global ≡ MOST_CODES)
