-- A walk over the attributes of a payload.
use Rattle.std.specs.Prelude.{◌≡◌, ℕ, ◌+◌, ◌<◌, List, [], ◌∷◌, ◌++◌, length, All, Option, Some, None, Result, Ok, Err}
use Rattle.nl_attrs.specs.Attributes.{IsAttr, IsBroken, IsFirstBreach, attr_in, attr_bytes, attrs_bytes}
use Rattle.nl_attrs.specs.declared.attr.Attr.{Attr}
use Rattle.nl_attrs.specs.declared.attr.AttrRef.{AttrRef}
use Rattle.nl_attrs.specs.declared.fault.Breach.{Breach}

-- What callers see of a walk: the bytes that are left, and how many stand before them.
pub record Walking : Type 0 where
  pub left : List ℕ
  pub place : ℕ

abbrev pub walk_from : List ℕ → Walking
walk_from payload = record { left = payload; place = 0 }

-- the attribute stood at the front of what was left
pub record StepsOver (old new : Walking) (a : Attr) : Type 0 where
  pub is : IsAttr a
  pub front : old.left ≡ attr_bytes a ++ new.left
  pub place : new.place ≡ old.place + length (attr_bytes a)

-- no attribute stands there, where something is left
pub record IsBreachAt (w : Walking) (breach : Breach) : Type 0 where
  pub left : 0 < length w.left
  pub broken : IsBroken w.left
  pub place : breach.place ≡ w.place

-- these attributes of the payload were given, and no others
pub record HasWalked (w : Walking) (payload : List ℕ) (given : List Attr) : Type 0 where
  pub parts : payload ≡ attrs_bytes given ++ w.left
  pub each : All IsAttr given
  pub place : w.place ≡ length (attrs_bytes given)

-- After asking for the next attribute: it is given too, or those given are all of the payload, or its first breach is
-- behind them.
abbrev pub WalksOn : Walking → List ℕ → List Attr → Result (Option AttrRef) Breach → Type 0
WalksOn w payload given (Ok (Some a)) = HasWalked w payload (given ++ attr_in a ∷ [])
WalksOn w payload given (Ok None) = payload ≡ attrs_bytes given
WalksOn w payload given (Err breach) = IsFirstBreach payload breach.place
