-- What a change of rules, of radar or of the radios' place does to operations and checks.
use Rattle.std.specs.Prelude.{◌≡◌, ◌≢◌, ℕ, ◌⊎◌, List, [], ◌∷◌, ◌++◌, Option, Some, None, MatchOption}
use Rattle.std.specs.Option.{option_to_list}
use Rattle.rule_tables.specs.declared.domain.Domain.{Domain}
use Rattle.chan_def.specs.declared.definition.ChanDef.{ChanDef}
use Rattle.reg_journal.specs.Facts.{Fact, Journal, CameAmong, stopped, powered, check_begun, check_dropped}
use Rattle.reg_journal.specs.Present.{Iface, Operation, Check, operation_of, check_of}
use Rattle.reg_journal.specs.Causes.{SomeComes, IsFree}
use Rattle.reg_journal.specs.Radar.{HasCheck, KeepsRegion}
use Rattle.reg_journal.specs.Permits.{EndsOperation, EndsCheck, IsPowerOf}

-- The region of the interface's radio changed after the interface's last check began: it changed at some fact since.
pub record RegionChangedInCheck (db : List Domain) (J : Journal) (x : Iface) : Type 0 where
  pub newer : Journal
  pub chan : ChanDef
  pub length : ℕ
  pub older : Journal
  pub begun : CameAmong J newer (check_begun x.index chan length) older
  pub last : HasCheck newer x.index → ⊥
  pub changed : KeepsRegion db newer (check_begun x.index chan length ∷ older) x.radio → ⊥

-- the running check has to go
abbrev pub MustDrop : List Domain → Journal → Iface → Check → Type 0
MustDrop db J x k = SomeComes (EndsCheck db J x k.chan) ⊎ RegionChangedInCheck db J x

-- What becomes of an operation: it stops where something ends it, goes on with another power where the rules give another,
-- or goes on as it is.
abbrev pub OperationBecomes : List Domain → Journal → Iface → Operation → Option Fact → Type 0
OperationBecomes db J x o None = IsFree (EndsOperation db J x o.chan) × IsPowerOf db J x o.chan o.power
OperationBecomes db J x o (Some (stopped i)) = (i ≡ x.index) × SomeComes (EndsOperation db J x o.chan)
OperationBecomes db J x o (Some (powered i power)) = (i ≡ x.index) × IsFree (EndsOperation db J x o.chan) × IsPowerOf db J x o.chan power × (power ≢ o.power)
OperationBecomes db J x o (Some f) = ⊥

-- What becomes of a running check: it is dropped, or goes on.
abbrev pub CheckBecomes : List Domain → Journal → Iface → Check → Option Fact → Type 0
CheckBecomes db J x k None = MustDrop db J x k → ⊥
CheckBecomes db J x k (Some (check_dropped i)) = (i ≡ x.index) × MustDrop db J x k
CheckBecomes db J x k (Some f) = ⊥

-- what becomes of an interface: no interface has both an operation and a running check
abbrev pub Becomes : List Domain → Journal → Iface → Option Fact → Type 0
Becomes db J x fact =
    MatchOption (operation_of J x.index)
    (MatchOption (check_of J x.index) (fact ≡ None) (λ k. CheckBecomes db J x k fact))
    (λ o. OperationBecomes db J x o fact)

-- The facts of a sweep of these interfaces, in their order. Each is judged by the same journal, which none of the facts is in.
abbrev pub AreSwept : List Domain → Journal → List Iface → List Fact → Type 0
AreSwept db J [] facts = facts ≡ []
AreSwept db J (x ∷ xs) facts = (fact : Option Fact) × (rest : List Fact) × Becomes db J x fact × AreSwept db J xs rest × (facts ≡ option_to_list fact ++ rest)

-- an interface gives up its operation, or else its running check
abbrev pub released : Journal → Iface → List Fact
released J x = option_to_list (release_of (operation_of J x.index) (check_of J x.index) x.index)
  where
    release_of : Option Operation → Option Check → ℕ → Option Fact
    release_of (Some o) k i = Some (stopped i)
    release_of None (Some k) i = Some (check_dropped i)
    release_of None None i = None
