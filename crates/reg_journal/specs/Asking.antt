-- What is answered without a request: what a start or a check would come to, and the state of a channel; and what is published.
use Rattle.std.specs.Prelude.{◌≡◌, ℕ, ◌≤◌, List, [], ◌∷◌, length, take, Bool, false, Option, None, Some, IsSome, IsSomeAnd, Result, Ok, Err}
use Rattle.rule_tables.specs.declared.domain.Domain.{Domain}
use Rattle.chan_def.specs.declared.definition.ChanDef.{ChanDef}
use Rattle.chan_def.specs.declared.kind.Kind.{Kind}
use Rattle.dfs_states.specs.Greatest.{IsMost}
use Rattle.dfs_states.specs.declared.dfs.Dfs.{Dfs}
use Rattle.reg_journal.specs.Causes.{IsFree}
use Rattle.reg_journal.specs.Dumps.{AreSections}
use Rattle.reg_journal.specs.Facts.{Journal}
use Rattle.reg_journal.specs.Permits.{IsLengthOf, IsLimitOf, IsPowerOf}
use Rattle.reg_journal.specs.Present.{named, profile_of}
use Rattle.reg_journal.specs.Radar.{IsChannelState, Stands}
use Rattle.reg_journal.specs.Refusals.{CheckCauses, StartCauses}
use Rattle.reg_journal.specs.Replies.{Steps}
use Rattle.reg_journal.specs.declared.refusal.Refusal.{Refusal}
use Rattle.reg_journal.specs.declared.reply.Reply.{Reply}
use Rattle.reg_journal.specs.declared.report.Section.{Section}
use Rattle.reg_journal.specs.declared.request.Request.{Request}

-- What a start would come to, if the driver didn't fail: the power, in mBm, or the first refusal.
abbrev pub WouldStart : List Domain → Journal → List ℕ → Kind → ChanDef → Result ℕ Refusal → Type 0
WouldStart db J name kind c (Ok power) = IsFree (StartCauses db J name kind c false) × IsSomeAnd (named J name) (λ x. IsPowerOf db J x c power)
WouldStart db J name kind c (Err e) = StartCauses db J name kind c false e

-- What a check (CAC) would come to, if the driver didn't fail: its length in ms and the limit of the channel in mBm, or the first
-- refusal.
abbrev pub WouldCheck : List Domain → Journal → List ℕ → ChanDef → Result (ℕ × ℕ) Refusal → Type 0
WouldCheck db J name c (Ok answer) =
    IsFree (CheckCauses db J name c false) × IsSomeAnd (named J name) (λ x. IsLengthOf db J x c answer.0 × IsLimitOf db J x c answer.1)
WouldCheck db J name c (Err e) = CheckCauses db J name c false e

-- the state of a centre on the radio, or none where the radio isn't there
abbrev pub IsStateOn : List Domain → Journal → ℕ → ℕ → Option Dfs → Type 0
IsStateOn db J r s None = profile_of J r ≡ None
IsStateOn db J r s (Some dfs) = IsSome (profile_of J r) × IsChannelState db J r s dfs

-- since when a check stands for the subchannel: the latest end of those that stand, or none
abbrev pub StandsSince : List Domain → Journal → ℕ → ℕ → Option ℕ → Type 0
StandsSince db J r s since = IsMost (Stands db J r s) since

-- The requests, the oldest first, lead from the one journal to the other, and no driver fails.
abbrev pub LeadsTo : List Domain → Journal → List Request → Journal → Type 0
LeadsTo db J [] last = last ≡ J
LeadsTo db J (q ∷ qs) last = (reply : Reply) × (next : Journal) × Steps db J q false reply next × LeadsTo db next qs last

-- The requests, the oldest first, lead from the one journal to the other; at each of them a driver may fail or not.
abbrev pub MayLeadTo : List Domain → Journal → List Request → Journal → Type 0
MayLeadTo db J [] last = last ≡ J
MayLeadTo db J (q ∷ qs) last = (failed : Bool) × (reply : Reply) × (next : Journal) × Steps db J q failed reply next × MayLeadTo db next qs last

-- what is published after the first n requests, of which there are as many: the sections of the journal to which they led
abbrev pub AreTables : List Domain → List Request → ℕ → List Section → Type 0
AreTables db qs n sections = (n ≤ length qs) × (J : Journal) × LeadsTo db [] (take n qs) J × AreSections db J sections
