-- Requests on their way. Only clauses of private functions cite it.
use Rattle.std.specs.Prelude.{◌≡◌, ℕ, ◌+◌, ◌*◌, ◌^◌, ◌≤◌, List, [], ◌++◌, Option, length, sum_by, count_by}
use Rattle.rule_tables.specs.declared.domain.Domain.{Domain}
use Rattle.radio_drv.specs.Seen.{Seen}
use Rattle.reg_journal.specs.Facts.{Journal}
use Rattle.reg_journal.specs.declared.reply.Reply.{Reply}
use Rattle.reg_journal.specs.declared.request.Request.{Request}
use Rattle.reg_core.specs.Kept.{StandsFor}
use Rattle.reg_core.specs.Stepping.{IsReady}
use Rattle.reg_core.specs.declared.core_state.Core.{Core}
use Rattle.core_runs.specs.Driven.{Follow, HaveGoneOn, IsAt}
use Rattle.core_runs.specs.Given.{EachGives, RequestGives}
use Rattle.make_command.specs.Counts.{effect_count, is_check, is_hint, is_refused, is_start}
use Rattle.make_command.specs.declared.counts.Counts.{Counts}

-- they count these replies
pub record AreCounts (c : Counts) (replies : List Reply) : Type 0 where
  pub requests : c.requests ≡ length replies
  pub started : c.started ≡ count_by is_start replies
  pub refused : c.refused ≡ count_by is_refused replies
  pub checks : c.checks ≡ count_by is_check replies
  pub hints : c.hints ≡ count_by is_hint replies
  pub effects : c.effects ≡ sum_by effect_count replies

-- no kind came more often than requests did, and no reply had more than 64 effects
pub record AreFew (c : Counts) : Type 0 where
  pub requests : c.requests ≤ 2 ^ 32
  pub started : c.started ≤ c.requests
  pub refused : c.refused ≤ c.requests
  pub checks : c.checks ≤ c.requests
  pub hints : c.hints ≤ c.requests
  pub effects : c.effects ≤ 64 * c.requests

-- Of these requests those that are not left were answered so, and the core and the drivers stand where that led.
pub record IsAnsweredSoFar (db : List Domain) (requests left : List Request) (counts : Counts) (core : Core) (heard heard' : List (Option Seen)) : Type 0 where
  pub first : List Request
  pub parts : requests ≡ first ++ left
  pub replies : List Reply
  pub failed : List ℕ
  pub journal : Journal
  pub given : EachGives (RequestGives db) [] first replies failed journal
  pub counted : AreCounts counts replies
  pub there : IsAt db journal core heard'
  pub gone_on : HaveGoneOn failed heard heard'

-- all requests were answered, and these count the replies
pub record AllAnswered (db : List Domain) (requests : List Request) (counts : Counts) (heard heard' : List (Option Seen)) : Type 0 where
  pub replies : List Reply
  pub failed : List ℕ
  pub last : Journal
  pub given : EachGives (RequestGives db) [] requests replies failed last
  pub follow : Follow last failed heard heard'
  pub counted : AreCounts counts replies

-- those that stand first were
pub record SomeAnswered (db : List Domain) (requests : List Request) (heard heard' : List (Option Seen)) : Type 0 where
  pub first : List Request
  pub left : List Request
  pub parts : requests ≡ first ++ left
  pub replies : List Reply
  pub failed : List ℕ
  pub last : Journal
  pub given : EachGives (RequestGives db) [] first replies failed last
  pub follow : Follow last failed heard heard'

-- The requests are being answered: the core is ready for the next one, and the counts have room for all that are left.
pub record IsOnItsWay (requests left : List Request) (counts : Counts) (first core : Core) (heard heard' : List (Option Seen)) : Type 0 where
  pub ready : IsReady core heard'
  pub few : AreFew counts
  pub room : counts.requests + length left ≤ 2 ^ 32
  pub so_far : (db : List Domain) → StandsFor db first [] → IsAnsweredSoFar db requests left counts core heard heard'
