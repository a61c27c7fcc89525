-- Requests one by one: what was answered so far, and with one request more.
use Rattle.std.proofs.Common.{◌≡◌, ℕ, zero, suc, ◌+◌, ◌≤◌, List, [], ◌∷◌, ◌++◌, length, length-append, Option, Result, Ok, Err, OnErr, refl, sym, ap, subst, ◌∙◌, append_assoc, append-nil, arith}
use Rattle.rule_tables.specs.declared.domain.Domain.{Domain}
use Rattle.radio_drv.specs.Seen.{Seen}
use Rattle.reg_journal.specs.Facts.{Journal}
use Rattle.reg_journal.specs.declared.reply.Reply.{Reply}
use Rattle.reg_journal.specs.declared.request.Request.{Request}
use Rattle.reg_core.specs.Kept.{StandsFor}
use Rattle.reg_core.specs.Stepping.{IsReady, OneStep}
use Rattle.reg_core.specs.declared.core_state.Core.{Core}
use Rattle.core_runs.specs.Driven.{AreIdle, Follow, IsAt}
use Rattle.core_runs.specs.Given.{EachGives, RequestGives}
use Rattle.core_runs.proofs.Drivers.{HaveGoneOn-more, HaveGoneOn-none, idle_follow}
use Rattle.core_runs.proofs.Each.{EachGives-more}
use Rattle.core_runs.proofs.Going.{failed_in, goes_on, goes_to, request_gives}
use Rattle.reg_make.specs.Made.{made_requests, of_radios, of_turns, turn_moment, turn_number}
use Rattle.make_command.specs.declared.counts.Counts.{Counts}
use Rattle.make_command.specs.inner.Making.{AllAnswered, AreCounts, AreFew, IsAnsweredSoFar, IsOnItsWay, SomeAnswered}

pub so_far_none : (db : List Domain) (requests : List Request) (counts : Counts) (core : Core) (heard : List (Option Seen)) → IsAt db [] core heard → AreCounts counts [] → IsAnsweredSoFar db requests requests counts core heard heard
so_far_none db requests counts core heard here none = record {
  first = [];
  parts = refl;
  replies = [];
  failed = [];
  journal = [];
  given = (refl, refl, refl);
  counted = none;
  there = here;
  gone_on = HaveGoneOn-none heard;
}

pub so_far_more : (db : List Domain) (requests before left : List Request) (q : Request) (counts counts' : Counts) (reply : Reply) (core core' : Core) (a b c : List (Option Seen)) → before ≡ q ∷ left
    → ((db : List Domain) (J : Journal) → StandsFor db core J → OneStep db J q core core' b c reply)
    → ((replies : List Reply) → AreCounts counts replies → AreCounts counts' (replies ++ reply ∷ []))
    → IsAnsweredSoFar db requests before counts core a b → IsAnsweredSoFar db requests left counts' core' a c
so_far_more db requests before left q counts counts' reply core core' a b c first step counted so =
    let one = step db so.journal so.there.stands in record {
      first = so.first ++ q ∷ [];
      parts = so.parts ∙ ap (λ qs. so.first ++ qs) first ∙ sym (append_assoc so.first (q ∷ []) left);
      replies = so.replies ++ reply ∷ [];
      failed = so.failed ++ failed_in so.journal q reply;
      journal = one.next;
      given = EachGives-more (RequestGives db) [] so.first q so.replies so.failed (reply ∷ []) (failed_in so.journal q reply) so.journal one.next so.given (request_gives db so.journal q reply core core' b c one);
      counted = counted so.replies so.counted;
      there = goes_to db so.journal q reply core core' b c one so.there;
      gone_on = HaveGoneOn-more so.failed (failed_in so.journal q reply) a b c so.gone_on (goes_on db so.journal q reply core core' b c one);
    }

-- with one request more
pub goes_round : (requests before left : List Request) (q : Request) (counts counts' : Counts) (reply : Reply) (first core core' : Core) (a b c : List (Option Seen)) → before ≡ q ∷ left
    → ((db : List Domain) (J : Journal) → StandsFor db core J → OneStep db J q core core' b c reply) → IsReady core' c
    → ((replies : List Reply) → AreCounts counts replies → AreCounts counts' (replies ++ reply ∷ [])) → counts'.requests ≡ counts.requests + 1 → AreFew counts'
    → IsOnItsWay requests before counts first core a b → IsOnItsWay requests left counts' first core' a c
goes_round requests before left q counts counts' reply first core core' a b c next step ready counted one few way = record {
  ready = ready;
  few = few;
  room = let shorter = ap length next in omega (arith, shorter, way.room, one);
  so_far = λ db stands. so_far_more db requests before left q counts counts' reply core core' a b c next step counted (way.so_far db stands);
}

-- ---- ends

pub ends_all : (db : List Domain) (requests left : List Request) (counts : Counts) (core : Core) (heard heard' : List (Option Seen)) → left ≡ []
    → IsAnsweredSoFar db requests left counts core heard heard' → AllAnswered db requests counts heard heard'
ends_all db requests left counts core heard heard' none so = record {
  replies = so.replies;
  failed = so.failed;
  last = so.journal;
  given = subst (λ qs. EachGives (RequestGives db) [] qs so.replies so.failed so.journal) (sym (so.parts ∙ ap (λ qs. so.first ++ qs) none ∙ append-nil so.first)) so.given;
  follow = record { on_air = so.there.follows; told = so.there.told; gone_on = so.gone_on };
  counted = so.counted;
}

pub ends_some : (db : List Domain) (requests left : List Request) (counts : Counts) (core : Core) (heard heard' : List (Option Seen))
    → IsAnsweredSoFar db requests left counts core heard heard' → SomeAnswered db requests heard heard'
ends_some db requests left counts core heard heard' so = record {
  first = so.first;
  left = left;
  parts = so.parts;
  replies = so.replies;
  failed = so.failed;
  last = so.journal;
  given = so.given;
  follow = record { on_air = so.there.follows; told = so.there.told; gone_on = so.gone_on };
}

-- what holds whatever the error is
pub always_told : {A E : Type 0} (r : Result A E) (P : Type 0) → P → OnErr r P
always_told (Ok x) P holds = tt
always_told (Err e) P holds = holds

-- no request was asked
pub none_answered : (db : List Domain) (requests : List Request) (heard heard' : List (Option Seen)) → AreIdle 8 heard → heard' ≡ heard → SomeAnswered db requests heard heard'
none_answered db requests heard heard' idle same = record {
  first = [];
  left = requests;
  parts = refl;
  replies = [];
  failed = [];
  last = [];
  given = (refl, refl, refl);
  follow = subst (Follow [] [] heard) (sym same) (idle_follow heard idle);
}

-- ---- how many requests are made

of_turns_length : (n moment x : ℕ) → length (of_turns n moment x) ≡ n
unfolding of_turns
of_turns_length zero moment x = refl
of_turns_length (suc n) moment x = ap suc (of_turns_length n (turn_moment moment x) (turn_number x))

of_radios_length : length (of_radios 8 0) ≡ 24
unfolding of_radios
of_radios_length = refl

pub few_made : (requests : List Request) (n : ℕ) → requests ≡ made_requests n → n ≤ 1000000 → length requests ≤ 1000024
few_made requests n are few =
    let all : length requests ≡ length (of_radios 8 0) + length (of_turns n 0 n) = ap length are ∙ length-append (of_radios 8 0) (of_turns n 0 n) in
    let turns = of_turns_length n 0 n in
    let radios = of_radios_length in
    omega (arith, all, turns, radios, few)
