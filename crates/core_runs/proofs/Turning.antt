-- What all that was answered comes to, with one item more, and where it ends.
use Rattle.std.proofs.Common.{◌≡◌, ℕ, ◌⊎◌, List, [], ◌∷◌, ◌++◌, take, Option, Some, None, inl, inr, refl, sym, ap, subst, ◌∙◌, append_assoc, append-nil}
use Rattle.std.specs.Io.KnownBytes.{Appends}
use Rattle.rule_tables.specs.declared.domain.Domain.{Domain}
use Rattle.radio_drv.specs.Seen.{Seen}
use Rattle.reg_base.specs.Appended.{AppendsFront}
use Rattle.reg_core.specs.declared.core_state.Core.{Core}
use Rattle.reg_journal.specs.Facts.{Journal}
use Rattle.db_commands.specs.Devices.{StreamAround, DriversAround}
use Rattle.core_runs.specs.Answered.{IsAnswered, StopsBetween, StopsWithin}
use Rattle.core_runs.specs.Driven.{Follow, IsAt}
use Rattle.core_runs.specs.Turns.{IsRunSoFar, IsTurn}
use Rattle.core_runs.proofs.Drivers.{HaveGoneOn-more, HaveGoneOn-none}
use Rattle.core_runs.proofs.Each.{EachGives-more}

-- ---- items that were answered

appends_none : (before : Option (List ℕ)) → Appends before before []
appends_none None = tt
appends_none (Some xs) = sym (append-nil xs)

appends_more : (a b c : Option (List ℕ)) (text more : List ℕ) → Appends a b text → Appends b c more → Appends a c (text ++ more)
appends_more None b c text more one other = tt
appends_more (Some xs) None c text more one other = absurd one
appends_more (Some xs) (Some ys) None text more one other = absurd other
appends_more (Some xs) (Some ys) (Some zs) text more one other = other ∙ ap (λ l. l ++ more) one ∙ append_assoc xs text more

pub so_far_none : {A : Type 0} (gives : Journal → A → List ℕ → List ℕ → Journal → Type 0) (db : List Domain) (output : Option (List ℕ)) (core : Core) (heard : List (Option Seen)) → IsAt db [] core heard → IsRunSoFar gives db [] output output core heard heard
so_far_none gives db output core heard here =
    record { text = []; failed = []; journal = []; given = (refl, refl, refl); written = appends_none output; there = here; gone_on = HaveGoneOn-none heard }

pub so_far_more : {A : Type 0} (gives : Journal → A → List ℕ → List ℕ → Journal → Type 0) (db : List Domain) (items : List A) (item : A) (a b c : Option (List ℕ)) (answer : List ℕ) (core core' : Core) (first mid last : List (Option Seen))
    → (so : IsRunSoFar gives db items a b core first mid) → IsTurn gives db so.journal item answer core' mid last → Appends b c answer → IsRunSoFar gives db (items ++ item ∷ []) a c core' first last
so_far_more gives db items item a b c answer core core' first mid last so turn written = record {
  text = so.text ++ answer;
  failed = so.failed ++ turn.failed;
  journal = turn.next;
  given = EachGives-more gives [] items item so.text so.failed answer turn.failed so.journal turn.next so.given turn.here;
  written = appends_more a b c so.text answer so.written written;
  there = turn.there;
  gone_on = HaveGoneOn-more so.failed turn.failed first mid last so.gone_on turn.gone_on;
}

-- ---- ends

pub ends_whole : {A : Type 0} (gives : Journal → A → List ℕ → List ℕ → Journal → Type 0) (db : List Domain) (items : List A) (output : StreamAround) (drivers : DriversAround) (core : Core)
    → IsRunSoFar gives db items output.before output.after core drivers.before drivers.after → IsAnswered gives items output drivers
ends_whole gives db items output drivers core so = record {
  text = so.text;
  failed = so.failed;
  last = so.journal;
  given = so.given;
  written = so.written;
  follow = record { on_air = so.there.follows; told = so.there.told; gone_on = so.gone_on };
}

pub ends_within : {A : Type 0} (gives : Journal → A → List ℕ → List ℕ → Journal → Type 0) (db : List Domain) (items : List A) (item : A) (rest : List A) (output : StreamAround) (b : Option (List ℕ)) (drivers : DriversAround) (answer : List ℕ) (core core' : Core) (mid : List (Option Seen))
    → (so : IsRunSoFar gives db items output.before b core drivers.before mid) → IsTurn gives db so.journal item answer core' mid drivers.after → AppendsFront b output.after answer
    → StopsWithin gives (items ++ item ∷ rest) output drivers
ends_within gives db items item rest output b drivers answer core core' mid so turn (n, within, written) = record {
  item = item;
  rest = rest;
  text = so.text;
  failed = so.failed;
  journal = so.journal;
  front = record { first = items; parts = refl; given = so.given };
  answer = answer;
  failed_here = turn.failed;
  next = turn.next;
  here = turn.here;
  count = n;
  within = within;
  written = appends_more output.before b output.after so.text (take n answer) so.written written;
  follow = record { on_air = turn.there.follows; told = turn.there.told; gone_on = HaveGoneOn-more so.failed turn.failed drivers.before mid drivers.after so.gone_on turn.gone_on };
}

pub ends_between : {A : Type 0} (gives : Journal → A → List ℕ → List ℕ → Journal → Type 0) (db : List Domain) (items : List A) (item : A) (rest : List A) (output : StreamAround) (drivers : DriversAround) (core core' : Core) (mid : List (Option Seen))
    → (so : IsRunSoFar gives db items output.before output.after core drivers.before mid)
    → (drivers.after ≡ mid) ⊎ ((answer : List ℕ) × IsTurn gives db so.journal item answer core' mid drivers.after)
    → StopsBetween gives (items ++ item ∷ rest) output drivers
ends_between gives db items item rest output drivers core core' mid so (inl same) = record {
  left = item ∷ rest;
  text = so.text;
  failed = so.failed;
  journal = so.journal;
  front = record { first = items; parts = refl; given = so.given };
  written = so.written;
  follow = inl (subst (λ h. Follow so.journal so.failed drivers.before h) (sym same) (record { on_air = so.there.follows; told = so.there.told; gone_on = so.gone_on }));
}
ends_between gives db items item rest output drivers core core' mid so (inr (answer, turn)) = record {
  left = item ∷ rest;
  text = so.text;
  failed = so.failed;
  journal = so.journal;
  front = record { first = items; parts = refl; given = so.given };
  written = so.written;
  follow = inr (
    answer,
    turn.failed,
    turn.next,
    turn.here,
    record { on_air = turn.there.follows; told = turn.there.told; gone_on = HaveGoneOn-more so.failed turn.failed drivers.before mid drivers.after so.gone_on turn.gone_on },
  );
}

-- nothing was answered yet
pub ends_before : {A : Type 0} (gives : Journal → A → List ℕ → List ℕ → Journal → Type 0) (db : List Domain) (output : StreamAround) (drivers : DriversAround) (core : Core) → output.after ≡ output.before → drivers.after ≡ drivers.before → IsAt db [] core drivers.before
    → StopsBetween gives [] output drivers
ends_before gives db output drivers core same left here = record {
  left = [];
  text = [];
  failed = [];
  journal = [];
  front = record { first = []; parts = refl; given = (refl, refl, refl) };
  written = subst (λ o. Appends output.before o []) (sym same) (appends_none output.before);
  follow = inl (subst (λ h. Follow [] [] drivers.before h) (sym left) (record { on_air = here.follows; told = here.told; gone_on = HaveGoneOn-none drivers.before }));
}
