-- What items give: one item more, and that it is one thing where no driver fails.
use Rattle.std.proofs.Common.{◌≡◌, ℕ, List, [], ◌∷◌, ◌++◌, Bool, true, false, Option, Some, None, refl, sym, ap, subst, ◌∙◌, append_assoc, append-nil}
use Rattle.rule_tables.specs.declared.domain.Domain.{Domain}
use Rattle.reg_journal.specs.Facts.{Journal, after}
use Rattle.reg_journal.specs.Replies.{Steps}
use Rattle.reg_journal.specs.declared.reply.Reply.{Reply}
use Rattle.reg_journal.specs.declared.request.Request.{Request}
use Rattle.reg_journal.proofs.OneReply.{one-reply}
use Rattle.reg_core.specs.Stepping.{is_failed}
use Rattle.core_runs.specs.Given.{EachGives, HaveFailed, RequestGives}

-- ---- one item more

pub EachGives-more : {A B S : Type 0} (gives : S → A → List B → List ℕ → S → Type 0) (state : S) (first : List A) (item : A) (given : List B) (failed : List ℕ) (answer : List B) (failed_here : List ℕ) (mid next : S)
    → EachGives gives state first given failed mid → gives mid item answer failed_here next
    → EachGives gives state (first ++ item ∷ []) (given ++ answer) (failed ++ failed_here) next
EachGives-more gives state [] item given failed answer failed_here mid next (nothing, none, same) here = (
  answer,
  failed_here,
  next,
  subst (λ k. gives k item answer failed_here next) same here,
  [],
  [],
  (refl, refl, refl),
  ap (λ t. t ++ answer) nothing ∙ sym (append-nil answer),
  ap (λ t. t ++ failed_here) none ∙ sym (append-nil failed_here),
)
EachGives-more gives state (x ∷ xs) item given failed answer failed_here mid next (one, failed_one, k, first_gives, rest, failed_rest, there, all, all_failed) here = (
  one,
  failed_one,
  k,
  first_gives,
  rest ++ answer,
  failed_rest ++ failed_here,
  EachGives-more gives k xs item rest failed_rest answer failed_here mid next there here,
  ap (λ t. t ++ answer) all ∙ append_assoc one rest answer,
  ap (λ t. t ++ failed_here) all_failed ∙ append_assoc failed_one failed_rest failed_here,
)

-- what each item gives, said in another way
pub EachGives-each : {A B S : Type 0} (gives other : S → A → List B → List ℕ → S → Type 0)
    → ((state : S) (item : A) (given : List B) (failed : List ℕ) (next : S) → gives state item given failed next → other state item given failed next)
    → (state : S) (items : List A) (given : List B) (failed : List ℕ) (last : S) → EachGives gives state items given failed last → EachGives other state items given failed last
EachGives-each gives other so state [] given failed last nothing = nothing
EachGives-each gives other so state (item ∷ items) given failed last (first, failed_first, k, here, rest, failed_rest, there, all, all_failed) =
    (first, failed_first, k, so state item first failed_first k here, rest, failed_rest, EachGives-each gives other so k items rest failed_rest last there, all, all_failed)

-- ---- one thing each

no_more : {A : Type 0} (xs ys : List A) → [] ≡ xs ++ ys → (xs ≡ []) × (ys ≡ [])
no_more [] ys e = (refl, sym e)
no_more (x ∷ xs) ys e = absurd cc

-- where no driver fails and one item gives one thing, so do all
pub EachGives-unique : {A B S : Type 0} (gives : S → A → List B → List ℕ → S → Type 0)
    → (one : (state : S) (item : A) (given other : List B) (next next' : S) → gives state item given [] next → gives state item other [] next' → (given ≡ other) × (next ≡ next'))
    → (state : S) (items : List A) (given other : List B) (last last' : S) → EachGives gives state items given [] last → EachGives gives state items other [] last' → (given ≡ other) × (last ≡ last')
EachGives-unique gives one state [] given other last last' (is, none, stays) (is', none', stays') = (is ∙ sym is', stays ∙ sym stays')
EachGives-unique gives one state (item ∷ items) given other last last' (first, failed, k, here, rest, failed_rest, there, all, all_failed) (first', failed', k', here', rest', failed_rest', there', all', all_failed') =
    let no = no_more failed failed_rest all_failed in
    let no' = no_more failed' failed_rest' all_failed' in
    let same = one state item first first' k k' (subst (λ f. gives state item first f k) no.0 here) (subst (λ f. gives state item first' f k') no'.0 here') in
    let more = EachGives-unique gives one k' items rest rest' last last'
    (subst (λ m. EachGives gives m items rest [] last) same.1 (subst (λ f. EachGives gives k items rest f last) no.1 there))
    (subst (λ f. EachGives gives k' items rest' f last') no'.1 there') in
    (all ∙ ap (λ t. t ++ rest) same.0 ∙ ap (λ t. first' ++ t) more.0 ∙ sym all', more.1)

-- ---- requests

pub none_failed : (failing : Bool) (radio : Option ℕ) → HaveFailed failing radio [] → failing ≡ false
none_failed false radio h = refl
none_failed true None h = absurd h
none_failed true (Some r) h = absurd cc

one_step : (db : List Domain) (J : Journal) (q : Request) (reply other : Reply) (next next' : Journal)
    → Steps db J q false reply next → Steps db J q false other next' → (reply ≡ other) × (next ≡ next')
one_step db J q reply other next next' (facts, is, here) (others, is', there) =
    let same = one-reply db J q false reply other facts others is is' in
    (same.0, here ∙ ap (λ fs. after fs J) same.1 ∙ sym there)

pub one_answer : (db : List Domain) (J : Journal) (q : Request) (reply other : Reply) (next next' : Journal) → is_failed reply ≡ false → is_failed other ≡ false
    → Steps db J q (is_failed reply) reply next → Steps db J q (is_failed other) other next' → (reply ≡ other) × (next ≡ next')
one_answer db J q reply other next next' well well' steps steps' =
    one_step db J q reply other next next' (subst (λ f. Steps db J q f reply next) well steps) (subst (λ f. Steps db J q f other next') well' steps')

one_request : (db : List Domain) (J : Journal) (q : Request) (replies others : List Reply) (next next' : Journal)
    → RequestGives db J q replies [] next → RequestGives db J q others [] next' → (replies ≡ others) × (next ≡ next')
one_request db J q replies others next next' (reply, steps, failing, all) (other, steps', failing', all') =
    let same = one_answer db J q reply other next next' (none_failed _ _ failing) (none_failed _ _ failing') steps steps' in
    (all ∙ ap (λ r. r ∷ []) same.0 ∙ sym all', same.1)

pub one_course : (db : List Domain) (J : Journal) (requests : List Request) (replies others : List Reply) (last last' : Journal)
    → EachGives (RequestGives db) J requests replies [] last → EachGives (RequestGives db) J requests others [] last' → (replies ≡ others) × (last ≡ last')
one_course db J requests replies others last last' one other = EachGives-unique (RequestGives db) (one_request db) J requests replies others last last' one other
