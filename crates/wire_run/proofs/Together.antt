-- The messages of a script's requests are answered by the messages of its replies.
use Rattle.std.proofs.Common.{◌≡◌, ℕ, ◌+◌, List, [], ◌∷◌, ◌++◌, Option, Some, None, Result, Ok, Err, inl, inr, refl, sym, ap, subst, ◌∙◌}
use Rattle.std.specs.Prelude.{ℤ}
use Rattle.reg_journal.specs.Replies.{Steps}
use Rattle.reg_books.specs.DriverRows.{driven_radio}
use Rattle.reg_core.specs.Stepping.{is_failed}
use Rattle.nl80211_cmds.specs.Errors.{error_answer}
use Rattle.iw_commands.specs.Printed.{text_of_reply}
use Rattle.std.proofs.lemmas.List.Elements.{All-cons, All-nil}
use Rattle.rule_tables.specs.declared.domain.Domain.{Domain}
use Rattle.reg_journal.specs.Facts.{Journal}
use Rattle.reg_journal.specs.declared.request.Request.{Request}
use Rattle.nl_attrs.specs.Messages.{IsMsg, all_spelled, spelled}
use Rattle.nl_attrs.specs.declared.message.Msg.{Msg}
use Rattle.nl80211_cmds.specs.Requests.{IsRequestFault, MsgAsks, message_of}
use Rattle.nl80211_cmds.specs.declared.fault.RequestFault.TheVariants.{Errno}
use Rattle.nl80211_cmds.proofs.Again.{asked_again}
use Rattle.nl80211_cmds.proofs.Meanings.{one_request, unsupported}
use Rattle.nl80211_replies.specs.Dumps.{reply_messages}
use Rattle.line_forms.specs.declared.fault.LineFault.{LineFault}
use Rattle.line_forms.proofs.Saying.{one_meaning}
use Rattle.core_runs.specs.Given.{EachGives, HaveFailed}
use Rattle.core_runs.proofs.Each.{EachGives-unique, none_failed, one_answer}
use Rattle.script_run.specs.Output.{LineGives, SayingGives}
use Rattle.pack_command.specs.Packing.{PackGives, SayingPacks}
use Rattle.wire_run.specs.Answering.{AreAnswers, MessageGives}
use Rattle.wire_run.specs.Together.{IsOneCourse, answers_from, messages_from}

-- ---- one thing each

no_reason : (m : Msg) (errno : ℤ) (q : Request) → IsRequestFault m (Errno errno) → MsgAsks m q → ⊥
no_reason m errno q (inl (is, not)) asks = unsupported m q not asks
no_reason m errno q (inr (is, supported, nothing)) asks = nothing q asks

one_errno : (m : Msg) (errno other : ℤ) → IsRequestFault m (Errno errno) → IsRequestFault m (Errno other) → errno ≡ other
one_errno m errno other (inl (is, not)) (inl (is', not')) = is ∙ sym is'
one_errno m errno other (inl (is, not)) (inr (is', supported, nothing)) = absurd (supported not)
one_errno m errno other (inr (is, supported, nothing)) (inl (is', not)) = absurd (supported not)
one_errno m errno other (inr (is, supported, nothing)) (inr (is', supported', nothing')) = is ∙ sym is'

one_message : (db : List Domain) (J : Journal) (m : Msg) (bytes others : List ℕ) (next next' : Journal)
    → MessageGives db J m bytes [] next → MessageGives db J m others [] next' → (bytes ≡ others) × (next ≡ next')
one_message db J m bytes others next next' (inl one) (inl other) =
    let same = one_request m one.request other.request one.asks other.asks in
    let alike = one_answer db J other.request one.reply other.reply next next'
    (none_failed _ _ (subst (λ q. HaveFailed (is_failed one.reply) (driven_radio J q) []) same one.failing)) (none_failed _ _ other.failing)
    (subst (λ q. Steps db J q (is_failed one.reply) one.reply next) same one.steps) other.steps in
    (one.is ∙ ap (λ reply. all_spelled (reply_messages m reply)) alike.0 ∙ sym other.is, alike.1)
one_message db J m bytes others next next' (inl one) (inr other) = absurd (no_reason m other.errno one.request other.fault one.asks)
one_message db J m bytes others next next' (inr one) (inl other) = absurd (no_reason m one.errno other.request one.fault other.asks)
one_message db J m bytes others next next' (inr one) (inr other) =
    (one.is ∙ ap (λ errno. spelled (error_answer m errno)) (one_errno m one.errno other.errno one.fault other.fault) ∙ sym other.is, one.stays ∙ sym other.stays)

pub one_list_of_answers : (db : List Domain) (messages : List Msg) (bytes others : List ℕ) → AreAnswers db messages bytes → AreAnswers db messages others → bytes ≡ others
one_list_of_answers db messages bytes others (last, given) (last', given') =
    (EachGives-unique (MessageGives db) (one_message db) [] messages bytes others last last' given given').0

-- ---- the same course

no_more : (xs ys : List ℕ) → [] ≡ xs ++ ys → (xs ≡ []) × (ys ≡ [])
no_more [] ys e = (refl, sym e)
no_more (x ∷ xs) ys e = absurd cc

-- One line more before lines that have one course.
line_more : (db : List Domain) (J mid : Journal) (n k : ℕ) (said : Result (Option Request) LineFault) (bytes text failed rest more others : List ℕ) (last : Journal)
    → SayingPacks n said bytes k → SayingGives db J said text failed mid → IsOneCourse db mid k rest more others last
    → IsOneCourse db J n (bytes ++ rest) (text ++ more) (failed ++ others) last
line_more db J mid n k (Ok None) bytes text failed rest more others last (empty, stays) (none, well, same) so =
    subst (λ (x : List ℕ). IsOneCourse db J n (x ++ rest) (text ++ more) (failed ++ others) last) (sym empty)
    (subst (λ (x : List ℕ). IsOneCourse db J n rest (x ++ more) (failed ++ others) last) (sym none)
    (subst (λ (x : List ℕ). IsOneCourse db J n rest more (x ++ others) last) (sym well)
    (subst (λ (x : ℕ). IsOneCourse db J x rest more others last) stays (subst (λ (x : Journal). IsOneCourse db x k rest more others last) same so))))
line_more db J mid n k (Ok (Some q)) bytes text failed rest more others last (packed, one) (reply, steps, is, failing) so =
    let there = subst (λ (x : ℕ). IsOneCourse db mid x rest more others last) one so in record {
      requests = q ∷ there.requests;
      replies = reply ∷ there.replies;
      course = (reply ∷ [], failed, mid, (reply, steps, failing, refl), there.replies, others, there.course, refl, refl);
      printed = ap (λ (x : List ℕ). x ++ more) is ∙ ap (λ (x : List ℕ). text_of_reply reply ++ x) there.printed;
      stream = (
        All-cons IsMsg (message_of q (n + 1)) (messages_from (n + 1 + 1) there.requests) packed.message there.stream.0,
        ap (λ (x : List ℕ). x ++ rest) packed.is ∙ ap (λ (x : List ℕ). spelled (message_of q (n + 1)) ++ x) there.stream.1,
      );
      wired = (
        all_spelled (reply_messages (message_of q (n + 1)) reply),
        failed,
        mid,
        inl (record { request = q; asks = asked_again q (n + 1) packed.typed packed.askable; reply = reply; steps = steps; failing = failing; is = refl }),
        answers_from (n + 1 + 1) there.requests there.replies,
        others,
        there.wired,
        refl,
        refl,
      );
    }
line_more db J mid n k (Err fault) bytes text failed rest more others last never gives so = absurd never

one_course : (db : List Domain) (lines : List (List ℕ)) (J : Journal) (n : ℕ) (packed text failed : List ℕ) (requests : ℕ) (last : Journal)
    → EachGives PackGives n lines packed [] requests → EachGives (LineGives db) J lines text failed last → IsOneCourse db J n packed text failed last
one_course db [] J n packed text failed requests last (empty, well, same) (none, good, stays) =
    record { requests = []; replies = []; course = (refl, good, stays); printed = none; stream = (All-nil IsMsg, empty); wired = (refl, good, stays) }
one_course db (line ∷ lines) J n packed text failed requests last
    (first, failed_first, k, (said, says, packs, none), rest, failed_rest, there, all, all_failed) (answer, failed_here, mid, (said', says', gives), more, others, goes, whole, whole_failed) =
    let well = no_more failed_first failed_rest all_failed in
    let same = one_meaning line said said' says says' in
    let so = one_course db lines mid k rest more others requests last (subst (λ (x : List ℕ). EachGives PackGives k lines rest x requests) well.1 there) goes in
    subst (λ (x : List ℕ). IsOneCourse db J n x text failed last) (sym all)
    (subst (λ (x : List ℕ). IsOneCourse db J n (first ++ rest) x failed last) (sym whole)
    (subst (λ (x : List ℕ). IsOneCourse db J n (first ++ rest) (answer ++ more) x last) (sym whole_failed)
    (line_more db J mid n k said' first answer failed_here rest more others last (subst (λ s. SayingPacks n s first k) same packs) gives so)))

pub packed_alike : (db : List Domain) (lines : List (List ℕ)) (packed text failed : List ℕ) (requests : ℕ) (last : Journal)
    → EachGives PackGives 0 lines packed [] requests → EachGives (LineGives db) [] lines text failed last → IsOneCourse db [] 0 packed text failed last
packed_alike db lines packed text failed requests last packs gives = one_course db lines [] 0 packed text failed requests last packs gives
