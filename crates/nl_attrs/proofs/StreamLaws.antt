-- A stream has one list of messages, and a decoder gives it.
use Rattle.std.proofs.Common.{◌≡◌, ℕ, ◌+◌, ◌-◌, ◌≤◌, false, List, [], ◌∷◌, ◌++◌, length, take, drop, All, is_some, Option, Some, None, refl, sym, ap, subst, ◌∙◌, inl, append_assoc, arith}
use Rattle.std.specs.Prelude.{MatchOption}
use Rattle.std.proofs.lemmas.List.{append-nil, length-append, flat_map_more, take_rest, drop-drop, drop-append-le}
use Rattle.std.proofs.lemmas.List.Elements.{recursion_from_All, All-push}
use Rattle.nl_attrs.specs.Messages.{IsMsg, spelled, all_spelled}
use Rattle.nl_attrs.specs.Faults.{IsFault, IsUndecided}
use Rattle.nl_attrs.specs.inner.Reading.{TakesMessage}
use Rattle.nl_attrs.specs.Streams.{AreMessages, Decoding, HasGiven, TakesMsg}
use Rattle.nl_attrs.specs.declared.fault.AttrFault.{AttrFault}
use Rattle.nl_attrs.specs.declared.message.Msg.{Msg}
use Rattle.nl_attrs.proofs.OneReading.{Stops, one_reading, longest}
use Rattle.nl_attrs.proofs.MsgApart.{msg-apart}
use Rattle.nl_attrs.proofs.FaultLaws.{undecided-stops, fault-stops, one_fault, undecided_no_fault, fault_stays}

-- ---- streams

-- no message begins what is left
last-stops : (rest : List ℕ) (fault : Option AttrFault) → MatchOption fault (IsUndecided rest) (IsFault rest) → Stops spelled IsMsg rest
last-stops rest None last = undecided-stops rest last
last-stops rest (Some f) last = fault-stops rest f last

same_last : (rest : List ℕ) (e f : Option AttrFault) → MatchOption e (IsUndecided rest) (IsFault rest) → MatchOption f (IsUndecided rest) (IsFault rest) → e ≡ f
same_last rest None None one other = refl
same_last rest None (Some f) one other = absurd (undecided_no_fault rest f one other)
same_last rest (Some e) None one other = absurd (undecided_no_fault rest e other one)
same_last rest (Some e) (Some f) one other = ap Some (one_fault rest e f one other)

pub one_stream : (stream : List ℕ) (ms ns : List Msg) (e f : Option AttrFault) → AreMessages stream ms e → AreMessages stream ns f → (ms ≡ ns) × (e ≡ f)
one_stream stream ms ns e f one other =
    let same = one_reading spelled IsMsg msg-apart ms ns one.rest other.rest (recursion_from_All IsMsg ms one.each) (recursion_from_All IsMsg ns other.each) (last-stops one.rest e one.last) (last-stops other.rest f other.last) (sym one.parts ∙ other.parts) in
    (same.0, same_last one.rest e f one.last (let P : List ℕ → Type 0 = λ x. MatchOption f (IsUndecided x) (IsFault x) in subst P (sym same.1) other.last))

-- each list of messages that the stream begins with is the front of its messages
pub longest_list : (stream : List ℕ) (ms ns : List Msg) (f : Option AttrFault) (left : List ℕ) → AreMessages stream ns f → All IsMsg ms → stream ≡ all_spelled ms ++ left → (more : List Msg) × (ns ≡ ms ++ more)
longest_list stream ms ns f left messages each e =
    longest spelled IsMsg msg-apart ms ns left messages.rest (recursion_from_All IsMsg ms each) (recursion_from_All IsMsg ns messages.each) (last-stops messages.rest f messages.last) (sym e ∙ messages.parts)

-- what a stream has is had by it with more bytes
pub goes_on : (stream more : List ℕ) (ms ns : List Msg) (e f : Option AttrFault) → AreMessages stream ms e → AreMessages (stream ++ more) ns f → (others : List Msg) × (ns ≡ ms ++ others)
goes_on stream more ms ns e f one other =
    longest_list (stream ++ more) ms ns f (one.rest ++ more) other one.each (ap (λ (x : List ℕ). x ++ more) one.parts ∙ append_assoc (all_spelled ms) one.rest more)

pub fault_ends : (stream more : List ℕ) (ms : List Msg) (f : AttrFault) → AreMessages stream ms (Some f) → AreMessages (stream ++ more) ms (Some f)
fault_ends stream more ms f messages =
    record {
      rest = messages.rest ++ more;
      parts =
          ap (λ (x : List ℕ). x ++ more) messages.parts ∙ append_assoc (all_spelled ms) messages.rest more;
      each = messages.each;
      last = fault_stays messages.rest more f messages.last;
    }

pub read_back : (ms : List Msg) → All IsMsg ms → AreMessages (all_spelled ms) ms None
read_back ms each =
    record {
      rest = [];
      parts = sym (append-nil (all_spelled ms));
      each = each;
      last = inl (omega arith);
    }

-- ---- steps of a decoder

pub feed_step : (d d' : Decoding) (piece fed : List ℕ) (given : List Msg) → d.fault ≡ None → d'.held ≡ d.held ++ piece → d'.taken ≡ d.taken → d'.fault ≡ None → HasGiven d fed given → HasGiven d' (fed ++ piece) given
feed_step d d' piece fed given free held taken free' before =
    let none : before.lost ≡ [] = let P : Option AttrFault → Type 0 = λ o. MatchOption o (before.lost ≡ []) (IsFault d.held) in subst P free before.state in
    let front : fed ≡ all_spelled given ++ d.held = before.parts ∙ ap (λ (x : List ℕ). all_spelled given ++ (d.held ++ x)) none ∙ ap (λ (x : List ℕ). all_spelled given ++ x) (append-nil d.held) in
    record {
      lost = [];
      parts =
          ap (λ (x : List ℕ). x ++ piece) front ∙ append_assoc (all_spelled given) d.held piece ∙ ap (λ (x : List ℕ). all_spelled given ++ x) (sym held ∙ sym (append-nil d'.held));
      each = before.each;
      count = taken ∙ before.count;
      state = let P : Option AttrFault → Type 0 = λ o. MatchOption o (◌≡◌ {A = List ℕ} [] []) (IsFault d'.held) in subst P (sym free') refl;
    }

pub fault_step : (d : Decoding) (fault : AttrFault) (fed : List ℕ) (given : List Msg) → d.fault ≡ Some fault → HasGiven d fed given → AreMessages fed given (Some fault)
fault_step d fault fed given met before =
    let faulty : IsFault d.held fault = let P : Option AttrFault → Type 0 = λ o. MatchOption o (before.lost ≡ []) (IsFault d.held) in subst P met before.state in
    record {
      rest = d.held ++ before.lost;
      parts = before.parts;
      each = before.each;
      last = fault_stays d.held before.lost fault faulty;
    }

pub give_step : (d d' : Decoding) (m : Msg) (fed : List ℕ) (given : List Msg) → TakesMsg d d' m → HasGiven d fed given → HasGiven d' fed (given ++ m ∷ [])
give_step d d' m fed given takes before =
    let none : before.lost ≡ [] = let P : Option AttrFault → Type 0 = λ o. MatchOption o (before.lost ≡ []) (IsFault d.held) in subst P takes.before before.state in
    let spelt : all_spelled given ++ spelled m ≡ all_spelled (given ++ m ∷ []) = flat_map_more spelled [] given m in
    record {
      lost = before.lost;
      parts =
          before.parts ∙ ap (λ (x : List ℕ). all_spelled given ++ (x ++ before.lost)) takes.front ∙ ap (λ (x : List ℕ). all_spelled given ++ x) (append_assoc (spelled m) d'.held before.lost) ∙ sym (append_assoc (all_spelled given) (spelled m) (d'.held ++ before.lost)) ∙ ap (λ (x : List ℕ). x ++ (d'.held ++ before.lost)) spelt;
      each = All-push IsMsg given m before.each takes.message;
      count =
          takes.count ∙ ap (λ (n : ℕ). n + length (spelled m)) before.count ∙ sym (length-append (all_spelled given) (spelled m)) ∙ ap length spelt;
      state = let P : Option AttrFault → Type 0 = λ o. MatchOption o (before.lost ≡ []) (IsFault d'.held) in subst P (sym takes.after) none;
    }

-- the message that was found in what is held
pub takes_found : (b bytes : List ℕ) (start taken n : ℕ) (fault : Option AttrFault) (m : Msg) → b ≡ bytes → fault ≡ None → TakesMessage (take (length b - start) (drop start b)) m n → TakesMsg (record { held = drop start bytes; taken = taken; fault = fault }) (record { held = drop (start + n) bytes; taken = taken + n; fault = fault }) m
takes_found b bytes start taken n fault m same free found =
    let front : drop start bytes ≡ spelled m ++ drop n (drop start bytes) = rw (same, take_rest bytes start) at found.front in
    record {
      message = found.message;
      front = front ∙ ap (λ (x : List ℕ). spelled m ++ x) (drop-drop n start bytes);
      long = rw (← found.count) found.long;
      count = ap (λ (k : ℕ). taken + k) found.count;
      before = free;
      after = free;
    }

pub none_from_test : {A : Type 0} (o : Option A) → is_some o ≡ false → o ≡ None
none_from_test None e = refl
none_from_test (Some x) e = absurd cc

pub held_more : (bytes closed longer piece : List ℕ) (start place : ℕ) → place ≤ length closed → drop place closed ≡ drop start bytes → longer ≡ closed ++ piece → drop place longer ≡ drop start bytes ++ piece
held_more bytes closed longer piece start place within rest more =
    ap (drop place) more ∙ drop-append-le place closed piece within ∙ ap (λ (x : List ℕ). x ++ piece) rest
