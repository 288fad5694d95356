-- Sessions that a bound ended in a text.
use Rattle.std.proofs.Common.{◌≡◌, ◌≤◌, ◌+◌, ℕ, [], ◌++◌, length, take, drop, refl, sym, ap, ◌∙◌, subst, true, false}
use Rattle.std.proofs.Common.{Bool, append_assoc, inl, inr, Option}
use Rattle.std.specs.Prelude.{◌||◌, Ok, Err}
use Rattle.office_core.specs.declared.machine.Machine as machine
use Rattle.http_messages.specs.Answers.{continue_text}
use Rattle.http_messages.specs.declared.status.Status.TheVariants.{Busy}
use Rattle.http_desk.specs.Bounds.{ExchangeBounded, IsLastAnswer, SessionBounded, StopsBounded, leave_of}
use Rattle.http_desk.specs.Exchanges.{Refused}
use Rattle.http_desk.specs.declared.output.Sent.TheVariants.{All, Failed, Bound as OutOfTurns}
use Rattle.http_desk.specs.declared.session_end.Ended.TheVariants.{Bound}
use Rattle.http_desk.proofs.Common.{Accepted, Answer, Answers, Appends, Appends-trans, Bytes, Closed, Consumes}
use Rattle.http_desk.proofs.Common.{Consumes-nil, Consumes-trans, Ends, Fails, HasHead, IfOk, IsFront, Last}
use Rattle.http_desk.proofs.Common.{MatchResult, Message, Next, OnErr, Request, Result, Sends, SendsAnswer, Sent}
use Rattle.http_desk.proofs.Common.{Stands, State, Status, Stream, TellsWriteBound, TextIsUsedUp, Through, after_answer}
use Rattle.http_desk.proofs.Common.{after_sending, answer_text, body_length, closes, continue_if, error, is_head}
use Rattle.http_desk.proofs.Common.{last_text, message_answer, most_answers, nat_eq, refusal_text, response}
use Rattle.http_desk.proofs.Common.{state_after_last, state_after_message, state_after_messages}
use Rattle.http_desk.proofs.Faults.{bound_sent, closed_no_bound, goes_no_bound}
use Rattle.http_desk.proofs.Turns.{front_after, head_more, may_fail_after, message_at}
use Rattle.http_desk.proofs.Sessions.{Begun, Carried, cuts_longer}

-- a sending that ends in a bound wrote a front of its text
sent_front : (sent : Sent) (next : Next) (a b : Option Bytes) (text : Bytes) → (next ≡ Ends Bound → ⊥)
    → after_sending sent next ≡ Ends Bound → Sends a b text sent
    → (front : Bytes) × IsFront front text × Appends a b front
sent_front All next a b text n e s = absurd (n e)
sent_front Failed next a b text n e s = absurd (cc)
sent_front OutOfTurns next a b text n e s = s

after_no_bound : (closing : Bool) → after_answer closing ≡ Ends Bound → ⊥
after_no_bound true e = closed_no_bound e
after_no_bound false e = goes_no_bound e

front_longer : (front text more : Bytes) → IsFront front text → IsFront front (text ++ more)
front_longer front text more (rest, e) = (rest ++ more, ap (λ l. l ++ more) e ∙ append_assoc front rest more)

-- after the messages that were answered
begun_bounded : (number : ℕ) (s t u : State) (read written buffer more out : Bytes) (writer : Stream)
    → Begun number s read written t buffer
    → StopsBounded number t (buffer ++ more) out u writer → SessionBounded s (read ++ more) (written ++ out) u writer
begun_bounded number s t u read written buffer more out writer b g =
    let there = subst (λ x. StopsBounded number x (buffer ++ more) out u writer) b.leaves g in
    let (stops, bounded) = subst (λ n. StopsBounded n (state_after_messages s b.messages) (buffer ++ more) out u writer) (sym b.count) there in (
      record {
        messages = b.messages;
        rest = buffer ++ more;
        out = out;
        cut = cuts_longer read b.messages buffer more b.cut;
        stay = b.stay;
        few = b.few;
        stops = stops;
        says = ap (λ l. l ++ out) b.says;
      },
      bounded,
    )

module _ {M : Type 0} (o : machine.Ghosts M) where
  -- a fixed answer broke off
  pub refused_to_bound : (number : ℕ) (old new : M) (input before : Bytes) (last : Last) (bare : Bool) (status : Status) (a b : Option Bytes) (next : Next) (writer : Stream)
      → Refused a b bare status next → TellsWriteBound (refusal_text bare (error status)) writer next → Stands input last
      → before ≡ continue_if (leave_of last)
      → ((s : State) → IsLastAnswer number s last (refusal_text bare (error status)))
      → ((s : State) → (before ++ refusal_text bare (error status) ≡ last_text number s last) × (s ≡ state_after_last s last))
      → (o.is_intact new → (s : State) → o.represents old s → o.represents new s) → next ≡ Ends Bound
      → (written : Bytes) × Appends a b written × Through o.represents o.is_intact old new (λ s t. StopsBounded number s input (before ++ written) t writer)
  refused_to_bound number old new input before last bare status a b next writer (sent, sends, e) told x lead answer alone kept bound =
      let text = refusal_text bare (error status) in
      let (front, is_front, appended) = sent_front sent (Ends Closed) a b text closed_no_bound (sym e ∙ bound) sends in (
        front,
        appended,
        λ i s h. (
          s,
          kept i s h,
          (
            record { last = last; stands = x; ends = tt; written = subst (IsFront (before ++ front)) (alone s).0 (front_after before front text is_front); leaves = (alone s).1 },
            (text, inr (answer s, (front, ap (λ l. l ++ front) lead, is_front)), told bound),
          ),
        ),
      )

  -- what the office answered broke off, or that it is busy
  pub answered_to_bound : {A E : Type 0} (answer : A → Answer) (number : ℕ) (old new : M) (items : Bytes) (size n : ℕ) (request : Request) (made : Result A E) (bare : Bool) (a b : Option Bytes) (closing : Bool) (next : Next) (writer : Stream)
      → HasHead items (take size items) (Accepted request) (drop size items) → size + n ≤ length items
      → n ≡ body_length request
      → bare ≡ is_head request.method → (request.closes || nat_eq number most_answers) ≡ closing
      → MatchResult made (λ x. SendsAnswer a b closing (answer_text bare closing (answer x)) next) (λ e. Refused a b false Busy next)
      → MatchResult made (λ x. TellsWriteBound (answer_text bare closing (answer x)) writer next) (λ e. TellsWriteBound (refusal_text false (error Busy)) writer next)
      → IfOk made (λ x. o.is_intact new → (s : State) → o.represents old s → o.represents new (response s request (take n (drop size items))).1 × (answer x ≡ (response s request (take n (drop size items))).0))
      → OnErr made (o.is_intact new → (s : State) → o.represents old s → o.represents new s) → next ≡ Ends Bound
      → (written : Bytes) × Appends a b written × Through o.represents o.is_intact old new (λ s t. StopsBounded number s items (continue_if request.waits ++ written) t writer)
  answered_to_bound answer number old new items size n request (Ok x) bare a b closing next writer h within e is_bare is_closing (sent, sends, ends) told answers busy bound =
      let text = answer_text bare closing (answer x) in
      let (front, is_front, appended) =
      sent_front sent (after_answer closing) a b text (after_no_bound closing) (sym ends ∙ bound) sends in
      let message : Message = record { request = request; body = take n (drop size items) } in
      let rest = drop (size + n) items in
      let begins = message_at o items size n request rest h within e refl in (
        front,
        appended,
        λ i s shown.
            let (shown_after, told_is) = answers i s shown in
            let same : text ≡ answer_text (is_head request.method) (closes number message) (message_answer s message) =
            λ j. answer_text (is_bare j) (sym is_closing j) (told_is j) in
            let says : continue_if request.waits ++ text ≡ last_text number s (Answers message) = ap (λ l. continue_if request.waits ++ l) same in (
              state_after_message s message,
              shown_after,
              (
                record { last = Answers message; stands = (rest, begins); ends = tt; written = subst (IsFront (continue_if request.waits ++ front)) says (front_after (continue_if request.waits) front text is_front); leaves = refl },
                (text, inr (same, (front, refl, is_front)), told bound),
              ),
            ),
      )
  answered_to_bound answer number old new items size n request (Err why) bare a b closing next writer h within e is_bare is_closing sent told answers busy bound =
      refused_to_bound number old new items (continue_if request.waits) (Fails request.waits false) false Busy a b next writer sent told
      (may_fail_after items (take size items) (drop size items) request h) refl (λ s. refl) (λ s. (refl, refl)) busy bound

  -- the leave to send a body broke off
  pub leave_to_bound : {items block more : Bytes} {request : Request} {result : Next} (number : ℕ) (office : M) (a b : Option Bytes) (writer : Stream) (sent : Sent)
      → result ≡ after_sending sent (Ends Closed) → HasHead items block (Accepted request) more
      → Sends b writer.bytes (continue_if request.waits) sent
      → (sent ≡ OutOfTurns → request.waits ≡ true) → (sent ≡ OutOfTurns → TextIsUsedUp continue_text writer)
      → result ≡ Ends Bound
      → ExchangeBounded o.represents o.is_intact number a a b writer office items office
  leave_to_bound {items = items} {block = block} {more = more} {request = request} number office a b writer sent e h sends due used bound =
      let is = bound_sent sent (Ends Closed) closed_no_bound (sym e ∙ bound) in
      let (front, is_front, appended) =
      sent_front sent (Ends Closed) b writer.bytes (continue_if request.waits) closed_no_bound (sym e ∙ bound) sends in
      let leave : IsFront front continue_text = subst (λ x. IsFront front (continue_if x)) (due is) is_front in
      let there = head_more items block (Accepted request) more [] h in (
        [],
        front,
        Consumes-nil a,
        appended,
        λ i s shown. (
          s,
          shown,
          (
            record {
              last = Fails request.waits false;
              stands = may_fail_after (items ++ []) block (more ++ []) request there;
              ends = tt;
              written = front_longer front (continue_if request.waits) (refusal_text false (error Busy)) is_front;
              leaves = refl;
            },
            (continue_text, inl (due is, refl, leave), used is),
          ),
        ),
      )

  -- a bound in the place of a message is one of the session
  pub carried_to_bound : (a b b2 c d : Option Bytes) (writer : Stream) (start now new : M) (number : ℕ) (buffer : Bytes)
      → (o.is_intact new → o.is_intact now) → Carried o a b c d start now number buffer
      → ExchangeBounded o.represents o.is_intact number b b2 d writer now buffer new
      → (read : Bytes) × (written : Bytes) × Consumes a b2 read × Appends c writer.bytes written × Through o.represents o.is_intact start new (λ s t. SessionBounded s read written t writer)
  carried_to_bound a b b2 c d writer start now new number buffer before (read, written, consumed, appended, intact, through) (read2, written2, consumed2, appended2, through2) = (
    read ++ read2,
    written ++ written2,
    Consumes-trans a b b2 read read2 consumed consumed2,
    Appends-trans c d writer.bytes written written2 appended appended2,
    λ i s h.
        let (t, shown, begun) = through (before i) s h in
        let (u, shown2, stops) = through2 i t shown in
        (u, shown2, begun_bounded number s t u read written buffer read2 written2 writer begun.0 stops),
  )
