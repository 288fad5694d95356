-- A message's place: what `exchange` and `receive` promise of it, from the buffer as it is once bytes were read into it.
use Rattle.std.proofs.Common.{◌≡◌, ◌≤◌, ◌+◌, ◌⊎◌, inl, inr, ℕ, [], ◌++◌, length, take, drop, refl, ap, ◌∙◌, subst}
use Rattle.std.proofs.Common.{arith, false, Bool, codes, append_assoc, Option, ◌*◌}
use Rattle.std.specs.Prelude.{◌||◌}
use Rattle.office_core.specs.declared.machine.Busy.{Busy as BusyOffice}
use Rattle.office_core.specs.declared.machine.Machine as machine
use Rattle.http_messages.specs.declared.answers.AnswerView.{AnswerView}
use Rattle.http_messages.specs.declared.answers.Answered.{Answered}
use Rattle.http_messages.specs.declared.status.Status.TheVariants.{Busy}
use Rattle.http_desk.specs.Bounds.{TalksBounded, ExchangeBounded, IsLastAnswer, StopsBounded, leave_of}
use Rattle.http_desk.specs.Exchanges.{Refused}
use Rattle.http_desk.specs.MachineAnswers.{AnswersAs}
use Rattle.http_desk.specs.declared.session_end.Ended.TheVariants.{Bound}
use Rattle.http_desk.proofs.Common.{Accepted, Appends, Appends-nil, Appends-trans, BadRequest, Bytes, Consumes-nil}
use Rattle.http_desk.proofs.Common.{Consumes-trans, Ended, Ends, EndsAsCalled, EndsSo, Exchange, Fails, Goes, HasHead}
use Rattle.http_desk.proofs.Common.{IsClosing, IsUsedUp, IsViewOf, Last, LastLeavesOpen, MatchResult, MayFail, Next}
use Rattle.http_desk.proofs.Common.{NoHead, OnOk, ReadsIntoBuffer, Refuses, Request, Result, SendsAnswer, Stands, State}
use Rattle.http_desk.proofs.Common.{Status, StepsAsCalled, Stream, TakesCalls, TakesTurns, Talks, TellsSomeWriteBound}
use Rattle.http_desk.proofs.Common.{TellsWriteBound, Through, Turn, WritesAsCalled, Written, answer_in, answer_of_view}
use Rattle.http_desk.proofs.Common.{answer_text, body_length, continue_if, error, is_head, last_text, most_answers}
use Rattle.http_desk.proofs.Common.{most_reads, nat_eq, refusal_text, response, state_after_last, ⊤}
use Rattle.http_desk.proofs.Bounds.{answered_to_bound, carried_to_bound, refused_to_bound}
use Rattle.http_desk.proofs.Endings.{allowed, begun, by_writer, came, ends_on}
use Rattle.http_desk.proofs.Faults.{takes_on}
use Rattle.http_desk.proofs.Sessions.{carried_none, carried_to_end}
use Rattle.http_desk.proofs.Turns.{Acts, answered_at, may_fail, refused}
use Rattle.http_desk.proofs.Views.{of_view}

-- ---- fixed answers

-- A fixed answer may stand last, after `before`. The office is not asked.
pub record StandsAlone (was : Type 0) (number : ℕ) (last : Last) (before : Bytes) (bare : Bool) (status : Status) : Type 0 where
  pub closing : IsClosing number last
  pub leave : before ≡ continue_if (leave_of last)
  pub answer : (s : State) → IsLastAnswer number s last (refusal_text bare (error status))
  pub text : (s : State) → (before ++ refusal_text bare (error status) ≡ last_text number s last) × (s ≡ state_after_last s last)
  pub opens : (s : State) → LastLeavesOpen was s last → was

pub too_long_alone : {was : Type 0} {number : ℕ} → StandsAlone was number NoHead [] false BadRequest
too_long_alone = record { closing = tt; leave = refl; answer = λ s. refl; text = λ s. (refl, refl); opens = λ s stays. stays }

pub refusal_alone : {was : Type 0} {number : ℕ} {status : Status} {bare : Bool}
    → StandsAlone was number (Refuses status bare) [] bare status
refusal_alone = record { closing = tt; leave = refl; answer = λ s. refl; text = λ s. (refl, refl); opens = λ s stays. stays }

pub busy_alone : {was : Type 0} {number : ℕ} (waits : Bool)
    → StandsAlone was number (Fails waits false) (continue_if waits) false Busy
busy_alone waits = record { closing = tt; leave = refl; answer = λ s. refl; text = λ s. (refl, refl); opens = λ s never. absurd never }

-- nothing was written before
unwritten : {r w : Stream} → EndsAsCalled TakesTurns r r w w Goes
unwritten = allowed refl (λ q. q) refl (λ q. q)

module _ {M : Type 0} (o : machine.Ghosts M) where
  -- what is written in a message's place after `before`, until a bound breaks it off
  abbrev pub ActsToBound : ℕ → M → M → Bytes → Bytes → Option Bytes → Stream → Type 0
  ActsToBound number old new input before a writer = (written : Bytes) × Appends a writer.bytes written
      × Through o.represents o.is_intact old new (λ s t. StopsBounded number s input (before ++ written) t writer)

  -- what is promised of a message's place: of the office, of the calls, and of a bound
  abbrev pub Exchanged : (Stream → Stream → Type 0) → ℕ → (reader reader_after writer writer_after : Stream) → M → Bytes → Next → M → Bytes → Type 0
  Exchanged Takes number r s w y old input next new rest =
      (turn : Exchange o.represents o.is_intact o.is_open o.recovers number r.bytes s.bytes w.bytes y.bytes old input next new rest)
      × (streams : EndsAsCalled Takes r s w y next)
      × (next ≡ Ends Bound → IsUsedUp most_reads s ⊎ ExchangeBounded o.represents o.is_intact number r.bytes s.bytes w.bytes y old input new)

  -- Bytes were read into the buffer, and `before` was written. What holds from there, holds of the whole place.
  pub placed : {r s w x y : Stream} {next : Next} {RanOut Quiet : Type 0} (number : ℕ) (old new : M) (input here before rest : Bytes)
      → EndsAsCalled TakesTurns r r w x Goes → Appends w.bytes x.bytes before
      → StepsAsCalled false RanOut Quiet r s → ReadsIntoBuffer r.bytes s.bytes input here
      → WritesAsCalled x y next → TellsSomeWriteBound y next
      → Acts o number old new here before x.bytes y.bytes next rest
      → (next ≡ Ends Bound → ActsToBound number old new here before x.bytes y)
      → Exchanged TakesTurns number r s w y old input next new rest
  placed {s = s} {y = y} {next = next} number old new input here before rest leave added steps (got, consumed, e) wrote told (written, appended, through) bounded =
      let none : TakesTurns s s = (refl, omega arith, refl) in (
        (
          got,
          before ++ written,
          consumed,
          Appends-trans _ _ _ _ _ added appended,
          subst (λ i. Through o.represents o.is_intact old new (λ s t. Turn (o.is_open old) (o.is_open new) (o.recovers old) (o.recovers new) number s i next (before ++ written) t rest)) e through,
        ),
        ends_on {T = TakesTurns} leave (ends_on {T = TakesTurns} (came {T = TakesTurns} steps.failed (λ q. (steps.bound q).0) steps.taken) (by_writer {T = TakesTurns} wrote told none) steps.taken) steps.taken,
        λ bound.
            let (written, appended, through) = bounded bound in
            inr (
              got,
              before ++ written,
              consumed,
              Appends-trans _ _ _ _ _ added appended,
              subst (λ i. Through o.represents o.is_intact old new (λ s t. StopsBounded number s i (before ++ written) t y)) e through,
            ),
      )

  -- a fixed answer was sent
  pub refused_placed : {r s w x y : Stream} {next : Next} {RanOut Quiet : Type 0} {last : Last} {bare : Bool} {status : Status} (number : ℕ) (office : M) (input here before rest : Bytes)
      → EndsAsCalled TakesTurns r r w x Goes → Appends w.bytes x.bytes before
      → StepsAsCalled false RanOut Quiet r s → ReadsIntoBuffer r.bytes s.bytes input here
      → StandsAlone (o.is_open office) number last before bare status → Stands here last
      → Refused x.bytes y.bytes bare status next → WritesAsCalled x y next
      → TellsWriteBound (refusal_text bare (error status)) y next
      → Exchanged TakesTurns number r s w y office input next office rest
  refused_placed {y = y} {next = next} {last = last} {bare = bare} {status = status} number office input here before rest leave added steps reads alone stands sent wrote told =
      placed number office office input here before rest leave added steps reads wrote (λ e. (refusal_text bare (error status), told e))
      (refused o number office office here before rest last bare status _ _ next sent stands alone.closing alone.text (λ i s h. h) alone.opens (λ i s h asked before. inl before))
      (refused_to_bound o number office office here before last bare status _ _ next y sent told stands alone.leave alone.answer alone.text (λ i s h. h))

  -- the message began before its reads
  pub begun_placed : {r r1 s w y : Stream} {next : Next} (number : ℕ) (old new : M) (input rest : Bytes)
      → r1 ≡ record r { given = most_reads; turns = most_reads }
      → Exchanged TakesTurns number r1 s w y old input next new rest
      → Exchanged (TakesCalls most_reads) number r s w y old input next new rest
  begun_placed {s = s} {w = w} {y = y} {next = next} number old new input rest is it =
      let (turn, streams, breaks_off) = subst (λ v. Exchanged TakesTurns number v s w y old input next new rest) is it in
      (turn, begun refl streams, breaks_off)

  -- a fixed answer to what a message began with
  pub begun_refused : {r r1 s w y : Stream} {next : Next} {RanOut Quiet : Type 0} {last : Last} {bare : Bool} {status : Status} (number : ℕ) (office : M) (input here rest : Bytes)
      → r1 ≡ record r { given = most_reads; turns = most_reads }
      → StepsAsCalled false RanOut Quiet r1 s → ReadsIntoBuffer r1.bytes s.bytes input here
      → StandsAlone (o.is_open office) number last [] bare status → Stands here last
      → Refused w.bytes y.bytes bare status next → WritesAsCalled w y next
      → TellsWriteBound (refusal_text bare (error status)) y next
      → Exchanged (TakesCalls most_reads) number r s w y office input next office rest
  begun_refused {w = w} number office input here rest is steps reads alone stands sent wrote told =
      begun_placed number office office input rest is
      (refused_placed number office input here [] rest unwritten (Appends-nil w.bytes) steps reads alone stands sent wrote told)

  -- what follows the head of a message
  pub begun_received : {r r1 s t w y : Stream} {next : Next} {RanOut Quiet : Type 0} (number : ℕ) (old new : M) (input here rest : Bytes)
      → r1 ≡ record r { given = most_reads; turns = most_reads }
      → StepsAsCalled false RanOut Quiet r1 s → ReadsIntoBuffer r1.bytes s.bytes input here
      → Exchanged TakesTurns number s t w y old here next new rest
      → Exchanged (TakesCalls most_reads) number r t w y old input next new rest
  begun_received {r1 = r1} {s = s} {t = t} {y = y} {next = next} number old new input here rest is steps (got, consumed, e) ((more, written, consumed2, appended, through), streams, bounded) =
      let grown : here ++ more ≡ input ++ (got ++ more) = ap (λ l. l ++ more) e ∙ append_assoc input got more in
      begun_placed number old new input rest is (
        (
          got ++ more,
          written,
          Consumes-trans _ _ _ _ _ consumed consumed2,
          appended,
          subst (λ i. Through o.represents o.is_intact old new (λ s t. Turn (o.is_open old) (o.is_open new) (o.recovers old) (o.recovers new) number s i next written t rest)) grown through,
        ),
        ends_on (came {T = TakesTurns} steps.failed (λ q. (steps.bound q).0) steps.taken) streams (takes_on r1 s t steps.taken streams.calls),
        λ bound. elim (bounded bound) [
          | inl reads ↦ inl reads
          | inr (more, written, consumed2, appended, through) ↦ inr (
            got ++ more,
            written,
            Consumes-trans _ _ _ _ _ consumed consumed2,
            appended,
            subst (λ i. Through o.represents o.is_intact old new (λ s t. StopsBounded number s i written t y)) (ap (λ l. l ++ more) e ∙ append_assoc input got more) through,
          )
        ],
      )

  -- the input stops, or a bound comes, and the office was not asked
  pub ends_here : (number : ℕ) (a b c d : Option Bytes) (office : M) (input here out : Bytes) (end : Ended) (last : Last)
      → ReadsIntoBuffer a b input here → Appends c d out → Stands here last → EndsSo number last end
      → ((s : State) → Written end (last_text number s last) out × (s ≡ state_after_last s last))
      → ((s : State) → LastLeavesOpen (o.is_open office) s last → o.is_open office)
      → Exchange o.represents o.is_intact o.is_open o.recovers number a b c d office input (Ends end) office []
  ends_here number a b c d office input here out end last (got, consumed, e) added stands ends written opens = (
    got,
    out,
    consumed,
    added,
    λ i s shown. (
      s,
      shown,
      (
        record { last = last; stands = subst (λ l. Stands l last) e stands; ends = ends; written = (written s).0; leaves = (written s).1 },
        opens s,
        λ asked before. inl before,
      ),
    ),
  )

  -- a bound comes, where a head may have asked for leave
  pub bound_here : (number : ℕ) (a b c d : Option Bytes) (office : M) (input here : Bytes) (leave : Bool)
      → ReadsIntoBuffer a b input here → Appends c d (continue_if leave) → MayFail here leave false
      → Exchange o.represents o.is_intact o.is_open o.recovers number a b c d office input (Ends Bound) office []
  bound_here number a b c d office input here leave reads added may =
      ends_here number a b c d office input here (continue_if leave) Bound (Fails leave false) reads added may tt
      (λ s. ((refusal_text false (error Busy), refl), refl)) (λ s never. absurd never)

  -- what the office answered was sent, or that it is busy
  pub acts_so : {old new : M} {items : Bytes} {request : Request} {made : Result Answered BusyOffice} (number size n : ℕ) (view : Result AnswerView BusyOffice) (bare closing : Bool) (a : Option Bytes) (writer : Stream) (next : Next)
      → HasHead items (take size items) (Accepted request) (drop size items) → size + n ≤ length items
      → n ≡ body_length request
      → bare ≡ is_head request.method → (request.closes || nat_eq number most_answers) ≡ closing
      → AnswersAs o.represents o.is_intact o.is_open o.recovers old new (λ s. response s request (take n (drop size items))) (request.method ≡ codes "POST") made
      → IsViewOf view made
      → MatchResult view (λ v. SendsAnswer a writer.bytes closing (answer_text bare closing (answer_of_view v)) next) (λ why. Refused a writer.bytes false Busy next)
      → MatchResult view (λ v. TellsWriteBound (answer_text bare closing (answer_of_view v)) writer next) (λ why. TellsWriteBound (refusal_text false (error Busy)) writer next)
      → ((rest : Bytes) → OnOk made (rest ≡ drop (size + n) items) → Acts o number old new items (continue_if request.waits) a writer.bytes next rest)
      × (next ≡ Ends Bound → ActsToBound number old new items (continue_if request.waits) a writer)
  acts_so {old = old} {new = new} {items = items} {request = request} {made = made} number size n view bare closing a writer next head within length_is is_bare is_closing does viewed sent told =
      let sent_is = of_view (λ x. SendsAnswer a writer.bytes closing (answer_text bare closing x) next) (λ why. Refused a writer.bytes false Busy next) view made viewed sent in
      let told_is = of_view (λ x. TellsWriteBound (answer_text bare closing x) writer next) (λ why. TellsWriteBound (refusal_text false (error Busy)) writer next) view made viewed told in (
        λ rest left. answered_at o answer_in number old new items size n request made bare rest a writer.bytes closing next head within length_is left is_bare is_closing sent_is does.answers does.busy does.kept does.found does.doubt,
        answered_to_bound o answer_in number old new items size n request made bare a writer.bytes closing next writer head within length_is is_bare is_closing sent_is told_is does.answers does.busy,
      )

  -- 503 stands in the first place, and nothing was read
  pub busy_session : {r w y : Stream} {next : Next} {end : Ended} (office : M) → next ≡ Ends end
      → Refused w.bytes y.bytes false Busy next → WritesAsCalled w y next
      → TellsWriteBound (refusal_text false (error Busy)) y next
      → Talks o.represents o.is_intact o.is_open o.recovers r.bytes r.bytes w.bytes y.bytes office end office
      × (streams : EndsAsCalled (TakesCalls (most_answers * most_reads)) r r w y (Ends end))
      × (end ≡ Bound → TalksBounded o.represents o.is_intact r.bytes r w.bytes y office office)
  busy_session {r = r} {w = w} {y = y} {next = next} {end = end} office is sent wrote told =
      let steps : StepsAsCalled false ⊥ ⊤ r r =
      record { failed = refl; bound = λ q. (q, tt); used_up = λ never. absurd never; taken = (refl, omega arith, refl) } in
      let (turn, streams, bounded) = refused_placed 1 office [] [] [] [] unwritten (Appends-nil w.bytes) steps ([], Consumes-nil r.bytes, refl) (busy_alone false) (may_fail []) sent wrote told in
      let none = carried_none o r.bytes w.bytes office [] refl in (
        carried_to_end o r.bytes r.bytes r.bytes w.bytes w.bytes y.bytes office office office 1 [] [] is (λ i. i) none turn,
        subst (EndsAsCalled (TakesCalls (most_answers * most_reads)) r r w y) is (by_writer wrote (λ e. (refusal_text false (error Busy), told e)) (refl, omega arith)),
        λ e. elim (bounded (is ∙ ap Ends e)) [
          | inl reads ↦ inl reads
          | inr place ↦ inr (carried_to_bound o r.bytes r.bytes r.bytes w.bytes w.bytes y office office office 1 [] (λ i. i) none place)
        ],
      )
