-- Lemmas on one message's place.
use Rattle.std.proofs.Common.{◌≡◌, ◌<◌, ◌≤◌, ◌+◌, inl, inr, ℕ, List, [], ◌++◌, length, take, drop, refl, sym, ap, ◌∙◌}
use Rattle.std.proofs.Common.{subst, arith, true, false, Bool, codes, append_assoc, Option, length-take, length-drop}
use Rattle.std.proofs.Common.{length-append, take-append-drop, drop-drop}
use Rattle.std.specs.Prelude.{◌||◌, Ok, Err}
use Rattle.office_core.specs.declared.machine.Machine as machine
use Rattle.http_messages.specs.HeadScan.{scan}
use Rattle.http_messages.specs.declared.head_verdict.Judged.{Judged}
use Rattle.http_messages.specs.declared.status.Status.TheVariants.{Busy}
use Rattle.http_desk.specs.Exchanges.{Refused}
use Rattle.http_desk.specs.declared.output.Sent.TheVariants.{All, Failed, Bound as OutOfTurns}
use Rattle.http_desk.proofs.Common.{Accepted, Answer, Answers, AnswersTo, Appends, Begins, BodyCut, Bytes, Closed}
use Rattle.http_desk.proofs.Common.{Command, Consumes-nil, Ended, Ends, Exchange, Fails, Fine, Goes, HasHead, IfOk}
use Rattle.http_desk.proofs.Common.{IsAccepted, IsBusyWith, IsClosing, IsFront, JudgesHead, Last, LastLeavesOpen}
use Rattle.http_desk.proofs.Common.{MatchResult, MayFail, Message, Next, OnErr, OnOk, Request, Result, Sends}
use Rattle.http_desk.proofs.Common.{SendsAnswer, Sent, Stands, State, Status, StaysFound, StaysFoundOrBusy, Stops}
use Rattle.http_desk.proofs.Common.{Through, Turn, Verdict, Whole, after_sending, answer_text, body_length, closes}
use Rattle.http_desk.proofs.Common.{continue_if, drop-append-le, error, is_head, last_text, longest_head, message_text}
use Rattle.http_desk.proofs.Common.{most_answers, nat_eq, refusal_text, response, scan_take_more, state_after_last}
use Rattle.http_desk.proofs.Common.{state_after_message, take-append-le, verdict_in}

-- ---- heads

-- more input changes no head
pub head_more : (input block : Bytes) (v : Verdict) (more rest : Bytes) → HasHead input block v more
    → HasHead (input ++ rest) block v (more ++ rest)
head_more input block v more rest h = record {
  ends = scan_take_more longest_head input rest (length block) h.ends;
  whole = ap (λ l. l ++ rest) h.whole ∙ append_assoc block more rest;
  judged = h.judged;
}

-- the head that was found
pub head_found : (items : Bytes) (size : ℕ) (v : Verdict) → scan (take longest_head items) ≡ Whole size
    → size ≤ length items → JudgesHead (take size items) v → HasHead items (take size items) v (drop size items)
head_found items size v e h j =
    let len : length (take size items) ≡ size = omega (arith, length-take size items) in
    record { ends = e ∙ ap Whole (sym len); whole = sym (take-append-drop size items); judged = j }

-- the head that was found and judged
pub head_judged : {items held : Bytes} {size limit : ℕ} {verdict known : Judged}
    → (scan (take longest_head items) ≡ Whole size) × (size ≤ length items) × (size ≤ limit) → held ≡ items
    → verdict ≡ known → JudgesHead (take size held) (verdict_in (take size held) verdict)
    → HasHead items (take size items) (verdict_in (take size items) known) (drop size items)
head_judged {items = items} {size = size} {verdict = verdict} {known = known} (found, within, limit) same is judged =
    head_found items size (verdict_in (take size items) known) found within
    (subst (λ v. JudgesHead (take size items) (verdict_in (take size items) v)) is (subst (λ b. JudgesHead (take size b) (verdict_in (take size b) verdict)) same judged))

pub begins_more : (input : Bytes) (m : Message) (rest more : Bytes) → Begins input m rest
    → Begins (input ++ more) m (rest ++ more)
begins_more input m rest more b = record {
  block = b.block;
  head = subst (λ l. HasHead (input ++ more) b.block (Accepted m.request) l) (append_assoc m.body rest more) (head_more input b.block (Accepted m.request) (m.body ++ rest) more b.head);
  complete = b.complete;
}

-- ---- what a sending leaves

pub IsWritten : Sent → Bytes → Bytes → Type 0
IsWritten All full written = written ≡ full
IsWritten Failed full written = IsFront written full
IsWritten OutOfTurns full written = IsFront written full

pub written_of : (a b : Option Bytes) (full : Bytes) (sent : Sent) → Sends a b full sent
    → (written : Bytes) × Appends a b written × IsWritten sent full written
unfolding IsWritten
written_of a b full All s = (full, s, refl)
written_of a b full Failed (front, f, s) = (front, s, f)
written_of a b full OutOfTurns (front, f, s) = (front, s, f)

pub front_after : (before front full : Bytes) → IsFront front full → IsFront (before ++ front) (before ++ full)
front_after before front full (rest, e) = (rest, ap (λ l. before ++ l) e ∙ sym (append_assoc before front rest))

-- the answer that closes was sent, or broken off
pub closed_turn : (was now : Type 0) (had has : List Command → State → Type 0) (number : ℕ) (s : State) (input before full written rest : Bytes) (new : State) (last : Last) (sent : Sent)
    → Stands input last → IsClosing number last → before ++ full ≡ last_text number s last
    → new ≡ state_after_last s last → IsWritten sent full written → (LastLeavesOpen was s last → now)
    → StaysFoundOrBusy had has (IsBusyWith input last) s new
    → Turn was now had has number s input (after_sending sent (Ends Closed)) (before ++ written) new rest
unfolding IsWritten
closed_turn was now had has number s input before full written rest new last All x c e n w k f =
    (record { last = last; stands = x; ends = c; written = ap (λ l. before ++ l) w ∙ e; leaves = n }, k, f)
closed_turn was now had has number s input before full written rest new last Failed x c e n w k f =
    (record { last = last; stands = x; ends = tt; written = subst (IsFront (before ++ written)) e (front_after before written full w); leaves = n }, k, f)
closed_turn was now had has number s input before full written rest new last OutOfTurns x c e n w k f =
    (record { last = last; stands = x; ends = tt; written = subst (IsFront (before ++ written)) e (front_after before written full w); leaves = n }, k, f)

-- the answer that leaves the connection open was sent, or broken off
pub open_turn : (was now : Type 0) (had has : List Command → State → Type 0) (number : ℕ) (s : State) (input before full written rest : Bytes) (new : State) (m : Message) (sent : Sent)
    → Begins input m rest → closes number m ≡ false → before ++ full ≡ message_text false s m → new ≡ state_after_message s m
    → IsWritten sent full written → (IsAccepted s m → now)
    → StaysFound had has s new
    → Turn was now had has number s input (after_sending sent Goes) (before ++ written) new rest
unfolding IsWritten
open_turn was now had has number s input before full written rest new m All x c e n w k f =
    (record { message = m; begins = x; stays = c; says = ap (λ l. before ++ l) w ∙ e; leaves = n }, k, f)
open_turn was now had has number s input before full written rest new m Failed x c e n w k f =
    let all : before ++ full ≡ last_text number s (Answers m) = e ∙ ap (λ b. message_text b s m) (sym c) in
    (record { last = Answers m; stands = (rest, x); ends = tt; written = subst (IsFront (before ++ written)) all (front_after before written full w); leaves = n }, k, λ asked h. inl (f asked h))
open_turn was now had has number s input before full written rest new m OutOfTurns x c e n w k f =
    let all : before ++ full ≡ last_text number s (Answers m) = e ∙ ap (λ b. message_text b s m) (sym c) in
    (record { last = Answers m; stands = (rest, x); ends = tt; written = subst (IsFront (before ++ written)) all (front_after before written full w); leaves = n }, k, λ asked h. inl (f asked h))

-- ---- places where the office is left alone

never : {X : Type 0} → false ≡ true → X
never e = cc

-- 503 may stand anywhere
pub may_fail : (input : Bytes) → MayFail input false false
may_fail input = record { continue_due = λ e. never e; to_head = λ e. never e }

-- and after 100 Continue, where a head that came whole waits for it
pub may_fail_after : (input block more : Bytes) (r : Request) → HasHead input block (Accepted r) more
    → MayFail input r.waits false
may_fail_after input block more r h = record { continue_due = λ e. (block, more, Accepted r, h, e); to_head = λ e. never e }

-- what is left in a buffer once it is given back
pub left_back : {A E : Type 0} (made : Result A E) (lent back rest : Bytes) → OnOk made (lent ≡ rest) → back ≡ lent
    → OnOk made (back ≡ rest)
left_back (Ok x) lent back rest left same = same ∙ left
left_back (Err why) lent back rest left same = left

module _ {M : Type 0} (o : machine.Ghosts M) where
  -- what stands last changes nothing in the office
  abbrev pub AloneAt : ℕ → Last → Bytes → Type 0
  AloneAt number last text = (s : State) → (text ≡ last_text number s last) × (s ≡ state_after_last s last)

  -- what is written in a message's place after `before`, and what becomes of the office there
  abbrev pub Acts : ℕ → M → M → Bytes → Bytes → Option Bytes → Option Bytes → Next → Bytes → Type 0
  Acts number old new input before a b next rest = (written : Bytes) × Appends a b written
      × Through o.represents o.is_intact old new (λ s t. Turn (o.is_open old) (o.is_open new) (o.recovers old) (o.recovers new) number s input next (before ++ written) t rest)

  -- a fixed answer was sent
  pub refused : (number : ℕ) (old new : M) (input before rest : Bytes) (last : Last) (bare : Bool) (status : Status) (a b : Option Bytes) (next : Next)
      → Refused a b bare status next → Stands input last → IsClosing number last
      → AloneAt number last (before ++ refusal_text bare (error status))
      → (o.is_intact new → (s : State) → o.represents old s → o.represents new s)
      → ((s : State) → LastLeavesOpen (o.is_open old) s last → o.is_open new)
      → (o.is_intact new → (s : State) → o.represents old s → StaysFoundOrBusy (o.recovers old) (o.recovers new) (IsBusyWith input last) s s)
      → Acts number old new input before a b next rest
  refused number old new input before rest last bare status a b next (sent, sends, e) x c alone kept stays found =
      let (written, appended, is) = written_of a b (refusal_text bare (error status)) sent sends in (
        written,
        appended,
        λ i s h. (
          s,
          kept i s h,
          subst (λ n. Turn (o.is_open old) (o.is_open new) (o.recovers old) (o.recovers new) number s input n (before ++ written) s rest) (sym e)
              (closed_turn (o.is_open old) (o.is_open new) (o.recovers old) (o.recovers new) number s input before (refusal_text bare (error status)) written rest s last sent x c (alone s).0 (alone s).1 is (stays s) (found i s h)),
        ),
      )

  -- the body of a message in a buffer
  abbrev pub body_at : Bytes → ℕ → ℕ → Bytes
  body_at items size n = take n (drop size items)

  pub message_at : (items : Bytes) (size n : ℕ) (request : Request) (rest : Bytes)
      → HasHead items (take size items) (Accepted request) (drop size items) → size + n ≤ length items
      → n ≡ body_length request → rest ≡ drop (size + n) items
      → Begins items (record { request = request; body = body_at items size n }) rest
  message_at items size n request rest h within e r =
      let split : drop size items ≡ body_at items size n ++ rest =
      sym (take-append-drop n (drop size items)) ∙ ap (λ l. body_at items size n ++ l) (drop-drop n size items ∙ sym r) in
      record {
        block = take size items;
        head = subst (HasHead items (take size items) (Accepted request)) split h;
        complete = omega (arith, length-take n (drop size items), length-drop size items);
      }

  -- the same, where the answer closes
  acted_closing : (number : ℕ) (old new : M) (items : Bytes) (size n : ℕ) (request : Request) (told : Answer) (bare : Bool) (rest : Bytes) (a b : Option Bytes) (sent : Sent) (next : Next)
      → HasHead items (take size items) (Accepted request) (drop size items) → size + n ≤ length items
      → n ≡ body_length request → rest ≡ drop (size + n) items
      → bare ≡ is_head request.method → (request.closes || nat_eq number most_answers) ≡ true
      → next ≡ after_sending sent (Ends Closed)
      → Sends a b (answer_text bare true told) sent
      → (o.is_intact new → (s : State) → o.represents old s → o.represents new (response s request (body_at items size n)).1 × (told ≡ (response s request (body_at items size n)).0))
      → (request.method ≡ codes "POST" → o.is_intact new → told.status ≡ Fine → o.is_open new)
      → (o.is_intact new → (s : State) → o.represents old s → StaysFound (o.recovers old) (o.recovers new) s (response s request (body_at items size n)).1)
      → Acts number old new items (continue_if request.waits) a b next rest
  acted_closing number old new items size n request told bare rest a b sent next h within e r is_bare closing ends sends answers kept found =
      let (written, appended, is) = written_of a b (answer_text bare true told) sent sends in
      let message : Message = record { request = request; body = body_at items size n } in
      let begins = message_at items size n request rest h within e r in (
        written,
        appended,
        λ i s shown.
            let (shown_after, told_is) = answers i s shown in
            let says : continue_if request.waits ++ answer_text bare true told ≡ last_text number s (Answers message) =
            λ j. continue_if request.waits ++ answer_text (is_bare j) (sym closing j) (told_is j) in (
              state_after_message s message,
              shown_after,
              subst (λ x. Turn (o.is_open old) (o.is_open new) (o.recovers old) (o.recovers new) number s items x (continue_if request.waits ++ written) (state_after_message s message) rest) (sym ends)
                  (closed_turn (o.is_open old) (o.is_open new) (o.recovers old) (o.recovers new) number s items (continue_if request.waits) (answer_text bare true told) written rest (state_after_message s message) (Answers message) sent
                  (rest, begins) closing says refl is (λ accepted. kept accepted.0 i (ap (λ (x : Answer). x.status) told_is ∙ accepted.1)) (λ asked before. inl (found i s shown asked before))),
            ),
      )

  acted_open : (number : ℕ) (old new : M) (items : Bytes) (size n : ℕ) (request : Request) (told : Answer) (bare : Bool) (rest : Bytes) (a b : Option Bytes) (sent : Sent) (next : Next)
      → HasHead items (take size items) (Accepted request) (drop size items) → size + n ≤ length items
      → n ≡ body_length request → rest ≡ drop (size + n) items
      → bare ≡ is_head request.method → (request.closes || nat_eq number most_answers) ≡ false
      → next ≡ after_sending sent Goes
      → Sends a b (answer_text bare false told) sent
      → (o.is_intact new → (s : State) → o.represents old s → o.represents new (response s request (body_at items size n)).1 × (told ≡ (response s request (body_at items size n)).0))
      → (request.method ≡ codes "POST" → o.is_intact new → told.status ≡ Fine → o.is_open new)
      → (o.is_intact new → (s : State) → o.represents old s → StaysFound (o.recovers old) (o.recovers new) s (response s request (body_at items size n)).1)
      → Acts number old new items (continue_if request.waits) a b next rest
  acted_open number old new items size n request told bare rest a b sent next h within e r is_bare closing ends sends answers kept found =
      let (written, appended, is) = written_of a b (answer_text bare false told) sent sends in
      let message : Message = record { request = request; body = body_at items size n } in
      let begins = message_at items size n request rest h within e r in (
        written,
        appended,
        λ i s shown.
            let (shown_after, told_is) = answers i s shown in
            let says : continue_if request.waits ++ answer_text bare false told ≡ message_text false s message =
            λ j. continue_if request.waits ++ answer_text (is_bare j) false (told_is j) in (
              state_after_message s message,
              shown_after,
              subst (λ x. Turn (o.is_open old) (o.is_open new) (o.recovers old) (o.recovers new) number s items x (continue_if request.waits ++ written) (state_after_message s message) rest) (sym ends)
                  (open_turn (o.is_open old) (o.is_open new) (o.recovers old) (o.recovers new) number s items (continue_if request.waits) (answer_text bare false told) written rest (state_after_message s message) message sent begins closing says refl is
                  (λ accepted. kept accepted.0 i (ap (λ (x : Answer). x.status) told_is ∙ accepted.1)) (found i s shown)),
            ),
      )

  -- the office answered, and its answer was sent
  pub acted : (number : ℕ) (old new : M) (items : Bytes) (size n : ℕ) (request : Request) (told : Answer) (bare : Bool) (rest : Bytes) (a b : Option Bytes) (closing : Bool) (next : Next)
      → HasHead items (take size items) (Accepted request) (drop size items) → size + n ≤ length items
      → n ≡ body_length request → rest ≡ drop (size + n) items
      → bare ≡ is_head request.method → (request.closes || nat_eq number most_answers) ≡ closing
      → SendsAnswer a b closing (answer_text bare closing told) next
      → (o.is_intact new → (s : State) → o.represents old s → o.represents new (response s request (body_at items size n)).1 × (told ≡ (response s request (body_at items size n)).0))
      → (request.method ≡ codes "POST" → o.is_intact new → told.status ≡ Fine → o.is_open new)
      → (o.is_intact new → (s : State) → o.represents old s → StaysFound (o.recovers old) (o.recovers new) s (response s request (body_at items size n)).1)
      → Acts number old new items (continue_if request.waits) a b next rest
  acted number old new items size n request told bare rest a b true next h within e r is_bare closes (sent, sends, ends) answers kept found =
      acted_closing number old new items size n request told bare rest a b sent next h within e r is_bare closes ends sends answers kept found
  acted number old new items size n request told bare rest a b false next h within e r is_bare closes (sent, sends, ends) answers kept found =
      acted_open number old new items size n request told bare rest a b sent next h within e r is_bare closes ends sends answers kept found

  -- what the office answered was sent, or that it is busy
  pub answered_at : {A E : Type 0} (answer : A → Answer) (number : ℕ) (old new : M) (items : Bytes) (size n : ℕ) (request : Request) (made : Result A E) (bare : Bool) (rest : Bytes) (a b : Option Bytes) (closing : Bool) (next : Next)
      → HasHead items (take size items) (Accepted request) (drop size items) → size + n ≤ length items
      → n ≡ body_length request → OnOk made (rest ≡ drop (size + n) items)
      → bare ≡ is_head request.method → (request.closes || nat_eq number most_answers) ≡ closing
      → MatchResult made (λ x. SendsAnswer a b closing (answer_text bare closing (answer x)) next) (λ e. Refused a b false Busy next)
      → IfOk made (λ x. o.is_intact new → (s : State) → o.represents old s → o.represents new (response s request (body_at items size n)).1 × (answer x ≡ (response s request (body_at items size n)).0))
      → OnErr made (o.is_intact new → (s : State) → o.represents old s → o.represents new s)
      → (request.method ≡ codes "POST" → IfOk made (λ x. o.is_intact new → (answer x).status ≡ Fine → o.is_open new))
      → IfOk made (λ x. o.is_intact new → (s : State) → o.represents old s → StaysFound (o.recovers old) (o.recovers new) s (response s request (body_at items size n)).1)
      → OnErr made (o.is_intact new → (s : State) → o.represents old s → StaysFoundOrBusy (o.recovers old) (o.recovers new) (AnswersTo (λ x. response x request (body_at items size n))) s s)
      → Acts number old new items (continue_if request.waits) a b next rest
  answered_at answer number old new items size n request (Ok x) bare rest a b closing next h within e r is_bare closes sent answers busy kept found doubt =
      acted number old new items size n request (answer x) bare rest a b closing next h within e r is_bare closes sent answers kept found
  answered_at answer number old new items size n request (Err why) bare rest a b closing next h within e r is_bare closes sent answers busy kept found doubt =
      let begins = message_at items size n request (drop (size + n) items) h within e refl in
      refused number old new items (continue_if request.waits) rest (Fails request.waits false) false Busy a b next sent (may_fail_after items (take size items) (drop size items) request h) tt (λ s. (refl, refl)) busy (λ s never. absurd never)
      (λ i s shown asked before. elim (doubt i s shown asked before) [
        | inl still ↦ inl still
        | inr (command, answers, more) ↦ inr (command, (record { request = request; body = body_at items size n }, drop (size + n) items, begins, answers), more)
      ])

  -- the leave to send a body was broken off
  pub leave_broken : {items block more : Bytes} {request : Request} {result : Next} (number : ℕ) (office : M) (a b c : Option Bytes) (sent : Sent) (next : Next)
      → (sent ≡ All → ⊥) → result ≡ after_sending sent next → HasHead items block (Accepted request) more
      → Sends b c (continue_if request.waits) sent
      → Exchange o.represents o.is_intact o.is_open o.recovers number a a b c office items result office items
  leave_broken number office a b c All next n e h s = absurd (n refl)
  leave_broken {items = items} {block = block} {more = more} {request = request} number office a b c Failed next n e h (front, (others, f), s) =
      let there : HasHead (items ++ []) block (Accepted request) (more ++ []) = head_more items block (Accepted request) more [] h in (
        [],
        front,
        Consumes-nil a,
        s,
        λ i x shown. (
          x,
          shown,
          subst (λ r. Turn (o.is_open office) (o.is_open office) (o.recovers office) (o.recovers office) number x (items ++ []) r front x items) (sym e) (
            record {
              last = Fails request.waits false;
              stands = may_fail_after (items ++ []) block (more ++ []) request there;
              ends = tt;
              written = (others ++ refusal_text false (error Busy), ap (λ l. l ++ refusal_text false (error Busy)) f ∙ append_assoc front others (refusal_text false (error Busy)));
              leaves = refl;
            },
            (λ never. absurd never),
            (λ asked before. inl before),
          ),
        ),
      )
  leave_broken {items = items} {block = block} {more = more} {request = request} number office a b c OutOfTurns next n e h (front, (others, f), s) =
      let there : HasHead (items ++ []) block (Accepted request) (more ++ []) = head_more items block (Accepted request) more [] h in (
        [],
        front,
        Consumes-nil a,
        s,
        λ i x shown. (
          x,
          shown,
          subst (λ r. Turn (o.is_open office) (o.is_open office) (o.recovers office) (o.recovers office) number x (items ++ []) r front x items) (sym e) (
            record {
              last = Fails request.waits false;
              stands = may_fail_after (items ++ []) block (more ++ []) request there;
              ends = tt;
              written = (others ++ refusal_text false (error Busy), ap (λ l. l ++ refusal_text false (error Busy)) f ∙ append_assoc front others (refusal_text false (error Busy)));
              leaves = refl;
            },
            (λ never. absurd never),
            (λ asked before. inl before),
          ),
        ),
      )

-- a head that was found is the same in a buffer that has grown
pub head_grown : {items new : Bytes} (got : Bytes) (size : ℕ) (v : Bytes → Verdict) → size ≤ length items → new ≡ items ++ got
    → HasHead items (take size items) (v (take size items)) (drop size items)
    → HasHead new (take size new) (v (take size new)) (drop size new)
head_grown {items = items} {new = new} got size v h e a =
    let t : take size items ≡ take size new = sym (ap (take size) e ∙ take-append-le size items got h) in
    let d : drop size items ++ got ≡ drop size new = sym (ap (drop size) e ∙ drop-append-le size items got h) in
    let one : HasHead (items ++ got) (take size items) (v (take size items)) (drop size items ++ got) =
    head_more items (take size items) (v (take size items)) (drop size items) got a in
    let two = subst (λ b. HasHead (items ++ got) b (v b) (drop size items ++ got)) t one in
    let three = subst (λ m. HasHead (items ++ got) (take size new) (v (take size new)) m) d two in
    subst (λ i. HasHead i (take size new) (v (take size new)) (drop size new)) (sym e) three

-- the input stops inside a body
pub body_cut : {items here : Bytes} {r : Request} (got : Bytes) (size : ℕ) → size ≤ length items → here ≡ items ++ got
    → length here < size + body_length r → HasHead items (take size items) (Accepted r) (drop size items)
    → Stands here (BodyCut r)
body_cut {items = items} {here = here} {r = r} got size h e l a =
    (take size here, drop size here, head_grown got size (λ b. Accepted r) h e a, omega (arith, length-drop size here, ap length e ∙ length-append items got))

-- the last place; an office that it leaves open is open then
abbrev pub LastTurn : Type 0 → Type 0 → (had has : List Command → State → Type 0) → ℕ → State → Bytes → Bytes → Ended
    → State → Type 0
LastTurn was now had has number s input out end new =
    (stops : Stops number s input out end new) × (LastLeavesOpen was s stops.last → now) × StaysFoundOrBusy had has (IsBusyWith input stops.last) s new
