-- Lemmas on sessions, one place after the other.
use Rattle.std.proofs.Common.{◌≡◌, ◌<◌, ◌+◌, ℕ, suc, List, [], ◌∷◌, ◌++◌, length, refl, sym, ap, ◌∙◌, subst, arith}
use Rattle.std.proofs.Common.{true, false, Bool, append-nil, Option, length-append}
use Rattle.std.specs.Prelude.{◌||◌}
use Rattle.office_core.specs.declared.machine.Machine as machine
use Rattle.http_desk.proofs.Common.{AllByRecursion, AllLeaveOpen, Appends, Appends-nil, Appends-trans, Bytes, Command}
use Rattle.http_desk.proofs.Common.{Consumes, Consumes-nil, Consumes-trans, Cuts, Ended, Ends, Exchange, ExchangeGoesOn}
use Rattle.http_desk.proofs.Common.{Goes, IsAccepted, Keeps, Message, Next, State, StaysFound, StaysOpen, Talks}
use Rattle.http_desk.proofs.Common.{Through, Turn, message_text, most_answers, nat_eq, nat_tests, state_after_message}
use Rattle.http_desk.proofs.Common.{state_after_messages, text_after_all}
use Rattle.http_desk.proofs.Turns.{LastTurn, begins_more}
use Rattle.http_desk.proofs.Leaks.{cuts_more, text_append}
use Rattle.http_desk.proofs.Openings.{last_accepted, last_open}

pub cuts_longer : (input : Bytes) (ms : List Message) (rest more : Bytes) → Cuts input ms rest
    → Cuts (input ++ more) ms (rest ++ more)
cuts_longer input [] rest more e = ap (λ l. l ++ more) e
cuts_longer input (m ∷ ms) rest more (later, begins, others) =
    (later ++ more, begins_more input m later more begins, cuts_longer later ms rest more others)

all_and_one : (P : Message → Type 0) (ms : List Message) (m : Message) → AllByRecursion P ms → P m
    → AllByRecursion P (ms ++ m ∷ [])
all_and_one P [] m h p = (p, tt)
all_and_one P (n ∷ ms) m h p = (h.0, all_and_one P ms m h.1 p)

pub state_append : (ms : List Message) (m : Message) (s : State)
    → state_after_messages s (ms ++ m ∷ []) ≡ state_after_message (state_after_messages s ms) m
state_append [] m s = refl
state_append (n ∷ ms) m s = state_append ms m (state_after_message s n)

-- so many messages were answered, and each left the connection open
pub record Begun (number : ℕ) (s : State) (read written : Bytes) (t : State) (rest : Bytes) : Type 0 where
  pub messages : List Message
  pub cut : Cuts read messages rest
  pub stay : AllByRecursion StaysOpen messages
  pub few : length messages < most_answers
  pub count : suc (length messages) ≡ number
  pub says : written ≡ text_after_all s messages
  pub leaves : t ≡ state_after_messages s messages

-- the same; an office that they leave open is open then, and what a crash found before, it finds then
abbrev BegunOpen : Type 0 → Type 0 → (had has : List Command → State → Type 0) → ℕ → State → Bytes → Bytes → State
    → Bytes → Type 0
BegunOpen was now had has number s read written t rest =
    (begun : Begun number s read written t rest) × (AllLeaveOpen was s begun.messages → now) × StaysFound had has s t

begun_none : (was : Type 0) (had : List Command → State → Type 0) (s : State) (buffer : Bytes) → buffer ≡ []
    → BegunOpen was was had had 1 s [] [] s buffer
begun_none was had s buffer e =
    (record { messages = []; cut = sym e; stay = tt; few = omega arith; count = refl; says = refl; leaves = refl }, (λ stays. stays), (λ asked before. before))

open_is : (a b : Bool) → (a || b) ≡ false → a ≡ false
open_is true b e = cc
open_is false b e = refl

not_last : (a b : Bool) → (a || b) ≡ false → b ≡ false
not_last true b e = absurd (cc)
not_last false b e = e

still_few : (n number : ℕ) → n < most_answers → suc n ≡ number → nat_eq number most_answers ≡ false
    → suc n < most_answers
still_few n number few e h = grind (arith, nat_tests)

begun_on : (was now : Type 0) (had mid has : List Command → State → Type 0) (number : ℕ) (s t u : State) (read written buffer more out rest : Bytes)
    → Begun number s read written t buffer → StaysFound had mid s t
    → (goes : ExchangeGoesOn number t (buffer ++ more) out u rest) → (IsAccepted t goes.message → now) → StaysFound mid has t u
    → BegunOpen was now had has (number + 1) s (read ++ more) (written ++ out) u rest
begun_on was now had mid has number s t u read written buffer more out rest b first g kept second =
    let before = state_after_messages s b.messages in
    let one : out ≡ message_text false before g.message = g.says ∙ ap (λ x. message_text false x g.message) b.leaves in
    let len = length-append b.messages (g.message ∷ []) in
    let few : suc (length b.messages) < most_answers = still_few (length b.messages) number b.few b.count (not_last g.message.request.closes (nat_eq number most_answers) g.stays) in (
      record {
        messages = b.messages ++ g.message ∷ [];
        cut = cuts_more (read ++ more) b.messages (buffer ++ more) g.message rest (cuts_longer read b.messages buffer more b.cut) g.begins;
        stay = all_and_one StaysOpen b.messages g.message b.stay (open_is g.message.request.closes (nat_eq number most_answers) g.stays);
        few = omega arith;
        count = omega (arith, b.count);
        says = (λ i. b.says i ++ one i) ∙ ap (λ l. text_after_all s b.messages ++ l) (sym (append-nil (message_text false before g.message))) ∙ sym (text_append b.messages (g.message ∷ []) s);
        leaves = g.leaves ∙ ap (λ x. state_after_message x g.message) b.leaves ∙ sym (state_append b.messages g.message s);
      },
      (λ h. kept (subst (λ x. IsAccepted x g.message) (sym b.leaves) (last_accepted b.messages g.message s was h))),
      (λ asked before. second asked (first asked before)),
    )

begun_ends : (was between now : Type 0) (had mid has : List Command → State → Type 0) (number : ℕ) (s t u : State) (read written buffer more out : Bytes) (end : Ended)
    → (b : Begun number s read written t buffer)
    → (AllLeaveOpen was s b.messages → between) → StaysFound had mid s t
    → LastTurn between now mid has number t (buffer ++ more) out end u
    → Keeps was now had has s (read ++ more) (written ++ out) end u
begun_ends was between now had mid has number s t u read written buffer more out end b stays first g =
    let carried : StaysFound had mid s (state_after_messages s b.messages) =
    subst (λ x. StaysFound had mid s x) b.leaves first in
    let there : LastTurn between now mid has number (state_after_messages s b.messages) (buffer ++ more) out end u =
    subst (λ x. LastTurn between now mid has number x (buffer ++ more) out end u) b.leaves g in
    let (stops, kept, found) = subst (λ n. LastTurn between now mid has n (state_after_messages s b.messages) (buffer ++ more) out end u) (sym b.count) there in (
      record {
        messages = b.messages;
        rest = buffer ++ more;
        out = out;
        cut = cuts_longer read b.messages buffer more b.cut;
        stay = b.stay;
        few = b.few;
        stops = stops;
        says = ap (λ l. l ++ out) b.says;
      },
      (λ h. kept (last_open (AllLeaveOpen was s b.messages) between stays (state_after_messages s b.messages) stops.last h)),
      (λ asked before. found asked (carried asked before)),
    )

pub not_over : (s t : State) (read written buffer : Bytes) → Begun (most_answers + 1) s read written t buffer → ⊥
not_over s t read written buffer b = omega (arith, b.few, b.count)

module _ {M : Type 0} (o : machine.Ghosts M) where
  -- what was read and written so far
  abbrev pub Carried : Option Bytes → Option Bytes → Option Bytes → Option Bytes → M → M → ℕ → Bytes → Type 0
  Carried a b c d start now number buffer =
      (read : Bytes) × (written : Bytes) × Consumes a b read × Appends c d written
      × (o.is_intact now → o.is_intact start)
      × Through o.represents o.is_intact start now (λ s t. BegunOpen (o.is_open start) (o.is_open now) (o.recovers start) (o.recovers now) number s read written t buffer)

  pub carried_none : (a c : Option Bytes) (start : M) (buffer : Bytes) → buffer ≡ []
      → Carried a a c c start start 1 buffer
  carried_none a c start buffer e =
      ([], [], Consumes-nil a, Appends-nil c, (λ i. i), λ i s h. (s, h, begun_none (o.is_open start) (o.recovers start) s buffer e))

  pub carried_on : {next : Next} (a b b2 c d d2 : Option Bytes) (start now new : M) (number : ℕ) (buffer rest : Bytes)
      → next ≡ Goes → (o.is_intact new → o.is_intact now) → Carried a b c d start now number buffer
      → Exchange o.represents o.is_intact o.is_open o.recovers number b b2 d d2 now buffer next new rest
      → Carried a b2 c d2 start new (number + 1) rest
  carried_on a b b2 c d d2 start now new number buffer rest e before (read, written, consumed, appended, intact, through) (read2, written2, consumed2, appended2, through2) = (
    read ++ read2,
    written ++ written2,
    Consumes-trans a b b2 read read2 consumed consumed2,
    Appends-trans c d d2 written written2 appended appended2,
    (λ i. intact (before i)),
    λ i s h.
        let (t, shown, begun) = through (before i) s h in
        let (u, shown2, turn) = through2 i t shown in
        let (goes, kept, found) =
        subst (λ n. Turn (o.is_open now) (o.is_open new) (o.recovers now) (o.recovers new) number t (buffer ++ read2) n written2 u rest) e turn in
        (u, shown2, begun_on (o.is_open start) (o.is_open new) (o.recovers start) (o.recovers now) (o.recovers new) number s t u read written buffer read2 written2 rest begun.0 begun.2 goes kept found),
  )

  pub carried_to_end : {next : Next} {end : Ended} (a b b2 c d d2 : Option Bytes) (start now new : M) (number : ℕ) (buffer rest : Bytes)
      → next ≡ Ends end → (o.is_intact new → o.is_intact now) → Carried a b c d start now number buffer
      → Exchange o.represents o.is_intact o.is_open o.recovers number b b2 d d2 now buffer next new rest
      → Talks o.represents o.is_intact o.is_open o.recovers a b2 c d2 start end new
  carried_to_end {end = end} a b b2 c d d2 start now new number buffer rest e before (read, written, consumed, appended, intact, through) (read2, written2, consumed2, appended2, through2) = (
    read ++ read2,
    written ++ written2,
    Consumes-trans a b b2 read read2 consumed consumed2,
    Appends-trans c d d2 written written2 appended appended2,
    λ i s h.
        let (t, shown, begun) = through (before i) s h in
        let (u, shown2, turn) = through2 i t shown in
        let stops : LastTurn (o.is_open now) (o.is_open new) (o.recovers now) (o.recovers new) number t (buffer ++ read2) written2 end u =
        subst (λ n. Turn (o.is_open now) (o.is_open new) (o.recovers now) (o.recovers new) number t (buffer ++ read2) n written2 u rest) e turn in
        (u, shown2, begun_ends (o.is_open start) (o.is_open now) (o.is_open new) (o.recovers start) (o.recovers now) (o.recovers new) number s t u read written buffer read2 written2 end begun.0 begun.1 begun.2 stops),
  )

  -- no more messages are answered than may be
  pub carried_over : (a b c d : Option Bytes) (start now : M) (buffer : Bytes) (end : Ended)
      → Carried a b c d start now (most_answers + 1) buffer
      → Talks o.represents o.is_intact o.is_open o.recovers a b c d start end now
  carried_over a b c d start now buffer end (read, written, consumed, appended, intact, through) =
      (read, written, consumed, appended, λ i s h. let (t, shown, begun) = through i s h in absurd (not_over s t read written buffer begun.0))
