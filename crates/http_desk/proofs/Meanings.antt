-- What messages mean, and what a session has the machine do.
use Rattle.std.proofs.Common.{◌≡◌, Bool, true, false, List, [], ◌∷◌, ◌++◌, refl, sym, ap, ◌∙◌, Option, None, Some, cond}
use Rattle.std.specs.Prelude.{◌&&◌}
use Rattle.catalogue_core.proofs.EachOf.{all_and}
use Rattle.office_core.specs.Rules as machine
use Rattle.office_core.specs.declared.command.Command.TheVariants.{Import}
use Rattle.http_messages.specs.Answers as answers
use Rattle.http_desk.proofs.Common.{AllByRecursion, AllMean, Answer, Answers, Asks, BadRequest, BodyCut, Bytes, Command}
use Rattle.http_desk.proofs.Common.{Does, Ended, Fails, Fixed, HasCarriedOut, HeadCut, IfSome, Last, LengthRequired}
use Rattle.http_desk.proofs.Common.{Meaning, Message, NamesDays, NamesTexts, NoHead, NotFound, Nothing, Puts, Refuses}
use Rattle.http_desk.proofs.Common.{Request, Route, Session, State, TakesFile, TakesForm, ToDo, ToTell, all_messages}
use Rattle.http_desk.proofs.Common.{answers_of, by_route, bytes_eq, carried_out, command_in, commands_among}
use Rattle.http_desk.proofs.Common.{done_if_read, error, is_none, is_post, machines_answers, message_in, method_of, not}
use Rattle.http_desk.proofs.Common.{not_allowed, path_of, route_of, state_after_last, state_after_message}
use Rattle.http_desk.proofs.Common.{state_after_messages}
use Rattle.http_desk.proofs.Named.{Names, IsNamed, bodies_name, routes_named}

-- ---- one message

record IsMeant (told : State → Answer × State) : Type 0 where
  meaning : Meaning
  is : (s : State) → told s ≡ carried_out s meaning
  names : AllByRecursion Names (commands_among (meaning ∷ []))

fixed : (told : Answer) → IsMeant (λ s. (told, s))
fixed told = record { meaning = Fixed told; is = λ s. refl; names = tt }

if_meant : (b : Bool) (f g : State → Answer × State) → IsMeant f → IsMeant g → IsMeant (λ s. cond b (f s) (g s))
if_meant true f g h k = h
if_meant false f g h k = k

read_meant : (o : Option Command) → IfSome o Names → IsMeant (λ s. done_if_read s o)
read_meant None h = fixed (error BadRequest)
read_meant (Some asked) h = record { meaning = Puts (ToDo asked); is = λ s. refl; names = (h, tt) }

route_meant : (body : Bytes) (route : Route) → IsNamed route → IsMeant (λ s. answers.route_carried_out s body route)
route_meant body (Asks asked) h = record { meaning = Puts (ToTell asked); is = λ s. refl; names = tt }
route_meant body (Does asked) h = record { meaning = Puts (ToDo asked); is = λ s. refl; names = (h, tt) }
route_meant body (TakesFile source) h =
    record { meaning = Puts (ToDo (Import source body)); is = λ s. refl; names = ((tt, tt), tt) }
route_meant body (TakesForm asked) h = read_meant (command_in asked body) (bodies_name asked body)

request_meant : (request : Request) (body : Bytes) (o : Option Route) → IfSome o IsNamed
    → IsMeant (λ s. by_route s request body o)
request_meant request body None h = fixed (error NotFound)
request_meant request body (Some route) h =
    if_meant (not (bytes_eq request.method (method_of route))) _ _ (fixed (not_allowed (method_of route)))
    (if_meant (is_post route && is_none request.length) _ _ (fixed (error LengthRequired)) (route_meant body route h))

message_meant : (m : Message) → IsMeant (λ s. answers.response s m.request m.body)
message_meant m = request_meant m.request m.body (route_of (path_of m.request.target)) (routes_named (path_of m.request.target))

-- ---- all messages

names_too : (k : Meaning) (ks : List Meaning) → AllByRecursion Names (commands_among (k ∷ []))
    → AllByRecursion Names (commands_among ks) → AllByRecursion Names (commands_among (k ∷ ks))
names_too (Puts (ToDo command)) ks h more = (h.0, more)
names_too (Puts (ToTell query)) ks h more = more
names_too (Fixed told) ks h more = more

record AreMeant (ms : List Message) : Type 0 where
  meanings : List Meaning
  mean : AllMean ms meanings
  names : AllByRecursion Names (commands_among meanings)

all_meant : (ms : List Message) → AreMeant ms
all_meant [] = record { meanings = []; mean = tt; names = tt }
all_meant (m ∷ ms) =
    let one = message_meant m in
    let more = all_meant ms in
    record { meanings = one.meaning ∷ more.meanings; mean = (one.is, more.mean); names = names_too one.meaning more.meanings one.names more.names }

one_state : (s : State) (k : Meaning) (ks : List Meaning)
    → machine.state_after (carried_out s k).1 (commands_among ks) ≡ machine.state_after s (commands_among (k ∷ ks))
one_state s (Puts (ToDo command)) ks = refl
one_state s (Puts (ToTell query)) ks = refl
one_state s (Fixed told) ks = refl

machines_state : (ms : List Message) (ks : List Meaning) (s : State) → AllMean ms ks
    → state_after_messages s ms ≡ machine.state_after s (commands_among ks)
machines_state [] [] s h = refl
machines_state [] (k ∷ ks) s h = absurd h
machines_state (m ∷ ms) [] s h = absurd h
machines_state (m ∷ ms) (k ∷ ks) s h =
    ap (λ p. state_after_messages p.1 ms) (h.0 s) ∙ machines_state ms ks (carried_out s k).1 h.1 ∙ one_state s k ks

pub same_answers : (ms : List Message) (ks : List Meaning) (s : State) → AllMean ms ks
    → answers_of s ms ≡ machines_answers s ks
same_answers [] [] s h = refl
same_answers [] (k ∷ ks) s h = absurd h
same_answers (m ∷ ms) [] s h = absurd h
same_answers (m ∷ ms) (k ∷ ks) s h =
    ap (λ p. p.0 ∷ answers_of p.1 ms) (h.0 s) ∙ ap (λ l. (carried_out s k).0 ∷ l) (same_answers ms ks (carried_out s k).1 h.1)

-- ---- a session

last_state : (s : State) (l : Last) → state_after_last s l ≡ state_after_messages s (message_in l)
last_state s Nothing = refl
last_state s HeadCut = refl
last_state s (BodyCut request) = refl
last_state s NoHead = refl
last_state s (Refuses status bare) = refl
last_state s (Answers message) = refl
last_state s (Fails leave bare) = refl

state_on : (ms ns : List Message) (s : State) → state_after_messages s (ms ++ ns) ≡ state_after_messages (state_after_messages s ms) ns
state_on [] ns s = refl
state_on (m ∷ ms) ns s = state_on ms ns (state_after_message s m)

pub runs_the_machine : (s new : State) (input output : Bytes) (end : Ended) (session : Session s input output end new)
    → (commands : List Command) × HasCarriedOut session commands
runs_the_machine s new input output end session =
    let all = all_meant (all_messages session) in (
      commands_among all.meanings,
      record {
        meanings = all.meanings;
        mean = all.mean;
        are = refl;
        answers = same_answers (all_messages session) all.meanings s all.mean;
        leaves = session.stops.leaves ∙ last_state (state_after_messages s session.messages) session.stops.last
            ∙ sym (state_on session.messages (message_in session.stops.last) s) ∙ machines_state (all_messages session) all.meanings s all.mean;
        days = all_and Names Names NamesDays (λ command both _. both.0) (commands_among all.meanings) all.names all.names;
        texts = all_and Names Names NamesTexts (λ command both _. both.1) (commands_among all.meanings) all.names all.names;
      },
    )
