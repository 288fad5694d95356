-- What the public may put to an office by HTTP, and what it is shown.
use Rattle.std.proofs.Common.{◌≡◌, Bool, true, false, List, [], ◌∷◌, codes, refl, sym, ap, ◌∙◌, subst, Option, None}
use Rattle.std.proofs.Common.{Some, cond}
use Rattle.std.specs.Prelude.{◌&&◌}
use Rattle.office_core.proofs.Published.{only_published}
use Rattle.office_core.specs.Queries.{answer}
use Rattle.office_core.specs.declared.command.Command.TheVariants as command
use Rattle.office_core.specs.declared.query.Answer.{Answer as Told}
use Rattle.office_core.specs.declared.query.Answer.TheVariants as told
use Rattle.office_core.specs.declared.query.Query.{Query}
use Rattle.http_messages.specs.Answers as answers
use Rattle.http_messages.specs.declared.body_form.Form.TheVariants as form
use Rattle.http_desk.specs.PublicSessions.{IsBelowPublic, IsForThePublic, IsAnsweredInPublic, AreAnsweredInPublic}
use Rattle.http_desk.proofs.Common.{Answer, Asks, BadRequest, Bytes, Command, Does, Ended, Fixed, IfSome}
use Rattle.http_desk.proofs.Common.{LengthRequired, Meaning, Message, NotFound, PrintsPublished, Puts, Request, Route}
use Rattle.http_desk.proofs.Common.{Session, State, TakesFile, TakesForm, ToDo, ToTell, all_messages, by_route}
use Rattle.http_desk.proofs.Common.{bytes_eq, carried_out, command_in, command_of_form, done_if_read, error, is_none}
use Rattle.http_desk.proofs.Common.{is_post, method_of, not, not_allowed, number_at, of_told, path_of, route_of}
use Rattle.http_desk.proofs.Common.{state_after_message, value_of}
use Rattle.http_desk.proofs.Options.{each_then, each_map}
use Rattle.http_desk.proofs.Public.{IsOpen, public_routes}

-- ---- what is put

record IsOpenlyMeant (to : State → Answer × State) : Type 0 where
  meaning : Meaning
  is : (s : State) → to s ≡ carried_out s meaning
  asks : IsForThePublic meaning

fixed : (a : Answer) → a.is_text ≡ false → IsOpenlyMeant (λ s. (a, s))
fixed a e = record { meaning = Fixed a; is = λ s. refl; asks = e }

either : (b : Bool) (f g : State → Answer × State) → IsOpenlyMeant f → IsOpenlyMeant g
    → IsOpenlyMeant (λ s. cond b (f s) (g s))
either true f g h k = h
either false f g h k = k

abbrev IsOrder : Command → Type 0
IsOrder asked = IsForThePublic (Puts (ToDo asked))

orders : (body : Bytes) → IfSome (command_in form.Order body) IsOrder
orders body =
    each_then IsOrder (command_of_form form.Order) (value_of body)
    (λ v. each_then IsOrder _ (number_at (codes "ticket") v) (λ t. each_map IsOrder (command.Order t) (number_at (codes "container") v) (λ c. tt)))

read_meant : (o : Option Command) → IfSome o IsOrder → IsOpenlyMeant (λ s. done_if_read s o)
read_meant None h = fixed (error BadRequest) refl
read_meant (Some asked) h = record { meaning = Puts (ToDo asked); is = λ s. refl; asks = h }

route_meant : (body : Bytes) (route : Route) → IsOpen (Some route)
    → IsOpenlyMeant (λ s. answers.route_carried_out s body route)
route_meant body (Asks asked) h = record { meaning = Puts (ToTell asked); is = λ s. refl; asks = h }
route_meant body (Does asked) h = absurd h
route_meant body (TakesFile source) h = absurd h
route_meant body (TakesForm form.Order) h = read_meant (command_in form.Order body) (orders body)
route_meant body (TakesForm form.OpenDay) h = absurd h
route_meant body (TakesForm form.SetStatus) h = absurd h
route_meant body (TakesForm form.SetClosure) h = absurd h
route_meant body (TakesForm form.Move) h = absurd h
route_meant body (TakesForm form.Remove) h = absurd h
route_meant body (TakesForm form.Register) h = absurd h
route_meant body (TakesForm form.Renew) h = absurd h
route_meant body (TakesForm form.TakeSeat) h = absurd h
route_meant body (TakesForm form.LeaveSeat) h = absurd h
route_meant body (TakesForm form.Cancel) h = absurd h
route_meant body (TakesForm form.Issue) h = absurd h
route_meant body (TakesForm form.Return) h = absurd h
route_meant body (TakesForm form.Permit) h = absurd h
route_meant body (TakesForm form.Revoke) h = absurd h

request_meant : (request : Request) (body : Bytes) (o : Option Route) → IsOpen o
    → IsOpenlyMeant (λ s. by_route s request body o)
request_meant request body None h = fixed (error NotFound) refl
request_meant request body (Some route) h =
    either (not (bytes_eq request.method (method_of route))) _ _ (fixed (not_allowed (method_of route)) refl)
    (either (is_post route && is_none request.length) _ _ (fixed (error LengthRequired) refl) (route_meant body route h))

-- ---- what is shown

told_prints : (s : State) (asked : Query) (a : Told) → IsForThePublic (Puts (ToTell asked)) → answer s asked ≡ a
    → (of_told a).is_text ≡ true → PrintsPublished s asked (of_told a).body
told_prints s asked (told.Text text) h e t = only_published s asked text h e
told_prints s asked (told.Json text) h e t = cc
told_prints s asked (told.Unknown why) h e t = cc

prints : (s : State) (meaning : Meaning) → IsForThePublic meaning → (carried_out s meaning).0.is_text ≡ true
    → (asked : Query) × (meaning ≡ Puts (ToTell asked)) × PrintsPublished s asked (carried_out s meaning).0.body
prints s (Puts (ToDo command)) h t = cc
prints s (Puts (ToTell asked)) h t = (asked, refl, told_prints s asked (answer s asked) h refl t)
prints s (Fixed a) h t = let never : false ≡ true = sym h ∙ t in cc

answered_in_public : (s : State) (m : Message) → IsBelowPublic m → IsAnsweredInPublic s m
answered_in_public s m (below, path) =
    let it = request_meant m.request m.body (route_of (path_of m.request.target)) (subst (λ p. IsOpen (route_of p)) (sym path) (public_routes below)) in
    record {
      meaning = it.meaning;
      means = it.is;
      asks = it.asks;
      prints = subst (λ a. a.is_text ≡ true → (asked : Query) × (it.meaning ≡ Puts (ToTell asked)) × PrintsPublished s asked a.body)
          (sym (ap (λ p. p.0) (it.is s))) (prints s it.meaning it.asks);
    }

all_answered : (s : State) (ms : List Message) → AreAnsweredInPublic s ms
all_answered s [] = tt
all_answered s (m ∷ ms) = (answered_in_public s m, all_answered (state_after_message s m) ms)

pub sessions_show_only_published : (s new : State) (input output : Bytes) (end : Ended) (session : Session s input output end new)
    → AreAnsweredInPublic s (all_messages session)
sessions_show_only_published s new input output end session = all_answered s (all_messages session)
