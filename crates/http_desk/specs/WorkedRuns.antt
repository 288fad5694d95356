-- What worked messages mean, and what the machine does in two of the worked sessions.
use Rattle.std.specs.Prelude.{ℕ, ◌++◌, false, [], ◌∷◌, Some, None, codes}
use Rattle.isad_core.specs.Texts.{Bytes}
use Rattle.office_core.specs.declared.command.Command.TheVariants as command
use Rattle.office_core.specs.declared.query.Query.TheVariants as query
use Rattle.office_core.specs.MixedRuns.{ToDo, ToTell}
use Rattle.office_core.specs.WorkedExamples.{draft}
use Rattle.http_messages.specs.declared.status.Status.TheVariants.{BadRequest, NotFound, LengthRequired}
use Rattle.http_messages.specs.Answers.{error}
use Rattle.http_desk.specs.declared.session_end.Ended.TheVariants.{End, Cut}
use Rattle.http_desk.specs.Messages.{Message}
use Rattle.http_desk.specs.Runs.{Puts, Fixed, HasMeaning, HasCarriedOut}
use Rattle.http_desk.specs.Session.{Session}
use Rattle.http_desk.specs.WorkedExamples.{of, get, filled_office, with_draft, fonds_list, not_found}
use Rattle.http_desk.specs.WorkedSessions.{list_request, half_a_request, draft_request, page_request, one_unit}

abbrev pub post : (target : Bytes) → ℕ → (body : Bytes) → Message
post target size body = record (of (codes "POST") target (Some size) false) { body = body }

pub record Carried : Type 0 where
  pub list : HasMeaning (get (codes "/public/fonds")) (Puts (ToTell query.Fonds))
  pub page : HasMeaning (get (codes "/public/units/2")) (Puts (ToTell (query.Page 2)))
  pub drafted : HasMeaning (post (codes "/desk/status") 27 (codes "{\"unit\":2,\"status\":\"draft\"}"))
      (Puts (ToDo (draft 2)))
  pub run : HasMeaning (post (codes "/desk/run") 0 []) (Puts (ToDo command.Run))
  pub no_route : HasMeaning (get (codes "/public/units/02")) (Fixed (error NotFound))
  pub no_length : HasMeaning (of (codes "POST") (codes "/desk/run") None false) (Fixed (error LengthRequired))
  pub no_members : HasMeaning (post (codes "/desk/status") 2 (codes "{}")) (Fixed (error BadRequest))
  -- a list, and then a registration that stops inside its body
  pub none_came : (session : Session filled_office (list_request ++ half_a_request) fonds_list Cut filled_office)
      × HasCarriedOut session []
  -- a draft, and then its page
  pub one_came : (session : Session filled_office (draft_request ++ page_request) (one_unit ++ not_found) End with_draft)
      × HasCarriedOut session (draft 2 ∷ [])
