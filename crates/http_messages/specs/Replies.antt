-- What the answers in the code mean.
use Rattle.std.specs.Prelude.{true, false, None, option_map}
use Rattle.http_messages.specs.declared.answers.Answered.{Answered}
use Rattle.http_messages.specs.declared.answers.Answered.TheVariants as held
use Rattle.http_messages.specs.declared.answers.AnswerView.{AnswerView}
use Rattle.http_messages.specs.declared.status.Status.TheVariants.{Fine, Conflict}
use Rattle.http_messages.specs.Answers.{Answer, error, not_allowed}
use Rattle.http_messages.specs.Routes.{method_name}

abbrev pub answer_in : Answered → Answer
answer_in (held.Text body) = record { status = Fine; is_text = true; allow = None; body = body }
answer_in (held.Json body) = record { status = Fine; is_text = false; allow = None; body = body }
answer_in (held.Refused body) = record { status = Conflict; is_text = false; allow = None; body = body }
answer_in (held.NotAllowed post) = not_allowed (method_name post)
answer_in (held.Error status) = error status

-- the same of a view, which is what is written
abbrev pub answer_of_view : AnswerView → Answer
answer_of_view view = record {
  status = view.status;
  is_text = view.is_text;
  allow = option_map method_name view.allow;
  body = view.body.now;
}
