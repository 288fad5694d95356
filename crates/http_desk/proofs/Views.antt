-- What holds of an answer's view holds of the answer.
use Rattle.std.proofs.Common.{subst}
use Rattle.std.specs.Prelude.{Ok, Err}
use Rattle.http_messages.specs.declared.answers.AnswerView.{AnswerView}
use Rattle.http_messages.specs.declared.answers.Answered.{Answered}
use Rattle.http_desk.proofs.Common.{Answer, IsViewOf, MatchResult, Result, answer_in, answer_of_view}

pub of_view : {E : Type 0} (P : Answer → Type 0) (Q : E → Type 0) (view : Result AnswerView E) (made : Result Answered E)
    → IsViewOf view made
    → MatchResult view (λ v. P (answer_of_view v)) Q → MatchResult made (λ a. P (answer_in a)) Q
of_view P Q (Ok v) (Ok a) e h = subst P e h
of_view P Q (Ok v) (Err why) e h = absurd e
of_view P Q (Err why) (Ok a) e h = absurd e
of_view P Q (Err why) (Err same) e h = subst Q e h
