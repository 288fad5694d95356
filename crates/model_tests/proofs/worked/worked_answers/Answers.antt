use Rattle.std.proofs.Common.{refl}
use Rattle.std.proofs.Math.Utf8.{encode}
use Rattle.std.specs.Fmt.{digits}
use Rattle.std.specs.Str.{is_utf8, chars}
use Rattle.http_messages.specs.Answers.{head_text, continue_text}
use Rattle.model_tests.proofs.worked.worked_answers.Goals as goal

pub returns : goal.returns
unfolding head_text continue_text digits is_utf8 chars encode
returns c = record {
  numbers = refl;
  words = refl;
  texts = refl;
  fields = refl;
  go_on = refl;
  json = refl;
  bad_body = λ s. refl;
  file = λ s body. refl;
  wrong_method = λ s. refl;
}
