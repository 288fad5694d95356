use Rattle.std.proofs.Common.{[], ◌∷◌, refl}
use Rattle.std.proofs.Math.Utf8.{encode}
use Rattle.std.specs.Fmt.{digits}
use Rattle.std.specs.Str.{is_utf8, chars}
use Rattle.serde_json.proofs.OnLiterals.{serde_json_on_literals}
use Rattle.isad_core.specs.Days.{day_text}
use Rattle.office_core.specs.WorkedExamples.{draft}
use Rattle.office_core.specs.declared.query.Query.TheVariants as query
use Rattle.http_desk.proofs.Common.{HasMeaning, Puts, ToDo, ToTell, filled_office}
use Rattle.http_desk.proofs.Meanings.{same_answers}
use Rattle.http_desk.proofs.WorkedPieces.{draft_and_page, draft_message, list_and_cut, list_message, page_message}
use Rattle.http_desk.proofs.worked.worked_runs.Goals as goal

list_means : HasMeaning list_message (Puts (ToTell query.Fonds))
unfolding is_utf8 chars encode
list_means s = refl

page_means : HasMeaning page_message (Puts (ToTell (query.Page 2)))
unfolding digits is_utf8 chars encode
page_means s = refl

draft_means : HasMeaning draft_message (Puts (ToDo (draft 2)))
unfolding is_utf8 chars encode digits day_text serde_json_on_literals
draft_means s = refl

pub returns : goal.returns
unfolding is_utf8 chars encode digits day_text serde_json_on_literals
returns c = record {
  list = list_means;
  page = page_means;
  drafted = draft_means;
  run = λ s. refl;
  no_route = λ s. refl;
  no_length = λ s. refl;
  no_members = λ s. refl;
  none_came = (
    list_and_cut,
    record {
      meanings = Puts (ToTell query.Fonds) ∷ [];
      mean = (list_means, tt);
      are = refl;
      answers = same_answers (list_message ∷ []) (Puts (ToTell query.Fonds) ∷ []) filled_office (list_means, tt);
      leaves = refl;
      days = tt;
      texts = tt;
    },
  );
  one_came = (
    draft_and_page,
    record {
      meanings = Puts (ToDo (draft 2)) ∷ Puts (ToTell (query.Page 2)) ∷ [];
      mean = (draft_means, (page_means, tt));
      are = refl;
      answers = same_answers (draft_message ∷ page_message ∷ []) (Puts (ToDo (draft 2)) ∷ Puts (ToTell (query.Page 2)) ∷ []) filled_office (draft_means, (page_means, tt));
      leaves = refl;
      days = (tt, tt);
      texts = (tt, tt);
    },
  );
}
