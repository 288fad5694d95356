use Rattle.std.proofs.Common.{[], ◌++◌, refl}
use Rattle.http_desk.proofs.Common.{filled_office, fonds_list, list_request}
use Rattle.http_desk.proofs.WorkedHeads.{list_has, two_answered}
use Rattle.http_desk.proofs.WorkedPieces.{draft_and_page, list_and_cut, list_keeps, list_message, list_told}
use Rattle.http_desk.proofs.worked.worked_sessions.Goals as goal

pub returns : goal.returns
returns c = record {
  twice = two_answered filled_office filled_office filled_office (list_request ++ list_request) list_request list_message list_message fonds_list fonds_list
      (record { block = list_request; head = list_has list_request; complete = refl })
      (record { block = list_request; head = list_has []; complete = refl })
      refl refl list_told (list_keeps filled_office) list_told (list_keeps filled_office);
  cut = list_and_cut;
  drafted = draft_and_page;
  head = refl;
  answers = refl;
}
