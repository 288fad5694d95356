use Rattle.std.proofs.Common.{refl, ◌≡◌, ap, arith, codes, option_map, pos, Some, subst}
use Rattle.std.proofs.Math.Utf8.{encode}
use Rattle.std.specs.Str.{is_utf8, chars}
use Rattle.jiff_core.proofs.SignedLemmas.{signed_arith}
use Rattle.serde_json.proofs.OnLiterals.{serde_json_on_literals}
use Rattle.isad_core.proofs.DateLemmas.{day_of-day_text}
use Rattle.isad_core.specs.Days.{IsDayNumber, day_of, day_text}
use Rattle.isad_core.specs.Texts.{Bytes}
use Rattle.office_core.specs.declared.command.Command.TheVariants as command
use Rattle.http_messages.specs.Members.{of_one, of_two, of_three}
use Rattle.model_tests.proofs.worked.worked_bodies.Goals as goal

written : day_text (pos 19783) ≡ codes "2024-03-01"
unfolding day_text
written = refl

in_range : IsDayNumber (pos 19783)
in_range = (omega (arith, signed_arith), omega (arith, signed_arith))

march_1 : day_of (codes "2024-03-01") ≡ Some (pos 19783)
march_1 = subst (λ (text : Bytes). day_of text ≡ Some (pos 19783)) written (day_of-day_text (pos 19783) in_range)

pub returns : goal.returns
unfolding is_utf8 chars encode serde_json_on_literals
returns c = record {
  order = refl;
  day = ap (λ day. of_one command.OpenDay day) march_1;
  published = refl;
  other_status = refl;
  closure = ap (λ day. of_two command.SetClosure (Some 2) (option_map Some day)) march_1;
  move = refl;
  remove = refl;
  register = ap (λ day. of_two command.Register (Some (codes "Ada")) day) march_1;
  renew = ap (λ day. of_two command.Renew (Some 1) day) march_1;
  seat = refl;
  leave = refl;
  cancel = refl;
  issue = refl;
  return = refl;
  permit = ap (λ day. of_three command.Permit (Some 1) (Some 2) day) march_1;
  revoke = refl;
  no_text = refl;
}
