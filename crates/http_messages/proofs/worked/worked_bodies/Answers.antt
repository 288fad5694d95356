use Rattle.std.proofs.Common.{refl}
use Rattle.std.proofs.Math.Utf8.{encode}
use Rattle.std.specs.Str.{is_utf8, chars}
use Rattle.serde_json.proofs.OnLiterals.{serde_json_on_literals}
use Rattle.http_messages.proofs.worked.worked_bodies.Goals as goal

pub returns : goal.returns
unfolding serde_json_on_literals is_utf8 chars encode
returns c = record {
  order = refl;
  last_counts = refl;
  text_for_number = refl;
  missing_parent = refl;
  null_parent = refl;
  no_branch = refl;
  null_branch = refl;
  no_object = refl;
}
