use Rattle.std.proofs.Common.{refl}
use Rattle.http_messages.proofs.worked.worked_paths.Goals as goal

pub returns : goal.returns
returns c = record {
  query = refl;
  absolute = refl;
  authority_alone = refl;
  number_sign = refl;
  star = refl;
}
