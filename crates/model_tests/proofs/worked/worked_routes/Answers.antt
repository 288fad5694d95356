use Rattle.std.proofs.Common.{refl}
use Rattle.std.proofs.Math.Utf8.{encode}
use Rattle.std.specs.Fmt.{digits}
use Rattle.std.specs.Str.{is_utf8, chars}
use Rattle.model_tests.proofs.worked.worked_routes.Goals as goal

pub returns : goal.returns
unfolding digits is_utf8 chars encode
returns c = record {
  lists = refl;
  public_pages = refl;
  desk_pages = refl;
  without_bodies = refl;
  import = refl;
  catalogue = refl;
  readers = refl;
  orders = refl;
  ten_digits = refl;
  eleven_digits = refl;
  letter = refl;
  letter_later = refl;
  no_source = refl;
  two_sources = refl;
  longer = refl;
  other = refl;
  of_file = refl;
}
