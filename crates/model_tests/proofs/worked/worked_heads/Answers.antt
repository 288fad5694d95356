use Rattle.std.proofs.Common.{refl}
use Rattle.httparse.specs.Grammar.{trim_ows}
use Rattle.model_tests.proofs.worked.worked_heads.Goals as goal

pub returns : goal.returns
unfolding trim_ows
returns c = record {
  old_chunked = refl;
  small_head = refl;
  old_expectation = refl;
  no_body = refl;
  one_byte = refl;
  another_expectation = refl;
  another_field = refl;
  second_options = refl;
  close_elsewhere = refl;
  space_after_close = refl;
  ten_times = refl;
  second_empty = refl;
  old_version = refl;
}
