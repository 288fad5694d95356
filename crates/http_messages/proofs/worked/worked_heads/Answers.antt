use Rattle.std.proofs.Common.{refl}
use Rattle.http_messages.proofs.worked.worked_heads.Goals as goal

pub returns : goal.returns
returns c = record {
  no_host = refl;
  no_host_needed = refl;
  two_hosts = refl;
  chunked = refl;
  signed = refl;
  listed = refl;
  empty_length = refl;
  two_that_agree = refl;
  two_that_differ = refl;
  too_large = refl;
  far_too_large = refl;
  largest = refl;
  no_body_to_wait_for = refl;
  option_close = refl;
  another_option = refl;
  fields = refl;
}
