-- The meaning of a head that was read: its parts are places in its block.
use Rattle.std.specs.Prelude.{◌≤◌, length}
use Rattle.httparse.specs.Spans.{span_bytes, IsWithin}
use Rattle.isad_core.specs.Texts.{Bytes}
use Rattle.http_messages.specs.declared.head_verdict.Head.{Head}
use Rattle.http_messages.specs.declared.head_verdict.Judged.{Judged}
use Rattle.http_messages.specs.declared.head_verdict.Judged.TheVariants as judged
use Rattle.http_messages.specs.Heads.{Request, Verdict, Refused, Accepted, longest_body, body_length}

abbrev pub request_in : Bytes → Head → Request
request_in block head =
    record {
      method = span_bytes block head.method;
      target = span_bytes block head.target;
      length = head.length;
      waits = head.waits;
      closes = head.closes;
    }

abbrev pub verdict_in : Bytes → Judged → Verdict
verdict_in block (judged.Refused status bare) = Refused status bare
verdict_in block (judged.Accepted head) = Accepted (request_in block head)

-- the parts lie in the block, and the body is not too long
abbrev pub IsFit : Bytes → Judged → Type 0
IsFit block (judged.Refused status bare) = Unit {0}
IsFit block (judged.Accepted head) =
    IsWithin (length block) head.method × IsWithin (length block) head.target
    × (body_length (request_in block head) ≤ longest_body)
