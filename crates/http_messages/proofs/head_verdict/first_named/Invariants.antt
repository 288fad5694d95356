use Rattle.std.proofs.Common.{◌≡◌, drop}
use Rattle.http_messages.proofs.Common.{find, header_bytes, is_named}
use Rattle.http_messages.proofs.head_verdict.first_named.Given as goal

abbrev pub invariant-loop-field : goal.invariant-loop-field
invariant-loop-field l = find (λ h. is_named l.name (header_bytes l.block h)) (drop l.field-index l.fields) ≡ find (λ h. is_named l.name (header_bytes l.block h)) l.fields
