use Rattle.std.proofs.Common.{◌≡◌, ◌<◌, ◌++◌, drop, filter}
use Rattle.std.specs.String.{string_bytes}
use Rattle.isad_core.specs.Codes.{code_of, join_with, is_nonblank}
use Rattle.isad_core.proofs.code.join_code.Given as goal

-- the code so far, with what the other identifiers add
abbrev pub invariant-loop-id : goal.invariant-loop-id
invariant-loop-id l = (l.separator < 128)
    × (string_bytes l.code ++ join_with l.separator (filter is_nonblank (drop l.id-index l.ids)) ≡ code_of l.country l.repo l.ids)
