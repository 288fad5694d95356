use Rattle.std.proofs.Common.{append_assoc}
use Rattle.program.proofs.RefusalLines.{reader_line}
use Rattle.program.proofs.faults.refusal_line.Goals as goal

pub returns-in_ok-format-in-WithReader : goal.returns-in_ok-format-in-WithReader
returns-in_ok-format-in-WithReader c =
    reader_line c.args.why c.in-WithReader.container c.code-code.result c.name-name.result.now _ c.in-WithReader.is c.code-code.ensures c.name-name.ensures
    (simp append_assoc c.in_ok-format-in-WithReader.ensures.ok)
