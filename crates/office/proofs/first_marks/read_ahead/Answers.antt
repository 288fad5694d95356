use Rattle.office.proofs.Common.{state}
use Rattle.office.proofs.KeptMarks.{marks_taken}
use Rattle.office.proofs.first_marks.read_ahead.Goals as goal

pub returns-clause-marks : goal.returns-clause-marks
returns-clause-marks g c =
    rw (c.into_connection.ensures, c.ok-kept.ensures.value)
    (marks_taken g.P.Places.represents g.P.Versioned.version (state g.S.Store c.read_in.new.closed) c.read_in.result c.read_in.ensures.marks)
