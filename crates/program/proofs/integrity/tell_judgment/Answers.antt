use Rattle.std.proofs.Common.{rules}
use Rattle.program.proofs.Judgments.{no_line, part_of_line, told_old, told_unsound}
use Rattle.program.proofs.integrity.tell_judgment.Goals as goal

pub returns-in_err-line-in-Some-Unsound-clause-fault : goal.returns-in_err-line-in-Some-Unsound-clause-fault
returns-in_err-line-in-Some-Unsound-clause-fault g c =
    no_line c.args.judged c.in-Some-Unsound.field-0 c.in-Some-Unsound.cause _ c.from_residual-in_err-line-in-Some-Unsound.result
    c.in-Some-Unsound.is (cc) c.from_residual-in_err-line-in-Some-Unsound.ensures.1

pub returns-in_ok-write_whole-in-Some-OldVersion-clause-fault : goal.returns-in_ok-write_whole-in-Some-OldVersion-clause-fault
returns-in_ok-write_whole-in-Some-OldVersion-clause-fault g c = told_old c.args.judged c.in-Some-OldVersion.field-0 _ _ c.in-Some-OldVersion.is (cc) c.in_ok-write_whole-in-Some-OldVersion.ensures.whole

pub returns-in_ok-write_whole-in-Some-Unsound-clause-fault : goal.returns-in_ok-write_whole-in-Some-Unsound-clause-fault
returns-in_ok-write_whole-in-Some-Unsound-clause-fault g c =
    told_unsound c.args.judged c.in-Some-Unsound.field-0 c.in-Some-Unsound.cause c.as_bytes.result.now _ _ c.in-Some-Unsound.is
    (first_of (cc (c.in-Some-Unsound.field-0-is), cc (c.in-Some-Unsound.field-0-is, c.in-Some-Unsound.cause-is), search rules))
    (search rules) c.in_ok-write_whole-in-Some-Unsound.ensures.whole

pub returns-in_err-write_whole-in-Some-Unsound-clause-fault : goal.returns-in_err-write_whole-in-Some-Unsound-clause-fault
returns-in_err-write_whole-in-Some-Unsound-clause-fault g c =
    part_of_line c.args.judged c.in-Some-Unsound.field-0 c.in-Some-Unsound.cause c.as_bytes.result.now _ _ c.from_residual-in_err-write_whole-in-Some-Unsound.result
    c.in-Some-Unsound.is (first_of (cc (c.in-Some-Unsound.field-0-is), cc (c.in-Some-Unsound.field-0-is, c.in-Some-Unsound.cause-is), search rules))
    (search rules) c.in_err-write_whole-in-Some-Unsound.ensures.part c.from_residual-in_err-write_whole-in-Some-Unsound.ensures.1
