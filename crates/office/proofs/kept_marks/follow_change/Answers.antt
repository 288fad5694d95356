use Rattle.std.proofs.Common.{sym, subst, true}
use Rattle.office.proofs.Common.{Command, FollowsChange}
use Rattle.office.proofs.Followed.{closure_followed, status_followed}
use Rattle.office.proofs.kept_marks.follow_change.Goals as goal

pub returns-in-SetStatus : goal.returns-in-SetStatus
returns-in-SetStatus c =
    let asked = c.in-SetStatus in
    subst (λ (command : Command). FollowsChange true command c.args.kept.now c.follow_status.new.kept) (sym asked.is)
    (status_followed c.args.kept.now c.follow_status.new.kept asked.unit asked.draft asked.branch (rw c.named.ensures at c.follow_status.ensures))

pub returns-in-SetClosure : goal.returns-in-SetClosure
returns-in-SetClosure c =
    let asked = c.in-SetClosure in
    subst (λ (command : Command). FollowsChange true command c.args.kept.now c.follow_closure.new.kept) (sym asked.is)
    (closure_followed c.args.kept.now c.follow_closure.new.kept asked.unit asked.until (rw c.named-in-SetClosure.ensures at c.follow_closure.ensures))
