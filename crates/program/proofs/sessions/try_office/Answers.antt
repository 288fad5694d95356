use Rattle.std.proofs.Common.{refl}
use Rattle.program.proofs.Trials.{always_clean, broken_by, done_by, talked}
use Rattle.program.proofs.sessions.try_office.Goals as goal

pub returns-clause-done : goal.returns-clause-done
returns-clause-done g c =
    done_by c.args.settings _ _ _ _ c.talk-ended.result c.after.result
    (talked _ (always_clean (λ _ _. refl)) _ _ c.args.settings _ _ _ _ c.in_ok-office.office c.talk-ended.new.office c.talk-ended.result c.in_ok-office.ensures.sound c.in_ok-office.ensures.founded c.talk-ended.ensures.session c.talk-ended.ensures.streams)
    c.after.ensures.well

pub returns-clause-fault : goal.returns-clause-fault
returns-clause-fault g c =
    broken_by c.args.settings _ _ _ _ c.talk-ended.result c.after.result
    (talked _ (always_clean (λ _ _. refl)) _ _ c.args.settings _ _ _ _ c.in_ok-office.office c.talk-ended.new.office c.talk-ended.result c.in_ok-office.ensures.sound c.in_ok-office.ensures.founded c.talk-ended.ensures.session c.talk-ended.ensures.streams)
    c.after.ensures.broken
