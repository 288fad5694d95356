use Rattle.std.proofs.Common.{sym, ◌∙◌}
use Rattle.csv_import.proofs.Common.{contains_text, get_by_text, looks_nowhere}
use Rattle.csv_import.proofs.KnownUnits.{asked_again, asked_and_found, asked_in_vain}
use Rattle.csv_import.proofs.Tellings.{tells_of, tells_so}
use Rattle.csv_import.proofs.numbers.look_up.Goals as goal

pub returns-then-not-branch-clause-answers : goal.returns-then-not-branch-clause-answers
returns-then-not-branch-clause-answers g c =
    let noted = c.in_ok-note.ensures in
    tells_so looks_nowhere (λ clean o k it good knows.
    asked_again knows (contains_text c.note.new.noted) c.args.legacy.now noted.noted noted.new c.if-not-branch.true)

pub returns-in_default-clause-answers : goal.returns-in_default-clause-answers
returns-in_default-clause-answers g c =
    tells_of c.in_ok-unit.ensures.answers (λ o k it is good knows.
    asked_in_vain knows (contains_text c.note.new.noted) c.args.legacy.now c.in_ok-note.ensures.noted (sym c.in_default.is ∙ is good))

pub returns-clause-answers : goal.returns-clause-answers
returns-clause-answers g c =
    tells_of c.in_ok-unit.ensures.answers (λ o k it is good knows.
    asked_and_found knows (contains_text c.note.new.noted) c.args.legacy.now c.in_ok-note.ensures.noted
    (get_by_text c.remember.new.kept) c.in-Some.unit (sym c.in-Some.is ∙ is good) c.in_ok-remember.ensures)
