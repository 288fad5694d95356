use Rattle.std.proofs.Common.{refl, sym, ◌∙◌}
use Rattle.csv_import.proofs.Common.{early, looks_then, tells_passed_later}
use Rattle.csv_import.proofs.Counting.{next_told, number_within}
use Rattle.csv_import.proofs.Tellings.{tells_so}
use Rattle.csv_import.proofs.catalogue_import.next_with_room.Goals as goal

pub returns-in_err-units-clause-answers : goal.returns-in_err-units-clause-answers
returns-in_err-units-clause-answers g c =
    let counted = c.in_err-units.ensures in
    tells_passed_later _ c.from_residual-in_err-units.ensures c.in_ok-office.ensures.answers.looks counted.reads.aborts (λ k o it may legible. counted.faults it.catalogue.units.units it.catalogue.units.rows tt)

pub returns-then-has_space-clause-answers : goal.returns-then-has_space-clause-answers
returns-then-has_space-clause-answers g c =
    let office = c.in_ok-office.ensures.answers in
    let counted = c.in_ok-units.ensures in
    tells_so (looks_then office.looks counted.reads.looks) (λ clean k o it.
    let at_b = early counted.reads.looks.goes.on.crash clean in
    next_told c.args.new c.in_ok-units.units c.in_ok-office.office.next_unit it (office.answers at_b k o it) refl
    (office.looks.same at_b) (counted.answers clean) c.has_space.ensures c.if-has_space.true)

pub returns-then-has_space-clause-low : goal.returns-then-has_space-clause-low
returns-then-has_space-clause-low g c =
    number_within c.in_ok-units.units c.in_ok-office.office.next_unit c.args.new
    (sym c.has_space.ensures ∙ c.if-has_space.true)

pub returns-clause-answers : goal.returns-clause-answers
returns-clause-answers g c =
    let office = c.in_ok-office.ensures.answers in
    let counted = c.in_ok-units.ensures in
    tells_so (looks_then office.looks counted.reads.looks) (λ clean k o it.
    let at_b = early counted.reads.looks.goes.on.crash clean in
    next_told c.args.new c.in_ok-units.units c.in_ok-office.office.next_unit it (office.answers at_b k o it) refl
    (office.looks.same at_b) (counted.answers clean) c.has_space.ensures c.if-has_space.false)
