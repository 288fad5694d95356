use Rattle.std.proofs.Common.{◌≡◌, subst, sym}
use Rattle.public_queries.proofs.Knowings.{knows_passed}
use Rattle.public_queries.proofs.LaterKnowing.{knows_then}
use Rattle.office.proofs.Common.{AreOfTables, Database, KnowsKept, TellOf, early, looked_crash, office_of, state}
use Rattle.office.proofs.NamedNumbers.{responds_named}
use Rattle.office.proofs.queries.answer_to.Goals as goal

pub returns-in_err-row-clause-answers : goal.returns-in_err-row-clause-answers
returns-in_err-row-clause-answers g c = let told = c.in_err-row.ensures.answers in knows_passed _ c.from_residual.ensures told.aborts (λ s sound so it clean free. told.faults tt s it tt sound clean free)

pub returns-then-is_public-clause-answers : goal.returns-then-is_public-clause-answers
returns-then-is_public-clause-answers g c =
    let told = c.in_ok-row.ensures.answers in
    let places = g.P.Places.represents in
    let v = g.P.Versioned.version in
    let a = state g.S.Store c.args.tables.now in
    let b = state g.S.Store c.own_row.new.tables in
    let d = state g.S.Store c.show_keeping.new.tables in
    knows_then places v (λ s. TellOf s.catalogue c.args.kept.now) (KnowsKept c.in_ok-row.row c.args.kept.now) c.args.query a b d c.show_keeping.result told.looks
    (λ clean s sound so it. record { office = told.answers clean tt s it; marks = so })
    (responds_named places v _ c.args.query _ _ _ c.show_keeping.ensures.answers)

pub returns-then-is_public-clause-stays : goal.returns-then-is_public-clause-stays
returns-then-is_public-clause-stays g c clean before =
    let told = c.in_ok-row.ensures.answers in
    let b = state g.S.Store c.own_row.new.tables in
    let d = state g.S.Store c.show_keeping.new.tables in
    let shown = c.show_keeping.ensures.answers in
    let at_b = early (looked_crash c.show_keeping.result b d shown.looks shown.aborts) clean in
    let same = told.looks.same at_b in
    subst (λ (db : Database). AreOfTables g.P.Places.represents g.P.Versioned.version db c.show_keeping.new.kept) same
    (c.show_keeping.ensures.stays clean
    (subst (λ (db : Database). AreOfTables g.P.Places.represents g.P.Versioned.version db c.args.kept.now) (sym same) before))

pub returns-clause-answers : goal.returns-clause-answers
returns-clause-answers g c =
    let told = c.in_ok-row.ensures.answers in
    let places = g.P.Places.represents in
    let v = g.P.Versioned.version in
    let a = state g.S.Store c.args.tables.now in
    let b = state g.S.Store c.own_row.new.tables in
    let d = state g.S.Store c.tell.new.tables in
    knows_then places v (λ s. TellOf s.catalogue c.args.kept.now) (λ s. c.in_ok-row.row ≡ office_of s) c.args.query a b d c.tell.result told.looks
    (λ clean s sound so it. told.answers clean tt s it)
    (responds_named places v _ c.args.query _ _ _ c.tell.ensures)
