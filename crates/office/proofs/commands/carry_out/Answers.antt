use Rattle.std.proofs.Common.{ap, subst, sym, ◌∙◌}
use Rattle.office.specs.Sight.{day_check}
use Rattle.office.proofs.Common.{AreOfTables, Database, TellOf, does_pass, does_then, early, is_refused, office_of, state, went}
use Rattle.office.proofs.KeptMarks.{read_alone, still_lent, touches_after}
use Rattle.office.proofs.NamedNumbers.{performs_named, spares_named}
use Rattle.office.proofs.Sights.{day_check_refuses}
use Rattle.office.proofs.commands.carry_out.Goals as goal

pub returns-in_err-row-clause-performs : goal.returns-in_err-row-clause-performs
returns-in_err-row-clause-performs g c = let told = c.in_err-row.ensures.answers in does_pass _ c.from_residual.ensures told.aborts (λ s sound so it clean free. told.faults tt s it tt sound clean free)

pub returns-in-Some-clause-performs : goal.returns-in-Some-clause-performs
returns-in-Some-clause-performs g c =
    let told = c.in_ok-row.ensures.answers in
    is_refused told.looks
    (λ clean s sound so it.
    let day = ap (λ row. row.day) (told.answers clean tt s it) in
    day_check_refuses s c.args.command.now c.in-Some.why (sym (c.in-Some.ensures ∙ ap (λ today. day_check today c.args.command.now) day)))

pub returns-in-Some-clause-only : goal.returns-in-Some-clause-only
returns-in-Some-clause-only g c spares clean =
    read_alone (state g.S.Store c.args.tables.now) (state g.S.Store c.own_row.new.tables) c.in_ok-row.ensures.answers.looks clean

pub perform_keeping-requires-clause-marks : goal.perform_keeping-requires-clause-marks
perform_keeping-requires-clause-marks g c =
    still_lent g.P.Places.represents g.P.Versioned.version (state g.S.Store c.args.tables.now) (state g.S.Store c.own_row.new.tables)
    c.in_ok-row.ensures.answers.looks c.args.kept.now c.requires.marks

pub returns-then-asks_access-clause-performs : goal.returns-then-asks_access-clause-performs
returns-then-asks_access-clause-performs g c = let told = c.in_ok-row.ensures.answers in does_then told.looks (performs_named g.P.Places.represents g.P.Versioned.version _ c.args.command.now _ _ _ c.perform_keeping.ensures.performs) (λ clean s sound so it. told.answers clean tt s it)

pub returns-then-asks_access-clause-only : goal.returns-then-asks_access-clause-only
returns-then-asks_access-clause-only g c spares clean =
    let b = state g.S.Store c.own_row.new.tables in
    let d = state g.S.Store c.perform_keeping.new.tables in
    let does = c.perform_keeping.ensures.performs in
    touches_after (state g.S.Store c.args.tables.now) b d c.perform_keeping.result c.in_ok-row.ensures.answers.looks
    (early (went c.perform_keeping.result b d does.goes does.aborts) clean) (c.perform_keeping.ensures.only clean)

pub returns-then-asks_access-clause-stays : goal.returns-then-asks_access-clause-stays
returns-then-asks_access-clause-stays g c clean before =
    let b = state g.S.Store c.own_row.new.tables in
    let d = state g.S.Store c.perform_keeping.new.tables in
    let does = c.perform_keeping.ensures.performs in
    let same = c.in_ok-row.ensures.answers.looks.same (early (went c.perform_keeping.result b d does.goes does.aborts) clean) in
    subst (λ (db : Database). AreOfTables g.P.Places.represents g.P.Versioned.version db c.perform_keeping.new.kept) same
    (c.perform_keeping.ensures.stays clean
    (subst (λ (db : Database). AreOfTables g.P.Places.represents g.P.Versioned.version db c.args.kept.now) (sym same) before))

pub returns-clause-performs : goal.returns-clause-performs
returns-clause-performs g c = let told = c.in_ok-row.ensures.answers in does_then told.looks (performs_named g.P.Places.represents g.P.Versioned.version _ c.args.command.now _ _ _ c.perform.ensures.performs) (λ clean s sound so it. record {
  office = told.answers clean tt s it;
  marks = subst (TellOf s.catalogue) (sym c.as_ref.ensures.value)
      (c.requires.marks (early told.looks.goes.on.crash clean) (office_of s) s.catalogue it.catalogue);
})

pub returns-clause-only : goal.returns-clause-only
returns-clause-only g c spares clean =
    let b = state g.S.Store c.own_row.new.tables in
    let d = state g.S.Store c.perform.new.tables in
    let does = c.perform.ensures.performs in
    touches_after (state g.S.Store c.args.tables.now) b d c.perform.result c.in_ok-row.ensures.answers.looks
    (early (went c.perform.result b d does.goes does.aborts) clean) (c.perform.ensures.only (spares_named c.args.command.now ∙ spares) clean)
