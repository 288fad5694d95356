use Rattle.std.proofs.Common.{subst}
use Rattle.catalogue_statements.specs.declared.office.OfficeRow.{OfficeRow}
use Rattle.office.proofs.Common.{RepresentsNew, schema, state, survives_weaker}
use Rattle.office.proofs.NewOffices.{founded_sound, shows_founded}
use Rattle.office.proofs.offices.Office.create.Goals as goal

pub returns-then-not-is_blank-clause-sound : goal.returns-then-not-is_blank-clause-sound
returns-then-not-is_blank-clause-sound g c = founded_sound c.args.settings c.into_row-row.ensures.good

pub returns-in-Ok-clause-sound : goal.returns-in-Ok-clause-sound
returns-in-Ok-clause-sound g c = founded_sound c.args.settings c.into_row-row.ensures.good

pub returns-clause-sound : goal.returns-clause-sound
returns-clause-sound g c = founded_sound c.args.settings c.into_row-row.ensures.good

pub returns-in-Ok-clause-represents : goal.returns-in-Ok-clause-represents
returns-in-Ok-clause-represents g c =
    let d = state g.S.Store c.found.new.conn in
    rw c.of.ensures (λ clean opened.
    let new = subst (λ (row : OfficeRow). RepresentsNew g.P.Places.represents g.P.Versioned.version d.now row) c.into_row-row.ensures.row (c.in-Ok.ensures.represents clean opened) in
    shows_founded g.P.Places.represents g.P.Versioned.version d.now c.args.settings c.into_row-row.ensures.good new)

pub returns-in-Ok-clause-crash : goal.returns-in-Ok-clause-crash
returns-in-Ok-clause-crash g c =
    rw c.of.ensures (survives_weaker (state g.S.Store c.args.conn) (state g.S.Store c.found.new.conn) _ _
    (λ clean db new. shows_founded g.P.Places.represents g.P.Versioned.version (record { schema = schema g.P.Versioned.version; trees = db }) c.args.settings c.into_row-row.ensures.good
    (subst (λ (row : OfficeRow). RepresentsNew g.P.Places.represents g.P.Versioned.version (record { schema = schema g.P.Versioned.version; trees = db }) row) c.into_row-row.ensures.row new))
    c.in-Ok.ensures.crash)

pub returns-clause-crash_back : goal.returns-clause-crash_back
returns-clause-crash_back g c =
    survives_weaker (state g.S.Store c.args.conn) (state g.S.Store c.found.new.conn) _ _
    (λ clean db new. shows_founded g.P.Places.represents g.P.Versioned.version (record { schema = schema g.P.Versioned.version; trees = db }) c.args.settings c.into_row-row.ensures.good
    (subst (λ (row : OfficeRow). RepresentsNew g.P.Places.represents g.P.Versioned.version (record { schema = schema g.P.Versioned.version; trees = db }) row) c.into_row-row.ensures.row new))
    c.in-Err.ensures.crash
