use Rattle.std.proofs.Common.{◌≡◌, ℕ, List, [], ◌∷◌, length, ap, arith, sym, subst, ◌∙◌}
use Rattle.office_tables.proofs.LaterCauses.{next_cause}
use Rattle.office_tables.specs.Schema as tables
use Rattle.catalogue_store.proofs.Common.{Database, OnlyTouches, Represents, Unit, cut_then, each, early, goes_then}
use Rattle.catalogue_store.proofs.Common.{looked_spares, makes_not, makes_part, makes_well, same_fault, state}
use Rattle.catalogue_store.proofs.Common.{still_unlimited, with_status}
use Rattle.catalogue_store.proofs.status_and_closure.set_status.Goals as goal

pub returns-in_err-units-clause-updates : goal.returns-in_err-units-clause-updates
returns-in_err-units-clause-updates g c =
    let why = c.in_err-units.ensures.answers in
    makes_not (same_fault c.from_residual.ensures) why.aborts why.spares (λ o k it may kept. why.faults tt (each (λ (u : Unit). u.id) k.forest) it.shown tt kept.places)

pub returns-in_err-set_drafts-clause-updates : goal.returns-in_err-set_drafts-clause-updates
returns-in_err-set_drafts-clause-updates g c =
    let a = state g.S.Store c.args.tables.now in
    let b = state g.S.Store c.units_under.new.tables in
    let d = state g.S.Store c.set_drafts.new.tables in
    let told = c.in_ok-units.ensures.answers in
    let cut = c.in_err-set_drafts.ensures.aborts in
    let e = c.in_err-set_drafts.field-0.0 in
    makes_part (same_fault c.from_residual-in_err-set_drafts.ensures) (cut_then told.looks.goes.on cut) (λ clean. looked_spares told.looks (early cut.crash clean) e (c.in_err-set_drafts.ensures.spares clean)) (λ o k it may kept clean free. next_cause a b d told.looks.goes.on cut clean e
    (λ before.
    let shown = subst (λ (db : Database). Represents g.P.Places.represents g.P.Versioned.version db o k) (sym (told.looks.same before)) it in
    c.in_err-set_drafts.ensures.faults o k shown tt tt clean (still_unlimited a b told.looks.goes.on free)))

pub returns-clause-updates : goal.returns-clause-updates
returns-clause-updates g c =
    let d = state g.S.Store c.set_drafts.new.tables in
    let told = c.in_ok-units.ensures.answers in
    let went = c.in_ok-set_drafts.ensures.goes in
    makes_well (goes_then told.looks.goes went)
    (λ clean. subst (λ (db : Database). OnlyTouches (tables.unit.tree ∷ []) db d.now) (told.looks.same (early went.on.crash clean)) (c.in_ok-set_drafts.ensures.only clean))
    (λ clean o k it may.
    let represents = λ (db : Database). Represents g.P.Places.represents g.P.Versioned.version db o in
    let before = early went.on.crash clean in
    let ids = c.deref.ensures.value ∙ told.answers before tt (each (λ (u : Unit). u.id) k.forest) it.shown in
    subst (λ (ids : List ℕ). represents d.now (with_status ids c.args.draft k)) ids
    (c.in_ok-set_drafts.ensures.represents_updated clean o k (subst (λ (db : Database). represents db k) (sym (told.looks.same before)) it) tt))

pub returns-clause-count : goal.returns-clause-count
returns-clause-count g c clean f it =
    let before = early c.in_ok-set_drafts.ensures.goes.on.crash clean in
    let long : c.len.result ≡ length c.in_ok-units.units.items = omega arith in
    long ∙ ap length (c.in_ok-units.ensures.answers.answers before tt f it)
