use Rattle.std.proofs.Common.{arith, refl, subst, ◌∙◌}
use Rattle.office_tables.specs.Schema as tables
use Rattle.csv_import.proofs.Common.{catalogue_after, cut_after, early, goes_nowhere, goes_then, makes_passed}
use Rattle.csv_import.proofs.Common.{makes_passed_later, makes_well, state}
use Rattle.csv_import.proofs.ComeToStand.{brought_join, brought_kept, brought_stand, ids}
use Rattle.csv_import.proofs.Frames.{all_touched, counted, counted_last, placed_first}
use Rattle.csv_import.proofs.row_entry.enter_with_places.Goals as goal

pub returns-in_err-add_all-clause-updates : goal.returns-in_err-add_all-clause-updates
returns-in_err-add_all-clause-updates g c =
    let made = c.in_err-add_all.ensures.updates in
    makes_passed _ c.from_residual.ensures made.aborts (λ o k it may kept. made.faults tt (ids k.forest) it.shown (brought_join may) (brought_kept may).places)

pub returns-in_err-counts-clause-updates : goal.returns-in_err-counts-clause-updates
returns-in_err-counts-clause-updates g c =
    let b = state g.S.Store c.add_all.new.tables in
    let placed = c.in_ok-add_all.ensures.updates in
    let made = c.in_err-counts.ensures.updates in
    makes_passed_later _ c.from_residual-in_err-counts.ensures c.add_all.new.tables placed.goes.on made.aborts (λ o k it may kept at_b.
    made.faults (counted o k) k (placed_first b.now o it (placed.only at_b) (placed.goes.schema at_b)) (may.come, may.known, may.each) tt)

pub returns-in_err-next-clause-updates : goal.returns-in_err-next-clause-updates
returns-in_err-next-clause-updates g c =
    makes_passed_later _ c.from_residual-in_err-next.ensures c.enter_each.new.tables (goes_then c.in_ok-add_all.ensures.updates.goes c.in_ok-counts.ensures.updates.goes).on (cut_after goes_nowhere.on)
    (λ o k it may kept at_d clean free. absurd (omega (arith, c.in_ok-counts.ensures.few, c.args.import.now.few, c.in_err-next.ensures.great)))

pub returns-in_err-set_next_unit-clause-updates : goal.returns-in_err-set_next_unit-clause-updates
returns-in_err-set_next_unit-clause-updates g c =
    let placed = c.in_ok-add_all.ensures.updates in
    let told = c.in_ok-counts.ensures.updates in
    makes_passed_later _ c.from_residual-in_err-set_next_unit.ensures c.enter_each.new.tables (goes_then placed.goes told.goes).on c.in_err-set_next_unit.ensures.leaves.aborts (λ o k it may kept at_d.
    let at_b = early told.goes.on.crash at_d in
    c.in_err-set_next_unit.ensures.faults g.P.Versioned.version (counted o k) (told.only at_d tables.office.tree refl refl ∙ (placed.only at_b tables.office.tree refl refl ∙ it.catalogue.office)))

pub returns-clause-updates : goal.returns-clause-updates
returns-clause-updates g c =
    let a = state g.S.Store c.args.tables.now in
    let b = state g.S.Store c.add_all.new.tables in
    let d = state g.S.Store c.enter_each.new.tables in
    let e = state g.S.Store c.set_next_unit.new.tables in
    let same = g.met.P.Places.shows_same in
    let placed = c.in_ok-add_all.ensures.updates in
    let told = c.in_ok-counts.ensures.updates in
    let wrote = rw c.in_ok-next.ensures.same at c.in_ok-set_next_unit.ensures in
    let went = wrote.leaves.goes in
    makes_well (goes_then (goes_then placed.goes told.goes) went) (λ clean.
    let at_d = early went.on.crash clean in
    all_touched a.now b.now d.now e.now (placed.only (early told.goes.on.crash at_d)) (told.only at_d) (wrote.only clean))
    (λ clean o k it may.
    let at_d = early went.on.crash clean in
    let at_b = early told.goes.on.crash at_d in
    let first = placed_first b.now o it (placed.only at_b) (placed.goes.schema at_b) in
    let second = told.represents_updated at_d (counted o k) k first (may.come, may.known, may.each) in
    let number = (c.in_ok-counts.ensures.counts at_d (counted o k) k first (may.come, may.known, may.each)).1 in
    let office = wrote.rows clean g.P.Versioned.version (counted o k) second.office in
    let stand = subst (g.P.Places.represents b.now.trees) (brought_stand may) (placed.represents_updated at_b tt (ids k.forest) it.shown (brought_join may)) in
    counted_last d.now e.now o k (catalogue_after c.args.import.now.source.now c.args.import.now.rows.now k) second office (went.schema clean) number
    (same d.now.trees e.now.trees _ (office.only tables.link.tree refl refl) (same b.now.trees d.now.trees _ (told.only at_d tables.link.tree refl refl) stand)))

pub returns-clause-counts : goal.returns-clause-counts
returns-clause-counts g c clean o k it may =
    let placed = c.in_ok-add_all.ensures.updates in
    let at_d = early c.in_ok-set_next_unit.ensures.leaves.goes.on.crash clean in
    let at_b = early c.in_ok-counts.ensures.updates.goes.on.crash at_d in
    let first = placed_first (state g.S.Store c.add_all.new.tables).now o it (placed.only at_b) (placed.goes.schema at_b) in
    (c.in_ok-counts.ensures.counts at_d (counted o k) k first (may.come, may.known, may.each)).0
