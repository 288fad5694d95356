use Rattle.std.proofs.Common.{refl, map, if◌then◌else◌, ◌∷◌, []}
use Rattle.office_tables.specs.Schema as tables
use Rattle.catalogue_store.proofs.Common.{Goes, HasRows, Represents, Unit, cells_of_unit, has_id, kept_by, on_ok_both}
use Rattle.catalogue_store.proofs.Common.{shows_changed, state, untouched_last, with_closure}
use Rattle.catalogue_store.proofs.status_and_closure.set_closure.Goals as goal

pub returns-clause-updates : goal.returns-clause-updates
returns-clause-updates g c =
    let a = state g.S.Store c.args.tables.now in
    let b = state g.S.Store c.set_until.new.tables in
    let left = c.set_until.ensures.leaves in
    let closed = λ (u : Unit). (let x : Unit = record u { until = c.args.until } in x) in
    let change = λ (u : Unit). if has_id c.args.unit u then closed u else u in
    record {
      call = record {
        represents_updated = λ clean o k it may.
            let at = it.catalogue.units in
            on_ok_both c.set_until.result (Goes a b) (HasRows tables.unit.tree (map cells_of_unit (map change at.units)) a.now b.now) (Represents g.P.Places.represents g.P.Versioned.version b.now o (with_closure c.args.unit c.args.until k))
            (λ last wrote. shows_changed change (λ u. kept_by (λ (u : Unit). u.id) (has_id c.args.unit u) (closed u) u refl) (λ u. kept_by (λ (u : Unit). u.values) (has_id c.args.unit u) (closed u) u refl)
            g.P.Versioned.version g.P.Places.represents g.met.P.Places.shows_same a.now b.now o k it (last.schema clean) wrote)
            left.goes (c.set_until.ensures.rows clean at.units at.rows at.rise);
        only = c.set_until.ensures.only;
        goes = left.goes;
        aborts = left.aborts;
        faults = λ o k it may kept. let at = it.catalogue.units in c.set_until.ensures.faults at.units at.rows at.rise;
      };
      spares = λ clean. untouched_last (tables.unit.tree ∷ []) a b c.set_until.result (left.spares clean);
    }
