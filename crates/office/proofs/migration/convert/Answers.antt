use Rattle.std.proofs.Common.{[], ◌∷◌, refl}
use Rattle.office_tables.specs.Schema as tables
use Rattle.nested_sets.specs.Representation.{RepresentsSpanRows}
use Rattle.office_core.proofs.KeptOffices.{office_kept}
use Rattle.state_encoding.specs.OfficeRows as rows
use Rattle.refinement.proofs.Frames.{desk_kept}
use Rattle.office.proofs.Common.{First, OnlyTouches, Represents, RepresentsState, Second, office_of, on_ok_both, state}
use Rattle.office.proofs.migration.convert.Goals as goal

pub returns : goal.returns
returns g c =
    let a = state g.S.Store c.args.conn in
    let b = state g.S.Store c.migrate.result.0 in
    let touched = tables.office.tree ∷ tables.link.tree ∷ [] in
    let it = rw c.inside.ensures at c.migrate.ensures in
    record {
      represents = λ clean s shown.
          on_ok_both c.migrate.result.1 (OnlyTouches touched a.now b.now) (Represents RepresentsSpanRows Second b.now (office_of s) s.catalogue) (RepresentsState RepresentsSpanRows Second b.now s)
          (λ only catalogue. record { catalogue = catalogue; desk = desk_kept a.now b.now touched only (rows.tables First s).desk refl shown.desk; texts = shown.texts })
          (it.only clean) (it.represents clean (office_of s, s.catalogue) shown.catalogue);
      only = it.only;
      inside = it.inside;
      goes = it.goes;
      aborts = it.aborts;
      disk = it.disk;
      faults = λ s shown sound. it.faults (office_of s, s.catalogue) shown.catalogue (office_kept s sound);
    }
