use Rattle.std.proofs.Common.{[], ◌∷◌, refl, sym, ◌∙◌}
use Rattle.office_tables.specs.Schema as tables
use Rattle.catalogue_store.specs.ImportEntries.{with_entered}
use Rattle.catalogue_store.proofs.Common.{ElementRow, Goes, HousingRow, IsAborted, IsDescribed, OnlyTouches}
use Rattle.catalogue_store.proofs.Common.{RepresentsCatalogue, cut_then, described_trees, early, excused_then}
use Rattle.catalogue_store.proofs.Common.{goes_then, has_id, is_from, last_touched, list_any-IsPermutation, makes_not}
use Rattle.catalogue_store.proofs.Common.{nodes, none_yet, on_err_then, on_ok_both, on_ok_by, on_ok_then, same_fault}
use Rattle.catalogue_store.proofs.Common.{state, touched_then, touched_wider, unit_added, unit_of, wider_last}
use Rattle.catalogue_store.proofs.Entered.{shows_entered}
use Rattle.catalogue_store.proofs.Telling.{descriptions_in, descriptions_shown, same_descriptions}
use Rattle.catalogue_store.proofs.import_entries.enter_unit.Goals as goal

pub returns-in_err-insert_unit : goal.returns-in_err-insert_unit
returns-in_err-insert_unit g c =
    let u = unit_of c.args.unit.now in
    let e = c.in_err-insert_unit.field-0.0 in
    record {
      updates = λ v parent. makes_not (same_fault c.from_residual.ensures) c.in_err-insert_unit.ensures.leaves.aborts c.in_err-insert_unit.ensures.leaves.spares (λ o k it may kept clean free.
          let at = it.units in
          c.in_err-insert_unit.ensures.faults at.units at.rows (
            sym (list_any-IsPermutation (has_id u.id) (nodes k.forest) at.units at.are) ∙ kept.1.number,
            sym (list_any-IsPermutation (is_from u.source u.legacy) (nodes k.forest) at.units at.are) ∙ kept.1.origin,
          ) clean free);
    }

pub returns : goal.returns
returns g c =
    let a = state g.S.Store c.args.tables.now in
    let b = state g.S.Store c.insert_unit.new.tables in
    let d = state g.S.Store c.describe.new.tables in
    let u = unit_of c.args.unit.now in
    let r = c.describe.result in
    let described = tables.element.tree ∷ tables.container.tree ∷ tables.housing.tree ∷ [] in
    let first = c.in_ok-insert_unit.ensures.leaves.goes in
    let last = c.describe.ensures in
    record {
      updates = λ v parent. record {
        call = record {
          represents_updated = λ clean o k it may.
              let told = descriptions_in v a.now o k it in
              let shown = RepresentsCatalogue v d.now o (with_entered parent u k) in
              on_ok_by r (Goes b d) shown
              (λ went.
              let at_b = early went.on.crash clean in
              let put = c.in_ok-insert_unit.ensures.puts at_b in
              let kept = put.only in
              let here = same_descriptions a.now.trees b.now.trees told (kept tables.element.tree refl refl) (kept tables.container.tree refl refl) (kept tables.housing.tree refl refl) (descriptions_shown v a.now o k it may.knows) in
              on_ok_both r (IsDescribed u.id u.values told.housed.boxes told.elements told.housed.rows d.now.trees) (OnlyTouches described b.now d.now) shown
              (λ made only. shows_entered v a.now d.now o k parent u it may.place may.knows (record {
                schema = (goes_then first went).schema clean;
                office = only tables.office.tree refl refl ∙ kept tables.office.tree refl refl;
                units = only tables.unit.tree refl refl ∙ put.rows;
                fresh = put.fresh;
                described = made;
              }))
              (last.makes clean told here) (last.only clean))
              last.leaves.goes;
          only = λ clean.
              let touched = OnlyTouches described_trees a.now d.now in
              on_ok_by r (Goes b d) touched
              (λ went.
              let put = c.in_ok-insert_unit.ensures.puts (early went.on.crash clean) in
              on_ok_then r (OnlyTouches described b.now d.now) touched
              (λ only. touched_wider (tables.unit.tree ∷ described) described_trees a.now d.now refl (touched_then (tables.unit.tree ∷ []) described a.now b.now d.now put.only only))
              (last.only clean))
              last.leaves.goes;
          goes = on_ok_then r (Goes b d) (Goes a d) (goes_then first) last.leaves.goes;
          aborts = on_err_then r (IsAborted b d) (IsAborted a d) (cut_then first.on) last.leaves.aborts;
          faults = λ o k it may kept. excused_then _ first.on r last.leaves.aborts (λ at_b.
              let told = descriptions_in v a.now o k it in
              let put = c.in_ok-insert_unit.ensures.puts at_b in
              let only = put.only in
              let unit = unit_added a.now.trees b.now.trees u it.units.units it.units.rows put.rows in
              let here = same_descriptions a.now.trees b.now.trees told (only tables.element.tree refl refl) (only tables.container.tree refl refl) (only tables.housing.tree refl refl) (descriptions_shown v a.now o k it may.knows) in
              last.faults told here (
                unit,
                kept.1.whole,
                none_yet (λ (x : ElementRow). x.unit) u.id k.forest told.elements kept.1.number it.elements.others,
                none_yet (λ (h : HousingRow). h.unit) u.id k.forest told.housed.rows kept.1.number it.housings.others,
              ));
        };
        spares = λ clean. last_touched described_trees a b d first.on (λ at_b. touched_wider (tables.unit.tree ∷ []) described_trees a.now b.now refl (c.in_ok-insert_unit.ensures.puts at_b).only) r last.leaves.aborts clean
            (wider_last described described_trees b d r refl (last.leaves.spares clean));
      };
    }
