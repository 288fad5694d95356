use Rattle.std.proofs.Common.{[], ◌∷◌, nat_eq, refl, sym, ◌∙◌}
use Rattle.office_tables.specs.Schema as tables
use Rattle.catalogue_store.proofs.Common.{ElementRow, Goes, HousingRow, IsAborted, IsDescribed, OnlyTouches}
use Rattle.catalogue_store.proofs.Common.{RepresentsCatalogue, cut_then, described_trees, descriptions_of_others, early}
use Rattle.catalogue_store.proofs.Common.{excused_then, goes_then, has_id, last_touched, list_any-IsPermutation}
use Rattle.catalogue_store.proofs.Common.{makes_cut, makes_not, nodes, none_left, on_err_then, on_ok_both, on_ok_by}
use Rattle.catalogue_store.proofs.Common.{on_ok_then, same_fault, state, touched_then, touched_wider, unit_valued}
use Rattle.catalogue_store.proofs.Common.{wider_last, wider_spares, with_values, ⊤}
use Rattle.catalogue_store.proofs.Telling.{descriptions_in, descriptions_shown, same_descriptions}
use Rattle.catalogue_store.proofs.Valued.{shows_valued}
use Rattle.catalogue_store.proofs.import_entries.enter_values.Goals as goal

pub returns-in_err-set_level : goal.returns-in_err-set_level
returns-in_err-set_level g c =
    let e = c.in_err-set_level.field-0.0 in
    record { updates = λ v. makes_not (same_fault c.from_residual.ensures) c.in_err-set_level.ensures.leaves.aborts c.in_err-set_level.ensures.leaves.spares (λ o k it may kept clean free. let at = it.units in c.in_err-set_level.ensures.faults at.units at.rows at.rise clean free) }

pub returns-in_err-clear : goal.returns-in_err-clear
returns-in_err-clear g c =
    let a = state g.S.Store c.args.tables.now in
    let b = state g.S.Store c.set_level.new.tables in
    record {
      updates = λ v. makes_cut (same_fault c.from_residual-in_err-clear.ensures) c.in_ok-set_level.ensures.leaves.goes.on (λ at_b. touched_wider (tables.unit.tree ∷ []) described_trees a.now b.now refl (c.in_ok-set_level.ensures.only at_b)) c.in_err-clear.ensures.leaves.aborts (λ clean. wider_spares (tables.element.tree ∷ tables.housing.tree ∷ []) described_trees b (state g.S.Store c.clear.new.tables) c.in_err-clear.field-0.0 refl (c.in_err-clear.ensures.leaves.spares clean)) (λ o k it may kept at_b clean free.
          let told = descriptions_in v a.now o k it in
          let only = c.in_ok-set_level.ensures.only at_b in
          let here = same_descriptions a.now.trees b.now.trees told (only tables.element.tree refl refl) (only tables.container.tree refl refl) (only tables.housing.tree refl refl) (descriptions_shown v a.now o k it may.knows) in
          c.in_err-clear.ensures.faults told here tt clean free);
    }

pub returns : goal.returns
returns g c =
    let a = state g.S.Store c.args.tables.now in
    let b = state g.S.Store c.set_level.new.tables in
    let d = state g.S.Store c.clear.new.tables in
    let e = state g.S.Store c.describe.new.tables in
    let unit = c.args.unit in
    let values = c.args.values.now in
    let r = c.describe.result in
    let leveled = c.in_ok-set_level.ensures in
    let cleared = c.in_ok-clear.ensures in
    let last = c.describe.ensures in
    let went = goes_then leveled.leaves.goes cleared.leaves.goes in
    let level = tables.unit.tree ∷ [] in
    let gone = tables.element.tree ∷ tables.housing.tree ∷ [] in
    let described = tables.element.tree ∷ tables.container.tree ∷ tables.housing.tree ∷ [] in
    record {
      updates = λ v. record {
        call = record {
          represents_updated = λ clean o k it may.
              let told = descriptions_in v a.now o k it in
              let others = descriptions_of_others unit told in
              let shown = RepresentsCatalogue v e.now o (with_values unit values k) in
              on_ok_by r (Goes d e) shown
              (λ further.
              let before_d = early further.on.crash clean in
              let before_b = early cleared.leaves.goes.on.crash before_d in
              let wrote = leveled.rows before_b it.units.units it.units.rows it.units.rise in
              let kept = wrote.only in
              let here = same_descriptions a.now.trees b.now.trees told (kept tables.element.tree refl refl) (kept tables.container.tree refl refl) (kept tables.housing.tree refl refl) (descriptions_shown v a.now o k it may.knows) in
              let still = cleared.only before_d in
              on_ok_both r (IsDescribed unit values others.housed.boxes others.elements others.housed.rows e.now.trees) (OnlyTouches described d.now e.now) shown
              (λ made only. (shows_valued unit values v (λ _ _. ⊤) (λ _ _ _ _ _. tt) a.now e.now o k (record { catalogue = it; shown = tt }) may.knows may.there (record {
                schema = (goes_then went further).schema clean;
                office = only tables.office.tree refl refl ∙ still tables.office.tree refl refl ∙ kept tables.office.tree refl refl;
                places = only tables.link.tree refl refl ∙ still tables.link.tree refl refl ∙ kept tables.link.tree refl refl;
                units_are = only tables.unit.tree refl refl ∙ still tables.unit.tree refl refl ∙ wrote.are;
                described = made;
              })).catalogue)
              (last.makes clean others (cleared.makes before_d told here)) (last.only clean))
              last.leaves.goes;
          only = λ clean.
              let touched = OnlyTouches described_trees a.now e.now in
              on_ok_by r (Goes d e) touched
              (λ further.
              let before_d = early further.on.crash clean in
              let before_b = early cleared.leaves.goes.on.crash before_d in
              let first = touched_then level gone a.now b.now d.now (leveled.only before_b) (cleared.only before_d) in
              on_ok_then r (OnlyTouches described d.now e.now) touched
              (λ only. touched_wider (tables.unit.tree ∷ tables.element.tree ∷ tables.housing.tree ∷ described) described_trees a.now e.now refl (touched_then (tables.unit.tree ∷ gone) described a.now d.now e.now first only))
              (last.only clean))
              last.leaves.goes;
          goes = on_ok_then r (Goes d e) (Goes a e) (goes_then went) last.leaves.goes;
          aborts = on_err_then r (IsAborted d e) (IsAborted a e) (cut_then went.on) last.leaves.aborts;
          faults = λ o k it may kept. excused_then _ went.on r last.leaves.aborts (λ before_d.
              let told = descriptions_in v a.now o k it in
              let before_b = early cleared.leaves.goes.on.crash before_d in
              let wrote = leveled.rows before_b it.units.units it.units.rows it.units.rise in
              let only = wrote.only in
              let here = same_descriptions a.now.trees b.now.trees told (only tables.element.tree refl refl) (only tables.container.tree refl refl) (only tables.housing.tree refl refl) (descriptions_shown v a.now o k it may.knows) in
              let still = cleared.only before_d in
              let listed = sym (list_any-IsPermutation (has_id unit) (nodes k.forest) it.units.units it.units.are) ∙ may.there in
              let known = unit_valued d.now.trees unit values it.units.units (still tables.unit.tree refl refl ∙ wrote.are) listed in
              last.faults (descriptions_of_others unit told) (cleared.makes before_d told here) (
                known,
                kept.1,
                none_left (λ (x : ElementRow). nat_eq unit x.unit) told.elements,
                none_left (λ (x : HousingRow). nat_eq unit x.unit) told.housed.rows,
              ));
        };
        spares = λ clean. last_touched described_trees a d e went.on
            (λ at_d. touched_wider (tables.unit.tree ∷ gone) described_trees a.now d.now refl (touched_then level gone a.now b.now d.now (leveled.only (early cleared.leaves.goes.on.crash at_d)) (cleared.only at_d))) r last.leaves.aborts clean
            (wider_last described described_trees d e r refl (last.leaves.spares clean));
      };
    }
