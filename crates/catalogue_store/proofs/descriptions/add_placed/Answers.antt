use Rattle.std.proofs.Common.{[], ◌∷◌, ◌+◌, Err, refl, sym, ap, ◌∙◌, nat_eq, arith}
use Rattle.office_tables.specs.Schema as tables
use Rattle.catalogue_statements.proofs.NewUnits.{no_unit, shows_added}
use Rattle.catalogue_store.proofs.Common.{ElementRow, Goes, HasRows, HousingRow, IsAborted, OnlyTouches}
use Rattle.catalogue_store.proofs.Common.{RepresentsNumbered, Unit, add, catalogue_trees, cut_after, cut_then, each}
use Rattle.catalogue_store.proofs.Common.{early, excused_then, goes_then, has-each, has_id, has_place-each, is_from}
use Rattle.catalogue_store.proofs.Common.{last_touched, list_any-IsPermutation, looks_nowhere, makes_cut, makes_not}
use Rattle.catalogue_store.proofs.Common.{nodes, none_yet, office_row, on_err_then, on_ok_by, on_ok_then, same_fault}
use Rattle.catalogue_store.proofs.Common.{spares_known, state, touched_then, touched_wider, unit_added, unit_of}
use Rattle.catalogue_store.proofs.Common.{untouched_last, wider_spares, with_numbered}
use Rattle.catalogue_store.proofs.Telling.{descriptions_in, descriptions_shown, same_described, same_descriptions}
use Rattle.catalogue_store.proofs.descriptions.add_placed.Goals as goal

pub returns-in_err-next : goal.returns-in_err-next
returns-in_err-next g c =
    let e = c.in_err-next.field-0.0 in
    let looked = looks_nowhere in
    record {
      updates = makes_not (same_fault c.from_residual.ensures ∙ ap Err c.in_err-next.ensures.fair)
          (cut_after looked.goes.on) (spares_known looked)
          (λ o k it may kept clean free.
          let small = kept.2 in absurd (omega (arith, small, c.in_err-next.ensures.great)));
    }

pub returns-in_err-insert_unit : goal.returns-in_err-insert_unit
returns-in_err-insert_unit g c =
    let u = unit_of c.args.unit.now in
    let e = c.in_err-insert_unit.field-0.0 in
    record {
      updates = makes_not (same_fault c.from_residual-in_err-insert_unit.ensures) c.in_err-insert_unit.ensures.leaves.aborts c.in_err-insert_unit.ensures.leaves.spares (λ o k it may kept clean free.
          let at = it.catalogue.units in
          c.in_err-insert_unit.ensures.faults at.units at.rows (
            sym (list_any-IsPermutation (has_id u.id) (nodes k.forest) at.units at.are) ∙ kept.1.number,
            sym (list_any-IsPermutation (is_from u.source u.legacy) (nodes k.forest) at.units at.are) ∙ kept.1.origin,
          ) clean free);
    }

pub returns-in_err-add : goal.returns-in_err-add
returns-in_err-add g c =
    let a = state g.S.Store c.args.tables.now in
    let b = state g.S.Store c.insert_unit.new.tables in
    let u = unit_of c.args.unit.now in
    record {
      updates = makes_cut (same_fault c.from_residual-in_err-add.ensures) c.in_ok-insert_unit.ensures.leaves.goes.on (λ at_b. touched_wider (tables.unit.tree ∷ []) catalogue_trees a.now b.now refl (c.in_ok-insert_unit.ensures.puts at_b).only) c.in_err-add.ensures.updates.aborts (λ clean. wider_spares (tables.link.tree ∷ []) catalogue_trees b (state g.S.Store c.add.new.tables) c.in_err-add.field-0.0 refl (c.in_err-add.ensures.updates.spares clean)) (λ o k it may kept at_b clean free.
          let ids = each (λ (x : Unit). x.id) k.forest in
          let only = (c.in_ok-insert_unit.ensures.puts at_b).only in
          let shown = g.met.P.Places.shows_same a.now.trees b.now.trees ids (only tables.link.tree refl refl) it.shown in
          c.in_err-add.ensures.updates.faults tt ids shown
          (has_place-each nat_eq (λ (x : Unit). x.id) c.args.parent k.forest ∙ may.place, has-each (nat_eq u.id) (λ (x : Unit). x.id) k.forest ∙ kept.1.number) kept.0.places clean free);
    }

pub returns-in_err-describe : goal.returns-in_err-describe
returns-in_err-describe g c =
    let a = state g.S.Store c.args.tables.now in
    let b = state g.S.Store c.insert_unit.new.tables in
    let d = state g.S.Store c.add.new.tables in
    let u = unit_of c.args.unit.now in
    let went = goes_then c.in_ok-insert_unit.ensures.leaves.goes c.in_ok-add.ensures.updates.goes in
    record {
      updates = makes_cut (same_fault c.from_residual-in_err-describe.ensures) went.on (λ at_d. touched_wider (tables.unit.tree ∷ tables.link.tree ∷ []) catalogue_trees a.now d.now refl
          (touched_then (tables.unit.tree ∷ []) (tables.link.tree ∷ []) a.now b.now d.now (c.in_ok-insert_unit.ensures.puts (early c.in_ok-add.ensures.updates.goes.on.crash at_d)).only (c.in_ok-add.ensures.updates.only at_d))) c.in_err-describe.ensures.leaves.aborts (λ clean. wider_spares (tables.element.tree ∷ tables.container.tree ∷ tables.housing.tree ∷ []) catalogue_trees d (state g.S.Store c.describe.new.tables) c.in_err-describe.field-0.0 refl (c.in_err-describe.ensures.leaves.spares clean)) (λ o k it may kept at_d clean free.
          let v = g.P.Versioned.version in
          let shown = record o { next_unit = k.next } in
          let at = it.catalogue in
          let told = descriptions_in v a.now shown k at in
          let at_b = early c.in_ok-add.ensures.updates.goes.on.crash at_d in
          let put = c.in_ok-insert_unit.ensures.puts at_b in
          let only = put.only in
          let aside = c.in_ok-add.ensures.updates.only at_d in
          let unit = unit_added a.now.trees d.now.trees u at.units.units at.units.rows (aside tables.unit.tree refl refl ∙ put.rows) in
          let here = same_descriptions a.now.trees d.now.trees told (aside tables.element.tree refl refl ∙ only tables.element.tree refl refl) (aside tables.container.tree refl refl ∙ only tables.container.tree refl refl) (aside tables.housing.tree refl refl ∙ only tables.housing.tree refl refl) (descriptions_shown v a.now shown k at may.knows) in
          c.in_err-describe.ensures.faults told here (
            unit,
            kept.1.whole,
            none_yet (λ (x : ElementRow). x.unit) u.id k.forest told.elements kept.1.number at.elements.others,
            none_yet (λ (h : HousingRow). h.unit) u.id k.forest told.housed.rows kept.1.number at.housings.others,
          ) clean free);
    }

pub returns : goal.returns
returns g c =
    let a = state g.S.Store c.args.tables.now in
    let b = state g.S.Store c.insert_unit.new.tables in
    let d = state g.S.Store c.add.new.tables in
    let e = state g.S.Store c.describe.new.tables in
    let h = state g.S.Store c.set_next_unit.new.tables in
    let v = g.P.Versioned.version in
    let represents = g.P.Places.represents in
    let same = g.met.P.Places.shows_same in
    let u = unit_of c.args.unit.now in
    let parent = c.args.parent in
    let r = c.set_next_unit.result in
    let added = c.in_ok-add.ensures.updates in
    let described = c.in_ok-describe.ensures in
    let numbered = rw c.in_ok-next.ensures.same at c.set_next_unit.ensures in
    let went = goes_then (goes_then c.in_ok-insert_unit.ensures.leaves.goes added.goes) described.leaves.goes in
    record {
      updates = record {
        call = record {
          represents_updated = λ clean o k it may.
              let before = record o { next_unit = k.next } in
              let at = it.catalogue in
              let rows = descriptions_in v a.now before k at in
              let ids = each (λ (x : Unit). x.id) k.forest in
              let grown = add nat_eq parent u.id ids in
              let shown = RepresentsNumbered represents v h.now o (with_numbered parent u k) in
              on_ok_by r (Goes e h) shown
              (λ last.
              let at_e = early last.on.crash clean in
              let at_d = early described.leaves.goes.on.crash at_e in
              let at_b = early added.goes.on.crash at_d in
              let put = c.in_ok-insert_unit.ensures.puts at_b in
              let kept = put.only in
              let new_id = no_unit a.now.trees k.forest at.units u put.fresh in
              let placed = added.represents_updated at_d tt ids (same a.now.trees b.now.trees ids (kept tables.link.tree refl refl) it.shown)
              (has_place-each nat_eq (λ (x : Unit). x.id) parent k.forest ∙ may.place, has-each (nat_eq u.id) (λ (x : Unit). x.id) k.forest ∙ new_id) in
              let aside = added.only at_d in
              let here = same_descriptions a.now.trees d.now.trees rows (aside tables.element.tree refl refl ∙ kept tables.element.tree refl refl) (aside tables.container.tree refl refl ∙ kept tables.container.tree refl refl) (aside tables.housing.tree refl refl ∙ kept tables.housing.tree refl refl) (descriptions_shown v a.now before k at may.knows) in
              let made = described.makes at_e rows here in
              let told = described.only at_e in
              let office = told tables.office.tree refl refl ∙ aside tables.office.tree refl refl ∙ kept tables.office.tree refl refl ∙ at.office in
              on_ok_then r (HasRows tables.office.tree (office_row v (record before { next_unit = u.id + 1 }) ∷ []) e.now h.now) shown
              (λ wrote. shows_added v represents a.now h.now before k parent u it may.place may.knows (record {
                schema = (goes_then went last).schema clean;
                office = wrote.are;
                units = wrote.only tables.unit.tree refl refl ∙ told tables.unit.tree refl refl ∙ aside tables.unit.tree refl refl ∙ put.rows;
                fresh = put.fresh;
                described = same_described e.now.trees h.now.trees u.id u.values rows.housed.boxes rows.elements rows.housed.rows (wrote.only tables.element.tree refl refl) (wrote.only tables.container.tree refl refl) (wrote.only tables.housing.tree refl refl) made;
                shown = same e.now.trees h.now.trees grown (wrote.only tables.link.tree refl refl) (same d.now.trees e.now.trees grown (told tables.link.tree refl refl) placed);
              }))
              (numbered.rows clean v before office))
              numbered.leaves.goes;
          only = λ clean.
              let unit = tables.unit.tree ∷ [] in
              let link = tables.link.tree ∷ [] in
              let told = tables.element.tree ∷ tables.container.tree ∷ tables.housing.tree ∷ [] in
              let office = tables.office.tree ∷ [] in
              let touched = OnlyTouches catalogue_trees a.now h.now in
              on_ok_by r (Goes e h) touched
              (λ last.
              let at_e = early last.on.crash clean in
              let at_d = early described.leaves.goes.on.crash at_e in
              let at_b = early added.goes.on.crash at_d in
              let two = touched_then unit link a.now b.now d.now (c.in_ok-insert_unit.ensures.puts at_b).only (added.only at_d) in
              let three = touched_then (tables.unit.tree ∷ link) told a.now d.now e.now two (described.only at_e) in
              on_ok_then r (OnlyTouches office e.now h.now) touched
              (λ only. touched_wider (tables.unit.tree ∷ tables.link.tree ∷ tables.element.tree ∷ tables.container.tree ∷ tables.housing.tree ∷ office) catalogue_trees a.now h.now refl
              (touched_then (tables.unit.tree ∷ tables.link.tree ∷ told) office a.now e.now h.now three only))
              (numbered.only clean))
              numbered.leaves.goes;
          goes = on_ok_then r (Goes e h) (Goes a h) (goes_then went) numbered.leaves.goes;
          aborts = on_err_then r (IsAborted e h) (IsAborted a h) (cut_then went.on) numbered.leaves.aborts;
          faults = λ o k it may kept. excused_then _ went.on r numbered.leaves.aborts (λ at_e.
              let before = record o { next_unit = k.next } in
              let at_d = early described.leaves.goes.on.crash at_e in
              let at_b = early added.goes.on.crash at_d in
              let only = (c.in_ok-insert_unit.ensures.puts at_b).only in
              let aside = added.only at_d in
              let told = described.only at_e in
              numbered.faults v before (told tables.office.tree refl refl ∙ aside tables.office.tree refl refl ∙ only tables.office.tree refl refl ∙ it.catalogue.office));
        };
        spares = λ clean. last_touched catalogue_trees a e h went.on
            (λ at_e.
            let unit = tables.unit.tree ∷ [] in
            let link = tables.link.tree ∷ [] in
            let told = tables.element.tree ∷ tables.container.tree ∷ tables.housing.tree ∷ [] in
            let at_d = early described.leaves.goes.on.crash at_e in
            let at_b = early added.goes.on.crash at_d in
            let two = touched_then unit link a.now b.now d.now (c.in_ok-insert_unit.ensures.puts at_b).only (added.only at_d) in
            touched_wider (tables.unit.tree ∷ tables.link.tree ∷ told) catalogue_trees a.now e.now refl (touched_then (tables.unit.tree ∷ link) told a.now d.now e.now two (described.only at_e)))
            r numbered.leaves.aborts clean (untouched_last catalogue_trees e h r (numbered.leaves.spares clean));
      };
    }
