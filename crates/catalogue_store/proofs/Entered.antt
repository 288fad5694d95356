-- What the tables show after a unit is entered beside its place, and what they show with the places.
use Rattle.std.proofs.Common.{◌≡◌, ℕ, ◌+◌, true, false, cond, List, [], ◌∷◌, Option, Result, nat_eq, refl, sym, subst}
use Rattle.std.proofs.Common.{◌∙◌}
use Rattle.sqlite.specs.Edit.{is_taken}
use Rattle.sqlite_trees.specs.declared.store.Store as store
use Rattle.office_tables.specs.Schema as tables
use Rattle.catalogue_statements.proofs.NewUnits.{shows_added}
use Rattle.catalogue_store.specs.ImportEntries.{with_entered}
use Rattle.catalogue_store.proofs.Common.{Catalogue, Database, ElementRow, Forest, Held, HousingRow, IsDescribed}
use Rattle.catalogue_store.proofs.Common.{KnowsItsContainers, OfficeRow, OnlyTouches, Represents, RepresentsCatalogue}
use Rattle.catalogue_store.proofs.Common.{StoreFault, StoreUpdates, Trees, Unit, Version, cells_of_unit, each, has_id}
use Rattle.catalogue_store.proofs.Common.{has_place, list_any, office_row, on_ok_both, put_row, state, ⊤}
use Rattle.catalogue_store.proofs.Telling.{same_described}

-- the tables tell of one unit more; the office's row is as it was
pub record HasEntered (old new : Database) (c : Catalogue) (u : Unit) (elements : List ElementRow) (housings : List HousingRow) : Type 0 where
  pub schema : new.schema ≡ old.schema
  pub office : new.trees tables.office.tree ≡ old.trees tables.office.tree
  pub units : new.trees tables.unit.tree ≡ put_row (cells_of_unit u) (old.trees tables.unit.tree)
  pub fresh : is_taken (old.trees tables.unit.tree) (cells_of_unit u) ≡ false
  pub described : IsDescribed u.id u.values c.containers elements housings new.trees

-- Units, texts and containers are told whatever the office's row is: so they are told as they are beside a row that
-- counts the unit.
pub shows_entered : (v : Version) (old new : Database) (o : OfficeRow) (c : Catalogue) (parent : Option ℕ) (u : Unit)
    → (it : RepresentsCatalogue v old o c) → has_place has_id parent c.forest ≡ true → KnowsItsContainers c
    → HasEntered old new c u it.elements.elements it.housings.housings
    → RepresentsCatalogue v new o (with_entered parent u c)
shows_entered v old new o c parent u it there knows wrote =
    let counted : Trees =
    λ tree. cond (nat_eq tree tables.office.tree) (office_row v (record o { next_unit = u.id + 1 }) ∷ []) (new.trees tree) in
    let beside : Database = record new { trees = counted } in
    let told = (shows_added v (λ _ _. ⊤) old beside o c parent u (record { catalogue = it; shown = tt }) there knows (record {
      schema = wrote.schema;
      office = refl;
      units = wrote.units;
      fresh = wrote.fresh;
      described = same_described new.trees counted u.id u.values c.containers it.elements.elements it.housings.housings refl refl refl wrote.described;
      shown = tt;
    })).catalogue in
    record {
      schema_is = wrote.schema ∙ it.schema_is;
      office = wrote.office ∙ it.office;
      next = it.next;
      units = record { units = told.units.units; rows = told.units.rows; rise = told.units.rise; are = told.units.are };
      elements = record { elements = told.elements.elements; rows = told.elements.rows; are = told.elements.are; others = told.elements.others };
      containers = told.containers;
      housings = record { housings = told.housings.housings; rows = told.housings.rows; are = told.housings.are; others = told.housings.others };
    }

-- a call that leaves the places, on tables that show them too
pub makes_placed : {S X : Type 0} (g : store.Ghosts S) (places : Trees → Forest ℕ → Type 0)
    → ((old new : Trees) (f : Forest ℕ) → new tables.link.tree ≡ old tables.link.tree → places old f → places new f)
    → (version : Version) (kept may : Catalogue → Type 0) (made : Catalogue → Catalogue) (touched : List ℕ) (before after : Held S) (r : Result X StoreFault)
    → list_any (nat_eq tables.link.tree) touched ≡ false
    → ((c : Catalogue) → each (λ (u : Unit). u.id) (made c).forest ≡ each (λ (u : Unit). u.id) c.forest)
    → StoreUpdates g touched (RepresentsCatalogue version) before after r may kept made
    → StoreUpdates g touched (Represents places version) before after r may kept made
makes_placed g places same version kept may made touched before after r apart stays it =
    let old = state g before in
    let new = state g after in
    record {
      call = record {
        represents_updated = λ clean o c shown allowed.
            on_ok_both r (RepresentsCatalogue version new.now o (made c)) (OnlyTouches touched old.now new.now) (Represents places version new.now o (made c))
            (λ told only. record {
              catalogue = told;
              shown = subst (places new.now.trees) (sym (stays c)) (same old.now.trees new.now.trees (each (λ (u : Unit). u.id) c.forest) (only tables.link.tree refl apart) shown.shown);
            })
            (it.represents_updated clean o c shown.catalogue allowed) (it.only clean);
        only = it.only;
        goes = it.goes;
        aborts = it.aborts;
        faults = λ o c shown. it.faults o c shown.catalogue;
      };
      spares = it.spares;
    }
