-- The catalogue's tables beside the places: what they show as the office's row and the next number change by themselves.
use Rattle.std.proofs.Common.{◌≡◌, ℕ, true, not, List, [], ◌∷◌, Option, None, Result, Ok, OnOk, refl, sym, subst, ◌∙◌}
use Rattle.sqlite_trees.specs.declared.store.Store as store
use Rattle.catalogue_core.specs.Bounds.{IsKept}
use Rattle.office_tables.specs.Schema as tables
use Rattle.catalogue_statements.specs.Values.{RepresentsValues}
use Rattle.catalogue_store.specs.ImportEntries.{with_entered}
use Rattle.catalogue_store.specs.UnitValues.{values_of_unit}
use Rattle.catalogue_store.specs.declared.unit_values.UnitValues.{UnitValues}
use Rattle.refinement.proofs.Frames.{are_apart, untouched}
use Rattle.csv_import.proofs.Common.{Answers, AreWhole, Bytes, Catalogue, Database, Forest, HasCleanDisk, HasPlaceFor}
use Rattle.csv_import.proofs.Common.{HasRows, Held, IsNew, KnowsItsContainers, MayChange, MayCome, MayDescribe}
use Rattle.csv_import.proofs.Common.{OfficeRow, OnlyTouches, RepresentsCatalogue, RepresentsEntering}
use Rattle.csv_import.proofs.Common.{RepresentsNumbered, RepresentsOffice, Row, StoreFault, Trees, Unit, Updates}
use Rattle.csv_import.proofs.Common.{Values, Version, all_places, catalogue_trees, described_trees, each, new_at}
use Rattle.csv_import.proofs.Common.{office_row, state, touched_then, touched_wider, with_new, with_unit, with_values}
use Rattle.csv_import.proofs.Common.{⊤}
use Rattle.csv_import.proofs.OneRow.{unit_comes}

-- the catalogue with another number as the next
abbrev pub at_next : ℕ → Catalogue → Catalogue
at_next n c = record c { next = n }

-- before a row is entered
pub entering_of : (version : Version) (db : Database) (o : OfficeRow) (c : Catalogue)
    → RepresentsCatalogue version db o c → RepresentsEntering version db o c
entering_of version db o c it = subst (λ n. RepresentsCatalogue version db o (record c { next = n })) (sym it.next) it

pub kept_at : (n : ℕ) (c : Catalogue) → IsKept c → IsKept (at_next n c)
kept_at n c it = record { places = it.places; units = it.units; boxes = it.boxes; few_boxes = it.few_boxes }

pub knows_at : (n : ℕ) (c : Catalogue) → KnowsItsContainers c → KnowsItsContainers (at_next n c)
knows_at n c it = record { apart = it.apart; known = it.known }

pub describes_at : (n id : ℕ) (c : Catalogue) → MayDescribe id c → MayDescribe id (at_next n c)
describes_at n id c it = record { knows = knows_at n c it.knows; there = it.there }

pub new_at_next : (n : ℕ) (u : Unit) (c : Catalogue) → IsNew u c → IsNew u (at_next n c)
new_at_next n u c it = record { number = it.number; origin = it.origin; whole = it.whole }

-- other tables are written
module _ (old new : Database) (touched : List ℕ) (only : OnlyTouches touched old new) where
  pub described_kept : are_apart touched described_trees ≡ true → new.schema ≡ old.schema
      → (version : Version) (o p : OfficeRow) (c : Catalogue) (n : ℕ) → RepresentsOffice version new.trees p
      → p.next_unit ≡ n
      → RepresentsCatalogue version old o c → RepresentsCatalogue version new p (record c { next = n })
  described_kept apart schema version o p c n office next it =
      let kept = untouched touched old new only described_trees apart in
      record {
        schema_is = schema ∙ it.schema_is;
        office = office;
        next = next;
        units = record { units = it.units.units; rows = kept.0 ∙ it.units.rows; rise = it.units.rise; are = it.units.are };
        elements = record {
          elements = it.elements.elements;
          rows = subst (λ rows. Rattle.office_tables.specs.RowNumbers.HasNumbered Rattle.catalogue_statements.specs.Rows.element_row rows it.elements.elements) (sym kept.1.0) it.elements.rows;
          are = it.elements.are;
          others = it.elements.others;
        };
        containers = kept.1.1.0 ∙ it.containers;
        housings = record {
          housings = it.housings.housings;
          rows = subst (λ rows. Rattle.office_tables.specs.RowNumbers.HasNumbered Rattle.catalogue_statements.specs.Rows.housing_row rows it.housings.housings) (sym kept.1.1.1.0) it.housings.rows;
          are = it.housings.are;
          others = it.housings.others;
        };
      }

-- the tables before, where the next number is the catalogue's
abbrev pub counted : OfficeRow → Catalogue → OfficeRow
counted o c = record o { next_unit = c.next }

-- the places are written first
pub placed_first : {places : Trees → Forest ℕ → Type 0} {version : Version} {old : Database} (new : Database) (o : OfficeRow) {c : Catalogue}
    → RepresentsNumbered places version old o c → OnlyTouches (tables.link.tree ∷ []) old new → new.schema ≡ old.schema
    → RepresentsEntering version new (counted o c) c
placed_first {version = version} {old = old} new o {c = c} it only schema =
    described_kept old new (tables.link.tree ∷ []) only refl schema version (counted o c) (counted o c) c c.next (only tables.office.tree refl refl ∙ it.catalogue.office) refl it.catalogue

-- and the next number last
pub counted_last : {places : Trees → Forest ℕ → Type 0} {version : Version} (old new : Database) (o : OfficeRow) (c d : Catalogue) {next : ℕ}
    → RepresentsEntering version old (counted o c) d
    → HasRows tables.office.tree (office_row version (record o { next_unit = next }) ∷ []) old new
    → new.schema ≡ old.schema → next ≡ d.next → places new.trees (each (λ (u : Unit). u.id) d.forest)
    → RepresentsNumbered places version new o d
counted_last {version = version} old new o c d it wrote schema number stand = record {
  catalogue = described_kept old new (tables.office.tree ∷ []) wrote.only refl schema version (counted o c) (counted o d) (at_next c.next d) d.next (subst (λ n. new.trees tables.office.tree ≡ office_row version (record o { next_unit = n }) ∷ []) number wrote.are) refl it;
  shown = stand;
}

-- so only the catalogue's tables are touched
pub all_touched : (a b c d : Database) → OnlyTouches (tables.link.tree ∷ []) a b → OnlyTouches described_trees b c
    → OnlyTouches (tables.office.tree ∷ []) c d → OnlyTouches catalogue_trees a d
all_touched a b c d placed entered counted_so =
    touched_wider (tables.link.tree ∷ tables.unit.tree ∷ tables.element.tree ∷ tables.container.tree ∷ tables.housing.tree ∷ tables.office.tree ∷ []) catalogue_trees a d refl
    (touched_then (tables.link.tree ∷ described_trees) (tables.office.tree ∷ []) a c d (touched_then (tables.link.tree ∷ []) described_trees a b c placed entered) counted_so)

-- a call on the catalogue's tables while rows are entered
pub makes_entering : {S X : Type 0} (g : store.Ghosts S) (version : Version) (kept may kept_then may_then : Catalogue → Type 0) (made made_then : Catalogue → Catalogue) (touched : List ℕ) (before after : Held S) (r : Result X StoreFault)
    → ((n : ℕ) (c : Catalogue) → may c → kept_then (at_next n c) × may_then (at_next n c))
    → ((n : ℕ) (c : Catalogue) → may c → made_then (at_next n c) ≡ at_next n (made c))
    → Updates g touched (RepresentsCatalogue version) before after r may_then kept_then made_then
    → Updates g touched (RepresentsEntering version) before after r may kept made
makes_entering g version kept may kept_then may_then made made_then touched before after r serves same it =
    let new = state g after in
    record {
      represents_updated = λ clean o c shown allowed.
          subst (λ (d : Catalogue). OnOk r (RepresentsCatalogue version new.now o d)) (same o.next_unit c allowed) (it.represents_updated clean o (at_next o.next_unit c) shown (serves o.next_unit c allowed).1);
      only = it.only;
      goes = it.goes;
      aborts = it.aborts;
      faults = λ o c shown allowed within. (let so = serves o.next_unit c allowed in it.faults o (at_next o.next_unit c) shown so.1 so.0);
    }

-- a known unit gets values
pub makes_valued : {S X : Type 0} {g : store.Ghosts S} {version : Version} {before after : Held S} {r : Result X StoreFault} (unit : ℕ) (values : Values)
    → Updates g described_trees (RepresentsCatalogue version) before after r (MayDescribe unit) (λ c. IsKept c × AreWhole values) (with_values unit values)
    → Updates g described_trees (RepresentsEntering version) before after r (MayChange unit values) (λ _. ⊤) (with_values unit values)
makes_valued {g = g} {version = version} {before = before} {after = after} {r = r} unit values it =
    makes_entering g version (λ _. ⊤) (MayChange unit values) (λ c. IsKept c × AreWhole values) (MayDescribe unit) (with_values unit values) (with_values unit values) described_trees before after r
    (λ n c allowed. ((kept_at n c allowed.kept, allowed.whole), describes_at n unit c allowed.there)) (λ n c allowed. refl) it

-- its values are read
pub values_told : {S : Type 0} {g : store.Ghosts S} {version : Version} {before after : Held S} {found : Option UnitValues} {unit : ℕ} {values : Values} {o : OfficeRow} {c : Catalogue}
    → MayChange unit values c
    → Answers g RepresentsValues before after (Ok found) KnowsItsContainers IsKept (λ _ c found. found ≡ values_of_unit unit c)
    → HasCleanDisk (state g after) → RepresentsEntering version (state g before).now o c
    → found ≡ values_of_unit unit c
values_told {version = version} {o = o} {c = c} may told clean it =
    told.answers clean o (at_next o.next_unit c) (record { version = version; catalogue = it; places = all_places c may.units })

-- the unit of a row, by the number that it gets
abbrev pub unit_at : Bytes → Row → ℕ → Unit
unit_at source row next =
    record { id = next; source = source; legacy = row.legacy; values = row.values; draft = not row.published; until = None }

-- it is entered, wherever it stands
pub makes_new : {S X : Type 0} (g : store.Ghosts S) (version : Version) (source : Bytes) (row : Row) (next : ℕ) (before after : Held S) (r : Result X StoreFault)
    → ((parent : Option ℕ) → Updates g described_trees (RepresentsCatalogue version) before after r (HasPlaceFor parent) (λ c. IsKept c × IsNew (unit_at source row next) c) (with_entered parent (unit_at source row next)))
    → Updates g described_trees (RepresentsEntering version) before after r (MayCome source row next) (λ _. ⊤) (with_new source row)
makes_new g version source row next before after r it =
    let new = state g after in
    let any = it None in
    record {
      represents_updated = λ clean o c shown may.
          let parent = (new_at c source row).parent in
          let is = unit_comes source row next c may.number in
          subst (λ (u : Unit). OnOk r (RepresentsCatalogue version new.now o (record (with_unit parent u c) { next = o.next_unit }))) is
          ((it parent).represents_updated clean o (at_next o.next_unit c) shown (record { knows = knows_at o.next_unit c may.place.knows; place = may.place.place }));
      only = any.only;
      goes = any.goes;
      aborts = any.aborts;
      faults = λ o c shown may within.
          let parent = (new_at c source row).parent in
          let is = unit_comes source row next c may.number in
          (it parent).faults o (at_next o.next_unit c) shown (record { knows = knows_at o.next_unit c may.place.knows; place = may.place.place })
          (kept_at o.next_unit c may.kept, new_at_next o.next_unit (unit_at source row next) c (subst (λ (u : Unit). IsNew u c) (sym is) may.new));
    }
