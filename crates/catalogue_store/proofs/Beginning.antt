-- What a new office shows.
use Rattle.std.proofs.Common.{◌≡◌, ℕ, [], refl, ap, ◌∙◌}
use Rattle.sqlite.specs.Change.{KeepsRows}
use Rattle.office_tables.specs.Creation.{HasMade}
use Rattle.office_tables.specs.Schema.{schema, desk_tables}
use Rattle.office_tables.specs.Schema as tables
use Rattle.catalogue_store.proofs.Common.{Database, Empty, Forest, IsPermutation-refl, OfficeRow, PutsRow, Represents}
use Rattle.catalogue_store.proofs.Common.{Trees, Version, element_row, housing_row, none_there, office_row, put_row}

pub shows_beginning : (v : Version) (represents : Trees → Forest ℕ → Type 0)
    → ((old new : Trees) (f : Forest ℕ) → new tables.link.tree ≡ old tables.link.tree → represents old f → represents new f)
    → (start mid new : Database) (o : OfficeRow) → HasMade desk_tables (schema v) start mid → new.schema ≡ mid.schema
    → PutsRow tables.office.tree (office_row v o) mid new → represents mid.trees Empty
    → Represents represents v new o (record { forest = Empty; containers = []; next = o.next_unit })
shows_beginning v represents same start mid new o made schema_is puts placed =
    let none = made.empty in
    let kept = puts.only in
    record {
      catalogue = record {
        schema_is = schema_is ∙ made.schema_is;
        office = puts.rows ∙ ap (put_row (office_row v o)) none.0;
        next = refl;
        units = record { units = []; rows = kept tables.unit.tree refl refl ∙ none.1.0; rise = tt; are = IsPermutation-refl [] };
        elements = record { elements = []; rows = none_there element_row (new.trees tables.element.tree) (kept tables.element.tree refl refl ∙ none.1.1.0); are = tt; others = tt };
        containers = kept tables.container.tree refl refl ∙ none.1.1.1.0;
        housings = record { housings = []; rows = none_there housing_row (new.trees tables.housing.tree) (kept tables.housing.tree refl refl ∙ none.1.1.1.1.0); are = tt; others = tt };
      };
      shown = same mid.trees new.trees Empty (kept tables.link.tree refl refl) placed;
    }

pub desk_kept : (v : Version) (start mid new : Database) (o : OfficeRow) → HasMade desk_tables (schema v) start mid
    → PutsRow tables.office.tree (office_row v o) mid new → KeepsRows desk_tables start.trees new.trees
desk_kept v start mid new o made puts =
    let kept = made.kept in
    let only = puts.only in
    (only tables.reader.tree refl refl ∙ kept.0, (only tables.seat.tree refl refl ∙ kept.1.0, (only tables.orders.tree refl refl ∙ kept.1.1.0, (only tables.holding.tree refl refl ∙ kept.1.1.1.0, (only tables.run.tree refl refl ∙ kept.1.1.1.1.0, (only tables.run_line.tree refl refl ∙ kept.1.1.1.1.1.0, (only tables.permit.tree refl refl ∙ kept.1.1.1.1.1.1.0, tt)))))))
