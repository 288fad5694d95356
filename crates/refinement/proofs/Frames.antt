-- What a call that touches some tables leaves of the others: the catalogue's part, and the desk's.
use Rattle.std.proofs.Common.{◌≡◌, ℕ, ℤ, Bool, true, false, not, ◌&&◌, nat_eq, List, [], ◌∷◌, refl, sym, subst, ◌∙◌}
use Rattle.sqlite.specs.Order.{Row}
use Rattle.desk_core.specs.DeskRows.{Desk}
use Rattle.office_tables.specs.Schema as tables
use Rattle.refinement.proofs.Common.{AllByRecursion, Catalogue, Database, Forest, HasNumbered, OfficeRow, OnlyTouches}
use Rattle.refinement.proofs.Common.{Represents, RepresentsDesk, RepresentsOffice, Trees, Version, and_parts}
use Rattle.refinement.proofs.Common.{catalogue_trees, described_trees, each, list_all, list_any, table_trees}

-- the trees of the desk's tables
abbrev pub desk_trees : List ℕ
desk_trees =
    tables.reader.tree ∷ tables.seat.tree ∷ tables.orders.tree ∷ tables.holding.tree ∷ tables.run.tree ∷ tables.run_line.tree
    ∷ tables.permit.tree ∷ []

-- these are trees of our tables, and the call touches none of them
abbrev pub are_apart : List ℕ → List ℕ → Bool
are_apart touched trees =
    list_all (λ tree. list_any (nat_eq tree) table_trees && not (list_any (nat_eq tree) touched)) trees

not_true : (b : Bool) → not b ≡ true → b ≡ false
not_true true h = absurd (cc)
not_true false h = refl

pub untouched : (touched : List ℕ) (old new : Database) → OnlyTouches touched old new → (trees : List ℕ)
    → are_apart touched trees ≡ true
    → AllByRecursion (λ tree. new.trees tree ≡ old.trees tree) trees
untouched touched old new only [] h = tt
untouched touched old new only (tree ∷ trees) h =
    let parts = and_parts (list_any (nat_eq tree) table_trees && not (list_any (nat_eq tree) touched)) (are_apart touched trees) h in
    let here = and_parts (list_any (nat_eq tree) table_trees) (not (list_any (nat_eq tree) touched)) parts.0 in
    (only tree here.0 (not_true (list_any (nat_eq tree) touched) here.1), untouched touched old new only trees parts.1)

numbered_same : {R : Type 0} (cells : ℤ × R → Row) (there now : List Row) (rows : List R) → now ≡ there
    → HasNumbered cells there rows → HasNumbered cells now rows
numbered_same cells there now rows same has = subst (λ l. HasNumbered cells l rows) (sym same) has

module _ (old new : Database) (touched : List ℕ) (only : OnlyTouches touched old new) where
  -- the office's own row may be another
  pub catalogue_with_office : (places : Trees → Forest ℕ → Type 0)
      → ((old new : Trees) (f : Forest ℕ) → new tables.link.tree ≡ old tables.link.tree → places old f → places new f)
      → (version : Version) (o p : OfficeRow) (c : Catalogue)
      → are_apart touched (tables.link.tree ∷ described_trees) ≡ true → new.schema ≡ old.schema
      → RepresentsOffice version new.trees p → p.next_unit ≡ c.next → Represents places version old o c
      → Represents places version new p c
  catalogue_with_office places same version o p c apart schema office next it =
      let kept = untouched touched old new only (tables.link.tree ∷ described_trees) apart in
      let k = it.catalogue in
      record {
        catalogue = record {
          schema_is = schema ∙ k.schema_is;
          office = office;
          next = next;
          units = record { units = k.units.units; rows = kept.1.0 ∙ k.units.rows; rise = k.units.rise; are = k.units.are };
          elements = record {
            elements = k.elements.elements;
            rows = numbered_same _ _ _ _ kept.1.1.0 k.elements.rows;
            are = k.elements.are;
            others = k.elements.others;
          };
          containers = kept.1.1.1.0 ∙ k.containers;
          housings = record {
            housings = k.housings.housings;
            rows = numbered_same _ _ _ _ kept.1.1.1.1.0 k.housings.rows;
            are = k.housings.are;
            others = k.housings.others;
          };
        };
        shown = same old.trees new.trees (each (λ u. u.id) c.forest) kept.0 it.shown;
      }

  pub catalogue_kept : (places : Trees → Forest ℕ → Type 0)
      → ((old new : Trees) (f : Forest ℕ) → new tables.link.tree ≡ old tables.link.tree → places old f → places new f)
      → (version : Version) (o : OfficeRow) (c : Catalogue) → are_apart touched catalogue_trees ≡ true
      → new.schema ≡ old.schema → Represents places version old o c → Represents places version new o c
  catalogue_kept places same version o c apart schema it =
      let parts = and_parts _ (are_apart touched (tables.link.tree ∷ described_trees)) apart in
      let kept = untouched touched old new only catalogue_trees apart in
      catalogue_with_office places same version o o c parts.1 schema (kept.0 ∙ it.catalogue.office) it.catalogue.next it

  pub desk_kept : (d : Desk) → are_apart touched desk_trees ≡ true → RepresentsDesk old.trees d
      → RepresentsDesk new.trees d
  desk_kept d apart it =
      let kept = untouched touched old new only desk_trees apart in
      record {
        readers = kept.0 ∙ it.readers;
        tickets = it.tickets;
        few_tickets = it.few_tickets;
        seats = kept.1.0 ∙ it.seats;
        seats_rise = it.seats_rise;
        orders = kept.1.1.0 ∙ it.orders;
        order_numbers = it.order_numbers;
        few_orders = it.few_orders;
        holdings = kept.1.1.1.0 ∙ it.holdings;
        holdings_rise = it.holdings_rise;
        runs = kept.1.1.1.1.0 ∙ it.runs;
        run_numbers = it.run_numbers;
        few_runs = it.few_runs;
        run_lines = numbered_same _ _ _ _ kept.1.1.1.1.1.0 it.run_lines;
        line_runs = it.line_runs;
        permits = numbered_same _ _ _ _ kept.1.1.1.1.1.1.0 it.permits;
        permit_tickets = it.permit_tickets;
      }
