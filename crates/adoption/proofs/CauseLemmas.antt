-- The checks of the parts, one after another, tell the least cause.
use Rattle.std.proofs.Common.{◌≡◌, ℕ, List, [], ◌∷◌, Bool, true, false, cond, ◌||◌, Option, Some, None, option_map}
use Rattle.std.proofs.Common.{unwrap_or, inl, inr, refl, sym, ap, ◌∙◌}
use Rattle.office_tables.specs.Schema as tables
use Rattle.integrity_checks.specs.CatalogueChecks.{cause_of, catalogue_defect, units_are_defective}
use Rattle.integrity_checks.specs.CatalogueChecks.{elements_are_defective, containers_are_defective}
use Rattle.integrity_checks.specs.DeskChecks as desk
use Rattle.integrity_checks.specs.PlaceChecks.{places_are_defective}
use Rattle.integrity_checks.specs.declared.catalogue_defect.CatalogueDefect.{CatalogueDefect}
use Rattle.integrity_checks.specs.declared.catalogue_defect.CatalogueDefect.TheVariants.{Places, Units, Elements}
use Rattle.integrity_checks.specs.declared.catalogue_defect.CatalogueDefect.TheVariants.{Containers}
use Rattle.integrity_checks.specs.declared.desk_defect.DeskDefect.{DeskDefect}
use Rattle.adoption.specs.Causes.{CatalogueChecksTellTheCause}
use Rattle.adoption.proofs.Common.{AreGoodTables, AreOfOffice, Database, First, HasGoodCatalogueTables, OfficeRows}
use Rattle.adoption.proofs.Common.{OwnRow, Second, Trees, Version, around, cases_Bool, catalogue_cell_cause, cell_cause}
use Rattle.adoption.proofs.Common.{containers_are_bad, day_is_broken, elements_are_bad, encoding, first_held}
use Rattle.adoption.proofs.Common.{has_unread, is_between, of_desk, office_is_defective, own_of, own_row_of}
use Rattle.adoption.proofs.Common.{places_are_bad, places_are_unread, read_container, read_element, read_housing}
use Rattle.adoption.proofs.Common.{read_unit, rows_in, units_are_bad}
use Rattle.adoption.proofs.DeskChecked.{told_alike}

-- ---- 2 to 5

found : (b2 b3 b4 b5 : Bool)
    → option_map cause_of (cond b2 (Some Places) (cond b3 (Some Units) (cond b4 (Some Elements) (cond b5 (Some Containers) None))))
    ≡ first_held (false ∷ b2 ∷ b3 ∷ b4 ∷ b5 ∷ [])
found true b3 b4 b5 = refl
found false true b4 b5 = refl
found false false true b5 = refl
found false false false true = refl
found false false false false = refl

module _ (db : Trees) where
  -- both lists are of the same rows
  catalogue_alike : (version : Version) → catalogue_cell_cause version db
      ≡ first_held (office_is_defective version db ∷ places_are_defective (encoding version) db ∷ units_are_defective version (rows_in version db).office.next_unit db
      ∷ elements_are_defective version db ∷ containers_are_defective version db ∷ [])
  catalogue_alike First = refl
  catalogue_alike Second = refl

  pub catalogue_told : (version : Version) → CatalogueChecksTellTheCause version db
  catalogue_told version fine =
      let b2 = places_are_defective (encoding version) db in
      let b3 = units_are_defective version (rows_in version db).office.next_unit db in
      let b4 = elements_are_defective version db in
      let b5 = containers_are_defective version db in
      found b2 b3 b4 b5 ∙ ap (λ b. first_held (b ∷ b2 ∷ b3 ∷ b4 ∷ b5 ∷ [])) (sym fine) ∙ sym (catalogue_alike version)

-- ---- all ten

-- the first of five is the first of ten
first_of_five : (b1 b2 b3 b4 b5 : Bool) (more : List Bool) (n : ℕ) → first_held (b1 ∷ b2 ∷ b3 ∷ b4 ∷ b5 ∷ []) ≡ Some n
    → first_held (b1 ∷ b2 ∷ b3 ∷ b4 ∷ b5 ∷ more) ≡ Some n
first_of_five true b2 b3 b4 b5 more n h = h
first_of_five false true b3 b4 b5 more n h = h
first_of_five false false true b4 b5 more n h = h
first_of_five false false false true b5 more n h = h
first_of_five false false false false true more n h = h
first_of_five false false false false false more n h = absurd (cc)

-- the tenth is left
tenth : (b1 b2 b3 b4 b5 b6 b7 b8 b9 b10 : Bool) → first_held (b1 ∷ b2 ∷ b3 ∷ b4 ∷ b5 ∷ []) ≡ None
    → of_desk (first_held (b1 ∷ b2 ∷ b3 ∷ b4 ∷ b5 ∷ b6 ∷ b7 ∷ b8 ∷ b9 ∷ b10 ∷ [])) ≡ None
    → first_held (b1 ∷ b2 ∷ b3 ∷ b4 ∷ b5 ∷ b6 ∷ b7 ∷ b8 ∷ b9 ∷ b10 ∷ []) ≡ cond b10 (Some 10) None
tenth true b2 b3 b4 b5 b6 b7 b8 b9 b10 none rest = absurd (cc)
tenth false true b3 b4 b5 b6 b7 b8 b9 b10 none rest = absurd (cc)
tenth false false true b4 b5 b6 b7 b8 b9 b10 none rest = absurd (cc)
tenth false false false true b5 b6 b7 b8 b9 b10 none rest = absurd (cc)
tenth false false false false true b6 b7 b8 b9 b10 none rest = absurd (cc)
tenth false false false false false true b7 b8 b9 b10 none rest = absurd (cc)
tenth false false false false false false true b8 b9 b10 none rest = absurd (cc)
tenth false false false false false false false true b9 b10 none rest = absurd (cc)
tenth false false false false false false false false true b10 none rest = absurd (cc)
tenth false false false false false false false false false true none rest = refl
tenth false false false false false false false false false false none rest = refl

some_of_desk : (o : Option ℕ) (n : ℕ) → Some n ≡ of_desk o → o ≡ Some n
some_of_desk None n h = absurd (cc)
some_of_desk (Some m) n h = at (is_between 6 9 m) h
  where
    at : (b : Bool) → Some n ≡ cond b (Some m) None → Some m ≡ Some n
    at true h = sym h
    at false h = absurd (cc)

module _ (version : Version) (db : Trees) where
  abbrev t : OfficeRows
  t = rows_in version db

  abbrev b2 : Bool
  b2 = places_are_unread (encoding version) db || places_are_bad (encoding version) t.catalogue

  abbrev b3 : Bool
  b3 = has_unread read_unit (db tables.unit.tree) || units_are_bad t.office.next_unit t.catalogue

  abbrev b4 : Bool
  b4 = has_unread read_element (db tables.element.tree) || elements_are_bad t.catalogue

  abbrev b5 : Bool
  b5 = (has_unread read_container (db tables.container.tree) || has_unread read_housing (db tables.housing.tree)) || containers_are_bad t.catalogue

  abbrev b6 : Bool
  b6 = desk.registration_is_defective (around t) db

  abbrev b7 : Bool
  b7 = desk.orders_are_defective (around t) db

  abbrev b8 : Bool
  b8 = desk.holdings_are_defective (around t) db

  abbrev b9 : Bool
  b9 = desk.runs_are_defective (around t) db

  -- the office's own row is the first
  pub cause_of_office : office_is_defective version db ≡ true → cell_cause version db ≡ Some 1
  cause_of_office bad = ap (λ b. first_held (b ∷ b2 ∷ b3 ∷ b4 ∷ b5 ∷ b6 ∷ b7 ∷ b8 ∷ b9 ∷ day_is_broken t ∷ [])) bad

  pub cause_of_catalogue : (defect : CatalogueDefect) → office_is_defective version db ≡ false
      → catalogue_defect version (rows_in version db).office.next_unit db ≡ Some defect
      → cell_cause version db ≡ Some (cause_of defect)
  cause_of_catalogue defect fine is =
      first_of_five (office_is_defective version db) b2 b3 b4 b5 (b6 ∷ b7 ∷ b8 ∷ b9 ∷ day_is_broken t ∷ []) (cause_of defect) (sym (catalogue_told db version fine) ∙ ap (option_map cause_of) is)

  pub no_cause_of_catalogue : office_is_defective version db ≡ false
      → catalogue_defect version (rows_in version db).office.next_unit db ≡ None
      → catalogue_cell_cause version db ≡ None
  no_cause_of_catalogue fine is = sym (catalogue_told db version fine) ∙ ap (option_map cause_of) is

  pub cause_of_desk : (defect : DeskDefect) (told : Option DeskDefect) → told ≡ Some defect
      → option_map desk.cause_of told ≡ of_desk (cell_cause version db)
      → cell_cause version db ≡ Some (desk.cause_of defect)
  cause_of_desk defect told is alike =
      some_of_desk (cell_cause version db) (desk.cause_of defect) (ap (option_map desk.cause_of) (sym is) ∙ alike)

  pub no_cause_of_desk : (told : Option DeskDefect) → told ≡ None
      → option_map desk.cause_of told ≡ of_desk (cell_cause version db) → of_desk (cell_cause version db) ≡ None
  no_cause_of_desk told is alike = sym alike ∙ ap (option_map desk.cause_of) is

  last_cause : catalogue_cell_cause version db ≡ None → of_desk (cell_cause version db) ≡ None
      → cell_cause version db ≡ cond (day_is_broken (rows_in version db)) (Some 10) None
  last_cause catalogue others =
      tenth (office_is_defective version db) b2 b3 b4 b5 b6 b7 b8 b9 (day_is_broken t) catalogue others

  pub broken_day : catalogue_cell_cause version db ≡ None → of_desk (cell_cause version db) ≡ None
      → day_is_broken (rows_in version db) ≡ true → cell_cause version db ≡ Some 10
  broken_day catalogue others is = last_cause catalogue others ∙ ap (λ b. cond b (Some 10) None) is

  pub kept_day : catalogue_cell_cause version db ≡ None → of_desk (cell_cause version db) ≡ None
      → day_is_broken (rows_in version db) ≡ false → cell_cause version db ≡ None
  kept_day catalogue others is = last_cause catalogue others ∙ ap (λ b. cond b (Some 10) None) is

  -- ---- by the office's own row

  pub no_own_row : None ≡ own_row_of version db → cell_cause version db ≡ Some 1
  no_own_row none = elim (cases_Bool (office_is_defective version db)) [
    | inl bad ↦ cause_of_office bad
    | inr fine ↦ absurd (let clash : None ≡ Some (own_of (rows_in version db).office) = none ∙ ap (λ b. cond b None (Some (own_of (rows_in version db).office))) fine in cc)
  ]

  pub own_row_is_fine : (own : OwnRow) → Some own ≡ own_row_of version db → office_is_defective version db ≡ false
  own_row_is_fine own some = elim (cases_Bool (office_is_defective version db)) [
    | inl bad ↦ absurd (let clash : Some own ≡ None = some ∙ ap (λ b. cond b None (Some (own_of (rows_in version db).office))) bad in cc)
    | inr fine ↦ fine
  ]

  pub own_row_is : (own : OwnRow) → Some own ≡ own_row_of version db → own ≡ own_of (rows_in version db).office
  own_row_is own some =
      ap (λ o. unwrap_or o own) (some ∙ ap (λ b. cond b None (Some (own_of (rows_in version db).office))) (own_row_is_fine own some))

  pub own_limits : (own : OwnRow) → Some own ≡ own_row_of version db
      → AreOfOffice (rows_in version db).office own.limits own.today
  own_limits own some =
      let is = own_row_is own some in
      record {
        seats = ap (λ (o : OwnRow). o.limits.seats) is;
        daily = ap (λ (o : OwnRow). o.limits.daily) is;
        run_size = ap (λ (o : OwnRow). o.limits.run) is;
        day = ap (λ (o : OwnRow). o.today) is;
      }

  -- ---- the checks, one after another

  module _ (own : OwnRow) (is : Some own ≡ own_row_of version db) where
    next_is : own.next_unit ≡ (rows_in version db).office.next_unit
    next_is = ap (λ (o : OwnRow). o.next_unit) (own_row_is own is)

    pub told_catalogue : (defect : CatalogueDefect) → Some defect ≡ catalogue_defect version own.next_unit db
        → cell_cause version db ≡ Some (cause_of defect)
    told_catalogue defect told =
        cause_of_catalogue defect (own_row_is_fine own is) (sym (told ∙ ap (λ n. catalogue_defect version n db) next_is))

    pub fine_catalogue : None ≡ catalogue_defect version own.next_unit db → catalogue_cell_cause version db ≡ None
    fine_catalogue told = no_cause_of_catalogue (own_row_is_fine own is) (sym (told ∙ ap (λ n. catalogue_defect version n db) next_is))

    module _ (fine : catalogue_cell_cause version db ≡ None) where
      alike : option_map desk.cause_of (desk.desk_defect own.limits own.today db) ≡ of_desk (cell_cause version db)
      alike = told_alike version db own.limits own.today (own_limits own is) fine

      pub told_desk : (defect : DeskDefect) → Some defect ≡ desk.desk_defect own.limits own.today db
          → cell_cause version db ≡ Some (desk.cause_of defect)
      told_desk defect told = cause_of_desk defect (desk.desk_defect own.limits own.today db) (sym told) alike

      fine_desk : None ≡ desk.desk_defect own.limits own.today db → of_desk (cell_cause version db) ≡ None
      fine_desk told = no_cause_of_desk (desk.desk_defect own.limits own.today db) (sym told) alike

pub good_tables : (version : Version) (db : Database) (own : OwnRow) → HasGoodCatalogueTables version own db
    → None ≡ desk.desk_defect own.limits own.today db.trees → AreGoodTables version db
good_tables version db own it told = record {
  schema_is = it.schema_is;
  live = it.live;
  ordered = it.ordered;
  catalogue = it.catalogue;
  desk = fine_desk version db.trees own (sym it.own_row) it.catalogue told;
}
