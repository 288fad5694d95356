-- The first defect of the catalogue, part by part.
use Rattle.std.proofs.Common.{◌≡◌, ℕ, Bool, true, false, cond, not, ◌&&◌, ◌||◌, length, Option, Some, None, refl, sym}
use Rattle.std.proofs.Common.{ap, ◌∙◌}
use Rattle.office_tables.specs.Schema as tables
use Rattle.integrity_checks.specs.declared.catalogue_defect.CatalogueDefect.{CatalogueDefect}
use Rattle.integrity_checks.specs.declared.catalogue_defect.CatalogueDefect.TheVariants.{Places, Units, Elements}
use Rattle.integrity_checks.specs.declared.catalogue_defect.CatalogueDefect.TheVariants.{Containers}
use Rattle.integrity_checks.proofs.Common.{Trees, Version, are_good_container_rows, catalogue_defect, catalogue_in}
use Rattle.integrity_checks.proofs.Common.{containers_are_defective, containers_in, defect_of_contents}
use Rattle.integrity_checks.proofs.Common.{elements_are_defective, encoding, good_containers_in, good_housings_in}
use Rattle.integrity_checks.proofs.Common.{has_unread, is_good_housing, list_all, number_of_containers, or_parts}
use Rattle.integrity_checks.proofs.Common.{places_are_defective, read_container, read_housing, read_unit, units_are_bad}
use Rattle.integrity_checks.proofs.Common.{units_are_defective}

was_good : (bad : Bool) → not bad ≡ true → bad ≡ false
was_good true h = sym h
was_good false h = refl

was_bad : (bad : Bool) → not bad ≡ false → bad ≡ true
was_bad true h = refl
was_bad false h = sym h

module _ (v : Version) (db : Trees) where
  -- ---- the containers, and what lies in them

  cards : (u w g h : Bool) → not ((u || w) || not (g && h)) ≡ ((not u && g) && (not w && h))
  cards true w g h = refl
  cards false true true h = refl
  cards false true false h = refl
  cards false false true true = refl
  cards false false true false = refl
  cards false false false h = refl

  parted : not (containers_are_defective v db) ≡ (good_containers_in db && good_housings_in v db)
  parted =
      cards (has_unread read_container (db tables.container.tree)) (has_unread read_housing (db tables.housing.tree)) (are_good_container_rows (containers_in db))
      (list_all (is_good_housing (catalogue_in v db)) (catalogue_in v db).housings)

  numbered : (b : Bool) (n m : ℕ) → cond b (Some n) None ≡ Some m → (b ≡ true) × (n ≡ m)
  numbered true n m h = let same : n ≡ m = cc in (refl, same)
  numbered false n m h = absurd cc

  not_numbered : (b : Bool) (n : ℕ) → cond b (Some n) None ≡ None → b ≡ false
  not_numbered true n h = absurd cc
  not_numbered false n h = refl

  pub bad_containers : number_of_containers db ≡ None → false ≡ not (containers_are_defective v db)
  bad_containers none = sym (parted ∙ ap (λ b. b && good_housings_in v db) (not_numbered (good_containers_in db) (length (containers_in db)) none))

  pub counted : (n : ℕ) → number_of_containers db ≡ Some n → length (containers_in db) ≡ n
  counted n some = (numbered (good_containers_in db) (length (containers_in db)) n some).1

  pub rest_of_containers : (n : ℕ) → number_of_containers db ≡ Some n
      → good_housings_in v db ≡ not (containers_are_defective v db)
  rest_of_containers n some =
      sym (parted ∙ ap (λ b. b && good_housings_in v db) (numbered (good_containers_in db) (length (containers_in db)) n some).0)

  -- ---- elements, and then containers

  pub bad_elements : not (elements_are_defective v db) ≡ false → Some Elements ≡ defect_of_contents v db
  bad_elements h = sym (ap (λ b. cond b (Some Elements) (cond (containers_are_defective v db) (Some Containers) None)) (was_bad (elements_are_defective v db) h))

  pub bad_containment : not (elements_are_defective v db) ≡ true → not (containers_are_defective v db) ≡ false
      → Some Containers ≡ defect_of_contents v db
  bad_containment h k =
      sym (ap (λ b. cond b (Some Elements) (cond (containers_are_defective v db) (Some Containers) None)) (was_good (elements_are_defective v db) h)
      ∙ ap (λ b. cond b (Some Containers) None) (was_bad (containers_are_defective v db) k))

  pub no_defect : not (elements_are_defective v db) ≡ true → not (containers_are_defective v db) ≡ true
      → None ≡ defect_of_contents v db
  no_defect h k =
      sym (ap (λ b. cond b (Some Elements) (cond (containers_are_defective v db) (Some Containers) None)) (was_good (elements_are_defective v db) h)
      ∙ ap (λ b. cond b (Some Containers) None) (was_good (containers_are_defective v db) k))

  module _ (next : ℕ) where
    abbrev after_places : Option CatalogueDefect
    after_places = cond (units_are_defective v next db) (Some Units) (defect_of_contents v db)

    pub bad_places : places_are_defective (encoding v) db ≡ true → Some Places ≡ catalogue_defect v next db
    bad_places h = sym (ap (λ b. cond b (Some Places) after_places) h)

    pub bad_units : places_are_defective (encoding v) db ≡ false → not (units_are_defective v next db) ≡ false
        → Some Units ≡ catalogue_defect v next db
    bad_units h k = sym (ap (λ b. cond b (Some Places) after_places) h ∙ ap (λ b. cond b (Some Units) (defect_of_contents v db)) (was_bad (units_are_defective v next db) k))

    pub good_units : places_are_defective (encoding v) db ≡ false → not (units_are_defective v next db) ≡ true
        → defect_of_contents v db ≡ catalogue_defect v next db
    good_units h k = sym (ap (λ b. cond b (Some Places) after_places) h ∙ ap (λ b. cond b (Some Units) (defect_of_contents v db)) (was_good (units_are_defective v next db) k))

    pub units_are_read : not (units_are_defective v next db) ≡ true → has_unread read_unit (db tables.unit.tree) ≡ false
    units_are_read k = (or_parts (has_unread read_unit (db tables.unit.tree)) (units_are_bad next (catalogue_in v db)) (was_good (units_are_defective v next db) k)).0
