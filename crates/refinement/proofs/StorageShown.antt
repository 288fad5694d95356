-- The desk of a state beside its containers, as the tables show them.
use Rattle.std.proofs.Common.{◌≡◌, ℕ, suc, ◌+◌, nat_eq, List, [], ◌∷◌, length, refl, sym, ap, subst, ◌∙◌, arith}
use Rattle.isad_core.specs.LegibleValues.{IsLegibleBox}
use Rattle.isad_core.specs.declared.values.BoxKey.{BoxKey}
use Rattle.catalogue_statements.specs.Rows.{counted_from}
use Rattle.desk_store.specs.Storage.{IsLegibleStorage, RepresentsQueues, Storage, container_with}
use Rattle.office_core.specs.State.{State}
use Rattle.refinement.proofs.Common.{AllByRecursion, AreCountedFrom, Database, Forest, IsSoundOffice, RepresentsState}
use Rattle.refinement.proofs.Common.{Trees, Version, desk_legible, find, is_container, is_some, is_some-map}
use Rattle.refinement.proofs.Common.{length-rows, nth, option_map, rows_from, tables}
use Rattle.refinement.proofs.RowsOfLists.{found_row}

abbrev pub storage_of : Version → State → Storage
storage_of version s = record { containers = counted_from 1 s.catalogue.containers; desk = (tables version s).desk }

abbrev under : ℕ → BoxKey → ℕ × BoxKey
under n box = (n, box)

counted_rows : (n : ℕ) (boxes : List BoxKey) → counted_from n boxes ≡ rows_from under n boxes
counted_rows n [] = refl
counted_rows n (box ∷ boxes) = let e : n + 1 ≡ suc n = omega arith in ap (λ k. under n box ∷ counted_from k boxes) e ∙ ap (λ l. under n box ∷ l) (counted_rows (suc n) boxes)

rows_counted : (n : ℕ) (boxes : List BoxKey) → AreCountedFrom (λ (b : ℕ × BoxKey). b.0) n (rows_from under n boxes)
rows_counted n [] = tt
rows_counted n (box ∷ boxes) = (refl, rows_counted (suc n) boxes)

rows_legible : (n : ℕ) (boxes : List BoxKey) → AllByRecursion IsLegibleBox boxes
    → AllByRecursion (λ (b : ℕ × BoxKey). IsLegibleBox b.1) (rows_from under n boxes)
rows_legible n [] h = tt
rows_legible n (box ∷ boxes) h = (h.0, rows_legible (suc n) boxes h.1)

module _ (version : Version) (s : State) where
  pub shows_storage : (places : Trees → Forest ℕ → Type 0) (db : Database) → IsSoundOffice s
      → RepresentsState places version db s → RepresentsQueues db tt (storage_of version s)
  shows_storage places db sound it =
      let known = s.catalogue.containers in
      record {
        containers = it.catalogue.catalogue.containers;
        numbers = subst (AreCountedFrom (λ (b : ℕ × BoxKey). b.0) 1) (sym (counted_rows 1 known)) (rows_counted 1 known);
        few = let many = ap length (counted_rows 1 known) ∙ length-rows under 1 known in let few = sound.sound.containers.few in omega (arith, many, few);
        desk = it.desk;
      }

  pub legible_storage : IsSoundOffice s → IsLegibleStorage (storage_of version s)
  legible_storage sound =
      let known = s.catalogue.containers in
      record {
        containers = subst (AllByRecursion (λ (b : ℕ × BoxKey). IsLegibleBox b.1)) (sym (counted_rows 1 known)) (rows_legible 1 known sound.texts.catalogue.containers);
        desk = desk_legible version s sound;
      }

  -- the row of a container has what is written on it
  pub box_row : (c : ℕ) → container_with c (storage_of version s) ≡ option_map (under c) (nth s.catalogue.containers c)
  box_row c =
      ap (find (λ (b : ℕ × BoxKey). nat_eq c b.0)) (counted_rows 1 s.catalogue.containers)
      ∙ found_row under (λ (b : ℕ × BoxKey). b.0) (λ n x. refl) c s.catalogue.containers

  pub has_container : (c : ℕ) → is_some (container_with c (storage_of version s)) ≡ is_container s c
  has_container c = ap is_some (box_row c) ∙ is_some-map (under c) (nth s.catalogue.containers c)
