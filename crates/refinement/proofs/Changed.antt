-- What the tables show after a change of the units or of their places.
use Rattle.std.proofs.Common.{◌≡◌, ℕ, true, List}
use Rattle.catalogue_core.specs.LegibleCatalogues.{IsLegibleCatalogue}
use Rattle.office_core.specs.State.{State}
use Rattle.refinement.proofs.Common.{AreTexts, Database, Forest, OnlyTouches, Represents, RepresentsState, Trees, Unit}
use Rattle.refinement.proofs.Common.{Version, office_of, tables}
use Rattle.refinement.proofs.Frames.{are_apart, desk_kept, desk_trees}

module _ (s : State) (f : Forest Unit) where
  abbrev pub with_forest : State
  with_forest = record s { catalogue = record s.catalogue { forest = f } }

  pub other_texts : AreTexts s → IsLegibleCatalogue (record s.catalogue { forest = f }) → AreTexts with_forest
  other_texts it legible = record { country = it.country; repo = it.repo; catalogue = legible; readers = it.readers }

  pub shown_with : (places : Trees → Forest ℕ → Type 0) (version : Version) (old new : Database) (touched : List ℕ)
      → are_apart touched desk_trees ≡ true → OnlyTouches touched old new → RepresentsState places version old s
      → IsLegibleCatalogue (record s.catalogue { forest = f })
      → Represents places version new (office_of s) (record s.catalogue { forest = f })
      → RepresentsState places version new with_forest
  shown_with places version old new touched apart only it legible shown = record {
    catalogue = shown;
    desk = desk_kept old new touched only (tables version s).desk apart it.desk;
    texts = other_texts it.texts legible;
  }
