-- What the public is shown is part of what the public may know.
use Rattle.isad_core.specs.declared.display.Shown.{Shown}
use Rattle.tree_core.specs.Forest.{nodes}
use Rattle.catalogue_core.specs.ContainerContents.{paths}
use Rattle.catalogue_core.specs.Members.{StandsIn}
use Rattle.catalogue_core.specs.PublicForest.{PublicUnit}
use Rattle.catalogue_core.specs.PublishedUnits.{IsPublished}
use Rattle.office_core.specs.State.{State}
use Rattle.office_core.specs.Queries.{public_forest}
use Rattle.office_core.specs.Secrecy.{ShowsPublished}

-- Each unit that an answer to the public prints is part of what the public may know. This part contains exactly the
-- units that are published, by the drafts and closures of their paths.
pub record ShowsThePublic (s : State) : Type 0 where
  pub shown : (shown : Shown) (it : ShowsPublished s shown) → StandsIn it.told (nodes (public_forest s))
  pub published : (told : PublicUnit) → IsPublished s.day (paths s.catalogue.forest) told → StandsIn told (nodes (public_forest s))
  pub public : (told : PublicUnit) → StandsIn told (nodes (public_forest s)) → IsPublished s.day (paths s.catalogue.forest) told
