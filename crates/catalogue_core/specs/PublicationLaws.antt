-- What is published of a unit is exactly what the forest that the public may know contains.
use Rattle.std.specs.Prelude.{ℤ}
use Rattle.tree_core.specs.Forest.{Forest, nodes}
use Rattle.catalogue_core.specs.Units.{Unit}
use Rattle.catalogue_core.specs.ContainerContents.{paths}
use Rattle.catalogue_core.specs.Members.{StandsIn}
use Rattle.catalogue_core.specs.PublicForest.{PublicUnit, public_of}
use Rattle.catalogue_core.specs.PublishedUnits.{IsPublished}

-- What is published of a unit, by the drafts and closures on its path, is in the forest that the public may know.
abbrev pub PublishedInPublic : Type 0
PublishedInPublic = (day : ℤ) (f : Forest Unit) (told : PublicUnit) →
    IsPublished day (paths f) told → StandsIn told (nodes (public_of day f))

-- What is in the forest that the public may know is published of a unit, by the drafts and closures on its path.
abbrev pub PublicIsPublished : Type 0
PublicIsPublished = (day : ℤ) (f : Forest Unit) (told : PublicUnit) →
    StandsIn told (nodes (public_of day f)) → IsPublished day (paths f) told
