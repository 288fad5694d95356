use Rattle.std.proofs.Common.{refl}
use Rattle.office_tables.proofs.KnownStatements.{known_change}
use Rattle.catalogue_statements.proofs.ContainerStatements.{insert_container_means}
use Rattle.catalogue_statements.proofs.ElementStatements.{insert_element_means}
use Rattle.catalogue_statements.proofs.HousingStatements.{insert_housing_means}
use Rattle.catalogue_statements.proofs.UnitFaults.{remove_unit_means}
use Rattle.catalogue_statements.proofs.UnitWrites.{insert_unit_means, set_level_means, set_draft_means, set_until_means}
use Rattle.hierarchy_tests.proofs.catalogues.put.Goals as goal

pub change-requires : goal.change-requires
change-requires g c = known_change (insert_unit_means g.P.Versioned.version) refl

pub change-requires-in-Gone : goal.change-requires-in-Gone
change-requires-in-Gone g c = known_change (remove_unit_means g.P.Versioned.version) refl

pub change-requires-in-Level : goal.change-requires-in-Level
change-requires-in-Level g c = known_change (set_level_means g.P.Versioned.version) refl

pub change-requires-in-Draft : goal.change-requires-in-Draft
change-requires-in-Draft g c = known_change (set_draft_means g.P.Versioned.version) refl

pub change-requires-in-Until : goal.change-requires-in-Until
change-requires-in-Until g c = known_change (set_until_means g.P.Versioned.version) refl

pub change-requires-in-Element : goal.change-requires-in-Element
change-requires-in-Element g c = known_change (insert_element_means g.P.Versioned.version) refl

pub change-requires-in-Container : goal.change-requires-in-Container
change-requires-in-Container g c = known_change (insert_container_means g.P.Versioned.version) refl

pub change-requires-in-Housing : goal.change-requires-in-Housing
change-requires-in-Housing g c = known_change (insert_housing_means g.P.Versioned.version) refl
