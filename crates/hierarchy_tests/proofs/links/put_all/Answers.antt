use Rattle.std.proofs.Common.{refl}
use Rattle.office_tables.proofs.KnownStatements.{known_change}
use Rattle.catalogue_statements.proofs.LinkWrites.{insert_link_means}
use Rattle.hierarchy_tests.proofs.links.put_all.Goals as goal

pub change-requires : goal.change-requires
change-requires g c = known_change insert_link_means refl
