use Rattle.std.proofs.Common.{refl}
use Rattle.office_tables.proofs.KnownStatements.{known_change}
use Rattle.nested_sets.proofs.SpanWrites.{insert_span_means}
use Rattle.hierarchy_tests.proofs.spans.put_all.Goals as goal

pub change-requires : goal.change-requires
change-requires g c = known_change insert_span_means refl
