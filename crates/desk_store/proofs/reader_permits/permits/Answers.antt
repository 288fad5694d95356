use Rattle.std.proofs.Common.{sym, subst}
use Rattle.office_tables.specs.Schema as tables
use Rattle.desk_store.proofs.Common.{IfOk-weaker, IsOrdered, answered, by_permitted_unit, caused, known_query}
use Rattle.desk_store.proofs.Common.{permits_of, state}
use Rattle.desk_store.proofs.PermitCalls.{told_ordered}
use Rattle.desk_store.proofs.PermitRows.{permits_means, permits_finds, permits_faults}
use Rattle.desk_store.proofs.reader_permits.permits.Goals as goal

pub find-requires : goal.find-requires
find-requires g c = known_query (permits_means g.P.Versioned.version)

pub returns : goal.returns
returns g c =
    let old = state g.S.Store c.args.tables.now in
    let new = state g.S.Store c.find.new.tables in
    record {
      answers = record {
        call = record {
          answers = λ clean beside d shown.
              answered old c.find.result _ (rw c.cell.ensures at (c.find.ensures.ran clean)) (λ ran. IfOk-weaker c.find.result _ _ (λ all it. subst (IsOrdered by_permitted_unit (permits_of c.args.ticket d)) (sym it.2) (told_ordered c.args.ticket (old.now.trees tables.permit.tree) d.permits shown.permits it.0 it.1))
              (permits_finds old new c.args.ticket g.P.Versioned.version ran.0 d.permits shown.permits (λ found. found.items) c.find.result ran.1));
          looks = c.find.ensures.reads.looks;
          aborts = c.find.ensures.reads.aborts;
          faults = λ beside d shown may kept clean free.
              caused old new c.find.result (rw c.cell.ensures at (c.find.ensures.ran clean)) (λ ran. permits_faults old new c.args.ticket g.P.Versioned.version ran.0 d.permits shown.permits (λ found. found.items) c.find.result kept.permits free ran.2);
        };
        spares = c.find.ensures.reads.spares;
      };
    }
