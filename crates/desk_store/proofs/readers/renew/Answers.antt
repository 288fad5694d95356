use Rattle.std.proofs.Common.{sym, subst, ◌≤◌, length, ◌∷◌, []}
use Rattle.office_tables.specs.Schema as tables
use Rattle.desk_store.proofs.Common.{ReaderRow, counted_again, le_refl, length-map, most_tickets, on_ok_then, state}
use Rattle.desk_store.proofs.Common.{untouched_last}
use Rattle.desk_store.proofs.Frames.{with_readers}
use Rattle.desk_store.proofs.ReaderRows.{same_tickets}
use Rattle.desk_store.proofs.readers.renew.Goals as goal

pub returns : goal.returns
returns g c =
    let new = state g.S.Store c.set_last_day.new.tables in
    record {
      updates = record {
        call = record {
          represents_updated = λ clean beside d shown may. on_ok_then c.set_last_day.result _ _ (λ has.
              with_readers (state g.S.Store c.args.tables.now).now new.now d shown _ has.only has.are
              (counted_again (λ (r : ReaderRow). r.ticket) 1 _ (same_tickets c.args.ticket c.args.until) d.readers shown.tickets)
              (subst (λ n. n ≤ most_tickets) (sym (length-map d.readers _)) shown.few_tickets) (subst (λ n. length d.readers ≤ n) (sym (length-map d.readers _)) (le_refl _))) (c.set_last_day.ensures.rows clean d.readers shown.readers shown.tickets);
          only = c.set_last_day.ensures.only;
          goes = c.set_last_day.ensures.leaves.goes;
          aborts = c.set_last_day.ensures.leaves.aborts;
          faults = λ beside d shown may kept. c.set_last_day.ensures.faults d.readers shown.readers shown.tickets;
        };
        spares = λ clean. untouched_last (tables.reader.tree ∷ []) (state g.S.Store c.args.tables.now) (state g.S.Store c.set_last_day.new.tables) c.set_last_day.result (c.set_last_day.ensures.leaves.spares clean);
      };
    }
