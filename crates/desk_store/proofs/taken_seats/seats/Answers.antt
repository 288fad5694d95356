use Rattle.std.proofs.Common.{map, ap, subst, ◌∙◌}
use Rattle.desk_store.proofs.Common.{IfOk-weaker, IsPermutation, answered, caused, kept_all, known_query, only_order}
use Rattle.desk_store.proofs.Common.{state}
use Rattle.desk_store.proofs.SeatRows.{seats_means, seats_finds, seats_faults, taken, by_seat, by_seat_total}
use Rattle.desk_store.proofs.taken_seats.seats.Goals as goal

pub find-requires : goal.find-requires
find-requires g c = known_query (seats_means g.P.Versioned.version)

pub returns : goal.returns
returns g c =
    let old = state g.S.Store c.args.tables.now in
    let new = state g.S.Store c.find.new.tables in
    record {
      answers = record {
        call = record {
          answers = λ clean beside d shown.
              answered old c.find.result _ (c.find.ensures.ran clean) (λ ran. IfOk-weaker c.find.result _ _ (λ all it. it.2 ∙ ap (map taken) (only_order by_seat by_seat_total d.seats it.0 shown.seats_rise it.1.1 (subst (λ l. IsPermutation l it.0) (kept_all d.seats) it.1.0)))
              (seats_finds old new g.P.Versioned.version ran.0 d.seats shown.seats (λ found. found.items) c.find.result ran.1));
          looks = c.find.ensures.reads.looks;
          aborts = c.find.ensures.reads.aborts;
          faults = λ beside d shown may kept clean free.
              caused old new c.find.result (c.find.ensures.ran clean) (λ ran. seats_faults old new g.P.Versioned.version ran.0 d.seats shown.seats (λ found. found.items) c.find.result kept.seats free ran.2);
        };
        spares = c.find.ensures.reads.spares;
      };
    }
