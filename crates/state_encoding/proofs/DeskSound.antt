-- Rows with none of the causes 6 to 10 say a sound desk, which shows just those rows.
use Rattle.state_encoding.proofs.Common.{OfficeRows, PassingRowsAreSound, Version, are_good_holdings, are_good_orders}
use Rattle.state_encoding.proofs.Common.{are_good_readers, are_good_runs, around}
use Rattle.state_encoding.proofs.DeskParts.{reader_parts, orders_parts, not_bad}
use Rattle.state_encoding.proofs.SaidReaders.{said_readers, reader_days, readers_again, said_seats, seats_again}
use Rattle.state_encoding.proofs.SaidReaders.{said_permits, permit_days, permits_placed, permits_again}
use Rattle.state_encoding.proofs.SaidOrders.{holding_parts, said_filed, orders_again}
use Rattle.state_encoding.proofs.SaidPlaces.{said_orders, order_days, said_places, holdings_again}
use Rattle.state_encoding.proofs.SaidRuns.{run_parts, said_runs, run_days, runs_again, lines_again}

pub desk_sound : (version : Version) (t : OfficeRows) → PassingRowsAreSound version t
desk_sound version t c h =
    let k = h.keys in
    let r = reader_parts t (not_bad (are_good_readers (around t) t.desk) h.causes.readers) in
    let o = orders_parts t (not_bad (are_good_orders (around t) t.desk) h.causes.orders) in
    let q = holding_parts t k o (not_bad (are_good_holdings (around t) t.desk) h.causes.holdings) in
    let p = run_parts t (not_bad (are_good_runs (around t) t.desk) h.causes.runs) in
    record {
      desk = record {
        boxes = c.apart;
        filed = said_filed t k o q;
        orders = said_orders t r o c;
        seats = said_seats t k r;
        places = said_places t k q c h.causes.day;
        runs = said_runs t k o p;
        readers = said_readers t k r;
        permits = said_permits t k r;
      };
      days = record { readers = reader_days t k r; orders = order_days t r o c; runs = run_days t k o p; permits = permit_days t k r };
      permits = permits_placed t k r c.placed;
      rows = record {
        readers = readers_again t k r;
        seats = seats_again t k r;
        orders = orders_again t k o q;
        holdings = holdings_again t k q c;
        runs = runs_again t k o p;
        run_lines = lines_again t k o p;
        permits = permits_again t k r;
      };
    }
