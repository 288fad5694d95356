-- What a call leaves of the desk that touches the permits.
use Rattle.std.proofs.Common.{◌≡◌, ℕ, true, List, [], ◌∷◌, ◌∙◌}
use Rattle.desk_core.specs.DeskRows.{Desk}
use Rattle.office_tables.proofs.numbered.OwnNumbers.{still_numbered}
use Rattle.office_tables.specs.Permits.{permit_cells}
use Rattle.office_tables.specs.Schema as tables
use Rattle.desk_store.specs.Rows.{run_line_cells}
use Rattle.refinement.proofs.Common.{AllByRecursion, Database, HasNumbered, IsNumberOf, OnlyTouches, PermitRow}
use Rattle.refinement.proofs.Common.{RepresentsDesk}
use Rattle.refinement.proofs.Frames.{are_apart, untouched}

-- the trees of the desk's other tables
abbrev pub but_permits : List ℕ
but_permits = tables.reader.tree ∷ tables.seat.tree ∷ tables.orders.tree ∷ tables.holding.tree ∷ tables.run.tree ∷ tables.run_line.tree ∷ []

pub desk_with_permits : (old new : Database) (touched : List ℕ) → OnlyTouches touched old new
    → (d : Desk) (permits : List PermitRow) → are_apart touched but_permits ≡ true
    → HasNumbered permit_cells (new.trees tables.permit.tree) permits
    → AllByRecursion (λ (p : PermitRow). IsNumberOf d.readers p.ticket) permits → RepresentsDesk old.trees d
    → RepresentsDesk new.trees (record d { permits = permits })
desk_with_permits old new touched only d permits apart stored tickets it =
    let kept = untouched touched old new only but_permits apart in
    record {
      readers = kept.0 ∙ it.readers;
      tickets = it.tickets;
      few_tickets = it.few_tickets;
      seats = kept.1.0 ∙ it.seats;
      seats_rise = it.seats_rise;
      orders = kept.1.1.0 ∙ it.orders;
      order_numbers = it.order_numbers;
      few_orders = it.few_orders;
      holdings = kept.1.1.1.0 ∙ it.holdings;
      holdings_rise = it.holdings_rise;
      runs = kept.1.1.1.1.0 ∙ it.runs;
      run_numbers = it.run_numbers;
      few_runs = it.few_runs;
      run_lines = still_numbered run_line_cells (old.trees tables.run_line.tree) (new.trees tables.run_line.tree) d.run_lines kept.1.1.1.1.1.0 it.run_lines;
      line_runs = it.line_runs;
      permits = stored;
      permit_tickets = tickets;
    }
