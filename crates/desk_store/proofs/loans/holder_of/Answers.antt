use Rattle.desk_store.proofs.loans.holder_of.Goals as goal

pub returns : goal.returns
returns g c =
    record {
      answers = record {
        call = record {
          answers = λ clean beside d shown. c.find_ticket.ensures.answers clean d.orders shown.orders shown.order_numbers;
          looks = c.find_ticket.ensures.reads.looks;
          aborts = c.find_ticket.ensures.reads.aborts;
          faults = λ beside d shown may kept. c.find_ticket.ensures.faults d.orders shown.orders tt;
        };
        spares = c.find_ticket.ensures.reads.spares;
      };
    }
