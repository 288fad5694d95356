use Rattle.desk_store.proofs.container_labels.box_of.Goals as goal

pub returns : goal.returns
returns g c =
    record {
      answers = record {
        call = record {
          answers = λ clean beside s shown. c.find_box.ensures.answers clean s.containers shown.containers shown.numbers;
          looks = c.find_box.ensures.reads.looks;
          aborts = c.find_box.ensures.reads.aborts;
          faults = λ beside s shown may kept. c.find_box.ensures.faults s.containers shown.containers kept.containers;
        };
        spares = c.find_box.ensures.reads.spares;
      };
    }
