use Rattle.std.proofs.Common.{◌∙◌}
use Rattle.csv_import.proofs.Common.{looks_nowhere}
use Rattle.csv_import.proofs.RightAbove.{below, remarked_top}
use Rattle.csv_import.proofs.Tellings.{tells_so, told_again}
use Rattle.csv_import.proofs.remarks.remark_on.Goals as goal

pub returns-in-Some : goal.returns-in-Some
returns-in-Some g c =
    record {
      answers = λ source.
          told_again c.remark_below.ensures.answers looks_nowhere
          (λ clean o k it has kept. (let up = below has c.in-Some.is in ((up.0, up.1), kept)))
          (λ clean o k it remark is ranked has. (let both = is ranked in let up = below has c.in-Some.is in (both.0, both.1 up.0 up.1 ∙ up.2)));
    }

pub returns-in-None : goal.returns-in-None
returns-in-None g c =
    record { answers = λ source. tells_so looks_nowhere (λ clean o k it ranked has. (ranked, c.remark_on_top.ensures ∙ remarked_top has c.in-None.is)) }
