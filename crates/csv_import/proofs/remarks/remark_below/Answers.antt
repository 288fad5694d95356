use Rattle.std.proofs.Common.{ap, ◌∙◌}
use Rattle.csv_import.proofs.Common.{rank_of}
use Rattle.csv_import.proofs.Remarked.{remarked_by}
use Rattle.csv_import.proofs.Tellings.{tells_of}
use Rattle.csv_import.proofs.remarks.remark_below.Goals as goal

pub returns-then-is_above : goal.returns-then-is_above
returns-then-is_above g c =
    record {
      answers = tells_of c.in_ok-above.ensures.answers (λ o k it told ranked. (
        (told ranked).1,
        λ unit is. remarked_by c.args.row.now.row c.is_above.ensures (c.rank.ensures ∙ ap rank_of c.as_str.ensures) ((told ranked).0 unit is) c.if-is_above.true,
      ));
    }

pub returns : goal.returns
returns g c =
    record {
      answers = tells_of c.in_ok-above.ensures.answers (λ o k it told ranked. (
        (told ranked).1,
        λ unit is. remarked_by c.args.row.now.row c.is_above.ensures (c.rank.ensures ∙ ap rank_of c.as_str.ensures) ((told ranked).0 unit is) c.if-is_above.false,
      ));
    }
