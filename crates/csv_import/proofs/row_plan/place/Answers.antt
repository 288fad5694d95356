use Rattle.std.proofs.Common.{Bool, ap, cond, sym, ◌∙◌}
use Rattle.csv_import.specs.declared.row_plan.Placing.TheVariants as placing
use Rattle.csv_import.proofs.Common.{at_depth, depth_under, looks_nowhere}
use Rattle.csv_import.proofs.KnownUnits.{known_here, new_here}
use Rattle.csv_import.proofs.Tellings.{tells_of, tells_so}
use Rattle.csv_import.proofs.row_plan.place.Goals as goal

pub returns-then-is_some : goal.returns-then-is_some
returns-then-is_some g c =
    let row = c.args.row.now in
    record {
      answers = tells_so looks_nowhere (λ clean o k it good source told parent above knows.
          let there = known_here k source row (c.kept_number.ensures ∙ told) c.is_some.ensures c.if-is_some.true in
          (sym (ap (λ (b : Bool). cond b placing.Known (at_depth (depth_under k.forest source row.parent above))) there), knows));
    }

pub returns : goal.returns
returns g c =
    let row = c.args.row.now in
    record {
      answers = tells_of c.in_ok-depth.ensures.answers (λ o k it deep good source told parent above knows.
          let number = c.kept_number.ensures ∙ told in
          let new = known_here k source row number c.is_some.ensures c.if-is_some.false in
          let depth = deep good source (parent (new_here k source row number c.is_some.ensures c.if-is_some.false)) above knows in
          (c.placing_at.ensures ∙ (ap at_depth depth.0 ∙ sym (ap (λ (b : Bool). cond b placing.Known (at_depth (depth_under k.forest source row.parent above))) new)), depth.1));
    }
