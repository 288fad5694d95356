use Rattle.std.proofs.Common.{◌≡◌, ◌+◌, true, false, [], Some, None, ap, arith, sym, ◌∙◌}
use Rattle.csv_import.proofs.Common.{depth_under, get_by_text}
use Rattle.csv_import.proofs.FoundPaths.{depth_here, read_depth}
use Rattle.csv_import.proofs.KnownUnits.{parent_here}
use Rattle.csv_import.proofs.Planned.{knows_parent}
use Rattle.csv_import.proofs.Tellings.{tells_of}
use Rattle.csv_import.proofs.row_plan.depth_of.Goals as goal

pub returns-then-is_empty : goal.returns-then-is_empty
returns-then-is_empty g c =
    let p = c.in-Some.parent in
    let below = get_by_text c.args.depths.now in
    let none : below p ≡ None = ap below (sym c.as_str.ensures) ∙ sym c.in_default-get.ensures.value in
    record {
      answers = tells_of c.in_ok-path.ensures.answers (λ o k it ids good source told above knows.
          let are = ids good source p (c.kept_number.ensures ∙ parent_here k source (get_by_text c.args.catalogued.now) c.in-Some.is told) in
          let deep = read_depth k.forest source p c.in_ok-path.path.len true are (omega arith) (sym c.if-is_empty.ensures) in
          (depth_here k.forest source p above below knows none deep c.in-Some.is, knows));
    }

pub returns : goal.returns
returns g c =
    let p = c.in-Some.parent in
    let below = get_by_text c.args.depths.now in
    let none : below p ≡ None = ap below (sym c.as_str.ensures) ∙ sym c.in_default-get.ensures.value in
    let depth = c.len.result + 1 in
    record {
      answers = tells_of c.in_ok-path.ensures.answers (λ o k it ids good source told above knows.
          let are = ids good source p (c.kept_number.ensures ∙ parent_here k source (get_by_text c.args.catalogued.now) c.in-Some.is told) in
          let found = read_depth k.forest source p c.in_ok-path.path.len false are (omega arith) (sym c.if-is_empty.ensures) in
          let deep : depth_under k.forest source (Some p) [] ≡ Some depth = found ∙ ap Some (omega arith) in (
            depth_here k.forest source p above below knows none deep c.in-Some.is,
            knows_parent k.forest source above below (get_by_text c.remember.new.kept) p depth knows none deep c.in_ok-remember.ensures,
          ));
    }
