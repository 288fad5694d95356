use Rattle.std.proofs.Common.{◌≡◌, [], None, ap, sym, ◌∙◌}
use Rattle.csv_import.proofs.Common.{get_by_text, option_and_then, or_there, parent_number}
use Rattle.csv_import.proofs.KnownUnits.{parent_here}
use Rattle.csv_import.proofs.arrivals.parent_of.Goals as goal

pub returns : goal.returns
returns c = record {
  answers = λ k source told next above knows.
      let p = c.in-Some.parent in
      let none : get_by_text c.args.numbers.now p ≡ None = ap (get_by_text c.args.numbers.now) (sym c.as_str.ensures) ∙ sym c.in_default-get.ensures.value in
      c.kept_number.ensures
      ∙ (parent_here k source (get_by_text c.args.catalogued.now) c.in-Some.is told
      ∙ (sym (knows p ∙ ap (λ o. or_there o (parent_number k.forest source next [] p)) none)
      ∙ sym (ap (option_and_then (parent_number k.forest source next above)) c.in-Some.is)));
}
