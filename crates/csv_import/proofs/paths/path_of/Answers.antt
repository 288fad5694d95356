use Rattle.std.proofs.Common.{map, sym, ap, ◌∙◌}
use Rattle.std.specs.Prelude.{nat_eq}
use Rattle.catalogue_core.proofs.EachOf.{none_found}
use Rattle.csv_import.proofs.Common.{Unit, as_answers, each, is_from, looks_nowhere, nodes, path}
use Rattle.csv_import.proofs.FoundPaths.{none_path, path_by_number}
use Rattle.csv_import.proofs.OneRow.{is_found, none_there}
use Rattle.csv_import.proofs.Tellings.{told_last, tells_so}
use Rattle.csv_import.proofs.paths.path_of.Goals as goal

pub returns-in_default : goal.returns-in_default
returns-in_default g c =
    record {
      answers = tells_so looks_nowhere (λ clean o k it good source legacy is.
          c.new.ensures.items
          ∙ sym (ap (map (λ (unit : Unit). unit.id)) (none_path (is_from source legacy) k.forest (none_found (is_from source legacy) (nodes k.forest) (none_there k source legacy (sym is ∙ c.in_default.is))))));
    }

pub returns : goal.returns
returns g c =
    record {
      answers = told_last (λ _ _. tt) (λ _ k. each (λ (unit : Unit). unit.id) k.forest) (as_answers c.path.ensures.answers) looks_nowhere
          (record {
            shown = λ clean o k it. it.shown;
            allowed = λ clean o k it may kept. (tt, kept.places);
          })
          (λ clean o k it ids is_path good source legacy is.
          let found = is_found k source legacy c.in-Some.unit good (sym is ∙ c.in-Some.is) in
          is_path ∙ (ap (λ n. path (nat_eq n) (each (λ (unit : Unit). unit.id) k.forest)) (sym found.number) ∙ path_by_number k source legacy found.unit good found.by_source));
    }
