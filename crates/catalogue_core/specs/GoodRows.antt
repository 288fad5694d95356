-- Rows with a description that a unit may have.
use Rattle.std.specs.Prelude.{◌≡◌, ◌≤◌, true, false, length}
use Rattle.std.specs.List.{list_all, AllByRecursion}
use Rattle.isad_core.specs.Boxes.{distinct}
use Rattle.isad_core.specs.Limits.{most_bytes}
use Rattle.isad_core.specs.Texts.{is_blank_text}
use Rattle.isad_core.specs.declared.values.BoxKey.{BoxKey}
use Rattle.atom_csv.specs.declared.file.Row.{Row}
use Rattle.catalogue_core.specs.GoodCatalogues.{is_good_text}

pub record IsGoodRow (row : Row) : Type 0 where
  pub legacy : is_blank_text row.legacy ≡ false
  pub legacy_short : length row.legacy ≤ most_bytes
  pub level_short : length row.values.level ≤ most_bytes
  pub texts : list_all is_good_text row.values.texts ≡ true
  pub texts_count : length row.values.texts ≡ 25
  pub named : AllByRecursion (λ (b : BoxKey). is_blank_text b.name ≡ false) row.values.boxes
  pub apart : distinct row.values.boxes ≡ row.values.boxes
