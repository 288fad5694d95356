-- What a call returns about an office.
use Rattle.std.specs.Prelude.{length}
use Rattle.tree_core.specs.Forest.{size}
use Rattle.catalogue_core.specs.CatalogueMerge.{Catalogue}
use Rattle.office_tables.specs.RowCounts.{cap}
use Rattle.catalogue_statements.specs.declared.office.OfficeRow.{OfficeRow}
use Rattle.catalogue_store.specs.declared.office.Office.{Office}

-- its row, and how many units and containers there are, as SQL counts them: up to 2^63 - 1
abbrev pub office_with_counts : Catalogue → OfficeRow → Office
office_with_counts c o = record { row = o; units = cap (size c.forest); containers = cap (length c.containers) }
