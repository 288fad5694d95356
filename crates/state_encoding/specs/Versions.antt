-- The tables of version 2.
use Rattle.tree_core.specs.Forest.{each}
use Rattle.tree_core.specs.Spans.{spans_from}
use Rattle.office_tables.specs.Versions.{Second, version_number}
use Rattle.catalogue_core.specs.CatalogueRows.{SpanRows}
use Rattle.office_core.specs.State.{State}
use Rattle.state_encoding.specs.OfficeRows.{OfficeRows, unit_number}

-- the state's tables of one version, with the version and the places of version 2
abbrev pub with_spans : State → OfficeRows → OfficeRows
with_spans s t =
    record t {
      office = record t.office { version = version_number Second };
      catalogue = record t.catalogue { places = SpanRows (spans_from 1 (each unit_number s.catalogue.forest)) };
    }
