-- What a file means, column by column and record by record. The expected results were written by hand.
use Rattle.std.specs.Prelude.{◌≡◌, true, false, List, [], ◌∷◌, map, filter, replicate, Some, None, Err, codes}
use Rattle.isad_core.specs.Texts.{Bytes}
use Rattle.atom_csv.specs.Columns.{columns, column_name, is_split}
use Rattle.atom_csv.specs.Entries.{entries, nonblank_entries, entries_joined}
use Rattle.atom_csv.specs.Fields.{Fields, trimmed}
use Rattle.atom_csv.specs.FileContents.{differ, file_of, header_causes, lowest, records_of, row_causes, rows}
use Rattle.atom_csv.specs.FileContents.{translations}
use Rattle.atom_csv.specs.Values.{boxes_of}
use Rattle.atom_csv.specs.declared.cause.Cause.TheVariants.{NoLegacyId, HeaderTwice, FieldCount, BlankLegacyId}
use Rattle.atom_csv.specs.declared.cause.Cause.TheVariants.{Repeated, Slug, TooManyRows, TooLong}
use Rattle.atom_csv.specs.declared.column.Column.{Column}
use Rattle.atom_csv.specs.declared.column.Column.TheVariants as column
use Rattle.atom_csv.specs.KnownContainers.{box_with}

-- ---- columns

abbrev pub column_names : List Bytes
column_names = codes "legacyId" ∷ codes "parentId" ∷ codes "qubitParentSlug" ∷ codes "publicationStatus" ∷ codes "culture"
    ∷ codes "physicalObjectName" ∷ codes "physicalObjectLocation" ∷ codes "physicalObjectType"
    ∷ codes "identifier" ∷ codes "title" ∷ codes "eventDates" ∷ codes "levelOfDescription" ∷ codes "extentAndMedium"
    ∷ codes "eventActors" ∷ codes "eventActorHistories" ∷ codes "archivalHistory" ∷ codes "acquisition"
    ∷ codes "scopeAndContent" ∷ codes "appraisal" ∷ codes "accruals" ∷ codes "arrangement"
    ∷ codes "accessConditions" ∷ codes "reproductionConditions" ∷ codes "language" ∷ codes "script"
    ∷ codes "physicalCharacteristics" ∷ codes "findingAids"
    ∷ codes "locationOfOriginals" ∷ codes "locationOfCopies" ∷ codes "relatedUnitsOfDescription" ∷ codes "publicationNote"
    ∷ codes "generalNote" ∷ codes "archivistNote" ∷ codes "rules" ∷ codes "revisionHistory" ∷ []

abbrev pub split : List Column
split = column.PhysicalObjectName ∷ column.PhysicalObjectLocation ∷ column.PhysicalObjectType ∷ column.EventDates
    ∷ column.EventActors ∷ column.EventActorHistories ∷ column.Language ∷ column.Script ∷ []

pub record Columned : Type 0 where
  pub named : map column_name columns ≡ column_names
  pub several : filter is_split columns ≡ split
  pub blank_entries : entries (codes " a | NULL |null||b;c") ≡ codes "a" ∷ [] ∷ codes "null" ∷ [] ∷ codes "b;c" ∷ []
  pub joined_entries : entries_joined (nonblank_entries (codes "a" ∷ [] ∷ codes "b" ∷ codes "c" ∷ [])) ≡ codes "a; b; c"
  pub ends : trimmed (codes " \t a b \r\n") ≡ codes "a b"
  pub another_case : header_causes (codes "LegacyId" ∷ []) ≡ NoLegacyId ∷ []
  pub title_twice : header_causes (codes "title" ∷ codes "legacyId" ∷ codes "title" ∷ []) ≡ HeaderTwice ∷ []
  pub unread_twice : header_causes (codes "x" ∷ codes "legacyId" ∷ codes "x" ∷ []) ≡ []

-- ---- containers

-- a blank name between two others, and one container twice
pub record Boxed : Type 0 where
  pub boxes : boxes_of (codes "A|NULL|B|A|C") (codes "R1|R2|R3|R1") (codes "roll|file|box|roll")
      ≡ box_with (codes "A") (codes "R1") (codes "roll") ∷ box_with (codes "B") (codes "R3") (codes "box") ∷ box_with (codes "C") [] [] ∷ []

-- ---- records

abbrev pub header : Fields
header = codes "legacyId" ∷ codes "parentId" ∷ codes "qubitParentSlug" ∷ codes "publicationStatus" ∷ codes "culture" ∷ []

abbrev pub of_culture : Bytes → Bytes → Fields
of_culture id culture = id ∷ [] ∷ [] ∷ codes "Draft" ∷ culture ∷ []

abbrev pub row_with_status : Bytes → Bytes → Fields
row_with_status id status = id ∷ [] ∷ [] ∷ status ∷ [] ∷ []

abbrev pub row_below : (parent slug : Bytes) → Fields
row_below parent slug = codes "1" ∷ parent ∷ slug ∷ [] ∷ [] ∷ []

abbrev pub blank : Fields
blank = [] ∷ [] ∷ [] ∷ [] ∷ [] ∷ []

abbrev pub titled_header : Fields
titled_header = codes "legacyId" ∷ codes "title" ∷ []

pub record Recorded : Type 0 where
  pub numbers : map (λ row. row.row) (rows header (of_culture (codes "1") [] ∷ blank ∷ of_culture (codes "2") [] ∷ []))
      ≡ 2 ∷ 4 ∷ []
  pub published : map (λ row. row.published) (rows header (row_with_status (codes "1") (codes "PUBLISHED")
      ∷ row_with_status (codes "2") (codes "Draft") ∷ row_with_status (codes "3") [] ∷ []))
      ≡ true ∷ false ∷ false ∷ []
  pub told_again : map (λ row. row.row) (rows header (of_culture (codes "1") (codes "en")
      ∷ of_culture (codes "1") (codes "fr") ∷ of_culture (codes "2") (codes "fr") ∷ []))
      ≡ 2 ∷ 4 ∷ []
  pub counted : translations header (of_culture (codes "1") (codes "en") ∷ of_culture (codes "1") (codes "fr")
      ∷ of_culture (codes "2") (codes "fr") ∷ blank ∷ [])
      ≡ 1
  pub blank_first : differ [] (codes "fr") ≡ false
  pub blank_later : differ (codes "en") [] ≡ false
  pub same : differ (codes "en") (codes "en") ≡ false
  pub other : differ (codes "en") (codes "fr") ≡ true
  pub fewer : row_causes header (codes "1" ∷ []) None 2 ≡ FieldCount ∷ []
  pub more : row_causes header (codes "1" ∷ blank) None 2 ≡ FieldCount ∷ []
  pub no_id : row_causes header (row_with_status [] (codes "Draft")) None 2 ≡ BlankLegacyId ∷ []
  pub repeated : row_causes header (row_with_status (codes "1") []) (Some []) 2 ≡ Repeated ∷ []
  pub slug : row_causes header (row_below [] (codes "hull-docks")) None 2 ≡ Slug ∷ []
  pub slug_and_parent : row_causes header (row_below (codes "9") (codes "hull-docks")) None 2 ≡ []
  pub last_row : row_causes header (row_with_status (codes "1") []) None 20001 ≡ []
  pub late : row_causes header (row_with_status (codes "1") []) None 20002 ≡ TooManyRows ∷ []
  pub late_blank : row_causes header blank None 20002 ≡ TooManyRows ∷ []
  pub longest : row_causes titled_header (codes "1" ∷ replicate 65535 120 ∷ []) None 2 ≡ []
  pub too_long : row_causes titled_header (codes "1" ∷ replicate 65536 120 ∷ []) None 2 ≡ TooLong ∷ []
  pub several_causes : lowest (FieldCount ∷ Slug ∷ TooManyRows ∷ []) ≡ Some FieldCount
  pub mark : records_of (239 ∷ 187 ∷ 191 ∷ codes "legacyId\n 1 \n") ≡ (codes "legacyId" ∷ []) ∷ (codes "1" ∷ []) ∷ []
  pub no_text : file_of (255 ∷ []) ≡ Err (0, 1)
