-- The columns that are read, and the elements of a description that they contain (ISAD(G), second edition, 3.1 to 3.7).
use Rattle.std.specs.Prelude.{Bool, true, false, List, [], ◌∷◌, ◌++◌, codes}
use Rattle.std.specs.List.{flat_map}
use Rattle.isad_core.specs.Texts.{Bytes}
use Rattle.isad_core.specs.Elements.{elements}
use Rattle.isad_core.specs.declared.element.Element.{Element}
use Rattle.isad_core.specs.declared.element.Element.TheVariants as element
use Rattle.atom_csv.specs.declared.column.Column.{Column}
use Rattle.atom_csv.specs.declared.column.Column.TheVariants as column

-- the columns of an element, in the order in which their entries are joined
abbrev pub columns_of : Element → List Column
columns_of element.ReferenceCode = column.Identifier ∷ []
columns_of element.Title = column.Title ∷ []
columns_of element.Dates = column.EventDates ∷ []
columns_of element.Level = column.LevelOfDescription ∷ []
columns_of element.Extent = column.ExtentAndMedium ∷ []
columns_of element.Creator = column.EventActors ∷ []
columns_of element.CreatorHistory = column.EventActorHistories ∷ []
columns_of element.ArchivalHistory = column.ArchivalHistory ∷ []
columns_of element.Acquisition = column.Acquisition ∷ []
columns_of element.Scope = column.ScopeAndContent ∷ []
columns_of element.Appraisal = column.Appraisal ∷ []
columns_of element.Accruals = column.Accruals ∷ []
columns_of element.Arrangement = column.Arrangement ∷ []
columns_of element.Access = column.AccessConditions ∷ []
columns_of element.Reproduction = column.ReproductionConditions ∷ []
columns_of element.Language = column.Language ∷ column.Script ∷ []
columns_of element.Physical = column.PhysicalCharacteristics ∷ []
columns_of element.FindingAids = column.FindingAids ∷ []
columns_of element.Originals = column.LocationOfOriginals ∷ []
columns_of element.Copies = column.LocationOfCopies ∷ []
columns_of element.RelatedUnits = column.RelatedUnitsOfDescription ∷ []
columns_of element.PublicationNote = column.PublicationNote ∷ []
columns_of element.Note = column.GeneralNote ∷ []
columns_of element.ArchivistsNote = column.ArchivistNote ∷ []
columns_of element.Rules = column.Rules ∷ []
columns_of element.DescriptionDates = column.RevisionHistory ∷ []

-- the columns about the row itself and about its containers
abbrev pub other_columns : List Column
other_columns = column.LegacyId ∷ column.ParentId ∷ column.QubitParentSlug ∷ column.PublicationStatus
    ∷ column.Culture ∷ column.PhysicalObjectName ∷ column.PhysicalObjectLocation
    ∷ column.PhysicalObjectType ∷ []

-- every column that is read
unfoldable pub columns : List Column
columns = other_columns ++ flat_map columns_of elements

-- its name in the header
abbrev pub column_name : Column → Bytes
column_name column.LegacyId = codes "legacyId"
column_name column.ParentId = codes "parentId"
column_name column.QubitParentSlug = codes "qubitParentSlug"
column_name column.PublicationStatus = codes "publicationStatus"
column_name column.Culture = codes "culture"
column_name column.PhysicalObjectName = codes "physicalObjectName"
column_name column.PhysicalObjectLocation = codes "physicalObjectLocation"
column_name column.PhysicalObjectType = codes "physicalObjectType"
column_name column.Identifier = codes "identifier"
column_name column.Title = codes "title"
column_name column.EventDates = codes "eventDates"
column_name column.LevelOfDescription = codes "levelOfDescription"
column_name column.ExtentAndMedium = codes "extentAndMedium"
column_name column.EventActors = codes "eventActors"
column_name column.EventActorHistories = codes "eventActorHistories"
column_name column.ArchivalHistory = codes "archivalHistory"
column_name column.Acquisition = codes "acquisition"
column_name column.ScopeAndContent = codes "scopeAndContent"
column_name column.Appraisal = codes "appraisal"
column_name column.Accruals = codes "accruals"
column_name column.Arrangement = codes "arrangement"
column_name column.AccessConditions = codes "accessConditions"
column_name column.ReproductionConditions = codes "reproductionConditions"
column_name column.Language = codes "language"
column_name column.Script = codes "script"
column_name column.PhysicalCharacteristics = codes "physicalCharacteristics"
column_name column.FindingAids = codes "findingAids"
column_name column.LocationOfOriginals = codes "locationOfOriginals"
column_name column.LocationOfCopies = codes "locationOfCopies"
column_name column.RelatedUnitsOfDescription = codes "relatedUnitsOfDescription"
column_name column.PublicationNote = codes "publicationNote"
column_name column.GeneralNote = codes "generalNote"
column_name column.ArchivistNote = codes "archivistNote"
column_name column.Rules = codes "rules"
column_name column.RevisionHistory = codes "revisionHistory"

-- whether it contains several entries, separated by bars; the other columns contain one text
abbrev pub is_split : Column → Bool
is_split column.EventDates = true
is_split column.EventActors = true
is_split column.EventActorHistories = true
is_split column.Language = true
is_split column.Script = true
is_split column.PhysicalObjectName = true
is_split column.PhysicalObjectLocation = true
is_split column.PhysicalObjectType = true
is_split _ = false
